-- From the calls that failed, one after another, to all of them. Assumes nothing.
use Rattle.std.proofs.Common.{List}
use Rattle.std.specs.List.{FoldsTo}
use Rattle.std.proofs.lemmas.Fn.{chained_keeps}

-- What each call that fails keeps, all of them keep.
pub all_keep :
    {F E : Type 0} (fails : F → E → F → Type 0) (kept : F → F → Type 0) → ((first : F) → kept first first) →
    ((first before after : F) (error : E) → kept first before → fails before error after → kept first after) →
    (errors : List E) (first last : F) → FoldsTo fails first errors last → kept first last
all_keep fails kept none more errors first last ran =
    chained_keeps fails (λ _ last. kept first last) (λ _ before error after k call. more first before after error k call) errors first last (none first) ran
