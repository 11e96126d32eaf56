-- What is known of a call that was made again as long as it failed.
--     Tried step first value last        the calls before it failed, and the last one answered the value
use Rattle.std.specs.Prelude.{List, Result, Ok, Err}
use Rattle.std.specs.List.{FoldsTo}

-- Calls that failed took the state from first to some other, and from there a call answered the value and left last.
abbrev pub Tried : {F T E : Type 0} → (F → Result T E → F → Type 0) → F → T → F → Type 0
Tried {F} {T} {E} step first value last =
    (errors : List E) × (before : F) × FoldsTo (λ p error q. step p (Err error) q) first errors before × step before (Ok value) last
