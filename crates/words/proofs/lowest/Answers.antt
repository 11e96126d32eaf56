-- `lowest` meets its contract: the first number below 64 whose place is what is sought is the lowest place.
use Rattle.std.proofs.Common.{ℕ, ◌≡◌, true, false, rules}
use Rattle.std.proofs.lemmas.Iterator.{first_from_Range}
use Rattle.dispatcher.specs.Answer.{is_sought}
use Rattle.words.specs.Record.{place_in}
use Rattle.words.proofs.Standing.{lowest_at}
use Rattle.words.proofs.lowest.Goals as goal

pub returns : goal.returns
returns c =
    let a = c.args in
    lowest_at (is_sought a.sought) a.words.now _
    (first_from_Range _ _ _ _ (λ (k : ℕ). is_sought a.sought (place_in a.words.now k).held ≡ true)
    (λ (k : ℕ). is_sought a.sought (place_in a.words.now k).held ≡ false)
    c.find.ensures.ran
    (λ k f called. search rules)
    (λ k f called. search rules))
