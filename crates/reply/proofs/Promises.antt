-- The proof of what specs/Promises.antt states.
-- Assumes nothing.
use mathlib.Core.Path.{refl}
use Rattle.decimal.specs.Answer.{leading_within, decimal}
use Rattle.line.specs.Answer.{numbers}
use Rattle.reply.specs.Lines.{line_of}
use Rattle.reply.specs.Promises.{Promises}
use Rattle.reply.proofs.Texts as texts
use Rattle.reply.proofs.Events.{admit_shown, withdraw_shown, step_shown}

pub promises : Promises
unfolding leading_within decimal numbers line_of
promises =
    record {
      admit_shown = admit_shown;
      withdraw_shown = withdraw_shown;
      step_shown = step_shown;
      line_tells = texts.line_tells;
      line_fits = texts.line_fits;
      line_reaches = refl;
      fresh_example = refl;
      place_example = refl;
      withdrawn_example = refl;
      idle_example = refl;
      starts_example = refl;
      goes_on_example = refl;
      refuse_example = refl;
      bad_example = refl;
    }
