-- The proof of what specs/Promises.antt states.
-- Assumes nothing.
use mathlib.Core.Path.{refl}
use Rattle.decimal.specs.Answer.{leading_within, decimal}
use Rattle.line.specs.Answer.{numbers, line}
use Rattle.line.specs.Promises.{Promises}
use Rattle.line.proofs.Lines as lines
use Rattle.line.proofs.Reading as reading

pub promises : Promises
unfolding leading_within decimal numbers line
promises =
    record {
      line_tells = reading.line_tells;
      line_fits = lines.line_fits;
      line_reaches = refl;
      put_short = lines.put_short;
      put_answers = lines.put_answers;
      write_short = lines.write_short;
      write_answers = lines.write_answers;
      accept_example = refl;
      collide_example = refl;
      refuse_example = refl;
    }
