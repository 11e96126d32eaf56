-- The proof of what specs/Promises.antt states.
-- Assumes nothing.
use mathlib.Core.Path.{subst}
use Rattle.std.specs.Prelude.{Option, IfSome}
use Rattle.script.specs.declared.Call.{Call}
use Rattle.script.specs.Says.{Says}
use Rattle.script.specs.Answer.{call_in}
use Rattle.script.specs.Promises.{Promises}
use Rattle.script.proofs.Lines.{none_said, line_said, says_read, front_read}

pub promises : Promises
promises =
    record {
      read_exactly =
          λ line call. (
            λ e. subst (λ (c : Option Call). IfSome c (Says line)) e (line_said line),
            λ s. says_read s,
          );
      bad_exactly =
          λ line. (
            λ e call s. cc (says_read s),
            λ says_none. none_said (Says line) says_none (call_in line) (line_said line),
          );
      says_one = λ line one other s t. let e = says_read s in let f = says_read t in cc;
      front_read = front_read;
    }
