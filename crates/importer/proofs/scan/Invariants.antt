-- `scan` meets its contract. The loop's invariant, `Scanning`: the records so far are good, and with what was found of them all that
-- is to be found stands from here on. The measure is the bytes that are left.
use lib.ListN.{length}
use Rattle.importer.proofs.Answers.{Scanning}
use Rattle.importer.proofs.scan.Given as goal

abbrev pub invariant-loop-rest : goal.invariant-loop-rest
invariant-loop-rest l = Scanning l.records l.rest l.count l.trains

abbrev pub decreases-loop-rest : goal.decreases-loop-rest
decreases-loop-rest l = length l.rest
