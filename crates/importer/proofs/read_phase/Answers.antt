-- `read_phase` meets its contract: a time, or where there is none a blank.
use mathlib.Core.Path.{ap, ◌∙◌}
use Rattle.importer.specs.Inside.{told}
use Rattle.importer.proofs.Ways.{phase_lem}
use Rattle.importer.proofs.read_phase.Goals as goal

pub returns : goal.returns
returns c = ap told c.or.ensures ∙ phase_lem c.args.text _ c.read_time.ensures
