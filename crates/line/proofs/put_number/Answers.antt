-- `put_number` meets its contract: a space, and the number where it ended.
use mathlib.Core.Path.{◌∙◌}
use lib.ListN.{length-set}
use Rattle.line.proofs.Stores.{put_spaced}
use Rattle.line.proofs.put_number.Goals as goal

pub shape_of-out : goal.shape_of-out
shape_of-out c = c.put.auto.out ∙ simp length-set

pub returns : goal.returns
returns c =
    let put = put_spaced c.args.out.now _ c.args.at _ c.args.n c.requires c.put.ensures.end c.put.ensures.bytes in
    record { end = put.0; bytes = put.1 }
