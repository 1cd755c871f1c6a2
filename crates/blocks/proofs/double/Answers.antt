use Rattle.std.proofs.Common.{◌+◌, ◌∙◌, arith}
use Rattle.matrix.proofs.Memory.{row_within}
use Rattle.blocks.proofs.Table.{doubled_more}
use Rattle.blocks.proofs.double.Goals as goal

pub put_sum-requires : goal.put_sum-requires
put_sum-requires c =
    let to = row_within c.args.width (c.args.size + c.loop-e.e) (c.args.size + c.args.size) (omega arith) in
    let from = row_within c.args.width c.loop-e.e (c.args.size + c.args.size) (omega arith) in
    record { to = omega arith; from = omega arith; row = omega arith; apart = omega arith }

pub loop-e-preserved : goal.loop-e-preserved
loop-e-preserved c = (doubled_more _ _ _ _ _ _ _ c.loop-e-test.true c.loop-e.invariant.0 c.put_sum.ensures, c.put_sum.auto.table ∙ c.loop-e.invariant.1)
