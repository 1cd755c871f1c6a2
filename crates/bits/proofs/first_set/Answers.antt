use Rattle.std.proofs.Common.{◌^◌, ◌<◌, get_or, arith}
use Rattle.bits.proofs.Lowest.{lowest, set_nowhere, set_found}
use Rattle.bits.proofs.first_set.Goals as goal

pub returns-then-word-ne0 : goal.returns-then-word-ne0
returns-then-word-ne0 c =
    let fits : get_or c.args.row.now c.loop-i.i 0 < 2 ^ 64 = omega arith in
    rw c.then_some.ensures (set_found c.args.row.now c.args.n c.loop-i.i _ c.loop-i.invariant (lowest 64 _ fits c.if-word-ne0.true))

pub returns : goal.returns
returns c = set_nowhere c.args.row.now c.args.n (λ k h. c.loop-i.invariant k (omega arith))
