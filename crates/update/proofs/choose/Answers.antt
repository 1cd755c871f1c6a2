use Rattle.std.proofs.Common.{Option, ℕ, ◌+◌, sym, subst, arith}
use Rattle.echelon.specs.Steps.{column_of}
use Rattle.update.specs.Said.{Taking}
use Rattle.update.proofs.Choosing.{SoFar, so_far_none, so_far_skip, so_far_take, taking_end}
use Rattle.update.proofs.choose.Goals as goal
use Rattle.update.proofs.choose.Goals.{then-has+else-column-n, else-has}

pub loop-i-init : goal.loop-i-init
loop-i-init c = so_far_none _ _ _ _ _

pub loop-i-preserved : goal.loop-i-preserved
loop-i-preserved c =
    let Next : Option ℕ → Type 0 = SoFar c.args.n c.width-width.result c.args.done.now (column_of c.args.pivots.now) c.args.l (c.loop-i.i + 1) in
    elim c.if-has.branch [
      | then-has+else-column-n w ↦ subst Next (sym w.chosen-is)
          (so_far_take _ _ _ _ _ _ _ c.loop-i.invariant (omega arith) w.if-has.ensures w.if-column-n.false)
      | else-has w ↦ subst Next (sym w.chosen-is) (so_far_skip _ _ _ _ _ _ _ c.loop-i.invariant w.if-has.ensures)
    ]

pub returns : goal.returns
returns c =
    subst (λ w. Taking c.args.n w c.args.done.now (column_of c.args.pivots.now) c.args.l c.args.n c.loop-i.chosen) c.width-width.ensures
    (taking_end _ _ _ _ _ c.loop-i.i _ c.loop-i.invariant (omega arith))
