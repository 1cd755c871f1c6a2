use Rattle.matrix.specs.Cells.{width_of}
use Rattle.echelon.specs.Steps.{column_of}
use Rattle.echelon.specs.Places.{InPlace}
use Rattle.update.proofs.Refreshing.{Refreshing}
use Rattle.update.proofs.refresh.Given as goal

abbrev pub invariant-loop-l : goal.invariant-loop-l
invariant-loop-l l =
    Refreshing l.initial.steps.n (width_of l.initial.steps.n) l.wires l.marks l.initial.steps.rows.now l.initial.steps.done.now (column_of l.initial.steps.pivots.now)
    l.steps.rows.now l.steps.done.now (column_of l.steps.pivots.now) l.l
    × InPlace l.initial.steps l.steps
