use Rattle.std.proofs.Common.{◌-◌, ◌≤◌}
use Rattle.matrix.specs.Cells.{width_of, cell}
use Rattle.echelon.specs.Steps.{column_of}
use Rattle.echelon.specs.Places.{InPlace}
use Rattle.blocks.proofs.Whole.{Working}
use Rattle.blocks.proofs.bring_into_steps.Given as goal

abbrev pub invariant-loop-first : goal.invariant-loop-first
invariant-loop-first l =
    Working l.fn.steps.n (width_of l.fn.steps.n) (cell l.fn.steps.rows.now (width_of l.fn.steps.n))
    l.steps.rows.now l.steps.done.now (column_of l.steps.pivots.now) l.from
    × (l.from ≤ l.fn.steps.n) × InPlace l.fn.steps l.steps

abbrev pub decreases-loop-first : goal.decreases-loop-first
decreases-loop-first l = l.fn.steps.n - l.from
