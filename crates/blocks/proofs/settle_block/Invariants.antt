use Rattle.matrix.specs.Cells.{width_of}
use Rattle.echelon.specs.Steps.{column_of}
use Rattle.echelon.specs.Places.{InPlace}
use Rattle.blocks.specs.Said.{BlockSettles}
use Rattle.blocks.proofs.settle_block.Given as goal

abbrev pub invariant-loop-t : goal.invariant-loop-t
invariant-loop-t l =
    BlockSettles l.initial.steps.n (width_of l.initial.steps.n) l.initial.steps.rows.now l.initial.steps.done.now (column_of l.initial.steps.pivots.now)
    l.steps.rows.now l.steps.done.now (column_of l.steps.pivots.now) l.block.first l.t l.block.end
    × InPlace l.initial.steps l.steps
