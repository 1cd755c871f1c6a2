use Rattle.std.proofs.Common.{◌≡◌}
use Rattle.matrix.specs.Cells.{width_of}
use Rattle.echelon.specs.Steps.{column_of, Reducing}
use Rattle.echelon.specs.Places.{InPlace}
use Rattle.echelon.proofs.steps.Steps.reduce_row.Given as goal

abbrev pub invariant-loop-m : goal.invariant-loop-m
invariant-loop-m l =
    Reducing l.initial.self.n (width_of l.initial.self.n) l.initial.self.rows.now l.initial.self.done.now l.self.rows.now l.self.done.now
    (column_of l.initial.self.pivots.now) l.k l.m
    × (l.self.pivots.now ≡ l.initial.self.pivots.now) × InPlace l.initial.self l.self
