use Rattle.std.proofs.Common.{◌≡◌, length}
use Rattle.matrix.specs.Cells.{cell}
use Rattle.blocks.specs.Said.{Doubled}
use Rattle.blocks.proofs.double.Given as goal

abbrev pub invariant-loop-e : goal.invariant-loop-e
invariant-loop-e l = Doubled l.initial.table l.table l.width l.size l.e (cell l.memory l.width l.i) × (length l.table ≡ length l.initial.table)
