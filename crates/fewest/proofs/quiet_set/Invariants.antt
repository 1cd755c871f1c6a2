use Rattle.std.proofs.Common.{◌≡◌, length}
use Rattle.bits.specs.Bits.{bit_of}
use Rattle.matrix.specs.Cells.{width_of, cell}
use Rattle.echelon.specs.Steps.{column_of}
use Rattle.fewest.proofs.Building.{Building}
use Rattle.fewest.proofs.quiet_set.Given as goal

abbrev pub invariant-loop-i : goal.invariant-loop-i
invariant-loop-i l = Building l.n (cell l.rows (width_of l.n)) (column_of l.pivots) l.f (bit_of l.out) l.i × (length l.out ≡ width_of l.n)
