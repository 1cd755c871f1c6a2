use Rattle.std.proofs.Common.{◌≡◌, ◌*◌, length}
use Rattle.gf2.specs.Rows.{act}
use Rattle.bits.specs.Bits.{bit_of}
use Rattle.matrix.specs.Cells.{width_of, cell}
use Rattle.echelon.specs.Steps.{column_of}
use Rattle.solve.proofs.Placing.{Placing}
use Rattle.solve.proofs.solve.Given as goal

abbrev pub invariant-loop-i : goal.invariant-loop-i
invariant-loop-i l =
    Placing l.n (column_of l.pivots) (act (64 * width_of l.n) (cell l.done (width_of l.n)) (bit_of l.lit)) (bit_of l.out) l.i
    × (length l.out ≡ width_of l.n)
