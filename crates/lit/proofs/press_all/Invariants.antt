use Rattle.std.proofs.Common.{◌≡◌, length}
use Rattle.matrix.specs.Cells.{width_of}
use Rattle.lit.specs.Holds.{Pressing}
use Rattle.lit.proofs.press_all.Given as goal

abbrev pub invariant-loop-i : goal.invariant-loop-i
invariant-loop-i l =
    Pressing (width_of l.board.lamps) l.wires l.presses l.initial.lit l.lit l.i
    × (length l.lit ≡ length l.initial.lit)
