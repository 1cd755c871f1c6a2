use Rattle.std.proofs.Common.{◌≡◌, length}
use Rattle.update.specs.Said.{Marked}
use Rattle.update.proofs.set_first.Given as goal

abbrev pub invariant-loop-i : goal.invariant-loop-i
invariant-loop-i l = Marked l.row l.i × (length l.row ≡ length l.initial.row)
