use Rattle.bits.proofs.Lowest.{Zeros}
use Rattle.bits.proofs.first_set.Given as goal

abbrev pub invariant-loop-i : goal.invariant-loop-i
invariant-loop-i l = Zeros l.row l.i
