use Rattle.claims.proofs.Checking.{EvenBelow}
use Rattle.claims.proofs.check_never.Given as goal

abbrev pub invariant-loop-k : goal.invariant-loop-k
invariant-loop-k l = EvenBelow l.width l.wires l.set l.k
