use Rattle.matrix.proofs.Adding.{AddedTo}
use Rattle.matrix.proofs.add_row.Given as goal

abbrev pub invariant-loop-k : goal.invariant-loop-k
invariant-loop-k l = AddedTo l.initial.memory l.memory l.to l.from l.k
