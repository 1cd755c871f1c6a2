use Rattle.echelon.specs.Steps.{column_of}
use Rattle.update.proofs.Choosing.{SoFar}
use Rattle.update.proofs.choose.Given as goal

abbrev pub invariant-loop-i : goal.invariant-loop-i
invariant-loop-i l = SoFar l.n l.width l.done (column_of l.pivots) l.l l.i l.chosen
