use Rattle.echelon.specs.Steps.{Clearing}
use Rattle.echelon.proofs.clear_column.Given as goal

abbrev pub invariant-loop-m : goal.invariant-loop-m
invariant-loop-m l = Clearing l.width l.initial.rows l.initial.done l.rows l.done l.from l.m l.k l.j
