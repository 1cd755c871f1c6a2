use Rattle.std.proofs.Common.{◌≤◌}
use Rattle.walk.proofs.Walk.steps.Given as goal

abbrev pub invariant-loop : goal.invariant-loop
invariant-loop l = l.same ≤ l.counter
