use Rattle.std.proofs.Common.{◌≡◌}
use Rattle.walk.proofs.puts_out.Given as goal

abbrev pub invariant-loop-button : goal.invariant-loop-button
invariant-loop-button l =
    (goal.iterator-loop-button).can_next l.button-iterator ×
    (goal.iterator-loop-button).is_finite l.button-iterator ×
    (l.button-iterator.a.end ≡ 64)
