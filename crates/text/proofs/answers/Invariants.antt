use Rattle.std.proofs.Common.{string_bytes}
use Rattle.lines.proofs.Cut.{size_left}
use Rattle.text.proofs.Turns.{Before}
use Rattle.text.proofs.answers.Given as goal

abbrev pub invariant-loop-rest : goal.invariant-loop-rest
invariant-loop-rest l = Before l.text l.rest l.wall (string_bytes l.out)

abbrev pub decreases-loop-rest : goal.decreases-loop-rest
decreases-loop-rest l = size_left l.rest
