use Rattle.std.proofs.Common.{[], string_bytes}
use Rattle.lines.specs.Texts.{lines_from}
use Rattle.lines.proofs.Cut.{lines_left, size_left}
use Rattle.checker.proofs.Going.{Going}
use Rattle.checker.proofs.verdicts.Given as goal

abbrev pub invariant-loop-rest : goal.invariant-loop-rest
invariant-loop-rest l = Going (lines_from [] l.text) (lines_left l.rest) l.checker.board (string_bytes l.out)

abbrev pub decreases-loop-rest : goal.decreases-loop-rest
decreases-loop-rest l = size_left l.rest
