use Rattle.std.proofs.Common.{◌≡◌, ◌+◌, drop}
use Rattle.lines.specs.Readers.{found, digits, number}
use Rattle.lines.proofs.number.Given as goal

abbrev pub invariant-loop-i : goal.invariant-loop-i
invariant-loop-i l = digits found l.value (l.at + l.i) (drop (l.at + l.i) l.line) ≡ number found l.at (drop l.at l.line)
