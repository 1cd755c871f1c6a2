use Rattle.std.proofs.Common.{◌≡◌, ◌+◌, ◌≤◌, max, length, drop}
use Rattle.lines.specs.Readers.{here, word}
use Rattle.lines.proofs.pass.Given as goal

abbrev pub invariant-loop-i : goal.invariant-loop-i
invariant-loop-i l =
    record {
      within : l.at + l.i ≤ max l.at (length l.line);
      rest : word (drop l.i l.keyword) here (l.at + l.i) (drop (l.at + l.i) l.line) ≡ word l.keyword here l.at (drop l.at l.line);
    }
