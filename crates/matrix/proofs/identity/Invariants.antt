use Rattle.std.proofs.Common.{◌≡◌, length}
use Rattle.matrix.specs.Said.{Identity}
use Rattle.matrix.proofs.identity.Given as goal

abbrev pub invariant-loop-i : goal.invariant-loop-i
invariant-loop-i l = Identity l.width l.memory l.i × (length l.memory ≡ length l.initial.memory)
