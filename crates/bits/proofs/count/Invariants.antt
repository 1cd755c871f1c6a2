use Rattle.std.proofs.Common.{◌≡◌, ◌*◌}
use Rattle.gf2.specs.Rows.{tally}
use Rattle.bits.specs.Bits.{bit_of}
use Rattle.bits.proofs.count.Given as goal

abbrev pub invariant-loop-word : goal.invariant-loop-word
invariant-loop-word l = l.set ≡ tally (bit_of l.row) (64 * l.word-index)
