use Rattle.std.proofs.Common.{◌≡◌, ◌*◌, ◌^◌, ◌<◌}
use Rattle.gf2.specs.Rows.{parity}
use Rattle.bits.specs.Bits.{bit}
use Rattle.bits.proofs.Rows.{common}
use Rattle.bits.proofs.parity_and.Given as goal

abbrev pub invariant-loop-i : goal.invariant-loop-i
invariant-loop-i l = (l.sum < 2 ^ 64) × (parity (bit l.sum) 64 ≡ parity (common l.a l.b) (64 * l.i))
