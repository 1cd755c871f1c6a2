use Rattle.std.proofs.Common.{◌≡◌, length, take}
use Rattle.lamps.specs.Lamps.{listed}
use Rattle.bits.specs.Bits.{bit_of}
use Rattle.lines.specs.Printed.{shown}
use Rattle.text.proofs.lamp_set.LampSetDisplay.fmt.Given as goal

abbrev pub invariant-loop-i : goal.invariant-loop-i
invariant-loop-i g l = record { room : length l.digits ≡ 64; so_far : take l.i l.digits ≡ shown (listed l.i (bit_of l.self.row)) }
