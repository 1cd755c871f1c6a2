use Rattle.std.proofs.Common.{◌≡◌, ◌++◌, map, drop}
use Rattle.std.specs.List.{range_with_len}
use Rattle.lamps.specs.Lamps.{listed}
use Rattle.bits.specs.Bits.{bit_of}
use Rattle.calls.specs.Bytes.{eight}
use Rattle.calls.proofs.LampRow.fill.Given as goal

abbrev pub invariant-loop-i : goal.invariant-loop-i
invariant-loop-i l = l.out ≡ map (eight (listed l.self.count (bit_of l.self.row.now))) (range_with_len 0 l.i) ++ drop l.i l.initial.out
