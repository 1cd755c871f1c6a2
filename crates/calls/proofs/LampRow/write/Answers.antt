use Rattle.std.proofs.Common.{arith}
use Rattle.lamps.specs.Lamps.{Lamps, listed}
use Rattle.lamps.proofs.Listed.{length_listed}
use Rattle.bits.specs.Bits.{bit_of}
use Rattle.calls.proofs.Packing.{length_packed, lamps_put}
use Rattle.calls.proofs.LampRow.write.Goals as goal

pub returns : goal.returns
returns c =
    let ls : Lamps = listed c.args.self.now.count (bit_of c.args.self.now.row.now) in
    rw c.fill.ensures (lamps_put c.args.out.now c.put.new.out c.args.number c.div_ceil.result ls (grind (arith, length_listed)) (omega (arith, length_packed ls, length_listed)))
