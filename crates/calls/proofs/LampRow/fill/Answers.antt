use Rattle.std.proofs.Common.{set, ap, ◌∙◌, arith}
use Rattle.lamps.specs.Lamps.{listed}
use Rattle.bits.specs.Bits.{bit_of}
use Rattle.calls.specs.Bytes.{eight}
use Rattle.calls.proofs.Packing.{packed_more, packed_all}
use Rattle.calls.proofs.LampRow.fill.Goals as goal

pub loop-i-preserved : goal.loop-i-preserved
loop-i-preserved c =
    ap (λ b. set c.loop-i.out c.loop-i.i b) c.byte.ensures
    ∙ packed_more (eight (listed c.args.self.now.count (bit_of c.args.self.now.row.now))) c.loop-i.out c.args.out.now c.loop-i.i (omega arith) c.loop-i.invariant

pub returns : goal.returns
returns c = packed_all c.args.self.now.count c.loop-i.i (bit_of c.args.self.now.row.now) c.loop-i.out c.args.out.now (omega arith) (omega arith) c.loop-i.invariant
