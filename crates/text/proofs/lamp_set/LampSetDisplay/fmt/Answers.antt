use Rattle.std.proofs.Common.{◌≡◌, rules, refl, ◌∙◌, arith, length-set}
use Rattle.std.proofs.Output.{has_written_of_eq}
use Rattle.bits.specs.Bits.{bit_of}
use Rattle.text.proofs.Shown.{shown_none, shown_more, shown_text}
use Rattle.text.proofs.lamp_set.LampSetDisplay.fmt.Goals as goal

pub loop-i-init : goal.loop-i-init
loop-i-init g c = record { room = refl; so_far = shown_none (bit_of c.args.self.now.row) }

pub loop-i-preserved : goal.loop-i-preserved
loop-i-preserved g c =
    let long = c.loop-i.invariant.room in
    record {
      room = length-set _ _ _ ∙ long;
      so_far = shown_more c.loop-i.i (bit_of c.args.self.now.row) c.loop-i.digits c.get.result c.from.result (omega (arith, long, c.args.self.now.few)) c.loop-i.invariant.so_far c.get.ensures c.from.ensures;
    }

pub unwrap-requires : goal.unwrap-requires
unwrap-requires g c =
    let all : c.loop-i.i ≡ c.args.self.now.count = omega (arith, c.loop-i-test.false, c.loop-i.auto.i-end) in
    let text = shown_text c.loop-i.i c.args.self.now.count (bit_of c.args.self.now.row) c.loop-i.digits all c.loop-i.invariant.so_far in
    search (rules, text.1)

pub returns-clause-writes : goal.returns-clause-writes
returns-clause-writes g c = λ plain ok.
    let all : c.loop-i.i ≡ c.args.self.now.count = omega (arith, c.loop-i-test.false, c.loop-i.auto.i-end) in
    let text = shown_text c.loop-i.i c.args.self.now.count (bit_of c.args.self.now.row) c.loop-i.digits all c.loop-i.invariant.so_far in
    has_written_of_eq _ _ _ _ _ ((rw c.unwrap.ensures at c.from_utf8.ensures.cases).0 ∙ text.0) (c.write_str.ensures.writes plain ok)
