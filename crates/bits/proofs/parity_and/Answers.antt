use Rattle.std.proofs.Common.{◌≡◌, ◌*◌, length, get_or, sym, ap, ◌∙◌, arith}
use lib.Bits.{xor_lt, and_le_r}
use Rattle.gf2.specs.Rows.{parity}
use Rattle.bits.proofs.Counts.{odd_bits_of_zero, odd_bits}
use Rattle.bits.proofs.Rows.{common, odd_word}
use Rattle.bits.proofs.parity_and.Goals as goal

pub loop-i-init : goal.loop-i-init
loop-i-init c = (omega arith, odd_bits_of_zero 64)

pub loop-i-preserved : goal.loop-i-preserved
loop-i-preserved c =
    let x = get_or c.args.a.now c.loop-i.i 0 in
    let y = get_or c.args.b.now c.loop-i.i 0 in (
      xor_lt 64 c.loop-i.sum _ c.loop-i.invariant.0 (omega (arith, and_le_r x y)),
      odd_word c.args.a.now c.args.b.now c.loop-i.i c.loop-i.sum c.loop-i.invariant.1,
    )

pub returns : goal.returns
returns c =
    let all : c.loop-i.i ≡ length c.args.a.now = omega arith in
    sym (odd_bits 64 c.loop-i.sum c.loop-i.invariant.0) ∙ c.loop-i.invariant.1
    ∙ ap (λ n. parity (common c.args.a.now c.args.b.now) (64 * n)) all
