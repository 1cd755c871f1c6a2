use Rattle.std.proofs.Common.{◌*◌, ◌^◌, ◌<◌, get_or, refl, arith}
use lib.Count.{ones-le}
use Rattle.bits.specs.Bits.{bit_of}
use Rattle.bits.proofs.Counts.{tally_le}
use Rattle.bits.proofs.Rows.{tally_word}
use Rattle.bits.proofs.count.Goals as goal

pub loop-word-init : goal.loop-word-init
loop-word-init c = refl

pub overflow_add-set : goal.overflow_add-set
overflow_add-set c =
    let fits : get_or c.args.row.now c.loop-word.word-index 0 < 2 ^ 64 = omega arith in
    omega (arith, ones-le 64 _ fits, tally_le (64 * c.loop-word.word-index) (bit_of c.args.row.now))

pub loop-word-preserved : goal.loop-word-preserved
loop-word-preserved c =
    let fits : get_or c.args.row.now c.loop-word.word-index 0 < 2 ^ 64 = omega arith in
    omega (arith, tally_word c.args.row.now c.loop-word.word-index fits)
