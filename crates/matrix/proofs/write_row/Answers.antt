use Rattle.std.proofs.Common.{◌≡◌, length, ap, ◌∙◌}
use Rattle.bits.specs.Bits.{bit_of}
use Rattle.matrix.proofs.Memory.{row_put}
use Rattle.matrix.proofs.write_row.Goals as goal

pub returns : goal.returns
returns c =
    let long : length c.copy_from_slice.new.self ≡ c.args.width = ap length c.copy_from_slice.ensures.after ∙ c.requires.long in
    row_put c.args.memory.now c.copy_from_slice.new.self c.args.width c.args.i c.requires.fits long _
    (λ j. ap (λ ws. bit_of ws j) c.copy_from_slice.ensures.after)
