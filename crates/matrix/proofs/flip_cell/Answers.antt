use Rattle.std.proofs.Common.{◌≡◌, length, ap, ◌∙◌, arith, length-drop, length-take}
use Rattle.gf2.specs.Rows.{differ, only}
use Rattle.bits.specs.Bits.{bit_of}
use Rattle.matrix.proofs.Memory.{part_row, row_put}
use Rattle.matrix.proofs.flip_cell.Goals as goal

pub returns : goal.returns
returns c =
    let long : length c.flip.new.row ≡ c.args.width = c.flip.auto.row ∙ simp (length-take, length-drop) (omega arith) in
    row_put c.args.memory.now c.flip.new.row c.args.width c.args.i c.requires.fits long _
    (λ b. c.flip.ensures b ∙ ap (λ ws. differ (bit_of ws b) (only c.args.j b)) (part_row c.args.memory.now c.args.width c.args.i))
