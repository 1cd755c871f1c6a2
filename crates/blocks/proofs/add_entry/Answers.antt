use Rattle.std.proofs.Common.{◌≡◌, length, ◌∙◌, ap₂, arith, length-drop, length-take}
use Rattle.gf2.specs.Rows.{differ}
use Rattle.bits.specs.Bits.{bit_of}
use Rattle.matrix.proofs.Memory.{part_row, row_put}
use Rattle.blocks.proofs.add_entry.Goals as goal

pub returns : goal.returns
returns c =
    let long : length c.xor_into.new.to ≡ c.args.width = c.xor_into.auto.to ∙ simp (length-take, length-drop) (omega arith) in
    row_put c.args.memory.now c.xor_into.new.to c.args.width c.args.i c.requires.row long _
    (λ j. c.xor_into.ensures j
    ∙ ap₂ (λ xs ys. differ (bit_of xs j) (bit_of ys j)) (part_row c.args.memory.now c.args.width c.args.i) (part_row c.args.table.now c.args.width c.args.e))
