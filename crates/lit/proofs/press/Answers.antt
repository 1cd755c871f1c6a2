use Rattle.std.proofs.Common.{◌≡◌, ℕ, ap, ◌∙◌}
use Rattle.gf2.specs.Rows.{differ}
use Rattle.bits.specs.Bits.{bit_of}
use Rattle.matrix.specs.Cells.{width_of, cell}
use Rattle.matrix.proofs.Memory.{row_in}
use Rattle.lit.proofs.Holding.{holds_pressed}
use Rattle.lit.proofs.press.Goals as goal

pub row-row-requires : goal.row-row-requires
row-row-requires c = row_in c.args.board.lamps c.width.result c.args.i _ c.width.ensures c.requires.wires c.requires.lamp

pub returns : goal.returns
returns c =
    let wires = c.args.wires.now in
    let i = c.args.i in
    let bits : (k : ℕ) → bit_of c.xor_into.new.to k ≡ differ (bit_of c.args.lit.now k) (cell wires (width_of c.args.board.lamps) i k) = λ k.
    c.xor_into.ensures k
    ∙ ap (λ ws. differ (bit_of c.args.lit.now k) (bit_of ws k)) c.row-row.ensures
    ∙ ap (λ w. differ (bit_of c.args.lit.now k) (cell wires w i k)) c.width.ensures in
    record { bits = bits; holds = holds_pressed c.args.board.lamps wires _ _ i c.requires.lamp bits }
