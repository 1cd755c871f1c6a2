use Rattle.std.proofs.Common.{◌≡◌, length, ◌∙◌, arith, length-drop, length-take}
use Rattle.matrix.proofs.Memory.{row_put}
use Rattle.matrix.proofs.clear_row.Goals as goal

pub returns : goal.returns
returns c =
    let long : length c.zero.new.row ≡ c.args.width = c.zero.auto.row ∙ simp (length-take, length-drop) (omega arith) in
    row_put c.args.memory.now c.zero.new.row c.args.width c.args.i c.requires long _ c.zero.ensures
