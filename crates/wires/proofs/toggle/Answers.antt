use Rattle.std.proofs.Common.{subst, arith}
use Rattle.matrix.proofs.Memory.{row_in}
use Rattle.wires.specs.Holds.{Toggled}
use Rattle.wires.proofs.Toggling.{toggled, holds_rewired}
use Rattle.wires.proofs.toggle.Goals as goal

pub flip_cell-requires : goal.flip_cell-requires
flip_cell-requires c =
    let one = row_in c.args.board.lamps c.width-width.result c.args.i _ c.width-width.ensures c.requires.rows c.requires.one in
    let other = row_in c.args.board.lamps c.width-width.result c.args.j _ c.width-width.ensures c.requires.rows c.requires.other in
    record { fits = omega arith; within = omega arith }

pub flip_cell-requires-2 : goal.flip_cell-requires-2
flip_cell-requires-2 c =
    let one = row_in c.args.board.lamps c.width-width.result c.args.i _ c.width-width.ensures c.requires.rows c.requires.one in
    let other = row_in c.args.board.lamps c.width-width.result c.args.j _ c.width-width.ensures c.requires.rows c.requires.other in
    record { fits = omega arith; within = omega arith }

pub returns : goal.returns
returns c =
    let bits = subst (λ w. Toggled c.args.rows.now c.flip_cell-2.new.memory w c.args.i c.args.j) c.width-width.ensures
    (toggled _ _ _ _ _ _ c.requires.apart c.flip_cell.ensures c.flip_cell-2.ensures) in
    record { bits = bits; holds = holds_rewired c.args.board.lamps _ _ _ _ c.requires.one c.requires.other c.requires.apart bits }
