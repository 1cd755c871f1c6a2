use Rattle.std.proofs.Common.{ap, ◌∙◌, arith}
use Rattle.matrix.specs.Cells.{cell}
use Rattle.matrix.proofs.Memory.{row_in}
use Rattle.wires.proofs.Toggling.{held_wire}
use Rattle.wires.proofs.has_wire.Goals as goal

pub has-requires : goal.has-requires
has-requires c =
    let one = row_in c.args.board.lamps c.width.result c.args.i _ c.width.ensures c.requires.rows c.requires.one in
    record { fits = omega arith; within = omega arith }

pub returns : goal.returns
returns c =
    let bits = c.has.ensures ∙ ap (λ w. cell c.args.rows.now w c.args.i c.args.j) c.width.ensures in
    record {
      bits = bits;
      holds = λ ws h. bits ∙ held_wire c.args.board.lamps c.args.rows.now c.args.i c.args.j c.requires.one c.requires.other c.requires.apart ws h;
    }
