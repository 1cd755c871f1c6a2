use Rattle.std.proofs.Common.{subst, arith}
use Rattle.gf2.specs.Rows.{sum}
use Rattle.bits.specs.Bits.{bit_of}
use Rattle.matrix.specs.Cells.{cell}
use Rattle.matrix.specs.Said.{RowPut}
use Rattle.matrix.proofs.Memory.{part_row}
use Rattle.blocks.proofs.Table.{put_sum}
use Rattle.blocks.proofs.put_sum.Goals as goal

pub returns : goal.returns
returns c =
    subst (λ ws. RowPut c.args.table.now c.add_row.new.memory c.args.width c.args.to (sum (cell c.args.table.now c.args.width c.args.from) (bit_of ws)))
    (part_row c.args.memory.now c.args.width c.args.i)
    (put_sum _ _ _ _ _ _ _ (omega arith) c.write_row.ensures c.add_row.ensures)
