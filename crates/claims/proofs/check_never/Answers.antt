use Rattle.std.proofs.Common.{sym, ◌∙◌, arith, below_more}
use Rattle.matrix.proofs.Memory.{row_in}
use Rattle.claims.proofs.Checking.{never_lamp, never_right, never_even}
use Rattle.claims.proofs.check_never.Goals as goal

pub dot_row-requires : goal.dot_row-requires
dot_row-requires c = record {
  fits = row_in c.args.board.lamps c.width-width.result c.loop-k.k _ c.width-width.ensures c.requires.wires c.loop-k-test.true;
  long = c.requires.set ∙ sym c.width-width.ensures;
}

pub returns-then-dot_row : goal.returns-then-dot_row
returns-then-dot_row c ws s w h =
    never_lamp _ _ c.width-width.ensures _ _ _ ws s w h c.loop-k.k c.loop-k-test.true c.loop-k.invariant c.if-dot_row.ensures

pub loop-k-preserved : goal.loop-k-preserved
loop-k-preserved c = below_more _ _ c.loop-k.invariant (sym c.if-dot_row.ensures)

pub returns-then-parity_and : goal.returns-then-parity_and
returns-then-parity_and c ws s w h =
    never_right _ _ c.width-width.ensures _ _ _ ws s w h c.loop-k.k _ c.loop-k-test.false c.loop-k.invariant (omega arith) c.if-parity_and.ensures

pub returns-else-parity_and : goal.returns-else-parity_and
returns-else-parity_and c ws s w h =
    never_even _ _ c.width-width.ensures _ _ _ ws s w h c.loop-k.k _ c.loop-k-test.false c.loop-k.invariant (omega arith) c.if-parity_and.ensures
