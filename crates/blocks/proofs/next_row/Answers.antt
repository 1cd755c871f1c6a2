use Rattle.std.proofs.Common.{◌≡◌, ◌^◌, ◌<◌, false, get_or, sym, subst, inl, inr, arith, refl}
use Rattle.std.proofs.lemmas.Bool.{cases_eq}
use Rattle.matrix.specs.Cells.{width_of, cell}
use Rattle.blocks.specs.Said.{NextRow}
use Rattle.blocks.proofs.Search.{zero_row, some_cell}
use Rattle.blocks.proofs.next_row.Goals as goal

pub rows-init : goal.rows-init
rows-init c = (refl, λ k g l j. absurd (omega arith))

pub loop-word-init : goal.loop-word-init
loop-word-init c = (c.rows.invariant.0, λ p l. absurd (omega arith))

pub loop-word-preserved : goal.loop-word-preserved
loop-word-preserved c = (
  c.loop-word.invariant.0,
  λ p l. elim (cases_eq p c.loop-word.word-index) [
    | inl e ↦ subst (λ z. get_or c.row-word-items.result.now z 0 ≡ 0) (sym e) c.if-word-ne0.false
    | inr ne ↦ c.loop-word.invariant.1 p (omega arith)
  ],
)

pub rows-preserved : goal.rows-preserved
rows-preserved c = (
  c.loop-word.invariant.0,
  λ k g l j. elim (cases_eq k c.rows.i) [
    | inl e ↦ subst (λ z. cell c.args.steps.now.rows.now (width_of c.args.steps.now.n) z j ≡ false) (sym e) (
        zero_row _ _ _ _ _ c.row-word-items.ensures c.width-width.ensures c.loop-word.word-index (omega arith) c.loop-word.invariant.1 j)
    | inr ne ↦ c.rows.invariant.1 k g (omega arith) j
  ],
)

pub returns-after-rows : goal.returns-after-rows
returns-after-rows c =
    let s = c.args.steps.now in
    subst (NextRow (width_of s.n) s.rows.now c.args.from s.n) (sym c.rows.invariant.0) (λ i g l j. c.rows.invariant.1 i g (omega arith) j)

pub returns-then-word-ne0 : goal.returns-then-word-ne0
returns-then-word-ne0 c =
    let fits : get_or c.row-word-items.result.now c.loop-word.word-index 0 < 2 ^ 64 = omega arith in
    record {
      least = c.rows.auto.i;
      most = c.rows-test.true;
      before = c.rows.invariant.1;
      here = some_cell _ _ _ _ _ c.row-word-items.ensures c.width-width.ensures c.loop-word.word-index fits c.if-word-ne0.true;
    }
