use Rattle.std.proofs.Common.{◌≡◌, ℕ, ◌+◌, ◌-◌, List, drop, length-take, sym, refl, ◌∙◌, subst, arith}
use Rattle.matrix.specs.Cells.{width_of}
use Rattle.blocks.specs.Said.{block_of, entry_of, Swept}
use Rattle.blocks.proofs.Swept.{entry_row, same_entry, swept_same, swept_skip, swept_add}
use Rattle.blocks.proofs.sweep_rows.Goals as goal
use Rattle.blocks.proofs.sweep_rows.Goals.{then-e-ne0, else-e-ne0}

pub loop-i-init : goal.loop-i-init
loop-i-init c = (record { added = λ off i g l. absurd (omega arith); others = λ i o j. refl }, record { added = λ off i g l. absurd (omega arith); others = λ i o j. refl })

pub add_entry-requires-clause-table : goal.add_entry-requires-clause-table
add_entry-requires-clause-table c =
    let few = length-take (c.args.block.end - c.args.block.first) (drop c.args.block.first c.args.pivots.now) in
    omega (arith, entry_row c.args.n c.width-width.result c.loop-i.rows _ c.loop-i.i c.entry-e.result (omega (arith, few, c.args.block.few)) c.entry-e.ensures (omega arith))

pub add_entry-requires-then-e-ne0-clause-table : goal.add_entry-requires-then-e-ne0-clause-table
add_entry-requires-then-e-ne0-clause-table c =
    let few = length-take (c.args.block.end - c.args.block.first) (drop c.args.block.first c.args.pivots.now) in
    omega (arith, entry_row c.args.n c.width-width.result c.loop-i.rows _ c.loop-i.i c.entry-e.result (omega (arith, few, c.args.block.few)) c.entry-e.ensures (omega arith))

pub loop-i-preserved : goal.loop-i-preserved
loop-i-preserved c =
    let width = c.width-width.result in
    let columns = block_of c.args.pivots.now c.args.block.first c.args.block.end in
    let e = entry_of c.args.n width c.args.rows.now columns in
    let Next : List ℕ → List ℕ → Type 0 = λ rs ts.
    Swept width c.args.rows.now rs c.args.tables.now.rows e c.args.low (c.loop-i.i + 1)
    × Swept width c.args.done.now ts c.args.tables.now.done e c.args.low (c.loop-i.i + 1) in
    let at : (rs ts : List ℕ) → c.if-e-ne0.rows ≡ rs → c.if-e-ne0.done ≡ ts → Next rs ts → Next c.if-e-ne0.rows c.if-e-ne0.done =
    λ rs ts p q h. subst (λ x. Next x c.if-e-ne0.done) (sym p) (subst (λ y. Next rs y) (sym q) h) in
    let from = c.loop-i.auto.i in
    let inv = c.loop-i.invariant in
    let is : c.entry-e.result ≡ e c.loop-i.i = c.entry-e.ensures ∙ same_entry c.args.n width c.args.rows.now c.loop-i.rows columns c.loop-i.i (swept_same _ _ _ _ _ _ _ from inv.0) in
    elim c.if-e-ne0.branch [
      | then-e-ne0 w ↦ at _ _ w.rows-is w.done-is (
        swept_add _ _ _ _ _ _ _ from inv.0 _ _ is w.add_entry.ensures,
        swept_add _ _ _ _ _ _ _ from inv.1 _ _ is w.add_entry-then-e-ne0.ensures,
      )
      | else-e-ne0 w ↦ at _ _ w.rows-is w.done-is (
        swept_skip _ _ _ _ _ _ _ from inv.0 (sym is ∙ w.if-e-ne0.false),
        swept_skip _ _ _ _ _ _ _ from inv.1 (sym is ∙ w.if-e-ne0.false),
      )
    ]

-- all rows were gone through, and the width is that of n bits
swept_all : (n width i high low : ℕ) (ws ws' table rs cs : List ℕ) → width ≡ width_of n → i ≡ high
    → Swept width ws ws' table (entry_of n width rs cs) low i → Swept (width_of n) ws ws' table (entry_of n (width_of n) rs cs) low high
swept_all n width i high low ws ws' table rs cs wide all s = subst (λ w. Swept w ws ws' table (entry_of n w rs cs) low high) wide (subst (λ m. Swept width ws ws' table (entry_of n width rs cs) low m) all s)

pub returns-clause-rows : goal.returns-clause-rows
returns-clause-rows c = swept_all _ _ _ _ _ _ _ _ _ _ c.width-width.ensures (omega arith) c.loop-i.invariant.0

pub returns-clause-done : goal.returns-clause-done
returns-clause-done c = swept_all _ _ _ _ _ _ _ _ _ _ c.width-width.ensures (omega arith) c.loop-i.invariant.1
