use Rattle.std.proofs.Common.{◌≡◌, ℕ, ◌+◌, List, sym, ap, subst, ◌∙◌, arith}
use Rattle.bits.specs.Bits.{bit_of}
use Rattle.matrix.specs.Cells.{width_of, row_of}
use Rattle.echelon.specs.declared.steps.Steps.{Steps}
use Rattle.echelon.specs.Steps.{column_of}
use Rattle.echelon.specs.Places.{InPlace}
use Rattle.echelon.proofs.Places.{in_place_both}
use Rattle.update.specs.Said.{Replaces}
use Rattle.update.proofs.Refreshing.{Refreshing, refreshing_skip, refreshing_row, refreshing_end}
use Rattle.update.proofs.refresh.Goals as goal
use Rattle.update.proofs.refresh.Goals.{then-get, else-get}

pub loop-l-preserved : goal.loop-l-preserved
loop-l-preserved c =
    let s₀ = c.args.steps.now in
    let s₁ = c.loop-l.steps in
    let width = width_of s₀.n in
    let ws = c.args.wires.now in
    let Next : Steps → Type 0 = λ s.
    Refreshing s₀.n width ws c.args.marks.now s₀.rows.now s₀.done.now (column_of s₀.pivots.now) s.rows.now s.done.now (column_of s.pivots.now) (c.loop-l.l + 1)
    × InPlace s₀ s in
    let inv = c.loop-l.invariant in
    elim c.if-get.branch [
      | then-get w ↦
          let s₂ = w.replace_row.new.steps in
          let At : ℕ → List ℕ → Type 0 = λ m row.
          Replaces m (width_of m) s₁.rows.now s₁.done.now (column_of s₁.pivots.now) s₂.rows.now s₂.done.now (column_of s₂.pivots.now) c.loop-l.l (bit_of row) in
          let here : w.row.result.now ≡ row_of ws width c.loop-l.l = w.row.ensures ∙ ap (λ x. row_of ws x c.loop-l.l) c.width-width.ensures in
          let put : At s₀.n (row_of ws width c.loop-l.l) = subst (At s₀.n) here (subst (λ m. At m w.row.result.now) inv.1.n w.replace_row.ensures.replaces) in
          subst Next (sym w.steps-is) (
            refreshing_row _ _ _ _ _ _ _ _ _ _ _ inv.0 (omega arith) _ _ _ put,
            in_place_both _ _ _ inv.1 w.replace_row.ensures.place,
          )
      | else-get w ↦ subst Next (sym w.steps-is) (refreshing_skip _ _ _ _ _ _ _ _ _ _ _ inv.0 w.if-get.ensures, inv.1)
    ]

pub returns-clause-steps : goal.returns-clause-steps
returns-clause-steps c = refreshing_end _ _ _ _ _ _ _ _ _ _ c.loop-l.l (omega arith) c.loop-l.invariant.0
