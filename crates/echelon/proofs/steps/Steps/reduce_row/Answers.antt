use Rattle.std.proofs.Common.{◌≡◌, ◌+◌, sym, refl, ap, subst, ◌∙◌, arith}
use Rattle.matrix.specs.Cells.{width_of, cell}
use Rattle.echelon.specs.declared.steps.Steps.{Steps}
use Rattle.echelon.specs.Steps.{column_of, Reducing}
use Rattle.echelon.specs.Places.{InPlace}
use Rattle.echelon.proofs.Reduce.{reduce_none, reduce_itself, reduce_no_pivot, reduce_off, reduce_by}
use Rattle.echelon.proofs.Places.{in_place, in_place_both, added_at, cell_at}
use Rattle.echelon.proofs.steps.Steps.reduce_row.Goals as goal
use Rattle.echelon.proofs.steps.Steps.reduce_row.Goals.{then-m-k+then-column-self+then-has, then-m-k+else-column-self, else-m-k, else-column-self-via-then-column-self+else-has, else-column-self-via-else-column-self}

pub loop-m-init : goal.loop-m-init
loop-m-init c = (reduce_none _ _ _ _ _ _, refl, in_place _)

pub loop-m-preserved : goal.loop-m-preserved
loop-m-preserved c =
    let s₀ = c.args.self.now in
    let Next : Steps → Type 0 = λ s.
    Reducing s₀.n (width_of s₀.n) s₀.rows.now s₀.done.now s.rows.now s.done.now (column_of s₀.pivots.now) c.args.k (c.loop-m.m + 1)
    × (s.pivots.now ≡ s₀.pivots.now) × InPlace s₀ s in
    let inv = c.loop-m.invariant in
    let n = inv.2.n in
    let column : column_of c.loop-m.self.pivots.now c.loop-m.m ≡ column_of s₀.pivots.now c.loop-m.m = ap (λ cs. column_of cs c.loop-m.m) inv.1 in
    let bit : cell c.loop-m.self.rows.now (width_of c.loop-m.self.n) c.args.k (column_of c.loop-m.self.pivots.now c.loop-m.m)
    ≡ cell c.loop-m.self.rows.now (width_of s₀.n) c.args.k (column_of s₀.pivots.now c.loop-m.m) =
    cell_at _ _ n _ _ _ ∙ ap (cell c.loop-m.self.rows.now (width_of s₀.n) c.args.k) column in
    elim c.if-m-k.branch [
      | then-m-k+then-column-self+then-has w ↦ subst Next (sym w.self-is) (
        reduce_by _ _ _ _ _ _ _ _ _ inv.0 c.requires (omega arith) w.if-m-k.true (omega (arith, column, w.if-column-self.true)) (w.if-has.ensures ∙ bit) _ _
            (added_at _ _ n _ _ _ _ w.add_row.ensures.rows) (added_at _ _ n _ _ _ _ w.add_row.ensures.done),
        w.add_row.ensures.pivots ∙ inv.1,
        in_place_both _ _ _ inv.2 w.add_row.ensures.place,
      )
      | then-m-k+else-column-self w ↦ subst Next (sym w.self-is) (
        elim w.else-column-self.branch [
          | else-column-self-via-then-column-self+else-has v ↦ reduce_off _ _ _ _ _ _ _ _ _ inv.0 (v.if-has.ensures ∙ bit)
          | else-column-self-via-else-column-self v ↦ reduce_no_pivot _ _ _ _ _ _ _ _ _ inv.0 (omega (arith, column, v.if-column-self.false))
        ],
        inv.1,
        inv.2,
      )
      | else-m-k w ↦ subst Next (sym w.self-is) (reduce_itself _ _ _ _ _ _ _ _ _ inv.0 w.if-m-k.false, inv.1, inv.2)
    ]

pub returns : goal.returns
returns c =
    let all : c.loop-m.m ≡ c.args.self.now.n = omega arith in
    let s₀ = c.args.self.now in
    let inv = c.loop-m.invariant in
    record {
      reduced = subst (λ m. Reducing s₀.n (width_of s₀.n) s₀.rows.now s₀.done.now c.loop-m.self.rows.now c.loop-m.self.done.now (column_of s₀.pivots.now) c.args.k m) all inv.0;
      pivots = inv.1;
      place = inv.2;
    }
