use Rattle.std.proofs.Common.{◌≡◌, ℕ, ◌≢◌, set, sym, refl, ap, subst, ◌∙◌, inl, inr, arith, get_or-set_other, get_or-set_same}
use Rattle.bits.specs.Said.{First, FirstSet}
use Rattle.matrix.specs.Cells.{width_of, cell}
use Rattle.echelon.specs.declared.steps.Steps.{Steps}
use Rattle.echelon.specs.Steps.{column_of, Clearing, TakesPivot}
use Rattle.echelon.specs.Places.{InPlace}
use Rattle.echelon.proofs.Places.{in_place}
use Rattle.echelon.proofs.steps.Steps.take_pivot.Goals as goal
use Rattle.echelon.proofs.steps.Steps.take_pivot.Goals.{in-Some, in-None}

pub returns : goal.returns
returns c =
    let s₀ = c.args.self.now in
    let s' = c.match-first_bit.self in
    let x' = c.match-first_bit.pivot in
    let k = c.args.k in
    let from = c.args.from in
    let to = c.args.to in
    let Done : Steps → ℕ → Type 0 = λ s x.
    TakesPivot s₀.n (width_of s₀.n) s₀.rows.now s₀.done.now (column_of s₀.pivots.now) s.rows.now s.done.now (column_of (set s.pivots.now k x)) from to k × InPlace s₀ s in
    let at : (s : Steps) (x : ℕ) → s' ≡ s → x' ≡ x → Done s x → Done s' x' = λ s x p q h. subst (λ t. Done t x') (sym p) (subst (Done s) (sym q) h) in
    let here : (s : Steps) (x : ℕ) → s.n ≡ s₀.n → column_of (set s.pivots.now k x) k ≡ x =
    λ s x e. get_or-set_same s.pivots.now k x 0 (omega (arith, s.pivots_long, e, c.requires.row)) in
    let other : (s : Steps) (x : ℕ) → s.pivots.now ≡ s₀.pivots.now → (i : ℕ) → i ≢ k → column_of (set s.pivots.now k x) i ≡ column_of s₀.pivots.now i =
    λ s x e i ne. get_or-set_other s.pivots.now k i x 0 ne ∙ ap (λ cs. column_of cs i) e in
    let done : Done s' x' = elim c.match-first_bit.branch [
      | in-Some w ↦
          let s₂ = w.clear_column.new.self in
          let x = w.in-Some.column in
          let clear = w.clear_column.ensures in
          let Pivot : ℕ → Type 0 = λ y. First s₀.n (cell s₀.rows.now (width_of s₀.n) k) y × Clearing (width_of s₀.n) s₀.rows.now s₀.done.now s₂.rows.now s₂.done.now from to k y in
          let pivot : Pivot x = (subst (FirstSet _ _) w.in-Some.is c.first_bit.ensures, clear.cleared) in
          at _ _ w.self-is w.pivot-is (
            record { taken = inr (subst Pivot (sym (here s₂ x clear.place.n)) pivot); columns = other s₂ x clear.pivots },
            clear.place,
          )
      | in-None w ↦ at _ _ w.self-is w.pivot-is (
        record {
          taken = inl (subst (FirstSet _ _) w.in-None.is c.first_bit.ensures, here s₀ s₀.n refl, refl, refl);
          columns = other s₀ s₀.n refl;
        },
        in_place s₀,
      )
    ] in
    let place = done.1 in
    record { taken = done.0; place = record { n = place.n; rows = place.rows; done = place.done; pivots = place.pivots } }
