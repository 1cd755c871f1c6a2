use Rattle.std.proofs.Common.{ℕ, List, subst}
use Rattle.matrix.specs.Cells.{width_of}
use Rattle.echelon.specs.Steps.{column_of, TakesPivot}
use Rattle.echelon.proofs.Joins.{settles}
use Rattle.echelon.proofs.Places.{in_place_both}
use Rattle.echelon.proofs.steps.Steps.settle.Goals as goal

pub returns : goal.returns
returns c =
    let s₀ = c.args.self.now in
    let s₁ = c.reduce_row.new.self in
    let s₂ = c.take_pivot.new.self in
    let k = c.args.k in
    let red = c.reduce_row.ensures in
    let take = c.take_pivot.ensures in
    let Takes : ℕ → List ℕ → Type 0 = λ n cs.
    TakesPivot n (width_of n) s₁.rows.now s₁.done.now (column_of cs) s₂.rows.now s₂.done.now (column_of s₂.pivots.now) 0 n k in
    let takes : Takes s₀.n s₀.pivots.now = subst (λ cs. Takes s₀.n cs) red.pivots (subst (λ n. Takes n s₁.pivots.now) red.place.n take.taken) in
    record { settled = settles _ _ _ _ _ _ _ _ _ _ _ c.requires red.reduced takes; place = in_place_both _ _ _ red.place take.place }
