-- A row of the memory is added to another, in the rows and in what was done. Assumes nothing.
use Rattle.std.proofs.Common.{◌≡◌, ℕ, ◌<◌, false, ◌≢◌, List, sym, ◌∙◌, subst, ap₂, inl, inr}
use Rattle.std.proofs.lemmas.Bool.{cases_eq}
use Rattle.gf2.specs.Rows.{differ, Rows}
use Rattle.gf2.specs.Reduction.{Adds}
use Rattle.gf2.proofs.Tracks.{tracks_add}
use Rattle.matrix.specs.Said.{RowAdded}
use Rattle.matrix.proofs.Memory.{other_cells}
use Rattle.matrix.specs.Cells.{cell, Spare}
use Rattle.echelon.specs.Steps.{Kept}

module _ (n width : ℕ) (ws ws' : List ℕ) (k m : ℕ) (added : RowAdded ws ws' width k m) where
  pub adds : Adds n (cell ws width) (cell ws' width) k m
  adds = record { here = λ j l. added.here j; other = λ i l ne j h. other_cells added.rest i ne j }

  pub spare_add : k < n → m < n → Spare n (cell ws width) → Spare n (cell ws' width)
  spare_add kn mn s i l j h = elim (cases_eq i k) [
    | inl e ↦ subst (λ z. cell ws' width z j ≡ false) (sym e) (added.here j ∙ ap₂ (λ x y. differ x y) (s k kn j h) (s m mn j h))
    | inr ne ↦ other_cells added.rest i ne j ∙ s i l j h
  ]

pub kept_none : (n : ℕ) (R T : Rows) → Kept n R T R T
kept_none n R T = record { tracks = λ A h. h; spare_rows = λ h. h; spare_done = λ h. h }

pub kept_both : (n : ℕ) (R T R₁ T₁ R₂ T₂ : Rows) → Kept n R T R₁ T₁ → Kept n R₁ T₁ R₂ T₂ → Kept n R T R₂ T₂
kept_both n R T R₁ T₁ R₂ T₂ a b = record {
  tracks = λ A h. b.tracks A (a.tracks A h);
  spare_rows = λ h. b.spare_rows (a.spare_rows h);
  spare_done = λ h. b.spare_done (a.spare_done h);
}

pub kept_add : (n width : ℕ) (rs ts rs' ts' : List ℕ) (k m : ℕ) → k < n → m < n → m ≢ k
    → RowAdded rs rs' width k m → RowAdded ts ts' width k m
    → Kept n (cell rs width) (cell ts width) (cell rs' width) (cell ts' width)
kept_add n width rs ts rs' ts' k m kn mn ne r t = record {
  tracks = λ A h. tracks_add n A _ _ _ _ k m kn mn ne (adds n width rs rs' k m r) (adds n width ts ts' k m t) h;
  spare_rows = spare_add n width rs rs' k m r kn mn;
  spare_done = spare_add n width ts ts' k m t kn mn;
}
