-- A row is put, and the steps are kept. Assumes nothing.
use Rattle.std.proofs.Common.{◌≡◌, ℕ, ◌<◌, ◌≤◌, false, None, List, sym, ◌∙◌, subst, inl, inr, arith}
use Rattle.std.proofs.lemmas.Bool.{cases_eq, ne_eqb}
use Rattle.gf2.specs.Rows.{Row, only}
use Rattle.gf2.specs.Reduction.{PutsRow}
use Rattle.gf2.proofs.Update.{freeing_end}
use Rattle.matrix.specs.Cells.{cell, Spare}
use Rattle.matrix.specs.Said.{RowPut}
use Rattle.matrix.proofs.Memory.{other_cells}
use Rattle.echelon.specs.Steps.{Settles}
use Rattle.update.specs.Said.{Taken, Taking, Frees, Replaces}
use Rattle.update.proofs.Choosing.{taking_some, taking_chosen}

module _ (n width : ℕ) (ws ws' : List ℕ) (k : ℕ) (a : Row) (p : RowPut ws ws' width k a) where
  pub puts : PutsRow n (cell ws width) (cell ws' width) k a
  puts = record { here = λ j l. p.here j; other = λ i l ne j h. other_cells p.rest i ne j }

  pub spare_put : ((j : ℕ) → n ≤ j → a j ≡ false) → Spare n (cell ws width) → Spare n (cell ws' width)
  spare_put none s i l j h = elim (cases_eq i k) [
    | inl e ↦ subst (λ z. cell ws' width z j ≡ false) (sym e) (p.here j ∙ none j h)
    | inr ne ↦ other_cells p.rest i ne j ∙ s i l j h
  ]

-- no row was found: there were no steps
pub replaces_none : (n width : ℕ) (rs ts : List ℕ) (c : ℕ → ℕ) (l : ℕ) (a : Row) → l < n → Taking n width ts c l n None → Replaces n width rs ts c rs ts c l a
replaces_none n width rs ts c l a ln none = record {
  steps = λ A B p h v. absurd (taking_some n width A (cell rs width) ts c l ln h none);
  columns = λ h. h;
  spare_rows = λ _ h. h;
  spare_done = λ h. h;
}

module _ (n width : ℕ) (rs ts rs₁ ts₁ rs₂ ts₂ rs₃ ts₃ : List ℕ) (c c' : ℕ → ℕ) (l k : ℕ) (a : Row) (ln : l < n) where
  pub replaces_row : Taken n width ts c l n k → Frees n width rs ts rs₁ ts₁ k l n → RowPut rs₁ rs₂ width k a → RowPut ts₁ ts₂ width k (only l)
      → Settles n width rs₂ ts₂ c rs₃ ts₃ c' k → Replaces n width rs ts c rs₃ ts₃ c' l a
  replaces_row w f r t s = record {
    steps = λ A B p h v.
        let kn = w.within in
        let e = freeing_end n A B (cell rs₁ width) (cell rs₂ width) (cell ts₁ width) (cell ts₂ width) c l k a ln kn p
        (puts n width rs₁ rs₂ k a r) (puts n width ts₁ ts₂ k (only l) t)
        (f.freeing A c h v w.made (taking_chosen n width (cell rs width) ts c l k v w)) in
        (s.kept.tracks B e.0, s.all e.1);
    columns = λ h i b. elim (cases_eq i k) [
      | inl e ↦ subst (λ z. c' z ≤ n) (sym e) s.column
      | inr ne ↦ omega (arith, s.columns i ne, h i b)
    ];
    spare_rows = λ none h. s.kept.spare_rows (spare_put n width rs₁ rs₂ k a r none (f.kept.spare_rows h));
    spare_done = λ h. s.kept.spare_done (spare_put n width ts₁ ts₂ k (only l) t (λ j b. ne_eqb j l (omega arith)) (f.kept.spare_done h));
  }
