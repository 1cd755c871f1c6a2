-- The marked rows are replaced one after the other. Assumes nothing.
use Rattle.std.proofs.Common.{◌≡◌, ℕ, ◌+◌, ◌<◌, ◌≤◌, false, ◌⊎◌, List, sym, ◌∙◌, subst, inl, inr, arith}
use Rattle.std.proofs.lemmas.Bool.{cases_eq}
use Rattle.gf2.specs.Rows.{Rows, Same}
use Rattle.gf2.specs.Reduction.{Tracks, Pivots, put_row}
use Rattle.gf2.proofs.Update.{put_row_puts, tracks_same}
use Rattle.bits.specs.Bits.{bit_of}
use Rattle.matrix.specs.Cells.{cell, Spare}
use Rattle.echelon.specs.Steps.{InSteps}
use Rattle.update.specs.Said.{Replaces, ButMarked, Refreshes}

-- the rows before row m are as in the wires, and so are those that are not marked
abbrev pub ButLater : ℕ → ℕ → List ℕ → List ℕ → ℕ → Rows → Type 0
ButLater n width ws ms m B = (i : ℕ) → i < n → (i < m) ⊎ (bit_of ms i ≡ false) → Same n (B i) (cell ws width i)

pub record Refreshing (n width : ℕ) (ws ms rs ts : List ℕ) (c : ℕ → ℕ) (rs' ts' : List ℕ) (c' : ℕ → ℕ) (m : ℕ) : Type 0 where
  pub steps : (B : Rows) → ButMarked n width ws ms B → Tracks n B (cell rs width) (cell ts width) → Pivots n (cell rs width) c
      → (D : Rows) × ButLater n width ws ms m D × Tracks n D (cell rs' width) (cell ts' width) × Pivots n (cell rs' width) c'
  pub columns : ((i : ℕ) → i < n → c i ≤ n) → (i : ℕ) → i < n → c' i ≤ n
  pub spare_rows : Spare n (cell ws width) → Spare n (cell rs width) → Spare n (cell rs' width)
  pub spare_done : Spare n (cell ts width) → Spare n (cell ts' width)

pub refreshing_none : (n width : ℕ) (ws ms rs ts : List ℕ) (c : ℕ → ℕ) → Refreshing n width ws ms rs ts c rs ts c 0
refreshing_none n width ws ms rs ts c = record {
  steps = λ B same h v. (B, (λ i l d. elim d [ inl z ↦ absurd (omega arith) | inr off ↦ same i l off ]), h, v);
  columns = λ h. h;
  spare_rows = λ _ h. h;
  spare_done = λ h. h;
}

module _ (n width : ℕ) (ws ms rs ts : List ℕ) (c : ℕ → ℕ) (rs₁ ts₁ : List ℕ) (c₁ : ℕ → ℕ) (m : ℕ) (so_far : Refreshing n width ws ms rs ts c rs₁ ts₁ c₁ m) where
  pub refreshing_skip : false ≡ bit_of ms m → Refreshing n width ws ms rs ts c rs₁ ts₁ c₁ (m + 1)
  refreshing_skip off = record {
    steps = λ B same h v.
        let e = so_far.steps B same h v in
        (e.0, (λ i l d. e.1 i l (again i d)), e.2, e.3);
    columns = so_far.columns;
    spare_rows = so_far.spare_rows;
    spare_done = so_far.spare_done;
  }
    where
      again : (i : ℕ) → (i < m + 1) ⊎ (bit_of ms i ≡ false) → (i < m) ⊎ (bit_of ms i ≡ false)
      again i d = elim (cases_eq i m) [
        | inl e ↦ inr (subst (λ z. bit_of ms z ≡ false) (sym e) (sym off))
        | inr ne ↦ elim d [ inl b ↦ inl (omega arith) | inr f ↦ inr f ]
      ]

  pub refreshing_row : m < n → (rs₂ ts₂ : List ℕ) (c₂ : ℕ → ℕ) → Replaces n width rs₁ ts₁ c₁ rs₂ ts₂ c₂ m (cell ws width m)
      → Refreshing n width ws ms rs ts c rs₂ ts₂ c₂ (m + 1)
  refreshing_row mn rs₂ ts₂ c₂ r = record {
    steps = λ B same h v.
        let e = so_far.steps B same h v in
        let put = put_row_puts n e.0 m (cell ws width m) in
        let f = r.steps e.0 (put_row e.0 m (cell ws width m)) put e.2 e.3 in
        (put_row e.0 m (cell ws width m), later e.0 e.1, f.0, f.1);
    columns = λ h. r.columns (so_far.columns h);
    spare_rows = λ s h. r.spare_rows (s m mn) (so_far.spare_rows s h);
    spare_done = λ h. r.spare_done (so_far.spare_done h);
  }
    where
      later : (D : Rows) → ButLater n width ws ms m D → ButLater n width ws ms (m + 1) (put_row D m (cell ws width m))
      later D so i l d = elim (cases_eq i m) [
        | inl e ↦ subst (λ z. Same n (put_row D m (cell ws width m) z) (cell ws width z)) (sym e) (put_row_puts n D m (cell ws width m)).here
        | inr ne ↦ λ j b. (put_row_puts n D m (cell ws width m)).other i l ne j b ∙ so i l (elim d [ inl x ↦ inl (omega arith) | inr f ↦ inr f ]) j b
      ]

pub refreshing_end : (n width : ℕ) (ws ms rs ts : List ℕ) (c : ℕ → ℕ) (rs₁ ts₁ : List ℕ) (c₁ : ℕ → ℕ) (m : ℕ) → n ≤ m
    → Refreshing n width ws ms rs ts c rs₁ ts₁ c₁ m → Refreshes n width ws ms rs ts c rs₁ ts₁ c₁
refreshing_end n width ws ms rs ts c rs₁ ts₁ c₁ m g h = record {
  steps = λ B same t v.
      let e = h.steps B same t v in
      (tracks_same n e.0 (cell ws width) (cell rs₁ width) (cell ts₁ width) (λ i l. e.1 i l (inl (omega arith))) e.2, e.3);
  columns = h.columns;
  spare_rows = h.spare_rows;
  spare_done = h.spare_done;
}

-- steps that were made from nothing are those of the wires, whatever there was before
pub refreshed_whole : (n width : ℕ) (ws ms rs ts : List ℕ) (c : ℕ → ℕ) (rs' ts' : List ℕ) (c' : ℕ → ℕ) → InSteps n (cell ws width) (cell rs' width) (cell ts' width) c'
    → Refreshes n width ws ms rs ts c rs' ts' c'
refreshed_whole n width ws ms rs ts c rs' ts' c' h = record {
  steps = λ B rest tr pv. (h.tracks, h.pivots);
  columns = λ _. h.columns;
  spare_rows = λ spare _. h.spare_rows spare;
  spare_done = λ _. h.spare_done;
}
