-- One turn of the loop that clears a column: row m is passed by, or row k added to it. Assumes nothing.
use Rattle.std.proofs.Common.{◌≡◌, ℕ, ◌+◌, ◌<◌, ◌≤◌, Bool, true, false, ◌&&◌, ◌≢◌, ◌⊎◌, List, sym, refl, ap, ◌∙◌, subst, inl, inr, arith}
use Rattle.std.proofs.lemmas.Bool.{cases_eq}
use Rattle.gf2.specs.Rows.{differ}
use Rattle.gf2.proofs.Blocks.{off_and}
use Rattle.matrix.specs.Said.{RowAdded}
use Rattle.matrix.proofs.Memory.{other_cells}
use Rattle.matrix.specs.Cells.{cell}
use Rattle.echelon.specs.Steps.{Clearing}
use Rattle.echelon.proofs.Kept.{kept_none, kept_both, kept_add}

pub clear_none : (width : ℕ) (rs ts : List ℕ) (from k j : ℕ) → Clearing width rs ts rs ts from from k j
clear_none width rs ts from k j = record {
  kept = λ n l kn. kept_none n _ _;
  clears = record { added = λ i g l. absurd (omega arith); outside = λ i o b. refl; same = λ b. refl };
}

on_and : (a b x y : Bool) → a ≡ true → b ≡ x → differ y b ≡ differ y (a && x)
on_and a b x y e f = grind arith

module _ (width : ℕ) (rs ts rs₁ ts₁ : List ℕ) (from m k j : ℕ) (g : from ≤ m) (so_far : Clearing width rs ts rs₁ ts₁ from m k j) where
  -- row m is as it was
  row_same : (b : ℕ) → cell rs₁ width m b ≡ cell rs width m b
  row_same = so_far.clears.outside m (inr (omega arith))

  past : (i : ℕ) → (i < from) ⊎ (m + 1 ≤ i) → (i < from) ⊎ (m ≤ i)
  past i o = elim o [ inl l ↦ inl l | inr h ↦ inr (omega arith) ]

  skip : (m ≢ k → cell rs width m j ≡ false) → Clearing width rs ts rs₁ ts₁ from (m + 1) k j
  skip off = record {
    kept = λ n l kn. so_far.kept n (omega arith) kn;
    clears = record {
      added = λ i h l ne b. elim (cases_eq i m) [
        | inl e ↦ subst (λ z. z ≢ k → cell rs₁ width z b ≡ differ (cell rs width z b) (cell rs width z j && cell rs width k b)) (sym e)
            (λ d. row_same b ∙ sym (off_and (cell rs width m j) (cell rs width k b) (cell rs width m b) (off d))) ne
        | inr x ↦ so_far.clears.added i h (omega arith) ne b
      ];
      outside = λ i o. so_far.clears.outside i (past i o);
      same = so_far.clears.same;
    };
  }

  pub clear_itself : m ≡ k → Clearing width rs ts rs₁ ts₁ from (m + 1) k j
  clear_itself e = skip (λ ne. absurd (ne e))

  pub clear_off : false ≡ cell rs₁ width m j → Clearing width rs ts rs₁ ts₁ from (m + 1) k j
  clear_off off = skip (λ ne. sym (row_same j) ∙ sym off)

  pub clear_from : m ≢ k → true ≡ cell rs₁ width m j → (rs₂ ts₂ : List ℕ)
      → RowAdded rs₁ rs₂ width m k → RowAdded ts₁ ts₂ width m k → Clearing width rs ts rs₂ ts₂ from (m + 1) k j
  clear_from ne has rs₂ ts₂ r t = record {
    kept = λ n l kn. kept_both n _ _ _ _ _ _ (so_far.kept n (omega arith) kn) (kept_add n width rs₁ ts₁ rs₂ ts₂ m k (omega arith) kn (λ e. ne (sym e)) r t);
    clears = record {
      added = λ i h l d b. elim (cases_eq i m) [
        | inl e ↦ subst (λ z. cell rs₂ width z b ≡ differ (cell rs width z b) (cell rs width z j && cell rs width k b)) (sym e)
            (r.here b ∙ ap (λ x. differ x (cell rs₁ width k b)) (row_same b)
            ∙ on_and (cell rs width m j) (cell rs₁ width k b) (cell rs width k b) (cell rs width m b) (sym (row_same j) ∙ sym has) (so_far.clears.same b))
        | inr x ↦ other_cells r.rest i x b ∙ so_far.clears.added i h (omega arith) d b
      ];
      outside = λ i o b. other_cells r.rest i (elim o [ inl l ↦ (omega arith) | inr h ↦ (omega arith) ]) b ∙ so_far.clears.outside i (past i o) b;
      same = λ b. other_cells r.rest k (λ e. ne (sym e)) b ∙ so_far.clears.same b;
    };
  }
