-- The identity: zeros, and then bit i of row i turned over, for one row after the other. Assumes nothing.
use Rattle.std.proofs.Common.{◌≡◌, ℕ, ◌+◌, false, List, sym, ap, ◌∙◌, subst, inl, inr, arith}
use Rattle.std.proofs.lemmas.Bool.{cases_eq}
use Rattle.gf2.specs.Rows.{differ, only}
use Rattle.bits.specs.Bits.{bit_of}
use Rattle.matrix.specs.Cells.{cell}
use Rattle.matrix.specs.Said.{Flipped, Identity}
use Rattle.matrix.proofs.Memory.{cell_clear, other_cells}

pub identity_none : (width : ℕ) (ws : List ℕ) → ((k : ℕ) → bit_of ws k ≡ false) → Identity width ws 0
identity_none width ws clear = record { unit = λ i l j. absurd (omega arith); rest = λ i l j. cell_clear ws width i j clear }

pub identity_more : (width : ℕ) (ws ws' : List ℕ) (m : ℕ) → Identity width ws m → Flipped ws ws' width m m → Identity width ws' (m + 1)
identity_more width ws ws' m so_far flipped = record {
  unit = λ i l j. elim (cases_eq i m) [
    | inl e ↦ subst (λ z. cell ws' width z j ≡ only z j) (sym e) (flipped.here j ∙ ap (λ b. differ b (only m j)) (so_far.rest m (omega arith) j))
    | inr ne ↦ other_cells flipped.rest i ne j ∙ so_far.unit i (omega arith) j
  ];
  rest = λ i l j. other_cells flipped.rest i (omega arith) j ∙ so_far.rest i (omega arith) j;
}
