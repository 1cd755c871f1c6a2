-- The steps of a system of zeros; and from those the steps of any. Assumes nothing.
use Rattle.std.proofs.Common.{◌≡◌, ℕ, ◌+◌, ◌<◌, false, eqb, List, sym, refl, ◌∙◌, ap₂, inl, inr, arith}
use mathlib.Core.Bool.{false≢true}
use Rattle.std.proofs.lemmas.Bool.{cases_eq, eq-eqb, ne_eqb}
use Rattle.gf2.specs.Rows.{differ, nowhere}
use Rattle.gf2.proofs.Tracks.{tracks_start}
use Rattle.bits.specs.Bits.{bit_of}
use Rattle.matrix.proofs.Memory.{cell_clear}
use Rattle.matrix.specs.Cells.{cell}
use Rattle.matrix.specs.Said.{Identity}
use Rattle.echelon.specs.Steps.{InSteps}
use Rattle.update.specs.Said.{Marked, Refreshes}

pub marked_more : (ms ms' : List ℕ) (m : ℕ) → Marked ms m → ((i : ℕ) → bit_of ms' i ≡ differ (bit_of ms i) (eqb i m)) → Marked ms' (m + 1)
marked_more ms ms' m h flipped = record {
  set = λ i l. elim (cases_eq i m) [
    | inl e ↦ flipped i ∙ ap₂ (λ x y. differ x y) (h.rest i (omega arith)) (eq-eqb i m e)
    | inr ne ↦ flipped i ∙ ap₂ (λ x y. differ x y) (h.set i (omega arith)) (ne_eqb i m ne)
  ];
  rest = λ i l. flipped i ∙ ap₂ (λ x y. differ x y) (h.rest i (omega arith)) (ne_eqb i m (omega arith));
}

pub zeros_steps : (n width : ℕ) (rs ts : List ℕ) (c : ℕ → ℕ) → ((k : ℕ) → bit_of rs k ≡ false) → Identity width ts n → ((i : ℕ) → i < n → c i ≡ n)
    → InSteps n (λ _. nowhere) (cell rs width) (cell ts width) c
zeros_steps n width rs ts c clear id none_yet = record {
  tracks = tracks_start n (λ _. nowhere) (cell rs width) (cell ts width) (λ i l j h. off i j) (λ i l j h. id.unit i l j);
  pivots = record {
    on = λ i l p. absurd (omega (arith, none_yet i l));
    alone = λ i l p. absurd (omega (arith, none_yet i l));
    none = λ i l g j h. off i j;
  };
  columns = λ i l. omega (arith, none_yet i l);
  spare_rows = λ _ i l j h. off i j;
  spare_done = λ i l j h. id.unit i l j ∙ ne_eqb j i (omega arith);
}
  where
    off : (i j : ℕ) → cell rs width i j ≡ false
    off i j = cell_clear rs width i j clear

pub steps_refreshed : (n width : ℕ) (ws ms rs ts : List ℕ) (c : ℕ → ℕ) (rs' ts' : List ℕ) (c' : ℕ → ℕ) → Marked ms n
    → InSteps n (λ _. nowhere) (cell rs width) (cell ts width) c → Refreshes n width ws ms rs ts c rs' ts' c'
    → InSteps n (cell ws width) (cell rs' width) (cell ts' width) c'
steps_refreshed n width ws ms rs ts c rs' ts' c' marked s r =
    let e = r.steps (λ _. nowhere) (λ i l off. absurd (false≢true (sym off ∙ marked.set i l))) s.tracks s.pivots in
    record {
      tracks = e.0;
      pivots = e.1;
      columns = r.columns s.columns;
      spare_rows = λ h. r.spare_rows h (s.spare_rows (λ i l j g. refl));
      spare_done = r.spare_done s.spare_done;
    }
