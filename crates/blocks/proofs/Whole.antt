-- Blocks of rows reduced one after the other. Assumes nothing.
use Rattle.std.proofs.Common.{◌≡◌, ℕ, ◌<◌, ◌≤◌, List, sym, refl, ◌∙◌, subst, inl, inr, arith}
use Rattle.std.proofs.lemmas.Bool.{cases_lt, ne_eqb}
use Rattle.gf2.specs.Rows.{Rows}
use Rattle.gf2.specs.Reduction.{Tracks}
use Rattle.gf2.specs.Blocks.{Stepped}
use Rattle.gf2.proofs.Tracks.{tracks_start}
use Rattle.gf2.proofs.Blocks.{stepped_none, stepped_zeros}
use Rattle.matrix.specs.Cells.{cell, Spare}
use Rattle.matrix.specs.Said.{Identity}
use Rattle.blocks.specs.Said.{FirstRow, BlockReduces}

-- the first k rows have their pivots, and the others none yet
pub record Working (n width : ℕ) (A : Rows) (rs ts : List ℕ) (c : ℕ → ℕ) (k : ℕ) : Type 0 where
  pub tracks : Tracks n A (cell rs width) (cell ts width)
  pub stepped : Stepped n (cell rs width) c k
  pub waiting : (i : ℕ) → k ≤ i → i < n → c i ≡ n
  pub columns : (i : ℕ) → i < k → c i ≤ n
  pub spare_rows : Spare n A → Spare n (cell rs width)
  pub spare_done : Spare n (cell ts width)

pub working_start : (n width : ℕ) (rs ts : List ℕ) (c : ℕ → ℕ) → Identity width ts n → ((i : ℕ) → i < n → c i ≡ n) → Working n width (cell rs width) rs ts c 0
working_start n width rs ts c id none_yet = record {
  tracks = tracks_start n (cell rs width) (cell rs width) (cell ts width) (λ i l j h. refl) (λ i l j h. id.unit i l j);
  stepped = stepped_none n (cell rs width) c;
  waiting = λ i g l. none_yet i l;
  columns = λ i l. absurd (omega arith);
  spare_rows = λ h. h;
  spare_done = λ i l j h. id.unit i l j ∙ ne_eqb j i (omega arith);
}

-- rows without a bit are passed by
pub working_next : (n width : ℕ) (A : Rows) (rs ts : List ℕ) (c : ℕ → ℕ) (k r : ℕ) → Working n width A rs ts c k → FirstRow width rs k n r → Working n width A rs ts c r
working_next n width A rs ts c k r w found = record {
  tracks = w.tracks;
  stepped = stepped_zeros n (cell rs width) c k r w.stepped (λ i g l. omega (arith, w.waiting i g (omega (arith, found.most)))) (λ i g l j h. found.before i g l j);
  waiting = λ i g l. w.waiting i (omega (arith, found.least)) l;
  columns = λ i l. elim (cases_lt i k) [ inl b ↦ w.columns i b | inr g ↦ omega (arith, w.waiting i g (omega (arith, found.most))) ];
  spare_rows = w.spare_rows;
  spare_done = w.spare_done;
}

pub working_block : (n width : ℕ) (A : Rows) (rs ts : List ℕ) (c : ℕ → ℕ) (rs' ts' : List ℕ) (c' : ℕ → ℕ) (k end : ℕ) → k ≤ end
    → Working n width A rs ts c k → BlockReduces n width rs ts c rs' ts' c' k end → Working n width A rs' ts' c' end
working_block n width A rs ts c rs' ts' c' k end ke w b = record {
  tracks = b.kept.tracks A w.tracks;
  stepped = b.steps w.stepped;
  waiting = λ i g l. b.columns i (inr g) ∙ w.waiting i (omega arith) l;
  columns = λ i l. elim (cases_lt i k) [ inl h ↦ subst (λ z. z ≤ n) (sym (b.columns i (inl h))) (w.columns i h) | inr g ↦ b.column i g l ];
  spare_rows = λ h. b.kept.spare_rows (w.spare_rows h);
  spare_done = b.kept.spare_done w.spare_done;
}
