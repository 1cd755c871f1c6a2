-- One turn of the loop that frees the rows of row l: row m is passed by, or row k added to it. Assumes nothing.
use Rattle.std.proofs.Common.{◌≡◌, ℕ, ◌+◌, ◌<◌, ◌≤◌, true, false, ◌≢◌, List, sym, arith}
use Rattle.gf2.proofs.Update.{freeing_start, freeing_skip, freeing_add}
use Rattle.matrix.specs.Said.{RowAdded}
use Rattle.matrix.specs.Cells.{cell}
use Rattle.echelon.proofs.Kept.{kept_none, kept_both, kept_add, adds}
use Rattle.update.specs.Said.{Frees}

pub frees_none : (n width : ℕ) (rs ts : List ℕ) (k l : ℕ) → k < n → Frees n width rs ts rs ts k l 0
frees_none n width rs ts k l kn = record {
  kept = kept_none n _ _;
  freeing = λ A c h v lit ch. freeing_start n A (cell rs width) (cell ts width) c l k (λ i. i < 0) kn (λ m x. omega arith) h v lit ch;
}

module _ (n width : ℕ) (rs ts rs₁ ts₁ : List ℕ) (k l m : ℕ) (so_far : Frees n width rs ts rs₁ ts₁ k l m) where
  skip : (m ≢ k → cell ts₁ width m l ≡ false) → Frees n width rs ts rs₁ ts₁ k l (m + 1)
  skip off = record {
    kept = so_far.kept;
    freeing = λ A c h v lit ch.
        freeing_skip n A c l k m (λ i. i < m) (λ i. i < m + 1) (λ i w ne. omega arith) (cell rs₁ width) (cell ts₁ width) off (so_far.freeing A c h v lit ch);
  }

  pub frees_itself : m ≡ k → Frees n width rs ts rs₁ ts₁ k l (m + 1)
  frees_itself e = skip (λ ne. absurd (ne e))

  pub frees_off : false ≡ cell ts₁ width m l → Frees n width rs ts rs₁ ts₁ k l (m + 1)
  frees_off off = skip (λ ne. sym off)

  pub frees_from : k < n → m < n → l < n → m ≢ k → true ≡ cell ts₁ width m l → (rs₂ ts₂ : List ℕ)
      → RowAdded rs₁ rs₂ width m k → RowAdded ts₁ ts₂ width m k → Frees n width rs ts rs₂ ts₂ k l (m + 1)
  frees_from kn mn ln ne has rs₂ ts₂ r t = record {
    kept = kept_both n _ _ _ _ _ _ so_far.kept (kept_add n width rs₁ ts₁ rs₂ ts₂ m k mn kn (λ e. ne (sym e)) r t);
    freeing = λ A c h v lit ch.
        freeing_add n A c l k m (λ i. i < m) (λ i. i < m + 1) (λ i w d. omega arith) (cell rs₁ width) (cell ts₁ width) (cell rs₂ width) (cell ts₂ width)
        ln kn mn ne (sym has) (adds n width rs₁ rs₂ m k r) (adds n width ts₁ ts₂ m k t) (so_far.freeing A c h v lit ch);
  }

pub frees_end : (n width : ℕ) (rs ts rs₁ ts₁ : List ℕ) (k l m : ℕ) → n ≤ m → Frees n width rs ts rs₁ ts₁ k l m → Frees n width rs ts rs₁ ts₁ k l n
frees_end n width rs ts rs₁ ts₁ k l m g f = record {
  kept = f.kept;
  freeing = λ A c h v lit ch.
      let e = f.freeing A c h v lit ch in
      record { tracks = e.tracks; settled = e.settled; reduced = e.reduced; lit = e.lit; chosen = e.chosen; freed = λ i b w ne. e.freed i b (omega arith) ne };
}
