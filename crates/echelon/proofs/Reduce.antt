-- One turn of the loop that reduces row k: row m is passed by, or added to row k. Assumes nothing.
use Rattle.std.proofs.Common.{◌≡◌, ℕ, ◌+◌, ◌<◌, ◌≤◌, true, false, ◌≢◌, List, sym, refl, ap, ◌∙◌, arith}
use Rattle.gf2.specs.Reduction.{Settled}
use Rattle.gf2.proofs.Settle.{settled_but, reduce_skip, reduce_add}
use Rattle.bits.specs.Bits.{bit_of}
use Rattle.matrix.specs.Said.{RowAdded}
use Rattle.matrix.proofs.Memory.{other_rows}
use Rattle.matrix.specs.Cells.{cell}
use Rattle.echelon.specs.Steps.{Reducing}
use Rattle.echelon.proofs.Kept.{kept_none, kept_both, kept_add, adds}

pub reduce_none : (n width : ℕ) (rs ts : List ℕ) (c : ℕ → ℕ) (k : ℕ) → Reducing n width rs ts rs ts c k 0
reduce_none n width rs ts c k = record {
  kept = kept_none n _ _;
  others = λ i ne. refl;
  reduced = λ s i l di v p. absurd (omega arith);
}

module _ (n width : ℕ) (rs ts rs₁ ts₁ : List ℕ) (c : ℕ → ℕ) (k m : ℕ) (so_far : Reducing n width rs ts rs₁ ts₁ c k m) where
  -- the other rows are settled as they were
  pub still_settled : Settled n (λ i. i ≢ k) (cell rs width) c → Settled n (λ i. i ≢ k) (cell rs₁ width) c
  still_settled s = settled_but n (λ i. i ≢ k) (cell rs width) (cell rs₁ width) c k (λ d. d refl) (λ i l ne j h. ap (λ r. bit_of r j) (so_far.others i ne)) s

  skip : (m ≢ k → c m < n → cell rs₁ width k (c m) ≡ false) → Reducing n width rs ts rs₁ ts₁ c k (m + 1)
  skip off = record {
    kept = so_far.kept;
    others = so_far.others;
    reduced = λ s. reduce_skip n (λ i. i ≢ k) (λ i. i < m) (λ i. i < m + 1) c k m (λ i l ne. omega arith) (cell rs₁ width) off (so_far.reduced s);
  }

  pub reduce_itself : m ≡ k → Reducing n width rs ts rs₁ ts₁ c k (m + 1)
  reduce_itself e = skip (λ ne p. absurd (ne e))

  pub reduce_no_pivot : n ≤ c m → Reducing n width rs ts rs₁ ts₁ c k (m + 1)
  reduce_no_pivot g = skip (λ ne p. absurd (omega arith))

  pub reduce_off : false ≡ cell rs₁ width k (c m) → Reducing n width rs ts rs₁ ts₁ c k (m + 1)
  reduce_off off = skip (λ ne p. sym off)

  pub reduce_by : k < n → m < n → m ≢ k → c m < n → true ≡ cell rs₁ width k (c m) → (rs₂ ts₂ : List ℕ)
      → RowAdded rs₁ rs₂ width k m → RowAdded ts₁ ts₂ width k m → Reducing n width rs ts rs₂ ts₂ c k (m + 1)
  reduce_by kn mn ne cm lit rs₂ ts₂ r t = record {
    kept = kept_both n _ _ _ _ _ _ so_far.kept (kept_add n width rs₁ ts₁ rs₂ ts₂ k m kn mn ne r t);
    others = λ i d. other_rows r.rest i d ∙ so_far.others i d;
    reduced = λ s. reduce_add n (λ i. i ≢ k) (λ i. i < m) (λ i. i < m + 1) c k m (λ i l x. omega arith) (cell rs₁ width) (cell rs₂ width)
        mn ne cm (sym lit) (adds n width rs₁ rs₂ k m r) (still_settled s) (so_far.reduced s);
  }
