-- Row k is settled: it was reduced, and then it takes a pivot or is zero. Assumes nothing.
use Rattle.std.proofs.Common.{◌≡◌, ℕ, ◌<◌, ◌≢◌, List, sym, refl, ◌∙◌, subst, zero-le, inl, inr, arith}
use Rattle.gf2.specs.Rows.{Same, nowhere}
use Rattle.gf2.specs.Reduction.{Puts, Pivots, Settled}
use Rattle.gf2.proofs.Settle.{settled_all, settle_pivot, settle_none}
use Rattle.gf2.proofs.Blocks.{clears_clear, clears_settled}
use Rattle.bits.specs.Said.{First}
use Rattle.matrix.specs.Cells.{cell}
use Rattle.echelon.specs.Steps.{Reducing, Clearing, TakesPivot, Settles}
use Rattle.echelon.proofs.Kept.{kept_both}
use Rattle.echelon.proofs.Reduce.{still_settled}

module _ (n width : ℕ) (rs ts rs₁ ts₁ rs₂ ts₂ : List ℕ) (c c' : ℕ → ℕ) (k : ℕ) (kn : k < n)
    (red : Reducing n width rs ts rs₁ ts₁ c k n) (takes : TakesPivot n width rs₁ ts₁ c rs₂ ts₂ c' 0 n k) where
  puts : (x : ℕ) → c' k ≡ x → Puts n c c' k x
  puts x here = record { here = here; other = λ i l ne. takes.columns i ne }

  zero_row : Same n (cell rs₁ width k) nowhere → c' k ≡ n → Settles n width rs ts c rs₁ ts₁ c' k
  zero_row off here = record { kept = red.kept; column = omega (arith, here); columns = takes.columns; all = all }
    where
      all : Settled n (λ i. i ≢ k) (cell rs width) c → Pivots n (cell rs₁ width) c'
      all s = settled_all n (cell rs₁ width) c' (
          settle_none n (λ i. i ≢ k) (λ i. i < n) (cell rs₁ width) c c' k n (λ i l ne. ne) (puts n here) (still_settled n width rs ts rs₁ ts₁ c k n red s)
          kn (omega arith) off)

  pivot : First n (cell rs₁ width k) (c' k) → Clearing width rs₁ ts₁ rs₂ ts₂ 0 n k (c' k) → Settles n width rs ts c rs₂ ts₂ c' k
  pivot first clear = record {
    kept = kept_both n _ _ _ _ _ _ red.kept (clear.kept n (omega arith) kn);
    column = omega (arith, first.within);
    columns = takes.columns;
    all = all;
  }
    where
      all : Settled n (λ i. i ≢ k) (cell rs width) c → Pivots n (cell rs₂ width) c'
      all s =
          let off = red.reduced s in
          let x = c' k in
          let xn = first.within in
          settled_all n (cell rs₂ width) c' (
          settle_pivot n (λ i. i ≢ k) (λ i. i < n) (cell rs₂ width) c c' k x (λ i l ne. ne) (puts x refl)
          (clears_settled n (cell rs₁ width) (cell rs₂ width) c k x xn clear.clears off (still_settled n width rs ts rs₁ ts₁ c k n red s))
          kn xn (clear.clears.same x ∙ first.here) (λ i l di v p. clear.clears.same (c i) ∙ off i l di v p)
          (λ q b dq v ne. clears_clear (cell rs₁ width) (cell rs₂ width) 0 n k x clear.clears first.here q zero-le b ne))

  pub settles : Settles n width rs ts c rs₂ ts₂ c' k
  settles = elim takes.taken [
    | inl z ↦ subst (λ xs. Settles n width rs ts c xs ts₂ c' k) (sym z.2) (subst (λ ys. Settles n width rs ts c rs₁ ys c' k) (sym z.3) (zero_row z.0 z.1))
    | inr p ↦ pivot p.0 p.1
  ]
