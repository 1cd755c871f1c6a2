-- The sets of rows that sum to nothing: each is the sum of some of those that the reduction made the rows without a pivot from. A may be any table.
-- Assumes nothing.
use Rattle.std.proofs.Common.{◌≡◌, ℕ, ◌<◌, true, false, ◌&&◌, sym, refl, ap, ◌∙◌, inl, inr}
use mathlib.Core.Bool.{false≢true}
use Rattle.std.proofs.lemmas.Bool.{and_right}
use Rattle.gf2.specs.Rows.{Row, Rows, Same, nowhere, dot, act}
use Rattle.gf2.specs.Reduction.{Tracks, Pivots, LeftQuiet}
use Rattle.gf2.proofs.Rows.{and_comm, parity_alone, dot_comm, dot_left, dot_right, none_dot, dot_none, dot_act}
use Rattle.gf2.proofs.Tracks.{row_made}
use Rattle.gf2.proofs.Alternative.{Either, alternative}

-- q is the sum of the rows of T that w has
abbrev pub MadeOf : ℕ → Rows → Row → Row → Type 0
MadeOf n T q w = (l : ℕ) → l < n → dot n w (λ i. T i l) ≡ q l

module _ (n : ℕ) (A R T : Rows) (tr : Tracks n A R T) where
  -- T makes nothing of nothing else
  no_kernel : (x : Row) → ((i : ℕ) → i < n → act n T x i ≡ false) → Same n x nowhere
  no_kernel x h i l =
      sym (tr.backward nowhere x (λ k b. dot_none n (R k) nowhere (λ j _. refl) ∙ sym (h k b)) i l)
      ∙ dot_none n (A i) nowhere (λ j _. refl)

  -- each row is a sum of rows of T
  pub made_of : (q : Row) → (w : Row) × MadeOf n T q w
  made_of q = go (alternative n (λ l i. T i l) q)
    where
      go : Either n (λ l i. T i l) q → (w : Row) × MadeOf n T q w
      go (inl a) = (a.0, λ l b. dot_comm n a.0 (λ i. T i l) ∙ a.1 l b)
      go (inr b) =
          let x = b.0 in
          let off : Same n x nowhere = no_kernel x (λ i l. dot_comm n (T i) x ∙ b.1.0 i l) in
          absurd (false≢true (sym (none_dot n x q off) ∙ b.1.1))

  module _ (c : ℕ → ℕ) (v : Pivots n R c) (q : Row) (quiet : LeftQuiet n A q) where
    -- the rows of R sum to nothing likewise
    sums_off : (w : Row) → MadeOf n T q w → LeftQuiet n R w
    sums_off w h j b =
        dot_right n w (λ i. R i j) (act n T (λ l. A l j)) (λ i l. sym (row_made n A R T tr i j l b))
        ∙ dot_act n w T (λ l. A l j)
        ∙ dot_left n (λ l. dot n w (λ i. T i l)) q (λ l. A l j) h
        ∙ quiet j b

    -- so none of them has a pivot
    pub left_sum : (w : Row) × ((i : ℕ) → i < n → c i < n → w i ≡ false) × MadeOf n T q w
    left_sum = let m = made_of q in (m.0, off m.0 m.1, m.1)
      where
        off : (w : Row) → MadeOf n T q w → (i : ℕ) → i < n → c i < n → w i ≡ false
        off w h i l k =
            and_comm true (w i)
            ∙ ap (◌&&◌ (w i)) (sym (v.on i l k))
            ∙ sym (parity_alone (λ m. w m && R m (c i)) n i l (λ m b ne. and_right (w m) (R m (c i)) (v.alone i l k m b ne)))
            ∙ sums_off w h (c i) k
