-- The lowest set bit of a word, and of a row. Assumes nothing.
use Rattle.std.proofs.Common.{◌≡◌, ℕ, zero, suc, ◌+◌, ◌*◌, ◌/◌, ◌%◌, ◌^◌, ◌<◌, ◌≤◌, true, false, eqb, ltb, List, length, get_or, refl, ap, ◌∙◌, inl, inr, None, Some, arith}
use lib.Count.{under, count_trailing_zeros}
use Rattle.std.specs.Bool.{then_some}
use Rattle.std.proofs.lemmas.Bool.{cases_lt, lt-ltb, le-ltb}
use Rattle.bits.specs.Bits.{bit, bit_of}
use Rattle.bits.specs.Said.{FirstSet}
use Rattle.bits.proofs.Words.{bit_zero, bit_suc, bit_of_zero, half_below}
use Rattle.bits.proofs.Rows.{bit_of_word, zero_words}

-- t is the place of the lowest set bit of w, which has n bits
pub record Lowest (n w t : ℕ) : Type 0 where
  pub within : t < n
  pub here : bit w t ≡ true
  pub before : (b : ℕ) → b < t → bit w b ≡ false

pub lowest : (n w : ℕ) → w < 2 ^ n → (w ≡ 0 → ⊥) → Lowest n w (count_trailing_zeros n w)
unfolding count_trailing_zeros
lowest zero w h ne = absurd (ne (omega arith))
lowest (suc n) w h ne = go (w % 2) refl (lowest n (w / 2) (half_below w n h))
  where
    go : (d : ℕ) → w % 2 ≡ d → ((w / 2 ≡ 0 → ⊥) → Lowest n (w / 2) (count_trailing_zeros n (w / 2))) → Lowest (suc n) w (under d (count_trailing_zeros n (w / 2)))
    go zero e ih = let l = ih (λ z. ne (omega arith)) in record { within = omega arith; here = bit_suc w _ ∙ l.here; before = before l }
      where
        before : Lowest n (w / 2) (count_trailing_zeros n (w / 2)) → (b : ℕ) → b < suc (count_trailing_zeros n (w / 2)) → bit w b ≡ false
        before l zero k = bit_zero w ∙ ap (λ x. eqb x 1) e
        before l (suc b) k = bit_suc w b ∙ l.before b (omega arith)
    go (suc zero) e ih = record { within = omega arith; here = bit_zero w ∙ ap (λ x. eqb x 1) e; before = λ b k. absurd (omega arith) }
    go (suc (suc d)) e ih = absurd (omega arith)

abbrev pub Zeros : List ℕ → ℕ → Type 0
Zeros ws i = (k : ℕ) → k < i → get_or ws k 0 ≡ 0

-- the words before i are zero: no bit before is set
before_word : (ws : List ℕ) (i : ℕ) → Zeros ws i → (b : ℕ) → b / 64 < i → bit_of ws b ≡ false
before_word ws i zeros b l = ap (λ w. bit w (b % 64)) (zeros (b / 64) l) ∙ bit_of_zero (b % 64)

module _ (ws : List ℕ) (n : ℕ) where
  pub set_nowhere : Zeros ws (length ws) → FirstSet n (bit_of ws) None
  set_nowhere zeros b l = zero_words ws zeros b

  module _ (i t : ℕ) (zeros : Zeros ws i) (low : Lowest 64 (get_or ws i 0) t) where
    before_it : (b : ℕ) → b < 64 * i + t → bit_of ws b ≡ false
    before_it b l = elim (cases_lt (b / 64) i) [
      | inl k ↦ before_word ws i zeros b k
      | inr g ↦
          let e : b / 64 ≡ i = omega (arith, low.within) in
          ap (λ x. bit (get_or ws x 0) (b % 64)) e ∙ low.before (b % 64) (omega (arith, low.within))
    ]

    set_here : 64 * i + t < n → FirstSet n (bit_of ws) (Some (64 * i + t))
    set_here l = record { within = l; here = bit_of_word ws i t low.within ∙ low.here; before = before_it }

    set_past : n ≤ 64 * i + t → FirstSet n (bit_of ws) None
    set_past g b l = before_it b (omega arith)

    -- the bit that is found is there, if it is below n
    pub set_found : FirstSet n (bit_of ws) (then_some (ltb (64 * i + t) n) (64 * i + t))
    set_found = elim (cases_lt (64 * i + t) n) [
      | inl l ↦ rw (lt-ltb (64 * i + t) n l) (set_here l)
      | inr g ↦ rw (le-ltb (64 * i + t) n g) (set_past g)
    ]
