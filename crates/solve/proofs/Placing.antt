-- Presses placed at the pivots, row by row. Assumes nothing.
use Rattle.std.proofs.Common.{◌≡◌, ℕ, ◌+◌, ◌-◌, ◌<◌, ◌≤◌, Bool, true, false, ◌&&◌, eqb, ◌≢◌, sym, refl, ap, ◌∙◌, ap₂, inl, inr, true≢false, add-one, arith}
use mathlib.Core.Bool.{false≢true}
use Rattle.std.proofs.lemmas.Bool.{cases_eq, eq-eqb, ne_eqb}
use Rattle.gf2.specs.Rows.{differ, Row, Rows, parity, act}
use Rattle.gf2.specs.Reduction.{Pivots, Free, Placed}
use Rattle.gf2.proofs.Parity.{parity_cong, parity_none, and_false}
use Rattle.gf2.proofs.Rows.{parity_alone, dot_left}
use Rattle.gf2.proofs.Pivots.{pivots_apart, solves}
use Rattle.gf2.proofs.Tracks.{blocks}
use Rattle.bits.proofs.Counts.{parity_cat}
use Rattle.matrix.specs.Cells.{Spare}
use Rattle.solve.specs.Solved.{Within, Solved}

-- does row i, of which `odd i` says whether it is odd for what is lit, place a press at j
abbrev pub places : (ℕ → ℕ) → Row → ℕ → ℕ → Bool
places c odd j i = odd i && eqb j (c i)

-- the first m rows are done: each press is where a row that is odd has its pivot, and no zero row is odd
pub record Placing (n : ℕ) (c : ℕ → ℕ) (odd p : Row) (m : ℕ) : Type 0 where
  pub each : (j : ℕ) → j < n → p j ≡ parity (places c odd j) m
  pub within : (j : ℕ) → n ≤ j → p j ≡ false
  pub even : (i : ℕ) → i < m → n ≤ c i → odd i ≡ false

module _ (n : ℕ) (c : ℕ → ℕ) (odd : Row) where
  pub placing_none : (p : Row) → ((j : ℕ) → p j ≡ false) → Placing n c odd p 0
  placing_none p clear = record { each = λ j l. clear j; within = λ j g. clear j; even = λ i l g. absurd (omega arith) }

  module _ (p : Row) (i : ℕ) (so_far : Placing n c odd p i) where
    -- the next row is even
    pub placing_even : false ≡ odd i → Placing n c odd p (i + 1)
    placing_even t = record {
      each = λ j l. so_far.each j l ∙ ap (λ b. differ (b && eqb j (c i)) (parity (places c odd j) i)) t ∙ ap (λ m. parity (places c odd j) m) (sym (add-one i));
      within = so_far.within;
      even = λ k l g. elim (cases_eq k i) [ inl e ↦ ap odd e ∙ sym t | inr ne ↦ so_far.even k (omega arith) g ];
    }

    -- or odd, and its pivot is turned over
    pub placing_odd : (q : Row) → true ≡ odd i → c i < n → ((j : ℕ) → q j ≡ differ (p j) (eqb j (c i))) → Placing n c odd q (i + 1)
    placing_odd q t k turn = record {
      each = λ j l. turn j ∙ ap (λ b. differ b (eqb j (c i))) (so_far.each j l) ∙ swap (parity (places c odd j) i) (eqb j (c i))
          ∙ ap (λ b. differ (b && eqb j (c i)) (parity (places c odd j) i)) t ∙ ap (λ m. parity (places c odd j) m) (sym (add-one i));
      within = λ j g. turn j ∙ ap₂ differ (so_far.within j g) (ne_eqb j (c i) (omega arith));
      even = λ m l g. elim (cases_eq m i) [ inl e ↦ absurd (past m e g) | inr ne ↦ so_far.even m (omega arith) g ];
    }
      where
        swap : (a b : Bool) → differ a b ≡ differ b a
        swap a b = grind arith

        past : (m : ℕ) → m ≡ i → n ≤ c m → ⊥
        past m e g = let h : c m ≡ c i = ap c e in omega arith

  -- with all rows done, and pivots that are apart, the presses are placed
  pub placing_all : (R : Rows) (p : Row) → Pivots n R c → Placing n c odd p n → Placed n c odd p
  placing_all R p v all = record { pivot = at_pivot; free = at_free }
    where
      and_true : (a : Bool) → (a && true) ≡ a
      and_true a = grind arith

      elsewhere : (j i : ℕ) → j ≢ c i → places c odd j i ≡ false
      elsewhere j i ne = ap (λ b. odd i && b) (ne_eqb j (c i) ne) ∙ and_false (odd i)

      at_pivot : (i : ℕ) → i < n → c i < n → p (c i) ≡ odd i
      at_pivot i l k =
          all.each (c i) k
          ∙ parity_alone (places c odd (c i)) n i l (λ m b ne. elsewhere (c i) m (λ e. ne (sym (pivots_apart n R c v i m l b k e))))
          ∙ ap (λ b. odd i && b) (eq-eqb (c i) (c i) refl) ∙ and_true (odd i)

      at_free : (j : ℕ) → j < n → Free n c j → p j ≡ false
      at_free j l free = all.each j l ∙ parity_none (places c odd j) n (λ i b. elsewhere j i (λ e. free i b (sym e)))

-- past n there is nothing to count
pub parity_within : (n m : ℕ) (f : Row) → n ≤ m → Within n f → parity f m ≡ parity f n
parity_within n m f l h =
    ap (λ x. parity f x) (omega arith)
    ∙ parity_cat n (m - n) f
    ∙ ap (λ b. differ b (parity f n)) (parity_none (λ k. f (n + k)) (m - n) (λ k _. h (n + k) (omega arith)))

module _ (n w : ℕ) (T : Rows) (c : ℕ → ℕ) (s p : Row) (wide : n ≤ w) (lit : Within n s) where
  -- counted over w columns or over n, it is the same
  act_within : (i : ℕ) → act w T s i ≡ act n T s i
  act_within i = parity_within n w (λ j. T i j && s j) wide (λ j g. ap (λ b. T i j && b) (lit j g) ∙ and_false (T i j))

  pub way_found : Placing n c (act w T s) p n → Solved n T c s p true
  way_found all = record {
    way = λ _ A R h v.
        let placed = placing_all n c (act w T s) R p v all in
        solves n R c v A T s p h
        (record { pivot = λ i l k. placed.pivot i l k ∙ act_within i; free = placed.free })
        (λ i l g. sym (act_within i) ∙ all.even i l g);
    never = λ e. absurd (true≢false e);
    within = all.within;
  }

  pub never_found : (i : ℕ) → i < n → n ≤ c i → true ≡ act w T s i → Spare n T → ((j : ℕ) → p j ≡ T i j) → Solved n T c s p false
  never_found i l g odd spare same = record {
    way = λ e. absurd (false≢true e);
    never = λ _ A R h v. record {
      quiet = λ j b. parity_cong (λ k. p k && A k j) (λ k. T i k && A k j) n (λ k _. ap (λ x. x && A k j) (same k)) ∙ blocks n A R T h i l (v.none i l g) j b;
      odd = dot_left n p (T i) s (λ j _. same j) ∙ sym (act_within i) ∙ sym odd;
    };
    within = λ j b. same j ∙ spare i l j b;
  }
