-- Every quiet set has an even number of lamps: the sum over i and j of q i && q j && A i j is nothing, since q is quiet, and it is the sum over the diagonal,
-- which is that of q, since A is symmetric and each lamp changes itself. So nothing stands against all on. Assumes nothing.
use Rattle.std.proofs.Common.{◌≡◌, ℕ, Bool, true, false, not, ◌&&◌, ◌⊎◌, List, [], ◌∷◌, length, sym, refl, ap, ◌∙◌, inl, inr, arith}
use mathlib.Core.Bool.{false≢true}
use Rattle.std.proofs.Math.Bool.{and_self}
use Rattle.std.proofs.lemmas.Bool.{and_right}
use Rattle.gf2.specs.Rows.{differ, Row, parity, act}
use Rattle.gf2.specs.Reduction.{Quiet}
use Rattle.gf2.proofs.Parity.{parity_cong, parity_none, parity_and, parity_first, parity_square}
use Rattle.lamps.specs.Lamps.{Lamps, at, all_lit, odd_of, Wire, table, changes, puts_out, quiet}
use Rattle.lamps.specs.Promise.{even_many, EvenQuiet, OneOrOther, AllOn}
use Rattle.lamps.proofs.Wires.{changes_sym, changes_self}
use Rattle.lamps.proofs.Pressed.{length_all_lit, at_all_lit}
use Rattle.lamps.proofs.Tables.{quiet_table, odd_of_at}

even_many_at : (q : Lamps) → even_many q ≡ not (parity (at q) (length q))
unfolding even_many
even_many_at [] = refl
even_many_at (l ∷ ls) = ap (differ l) (even_many_at ls) ∙ not_out l (parity (at ls) (length ls)) ∙ ap not (sym (parity_first (at (l ∷ ls)) (length ls)))
  where
    not_out : (a b : Bool) → differ a (not b) ≡ not (differ a b)
    not_out a b = grind arith

module _ (ws : List Wire) (n : ℕ) (q : Row) where
  abbrev term : ℕ → ℕ → Bool
  term i j = q i && (table ws i j && q j)

  term_sym : (i j : ℕ) → term i j ≡ term j i
  term_sym i j = ap (λ c. q i && (c && q j)) (changes_sym ws j i) ∙ turn (q i) (changes ws i j) (q j)
    where
      turn : (a b c : Bool) → (a && (b && c)) ≡ (c && (b && a))
      turn a b c = grind arith

  term_self : (i : ℕ) → term i i ≡ q i
  term_self i = ap (λ c. q i && (c && q i)) (changes_self ws i) ∙ and_self (q i)

  quiet_even : Quiet n (table ws) q → parity q n ≡ false
  quiet_even h =
      sym (parity_cong (λ i. term i i) q n (λ i _. term_self i))
      ∙ sym (parity_square term n term_sym)
      ∙ parity_none (λ i. parity (term i) n) n (λ i l. parity_and (q i) (λ j. table ws i j && q j) n ∙ and_right (q i) (act n (table ws) q i) (h i l))

pub even_quiet : EvenQuiet
unfolding EvenQuiet
even_quiet ws n q h =
    let (long, still) = quiet_table ws n q h in
    even_many_at q ∙ ap (λ m. not (parity (at q) m)) long ∙ ap not (quiet_even ws n (at q) still)

-- all on: a quiet set is odd for all that is lit if it has an odd number of lamps
pub all_on_from : OneOrOther → AllOn
unfolding OneOrOther AllOn
all_on_from either ws n = go (either ws (all_lit n)).0
  where
    none : (q : Lamps) → quiet ws (length (all_lit n)) q ≡ true → odd_of q (all_lit n) ≡ false
    none q h =
        let (long, still) = quiet_table ws (length (all_lit n)) q h in
        odd_of_at (length (all_lit n)) q (all_lit n) long refl
        ∙ parity_cong (λ i. at q i && at (all_lit n) i) (at q) (length (all_lit n)) (λ i l. on (at q i) (at (all_lit n) i) (at_all_lit n i (rw length_all_lit at l)))
        ∙ quiet_even ws (length (all_lit n)) (at q) still
      where
        on : (a b : Bool) → b ≡ true → (a && b) ≡ a
        on a b e = grind arith

    go : ((p : Lamps) × (puts_out ws (all_lit n) p ≡ true)) ⊎ ((q : Lamps) × (quiet ws (length (all_lit n)) q ≡ true) × (odd_of q (all_lit n) ≡ true))
        → (p : Lamps) × (puts_out ws (all_lit n) p ≡ true)
    go (inl a) = a
    go (inr b) = absurd (false≢true (sym (none b.0 b.1) ∙ b.2))
