-- The answers of small boards, by going through all presses. Assumes nothing.
use Rattle.std.proofs.Common.{◌≡◌, ℕ, zero, suc, Bool, true, false, not, ◌&&◌, ◌||◌, eqb, leb, List, [], ◌∷◌, length, sym, refl, ◌∙◌, arith}
use Rattle.std.proofs.lemmas.Bool.{and_parts, eqb-true, leb-true, not-true}
use Rattle.lamps.specs.Lamps.{Lamps, none_lit, all_off, how_many, odd_of, Wire, wired, odd_for, lit_from, puts_out, quiet, pressed}
use Rattle.lamps.specs.Calls.{count_on}
use Rattle.lamps.specs.Boards.{digits, wires_before, OutBy, NeverBy, Boards}

-- do all sets of n lamps pass a test
unfoldable every : ℕ → (Lamps → Bool) → Bool
every zero f = f []
every (suc n) f = every n (λ p. f (false ∷ p)) && every n (λ p. f (true ∷ p))

-- THROUGH ALL PRESSES: then each passes
every_one : (n : ℕ) (f : Lamps → Bool) → every n f ≡ true → (p : Lamps) → length p ≡ n → f p ≡ true
unfolding every
every_one zero f h [] e = h
every_one zero f h (x ∷ p) e = absurd (omega arith)
every_one (suc n) f h [] e = absurd (omega arith)
every_one (suc n) f h (false ∷ p) e =
    every_one n (λ p. f (false ∷ p)) (and_parts (every n (λ p. f (false ∷ p))) (every n (λ p. f (true ∷ p))) h).0 p (omega arith)
every_one (suc n) f h (true ∷ p) e =
    every_one n (λ p. f (true ∷ p)) (and_parts (every n (λ p. f (false ∷ p))) (every n (λ p. f (true ∷ p))) h).1 p (omega arith)

-- so a test says whether p is the answer, or that there is none, by q
unfoldable tried : List Wire → Lamps → Lamps → ℕ → Bool
tried ws s p ways =
    puts_out ws s p && (every (length s) (λ q. not (puts_out ws s q) || leb (how_many p) (how_many q)) && eqb (count_on (length s) [] (puts_out ws s)) ways)

long : (ws : List Wire) (s p : Lamps) → puts_out ws s p ≡ true → length p ≡ length s
long ws s p h = eqb-true (length p) (length s) (and_parts (eqb (length p) (length s)) (all_off (pressed ws s p)) h).0

out_by : (ws : List Wire) (s p : Lamps) (ways : ℕ) → tried ws s p ways ≡ true → OutBy ws s p ways
unfolding tried
out_by ws s p ways h =
    let (puts, rest) = and_parts (puts_out ws s p) (every (length s) few && eqb (count_on (length s) [] (puts_out ws s)) ways) h in
    let (all, many) = and_parts (every (length s) few) (eqb (count_on (length s) [] (puts_out ws s)) ways) rest in
    record {
      puts = puts;
      fewest = λ q d. leb-true (how_many p) (how_many q) (then (puts_out ws s q) (leb (how_many p) (how_many q)) (every_one (length s) few all q (long ws s q d)) d);
      many = eqb-true (count_on (length s) [] (puts_out ws s)) ways many;
    }
  where
    few : Lamps → Bool
    few q = not (puts_out ws s q) || leb (how_many p) (how_many q)

    then : (a b : Bool) → (not a || b) ≡ true → a ≡ true → b ≡ true
    then a b h k = grind arith

unfoldable ruled_out : List Wire → Lamps → Lamps → Bool
ruled_out ws s q = every (length s) (λ p. not (puts_out ws s p)) && (quiet ws (length s) q && odd_of q s)

never_by : (ws : List Wire) (s q : Lamps) → ruled_out ws s q ≡ true → NeverBy ws s q
unfolding ruled_out
never_by ws s q h =
    let (all, rest) = and_parts (every (length s) (λ p. not (puts_out ws s p))) (quiet ws (length s) q && odd_of q s) h in
    let (still, odd) = and_parts (quiet ws (length s) q) (odd_of q s) rest in
    record { none = λ p. none p (every_one (length s) (λ p. not (puts_out ws s p)) all p); still = still; odd = odd }
  where
    go : (p : Lamps) (t : Bool) → puts_out ws s p ≡ t → (length p ≡ length s → not (puts_out ws s p) ≡ true) → t ≡ false
    go p true e h = sym e ∙ not-true (puts_out ws s p) (h (long ws s p e))
    go p false e h = refl

    none : (p : Lamps) → (length p ≡ length s → not (puts_out ws s p) ≡ true) → puts_out ws s p ≡ false
    none p h = go p (puts_out ws s p) refl h

pub boards : Boards
unfolding digits wires_before tried ruled_out every none_lit all_off how_many odd_of wired odd_for lit_from count_on
boards = record {
  square_all = out_by _ _ _ _ refl;
  square_corner = out_by _ _ _ _ refl;
  two_rows_all = out_by _ _ _ _ refl;
  two_rows_corner = never_by _ _ _ refl;
  one_on = out_by _ _ _ _ refl;
  two_all = out_by _ _ _ _ refl;
  two_end = never_by _ _ _ refl;
  three_none = out_by _ _ _ _ refl;
  three_middle = out_by _ _ _ _ refl;
  four_all = out_by _ _ _ _ refl;
  five_end = never_by _ _ _ refl;
  five_ends = out_by _ _ _ _ refl;
  apart = out_by _ _ _ _ refl;
  triangle_all = out_by _ _ _ _ refl;
  triangle_one = never_by _ _ _ refl;
  star_middle = never_by _ _ _ refl;
}
