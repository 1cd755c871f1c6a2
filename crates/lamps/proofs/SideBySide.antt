-- Two boards side by side, with no wire between, are put out each by itself: the sum of each row splits where the second board begins, and the part on
-- the other board is nothing. Assumes nothing.
use Rattle.std.proofs.Common.{◌≡◌, ℕ, ◌+◌, ◌<◌, ◌≤◌, Bool, true, false, ◌&&◌, ◌||◌, eqb, ltb, List, [], ◌∷◌, ◌++◌, length, sym, refl, ap, ◌∙◌, ap₂, ⊎_elim, arith}
use native.Mathlib.Nat.{le_dest}
use Rattle.std.proofs.Math.Bool.{or_assoc, or-false}
use Rattle.std.proofs.lemmas.List.{length-append, get_or_append_left, get_or-append-add}
use Rattle.std.proofs.lemmas.Bool.{ltb-true, ne_eqb, and_parts, and_from, cases_lt}
use Rattle.std.proofs.lemmas.Bool.Decides.{nat_tests, same_from_decides}
use Rattle.gf2.specs.Rows.{differ, Same, act}
use Rattle.gf2.proofs.Parity.{differ_false, parity_cong, parity_none, parity_split}
use Rattle.lamps.specs.Lamps.{Lamps, at, Wire, joins, wired, changes, table, puts_out}
use Rattle.lamps.specs.Promise.{shifted, all_in, SideBySide}
use Rattle.lamps.proofs.Wires.{wired_sym, changes_sym}
use Rattle.lamps.proofs.Tables.{puts_table, table_puts}

-- The wires of both boards
wired_append : (vs ws : List Wire) (i j : ℕ) → wired (vs ++ ws) i j ≡ (wired vs i j || wired ws i j)
unfolding wired
wired_append [] ws i j = refl
wired_append (v ∷ vs) ws i j = ap (◌||◌ here) (wired_append vs ws i j) ∙ sym (or_assoc here (wired vs i j) (wired ws i j))
  where
    here : Bool
    here = joins v.one v.other i j

no_wire : (a b c d e : Bool) → a ≡ false → d ≡ false → e ≡ false → (((a && b) || (c && d)) || e) ≡ false
no_wire a b c d e ha hd he = grind arith

-- a wire among the first n lamps reaches no other
wired_in : (n : ℕ) (vs : List Wire) (i j : ℕ) → all_in n vs ≡ true → n ≤ i → wired vs i j ≡ false
unfolding wired all_in
wired_in n [] i j h le = refl
wired_in n (v ∷ vs) i j h le =
    let (here, rest) = and_parts (ltb v.one n && ltb v.other n) (all_in n vs) h in
    let (a, b) = and_parts (ltb v.one n) (ltb v.other n) here in
    let a' : v.one < n = ltb-true v.one n a in
    let b' : v.other < n = ltb-true v.other n b in
    no_wire _ _ _ _ _ (ne_eqb v.one i (omega arith)) (ne_eqb v.other i (omega arith)) (wired_in n vs i j rest le)

-- a wire of the second board reaches none of the first n lamps, and else goes as it went
wired_shifted_below : (n : ℕ) (ws : List Wire) (i j : ℕ) → i < n → wired (shifted n ws) i j ≡ false
unfolding wired shifted
wired_shifted_below n [] i j h = refl
wired_shifted_below n (w ∷ ws) i j h =
    no_wire _ _ _ _ _ (ne_eqb (n + w.one) i (omega arith)) (ne_eqb (n + w.other) i (omega arith)) (wired_shifted_below n ws i j h)

eqb_shift : (n a b : ℕ) → eqb (n + a) (n + b) ≡ eqb a b
eqb_shift n a b = grind (arith, nat_tests)

wired_shifted : (n : ℕ) (ws : List Wire) (i j : ℕ) → wired (shifted n ws) (n + i) (n + j) ≡ wired ws i j
unfolding wired shifted
wired_shifted n [] i j = refl
wired_shifted n (w ∷ ws) i j =
    ap₂ ◌||◌
    (ap₂ ◌||◌
    (ap₂ ◌&&◌ (eqb_shift n w.one i) (eqb_shift n w.other j))
    (ap₂ ◌&&◌ (eqb_shift n w.one j) (eqb_shift n w.other i)))
    (wired_shifted n ws i j)

-- The rows of both boards
abbrev joint : ℕ → List Wire → List Wire → List Wire
joint m vs ws = vs ++ shifted m ws

module _ (m : ℕ) (vs ws : List Wire) (inside : all_in m vs ≡ true) where
  changes_left : (i j : ℕ) → i < m → changes (joint m vs ws) i j ≡ changes vs i j
  changes_left i j h =
      ap (◌||◌ (eqb i j)) (wired_append vs (shifted m ws) i j ∙ ap (◌||◌ (wired vs i j)) (wired_shifted_below m ws i j h) ∙ or-false (wired vs i j))

  changes_right : (i j : ℕ) → changes (joint m vs ws) (m + i) (m + j) ≡ changes ws i j
  changes_right i j =
      ap₂ ◌||◌ (eqb_shift m i j)
      (wired_append vs (shifted m ws) (m + i) (m + j)
      ∙ ap₂ ◌||◌ (wired_in m vs (m + i) (m + j) inside (omega arith)) (wired_shifted m ws i j))

  changes_across : (i j : ℕ) → i < m → changes (joint m vs ws) i (m + j) ≡ false
  changes_across i j h =
      changes_left i (m + j) h
      ∙ ap₂ ◌||◌ (ne_eqb i (m + j) (omega arith)) (wired_sym vs i (m + j) ∙ wired_in m vs (m + j) i inside (omega arith))

  changes_back : (i j : ℕ) → j < m → changes (joint m vs ws) (m + i) j ≡ false
  changes_back i j h = changes_sym (joint m vs ws) (m + i) j ∙ changes_across j i h

  act_left : (p q : Lamps) (n j : ℕ) → length p ≡ m → j < m → act (m + n) (table (joint m vs ws)) (at (p ++ q)) j ≡ act m (table vs) (at p) j
  act_left p q n j e h =
      parity_split (λ i. changes (joint m vs ws) i j && at (p ++ q) i) m n
      ∙ ap₂ differ
      (parity_cong _ _ m (λ i k. ap₂ ◌&&◌ (changes_left i j k) (get_or_append_left p q false i (omega arith))))
      (parity_none _ n (λ i k. ap (λ c. c && at (p ++ q) (m + i)) (changes_back i j h)))
      ∙ differ_false (act m (table vs) (at p) j)

  act_right : (p q : Lamps) (n j : ℕ) → length p ≡ m → act (m + n) (table (joint m vs ws)) (at (p ++ q)) (m + j) ≡ act n (table ws) (at q) j
  act_right p q n j e =
      parity_split (λ i. changes (joint m vs ws) i (m + j) && at (p ++ q) i) m n
      ∙ ap₂ differ
      (parity_none _ m (λ i k. ap (λ c. c && at (p ++ q) i) (changes_across i j k)))
      (parity_cong _ _ n (λ i k. ap₂ ◌&&◌ (changes_right i j) (ap (λ (l : ℕ). at (p ++ q) (l + i)) (sym e) ∙ get_or-append-add p q i false)))

-- So the equations of both are those of each
module _ (vs ws : List Wire) (s t p q : Lamps) (inside : all_in (length s) vs ≡ true) (e : length p ≡ length s) where
  abbrev m : ℕ
  m = length s

  abbrev n : ℕ
  n = length t

  abbrev Both : Type 0
  Both = Same (m + n) (act (m + n) (table (joint m vs ws)) (at (p ++ q))) (at (s ++ t))

  left : Both → Same m (act m (table vs) (at p)) (at s)
  left h j k = sym (act_left m vs ws inside p q n j e k) ∙ h j (omega arith) ∙ get_or_append_left s t false j k

  right : Both → Same n (act n (table ws) (at q)) (at t)
  right h j k = sym (act_right m vs ws inside p q n j e) ∙ h (m + j) (omega arith) ∙ get_or-append-add s t j false

  joined : Same m (act m (table vs) (at p)) (at s) → Same n (act n (table ws) (at q)) (at t) → Both
  joined a b j k =
      ⊎_elim
      (λ (l : j < m). act_left m vs ws inside p q n j e l ∙ a j l ∙ sym (get_or_append_left s t false j l))
      (λ (l : m ≤ j). let (i, d) = le_dest l in rw (← d) (at_right i (omega arith)))
      (cases_lt j m)
    where
      at_right : (i : ℕ) → i < n → act (m + n) (table (joint m vs ws)) (at (p ++ q)) (m + i) ≡ at (s ++ t) (m + i)
      at_right i k = act_right m vs ws inside p q n i e ∙ b i k ∙ sym (get_or-append-add s t i false)

pub side_by_side : SideBySide
unfolding SideBySide
side_by_side vs ws s t p q inside _ e =
    same_from_decides {P = (length q ≡ length t) × Both vs ws s t p q inside e} _ _ (
      (λ h. let (long, each) = puts_table all (length s + length t) (s ++ t) (p ++ q) (length-append s t) h in
          (omega (arith, length-append p q, long), each)),
      (λ h. table_puts all (length s + length t) (s ++ t) (p ++ q) (length-append s t) (length-append p q ∙ ap₂ ◌+◌ e h.0) h.1),
    ) (
      (λ h. let (a, b) = and_parts (puts_out vs s p) (puts_out ws t q) h in (
        (puts_table ws (length t) t q refl b).0,
        joined vs ws s t p q inside e (puts_table vs (length s) s p refl a).1 (puts_table ws (length t) t q refl b).1,
      )),
      (λ h. and_from (puts_out vs s p) (puts_out ws t q)
          (table_puts vs (length s) s p refl e (left vs ws s t p q inside e h.1))
          (table_puts ws (length t) t q refl h.0 (right vs ws s t p q inside e h.1))),
    )
  where
    all : List Wire
    all = joint (length s) vs ws
