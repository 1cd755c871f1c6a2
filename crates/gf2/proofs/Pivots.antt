-- Reduced rows: row i has its pivot in the column c i, where no other row is on; a row without one, n ≤ c i, is off everywhere.
-- The pivots are in no order. From them a solution is read off. Assumes nothing.
use Rattle.std.proofs.Common.{◌≡◌, ℕ, ◌<◌, ◌≤◌, Bool, true, false, ◌&&◌, eqb, ltb, leb, ◌≢◌, ◌⊎◌, sym, refl, ap, ◌∙◌, ap₂, inl, inr, arith}
use mathlib.Core.Bool.{false≢true}
use Rattle.std.proofs.lemmas.Bool.{cases_eq, cases_lt, eqb-true, eqb-false, lt-ltb, le-ltb, leb-true, le-leb, and_parts}
use Rattle.gf2.specs.Rows.{Row, Rows, Same, act}
use Rattle.gf2.specs.Reduction.{Tracks, Pivots, Free, Owns, Placed, placed}
use Rattle.gf2.proofs.Parity.{and_false}
use Rattle.gf2.proofs.Rows.{find, parity_alone, none_dot}
use Rattle.gf2.proofs.Tracks.{solved}

-- each column is a row's pivot, or free
pub pivot_or_free : (n : ℕ) (c : ℕ → ℕ) (j : ℕ) → ((i : ℕ) × (i < n) × (c i ≡ j)) ⊎ Free n c j
pivot_or_free n c j = elim (find (λ i. eqb (c i) j) n) [
  | inl none ↦ inr (λ i l. eqb-false (c i) j (none i l))
  | inr w ↦ inl (w.0, w.1, eqb-true (c w.0) j w.2)
]

-- a row without a pivot where u is on, or none
pub odd_row : (n : ℕ) (c : ℕ → ℕ) (u : Row) → ((i : ℕ) → i < n → n ≤ c i → u i ≡ false) ⊎ ((i : ℕ) × (i < n) × (n ≤ c i) × (u i ≡ true))
odd_row n c u = elim (find (λ i. leb n (c i) && u i) n) [
  | inl none ↦ inl (λ i l g. off (leb n (c i)) (u i) (none i l) (le-leb n (c i) g))
  | inr w ↦
      let p = and_parts (leb n (c w.0)) (u w.0) w.2 in
      inr (w.0, w.1, leb-true n (c w.0) p.0, p.1)
]
  where
    off : (a b : Bool) → (a && b) ≡ false → a ≡ true → b ≡ false
    off a b e f = grind arith

pub owns_free : (n : ℕ) (c o : ℕ → ℕ) → Owns n c o → (j : ℕ) → j < n → n ≤ o j → Free n c j
owns_free n c o h j l g i k e =
    let a : o (c i) ≡ i = h.row i k (omega arith) in
    let b : o (c i) ≡ o j = ap o e in
    omega arith

pub free_owns : (n : ℕ) (c o : ℕ → ℕ) → Owns n c o → (j : ℕ) → j < n → Free n c j → n ≤ o j
free_owns n c o h j l f = elim (cases_lt (o j) n) [ inl k ↦ absurd (f (o j) k (h.column j l k)) | inr g ↦ g ]

pub placed_owns : (n : ℕ) (c o : ℕ → ℕ) (u : Row) → Owns n c o → Placed n c u (placed n o u)
placed_owns n c o u h = record {
  pivot = λ i l k. ap (λ z. ltb z n && u z) (h.row i l k) ∙ ap (λ b. b && u i) (lt-ltb i n l);
  free = λ j l f. ap (λ b. b && u (o j)) (le-ltb (o j) n (free_owns n c o h j l f));
}

module _ (n : ℕ) (R : Rows) (c : ℕ → ℕ) (v : Pivots n R c) where
  -- two rows have no pivot in common
  pub pivots_apart : (i k : ℕ) → i < n → k < n → c i < n → c i ≡ c k → i ≡ k
  pivots_apart i k l m p e = elim (cases_eq i k) [
    | inl q ↦ q
    | inr d ↦ absurd (false≢true (sym (v.alone i l p k m (λ q. d (sym q))) ∙ ap (R k) e ∙ v.on k m (omega arith)))
  ]

  -- the rows on values that were placed at the pivots
  pub act_placed : (u p : Row) → Placed n c u p → (i : ℕ) → i < n → c i < n → act n R p i ≡ u i
  act_placed u p h i l k =
      parity_alone (λ j. R i j && p j) n (c i) k others
      ∙ ap₂ (λ x y. x && y) (v.on i l k) (h.pivot i l k)
    where
      others : (j : ℕ) → j < n → j ≢ c i → (R i j && p j) ≡ false
      others j m ne = elim (pivot_or_free n c j) [
        | inl w ↦
            let a : R i (c w.0) ≡ false = v.alone w.0 w.1 (omega (arith, w.2)) i l (λ e. ne (sym (ap c e ∙ w.2))) in
            ap (λ x. x && p j) (sym (ap (R i) w.2) ∙ a)
        | inr f ↦ ap (λ x. R i j && x) (h.free j m f) ∙ and_false (R i j)
      ]

  pub act_none : (p : Row) (i : ℕ) → i < n → n ≤ c i → act n R p i ≡ false
  act_none p i l g = none_dot n (R i) p (v.none i l g)

  -- A SOLUTION: if no row that is off everywhere asks for what is on
  pub solves : (A T : Rows) (s p : Row) → Tracks n A R T → Placed n c (act n T s) p → ((i : ℕ) → i < n → n ≤ c i → act n T s i ≡ false) → Same n (act n A p) s
  solves A T s p h q even = solved n A R T h p s (λ i l. elim (cases_lt (c i) n) [
    | inl k ↦ act_placed (act n T s) p q i l k
    | inr g ↦ act_none p i l g ∙ sym (even i l g)
  ])

-- owners are there
abbrev pub owner_of : (n : ℕ) (c : ℕ → ℕ) (j : ℕ) → ((i : ℕ) × (i < n) × (c i ≡ j)) ⊎ Free n c j → ℕ
owner_of n c j (inl w) = w.0
owner_of n c j (inr f) = n

abbrev pub owners : ℕ → (ℕ → ℕ) → ℕ → ℕ
owners n c j = owner_of n c j (pivot_or_free n c j)

pub owners_own : (n : ℕ) (R : Rows) (c : ℕ → ℕ) → Pivots n R c → Owns n c (owners n c)
owners_own n R c v = record { row = λ i l k. row i l k (pivot_or_free n c (c i)); column = λ j l k. column j l (pivot_or_free n c j) k }
  where
    row : (i : ℕ) → i < n → c i < n → (x : ((i' : ℕ) × (i' < n) × (c i' ≡ c i)) ⊎ Free n c (c i)) → owner_of n c (c i) x ≡ i
    row i l k (inl w) = pivots_apart n R c v w.0 i w.1 l (omega (arith, w.2)) w.2
    row i l k (inr f) = absurd (f i l refl)

    column : (j : ℕ) → j < n → (x : ((i : ℕ) × (i < n) × (c i ≡ j)) ⊎ Free n c j) → owner_of n c j x < n → c (owner_of n c j x) ≡ j
    column j l (inl w) k = w.2
    column j l (inr f) k = absurd (omega arith)
