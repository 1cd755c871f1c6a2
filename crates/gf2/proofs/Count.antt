-- How many rows solve a system whose reduced rows are at hand: two for each free column, if any does; and as many columns are free as rows are off
-- everywhere. Assumes nothing.
use Rattle.std.proofs.Common.{◌≡◌, ℕ, zero, suc, ◌+◌, ◌^◌, ◌<◌, ◌≤◌, Bool, true, false, not, ◌&&◌, leb, ◌⊎◌, Decides, sym, refl, ap, ◌∙◌, subst, ap₂, inl, inr, zero-add, arith}
use mathlib.Core.Path.{fun_ext}
use mathlib.Core.Bool.{false≢true}
use Rattle.std.proofs.lemmas.Nat.{pow-add}
use Rattle.std.proofs.lemmas.Bool.{cases_lt, cases_Bool, lt-leb, leb-false, not-true}
use Rattle.std.proofs.lemmas.Bool.Decides.{Decides-like}
use Rattle.gf2.specs.Rows.{pick, differ, Row, Rows, Same, parity, one, tally, nowhere, act}
use Rattle.gf2.specs.Reduction.{Tracks, Pivots, Owns, Marks}
use Rattle.gf2.proofs.Parity.{parity_cong}
use Rattle.gf2.proofs.Tally.{tally_first, tally_not, tally_into}
use Rattle.gf2.proofs.Tracks.{solved, solved_back}
use Rattle.gf2.proofs.Pivots.{pivot_or_free, pivots_apart, owners, owners_own, act_none}
use Rattle.gf2.proofs.Kernel.{split}

-- a row with one column more before it
abbrev pub cons : Bool → Row → Row
cons x p zero = x
cons x p (suc j) = p j

-- how many rows of n columns pass a test
abbrev pub count : ℕ → (Row → Bool) → ℕ
count zero f = one (f nowhere)
count (suc n) f = count n (λ p. f (cons false p)) + count n (λ p. f (cons true p))

pub count_same : (n : ℕ) (f g : Row → Bool) → ((p : Row) → f p ≡ g p) → count n f ≡ count n g
count_same n f g h = ap (count n) (fun_ext h)

count_split : (n : ℕ) (f c : Row → Bool) → count n (λ p. f p && not (c p)) + count n (λ p. f p && c p) ≡ count n f
count_split zero f c = parts (f nowhere) (c nowhere)
  where
    parts : (a b : Bool) → one (a && not b) + one (a && b) ≡ one a
    parts true true = refl
    parts true false = refl
    parts false b = refl
count_split (suc n) f c =
    four (count n (λ p. f (cons false p) && not (c (cons false p)))) (count n (λ p. f (cons true p) && not (c (cons true p))))
    (count n (λ p. f (cons false p) && c (cons false p))) (count n (λ p. f (cons true p) && c (cons true p)))
    ∙ ap₂ ◌+◌ (count_split n (λ p. f (cons false p)) (λ p. c (cons false p))) (count_split n (λ p. f (cons true p)) (λ p. c (cons true p)))
  where
    four : (a b c d : ℕ) → (a + b) + (c + d) ≡ (a + c) + (b + d)
    four a b c d = omega arith

-- p is what G says of it, but in the free columns
abbrev Fits : Row → (Row → Row) → ℕ → Row → Type 0
Fits free G n p = (j : ℕ) → j < n → free j ≡ false → p j ≡ G p j

-- G looks at the free columns only
abbrev Looks : Row → (Row → Row) → ℕ → Type 0
Looks free G n = (p q : Row) → ((j : ℕ) → j < n → free j ≡ true → p j ≡ q j) → (j : ℕ) → j < n → free j ≡ false → G p j ≡ G q j

-- what is left of them behind the first column
abbrev later : Row → Row
later free j = free (suc j)

abbrev behind : (Row → Row) → Bool → Row → Row
behind G x p j = G (cons x p) (suc j)

looks_behind : (free : Row) (G : Row → Row) (n : ℕ) (x : Bool) → Looks free G (suc n) → Looks (later free) (behind G x) n
looks_behind free G n x h p q e j l f = h (cons x p) (cons x q) agree (suc j) (omega arith) f
  where
    agree : (j : ℕ) → j < suc n → free j ≡ true → cons x p j ≡ cons x q j
    agree zero l f = refl
    agree (suc j) l f = e j (omega arith) f

module _ (free : Row) (G : Row → Row) (n : ℕ) where
  -- the first column is free,
  fits_free : free 0 ≡ true → (x : Bool) (p : Row) → Fits (later free) (behind G x) n p → Fits free G (suc n) (cons x p)
  fits_free t x p h zero l f = absurd (false≢true (sym f ∙ t))
  fits_free t x p h (suc j) l f = h j (omega arith) f

  fits_later : (x : Bool) (p : Row) → Fits free G (suc n) (cons x p) → Fits (later free) (behind G x) n p
  fits_later x p h j l f = h (suc j) (omega arith) f

  -- or it is what G says
  module _ (f0 : free 0 ≡ false) (looks : Looks free G (suc n)) where
    abbrev says : Row → Bool
    says p = G (cons false p) 0

    unseen : (x y : Bool) (p : Row) (j : ℕ) → j < suc n → free j ≡ false → G (cons x p) j ≡ G (cons y p) j
    unseen x y p = looks (cons x p) (cons y p) agree
      where
        agree : (j : ℕ) → j < suc n → free j ≡ true → cons x p j ≡ cons y p j
        agree zero l t = absurd (false≢true (sym f0 ∙ t))
        agree (suc j) l t = refl

    fits_says : (x : Bool) (p : Row) → Fits free G (suc n) (cons x p) → x ≡ says p
    fits_says x p h = h 0 (omega arith) f0 ∙ unseen x false p 0 (omega arith) f0

    fits_bound : (p : Row) → Fits (later free) (behind G false) n p → Fits free G (suc n) (cons (says p) p)
    fits_bound p h zero l f = unseen false (says p) p 0 l f
    fits_bound p h (suc j) l f = h j (omega arith) f ∙ unseen false (says p) p (suc j) l f

    bound_fits : (p : Row) → Fits free G (suc n) (cons (says p) p) → Fits (later free) (behind G false) n p
    bound_fits p h j l f = h (suc j) (omega arith) f ∙ unseen (says p) false p (suc j) (omega arith) f

-- two for each free column
count_fits : (n : ℕ) (free : Row) (G : Row → Row) (f : Row → Bool) → Looks free G n → ((p : Row) → Decides (f p) (Fits free G n p)) → count n f ≡ 2 ^ tally free n
count_fits zero free G f looks d = ap one ((d nowhere).1 (λ j l. absurd (omega arith)))
count_fits (suc n) free G f looks d = go (cases_Bool (free 0)) (count_fits n (later free))
  where
    k : ℕ
    k = tally (later free) n

    step : (b : Bool) → free 0 ≡ b → tally free (suc n) ≡ one b + k
    step b e = tally_first free n ∙ ap (λ z. one z + k) e

    go : (free 0 ≡ true) ⊎ (free 0 ≡ false)
        → ((H : Row → Row) (g : Row → Bool) → Looks (later free) H n → ((p : Row) → Decides (g p) (Fits (later free) H n p)) → count n g ≡ 2 ^ k)
        → count (suc n) f ≡ 2 ^ tally free (suc n)
    go (inl t) ih = ap₂ ◌+◌ (half false) (half true) ∙ double ∙ sym (ap (λ z. 2 ^ z) (step true t))
      where
        half : (x : Bool) → count n (λ p. f (cons x p)) ≡ 2 ^ k
        half x = ih (behind G x) (λ p. f (cons x p)) (looks_behind free G n x looks)
            (λ p. Decides-like (f (cons x p)) (fits_later free G n x p) (fits_free free G n t x p) (d (cons x p)))

        double : 2 ^ k + 2 ^ k ≡ 2 ^ (1 + k)
        double = omega (arith, pow-add 2 1 k)
    go (inr e) ih =
        ap₂ ◌+◌ (count_same n (λ p. f (cons false p)) (λ p. chosen p && not (c p)) (half false)) (count_same n (λ p. f (cons true p)) (λ p. chosen p && c p) (half true))
        ∙ count_split n chosen c
        ∙ ih (behind G false) chosen (looks_behind free G n false looks)
        (λ p. Decides-like (chosen p) (bound_fits free G n e looks p) (fits_bound free G n e looks p) (d (cons (c p) p)))
        ∙ sym (ap (λ z. 2 ^ z) (step false e ∙ zero-add k))
      where
        c : Row → Bool
        c p = says free G n e looks p

        chosen : Row → Bool
        chosen p = f (cons (c p) p)

        half : (x : Bool) (p : Row) → f (cons x p) ≡ (chosen p && pick x (c p) (not (c p)))
        half x p = pick_one x (c p) (λ t. fits_says free G n e looks x p ((d (cons x p)).0 t))
          where
            pick_one : (x y : Bool) → (f (cons x p) ≡ true → x ≡ y) → f (cons x p) ≡ (f (cons y p) && pick x y (not y))
            pick_one true true h = grind arith
            pick_one false false h = grind arith
            pick_one true false h = grind arith
            pick_one false true h = grind arith

-- what the row of a pivot says of its column
abbrev said : ℕ → Rows → Rows → (ℕ → ℕ) → Row → Row → Row → Row
said n R T c s free p j = differ (act n T s (owners n c j)) (parity (λ f. free f && (R (owners n c j) f && p f)) n)

module _ (n : ℕ) (A R T : Rows) (c : ℕ → ℕ) (s free : Row) (h : Tracks n A R T) (v : Pivots n R c) (m : Marks n c free) where
  said_at : (p : Row) (i : ℕ) → i < n → c i < n → said n R T c s free p (c i) ≡ differ (act n T s i) (parity (λ f. free f && (R i f && p f)) n)
  said_at p i l k = ap (λ z. differ (act n T s z) (parity (λ f. free f && (R z f && p f)) n)) ((owners_own n R c v).row i l k)

  said_looks : Looks free (said n R T c s free) n
  said_looks p q e j l f =
      ap (differ (act n T s (owners n c j)))
      (parity_cong (λ f. free f && (R (owners n c j) f && p f)) (λ f. free f && (R (owners n c j) f && q f)) n
      (λ z b. inside (free z) (R (owners n c j) z) (p z) (q z) (e z b)))
    where
      inside : (a b x y : Bool) → (a ≡ true → x ≡ y) → (a && (b && x)) ≡ (a && (b && y))
      inside true b x y k = ap (λ z. b && z) (k refl)
      inside false b x y k = refl

  solves_fits : (p : Row) → Same n (act n A p) s → Fits free (said n R T c s free) n p
  solves_fits p e j l f = elim (pivot_or_free n c j) [
    | inl w ↦ subst (λ z. p z ≡ said n R T c s free p z) w.2 (at_pivot w.0 w.1 (omega (arith, w.2)))
    | inr g ↦ absurd (false≢true (sym f ∙ m.none j l g))
  ]
    where
      turn : (x y u : Bool) → differ x y ≡ u → x ≡ differ u y
      turn x y u e = grind arith

      at_pivot : (i : ℕ) → i < n → c i < n → p (c i) ≡ said n R T c s free p (c i)
      at_pivot i b k =
          turn (p (c i)) (parity (λ f. free f && (R i f && p f)) n) (act n T s i) (sym (split n R c v free m p i b k) ∙ solved_back n A R T h p s e i b)
          ∙ sym (said_at p i b k)

  fits_solves : ((i : ℕ) → i < n → n ≤ c i → act n T s i ≡ false) → (p : Row) → Fits free (said n R T c s free) n p → Same n (act n A p) s
  fits_solves even p e = solved n A R T h p s (λ i l. elim (cases_lt (c i) n) [
    | inl k ↦ split n R c v free m p i l k
        ∙ turn (p (c i)) (parity (λ f. free f && (R i f && p f)) n) (act n T s i) (e (c i) k (m.pivot i l k) ∙ said_at p i l k)
    | inr g ↦ act_none n R c v p i l g ∙ sym (even i l g)
  ])
    where
      turn : (x y u : Bool) → x ≡ differ u y → differ x y ≡ u
      turn x y u e = grind arith

  -- HOW MANY SOLVE IT: f is a test that says which do
  pub count_solutions : (f : Row → Bool) → ((p : Row) → Decides (f p) (Same n (act n A p) s)) → ((i : ℕ) → i < n → n ≤ c i → act n T s i ≡ false) → count n f ≡ 2 ^ tally free n
  count_solutions f d even = count_fits n free (said n R T c s free) f said_looks (λ p. Decides-like (f p) (solves_fits p) (fits_solves even p) (d p))

-- AS MANY free columns as rows that are off everywhere
pub as_many_free : (n : ℕ) (R : Rows) (c : ℕ → ℕ) (free : Row) → Pivots n R c → Marks n c free → tally (λ i. leb n (c i)) n ≡ tally free n
as_many_free n R c free v m =
    let o : ℕ → ℕ = owners n c in
    let rows : ℕ = tally (λ i. not (leb n (c i))) n in
    let columns : ℕ = tally (λ j. not (free j)) n in
    let a : rows + tally (λ i. leb n (c i)) n ≡ n = tally_not (λ i. leb n (c i)) n in
    let b : columns + tally free n ≡ n = tally_not free n in
    let x : rows ≤ columns = tally_into (λ i. not (leb n (c i))) (λ j. not (free j)) n n c
    (λ i l t. (has i t, ap not (m.pivot i l (has i t))))
    (λ i k l q t u e. pivots_apart n R c v i k l q (has i t) e) in
    let y : columns ≤ rows = tally_into (λ j. not (free j)) (λ i. not (leb n (c i))) n n o
    (λ j l t. (owned j l (not-true (free j) t), ap not (lt-leb n (c (o j)) (owned_c j l (not-true (free j) t)))))
    (λ j k l q t u e.
    sym (owner_column j l (not-true (free j) t)) ∙ ap c e ∙ owner_column k q (not-true (free k) u)) in
    omega arith
  where
    has : (i : ℕ) → not (leb n (c i)) ≡ true → c i < n
    has i t = leb-false n (c i) (not-true (leb n (c i)) t)

    own : Owns n c (owners n c)
    own = owners_own n R c v

    owned : (j : ℕ) → j < n → free j ≡ false → owners n c j < n
    owned j l f = elim (pivot_or_free n c j) [
      | inl w ↦
          let a : owners n c (c w.0) ≡ w.0 = own.row w.0 w.1 (omega (arith, w.2)) in
          let b : owners n c (c w.0) ≡ owners n c j = ap (owners n c) w.2 in
          omega (arith, w.1)
      | inr g ↦ absurd (false≢true (sym f ∙ m.none j l g))
    ]

    owner_column : (j : ℕ) → j < n → free j ≡ false → c (owners n c j) ≡ j
    owner_column j l f = own.column j l (owned j l f)

    owned_c : (j : ℕ) → j < n → free j ≡ false → c (owners n c j) < n
    owned_c j l f = omega (arith, owner_column j l f)
