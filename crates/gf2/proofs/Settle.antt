-- To settle a row: it is reduced by the rows that are settled, then it takes a pivot, which is cleared from those, or it is off everywhere.
-- Each step adds a row to another. The rows settled in turn, from the first: that is elimination. Assumes nothing.
use Rattle.std.proofs.Common.{◌≡◌, ℕ, ◌<◌, ◌≤◌, true, false, ◌≢◌, sym, ap, ◌∙◌, subst, inl, inr, arith}
use mathlib.Core.Bool.{false≢true}
use Rattle.std.proofs.lemmas.Bool.{cases_eq}
use Rattle.gf2.specs.Rows.{Rows, Same, nowhere}
use Rattle.gf2.specs.Reduction.{Adds, Puts, Pivots, Settled, Reduced, Cleared}
use Rattle.gf2.proofs.Rows.{sum_on, sum_off}

pub settled_all : (n : ℕ) (R : Rows) (c : ℕ → ℕ) → Settled n (λ i. i < n) R c → Pivots n R c
settled_all n R c h = record {
  on = λ i l. h.on i l l;
  alone = λ i l p k m. h.alone i l l p k m m;
  none = λ i l. h.none i l l;
}

pub settled_some : (n : ℕ) (D : ℕ → Type 0) (R : Rows) (c : ℕ → ℕ) → Pivots n R c → Settled n D R c
settled_some n D R c h = record {
  on = λ i l d. h.on i l;
  alone = λ i l d p k m e. h.alone i l p k m;
  none = λ i l d. h.none i l;
}

pub settled_none : (n : ℕ) (R : Rows) (c : ℕ → ℕ) → Settled n (λ i. i < 0) R c
settled_none n R c = record {
  on = λ i l d. absurd (omega arith);
  alone = λ i l d. absurd (omega arith);
  none = λ i l d. absurd (omega arith);
}

-- a row that is not of D may change
pub settled_but : (n : ℕ) (D : ℕ → Type 0) (R S : Rows) (c : ℕ → ℕ) (k : ℕ) → (D k → ⊥) → ((i : ℕ) → i < n → i ≢ k → Same n (S i) (R i)) → Settled n D R c → Settled n D S c
settled_but n D R S c k not_k same h = record {
  on = λ i l a p. same i l (apart i a) (c i) p ∙ h.on i l a p;
  alone = λ i l a p m q b ne. same m q (apart m b) (c i) p ∙ h.alone i l a p m q b ne;
  none = λ i l a p j q. same i l (apart i a) j q ∙ h.none i l a p j q;
}
  where
    apart : (i : ℕ) → D i → i ≢ k
    apart i d e = not_k (subst D e d)

-- W has no more than V and t
abbrev pub More : (ℕ → Type 0) → (ℕ → Type 0) → ℕ → Type 0
More V W t = (i : ℕ) → W i → i ≢ t → V i

module _ (n : ℕ) (D V W : ℕ → Type 0) (c : ℕ → ℕ) (k t : ℕ) (more : More V W t) where
  -- REDUCE: row t of D is passed by,
  pub reduce_skip : (R : Rows) → (D t → c t < n → R k (c t) ≡ false) → Reduced n D V R c k → Reduced n D W R c k
  reduce_skip R off h i l d w p = elim (cases_eq i t) [
    | inl e ↦ subst (λ z. D z → c z < n → R k (c z) ≡ false) (sym e) off d p
    | inr ne ↦ h i l d (more i w ne) p
  ]

  -- or added to row k
  pub reduce_add : (R S : Rows) → t < n → D t → c t < n → R k (c t) ≡ true → Adds n R S k t → Settled n D R c → Reduced n D V R c k → Reduced n D W S c k
  reduce_add R S tn dt ct lit s v h i l d w p = elim (cases_eq i t) [
    | inl e ↦ subst (λ z. S k (c z) ≡ false) (sym e) (s.here (c t) ct ∙ sum_on (R k (c t)) (R t (c t)) lit (v.on t tn dt ct))
    | inr ne ↦ s.here (c i) p ∙ sum_off (R k (c i)) (R t (c i)) (v.alone i l d p t tn dt (λ e. ne (sym e))) ∙ h i l d (more i w ne) p
  ]

  -- CLEAR: row t is passed by,
  pub clear_skip : (R : Rows) (j : ℕ) → (D t → t ≢ k → R t j ≡ false) → Cleared n D V R k j → Cleared n D W R k j
  clear_skip R j off h m l d w ne = elim (cases_eq m t) [
    | inl e ↦ subst (λ z. D z → z ≢ k → R z j ≡ false) (sym e) off d ne
    | inr a ↦ h m l d (more m w a) ne
  ]

  -- or row k added to it
  pub clear_add : (R S : Rows) (j : ℕ) → j < n → R t j ≡ true → R k j ≡ true → Adds n R S t k → Cleared n D V R k j → Cleared n D W S k j
  clear_add R S j jn lit on s h m l d w ne = elim (cases_eq m t) [
    | inl e ↦ subst (λ z. S z j ≡ false) (sym e) (s.here j jn ∙ sum_on (R t j) (R k j) lit on)
    | inr a ↦ s.other m l a j jn ∙ h m l d (more m w a) ne
  ]

module _ (n : ℕ) (D : ℕ → Type 0) (R S : Rows) (c : ℕ → ℕ) (k m : ℕ) where
  -- a row added to row k, which is not of D
  pub into_kept : (D k → ⊥) → Adds n R S k m → Settled n D R c → Settled n D S c
  into_kept not_k s = settled_but n D R S c k not_k s.other

  -- row k, reduced, added to another row, which has a pivot unless row k is off everywhere
  pub from_kept : k < n → m ≢ k → (D m → n ≤ c m → Same n (R k) nowhere) → Adds n R S m k → Reduced n D (λ i. i < n) R c k → Settled n D R c → Settled n D S c
  from_kept kn ne zero_too s off h = record {
    on = λ i l d p. at_pivot i l d p i l ∙ h.on i l d p;
    alone = λ i l d p q b e x. at_pivot i l d p q b ∙ h.alone i l d p q b e x;
    none = none;
  }
    where
      at_pivot : (i : ℕ) → i < n → D i → c i < n → (q : ℕ) → q < n → S q (c i) ≡ R q (c i)
      at_pivot i l d p q b = elim (cases_eq q m) [
        | inl e ↦ subst (λ z. S z (c i) ≡ R z (c i)) (sym e) (s.here (c i) p ∙ sum_off (R m (c i)) (R k (c i)) (off i l d l p))
        | inr x ↦ s.other q b x (c i) p
      ]

      none : (i : ℕ) → i < n → D i → n ≤ c i → Same n (S i) nowhere
      none i l d g j b = elim (cases_eq i m) [
        | inl e ↦
            let dm : D m = subst D e d in
            let gm : n ≤ c m = subst (λ z. n ≤ c z) e g in
            subst (λ z. S z j ≡ R z j) (sym e) (s.here j b ∙ sum_off (R m j) (R k j) (zero_too dm gm j b)) ∙ h.none i l d g j b
        | inr x ↦ s.other i l x j b ∙ h.none i l d g j b
      ]

  -- it stays as it is
  pub from_row : k < n → m ≢ k → Adds n R S m k → Same n (S k) (R k)
  from_row kn ne s = s.other k kn (λ e. ne (sym e))

  pub from_reduced : k < n → m ≢ k → Adds n R S m k → Reduced n D (λ i. i < n) R c k → Reduced n D (λ i. i < n) S c k
  from_reduced kn ne s off i l d w p = from_row kn ne s (c i) p ∙ off i l d w p

-- a row with what is on has a pivot
pub lit_pivot : (n : ℕ) (D : ℕ → Type 0) (R : Rows) (c : ℕ → ℕ) → Settled n D R c → (m j : ℕ) → m < n → j < n → R m j ≡ true → D m → n ≤ c m → ⊥
lit_pivot n D R c h m j l b lit d g = false≢true (sym (h.none m l d g j b) ∙ lit)

module _ (n : ℕ) (D D' : ℕ → Type 0) (R : Rows) (c c' : ℕ → ℕ) (k x : ℕ) (more : More D D' k) (puts : Puts n c c' k x) (h : Settled n D R c) where
  -- THE END, with a pivot: row k, reduced and on at x, which is clear, joins the settled rows
  pub settle_pivot : k < n → x < n → R k x ≡ true → Reduced n D (λ i. i < n) R c k → Cleared n D (λ i. i < n) R k x → Settled n D' R c'
  settle_pivot kn xn lit off clear = record { on = on; alone = alone; none = none }
    where
      on : (i : ℕ) → i < n → D' i → c' i < n → R i (c' i) ≡ true
      on i l d p = elim (cases_eq i k) [
        | inl e ↦ subst (λ z. R z (c' z) ≡ true) (sym e) (ap (R k) puts.here ∙ lit)
        | inr ne ↦
            let a : c' i ≡ c i = puts.other i l ne in
            ap (R i) a ∙ h.on i l (more i d ne) (omega arith)
      ]

      alone : (i : ℕ) → i < n → D' i → c' i < n → (q : ℕ) → q < n → D' q → q ≢ i → R q (c' i) ≡ false
      alone i l d p q b f ne = elim (cases_eq i k) [
        | inl e ↦ ap (R q) (ap c' e ∙ puts.here) ∙ clear q b (more q f (λ z. ne (z ∙ sym e))) b (λ z. ne (z ∙ sym e))
        | inr nk ↦
            let a : c' i ≡ c i = puts.other i l nk in
            let ci : c i < n = omega arith in
            ap (R q) a ∙ elim (cases_eq q k) as (λ _. R q (c i) ≡ false) [
              | inl e ↦ subst (λ z. R z (c i) ≡ false) (sym e) (off i l (more i d nk) l ci)
              | inr nq ↦ h.alone i l (more i d nk) ci q b (more q f nq) ne
            ]
      ]

      none : (i : ℕ) → i < n → D' i → n ≤ c' i → Same n (R i) nowhere
      none i l d g = elim (cases_eq i k) [
        | inl e ↦ absurd (let a : c' i ≡ c' k = ap c' e in omega (arith, puts.here))
        | inr ne ↦ h.none i l (more i d ne) (omega (arith, puts.other i l ne))
      ]

  -- or off everywhere
  pub settle_none : k < n → n ≤ x → Same n (R k) nowhere → Settled n D' R c'
  settle_none kn nx off = record { on = on; alone = alone; none = none }
    where
      has : (i : ℕ) → c' i < n → i ≢ k
      has i p e = let a : c' i ≡ c' k = ap c' e in omega (arith, puts.here)

      on : (i : ℕ) → i < n → D' i → c' i < n → R i (c' i) ≡ true
      on i l d p =
          let a : c' i ≡ c i = puts.other i l (has i p) in
          ap (R i) a ∙ h.on i l (more i d (has i p)) (omega arith)

      alone : (i : ℕ) → i < n → D' i → c' i < n → (q : ℕ) → q < n → D' q → q ≢ i → R q (c' i) ≡ false
      alone i l d p q b f ne =
          let a : c' i ≡ c i = puts.other i l (has i p) in
          elim (cases_eq q k) [
            | inl e ↦ subst (λ z. R z (c' i) ≡ false) (sym e) (off (c' i) p)
            | inr nq ↦ ap (R q) a ∙ h.alone i l (more i d (has i p)) (omega arith) q b (more q f nq) ne
          ]

      none : (i : ℕ) → i < n → D' i → n ≤ c' i → Same n (R i) nowhere
      none i l d g = elim (cases_eq i k) [
        | inl e ↦ subst (λ z. Same n (R z) nowhere) (sym e) off
        | inr ne ↦ h.none i l (more i d ne) (omega (arith, puts.other i l ne))
      ]
