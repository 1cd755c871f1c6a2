-- Rows reduced a block at a time: the sums that clear a block's pivots keep what the rows were made from, and the block's rows join those that have their pivots.
-- Assumes nothing.
use Rattle.std.proofs.Common.{◌≡◌, ℕ, zero, suc, ◌+◌, ◌-◌, ◌<◌, ◌≤◌, Bool, true, false, ◌&&◌, ltb, ◌≢◌, ◌⊎◌, sym, refl, ap, ◌∙◌, subst, ap₂, inl, inr, arith}
use Rattle.std.proofs.lemmas.Bool.{cases_eq, cases_lt, lt-ltb, le-ltb}
use Rattle.gf2.specs.Rows.{differ, Row, Rows, Same, sum, nowhere, dot, act}
use Rattle.gf2.specs.Reduction.{Tracks, Pivots, Settled, Reduced}
use Rattle.gf2.specs.Blocks.{Stepped, Stepping, Clears, Sweeps}
use Rattle.gf2.proofs.Parity.{and_false, differ_false}
use Rattle.gf2.proofs.Rows.{differ_same, parity_alone, dot_comm, dot_left, dot_right, dot_times, sum_dot, none_dot, dot_none}

-- ---- sums of several rows

-- p on a sum of rows: the sum of p on each
pub sums_dot : (n count : ℕ) (w : Row) (M : Rows) (p : Row) → dot n (λ j. dot count w (λ b. M b j)) p ≡ dot count w (λ b. dot n (M b) p)
sums_dot n zero w M p = none_dot n nowhere p (λ j l. refl)
sums_dot n (suc b) w M p =
    sum_dot n (λ j. w b && M b j) (λ j. dot b w (λ a. M a j)) p
    ∙ ap₂ (λ x y. differ x y) (dot_comm n (λ j. w b && M b j) p ∙ dot_times n p (w b) (M b) ∙ ap (λ x. w b && x) (dot_comm n p (M b))) (sums_dot n b w M p)

-- a row is outside the block or in it
pub place : (first count i : ℕ) → ((i < first) ⊎ (first + count ≤ i)) ⊎ ((b : ℕ) × (b < count) × (first + b ≡ i))
place first count i = elim (cases_lt i first) [
  | inl l ↦ inl (inl l)
  | inr g ↦ elim (cases_lt i (first + count)) [
    | inl l ↦ inr (i - first, omega arith, omega arith)
    | inr h ↦ inl (inr h)
  ]
]

module _ (n : ℕ) (R S : Rows) (first count : ℕ) (w : Rows) (s : Sweeps n R S first count w) where
  sweep_act : (p : Row) (i : ℕ) → i < n → (i < first) ⊎ (first + count ≤ i) → act n S p i ≡ differ (act n R p i) (dot count (w i) (λ b. act n R p (first + b)))
  sweep_act p i l out =
      dot_left n (S i) (sum (R i) (λ j. dot count (w i) (λ b. R (first + b) j))) p (λ j _. s.rest i l out j)
      ∙ sum_dot n (R i) (λ j. dot count (w i) (λ b. R (first + b) j)) p
      ∙ ap (λ x. differ (act n R p i) x) (sums_dot n count (w i) (λ b. R (first + b)) p)

  sweep_block : (p : Row) (b : ℕ) → b < count → act n S p (first + b) ≡ act n R p (first + b)
  sweep_block p b l = dot_left n (S (first + b)) (R (first + b)) p (λ j _. s.block b l j)

-- the same sums in both tables
pub tracks_sweep : (n : ℕ) (A R T S U : Rows) (first count : ℕ) (w : Rows) → first + count ≤ n
    → Sweeps n R S first count w → Sweeps n T U first count w → Tracks n A R T → Tracks n A S U
tracks_sweep n A R T S U first count w fits r t h = record { forward = forth; backward = λ p s e. h.backward p s (back p s e) }
  where
    forth : (p : Row) (i : ℕ) → i < n → act n S p i ≡ act n U (act n A p) i
    forth p i l = elim (place first count i) [
      | inl out ↦
          sweep_act n R S first count w r p i l out
          ∙ ap₂ (λ x y. differ x y) (h.forward p i l) (dot_right count (w i) (λ b. act n R p (first + b)) (λ b. act n T (act n A p) (first + b)) (λ b k. h.forward p (first + b) (omega arith)))
          ∙ sym (sweep_act n T U first count w t (act n A p) i l out)
      | inr q ↦ subst (λ z. act n S p z ≡ act n U (act n A p) z) q.2
          (sweep_block n R S first count w r p q.0 q.1 ∙ h.forward p (first + q.0) (omega (arith, q.1)) ∙ sym (sweep_block n T U first count w t (act n A p) q.0 q.1))
    ]

    back : (p s : Row) → ((i : ℕ) → i < n → act n S p i ≡ act n U s i) → (i : ℕ) → i < n → act n R p i ≡ act n T s i
    back p s e i l =
        let in_block : (b : ℕ) → b < count → act n R p (first + b) ≡ act n T s (first + b) =
        λ b k. sym (sweep_block n R S first count w r p b k) ∙ e (first + b) (omega arith) ∙ sweep_block n T U first count w t s b k in
        elim (place first count i) [
          | inl out ↦ differ_same (act n R p i) (dot count (w i) (λ b. act n R p (first + b))) (act n T s i) (dot count (w i) (λ b. act n T s (first + b)))
              (sym (sweep_act n R S first count w r p i l out) ∙ e i l ∙ sweep_act n T U first count w t s i l out)
              (dot_right count (w i) (λ b. act n R p (first + b)) (λ b. act n T s (first + b)) in_block)
          | inr q ↦ subst (λ z. act n R p z ≡ act n T s z) q.2 (in_block q.0 q.1)
        ]

-- ---- a row added to those that are on in its column

once : (a b : Bool) → b ≡ true → differ a (a && b) ≡ false
once a b e = grind arith

and_off : (a b x : Bool) → b ≡ false → differ x (a && b) ≡ x
and_off a b x e = grind arith

pub off_and : (a b x : Bool) → a ≡ false → differ x (a && b) ≡ x
off_and a b x e = grind arith

module _ (R S : Rows) (from to k x : ℕ) (h : Clears R S from to k x) where
  -- row i is as it was, or row k is added if it is on at x
  either : (i : ℕ) → ((j : ℕ) → S i j ≡ R i j) ⊎ ((j : ℕ) → S i j ≡ differ (R i j) (R i x && R k j))
  either i = elim (cases_eq i k) [
    | inl e ↦ inl (λ j. subst (λ z. S z j ≡ R z j) (sym e) (h.same j))
    | inr ne ↦ elim (cases_lt i from) [
      | inl l ↦ inl (h.outside i (inl l))
      | inr g ↦ elim (cases_lt i to) [ inl l ↦ inr (h.added i g l ne) | inr f ↦ inl (h.outside i (inr f)) ]
    ]
  ]

  -- where row k is off, and in a row that is off at x, all is as it was
  pub clears_off : (j : ℕ) → R k j ≡ false → (i : ℕ) → S i j ≡ R i j
  clears_off j off i = elim (either i) [ inl e ↦ e j | inr e ↦ e j ∙ and_off (R i x) (R k j) (R i j) off ]

  pub clears_lacks : (i : ℕ) → R i x ≡ false → (j : ℕ) → S i j ≡ R i j
  clears_lacks i off j = elim (either i) [ inl e ↦ e j | inr e ↦ e j ∙ off_and (R i x) (R k j) (R i j) off ]

  pub clears_clear : R k x ≡ true → (i : ℕ) → from ≤ i → i < to → i ≢ k → S i x ≡ false
  clears_clear lit i g l ne = h.added i g l ne x ∙ once (R i x) (R k x) lit

-- the rows but for row k stay settled where row k is reduced, and row k joins them
pub clears_settled : (n : ℕ) (R S : Rows) (c : ℕ → ℕ) (k x : ℕ) → x < n → Clears R S 0 n k x → Reduced n (λ i. i ≢ k) (λ i. i < n) R c k
    → Settled n (λ i. i ≢ k) R c → Settled n (λ i. i ≢ k) S c
clears_settled n R S c k x xn h red s = record {
  on = λ i l d p. at i l d p i ∙ s.on i l d p;
  alone = λ i l d p m ml e ne. at i l d p m ∙ s.alone i l d p m ml e ne;
  none = λ i l d g j b. clears_lacks R S 0 n k x h i (s.none i l d g x xn) j ∙ s.none i l d g j b;
}
  where
    at : (i : ℕ) → i < n → i ≢ k → c i < n → (m : ℕ) → S m (c i) ≡ R m (c i)
    at i l d p = clears_off R S 0 n k x h (c i) (red i l d l p)

-- ---- the rows of a block take their pivots, one after the other

pub stepping_start : (n : ℕ) (R : Rows) (c : ℕ → ℕ) (first end : ℕ) → Stepped n R c first → Stepping n R c first first end
stepping_start n R c first end s = record {
  before = s;
  on = λ i g l. absurd (omega arith);
  alone = λ i g l. absurd (omega arith);
  none = λ i g l. absurd (omega arith);
}

-- only the pivots of the first k rows count
stepped_columns : (n : ℕ) (R : Rows) (c d : ℕ → ℕ) (k : ℕ) → ((i : ℕ) → i < k → d i ≡ c i) → Stepped n R c k → Stepped n R d k
stepped_columns n R c d k e s = record {
  on = λ i l p. ap (R i) (e i l) ∙ s.on i l (omega (arith, e i l));
  alone = λ i l p m ml ne. ap (R m) (e i l) ∙ s.alone i l (omega (arith, e i l)) m ml ne;
  none = λ i l g. s.none i l (omega (arith, e i l));
}

module _ (n : ℕ) (R : Rows) (c c' : ℕ → ℕ) (first t end x : ℕ) (ft : first ≤ t) (te : t < end) (en : end ≤ n)
    (here : c' t ≡ x) (other : (i : ℕ) → i ≢ t → c' i ≡ c i) (s : Stepping n R c first t end) where
  -- row t is off at the pivots so far
  stepping_off : (i : ℕ) → i < t → c i < n → R t (c i) ≡ false
  stepping_off i l p = elim (cases_lt i first) [
    | inl b ↦ s.before.alone i b p t (omega arith) (omega arith)
    | inr g ↦ s.alone i g l p t ft te (omega arith)
  ]

  -- row t is off everywhere,
  pub stepping_none : n ≤ x → Same n (R t) nowhere → Stepping n R c' first (t + 1) end
  stepping_none nx off = record {
    before = stepped_columns n R c c' first (λ i l. other i (omega arith)) s.before;
    on = λ i g l p.
        let ne = has i p in
        ap (R i) (other i ne) ∙ s.on i g (omega arith) (omega (arith, other i ne));
    alone = λ i g l p m mg ml d.
        let ne = has i p in
        ap (R m) (other i ne) ∙ s.alone i g (omega arith) (omega (arith, other i ne)) m mg ml d;
    none = λ i g l p. elim (cases_eq i t) [
      | inl e ↦ subst (λ z. Same n (R z) nowhere) (sym e) off
      | inr ne ↦ s.none i g (omega arith) (omega (arith, other i ne))
    ];
  }
    where
      has : (i : ℕ) → c' i < n → i ≢ t
      has i p e = let a : c' i ≡ c' t = ap c' e in omega arith

  -- or it is on at x, which is cleared from the block
  module _ (S : Rows) (xn : x < n) (lit : R t x ≡ true) (h : Clears R S first end t x) where
    at_pivot : (i : ℕ) → i < t → c i < n → (m : ℕ) → S m (c i) ≡ R m (c i)
    at_pivot i l p = clears_off R S first end t x h (c i) (stepping_off i l p)

    pub stepping_pivot : Stepping n S c' first (t + 1) end
    stepping_pivot = record {
      before = stepped_columns n S c c' first (λ i l. other i (omega arith)) (record {
        on = λ i l p. at_pivot i (omega arith) p i ∙ s.before.on i l p;
        alone = λ i l p m ml ne. at_pivot i (omega arith) p m ∙ s.before.alone i l p m ml ne;
        none = λ i l g j b. h.outside i (inl l) j ∙ s.before.none i l g j b;
      });
      on = on;
      alone = alone;
      none = none;
    }
      where
        on : (i : ℕ) → first ≤ i → i < t + 1 → c' i < n → S i (c' i) ≡ true
        on i g l p = elim (cases_eq i t) [
          | inl e ↦ subst (λ z. S z (c' z) ≡ true) (sym e) (ap (S t) here ∙ h.same x ∙ lit)
          | inr ne ↦
              let a : c i < n = omega (arith, other i ne) in
              ap (S i) (other i ne) ∙ at_pivot i (omega arith) a i ∙ s.on i g (omega arith) a
        ]

        alone : (i : ℕ) → first ≤ i → i < t + 1 → c' i < n → (m : ℕ) → first ≤ m → m < end → m ≢ i → S m (c' i) ≡ false
        alone i g l p m mg ml d = elim (cases_eq i t) [
          | inl e ↦ ap (S m) (ap c' e ∙ here) ∙ clears_clear R S first end t x h lit m mg ml (λ z. d (z ∙ sym e))
          | inr ne ↦
              let a : c i < n = omega (arith, other i ne) in
              ap (S m) (other i ne) ∙ at_pivot i (omega arith) a m ∙ s.alone i g (omega arith) a m mg ml d
        ]

        none : (i : ℕ) → first ≤ i → i < t + 1 → n ≤ c' i → Same n (S i) nowhere
        none i g l p = elim (cases_eq i t) [
          | inl e ↦ absurd (let a : c' i ≡ c' t = ap c' e in omega arith)
          | inr ne ↦
              let a : n ≤ c i = omega (arith, other i ne) in
              λ j b. clears_lacks R S first end t x h i (s.none i g (omega arith) a x xn) j ∙ s.none i g (omega arith) a j b
        ]

-- ---- the block's pivots are cleared from the other rows

module _ (n : ℕ) (R S : Rows) (c : ℕ → ℕ) (first count : ℕ) (w : Rows) (fits : first + count ≤ n)
    (s : Stepping n R c first (first + count) (first + count)) (h : Sweeps n R S first count w)
    (sees : (i b : ℕ) → i < n → b < count → w i b ≡ (ltb (c (first + b)) n && R i (c (first + b)))) where
  -- where the block's rows are off, all is as it was
  sweep_off : (j : ℕ) → ((b : ℕ) → b < count → R (first + b) j ≡ false) → (i : ℕ) → i < n → S i j ≡ R i j
  sweep_off j off i l = elim (place first count i) [
    | inl out ↦ h.rest i l out j ∙ ap (λ z. differ (R i j) z) (dot_none count (w i) (λ b. R (first + b) j) off) ∙ differ_false (R i j)
    | inr q ↦ subst (λ z. S z j ≡ R z j) q.2 (h.block q.0 q.1 j)
  ]

  early : (i : ℕ) → i < first → c i < n → (m : ℕ) → m < n → S m (c i) ≡ R m (c i)
  early i l p = sweep_off (c i) (λ b k. s.before.alone i l p (first + b) (omega arith) (omega arith))

  -- a row that is off everywhere has no sum added
  unseen : (i : ℕ) → i < n → Same n (R i) nowhere → (b : ℕ) → b < count → w i b ≡ false
  unseen i l off b k = sees i b l k ∙ elim (cases_lt (c (first + b)) n) [
    | inl p ↦ ap (λ z. ltb (c (first + b)) n && z) (off (c (first + b)) p) ∙ and_false (ltb (c (first + b)) n)
    | inr g ↦ ap (λ z. z && R i (c (first + b))) (le-ltb (c (first + b)) n g)
  ]

  zero_kept : (i : ℕ) → i < n → Same n (R i) nowhere → (j : ℕ) → S i j ≡ R i j
  zero_kept i l off j = elim (place first count i) [
    | inl out ↦ h.rest i l out j ∙ ap (λ z. differ (R i j) z) (none_dot count (w i) (λ b. R (first + b) j) (unseen i l off)) ∙ differ_false (R i j)
    | inr q ↦ subst (λ z. S z j ≡ R z j) q.2 (h.block q.0 q.1 j)
  ]

  -- each other row is off at the pivot of the block's row b
  swept : (b : ℕ) → b < count → c (first + b) < n → (m : ℕ) → m < n → (m < first) ⊎ (first + count ≤ m) → S m (c (first + b)) ≡ false
  swept b k p m ml out =
      h.rest m ml out (c (first + b))
      ∙ ap (λ z. differ (R m (c (first + b))) z) (
      parity_alone (λ a. w m a && R (first + a) (c (first + b))) count b k
      (λ a ak ne. ap (λ z. w m a && z) (s.alone (first + b) (omega arith) (omega arith) p (first + a) (omega arith) (omega arith) (omega arith)) ∙ and_false (w m a))
      ∙ ap₂ (λ u v. u && v) (sees m b ml k ∙ ap (λ z. z && R m (c (first + b))) (lt-ltb (c (first + b)) n p)) (s.on (first + b) (omega arith) (omega arith) p))
      ∙ again (R m (c (first + b)))
    where
      again : (a : Bool) → differ a ((true && a) && true) ≡ false
      again a = grind arith

  pub stepped_sweep : Stepped n S c (first + count)
  stepped_sweep = record { on = on; alone = alone; none = none }
    where
      on : (i : ℕ) → i < first + count → c i < n → S i (c i) ≡ true
      on i l p = elim (place first count i) [
        | inl out ↦
            let lt : i < first = elim out [ inl a ↦ a | inr a ↦ absurd (omega arith) ] in
            early i lt p i (omega arith) ∙ s.before.on i lt p
        | inr q ↦ subst (λ z. S z (c i) ≡ R z (c i)) q.2 (h.block q.0 q.1 (c i)) ∙ s.on i (omega (arith, q.2)) l p
      ]

      alone : (i : ℕ) → i < first + count → c i < n → (m : ℕ) → m < n → m ≢ i → S m (c i) ≡ false
      alone i l p m ml ne = elim (place first count i) [
        | inl out ↦
            let lt : i < first = elim out [ inl a ↦ a | inr a ↦ absurd (omega arith) ] in
            early i lt p m ml ∙ s.before.alone i lt p m ml ne
        | inr q ↦ elim (place first count m) [
          | inl far ↦ subst (λ z. c z < n → S m (c z) ≡ false) q.2 (λ p'. swept q.0 q.1 p' m ml far) p
          | inr r ↦ subst (λ z. S z (c i) ≡ R z (c i)) r.2 (h.block r.0 r.1 (c i))
              ∙ s.alone i (omega (arith, q.2)) l p m (omega (arith, r.2)) (omega (arith, r.1, r.2)) ne
        ]
      ]

      none : (i : ℕ) → i < first + count → n ≤ c i → Same n (S i) nowhere
      none i l g =
          let off : Same n (R i) nowhere = elim (cases_lt i first) [ inl lt ↦ s.before.none i lt g | inr ge ↦ s.none i ge l g ] in
          λ j b. zero_kept i (omega arith) off j ∙ off j b

pub stepped_none : (n : ℕ) (R : Rows) (c : ℕ → ℕ) → Stepped n R c 0
stepped_none n R c = record { on = λ i l. absurd (omega arith); alone = λ i l. absurd (omega arith); none = λ i l. absurd (omega arith) }

-- all rows have their pivots
pub stepped_pivots : (n : ℕ) (R : Rows) (c : ℕ → ℕ) → Stepped n R c n → Pivots n R c
stepped_pivots n R c s = record { on = s.on; alone = s.alone; none = s.none }

-- rows that are off everywhere, and have no pivot, may be passed by
pub stepped_zeros : (n : ℕ) (R : Rows) (c : ℕ → ℕ) (k m : ℕ) → Stepped n R c k
    → ((i : ℕ) → k ≤ i → i < m → n ≤ c i) → ((i : ℕ) → k ≤ i → i < m → Same n (R i) nowhere) → Stepped n R c m
stepped_zeros n R c k m s waits off = record {
  on = λ i l p. s.on i (known i l p) p;
  alone = λ i l p. s.alone i (known i l p) p;
  none = λ i l g. elim (cases_lt i k) [ inl lt ↦ s.none i lt g | inr ge ↦ off i ge l ];
}
  where
    known : (i : ℕ) → i < m → c i < n → i < k
    known i l p = elim (cases_lt i k) [ inl lt ↦ lt | inr ge ↦ absurd (omega (arith, waits i ge l)) ]
