-- A row of A replaced by another: one row k of the tables takes it up, after the others were freed of it by sums, and is then to be settled again.
-- Assumes nothing.
use Rattle.std.proofs.Common.{◌≡◌, ℕ, ◌<◌, ◌≤◌, Bool, true, false, ◌&&◌, ◌≢◌, sym, refl, ap, ◌∙◌, subst, inl, inr, arith}
use mathlib.Core.Bool.{false≢true}
use Rattle.std.proofs.lemmas.Bool.{cases_eq, eq-eqb, ne_eqb}
use Rattle.gf2.specs.Rows.{pick, differ, Row, Rows, Same, sum, only, nowhere, dot, act}
use Rattle.gf2.specs.Reduction.{Tracks, Adds, PutsRow, put_row, Pivots, Settled, Chosen, Freeing}
use Rattle.gf2.proofs.Parity.{parity_cong, parity_and}
use Rattle.gf2.proofs.Rows.{find, sum_on, sum_off, and_comm, only_self, only_other, dot_left, dot_right, dot_sum, dot_none, only_dot, dot_only}
use Rattle.gf2.proofs.Tracks.{tracks_add}
use Rattle.gf2.proofs.Pivots.{odd_row}
use Rattle.gf2.proofs.Settle.{More, settled_some, settled_but, from_kept, from_reduced}

-- the rows of A alone matter
pub tracks_same : (n : ℕ) (A B R T : Rows) → ((i : ℕ) → i < n → Same n (A i) (B i)) → Tracks n A R T → Tracks n B R T
tracks_same n A B R T same h = record {
  forward = λ p i l. h.forward p i l ∙ dot_right n (T i) (act n A p) (act n B p) (λ j b. each p j b);
  backward = λ p s e i l. sym (each p i l) ∙ h.backward p s e i l;
}
  where
    each : (p : Row) (i : ℕ) → i < n → act n A p i ≡ act n B p i
    each p i l = dot_left n (A i) (B i) p (same i l)

pub put_row_puts : (n : ℕ) (M : Rows) (k : ℕ) (a : Row) → PutsRow n M (put_row M k a) k a
put_row_puts n M k a = record {
  here = λ j l. ap (λ b. pick b (a j) (M k j)) (eq-eqb k k refl);
  other = λ i l ne j h. ap (λ b. pick b (a j) (M i j)) (ne_eqb i k ne);
}

-- some row was made with row l
pub some_row : (n : ℕ) (A R T : Rows) (l : ℕ) → l < n → Tracks n A R T → (k : ℕ) × (k < n) × (T k l ≡ true)
some_row n A R T l ln h = elim (find (λ i. T i l) n) [
  | inl none ↦ absurd (false≢true (sym (dot_none n (A l) nowhere (λ _ _. refl))
      ∙ h.backward nowhere (only l) (λ i b. dot_none n (R i) nowhere (λ _ _. refl) ∙ sym (dot_only n (T i) l ln ∙ none i b)) l ln
      ∙ only_self l))
  | inr w ↦ w
]

module _ (n : ℕ) (R T : Rows) (c : ℕ → ℕ) (l k : ℕ) where
  pub chosen_none : k < n → n ≤ c k → Pivots n R c → Chosen n R T c l k
  chosen_none kn g v z zn gz lit = v.none k kn g

  pub chosen_other : ((z : ℕ) → z < n → n ≤ c z → T z l ≡ false) → Chosen n R T c l k
  chosen_other h z zn g lit = absurd (false≢true (sym (h z zn g) ∙ lit))

pub choose : (n : ℕ) (A R T : Rows) (c : ℕ → ℕ) (l : ℕ) → l < n → Tracks n A R T → Pivots n R c → (k : ℕ) × (k < n) × (T k l ≡ true) × Chosen n R T c l k
choose n A R T c l ln h v = elim (odd_row n c (λ i. T i l)) [
  | inl none ↦ let w = some_row n A R T l ln h in (w.0, w.1, w.2, chosen_other n R T c l w.0 none)
  | inr w ↦ (w.0, w.1, w.3, chosen_none n R T c l w.0 w.1 w.2 v)
]

pub freeing_start : (n : ℕ) (A R T : Rows) (c : ℕ → ℕ) (l k : ℕ) (V : ℕ → Type 0) → k < n → ((m : ℕ) → V m → ⊥) → Tracks n A R T → Pivots n R c → T k l ≡ true → Chosen n R T c l k → Freeing n A R T c l k V
freeing_start n A R T c l k V kn empty h v lit chosen = record {
  tracks = h;
  settled = settled_some n (λ i. i ≢ k) R c v;
  reduced = λ i b d w p. v.alone i b p k kn (λ e. d (sym e));
  lit = lit;
  chosen = chosen;
  freed = λ m b x ne. absurd (empty m x);
}

module _ (n : ℕ) (A : Rows) (c : ℕ → ℕ) (l k t : ℕ) (V W : ℕ → Type 0) (more : More V W t) where
  -- row t is passed by,
  pub freeing_skip : (R T : Rows) → (t ≢ k → T t l ≡ false) → Freeing n A R T c l k V → Freeing n A R T c l k W
  freeing_skip R T off h = record {
    tracks = h.tracks;
    settled = h.settled;
    reduced = h.reduced;
    lit = h.lit;
    chosen = h.chosen;
    freed = λ m b w ne. elim (cases_eq m t) [
      | inl e ↦ subst (λ z. z ≢ k → T z l ≡ false) (sym e) off ne
      | inr d ↦ h.freed m b (more m w d) ne
    ];
  }

  -- or row k added to it
  pub freeing_add : (R T R' T' : Rows) → l < n → k < n → t < n → t ≢ k → T t l ≡ true → Adds n R R' t k → Adds n T T' t k → Freeing n A R T c l k V → Freeing n A R' T' c l k W
  freeing_add R T R' T' ln kn tn ne on r s h = record {
    tracks = tracks_add n A R T R' T' t k tn kn (λ e. ne (sym e)) r s h.tracks;
    settled = from_kept n (λ i. i ≢ k) R R' c k t kn ne (λ d g. h.chosen t tn g on) r h.reduced h.settled;
    reduced = from_reduced n (λ i. i ≢ k) R R' c k t kn ne r h.reduced;
    lit = s.other k kn (λ e. ne (sym e)) l ln ∙ h.lit;
    chosen = chosen;
    freed = freed;
  }
    where
      off : T' t l ≡ false
      off = s.here l ln ∙ sum_on (T t l) (T k l) on h.lit

      chosen : Chosen n R' T' c l k
      chosen z zn g lit = elim (cases_eq z t) [
        | inl e ↦ absurd (false≢true (sym off ∙ ap (λ i. T' i l) (sym e) ∙ lit))
        | inr d ↦ λ j b. r.other k kn (λ e. ne (sym e)) j b ∙ h.chosen z zn g (sym (s.other z zn d l ln) ∙ lit) j b
      ]

      freed : (m : ℕ) → m < n → W m → m ≢ k → T' m l ≡ false
      freed m b w nk = elim (cases_eq m t) [
        | inl e ↦ ap (λ i. T' i l) e ∙ off
        | inr d ↦ s.other m b d l ln ∙ h.freed m b (more m w d) nk
      ]

-- column l of T is on in row k alone: row l of A may be replaced
pub tracks_replace : (n : ℕ) (A A' R R' T T' : Rows) (l k : ℕ) (a : Row) → l < n → k < n →
    T k l ≡ true → ((m : ℕ) → m < n → m ≢ k → T m l ≡ false) →
    PutsRow n A A' l a → PutsRow n R R' k a → PutsRow n T T' k (only l) → Tracks n A R T → Tracks n A' R' T'
tracks_replace n A A' R R' T T' l k a ln kn lit freed pa pr pt h = record { forward = forth; backward = back }
  where
    -- the tables before and after
    A_other : (p : Row) (i : ℕ) → i < n → i ≢ l → act n A' p i ≡ act n A p i
    A_other p i b ne = dot_left n (A' i) (A i) p (pa.other i b ne)

    R_other : (p : Row) (i : ℕ) → i < n → i ≢ k → act n R' p i ≡ act n R p i
    R_other p i b ne = dot_left n (R' i) (R i) p (pr.other i b ne)

    T_other : (s : Row) (i : ℕ) → i < n → i ≢ k → act n T' s i ≡ act n T s i
    T_other s i b ne = dot_left n (T' i) (T i) s (pt.other i b ne)

    T_here : (s : Row) → act n T' s k ≡ s l
    T_here s = dot_left n (T' k) (only l) s pt.here ∙ only_dot n l s ln

    R_here : (p : Row) → act n R' p k ≡ act n A' p l
    R_here p = dot_left n (R' k) a p pr.here ∙ sym (dot_left n (A' l) a p pa.here)

    -- a row of T without l does not see it
    blind : (s s' : Row) (i : ℕ) → i < n → i ≢ k → ((j : ℕ) → j < n → j ≢ l → s j ≡ s' j) → act n T s i ≡ act n T s' i
    blind s s' i b ne e = parity_cong (λ j. T i j && s j) (λ j. T i j && s' j) n (λ j q. elim (cases_eq j l) [
      | inl x ↦ subst (λ z. (T i z && s z) ≡ (T i z && s' z)) (sym x) (unseen (T i l) (s l) (s' l) (freed i b ne))
      | inr d ↦ ap (λ y. T i j && y) (e j q d)
    ])
      where
        unseen : (x y z : Bool) → x ≡ false → (x && y) ≡ (x && z)
        unseen x y z f = grind arith

    forth : (p : Row) (i : ℕ) → i < n → act n R' p i ≡ act n T' (act n A' p) i
    forth p i b = elim (cases_eq i k) [
      | inl e ↦ subst (λ z. act n R' p z ≡ act n T' (act n A' p) z) (sym e) (R_here p ∙ sym (T_here (act n A' p)))
      | inr ne ↦ R_other p i b ne ∙ h.forward p i b ∙ blind (act n A p) (act n A' p) i b ne (λ j q d. sym (A_other p j q d)) ∙ sym (T_other (act n A' p) i b ne)
    ]

    -- s with its value at l so that row k is right
    amount : Row → Row → Bool
    amount p s = differ (act n T s k) (act n R p k)

    mended : Row → Row → Row
    mended p s = sum s (λ j. only l j && amount p s)

    mended_other : (p s : Row) (j : ℕ) → j ≢ l → mended p s j ≡ s j
    mended_other p s j d = sum_off (s j) (only l j && amount p s) (ap (λ x. x && amount p s) (only_other l j d))

    mended_k : (p s : Row) → act n R p k ≡ act n T (mended p s) k
    mended_k p s = sym (dot_sum n (T k) s (λ j. only l j && amount p s) ∙ right (act n T s k) (dot n (T k) (λ j. only l j && amount p s)) (act n R p k) at_l)
      where
        swap : (x y z : Bool) → (x && (y && z)) ≡ (z && (x && y))
        swap x y z = grind arith

        right : (x y z : Bool) → y ≡ differ x z → differ x y ≡ z
        right x y z f = grind arith

        at_l : dot n (T k) (λ j. only l j && amount p s) ≡ amount p s
        at_l =
            parity_cong (λ j. T k j && (only l j && amount p s)) (λ j. amount p s && (T k j && only l j)) n (λ j q. swap (T k j) (only l j) (amount p s))
            ∙ parity_and (amount p s) (λ j. T k j && only l j) n
            ∙ ap (λ y. amount p s && y) (dot_only n (T k) l ln ∙ lit)
            ∙ and_comm (amount p s) true

    back : (p s : Row) → ((i : ℕ) → i < n → act n R' p i ≡ act n T' s i) → (i : ℕ) → i < n → act n A' p i ≡ s i
    back p s e i b =
        let old : (i : ℕ) → i < n → act n A p i ≡ mended p s i = h.backward p (mended p s) (λ i b. elim (cases_eq i k) [
          | inl x ↦ subst (λ z. act n R p z ≡ act n T (mended p s) z) (sym x) (mended_k p s)
          | inr ne ↦ sym (R_other p i b ne) ∙ e i b ∙ T_other s i b ne ∙ blind s (mended p s) i b ne (λ j q d. sym (mended_other p s j d))
        ]) in
        elim (cases_eq i l) [
          | inl x ↦ subst (λ z. act n A' p z ≡ s z) (sym x) (sym (R_here p) ∙ e k kn ∙ T_here s)
          | inr ne ↦ A_other p i b ne ∙ old i b ∙ mended_other p s i ne
        ]

-- THE END of the loop: row l is replaced, and row k is to be settled
pub freeing_end : (n : ℕ) (A A' R R' T T' : Rows) (c : ℕ → ℕ) (l k : ℕ) (a : Row) → l < n → k < n →
    PutsRow n A A' l a → PutsRow n R R' k a → PutsRow n T T' k (only l) → Freeing n A R T c l k (λ i. i < n) →
    Tracks n A' R' T' × Settled n (λ i. i ≢ k) R' c
freeing_end n A A' R R' T T' c l k a ln kn pa pr pt h = (
  tracks_replace n A A' R R' T T' l k a ln kn h.lit (λ m b ne. h.freed m b b ne) pa pr pt h.tracks,
  settled_but n (λ i. i ≢ k) R R' c k (λ ne. ne refl) pr.other h.settled,
)
