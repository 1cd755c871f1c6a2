-- The kernel of reduced rows: a vector for each free column, and each x of the kernel is the sum of those where x is on. Assumes nothing.
use Rattle.std.proofs.Common.{◌≡◌, ℕ, ◌<◌, Bool, true, false, not, ◌&&◌, ltb, leb, ◌≢◌, sym, refl, ap, ◌∙◌, subst, ap₂, inl, inr, arith}
use mathlib.Core.Bool.{false≢true}
use Rattle.std.proofs.lemmas.Bool.{cases_lt, lt-ltb, le-ltb, le-leb, lt-leb}
use Rattle.gf2.specs.Rows.{pick, differ, Row, Rows, Same, parity, sum, only, act}
use Rattle.gf2.specs.Reduction.{Tracks, Quiet, Pivots, Free, Owns, Marks, unowned, Placed, Vector, vector}
use Rattle.gf2.proofs.Parity.{and_false, parity_cong, parity_differ}
use Rattle.gf2.proofs.Rows.{and_comm, differ_self, differ_same, sum_off, only_self, only_other, parity_alone, dot_sum, dot_only}
use Rattle.gf2.proofs.Tracks.{solved_back}
use Rattle.gf2.proofs.Pivots.{pivot_or_free, free_owns, act_placed, act_none, owners, owners_own}

pub marks_owns : (n : ℕ) (c o : ℕ → ℕ) → Owns n c o → Marks n c (unowned n o)
marks_owns n c o h = record {
  pivot = λ i l k. ap (λ z. leb n z) (h.row i l k) ∙ lt-leb n i l;
  none = λ j l f. le-leb n (o j) (free_owns n c o h j l f);
}

pub marked_free : (n : ℕ) (c : ℕ → ℕ) (free : Row) → Marks n c free → (j : ℕ) → j < n → free j ≡ true → Free n c j
marked_free n c free h j l t i k e = false≢true (sym (h.pivot i k (omega arith)) ∙ ap free e ∙ t)

pub vector_owns : (n : ℕ) (R : Rows) (c o : ℕ → ℕ) (f : ℕ) → Owns n c o → Vector n R c f (vector n R o f)
vector_owns n R c o f h = record {
  pivot = λ i l k. ap (λ z. pick (ltb z n) (R z f) (only f (c i))) (h.row i l k) ∙ ap (λ b. pick b (R i f) (only f (c i))) (lt-ltb i n l);
  free = λ j l g. ap (λ b. pick b (R (o j) f) (only f j)) (le-ltb (o j) n (free_owns n c o h j l g));
}

cancel : (a b : Bool) → differ a b ≡ b → a ≡ false
cancel a b h = grind arith

module _ (n : ℕ) (R : Rows) (c : ℕ → ℕ) (h : Pivots n R c) where
  -- in the kernel
  pub vector_quiet : (f : ℕ) (v : Row) → f < n → Free n c f → Vector n R c f v → Quiet n R v
  vector_quiet f v below fr w i l = elim (cases_lt (c i) n) [
    | inl k ↦ cancel (act n R v i) (R i f)
        (ap (λ x. differ (act n R v i) x) (sym (dot_only n (R i) f below))
        ∙ sym (dot_sum n (R i) v (only f))
        ∙ act_placed n R c h (λ i. R i f) (sum v (only f)) rest i l k)
    | inr g ↦ act_none n R c h v i l g
  ]
    where
      rest : Placed n c (λ i. R i f) (sum v (only f))
      rest = record {
        pivot = λ i l k. sum_off (v (c i)) (only f (c i)) (only_other f (c i) (fr i l)) ∙ w.pivot i l k;
        free = λ j l g. ap (λ x. differ x (only f j)) (w.free j l g) ∙ differ_self (only f j);
      }

  -- what row i says of x in the kernel: x at its pivot is the sum over the free columns
  pub split : (free : Row) → Marks n c free → (x : Row) (i : ℕ) → i < n → c i < n → act n R x i ≡ differ (x (c i)) (parity (λ f. free f && (R i f && x f)) n)
  split free m x i l k =
      parity_cong (λ j. R i j && x j) (λ j. differ (not (free j) && (R i j && x j)) (free j && (R i j && x j))) n (λ j _. parts (free j) (R i j && x j))
      ∙ parity_differ (λ j. not (free j) && (R i j && x j)) (λ j. free j && (R i j && x j)) n
      ∙ ap (λ y. differ y (parity (λ f. free f && (R i f && x f)) n))
      (parity_alone (λ j. not (free j) && (R i j && x j)) n (c i) k others
      ∙ ap₂ (λ a b. not a && (b && x (c i))) (m.pivot i l k) (h.on i l k))
    where
      parts : (a b : Bool) → b ≡ differ (not a && b) (a && b)
      parts a b = grind arith

      off : (a b d : Bool) → b ≡ false → (not a && (b && d)) ≡ false
      off a b d e = grind arith

      others : (j : ℕ) → j < n → j ≢ c i → (not (free j) && (R i j && x j)) ≡ false
      others j b ne = elim (pivot_or_free n c j) [
        | inl w ↦
            let a : R i (c w.0) ≡ false = h.alone w.0 w.1 (omega (arith, w.2)) i l (λ e. ne (sym (ap c e ∙ w.2))) in
            off (free j) (R i j) (x j) (sym (ap (R i) w.2) ∙ a)
        | inr f ↦ ap (λ y. not y && (R i j && x j)) (m.none j b f)
      ]

  -- EACH x OF THE KERNEL IS A SUM
  pub quiet_sum : (free : Row) (v : ℕ → Row) → Marks n c free → ((f : ℕ) → f < n → free f ≡ true → Vector n R c f (v f)) → (x : Row) → Quiet n R x → (j : ℕ) → j < n → parity (λ f. (free f && x f) && v f j) n ≡ x j
  quiet_sum free v m w x q j l = elim (pivot_or_free n c j) [
    | inl a ↦ subst (λ z. parity (λ f. (free f && x f) && v f z) n ≡ x z) a.2 (at_pivot a.0 a.1 (omega (arith, a.2)))
    | inr f ↦ at_free f
  ]
    where
      equal : (a b : Bool) → differ a b ≡ false → b ≡ a
      equal a b e = grind arith

      swap : (a b d e : Bool) → (a ≡ true → e ≡ d) → ((a && b) && e) ≡ (a && (d && b))
      swap true b d e k = ap (λ z. b && z) (k refl) ∙ and_comm b d
      swap false b d e k = refl

      at_pivot : (i : ℕ) → i < n → c i < n → parity (λ f. (free f && x f) && v f (c i)) n ≡ x (c i)
      at_pivot i b k =
          parity_cong (λ f. (free f && x f) && v f (c i)) (λ f. free f && (R i f && x f)) n (λ f d. swap (free f) (x f) (R i f) (v f (c i)) (λ t. (w f d t).pivot i b k))
          ∙ equal (x (c i)) (parity (λ f. free f && (R i f && x f)) n) (sym (split free m x i b k) ∙ q i b)

      lone : (a b e : Bool) → (a ≡ true → e ≡ false) → ((a && b) && e) ≡ false
      lone true b e k = ap (λ z. b && z) (k refl) ∙ and_false b
      lone false b e k = refl

      last : (a b e : Bool) → a ≡ true → e ≡ true → ((a && b) && e) ≡ b
      last a b e g k = grind arith

      at_free : Free n c j → parity (λ f. (free f && x f) && v f j) n ≡ x j
      at_free fr =
          parity_alone (λ f. (free f && x f) && v f j) n j l
          (λ f d ne. lone (free f) (x f) (v f j) (λ t. (w f d t).free j l fr ∙ only_other f j (λ e. ne (sym e))))
          ∙ last (free j) (x j) (v j j) (m.none j l fr) ((w j l (m.none j l fr)).free j l fr ∙ only_self j)

  -- ALIKE: what the rows make the same of, and what is alike in the free columns, is alike
  alike_marked : (free : Row) → Marks n c free → (x y : Row) → Same n (act n R x) (act n R y) → ((j : ℕ) → j < n → Free n c j → x j ≡ y j) → Same n x y
  alike_marked free m x y e d j l = elim (pivot_or_free n c j) [
    | inl a ↦ subst (λ z. x z ≡ y z) a.2 (at_pivot a.0 a.1 (omega (arith, a.2)))
    | inr g ↦ d j l g
  ]
    where
      inside : (a b p q : Bool) → (a ≡ true → p ≡ q) → (a && (b && p)) ≡ (a && (b && q))
      inside true b p q k = ap (λ z. b && z) (k refl)
      inside false b p q k = refl

      at_pivot : (i : ℕ) → i < n → c i < n → x (c i) ≡ y (c i)
      at_pivot i b k =
          differ_same (x (c i)) (parity (λ f. free f && (R i f && x f)) n) (y (c i)) (parity (λ f. free f && (R i f && y f)) n)
          (sym (split free m x i b k) ∙ e i b ∙ split free m y i b k)
          (parity_cong (λ f. free f && (R i f && x f)) (λ f. free f && (R i f && y f)) n
          (λ f q. inside (free f) (R i f) (x f) (y f) (λ t. d f q (marked_free n c free m f q t))))

  pub alike : (x y : Row) → Same n (act n R x) (act n R y) → ((j : ℕ) → j < n → Free n c j → x j ≡ y j) → Same n x y
  alike = alike_marked (unowned n (owners n c)) (marks_owns n c (owners n c) (owners_own n R c h))

  -- so two solutions that are alike in the free columns are one
  pub solutions_alike : (A T : Rows) (s p q : Row) → Tracks n A R T → Same n (act n A p) s → Same n (act n A q) s → ((j : ℕ) → j < n → Free n c j → p j ≡ q j) → Same n p q
  solutions_alike A T s p q t e d = alike p q (λ i l. solved_back n A R T t p s e i l ∙ sym (solved_back n A R T t q s d i l))
