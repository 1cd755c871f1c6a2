-- Rows R that were made from the rows of A by sums, and T, which says of which: R is T times A, and T loses nothing.
-- Assumes nothing.
use Rattle.std.proofs.Common.{◌≡◌, ℕ, zero, suc, ◌<◌, true, false, ◌&&◌, ◌≢◌, sym, refl, ap, ◌∙◌, subst, ap₂, inl, inr, arith}
use mathlib.Core.Bool.{false≢true}
use Rattle.std.proofs.lemmas.Bool.{cases_eq, eq-eqb, ne_eqb}
use Rattle.gf2.specs.Rows.{pick, differ, Row, Rows, Same, parity, sum, only, nowhere, act}
use Rattle.gf2.specs.Reduction.{Tracks, Adds, added, Quiet}
use Rattle.gf2.proofs.Parity.{and_false, differ_false}
use Rattle.gf2.proofs.Rows.{differ_self, differ_same, dot_sum, dot_times, dot_left, dot_right, sum_dot, none_dot, dot_none, only_dot, dot_only}

pub added_adds : (n : ℕ) (R : Rows) (k m : ℕ) → Adds n R (added R k m) k m
added_adds n R k m = record {
  here = λ j l. ap (λ b. pick b (differ (R k j) (R m j)) (R k j)) (eq-eqb k k refl);
  other = λ i l ne j h. ap (λ b. pick b (differ (R i j) (R m j)) (R i j)) (ne_eqb i k ne);
}

module _ (n : ℕ) (R S : Rows) (k m : ℕ) (step : Adds n R S k m) where
  pub act_here : (p : Row) → act n S p k ≡ differ (act n R p k) (act n R p m)
  act_here p = dot_left n (S k) (sum (R k) (R m)) p step.here ∙ sum_dot n (R k) (R m) p

  pub act_other : (p : Row) (i : ℕ) → i < n → i ≢ k → act n S p i ≡ act n R p i
  act_other p i l ne = dot_left n (S i) (R i) p (step.other i l ne)

-- at the start
pub tracks_start : (n : ℕ) (A R T : Rows) → ((i : ℕ) → i < n → Same n (R i) (A i)) → ((i : ℕ) → i < n → Same n (T i) (only i)) → Tracks n A R T
tracks_start n A R T same id = record {
  forward = λ p i l. rows p i l ∙ sym (picks (act n A p) i l);
  backward = λ p s h i l. sym (rows p i l) ∙ h i l ∙ picks s i l;
}
  where
    rows : (p : Row) (i : ℕ) → i < n → act n R p i ≡ act n A p i
    rows p i l = dot_left n (R i) (A i) p (same i l)

    picks : (s : Row) (i : ℕ) → i < n → act n T s i ≡ s i
    picks s i l = dot_left n (T i) (only i) s (id i l) ∙ only_dot n i s l

pub tracks_itself : (n : ℕ) (A : Rows) → Tracks n A A only
tracks_itself n A = tracks_start n A A only (λ i l j h. refl) (λ i l j h. refl)

-- a row added to another, in both tables
pub tracks_add : (n : ℕ) (A R T R' T' : Rows) (k m : ℕ) → k < n → m < n → m ≢ k → Adds n R R' k m → Adds n T T' k m → Tracks n A R T → Tracks n A R' T'
tracks_add n A R T R' T' k m kn mn ne r t h = record { forward = forth; backward = λ p s e. h.backward p s (back p s e) }
  where
    forth : (p : Row) (i : ℕ) → i < n → act n R' p i ≡ act n T' (act n A p) i
    forth p i l = elim (cases_eq i k) [
      | inl e ↦ subst (λ z. act n R' p z ≡ act n T' (act n A p) z) (sym e)
          (act_here n R R' k m r p ∙ ap₂ (λ x y. differ x y) (h.forward p k kn) (h.forward p m mn) ∙ sym (act_here n T T' k m t (act n A p)))
      | inr d ↦ act_other n R R' k m r p i l d ∙ h.forward p i l ∙ sym (act_other n T T' k m t (act n A p) i l d)
    ]

    back : (p s : Row) → ((i : ℕ) → i < n → act n R' p i ≡ act n T' s i) → (i : ℕ) → i < n → act n R p i ≡ act n T s i
    back p s e i l =
        let at_other : (i : ℕ) → i < n → i ≢ k → act n R p i ≡ act n T s i = λ i l d. sym (act_other n R R' k m r p i l d) ∙ e i l ∙ act_other n T T' k m t s i l d in
        elim (cases_eq i k) [
          | inl q ↦ subst (λ z. act n R p z ≡ act n T s z) (sym q)
              (differ_same (act n R p k) (act n R p m) (act n T s k) (act n T s m)
              (sym (act_here n R R' k m r p) ∙ e k kn ∙ act_here n T T' k m t s) (at_other m mn ne))
          | inr d ↦ at_other i l d
        ]

-- what is quiet may be added to a solution, and two solutions differ by what is quiet
pub quiet_both : (n : ℕ) (M : Rows) (x y : Row) → Quiet n M x → Quiet n M y → Quiet n M (sum x y)
quiet_both n M x y h k i l = dot_sum n (M i) x y ∙ ap₂ (λ a b. differ a b) (h i l) (k i l)

pub makes_sum : (n : ℕ) (A : Rows) (s p x : Row) → Same n (act n A p) s → Quiet n A x → Same n (act n A (sum p x)) s
makes_sum n A s p x h k i l = dot_sum n (A i) p x ∙ ap₂ (λ a b. differ a b) (h i l) (k i l) ∙ differ_false (s i)

pub quiet_between : (n : ℕ) (A : Rows) (s p q : Row) → Same n (act n A p) s → Same n (act n A q) s → Quiet n A (sum p q)
quiet_between n A s p q h k i l = dot_sum n (A i) p q ∙ ap₂ (λ a b. differ a b) (h i l) (k i l) ∙ differ_self (s i)

-- a sum of some of k rows that are quiet
pub quiet_some : (n : ℕ) (M : Rows) (v : ℕ → Row) (w : Row) (k : ℕ) → ((b : ℕ) → b < k → Quiet n M (v b)) → Quiet n M (λ j. parity (λ b. w b && v b j) k)
quiet_some n M v w zero h = λ i l. dot_none n (M i) nowhere (λ j _. refl)
quiet_some n M v w (suc k) h =
    quiet_both n M (λ j. w k && v k j) (λ j. parity (λ b. w b && v b j) k)
    (λ i l. dot_times n (M i) (w k) (v k) ∙ ap (λ a. w k && a) (h k (omega arith) i l) ∙ and_false (w k))
    (quiet_some n M v w k (λ b l. h b (omega arith)))

module _ (n : ℕ) (A R T : Rows) (h : Tracks n A R T) where
  -- the same kernel
  pub quiet_down : (x : Row) → Quiet n A x → Quiet n R x
  quiet_down x q i l = h.forward x i l ∙ dot_none n (T i) (act n A x) q

  pub quiet_up : (x : Row) → Quiet n R x → Quiet n A x
  quiet_up x q = h.backward x nowhere (λ i l. q i l ∙ sym (dot_none n (T i) nowhere (λ j k. refl)))

  -- a row of T, summed over the rows of A, is the row of R
  pub row_made : (i j : ℕ) → i < n → j < n → parity (λ l. T i l && A l j) n ≡ R i j
  row_made i j l k =
      dot_right n (T i) (λ l. A l j) (act n A (only j)) (λ l _. sym (dot_only n (A l) j k))
      ∙ sym (h.forward (only j) i l)
      ∙ dot_only n (R i) j k

  -- the row of a sum that comes to nothing and is odd for s: no presses make s
  pub blocks : (i : ℕ) → i < n → Same n (R i) nowhere → (j : ℕ) → j < n → parity (λ l. T i l && A l j) n ≡ false
  blocks i l none j k = row_made i j l k ∙ none j k

  pub blocked : (s : Row) (i : ℕ) → i < n → Same n (R i) nowhere → act n T s i ≡ true → (p : Row) → Same n (act n A p) s → ⊥
  blocked s i l none odd p e =
      false≢true (sym (none_dot n (R i) p none) ∙ h.forward p i l ∙ dot_right n (T i) (act n A p) s e ∙ odd)

  -- what solves the one system solves the other
  pub solved : (p s : Row) → Same n (act n R p) (act n T s) → Same n (act n A p) s
  solved p s e = h.backward p s e

  pub solved_back : (p s : Row) → Same n (act n A p) s → Same n (act n R p) (act n T s)
  solved_back p s e i l = h.forward p i l ∙ dot_right n (T i) (act n A p) s e
