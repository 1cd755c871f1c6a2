-- Rows over two elements, below a bound n: `sum` is the sum of two rows, `dot` their product, `act` what a table of rows makes of a row.
-- Assumes nothing.
use Rattle.std.proofs.Common.{◌≡◌, ℕ, zero, suc, ◌<◌, Bool, true, false, ◌&&◌, ◌≢◌, ◌⊎◌, sym, refl, ap, ◌∙◌, subst, ap₂, inl, inr, not-suc-le-zero, arith}
use Rattle.std.proofs.lemmas.Bool.{cases_eq, cases_lt, cases_Bool, eq-eqb, ne_eqb}
use Rattle.gf2.specs.Rows.{differ, Row, Rows, Same, parity, sum, only, nowhere, dot, act}
use Rattle.gf2.proofs.Parity.{differ_false, and_false, and_differ, parity_cong, parity_none, parity_differ, parity_and, fubini}

-- laws of Bool
pub and_comm : (a b : Bool) → (a && b) ≡ (b && a)
and_comm a b = grind arith

pub sum_and : (a b c : Bool) → (differ a b && c) ≡ differ (a && c) (b && c)
sum_and a b c = grind arith

pub sum_off : (a b : Bool) → b ≡ false → differ a b ≡ a
sum_off a b h = grind arith

pub sum_on : (a b : Bool) → a ≡ true → b ≡ true → differ a b ≡ false
sum_on a b h k = grind arith

pub differ_self : (a : Bool) → differ a a ≡ false
differ_self a = grind arith

pub differ_same : (a b c d : Bool) → differ a b ≡ differ c d → b ≡ d → a ≡ c
differ_same a b c d h k = grind arith

pub only_self : (f : ℕ) → only f f ≡ true
only_self f = eq-eqb f f refl

pub only_other : (f j : ℕ) → j ≢ f → only f j ≡ false
only_other f j h = ne_eqb j f h

-- a sum of which one part at most is on
pub parity_alone : (f : ℕ → Bool) (n k : ℕ) → k < n → ((i : ℕ) → i < n → i ≢ k → f i ≡ false) → parity f n ≡ f k
parity_alone f zero k h others = absurd (not-suc-le-zero h)
parity_alone f (suc n) k h others = go (parity_alone f n k) (cases_eq n k)
  where
    go : (k < n → ((i : ℕ) → i < n → i ≢ k → f i ≡ false) → parity f n ≡ f k) → (n ≡ k) ⊎ (n ≡ k → ⊥) → differ (f n) (parity f n) ≡ f k
    go ih (inl e) = ap (λ x. differ (f n) x) (parity_none f n (λ i l. others i (omega arith) (omega arith))) ∙ differ_false (f n) ∙ ap f e
    go ih (inr ne) = ap₂ (λ x y. differ x y) (others n (omega arith) ne) (ih (omega arith) (λ i l. others i (omega arith)))

-- some column below n in which a row is on, or none
pub find : (s : Row) (n : ℕ) → Same n s nowhere ⊎ ((j : ℕ) × (j < n) × (s j ≡ true))
find s zero = inl (λ j h. absurd (not-suc-le-zero h))
find s (suc n) = go (cases_Bool (s n)) (find s n)
  where
    go : (s n ≡ true) ⊎ (s n ≡ false) → Same n s nowhere ⊎ ((j : ℕ) × (j < n) × (s j ≡ true)) → Same (suc n) s nowhere ⊎ ((j : ℕ) × (j < suc n) × (s j ≡ true))
    go (inl t) r = inr (n, omega arith, t)
    go (inr f) (inl none) = inl (λ j h. elim (cases_lt j n) [ inl l ↦ none j l | inr g ↦ subst (λ k. s k ≡ false) (omega arith) f ])
    go (inr f) (inr w) = inr (w.0, omega arith, w.2)

module _ (n : ℕ) where
  pub dot_cong : (a b p q : Row) → Same n a b → Same n p q → dot n a p ≡ dot n b q
  dot_cong a b p q h k = parity_cong (λ j. a j && p j) (λ j. b j && q j) n (λ j l. ap₂ (λ x y. x && y) (h j l) (k j l))

  pub dot_comm : (a p : Row) → dot n a p ≡ dot n p a
  dot_comm a p = parity_cong (λ j. a j && p j) (λ j. p j && a j) n (λ j l. and_comm (a j) (p j))

  pub dot_left : (a b p : Row) → Same n a b → dot n a p ≡ dot n b p
  dot_left a b p h = dot_cong a b p p h (λ j l. refl)

  pub dot_right : (a p q : Row) → Same n p q → dot n a p ≡ dot n a q
  dot_right a p q h = dot_cong a a p q (λ j l. refl) h

  pub sum_dot : (a b p : Row) → dot n (sum a b) p ≡ differ (dot n a p) (dot n b p)
  sum_dot a b p =
      parity_cong (λ j. differ (a j) (b j) && p j) (λ j. differ (a j && p j) (b j && p j)) n (λ j l. sum_and (a j) (b j) (p j))
      ∙ parity_differ (λ j. a j && p j) (λ j. b j && p j) n

  pub dot_sum : (a p q : Row) → dot n a (sum p q) ≡ differ (dot n a p) (dot n a q)
  dot_sum a p q =
      parity_cong (λ j. a j && differ (p j) (q j)) (λ j. differ (a j && p j) (a j && q j)) n (λ j l. sym (and_differ (a j) (p j) (q j)))
      ∙ parity_differ (λ j. a j && p j) (λ j. a j && q j) n

  pub none_dot : (a p : Row) → Same n a nowhere → dot n a p ≡ false
  none_dot a p h = parity_none (λ j. a j && p j) n (λ j l. ap (λ x. x && p j) (h j l))

  pub dot_none : (a p : Row) → Same n p nowhere → dot n a p ≡ false
  dot_none a p h = parity_none (λ j. a j && p j) n (λ j l. ap (λ x. a j && x) (h j l) ∙ and_false (a j))

  pub only_dot : (f : ℕ) (p : Row) → f < n → dot n (only f) p ≡ p f
  only_dot f p h = parity_alone (λ j. only f j && p j) n f h (λ j _ ne. ap (λ x. x && p j) (only_other f j ne)) ∙ ap (λ x. x && p f) (only_self f)

  pub dot_only : (a : Row) (f : ℕ) → f < n → dot n a (only f) ≡ a f
  dot_only a f h = dot_comm a (only f) ∙ only_dot f a h

  pub dot_times : (a : Row) (b : Bool) (p : Row) → dot n a (λ j. b && p j) ≡ (b && dot n a p)
  dot_times a b p = parity_cong (λ j. a j && (b && p j)) (λ j. b && (a j && p j)) n (λ j l. swap (a j) b (p j)) ∙ parity_and b (λ j. a j && p j) n
    where
      swap : (x y z : Bool) → (x && (y && z)) ≡ (y && (x && z))
      swap x y z = grind arith

  -- a row on what a table makes of p: p on the sum of the table's rows that the row has
  pub dot_act : (q : Row) (M : Rows) (p : Row) → dot n q (act n M p) ≡ dot n (λ j. dot n q (λ i. M i j)) p
  dot_act q M p =
      parity_cong (λ i. q i && dot n (M i) p) (λ i. parity (λ j. q i && (M i j && p j)) n) n (λ i _. sym (parity_and (q i) (λ j. M i j && p j) n))
      ∙ fubini (λ i j. q i && (M i j && p j)) n n
      ∙ parity_cong (λ j. parity (λ i. q i && (M i j && p j)) n) (λ j. dot n q (λ i. M i j) && p j) n (λ j _.
      parity_cong (λ i. q i && (M i j && p j)) (λ i. p j && (q i && M i j)) n (λ i _. turn (q i) (M i j) (p j))
      ∙ parity_and (p j) (λ i. q i && M i j) n
      ∙ and_comm (p j) (dot n q (λ i. M i j)))
    where
      turn : (x y z : Bool) → (x && (y && z)) ≡ (z && (x && y))
      turn x y z = grind arith
