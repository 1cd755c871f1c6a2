-- With rows that span what is quiet, the least among the sums with a solution is least among all solutions. Assumes nothing.
use Rattle.std.proofs.Common.{◌≡◌, ℕ, zero, suc, ◌+◌, ◌-◌, ◌<◌, ◌≤◌, Bool, true, false, ◌&&◌, ◌≢◌, ◌⊎◌, sym, refl, ap, ◌∙◌, subst, ap₂, inl, inr, arith}
use mathlib.Core.Path.{fun_ext}
use Rattle.std.proofs.Math.Bool.{and-true}
use Rattle.std.proofs.lemmas.Bool.{cases_Bool, eq-eqb, ne_eqb, leb-true, leb-false}
use Rattle.gf2.specs.Rows.{differ, Row, Rows, Same, parity, sum, nowhere, dot, act, tally, one}
use Rattle.gf2.specs.Reduction.{Tracks, Pivots, Quiet}
use Rattle.gf2.proofs.Parity.{parity_cong, parity_none, and_false}
use Rattle.gf2.proofs.Rows.{and_comm, parity_alone, dot_right, dot_left}
use Rattle.gf2.proofs.Tracks.{quiet_up, quiet_down, quiet_between, quiet_some, makes_sum, blocks}
use Rattle.gf2.proofs.Kernel.{vector_quiet, quiet_sum}
use Rattle.gf2.proofs.Left.{left_sum}
use Rattle.gf2.proofs.Tally.{tally_cong}
use Rattle.bits.proofs.Counts.{tally_cat}
use Rattle.solve.specs.Solved.{Within, Shows, zero_row}
use Rattle.solve.proofs.Placing.{parity_within}
use Rattle.matrix.specs.Cells.{Spare}
use Rattle.fewest.specs.Sets.{free, QuietSet, Copied, Collected, chosen, sum_of, Spans, OneChoice, accepts, Least, Fewest, FewestShowing}
use Rattle.fewest.proofs.Columns.{free_marks, free_is, rank_below, ranked, by_rank}

none_on : (n : ℕ) (f : Row) → ((j : ℕ) → f j ≡ false) → tally f n ≡ 0
none_on zero f h = refl
none_on (suc n) f h = let a : one (f n) ≡ 0 = ap one (h n) in let b = none_on n f h in omega arith

-- past n there is nothing to count
pub count_within : (n m : ℕ) (f : Row) → n ≤ m → Within n f → tally f m ≡ tally f n
count_within n m f l h =
    let e : n + (m - n) ≡ m = omega arith in
    let a : tally f (n + (m - n)) ≡ tally f m = ap (λ x. tally f x) e in
    let b = tally_cat n (m - n) f in
    let d = none_on (m - n) (λ k. f (n + k)) (λ k. h (n + k) (omega arith)) in
    omega arith

-- ---- the sums of a solution with rows that span

module _ (n : ℕ) (A : Rows) (k : ℕ) (S : Rows) (spans : Spans n A k S) (s p : Row) (solves : Same n (act n A p) s) (inside : Within n p) where
  sum_within : (e : ℕ → Bool) → Within n (sum_of k e S p)
  sum_within e j g = ap₂ (λ a b. differ a b) (inside j g)
      (parity_none (λ b. e b && S b j) k (λ b l. ap (λ x. e b && x) (spans.within b l j g) ∙ and_false (e b)))

  -- each sum is a solution, and each solution a sum
  sum_solves : (e : ℕ → Bool) → Same n (act n A (sum_of k e S p)) s
  sum_solves e = makes_sum n A s p (chosen k e S) solves (quiet_some n A S e k spans.quiet)

  solution_sum : (q : Row) → Same n (act n A q) s → (e : ℕ → Bool) × Same n q (sum_of k e S p)
  solution_sum q h =
      let w = spans.every (sum p q) (quiet_between n A s p q solves h) in
      (w.0, λ j l. apart (p j) (q j) (chosen k w.0 S j) (w.1 j l))
    where
      apart : (a b d : Bool) → differ a b ≡ d → b ≡ differ a d
      apart a b d e = grind arith

  module _ (m : ℕ) (wide : n ≤ m) (ok : Row → Bool) (new : Row) (taken : ok p ≡ true) (bound count : ℕ) (l : Least m k S ok p p new bound count) where
    pub best_within : Within n new
    best_within j g = elim l.one_of [ inl h ↦ h j ∙ inside j g | inr w ↦ w.1 j ∙ sum_within w.0 j g ]

    pub best_solves : Same n (act n A new) s
    best_solves i b = elim l.one_of [
      | inl h ↦ dot_right n (A i) new p (λ j _. h j) ∙ solves i b
      | inr w ↦ dot_right n (A i) new (sum_of k w.0 S p) (λ j _. w.1 j) ∙ sum_solves w.0 i b
    ]

    pub best_accepted : ok new ≡ true
    best_accepted = go l.one_of
      where
        go : ((j : ℕ) → new j ≡ p j) ⊎ ((e : ℕ → Bool) × ((j : ℕ) → new j ≡ sum_of k e S p j) × (ok new ≡ true)) → ok new ≡ true
        go (inl h) = ap ok (fun_ext h) ∙ taken
        go (inr w) = w.2

    pub best_least : (q : Row) → Same n (act n A q) s → ((e : ℕ → Bool) → Same n q (sum_of k e S p) → ok (sum_of k e S p) ≡ true) → tally new n ≤ tally q n
    best_least q h fine =
        let w = solution_sum q h in
        let a = tally_cong q (sum_of k w.0 S p) n w.1 in
        let b = count_within n m (sum_of k w.0 S p) wide (sum_within w.0) in
        let d = count_within n m new wide best_within in
        omega (arith, l.least w.0 (fine w.0 w.1), l.counted)

-- ---- the quiet sets of the free columns span the presses that do nothing

module _ (n : ℕ) (R : Rows) (c : ℕ → ℕ) (k : ℕ) (S : Rows) (col : Collected (free n c) (QuietSet n R c) n k S) (small : k ≤ 16) where
  set_of : (f : ℕ) → f < n → free n c f ≡ true → QuietSet n R c f (S (tally (free n c) f))
  set_of f l t = col.sets f l t (omega (arith, col.many, rank_below (free n c) n f l t))

  column : (b : ℕ) → b < k → (f : ℕ) × (f < n) × (free n c f ≡ true) × (tally (free n c) f ≡ b) × QuietSet n R c f (S b)
  column b l =
      let w = ranked (free n c) n b (omega (arith, col.many)) in
      (w.0, w.1, w.2, w.3, subst (λ x. QuietSet n R c w.0 (S x)) w.3 (set_of w.0 w.1 w.2))

  module _ (A T : Rows) (tr : Tracks n A R T) (pv : Pivots n R c) where
    pub kernel_spans : Spans n A k S
    kernel_spans = record {
      quiet = λ b l.
          let w = column b l in
          let fr = free_is n c w.0 w.2 in
          quiet_up n A R T tr (S b) (vector_quiet n R c pv w.0 (S b) w.1 fr (w.4.vector pv fr));
      within = λ b l. (column b l).4.within;
      every = λ x q.
          let w = by_rank (free n c) x S n in (
            w.0,
            λ j l.
                sym (quiet_sum n R c pv (free n c) (λ f. S (tally (free n c) f)) (free_marks n c) (λ f b t. (set_of f b t).vector pv (free_is n c f t)) x (quiet_down n A R T tr x q) j l)
                ∙ w.1 j ∙ ap (λ m. parity (λ b. w.0 b && S b j) m) (sym col.many),
          );
    }

  -- each set alone has the bit of its column, so that a sum tells what was chosen
  module _ (pv : Pivots n R c) where
    bit_chosen : (d : ℕ → Bool) (b : ℕ) (l : b < k) → chosen k d S (column b l).0 ≡ d b
    bit_chosen d b l =
        let w = column b l in
        parity_alone (λ a. d a && S a w.0) k b l (λ a m ne. ap (λ x. d a && x) (off a m ne) ∙ and_false (d a))
        ∙ ap (λ x. d b && x) ((w.4.vector pv (free_is n c w.0 w.2)).free w.0 w.1 (free_is n c w.0 w.2) ∙ eq-eqb w.0 w.0 refl)
        ∙ and-true (d b)
      where
        off : (a : ℕ) (m : a < k) → a ≢ b → S a (column b l).0 ≡ false
        off a m ne =
            let w = column b l in
            let v = column a m in
            (v.4.vector pv (free_is n c v.0 v.2)).free w.0 w.1 (free_is n c w.0 w.2)
            ∙ ne_eqb w.0 v.0 (λ e. ne (sym v.3 ∙ ap (λ x. tally (free n c) x) (sym e) ∙ w.3))

    pub kernel_one : OneChoice n k S
    kernel_one d e same b l = sym (bit_chosen d b l) ∙ same (column b l).0 (column b l).1 ∙ bit_chosen e b l

-- ---- what was done to make the zero rows spans the sets of rows that sum to zero

abbrev pub flipped : Rows → Rows
flipped A j i = A i j

module _ (n : ℕ) (T : Rows) (c : ℕ → ℕ) (k : ℕ) (S : Rows) (col : Collected (zero_row n c) (Copied T) n k S) (small : k ≤ 16) (spare : Spare n T) where
  row_of_set : (i : ℕ) → i < n → zero_row n c i ≡ true → Copied T i (S (tally (zero_row n c) i))
  row_of_set i l t = col.sets i l t (omega (arith, col.many, rank_below (zero_row n c) n i l t))

  row : (b : ℕ) → b < k → (i : ℕ) × (i < n) × (zero_row n c i ≡ true) × Copied T i (S b)
  row b l =
      let w = ranked (zero_row n c) n b (omega (arith, col.many)) in
      (w.0, w.1, w.2, subst (λ x. Copied T w.0 (S x)) w.3 (row_of_set w.0 w.1 w.2))

  module _ (A R : Rows) (tr : Tracks n A R T) (pv : Pivots n R c) where
    pub zero_spans : Spans n (flipped A) k S
    zero_spans = record { quiet = quiet; within = λ b l j g. (row b l).3.same j ∙ spare (row b l).0 (row b l).1 j g; every = every }
      where
        quiet : (b : ℕ) → b < k → Quiet n (flipped A) (S b)
        quiet b l j d =
            let w = row b l in
            parity_cong (λ i. A i j && S b i) (λ i. T w.0 i && A i j) n (λ i _. and_comm (A i j) (S b i) ∙ ap (λ x. x && A i j) (w.3.same i))
            ∙ blocks n A R T tr w.0 w.1 (pv.none w.0 w.1 (leb-true n (c w.0) w.2)) j d

        every : (x : Row) → Quiet n (flipped A) x → (e : ℕ → Bool) × Same n x (chosen k e S)
        every x q =
            let v = left_sum n A R T tr c pv x (λ j l. parity_cong (λ i. x i && A i j) (λ i. A i j && x i) n (λ i _. and_comm (x i) (A i j)) ∙ q j l) in
            let w = by_rank (zero_row n c) v.0 S n in (
              w.0,
              λ j l.
                  sym (v.2 j l)
                  ∙ parity_cong (λ i. v.0 i && T i j) (λ i. (zero_row n c i && v.0 i) && S (tally (zero_row n c) i) j) n (λ i b. each v.0 v.1 j i b (cases_Bool (zero_row n c i)))
                  ∙ w.1 j ∙ ap (λ m. parity (λ b. w.0 b && S b j) m) (sym col.many),
            )
          where
            each : (v : Row) → ((i : ℕ) → i < n → c i < n → v i ≡ false) → (j i : ℕ) → i < n → (zero_row n c i ≡ true) ⊎ (zero_row n c i ≡ false)
                → (v i && T i j) ≡ ((zero_row n c i && v i) && S (tally (zero_row n c) i) j)
            each v off j i b (inl t) = ap (λ x. v i && x) (sym ((row_of_set i b t).same j)) ∙ ap (λ z. (z && v i) && S (tally (zero_row n c) i) j) (sym t)
            each v off j i b (inr f) = ap (λ x. x && T i j) (off i b (leb-false n (c i) f)) ∙ ap (λ z. (z && v i) && S (tally (zero_row n c) i) j) (sym f)

-- ---- a fewest way, and a fewest set that shows that there is none

pub way_fewest : (n m k : ℕ) (A S : Rows) (s t p new : Row) (bound count : ℕ) → n ≤ m → Spans n A k S → Same n (act n A p) s → Within n p
    → Least m k S (accepts m false t) p p new bound count → Fewest n A s new
way_fewest n m k A S s t p new bound count wide spans solves inside l = record {
  solves = best_solves n A k S spans s p solves inside m wide (accepts m false t) new refl bound count l;
  within = best_within n A k S spans s p solves inside m wide (accepts m false t) new refl bound count l;
  fewest = λ q h. best_least n A k S spans s p solves inside m wide (accepts m false t) new refl bound count l q h (λ _ _. refl);
}

module _ (n m k : ℕ) (A S : Rows) (s p new : Row) (bound count : ℕ) (wide : n ≤ m) (lit : Within n s) (spans : Spans n (flipped A) k S) (inside : Within n p) where
  -- whether a set is odd for what is lit is told by its bits below n
  odd_below : (q r : Row) → Same n q r → accepts m true s q ≡ dot n r s
  odd_below q r same =
      parity_within n m (λ j. q j && s j) wide (λ j g. ap (λ b. q j && b) (lit j g) ∙ and_false (q j)) ∙ dot_left n q r s same

  rows_quiet : (q : Row) → Shows n A s q → Same n (act n (flipped A) q) nowhere
  rows_quiet q h j l = parity_cong (λ i. A i j && q i) (λ i. q i && A i j) n (λ i _. and_comm (A i j) (q i)) ∙ h.quiet j l

  pub never_fewest : Shows n A s p → Least m k S (accepts m true s) p p new bound count → FewestShowing n A s new
  never_fewest shows l =
      let ok : Row → Bool = accepts m true s in
      let quiet = rows_quiet p shows in
      let taken : ok p ≡ true = odd_below p p (λ _ _. refl) ∙ shows.odd in
      record {
        shows = record {
          quiet = λ j b. parity_cong (λ i. new i && A i j) (λ i. A i j && new i) n (λ i _. and_comm (new i) (A i j))
              ∙ best_solves n (flipped A) k S spans nowhere p quiet inside m wide ok new taken bound count l j b;
          odd = sym (odd_below new new (λ _ _. refl)) ∙ best_accepted n (flipped A) k S spans nowhere p quiet inside m wide ok new taken bound count l;
        };
        within = best_within n (flipped A) k S spans nowhere p quiet inside m wide ok new taken bound count l;
        fewest = λ r h. best_least n (flipped A) k S spans nowhere p quiet inside m wide ok new taken bound count l r (rows_quiet r h)
            (λ e same. odd_below (sum_of k e S p) r (λ j b. sym (same j b)) ∙ h.odd);
      }
