-- The steps put together: every system can be reduced, and stays reduced when a row is replaced. What a program's loops do, as recursion.
-- Assumes nothing.
use Rattle.std.proofs.Common.{◌≡◌, ℕ, zero, suc, ◌<◌, ◌≤◌, true, false, ◌≢◌, ◌⊎◌, sym, refl, ap, ◌∙◌, subst, inl, inr, arith}
use Rattle.std.proofs.lemmas.Bool.{cases_eq, cases_lt, cases_Bool, eq-eqb, ne_eqb}
use Rattle.gf2.specs.Rows.{pick, Rows, only}
use Rattle.gf2.specs.Reduction.{Tracks, Adds, added, put_row, Puts, put, Pivots, Settled, Reduced, Cleared, Chosen, Freeing, Sums, no_sum, one_sum, Reduction, EverySystem, RowReplaced}
use Rattle.gf2.proofs.Rows.{find}
use Rattle.gf2.proofs.Tracks.{added_adds, tracks_add, tracks_itself}
use Rattle.gf2.proofs.Settle.{More, settled_all, settled_none, reduce_skip, reduce_add, clear_skip, clear_add, into_kept, from_kept, from_row, from_reduced, lit_pivot, settle_pivot, settle_none}
use Rattle.gf2.proofs.Update.{put_row_puts, choose, freeing_start, freeing_skip, freeing_add, freeing_end}

pub put_puts : (n : ℕ) (c : ℕ → ℕ) (k x : ℕ) → Puts n c (put c k x) k x
put_puts n c k x = record {
  here = ap (λ b. pick b x (c k)) (eq-eqb k k refl);
  other = λ i l ne. ap (λ b. pick b x (c i)) (ne_eqb i k ne);
}

-- sums keep what R is made of
pub tracks_sums : (n : ℕ) (A R T R' T' : Rows) → Sums n R T R' T' → Tracks n A R T → Tracks n A R' T'
tracks_sums n A R T R' T' no_sum h = h
tracks_sums n A R T R'' T'' (one_sum {R' = R'} {T' = T'} {k = k} {m = m} s kn mn ne r t) h =
    tracks_add n A R' T' R'' T'' k m kn mn ne r t (tracks_sums n A R T R' T' s h)

-- tables that sums made, and what is known of them
record Held (n : ℕ) (R₀ T₀ : Rows) (D : ℕ → Type 0) (c : ℕ → ℕ) (P : Rows → Type 0) : Type 0 where
  R : Rows
  T : Rows
  sums : Sums n R₀ T₀ R T
  settled : Settled n D R c
  also : P R

one_more : (t i : ℕ) → i < suc t → i ≢ t → i < t
one_more t i l ne = omega arith

module _ (n : ℕ) (R₀ T₀ : Rows) (D : ℕ → Type 0) (dec : (i : ℕ) → D i ⊎ (D i → ⊥)) (c : ℕ → ℕ) (k : ℕ) (kn : k < n) (not_k : D k → ⊥) where
  apart : (i : ℕ) → D i → i ≢ k
  apart i d e = not_k (subst D e d)

  -- row k is reduced
  reduce_step : (t : ℕ) → t < n → Held n R₀ T₀ D c (λ S. Reduced n D (λ i. i < t) S c k) → Held n R₀ T₀ D c (λ S. Reduced n D (λ i. i < suc t) S c k)
  reduce_step t tn h = go (dec t) (cases_lt (c t) n) (cases_Bool (h.R k (c t)))
    where
      skip : (D t → c t < n → h.R k (c t) ≡ false) → Held n R₀ T₀ D c (λ S. Reduced n D (λ i. i < suc t) S c k)
      skip off = record { R = h.R; T = h.T; sums = h.sums; settled = h.settled; also = reduce_skip n D (λ i. i < t) (λ i. i < suc t) c k t (one_more t) h.R off h.also }

      go : D t ⊎ (D t → ⊥) → (c t < n) ⊎ (n ≤ c t) → (h.R k (c t) ≡ true) ⊎ (h.R k (c t) ≡ false) → Held n R₀ T₀ D c (λ S. Reduced n D (λ i. i < suc t) S c k)
      go (inr nd) b e = skip (λ d. absurd (nd d))
      go (inl d) (inr g) e = skip (λ _ p. absurd (omega arith))
      go (inl d) (inl p) (inr off) = skip (λ _ _. off)
      go (inl d) (inl p) (inl lit) =
          let a : Adds n h.R (added h.R k t) k t = added_adds n h.R k t in
          record {
            R = added h.R k t;
            T = added h.T k t;
            sums = one_sum h.sums kn tn (apart t d) a (added_adds n h.T k t);
            settled = into_kept n D h.R (added h.R k t) c k t not_k a h.settled;
            also = reduce_add n D (λ i. i < t) (λ i. i < suc t) c k t (one_more t) h.R (added h.R k t) tn d p lit a h.settled h.also;
          }

  reduce_rows : Settled n D R₀ c → (t : ℕ) → t ≤ n → Held n R₀ T₀ D c (λ S. Reduced n D (λ i. i < t) S c k)
  reduce_rows v zero l = record { R = R₀; T = T₀; sums = no_sum; settled = v; also = λ i b d w p. absurd (omega arith) }
  reduce_rows v (suc t) l = reduce_step t l (reduce_rows v t (omega arith))

  -- column j is cleared
  module _ (j : ℕ) (jn : j < n) where
    abbrev Clearing : ℕ → Rows → Type 0
    Clearing t S = Reduced n D (λ i. i < n) S c k × (S k j ≡ true) × Cleared n D (λ i. i < t) S k j

    clear_step : (t : ℕ) → t < n → Held n R₀ T₀ D c (Clearing t) → Held n R₀ T₀ D c (Clearing (suc t))
    clear_step t tn h = go (dec t) (cases_Bool (h.R t j))
      where
        skip : (D t → t ≢ k → h.R t j ≡ false) → Held n R₀ T₀ D c (Clearing (suc t))
        skip off = record { R = h.R; T = h.T; sums = h.sums; settled = h.settled; also = (h.also.0, h.also.1, clear_skip n D (λ i. i < t) (λ i. i < suc t) c k t (one_more t) h.R j off h.also.2) }

        go : D t ⊎ (D t → ⊥) → (h.R t j ≡ true) ⊎ (h.R t j ≡ false) → Held n R₀ T₀ D c (Clearing (suc t))
        go (inr nd) e = skip (λ d. absurd (nd d))
        go (inl d) (inr off) = skip (λ _ _. off)
        go (inl d) (inl lit) =
            let ne : t ≢ k = apart t d in
            let a : Adds n h.R (added h.R t k) t k = added_adds n h.R t k in
            record {
              R = added h.R t k;
              T = added h.T t k;
              sums = one_sum h.sums tn kn (λ e. ne (sym e)) a (added_adds n h.T t k);
              settled = from_kept n D h.R (added h.R t k) c k t kn ne (λ d g. absurd (lit_pivot n D h.R c h.settled t j tn jn lit d g)) a h.also.0 h.settled;
              also = (
                from_reduced n D h.R (added h.R t k) c k t kn ne a h.also.0,
                from_row n D h.R (added h.R t k) c k t kn ne a j jn ∙ h.also.1,
                clear_add n D (λ i. i < t) (λ i. i < suc t) c k t (one_more t) h.R (added h.R t k) j jn lit h.also.1 a h.also.2,
              );
            }

    clear_rows : Held n R₀ T₀ D c (λ S. Reduced n D (λ i. i < n) S c k × (S k j ≡ true)) → (t : ℕ) → t ≤ n → Held n R₀ T₀ D c (Clearing t)
    clear_rows h zero l = record { R = h.R; T = h.T; sums = h.sums; settled = h.settled; also = (h.also.0, h.also.1, λ m b d w ne. absurd (omega arith)) }
    clear_rows h (suc t) l = clear_step t l (clear_rows h t (omega arith))

  -- ROW k IS SETTLED
  pub settle_row : (D' : ℕ → Type 0) → More D D' k → Settled n D R₀ c → Reduction n R₀ T₀ D'
  settle_row D' more v = go (reduce_rows v n (omega arith))
    where
      go : Held n R₀ T₀ D c (λ S. Reduced n D (λ i. i < n) S c k) → Reduction n R₀ T₀ D'
      go g = elim (find (g.R k) n) [
        | inl none ↦ record {
          R' = g.R;
          T' = g.T;
          c' = put c k n;
          sums = g.sums;
          settled = settle_none n D D' g.R c (put c k n) k n more (put_puts n c k n) g.settled kn (omega arith) none;
        }
        | inr w ↦
            let e : Held n R₀ T₀ D c (Clearing w.0 w.1 n) = clear_rows w.0 w.1 (record { R = g.R; T = g.T; sums = g.sums; settled = g.settled; also = (g.also, w.2) }) n (omega arith) in
            record {
              R' = e.R;
              T' = e.T;
              c' = put c k w.0;
              sums = e.sums;
              settled = settle_pivot n D D' e.R c (put c k w.0) k w.0 more (put_puts n c k w.0) e.settled kn w.1 e.also.1 e.also.0 e.also.2;
            }
      ]

-- sums after sums
pub sums_join : (n : ℕ) (R T R' T' R'' T'' : Rows) → Sums n R T R' T' → Sums n R' T' R'' T'' → Sums n R T R'' T''
sums_join n R T R' T' R'' T'' s no_sum = s
sums_join n R T R' T' R'' T'' s (one_sum {R' = R₁} {T' = T₁} t kn mn ne r q) = one_sum (sums_join n R T R' T' R₁ T₁ s t) kn mn ne r q

below_dec : (t i : ℕ) → (i < t) ⊎ (i < t → ⊥)
below_dec t i = elim (cases_lt i t) [ inl l ↦ inl l | inr g ↦ inr (λ l. omega arith) ]

-- ELIMINATION: the rows are settled in turn; before row t is, the rows below t are settled among themselves
pub eliminate : (n : ℕ) (R T : Rows) (t : ℕ) → t ≤ n → Reduction n R T (λ i. i < t)
eliminate n R T zero l = record { R' = R; T' = T; c' = λ i. n; sums = no_sum; settled = settled_none n R (λ i. n) }
eliminate n R T (suc t) l = go (eliminate n R T t (omega arith))
  where
    go : Reduction n R T (λ i. i < t) → Reduction n R T (λ i. i < suc t)
    go r =
        let e : Reduction n r.R' r.T' (λ i. i < suc t) = settle_row n r.R' r.T' (λ i. i < t) (below_dec t) r.c' t l (λ x. omega arith) (λ i. i < suc t) (one_more t) r.settled in
        record { R' = e.R'; T' = e.T'; c' = e.c'; sums = sums_join n R T r.R' r.T' e.R' e.T' r.sums e.sums; settled = e.settled }

pub every_system : EverySystem
every_system n A =
    let r : Reduction n A only (λ i. i < n) = eliminate n A only n (omega arith) in
    record { R = r.R'; T = r.T'; c = r.c'; sums = r.sums; tracks = tracks_sums n A A only r.R' r.T' r.sums (tracks_itself n A); pivots = settled_all n r.R' r.c' r.settled }

-- A ROW REPLACED
record Freed (n : ℕ) (A : Rows) (c : ℕ → ℕ) (l k : ℕ) (R₀ T₀ : Rows) (V : ℕ → Type 0) : Type 0 where
  R : Rows
  T : Rows
  sums : Sums n R₀ T₀ R T
  freeing : Freeing n A R T c l k V

module _ (n : ℕ) (A : Rows) (c : ℕ → ℕ) (l k : ℕ) (ln : l < n) (kn : k < n) (R₀ T₀ : Rows) where
  free_step : (t : ℕ) → t < n → Freed n A c l k R₀ T₀ (λ i. i < t) → Freed n A c l k R₀ T₀ (λ i. i < suc t)
  free_step t tn h = go (cases_eq t k) (cases_Bool (h.T t l))
    where
      skip : (t ≢ k → h.T t l ≡ false) → Freed n A c l k R₀ T₀ (λ i. i < suc t)
      skip off = record { R = h.R; T = h.T; sums = h.sums; freeing = freeing_skip n A c l k t (λ i. i < t) (λ i. i < suc t) (one_more t) h.R h.T off h.freeing }

      go : (t ≡ k) ⊎ (t ≡ k → ⊥) → (h.T t l ≡ true) ⊎ (h.T t l ≡ false) → Freed n A c l k R₀ T₀ (λ i. i < suc t)
      go (inl e) b = skip (λ ne. absurd (ne e))
      go (inr ne) (inr off) = skip (λ _. off)
      go (inr ne) (inl lit) =
          let a : Adds n h.R (added h.R t k) t k = added_adds n h.R t k in
          let b : Adds n h.T (added h.T t k) t k = added_adds n h.T t k in
          record {
            R = added h.R t k;
            T = added h.T t k;
            sums = one_sum h.sums tn kn (λ e. ne (sym e)) a b;
            freeing = freeing_add n A c l k t (λ i. i < t) (λ i. i < suc t) (one_more t) h.R h.T (added h.R t k) (added h.T t k) ln kn tn ne lit a b h.freeing;
          }

  free_rows : Tracks n A R₀ T₀ → Pivots n R₀ c → T₀ k l ≡ true → Chosen n R₀ T₀ c l k → (t : ℕ) → t ≤ n → Freed n A c l k R₀ T₀ (λ i. i < t)
  free_rows h v lit ch zero b = record { R = R₀; T = T₀; sums = no_sum; freeing = freeing_start n A R₀ T₀ c l k (λ i. i < 0) kn (λ m x. omega arith) h v lit ch }
  free_rows h v lit ch (suc t) b = free_step t b (free_rows h v lit ch t (omega arith))

other_dec : (k i : ℕ) → (i ≢ k) ⊎ (i ≢ k → ⊥)
other_dec k i = elim (cases_eq i k) [ inl e ↦ inr (λ ne. ne e) | inr ne ↦ inl ne ]

pub row_replaced : RowReplaced
row_replaced n A A' R T c l a ln pa h v =
    let w = choose n A R T c l ln h v in
    let k : ℕ = w.0 in
    let f : Freed n A c l k R T (λ i. i < n) = free_rows n A c l k ln w.1 R T h v w.2 w.3 n (omega arith) in
    let R₂ : Rows = put_row f.R k a in
    let T₂ : Rows = put_row f.T k (only l) in
    let e : Tracks n A' R₂ T₂ × Settled n (λ i. i ≢ k) R₂ c = freeing_end n A A' f.R R₂ f.T T₂ c l k a ln w.1 pa (put_row_puts n f.R k a) (put_row_puts n f.T k (only l)) f.freeing in
    let g : Reduction n R₂ T₂ (λ i. i < n) = settle_row n R₂ T₂ (λ i. i ≢ k) (other_dec k) c k w.1 (λ ne. ne refl) (λ i. i < n) (λ i _ ne. ne) e.1 in
    record {
      k = k;
      R₁ = f.R;
      T₁ = f.T;
      R₂ = R₂;
      T₂ = T₂;
      R₃ = g.R';
      T₃ = g.T';
      c₃ = g.c';
      within = w.1;
      freed = f.sums;
      row_put = put_row_puts n f.R k a;
      made_put = put_row_puts n f.T k (only l);
      settled = g.sums;
      tracks = tracks_sums n A' R₂ T₂ g.R' g.T' g.sums e.0;
      pivots = settled_all n g.R' g.c' g.settled;
    }
