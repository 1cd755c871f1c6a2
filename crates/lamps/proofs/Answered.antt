-- What the reduced rows of a board's table say of its lamps: presses that put all out, or a quiet set that is odd for what is lit, and how many ways
-- there are. Assumes nothing.
use Rattle.std.proofs.Common.{◌≡◌, ℕ, suc, ◌<◌, ◌≤◌, true, false, ◌⊎◌, List, [], length, sym, refl, ap, ◌∙◌, subst, inl, inr, arith}
use Rattle.std.proofs.lemmas.Bool.{cases_Bool, cases_lt}
use Rattle.gf2.specs.Rows.{Row, Rows, Same, tally, nowhere, dot, act}
use Rattle.gf2.specs.Reduction.{LeftQuiet, Tracks, Pivots, Marks, Placed}
use Rattle.gf2.proofs.Rows.{dot_left, dot_none}
use Rattle.gf2.proofs.Tracks.{blocks, blocked}
use Rattle.gf2.proofs.Pivots.{solves}
use Rattle.gf2.proofs.Count.{count_solutions}
use Rattle.lamps.specs.Lamps.{Lamps, at, listed, how_many, odd_of, Wire, table, puts_out, quiet}
use Rattle.lamps.specs.Calls.{Board, fewest, some_way, never, number, out, ways, count_on, power, MaySay}
use Rattle.lamps.proofs.Counted.{count_on_rows, power_is, power_above}
use Rattle.lamps.proofs.Tables.{puts_table, quiet_table, quiet_left, left_quiet, how_many_at, odd_of_at, puts_listed, quiet_listed, odd_of_row, fewest_listed}
use Rattle.lamps.proofs.Listed.{how_many_listed}

module _ (ws : List Wire) (n : ℕ) (R T : Rows) (c : ℕ → ℕ) (h : Tracks n (table ws) R T) (v : Pivots n R c) where
  -- a row without a pivot was made from a quiet set
  pub row_quiet : (i : ℕ) → i < n → n ≤ c i → (q : Row) → Same n q (T i) → quiet ws n (listed n q) ≡ true
  row_quiet i l g q same = (quiet_listed ws n q).1 (left_quiet ws n q (λ j b.
      dot_left n q (T i) (λ k. table ws k j) same ∙ blocks n (table ws) R T h i l (v.none i l g) j b))

  -- how many quiet sets there are
  pub quiet_counted : (free : Row) → Marks n c free → count_on n [] (quiet ws n) ≡ power (tally free n)
  quiet_counted free m =
      count_on_rows n (quiet ws n)
      ∙ count_solutions n (table ws) R T c nowhere free h v m (λ r. quiet ws n (listed n r)) (quiet_listed ws n) (λ i l g. dot_none n (T i) nowhere (λ _ _. refl))
      ∙ sym (power_is (tally free n))

  module _ (s : Lamps) (e : length s ≡ n) where
    -- NEVER: the quiet set is odd for what is lit
    pub row_odd : (i : ℕ) (q : Row) → Same n q (T i) → odd_of (listed n q) s ≡ act n T (at s) i
    row_odd i q same = odd_of_row n q s e ∙ dot_left n q (T i) (at s) same

    pub never_put : (i : ℕ) → i < n → n ≤ c i → act n T (at s) i ≡ true → (p : Lamps) → puts_out ws s p ≡ false
    never_put i l g odd p = go (cases_Bool (puts_out ws s p))
      where
        go : (puts_out ws s p ≡ true) ⊎ (puts_out ws s p ≡ false) → puts_out ws s p ≡ false
        go (inl t) = absurd (blocked n (table ws) R T h (at s) i l (v.none i l g) odd (at p) (puts_table ws n s p e t).1)
        go (inr f) = f

    -- OUT: no row without a pivot is
    module _ (even : (i : ℕ) → i < n → n ≤ c i → act n T (at s) i ≡ false) where
      pub placed_solves : (p : Row) → Placed n c (act n T (at s)) p → Same n (act n (table ws) p) (at s)
      placed_solves p q = solves n R c v (table ws) T (at s) p h q even

      pub put_out : (p : Row) → Placed n c (act n T (at s)) p → puts_out ws s (listed n p) ≡ true
      put_out p q = (puts_listed ws n s e p).1 (placed_solves p q)

      -- WAYS
      pub ways_counted : (free : Row) → Marks n c free → count_on n [] (puts_out ws s) ≡ power (tally free n)
      ways_counted free m =
          count_on_rows n (puts_out ws s)
          ∙ count_solutions n (table ws) R T c (at s) free h v m (λ r. puts_out ws s (listed n r)) (puts_listed ws n s e) even
          ∙ sym (power_is (tally free n))

-- WHAT MAY BE SAID of a board of n lamps
module _ (b : Board) (n : ℕ) (e : length b.on ≡ n) where
  pub says_fewest : (p : Row) → Same n (act n (table b.wires_there) p) (at b.on)
      → ((q : Row) → Same n (act n (table b.wires_there) q) (at b.on) → tally p n ≤ tally q n) → MaySay b out (fewest (listed n p))
  unfolding MaySay
  says_fewest p same least = ((puts_listed b.wires_there n b.on e p).1 same, fewest_listed b.wires_there n b.on e p least)

  pub says_some_way : (p : Row) → Same n (act n (table b.wires_there) p) (at b.on)
      → (k : ℕ) → count_on n [] (quiet b.wires_there n) ≡ power k → 16 < k → MaySay b out (some_way (listed n p))
  unfolding MaySay
  says_some_way p same k many above = (
    (puts_listed b.wires_there n b.on e p).1 same,
    subst (λ m. 65536 < count_on m [] (quiet b.wires_there m)) (sym e) (subst (λ z. 65536 < z) (sym many) (power_above k above)),
  )

  pub says_never : (q : Row) → LeftQuiet n (table b.wires_there) q → dot n q (at b.on) ≡ true
      → (k : ℕ) → count_on n [] (quiet b.wires_there n) ≡ power k
      → (k ≤ 16 → (r : Row) → LeftQuiet n (table b.wires_there) r → dot n r (at b.on) ≡ true → tally q n ≤ tally r n) → MaySay b out (never (listed n q))
  unfolding MaySay
  says_never q still odd k many least = (
    subst (λ m. quiet b.wires_there m (listed n q) ≡ true) (sym e) ((quiet_listed b.wires_there n q).1 (left_quiet b.wires_there n q still)),
    odd_of_row n q b.on e ∙ odd,
    λ few r. fewer (subst (λ m. count_on m [] (quiet b.wires_there m) ≤ 65536) e few) r,
  )
    where
      small : count_on n [] (quiet b.wires_there n) ≤ 65536 → k ≤ 16
      small few = elim (cases_lt 16 k) [ inl l ↦ absurd (let high = power_above k l in omega (arith, many)) | inr g ↦ g ]

      fewer : count_on n [] (quiet b.wires_there n) ≤ 65536 → (r : Lamps) → quiet b.wires_there (length b.on) r ≡ true → odd_of r b.on ≡ true
          → how_many (listed n q) ≤ how_many r
      fewer few r t o =
          let w = quiet_table b.wires_there n r (subst (λ m. quiet b.wires_there m r ≡ true) e t) in
          let h : tally q n ≤ tally (at r) n = least (small few) (at r) (quiet_left b.wires_there n (at r) w.1) (sym (odd_of_at n r b.on w.0 e) ∙ o) in
          let c : how_many r ≡ tally (at r) n = how_many_at r ∙ ap (λ m. tally (at r) m) w.0 in
          omega (arith, h, c, how_many_listed n q)

  pub says_ways : (k : ℕ) → count_on n [] (puts_out b.wires_there b.on) ≡ power k → MaySay b ways (number (suc k))
  unfolding MaySay
  says_ways k many = ap (λ m. count_on m [] (puts_out b.wires_there b.on)) e ∙ many

  pub says_no_way : ((p : Lamps) → puts_out b.wires_there b.on p ≡ false) → MaySay b ways (number 0)
  unfolding MaySay
  says_no_way none = none
