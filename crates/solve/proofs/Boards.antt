-- What the rows in steps say of a board. Assumes nothing.
use Rattle.std.proofs.Common.{◌≡◌, ℕ, ◌<◌, ◌≤◌, Bool, true, false, List, length, sym, ap, ◌∙◌, inl, inr, true≢false, arith}
use Rattle.std.proofs.lemmas.Bool.{cases_Bool}
use Rattle.std.proofs.lemmas.List.{get_or_past}
use Rattle.gf2.specs.Rows.{Row, Rows, tally, act}
use Rattle.gf2.specs.Reduction.{Tracks, Pivots, unowned}
use Rattle.gf2.proofs.Rows.{dot_right}
use Rattle.gf2.proofs.Pivots.{owners, owners_own}
use Rattle.gf2.proofs.Kernel.{marks_owns}
use Rattle.gf2.proofs.Count.{as_many_free}
use Rattle.lamps.specs.Lamps.{Lamps, Wire, at, table, puts_out}
use Rattle.lamps.specs.Calls.{power}
use Rattle.lamps.proofs.Tables.{puts_listed, quiet_listed, left_quiet, odd_of_row}
use Rattle.lamps.proofs.Answered.{quiet_counted, ways_counted, never_put}
use Rattle.solve.specs.Solved.{Within, Solved, Tells, Counts, zero_row}

module _ (n : ℕ) (ws : List Wire) (R T : Rows) (c : ℕ → ℕ) (tr : Tracks n (table ws) R T) (pv : Pivots n R c) where
  -- what solves the board's table puts all out; what shows that nothing does is quiet, and odd for what is lit
  pub solved_tells : (s : Lamps) (lit p : Row) (r : Bool) → length s ≡ n → ((k : ℕ) → lit k ≡ at s k) → Solved n T c lit p r → Tells n ws s p r
  solved_tells s lit p r e same h = record {
    way = λ t. (puts_listed ws n s e p).1 (λ i l. h.way t (table ws) R tr pv i l ∙ same i);
    never = λ f.
        let shows = h.never f (table ws) R tr pv in
        ((quiet_listed ws n p).1 (left_quiet ws n p shows.quiet), odd_of_row n p s e ∙ dot_right n p (at s) lit (λ i _. sym (same i)) ∙ shows.odd);
  }

  pub rows_count : (k : ℕ) → k ≡ tally (zero_row n c) n → Counts n ws k
  rows_count k e =
      let free : Row = unowned n (owners n c) in
      let marks = marks_owns n c (owners n c) (owners_own n R c pv) in
      let many : tally free n ≡ k = sym (e ∙ as_many_free n R c free pv marks) in
      record {
        quiet = quiet_counted ws n R T c tr pv free marks ∙ ap power many;
        ways = λ s p d puts. ways_counted ws n R T c tr pv s d (even s p d puts) free marks ∙ ap power many;
      }
    where
      even : (s p : Lamps) → length s ≡ n → puts_out ws s p ≡ true → (i : ℕ) → i < n → n ≤ c i → act n T (at s) i ≡ false
      even s p d puts i l g = elim (cases_Bool (act n T (at s) i)) [
        | inl t ↦ absurd (true≢false (sym puts ∙ never_put ws n R T c tr pv s d i l g t p))
        | inr f ↦ f
      ]

-- what is lit is within the board
pub lit_within : (n : ℕ) (s : Lamps) (lit : Row) → length s ≡ n → ((k : ℕ) → lit k ≡ at s k) → Within n lit
lit_within n s lit e same j g = same j ∙ get_or_past s j false (omega arith)
