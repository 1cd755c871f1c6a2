-- Lamps as a system: presses put out what is lit if they solve the board's table for it, and a set is quiet if the table makes nothing of it.
-- n is the number of lamps. Assumes nothing.
use Rattle.std.proofs.Common.{◌≡◌, ℕ, ◌<◌, ◌≤◌, Bool, true, false, eqb, List, length, Decides, sym, refl, ap, ◌∙◌, subst, ap₂, arith}
use Rattle.std.proofs.lemmas.Bool.{eq-eqb, eqb-true, and_parts, and_from}
use Rattle.gf2.specs.Rows.{differ, Row, Same, tally, dot, act}
use Rattle.gf2.specs.Reduction.{Quiet, LeftQuiet}
use Rattle.gf2.proofs.Rows.{differ_self, dot_comm, dot_left, dot_right}
use Rattle.lamps.specs.Lamps.{Lamps, at, listed, none_lit, all_off, how_many, odd_of, Wire, table, pressed, puts_out, quiet}
use Rattle.lamps.proofs.Listed.{length_listed, at_listed, listed_at, listed_is, how_many_listed, odd_of_listed}
use Rattle.lamps.proofs.Pressed.{all_off_at, all_off_from, length_none_lit, at_none_lit, length_pressed, at_pressed_act}
use Rattle.lamps.proofs.Wires.{changes_sym}

module _ (ws : List Wire) where
  -- all is off after presses
  off_table : (n : ℕ) (s p : Lamps) → length s ≡ n → all_off (pressed ws s p) ≡ true → Same n (act n (table ws) (at p)) (at s)
  off_table n s p e h = subst (λ m. Same m (act m (table ws) (at p)) (at s)) e
      (λ j l. alike (at s j) (act (length s) (table ws) (at p) j) (sym (at_pressed_act ws s p j l) ∙ all_off_at (pressed ws s p) h j))
    where
      alike : (a b : Bool) → differ a b ≡ false → b ≡ a
      alike a b h = grind arith

  table_off : (n : ℕ) (s p : Lamps) → length s ≡ n → Same n (act n (table ws) (at p)) (at s) → all_off (pressed ws s p) ≡ true
  table_off n s p e h = all_off_from (pressed ws s p) (λ j l. off j (rw length_pressed at l))
    where
      same : Same (length s) (act (length s) (table ws) (at p)) (at s)
      same = subst (λ m. Same m (act m (table ws) (at p)) (at s)) (sym e) h

      off : (j : ℕ) → j < length s → at (pressed ws s p) j ≡ false
      off j l = at_pressed_act ws s p j l ∙ ap (differ (at s j)) (same j l) ∙ differ_self (at s j)

  -- PRESSES THAT PUT ALL OUT, as a list
  pub puts_table : (n : ℕ) (s p : Lamps) → length s ≡ n → puts_out ws s p ≡ true → (length p ≡ n) × Same n (act n (table ws) (at p)) (at s)
  puts_table n s p e h =
      let (long, off) = and_parts (eqb (length p) (length s)) (all_off (pressed ws s p)) h in
      (eqb-true (length p) (length s) long ∙ e, off_table n s p e off)

  pub table_puts : (n : ℕ) (s p : Lamps) → length s ≡ n → length p ≡ n → Same n (act n (table ws) (at p)) (at s) → puts_out ws s p ≡ true
  table_puts n s p e d h =
      and_from (eqb (length p) (length s)) (all_off (pressed ws s p)) (eq-eqb (length p) (length s) (d ∙ sym e)) (table_off n s p e h)

  -- QUIET SETS, as a list
  pub quiet_table : (n : ℕ) (q : Lamps) → quiet ws n q ≡ true → (length q ≡ n) × Quiet n (table ws) (at q)
  quiet_table n q h =
      let (long, off) = and_parts (eqb (length q) n) (all_off (pressed ws (none_lit n) q)) h in
      (eqb-true (length q) n long, λ j l. off_table n (none_lit n) q (length_none_lit n) off j l ∙ at_none_lit n j)

  pub table_quiet : (n : ℕ) (q : Lamps) → length q ≡ n → Quiet n (table ws) (at q) → quiet ws n q ≡ true
  table_quiet n q d h =
      and_from (eqb (length q) n) (all_off (pressed ws (none_lit n) q)) (eq-eqb (length q) n d)
      (table_off n (none_lit n) q (length_none_lit n) (λ j l. h j l ∙ sym (at_none_lit n j)))

  -- wires have no direction: every press changes an even number of a set's lamps if they change nothing, pressed all together
  pub quiet_left : (n : ℕ) (q : Row) → Quiet n (table ws) q → LeftQuiet n (table ws) q
  quiet_left n q h j l = dot_right n q (λ i. table ws i j) (table ws j) (λ i _. changes_sym ws j i) ∙ dot_comm n q (table ws j) ∙ h j l

  pub left_quiet : (n : ℕ) (q : Row) → LeftQuiet n (table ws) q → Quiet n (table ws) q
  left_quiet n q h j l = dot_comm n (table ws j) q ∙ dot_right n q (table ws j) (λ i. table ws i j) (λ i _. changes_sym ws i j) ∙ h j l

-- how many lamps, and how many in common
pub how_many_at : (q : Lamps) → how_many q ≡ tally (at q) (length q)
how_many_at q = ap how_many (sym (listed_at q)) ∙ how_many_listed (length q) (at q)

pub odd_of_at : (n : ℕ) (q s : Lamps) → length q ≡ n → length s ≡ n → odd_of q s ≡ dot n (at q) (at s)
odd_of_at n q s d e = ap₂ odd_of (listed_is n q (at q) d (λ _ _. refl)) (listed_is n s (at s) e (λ _ _. refl)) ∙ odd_of_listed n (at q) (at s)

pub odd_of_row : (n : ℕ) (f : Row) (s : Lamps) → length s ≡ n → odd_of (listed n f) s ≡ dot n f (at s)
odd_of_row n f s e = odd_of_at n (listed n f) s (length_listed n f) e ∙ dot_left n (at (listed n f)) f (at s) (at_listed n f)

-- THE SAME FOR A ROW
module _ (ws : List Wire) (n : ℕ) where
  act_listed : (f : Row) → Same n (act n (table ws) (at (listed n f))) (act n (table ws) f)
  act_listed f j l = dot_right n (table ws j) (at (listed n f)) f (at_listed n f)

  pub puts_listed : (s : Lamps) → length s ≡ n → (f : Row) → Decides (puts_out ws s (listed n f)) (Same n (act n (table ws) f) (at s))
  puts_listed s e f = (
    (λ h j l. sym (act_listed f j l) ∙ (puts_table ws n s (listed n f) e h).1 j l),
    (λ h. table_puts ws n s (listed n f) e (length_listed n f) (λ j l. act_listed f j l ∙ h j l)),
  )

  pub quiet_listed : (f : Row) → Decides (quiet ws n (listed n f)) (Quiet n (table ws) f)
  quiet_listed f = (
    (λ h j l. sym (act_listed f j l) ∙ (quiet_table ws n (listed n f) h).1 j l),
    (λ h. table_quiet ws n (listed n f) (length_listed n f) (λ j l. act_listed f j l ∙ h j l)),
  )

  -- fewest among rows are fewest among lists
  pub fewest_listed : (s : Lamps) → length s ≡ n → (f : Row) → ((g : Row) → Same n (act n (table ws) g) (at s) → tally f n ≤ tally g n)
      → (q : Lamps) → puts_out ws s q ≡ true → how_many (listed n f) ≤ how_many q
  fewest_listed s e f least q h =
      let (long, same) = puts_table ws n s q e h in
      let few : tally f n ≤ tally (at q) n = least (at q) same in
      let here : how_many (listed n f) ≡ tally f n = how_many_listed n f in
      let there : how_many q ≡ tally (at q) n = how_many_at q ∙ ap (tally (at q)) long in
      omega arith
