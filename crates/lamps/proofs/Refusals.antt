-- Which refusal comes first, on a board of n lamps. Assumes nothing.
use Rattle.std.proofs.Common.{◌≡◌, ℕ, ◌<◌, ◌≤◌, true, false, ◌&&◌, eqb, ◌≢◌, length, ap, ◌∙◌, arith}
use Rattle.std.proofs.lemmas.Bool.{lt-ltb, le-ltb, eq-eqb, ne_eqb}
use Rattle.gf2.specs.Rows.{pick}
use Rattle.lamps.specs.Calls.{Board, wires, turns, presses, there, turned}

module _ (b : Board) (n : ℕ) (long : length b.on ≡ n) where
  there_is : (i : ℕ) → i < n → there b i ≡ true
  there_is i l = lt-ltb i (length b.on) (omega arith)

  not_there : (i : ℕ) → n ≤ i → there b i ≡ false
  not_there i g = le-ltb i (length b.on) (omega arith)

  pub wire_no_first : (i j : ℕ) → n ≤ i → turned b (wires i j) ≡ 4
  unfolding turned
  wire_no_first i j g = ap (λ t. pick (t && there b j) (pick (eqb i j) 2 0) 4) (not_there i g)

  both : (i j : ℕ) → i < n → turned b (wires i j) ≡ pick (there b j) (pick (eqb i j) 2 0) 4
  unfolding turned
  both i j l = ap (λ t. pick (t && there b j) (pick (eqb i j) 2 0) 4) (there_is i l)

  pub wire_no_second : (i j : ℕ) → i < n → n ≤ j → turned b (wires i j) ≡ 4
  wire_no_second i j l g = both i j l ∙ ap (λ t. pick t (pick (eqb i j) 2 0) 4) (not_there j g)

  both_there : (i j : ℕ) → i < n → j < n → turned b (wires i j) ≡ pick (eqb i j) 2 0
  both_there i j l k = both i j l ∙ ap (λ t. pick t (pick (eqb i j) 2 0) 4) (there_is j k)

  pub wire_itself : (i j : ℕ) → i < n → j < n → i ≡ j → turned b (wires i j) ≡ 2
  wire_itself i j l k e = both_there i j l k ∙ ap (λ t. pick t 2 0) (eq-eqb i j e)

  pub wire_taken : (i j : ℕ) → i < n → j < n → i ≢ j → turned b (wires i j) ≡ 0
  wire_taken i j l k ne = both_there i j l k ∙ ap (λ t. pick t 2 0) (ne_eqb i j ne)

  pub turn_no_lamp : (i : ℕ) → n ≤ i → turned b (turns i) ≡ 4
  unfolding turned
  turn_no_lamp i g = ap (λ t. pick t 0 4) (not_there i g)

  pub turn_taken : (i : ℕ) → i < n → turned b (turns i) ≡ 0
  unfolding turned
  turn_taken i l = ap (λ t. pick t 0 4) (there_is i l)

  pub press_no_lamp : (i : ℕ) → n ≤ i → turned b (presses i) ≡ 4
  unfolding turned
  press_no_lamp i g = ap (λ t. pick t 0 4) (not_there i g)

  pub press_taken : (i : ℕ) → i < n → turned b (presses i) ≡ 0
  unfolding turned
  press_taken i l = ap (λ t. pick t 0 4) (there_is i l)
