-- A call is refused by its number, or taken. Assumes nothing.
use Rattle.std.proofs.Common.{◌≡◌, ℕ, suc, ◌<◌, ◌≤◌, true, false, eqb, ◌≢◌, sym, refl, ap, ◌∙◌, subst, arith}
use Rattle.std.proofs.lemmas.Bool.{eq-eqb, ne_eqb}
use Rattle.gf2.specs.Rows.{pick}
use Rattle.lamps.specs.Calls.{Board, Call, Answer, wires, turns, presses, refused, turned, place, changed, MaySay, IsRightIf}
use Rattle.lamps.specs.Promise.{Memory}
use Rattle.lamps.proofs.Refusals as refusals
use Rattle.desk.specs.Holding.{Holds, Performs}

module _ (m : Memory) (b : Board) (c : Call) (h : Holds m b) where
  -- refused: nothing changes
  pub performs_refused : (k p : ℕ) → turned b c ≡ suc k → place c (suc k) ≡ p → Performs m m b c (refused (suc k) p)
  unfolding IsRightIf
  performs_refused k p e at_p =
      let no_call : eqb (turned b c) 0 ≡ false = ne_eqb (turned b c) 0 (omega (arith, e)) in
      record {
        answered = subst (λ t. IsRightIf t b c (refused (suc k) p)) (sym no_call) (ap (refused (suc k)) (sym at_p) ∙ ap (λ t. refused t (place c t)) (sym e));
        holds = subst (λ t. Holds m (pick t (changed b c) b)) (sym no_call) h;
        keeps = λ _. refl;
      }

  -- taken: the memory holds the board that the call changes it into
  pub performs_taken : (m' : Memory) (a : Answer) → turned b c ≡ 0 → MaySay b c a → Holds m' (changed b c) → Performs m m' b c a
  unfolding IsRightIf
  performs_taken m' a e says holds =
      let a_call : eqb (turned b c) 0 ≡ true = eq-eqb (turned b c) 0 e in
      record {
        answered = subst (λ t. IsRightIf t b c a) (sym a_call) says;
        holds = subst (λ t. Holds m' (pick t (changed b c) b)) (sym a_call) holds;
        keeps = λ l. absurd (omega (arith, e));
      }

-- of the same call
pub performs_as : {m m' : Memory} {b : Board} {c d : Call} {a : Answer} → c ≡ d → Performs m m' b d a → Performs m m' b c a
performs_as {m} {m'} {b} {c} {d} {a} e = subst (λ x. Performs m m' b x a) (sym e)

-- which refusal comes first
module _ (m : Memory) (b : Board) (h : Holds m b) where
  pub wire_no_first : (i j : ℕ) → m.lamps ≤ i → Performs m m b (wires i j) (refused 4 0)
  unfolding place
  wire_no_first i j g = performs_refused m b (wires i j) h 3 0 (refusals.wire_no_first b m.lamps h.lit.long i j g) refl

  pub wire_no_second : (i j : ℕ) → i < m.lamps → m.lamps ≤ j → Performs m m b (wires i j) (refused 4 0)
  unfolding place
  wire_no_second i j l g = performs_refused m b (wires i j) h 3 0 (refusals.wire_no_second b m.lamps h.lit.long i j l g) refl

  pub wire_itself : (i j : ℕ) → i < m.lamps → j < m.lamps → i ≡ j → Performs m m b (wires i j) (refused 2 0)
  unfolding place
  wire_itself i j l k e = performs_refused m b (wires i j) h 1 0 (refusals.wire_itself b m.lamps h.lit.long i j l k e) refl

  pub wire_taken : (i j : ℕ) → i < m.lamps → j < m.lamps → i ≢ j → turned b (wires i j) ≡ 0
  wire_taken i j l k ne = refusals.wire_taken b m.lamps h.lit.long i j l k ne

  pub turn_no_lamp : (i : ℕ) → m.lamps ≤ i → Performs m m b (turns i) (refused 4 0)
  unfolding place
  turn_no_lamp i g = performs_refused m b (turns i) h 3 0 (refusals.turn_no_lamp b m.lamps h.lit.long i g) refl

  pub turn_taken : (i : ℕ) → i < m.lamps → turned b (turns i) ≡ 0
  turn_taken i l = refusals.turn_taken b m.lamps h.lit.long i l

  pub press_no_lamp : (i : ℕ) → m.lamps ≤ i → Performs m m b (presses i) (refused 4 0)
  unfolding place
  press_no_lamp i g = performs_refused m b (presses i) h 3 0 (refusals.press_no_lamp b m.lamps h.lit.long i g) refl

  pub press_taken : (i : ℕ) → i < m.lamps → turned b (presses i) ≡ 0
  press_taken i l = refusals.press_taken b m.lamps h.lit.long i l
