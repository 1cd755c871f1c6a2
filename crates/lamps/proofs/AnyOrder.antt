-- Presses in any order, and twice: pressing is a sum, and a sum may be taken in any order. Assumes nothing.
use Rattle.std.proofs.Common.{◌≡◌, List, length, sym, refl, ap, ◌∙◌, ap₂}
use Rattle.gf2.specs.Rows.{differ, Row, Same, sum, act}
use Rattle.gf2.proofs.Parity.{differ_false, differ_comm, differ_assoc}
use Rattle.gf2.proofs.Rows.{differ_self, dot_sum, dot_right}
use Rattle.lamps.specs.Lamps.{Lamps, at, listed, both, Wire, table, pressed}
use Rattle.lamps.specs.Promise.{AnyOrder}
use Rattle.lamps.proofs.Listed.{at_listed, listed_same, listed_at, listed_is, both_listed}
use Rattle.lamps.proofs.Pressed.{length_pressed, at_pressed_act}

module _ (ws : List Wire) (s : Lamps) where
  -- what the presses change
  abbrev turns : Lamps → Row
  turns p = act (length s) (table ws) (at p)

  pressed_twice : (p q : Lamps) → pressed ws (pressed ws s p) q ≡ listed (length s) (λ k. differ (at s k) (differ (turns p k) (turns q k)))
  pressed_twice p q = listed_is (length s) (pressed ws (pressed ws s p) q) (λ k. differ (at s k) (differ (turns p k) (turns q k)))
      (length_pressed ws (pressed ws s p) q ∙ length_pressed ws s p)
      (λ k l. at_pressed_act ws (pressed ws s p) q k (rw length_pressed l)
      ∙ ap₂ differ (at_pressed_act ws s p k l) (ap (λ m. act m (table ws) (at q) k) (length_pressed ws s p))
      ∙ differ_assoc (at s k) (turns p k) (turns q k))

  -- both together
  turns_both : (p q : Lamps) → length p ≡ length s → length q ≡ length s → Same (length s) (turns (both p q)) (λ k. differ (turns p k) (turns q k))
  turns_both p q hp hq k l = dot_right (length s) (table ws k) (at (both p q)) (sum (at p) (at q)) each ∙ dot_sum (length s) (table ws k) (at p) (at q)
    where
      each : Same (length s) (at (both p q)) (sum (at p) (at q))
      each j b =
          ap (λ r. at r j) (ap₂ both (listed_is (length s) p (at p) hp (λ _ _. refl)) (listed_is (length s) q (at q) hq (λ _ _. refl)) ∙ both_listed (length s) (at p) (at q))
          ∙ at_listed (length s) (sum (at p) (at q)) j b

pub any_order : AnyOrder
unfolding AnyOrder
any_order ws s p q hp hq = (
  pressed_twice ws s p q ∙ same (λ k _. differ_comm (turns ws s p k) (turns ws s q k)) ∙ sym (pressed_twice ws s q p),
  pressed_twice ws s p p
      ∙ listed_same (length s) (λ k. differ (at s k) (differ (turns ws s p k) (turns ws s p k))) (at s)
      (λ k _. ap (differ (at s k)) (differ_self (turns ws s p k)) ∙ differ_false (at s k))
      ∙ listed_at s,
  pressed_twice ws s p q
      ∙ same (λ k l. sym (turns_both ws s p q hp hq k l))
      ∙ sym (listed_is (length s) (pressed ws s (both p q)) (λ k. differ (at s k) (turns ws s (both p q) k)) (length_pressed ws s (both p q)) (at_pressed_act ws s (both p q))),
)
  where
    same : {f g : Row} → Same (length s) f g → listed (length s) (λ k. differ (at s k) (f k)) ≡ listed (length s) (λ k. differ (at s k) (g k))
    same h = listed_same (length s) _ _ (λ k l. ap (differ (at s k)) (h k l))
