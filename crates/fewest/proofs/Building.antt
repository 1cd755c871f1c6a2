-- The quiet set of a free column, row by row, and the sets one after the other. Assumes nothing.
use Rattle.std.proofs.Common.{◌≡◌, ℕ, suc, ◌+◌, ◌-◌, ◌*◌, ◌<◌, ◌≤◌, Bool, true, false, ◌&&◌, eqb, ltb, ◌≢◌, List, length, take, drop, sym, refl, ap, ◌∙◌, subst, ap₂, inl, inr, add-one, arith, length-take, length-drop}
use Rattle.std.specs.Borrow.{MutBor}
use borrow.Rule.Slice.PartMut.{put_mid}
use mathlib.Core.Bool.{false≢true}
use Rattle.std.proofs.Math.Bool.{and-true}
use Rattle.std.proofs.lemmas.Bool.{cases_eq, cases_lt, eq-eqb, ne_eqb, lt-ltb, le-ltb}
use Rattle.gf2.specs.Rows.{differ, Row, Rows, parity, only, tally}
use Rattle.gf2.specs.Reduction.{Pivots, Free}
use Rattle.gf2.proofs.Parity.{parity_none, and_false, differ_false}
use Rattle.gf2.proofs.Rows.{parity_alone}
use Rattle.gf2.proofs.Pivots.{pivots_apart}
use Rattle.bits.specs.Bits.{bit_of}
use Rattle.matrix.specs.Cells.{cell}
use Rattle.matrix.proofs.Memory.{other_rows, row_written, row_around}
use Rattle.fewest.specs.Sets.{QuietSet, Written, Collected, SetPut}
use Rattle.fewest.proofs.Columns.{rank_on, rank_off, rank_below}

-- does row i put bit j
abbrev pub puts : ℕ → Rows → (ℕ → ℕ) → ℕ → ℕ → ℕ → Bool
puts n R c f j i = (ltb (c i) n && R i f) && eqb j (c i)

-- the first i rows are done
pub record Building (n : ℕ) (R : Rows) (c : ℕ → ℕ) (f : ℕ) (v : Row) (i : ℕ) : Type 0 where
  pub each : (j : ℕ) → v j ≡ differ (only f j) (parity (puts n R c f j) i)

module _ (n : ℕ) (R : Rows) (c : ℕ → ℕ) (f : ℕ) where
  pub building_none : (v w : Row) → ((j : ℕ) → v j ≡ false) → ((j : ℕ) → w j ≡ differ (v j) (eqb j f)) → Building n R c f w 0
  building_none v w clear turn = record { each = λ j. turn j ∙ ap (λ b. differ b (eqb j f)) (clear j) ∙ sym (differ_false (eqb j f)) }

  module _ (v : Row) (i : ℕ) (so_far : Building n R c f v i) where
    more : (w : Row) → ((j : ℕ) → w j ≡ differ (v j) (puts n R c f j i)) → Building n R c f w (i + 1)
    more w h = record {
      each = λ j.
          h j ∙ ap (λ b. differ b (puts n R c f j i)) (so_far.each j)
          ∙ regroup (only f j) (parity (puts n R c f j) i) (puts n R c f j i)
          ∙ ap (λ m. differ (only f j) (parity (puts n R c f j) m)) (sym (add-one i));
    }
      where
        regroup : (a b d : Bool) → differ (differ a b) d ≡ differ a (differ d b)
        regroup a b d = grind arith

    off : ((j : ℕ) → puts n R c f j i ≡ false) → Building n R c f v (i + 1)
    off h = more v (λ j. sym (differ_false (v j)) ∙ ap (λ b. differ (v j) b) (sym (h j)))

    pub building_on : (w : Row) → c i < n → true ≡ R i f → ((j : ℕ) → w j ≡ differ (v j) (eqb j (c i))) → Building n R c f w (i + 1)
    building_on w l t h = more w (λ j. h j ∙ ap₂ (λ a b. differ (v j) ((a && b) && eqb j (c i))) (sym (lt-ltb (c i) n l)) t)

    pub building_off : false ≡ R i f → Building n R c f v (i + 1)
    building_off t = off (λ j. ap (λ b. (ltb (c i) n && b) && eqb j (c i)) (sym t) ∙ ap (λ b. b && eqb j (c i)) (and_false (ltb (c i) n)))

    pub building_past : n ≤ c i → Building n R c f v (i + 1)
    building_past g = off (λ j. ap (λ b. (b && R i f) && eqb j (c i)) (le-ltb (c i) n g))

  not_here : (j i : ℕ) → j ≢ c i → puts n R c f j i ≡ false
  not_here j i ne = ap (λ b. (ltb (c i) n && R i f) && b) (ne_eqb j (c i) ne) ∙ and_false (ltb (c i) n && R i f)

  no_pivot : (j i : ℕ) → n ≤ c i → puts n R c f j i ≡ false
  no_pivot j i g = ap (λ b. (b && R i f) && eqb j (c i)) (le-ltb (c i) n g)

  pub building_end : (v : Row) → f < n → Building n R c f v n → QuietSet n R c f v
  building_end v fn all = record { vector = λ p fr. record { pivot = at_pivot p fr; free = at_free }; within = past }
    where
      past : (j : ℕ) → n ≤ j → v j ≡ false
      past j g = all.each j ∙ ap₂ (λ a b. differ a b) (ne_eqb j f (omega arith)) (parity_none (puts n R c f j) n (λ i l. elim (cases_lt (c i) n) [
        | inl k ↦ not_here j i (omega arith)
        | inr k ↦ no_pivot j i k
      ]))

      at_free : (j : ℕ) → j < n → Free n c j → v j ≡ only f j
      at_free j l fr = all.each j ∙ ap (λ b. differ (only f j) b) (parity_none (puts n R c f j) n (λ i l. not_here j i (λ e. fr i l (sym e)))) ∙ differ_false (only f j)

      at_pivot : Pivots n R c → Free n c f → (i : ℕ) → i < n → c i < n → v (c i) ≡ R i f
      at_pivot p fr i l k =
          all.each (c i)
          ∙ ap₂ (λ a b. differ a b) (ne_eqb (c i) f (fr i l)) (parity_alone (puts n R c f (c i)) n i l others)
          ∙ ap₂ (λ a b. (a && R i f) && b) (lt-ltb (c i) n k) (eq-eqb (c i) (c i) refl)
          ∙ and-true (R i f)
        where
          others : (i' : ℕ) → i' < n → i' ≢ i → puts n R c f (c i) i' ≡ false
          others i' l' ne = not_here (c i) i' (λ e. ne (sym (pivots_apart n R c p i i' l l' k e)))

-- ---- the sets, one after the other

-- a row is lent, of w words, which are `width`
pub lent_long : (width w k : ℕ) (sets : List ℕ) → w ≡ width → k * width + width ≤ length sets → length (take (k * w + w - k * w) (drop (k * w) sets)) ≡ width
lent_long width w k sets e fits = subst (λ x. length (take (k * x + x - k * x) (drop (k * x) sets)) ≡ width) (sym e) (simp (length-take, length-drop) (omega arith))

-- and it holds ys afterwards
pub set_put : (P : ℕ → Row → Type 0) (f width w k : ℕ) (sets ys : List ℕ) → w ≡ width → k * width + width ≤ length sets → length ys ≡ width → P f (bit_of ys)
    → SetPut P f width sets (put_mid (k * w) (k * w + w - k * w) sets ys) k
set_put P f width w k sets ys e fits long p = subst (λ x. SetPut P f width sets (put_mid (k * x) (k * x + x - k * x) sets ys) k) (sym e) (record {
  row = subst (λ ws. P f (bit_of ws)) (sym (row_written sets ys width k fits long)) p;
  rest = row_around sets ys width k fits long;
})

module _ (g : ℕ → Bool) (P : ℕ → Row → Type 0) where
  none_below : (S : Rows) (k : ℕ) → k ≡ 0 → Collected g P 0 k S
  none_below S k e = record { many = e; sets = λ f l. absurd (omega arith) }

  pub collected_none : (S : Rows) → Collected g P 0 0 S
  collected_none S = none_below S 0 refl

  module _ (S S' : Rows) (f k : ℕ) (so_far : Collected g P f k S) where
    on_step : (k' : ℕ) → k' ≡ suc k → g f ≡ true → (k < 16 → P f (S' k)) → ((b : ℕ) → b ≢ k → (v : ℕ) → P v (S b) → P v (S' b)) → Collected g P (suc f) k' S'
    on_step k' e t put keep = record {
      many = let a = rank_on g f t in omega (arith, so_far.many);
      sets = λ v l on small. elim (cases_eq v f) [
        | inl q ↦
            let r : tally g v ≡ k = ap (λ x. tally g x) q ∙ sym so_far.many in
            subst (λ b. P v (S' b)) (sym r) (subst (λ x. P x (S' k)) (sym q) (put (omega arith)))
        | inr ne ↦ keep (tally g v) (λ e. absurd (lower v (omega arith) on e)) v (so_far.sets v (omega arith) on small)
      ];
    }
      where
        lower : (v : ℕ) → v < f → g v ≡ true → tally g v ≡ k → ⊥
        lower v l on e = omega (arith, so_far.many, rank_below g f v l on)

    on_next : g f ≡ true → (k < 16 → P f (S' k)) → ((b : ℕ) → b ≢ k → (v : ℕ) → P v (S b) → P v (S' b)) → Collected g P (f + 1) (k + 1) S'
    on_next t put keep = subst (λ m. Collected g P m (k + 1) S') (sym (add-one f)) (on_step (k + 1) (add-one k) t put keep)

  pub collected_past : (S : Rows) (f k : ℕ) → Collected g P f k S → g f ≡ true → 16 ≤ k → Collected g P (f + 1) (k + 1) S
  collected_past S f k h t g = on_next S S f k h t (λ l. absurd (omega arith)) (λ b ne v q. q)

  pub collected_put : (width : ℕ) (old new : List ℕ) (f k : ℕ) → Collected g P f k (cell old width) → g f ≡ true → SetPut P f width old new k
      → Collected g P (f + 1) (k + 1) (cell new width)
  collected_put width old new f k h t put = on_next (cell old width) (cell new width) f k h t (λ l. put.row)
      (λ b ne v q. subst (λ ws. P v (bit_of ws)) (sym (other_rows put.rest b ne)) q)

  module _ (S : Rows) (f k : ℕ) (so_far : Collected g P f k S) where
    off_step : g f ≡ false → Collected g P (suc f) k S
    off_step t = record {
      many = let a = rank_off g f t in omega (arith, so_far.many);
      sets = λ v l on small. elim (cases_eq v f) [
        | inl q ↦ absurd (false≢true (sym t ∙ ap g (sym q) ∙ on))
        | inr ne ↦ so_far.sets v (omega arith) on small
      ];
    }

    pub collected_off : g f ≡ false → Collected g P (f + 1) k S
    collected_off t = subst (λ m. Collected g P m k S) (sym (add-one f)) (off_step t)

-- each row that counts is what the call for it left
pub collected_by : (g : ℕ → Bool) (P : ℕ → Row → Type 0) (width : ℕ) (call : ℕ → MutBor (List ℕ) → MutBor (List ℕ) → Type 0) (n k : ℕ) (S : Rows)
    → ((i : ℕ) (before after : MutBor (List ℕ)) → i < n → length before.now ≡ width → call i before after → P i (bit_of after.now))
    → Collected g (Written width call) n k S → Collected g P n k S
collected_by g P width call n k S said col = record {
  many = col.many;
  sets = λ i l on small. let w = col.sets i l on small in subst (P i) (sym w.left) (said i w.before w.after l w.long w.called);
}

pub collected_all : (g : ℕ → Bool) (P : ℕ → Row → Type 0) (m n k : ℕ) (S : Rows) → m ≡ n → Collected g P m k S → Collected g P n k S
collected_all g P m n k S e col = subst (λ i. Collected g P i k S) e col
