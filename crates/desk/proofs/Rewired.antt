-- A wire that comes or goes changes two rows, and the steps are those of the new rows. Assumes nothing.
use Rattle.std.proofs.Common.{◌≡◌, ℕ, Bool, false, ◌&&◌, ◌||◌, eqb, ◌≢◌, List, sym, ap, ◌∙◌, inl, inr, arith}
use Rattle.std.proofs.lemmas.Bool.{cases_eq, ne_eqb, eq-eqb}
use Rattle.gf2.specs.Rows.{pick, differ, Rows}
use Rattle.gf2.specs.Reduction.{put_row}
use Rattle.gf2.proofs.Parity.{differ_false}
use Rattle.gf2.proofs.Update.{put_row_puts, tracks_same}
use Rattle.gf2.proofs.Whole.{row_replaced}
use Rattle.lamps.specs.Lamps.{Wire, table}
use Rattle.lamps.specs.Calls.{rewired}
use Rattle.lamps.proofs.Wires.{table_rewired}
use Rattle.desk.specs.Rewired.{TwoRowsChange}

off : (a b c d : Bool) → a ≡ false → d ≡ false → ((a && b) || (c && d)) ≡ false
off a b c d e f = grind arith

-- the new table; the old one with row i replaced; and with row j too
abbrev new : List Wire → ℕ → ℕ → Rows
new ws i j = table (rewired ws i j)

abbrev mid : List Wire → ℕ → ℕ → Rows
mid ws i j = put_row (table ws) i (new ws i j i)

abbrev last : List Wire → ℕ → ℕ → Rows
last ws i j = put_row (mid ws i j) j (new ws i j j)

module _ (ws : List Wire) (i j : ℕ) (ne : i ≢ j) where
  others : (x : ℕ) → x ≢ i → x ≢ j → (y : ℕ) → new ws i j x y ≡ table ws x y
  others x a b y =
      table_rewired ws i j x y ne
      ∙ ap (differ (table ws x y)) (off (eqb i x) (eqb j y) (eqb i y) (eqb j x) (ne_eqb i x (λ e. a (sym e))) (ne_eqb j x (λ e. b (sym e))))
      ∙ differ_false (table ws x y)

  same : (x y : ℕ) → last ws i j x y ≡ new ws i j x y
  same x y = elim (cases_eq x j) [
    | inl e ↦ ap (λ t. pick t (new ws i j j y) (mid ws i j x y)) (eq-eqb x j e) ∙ ap (λ z. new ws i j z y) (sym e)
    | inr u ↦ ap (λ t. pick t (new ws i j j y) (mid ws i j x y)) (ne_eqb x j u) ∙ elim (cases_eq x i) [
      | inl e ↦ ap (λ t. pick t (new ws i j i y) (table ws x y)) (eq-eqb x i e) ∙ ap (λ z. new ws i j z y) (sym e)
      | inr v ↦ ap (λ t. pick t (new ws i j i y) (table ws x y)) (ne_eqb x i v) ∙ sym (others x v u y)
    ]
  ]

pub two_rows_change : TwoRowsChange
two_rows_change n ws i j R T c l k ne tr pv =
    let first = row_replaced n (table ws) (mid ws i j) R T c i (new ws i j i) l (put_row_puts n (table ws) i (new ws i j i)) tr pv in
    let second = row_replaced n (mid ws i j) (last ws i j) first.R₃ first.T₃ first.c₃ j (new ws i j j) k (put_row_puts n (mid ws i j) j (new ws i j j)) first.tracks first.pivots in
    record {
      others = others ws i j ne;
      first = first;
      second = second;
      tracks = tracks_same n (last ws i j) (new ws i j) second.R₃ second.T₃ (λ x _ y _. same ws i j ne x y) second.tracks;
      in_steps = second.pivots;
    }
