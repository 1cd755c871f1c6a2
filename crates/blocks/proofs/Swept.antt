-- The block's pivots are cleared from each other row by one row of the table. Assumes nothing.
use Rattle.std.proofs.Common.{◌≡◌, ℕ, ◌+◌, ◌*◌, ◌^◌, ◌<◌, ◌≤◌, false, ◌&&◌, ltb, ◌⊎◌, List, [], ◌++◌, length, length-append, sym, refl, ap, ◌∙◌, subst, inl, inr, arith, pow_mono}
use mathlib.Core.Path.{fun_ext}
use Rattle.std.proofs.lemmas.Bool.{cases_eq}
use Rattle.std.proofs.lemmas.Nat.{mul-le}
use Rattle.gf2.specs.Rows.{differ, Rows, sum, dot}
use Rattle.gf2.specs.Blocks.{Sweeps}
use Rattle.gf2.proofs.Parity.{differ_false}
use Rattle.gf2.proofs.Rows.{dot_none}
use Rattle.gf2.proofs.Blocks.{place, tracks_sweep}
use Rattle.matrix.specs.Cells.{cell, Spare}
use Rattle.matrix.specs.Said.{RowPut}
use Rattle.matrix.proofs.Memory.{other_cells}
use Rattle.echelon.specs.Steps.{column_of, Kept}
use Rattle.blocks.specs.Said.{number, hits, entry_of, Tabled, Swept}
use Rattle.blocks.proofs.Table.{number_below, tabled_nothing}

-- ---- one turn of the loop over the rows

-- a block has at most six rows, and its table at most sixty-four
pub read_below : (n width : ℕ) (ws rest read columns : List ℕ) (i : ℕ) → length columns ≤ 6 → rest ++ read ≡ columns → entry_of n width ws read i < 64
read_below n width ws rest read columns i few all =
    let below = number_below (hits n width ws read i) (length read) in
    let long = simp length-append at (ap length all) in
    let most : 2 ^ length read ≤ 2 ^ 6 = pow_mono {i = length read} {j = 6} (omega (arith, long)) in
    omega arith

-- and so the row that is asked for is within the table
pub entry_row : (n width : ℕ) (ws columns : List ℕ) (i e : ℕ) → length columns ≤ 6 → e ≡ entry_of n width ws columns i → width ≤ 16 → e * width + width ≤ 1024
entry_row n width ws columns i e few is narrow =
    let below = read_below n width ws [] columns columns i few refl in
    let most = mul-le (e + 1) width 64 16 (omega (arith, is)) narrow in
    omega arith

-- what a row asks for depends on the row alone
pub same_entry : (n width : ℕ) (ws ws' columns : List ℕ) (i : ℕ) → ((j : ℕ) → cell ws' width i j ≡ cell ws width i j)
    → entry_of n width ws' columns i ≡ entry_of n width ws columns i
same_entry n width ws ws' columns i same =
    ap (λ w. number w (length columns)) (fun_ext (λ b. ap (λ x. ltb (column_of columns b) n && x) (same (column_of columns b))))

module _ (width : ℕ) (old mid table : List ℕ) (e : ℕ → ℕ) (low m : ℕ) (g : low ≤ m) (so_far : Swept width old mid table e low m) where
  earlier : (i : ℕ) → (i < low) ⊎ (m + 1 ≤ i) → (i < low) ⊎ (m ≤ i)
  earlier i o = elim o [ inl l ↦ inl l | inr h ↦ inr (omega arith) ]

  pub swept_same : (j : ℕ) → cell mid width m j ≡ cell old width m j
  swept_same = so_far.others m (inr (omega arith))

  pub swept_skip : e m ≡ 0 → Swept width old mid table e low (m + 1)
  swept_skip none = record {
    added = λ off i h l j. elim (cases_eq i m) [
      | inl q ↦ subst (λ z. cell mid width z j ≡ differ (cell old width z j) (cell table width (e z) j)) (sym q)
          (swept_same j ∙ sym (ap (λ x. differ (cell old width m j) x) (ap (λ z. cell table width z j) none ∙ off j) ∙ differ_false (cell old width m j)))
      | inr ne ↦ so_far.added off i h (omega arith) j
    ];
    others = λ i o. so_far.others i (earlier i o);
  }

  pub swept_add : (new : List ℕ) (r : ℕ) → r ≡ e m → RowPut mid new width m (sum (cell mid width m) (cell table width r)) → Swept width old new table e low (m + 1)
  swept_add new r is put = record {
    added = λ off i h l j. elim (cases_eq i m) [
      | inl q ↦ subst (λ z. cell new width z j ≡ differ (cell old width z j) (cell table width (e z) j)) (sym q)
          (put.here j ∙ ap (λ x. differ x (cell table width r j)) (swept_same j) ∙ ap (λ z. differ (cell old width m j) (cell table width z j)) is)
      | inr ne ↦ other_cells put.rest i ne j ∙ so_far.added off i h (omega arith) j
    ];
    others = λ i o j. other_cells put.rest i (elim o [ inl l ↦ (omega arith) | inr h ↦ (omega arith) ]) j ∙ so_far.others i (earlier i o) j;
  }

-- ---- the rows before the block, and then those after it

pub swept_sweeps : (n width : ℕ) (ws₁ ws₂ ws₃ table : List ℕ) (e₁ e₂ : ℕ → ℕ) (first count : ℕ) (w : Rows) → Tabled table ws₁ width first count
    → Swept width ws₁ ws₂ table e₁ 0 first → Swept width ws₂ ws₃ table e₂ (first + count) n
    → ((i : ℕ) → i < first → e₁ i ≡ number (w i) count) → ((i : ℕ) → first + count ≤ i → e₂ i ≡ number (w i) count)
    → Sweeps n (cell ws₁ width) (cell ws₃ width) first count w
swept_sweeps n width ws₁ ws₂ ws₃ table e₁ e₂ first count w t low high is₁ is₂ = record {
  block = λ b l j. high.others (first + b) (inl (omega arith)) j ∙ low.others (first + b) (inr (omega arith)) j;
  rest = λ i l out j. elim out [
    | inl k ↦ high.others i (inl (omega arith)) j ∙ low.added off i (omega arith) k j ∙ looked_up i (e₁ i) (is₁ i k) j
    | inr k ↦
        high.added off i k l j ∙ ap (λ x. differ x (cell table width (e₂ i) j)) (low.others i (inr (omega arith)) j)
        ∙ looked_up i (e₂ i) (is₂ i k) j
  ];
}
  where
    off : (j : ℕ) → cell table width 0 j ≡ false
    off = tabled_nothing table ws₁ width first count t

    looked_up : (i r : ℕ) → r ≡ number (w i) count → (j : ℕ)
        → differ (cell ws₁ width i j) (cell table width r j) ≡ differ (cell ws₁ width i j) (dot count (w i) (λ b. cell ws₁ width (first + b) j))
    looked_up i r is j = ap (λ x. differ (cell ws₁ width i j) x) (ap (λ z. cell table width z j) is ∙ t.chosen (w i) j)

-- ---- what the rows were made from is kept

spare_sweep : (n : ℕ) (R S : Rows) (first count : ℕ) (w : Rows) → first + count ≤ n → Sweeps n R S first count w → Spare n R → Spare n S
spare_sweep n R S first count w fits s spare i l j g = elim (place first count i) [
  | inl out ↦
      s.rest i l out j ∙ ap (λ x. differ (R i j) x) (dot_none count (w i) (λ b. R (first + b) j) (λ b k. spare (first + b) (omega arith) j g))
      ∙ differ_false (R i j) ∙ spare i l j g
  | inr q ↦ subst (λ z. S z j ≡ false) q.2 (s.block q.0 q.1 j ∙ spare (first + q.0) (omega (arith, q.1)) j g)
]

pub kept_sweep : (n : ℕ) (R T S U : Rows) (first count : ℕ) (w : Rows) → first + count ≤ n → Sweeps n R S first count w → Sweeps n T U first count w → Kept n R T S U
kept_sweep n R T S U first count w fits r t = record {
  tracks = λ A h. tracks_sweep n A R T S U first count w fits r t h;
  spare_rows = spare_sweep n R S first count w fits r;
  spare_done = spare_sweep n T U first count w fits t;
}
