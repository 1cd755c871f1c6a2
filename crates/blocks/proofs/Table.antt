-- The table of all sums of a block's rows, built by doubling: with each row of the block it has as many rows again. Assumes nothing.
use Rattle.std.proofs.Common.{◌≡◌, ℕ, zero, suc, ◌+◌, ◌*◌, ◌%◌, ◌^◌, ◌<◌, ◌≤◌, Bool, true, false, ◌&&◌, ltb, [], ◌∷◌, ◌++◌, length, ◌≢◌, List, sym, refl, ap, ◌∙◌, subst, ap₂, inl, inr, pow-suc, pow_mono, zero-add, add-one, arith}
use Rattle.std.proofs.lemmas.Bool.{cases_eq}
use Rattle.std.proofs.lemmas.Nat.{mul-le}
use Rattle.std.specs.Int.{from_bool}
use Rattle.gf2.specs.Rows.{pick, differ, Row, sum, dot}
use Rattle.gf2.proofs.Parity.{differ_comm}
use Rattle.matrix.specs.Cells.{cell}
use Rattle.matrix.specs.Said.{RowPut, RowAdded}
use Rattle.matrix.proofs.Memory.{other_cells}
use Rattle.blocks.specs.Said.{number, hits, entry_of, Tabled, Doubled}

-- ---- the number of a choice

-- `1 << b`
pub shifted : (b : ℕ) → b ≤ 6 → 1 * 2 ^ b % 18446744073709551616 ≡ 2 ^ b
shifted b few = let most : 2 ^ b ≤ 2 ^ 6 = pow_mono few in omega arith

pub number_below : (w : Row) (b : ℕ) → number w b < 2 ^ b
number_below w zero = omega arith
number_below w (suc b) = go (w b) (number_below w b)
  where
    go : (x : Bool) → number w b < 2 ^ b → pick x (2 ^ b) 0 + number w b < 2 ^ suc b
    go true h = let e = pow-suc 2 b in omega arith
    go false h = let e = pow-suc 2 b in omega arith

-- a digit is put below the others
number_below_others : (w : Row) (m : ℕ) → number w (suc m) ≡ number (λ k. w (suc k)) m * 2 + from_bool (w 0)
number_below_others w zero = go (w 0)
  where
    go : (x : Bool) → pick x 1 0 + 0 ≡ 0 * 2 + from_bool x
    go true = refl
    go false = refl
number_below_others w (suc m) = go (w (suc m)) (number_below_others w m)
  where
    go : (x : Bool) → number w (suc m) ≡ number (λ k. w (suc k)) m * 2 + from_bool (w 0)
        → pick x (2 ^ suc m) 0 + number w (suc m) ≡ (pick x (2 ^ m) 0 + number (λ k. w (suc k)) m) * 2 + from_bool (w 0)
    go true h = let e = pow-suc 2 m in omega arith
    go false h = omega arith

pub entry_more : (n width : ℕ) (ws : List ℕ) (i column : ℕ) (columns : List ℕ)
    → entry_of n width ws (column ∷ columns) i ≡ entry_of n width ws columns i * 2 + from_bool (ltb column n && cell ws width i column)
entry_more n width ws i column columns = number_below_others (hits n width ws (column ∷ columns) i) (length columns)

pub digit_small : (x : Bool) → from_bool x ≤ 1
digit_small true = omega arith
digit_small false = omega arith

-- all columns have been read
pub none_left : (rest read columns : List ℕ) → length rest ≡ 0 → rest ++ read ≡ columns → read ≡ columns
none_left [] read columns l e = e
none_left (x ∷ rest) read columns l e = absurd (omega arith)

-- a table has room for the sums of six rows of sixteen words
pub table_long : (count width : ℕ) → count ≤ 6 → width ≤ 16 → 2 ^ count * width ≤ 1024
table_long count width few narrow = omega (arith, mul-le (2 ^ count) width 64 16 (pow_mono few) narrow)

-- ---- twice as many rows

-- a row is written over row `to`, and then row `from` is added to it
pub put_sum : (old mid new : List ℕ) (width to from : ℕ) (row : Row) → from ≢ to → RowPut old mid width to row → RowAdded mid new width to from
    → RowPut old new width to (sum (cell old width from) row)
put_sum old mid new width to from row ne put add = record {
  here = λ j. add.here j ∙ ap₂ (λ x y. differ x y) (put.here j) (other_cells put.rest from ne j) ∙ differ_comm (row j) (cell old width from j);
  rest = record { before = add.rest.before ∙ put.rest.before; after = add.rest.after ∙ put.rest.after };
}

pub doubled_more : (old mid new : List ℕ) (width size m : ℕ) (row : Row) → m < size → Doubled old mid width size m row
    → RowPut mid new width (size + m) (sum (cell mid width m) row) → Doubled old new width size (m + 1) row
doubled_more old mid new width size m row l so_far put = record {
  added = λ e k j. elim (cases_eq e m) [
    | inl q ↦ subst (λ z. cell new width (size + z) j ≡ differ (cell old width z j) (row j)) (sym q)
        (put.here j ∙ ap (λ x. differ x (row j)) (so_far.others m (inl l) j))
    | inr ne ↦ other_cells put.rest (size + e) (omega arith) j ∙ so_far.added e (omega arith) j
  ];
  others = λ i o j. other_cells put.rest i (elim o [ inl k ↦ (omega arith) | inr k ↦ (omega arith) ]) j
      ∙ so_far.others i (elim o [ inl k ↦ inl k | inr k ↦ inr (omega arith) ]) j;
}

-- ---- all sums of the block's rows

pub tabled_more : (table table' memory : List ℕ) (width first b size : ℕ) → size ≡ 2 ^ b → Tabled table memory width first b
    → Doubled table table' width size size (cell memory width (first + b)) → Tabled table' memory width first (b + 1)
tabled_more table table' memory width first b size is so_far d = record {
  chosen = λ w j. subst (λ z. cell table' width (number w z) j ≡ dot z w (λ a. cell memory width (first + a) j)) (sym (add-one b)) (go w j (w b));
}
  where
    go : (w : Row) (j : ℕ) (x : Bool) → cell table' width (pick x (2 ^ b) 0 + number w b) j ≡ differ (x && cell memory width (first + b) j) (dot b w (λ a. cell memory width (first + a) j))
    go w j true =
        let below = number_below w b in
        ap (λ z. cell table' width (z + number w b) j) (sym is)
        ∙ d.added (number w b) (omega arith) j
        ∙ ap (λ x. differ x (cell memory width (first + b) j)) (so_far.chosen w j)
        ∙ differ_comm (dot b w (λ a. cell memory width (first + a) j)) (cell memory width (first + b) j)
    go w j false =
        let below = number_below w b in
        ap (λ z. cell table' width z j) (zero-add (number w b))
        ∙ d.others (number w b) (inl (omega arith)) j
        ∙ so_far.chosen w j

-- the choice of no row
pub tabled_nothing : (table memory : List ℕ) (width first count : ℕ) → Tabled table memory width first count → (j : ℕ) → cell table width 0 j ≡ false
tabled_nothing table memory width first count t j =
    ap (λ z. cell table width z j) (sym (none count)) ∙ t.chosen (λ _. false) j ∙ off count
  where
    none : (b : ℕ) → number (λ _. false) b ≡ 0
    none zero = refl
    none (suc b) = zero-add (number (λ _. false) b) ∙ none b

    off : (b : ℕ) → dot b (λ _. false) (λ a. cell memory width (first + a) j) ≡ false
    off zero = refl
    off (suc b) = off b
