-- What is read off rows in steps. Assumes nothing.
use Rattle.std.proofs.Common.{◌≡◌, ℕ, ◌+◌, ◌<◌, leb, Decides, sym, ap, ◌∙◌, inl, inr, add-one}
use mathlib.Core.Bool.{false≢true}
use Rattle.std.proofs.lemmas.Bool.{cases_lt, cases_Bool, le-leb, lt-leb}
use Rattle.gf2.specs.Rows.{Row, Rows, Same, nowhere, one, tally}
use Rattle.gf2.specs.Reduction.{Pivots}
use Rattle.gf2.proofs.Tally.{tally_cong}
use Rattle.gf2.proofs.Tracks.{quiet_down, quiet_up}
use Rattle.gf2.proofs.Count.{as_many_free}
use Rattle.echelon.specs.Laws.{SameQuiet, ZeroRows}

pub same_quiet : SameQuiet
same_quiet n A R T c s x = (quiet_down n A R T s.tracks x, quiet_up n A R T s.tracks x)

-- a row is zero if it has no pivot
pivotless : (n : ℕ) (R : Rows) (c : ℕ → ℕ) (off : Row) → Pivots n R c → ((i : ℕ) → i < n → Decides (off i) (Same n (R i) nowhere)) → Same n (λ i. leb n (c i)) off
pivotless n R c off v d i l = elim (cases_lt (c i) n) [
  | inl p ↦ lt-leb n (c i) p ∙ sym (elim (cases_Bool (off i)) [
    | inl t ↦ absurd (false≢true (sym ((d i l).0 t (c i) p) ∙ v.on i l p))
    | inr f ↦ f
  ])
  | inr g ↦ le-leb n (c i) g ∙ sym ((d i l).1 (v.none i l g))
]

pub zero_rows : (n : ℕ) (c : ℕ → ℕ) (k : ℕ) → k ≡ tally (λ i. leb n (c i)) n → ZeroRows n c k
zero_rows n c k is = record {
  counted = is;
  zero = λ R off v d. is ∙ tally_cong (λ i. leb n (c i)) off n (pivotless n R c off v d);
  free = λ R free v m. is ∙ as_many_free n R c free v m;
}

-- one row more is counted
pub tally_more : (f : Row) (i : ℕ) → tally f (i + 1) ≡ one (f i) + tally f i
tally_more f i = ap (tally f) (add-one i)
