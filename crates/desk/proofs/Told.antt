-- What is read off the steps, once they are those of the wires. Assumes nothing.
use Rattle.std.proofs.Common.{◌≡◌, ℕ, ◌+◌, ◌<◌, ◌≤◌, true, false, ◌⊎◌, List, [], sym, refl, ap, ◌∙◌, subst, inl, inr, add-one, arith}
use mathlib.Core.Path.{fun_ext}
use Rattle.std.proofs.lemmas.Bool.{cases_Bool, cases_lt}
use Rattle.gf2.specs.Rows.{Row, Same, dot, act}
use Rattle.gf2.specs.Reduction.{LeftQuiet, Tracks, Pivots}
use Rattle.gf2.proofs.Update.{tracks_same}
use Rattle.gf2.proofs.Alternative.{never_both}
use Rattle.lamps.specs.Lamps.{Lamps, Wire, at, listed, table, puts_out, quiet}
use Rattle.lamps.specs.Calls.{Board, Call, Answer, out, ways, fewest, some_way, never, number, count_on, power, changed, turned, MaySay}
use Rattle.lamps.specs.Promise.{Memory}
use Rattle.lamps.proofs.Wires.{changes_sym}
use Rattle.lamps.proofs.Tables.{puts_table}
use Rattle.lamps.proofs.Answered.{says_fewest, says_some_way, says_never, says_ways, says_no_way, quiet_counted}
use Rattle.bits.specs.Bits.{bit_of}
use Rattle.matrix.specs.Cells.{width_of, cell, Spare}
use Rattle.echelon.specs.Steps.{column_of}
use Rattle.update.specs.Said.{Refreshes}
use Rattle.solve.specs.Solved.{Within, Shows, Solved, Tells, Counts}
use Rattle.solve.proofs.Boards.{lit_within, rows_count}
use Rattle.fewest.specs.Sets.{free, FewestWay, FewestNever}
use Rattle.fewest.proofs.Columns.{free_marks}
use Rattle.desk.specs.Holding.{lent, Holds, Performs}
use Rattle.desk.proofs.Taken.{performs_taken}

-- where no row is marked; the memory was m₀ before its steps were made those of the wires
module _ (m₀ : Memory) (n : ℕ) (ws rs ts cs ls ms : List ℕ) (b : Board) (h₀ : Holds m₀ b) (h : Holds (lent n ws rs ts cs ls ms) b) (clear : (j : ℕ) → bit_of ms j ≡ false) where
  abbrev vs : List Wire
  vs = b.wires_there

  -- the steps are those of the board's table
  pub tracks : Tracks n (table vs) (cell rs (width_of n)) (cell ts (width_of n))
  tracks = tracks_same n (cell ws (width_of n)) (table vs) (cell rs (width_of n)) (cell ts (width_of n))
      (λ i l j k. h.wires.each i j l k ∙ changes_sym vs i j)
      (tracks_same n h.steps.system (cell ws (width_of n)) (cell rs (width_of n)) (cell ts (width_of n)) (λ i l j k. h.steps.but_marked i l (clear i) j k) h.steps.tracks)

  pub pivots : Pivots n (cell rs (width_of n)) (column_of cs)
  pivots = h.steps.in_steps

  pub spare : Spare n (cell ts (width_of n))
  spare = h.steps.spare

  pub within : Within n (bit_of ls)
  within = lit_within n b.on (bit_of ls) h.lit.long h.lit.each

  lit_row : bit_of ls ≡ at b.on
  lit_row = fun_ext h.lit.each

  -- asked for what the steps tell, the board stays as it is
  told : (c : Call) (a : Answer) → turned b c ≡ 0 → changed b c ≡ b → MaySay b c a → Performs m₀ (lent n ws rs ts cs ls ms) b c a
  told c a e same says = performs_taken m₀ b c h₀ _ a e says (subst (Holds (lent n ws rs ts cs ls ms)) (sym same) h)

  asks_out : (a : Answer) → MaySay b out a → Performs m₀ (lent n ws rs ts cs ls ms) b out a
  unfolding turned changed
  asks_out a says = told out a refl refl says

  asks_ways : (a : Answer) → MaySay b ways a → Performs m₀ (lent n ws rs ts cs ls ms) b ways a
  unfolding turned changed
  asks_ways a says = told ways a refl refl says

  module _ (old new : List ℕ) where
    solves : Solved n (cell ts (width_of n)) (column_of cs) (bit_of ls) (bit_of old) true → Same n (act n (table vs) (bit_of old)) (at b.on)
    solves found = subst (λ s. Same n (act n (table vs) (bit_of old)) s) lit_row (found.way refl (table vs) (cell rs (width_of n)) tracks h.steps.in_steps)

    module _ (k : ℕ) (found : Solved n (cell ts (width_of n)) (column_of cs) (bit_of ls) (bit_of old) true) (best : FewestWay n (cell rs (width_of n)) (column_of cs) old new k) where
      pub out_fewest : k ≤ 16 → Performs m₀ (lent n ws rs ts cs ls ms) b out (fewest (listed n (bit_of new)))
      out_fewest few =
          let w = best.fewest few found.within (table vs) (cell ts (width_of n)) (at b.on) tracks h.steps.in_steps (solves found) in
          asks_out (fewest (listed n (bit_of new))) (says_fewest b n h.lit.long (bit_of new) w.solves w.fewest)

      pub out_some_way : 16 < k → Performs m₀ (lent n ws rs ts cs ls ms) b out (some_way (listed n (bit_of new)))
      out_some_way above =
          asks_out (some_way (listed n (bit_of new)))
          (says_some_way b n h.lit.long (bit_of new)
          (subst (λ row. Same n (act n (table vs) (bit_of row)) (at b.on)) (sym (best.kept above)) (solves found)) k
          (quiet_counted vs n (cell rs (width_of n)) (cell ts (width_of n)) (column_of cs) tracks h.steps.in_steps (free n (column_of cs)) (free_marks n (column_of cs)) ∙ ap power (sym (best.many h.steps.in_steps)))
          above)

    -- there is no way, and a fewest set shows it
    pub out_never : (k : ℕ) → Solved n (cell ts (width_of n)) (column_of cs) (bit_of ls) (bit_of old) false
        → FewestNever n (cell ts (width_of n)) (column_of cs) (bit_of ls) old new k
        → Performs m₀ (lent n ws rs ts cs ls ms) b out (never (listed n (bit_of new)))
    out_never k found best =
        let shows = found.never refl (table vs) (cell rs (width_of n)) tracks h.steps.in_steps in
        asks_out (never (listed n (bit_of new))) (go shows (cases_lt 16 k))
      where
        many : count_on n [] (quiet vs n) ≡ power k
        many = (rows_count n vs (cell rs (width_of n)) (cell ts (width_of n)) (column_of cs) tracks h.steps.in_steps k best.many).quiet

        odd : (q : Row) → dot n q (bit_of ls) ≡ dot n q (at b.on)
        odd q = ap (λ s. dot n q s) lit_row

        go : Shows n (table vs) (bit_of ls) (bit_of old) → (16 < k) ⊎ (k ≤ 16) → MaySay b out (never (listed n (bit_of new)))
        go shows (inl above) =
            says_never b n h.lit.long (bit_of new)
            (subst (λ row. LeftQuiet n (table vs) (bit_of row)) (sym (best.kept above)) shows.quiet)
            (subst (λ row. dot n (bit_of row) (at b.on) ≡ true) (sym (best.kept above)) (sym (odd (bit_of old)) ∙ shows.odd))
            k many (λ few. absurd (omega arith))
        go shows (inr few) =
            let w = best.fewest few found.within (table vs) (cell rs (width_of n)) tracks h.steps.in_steps shows in
            says_never b n h.lit.long (bit_of new) w.shows.quiet (sym (odd (bit_of new)) ∙ w.shows.odd) k many
            (λ _ r still o. w.fewest r (record { quiet = still; odd = odd r ∙ o }))

  pub ways_some : (p : Row) (k : ℕ) → Tells n vs b.on p true → Counts n vs k
      → Performs m₀ (lent n ws rs ts cs ls ms) b ways (number (k + 1))
  ways_some p k tells counts =
      asks_ways (number (k + 1)) (subst (λ m. MaySay b ways (number m)) (sym (add-one k)) (says_ways b n h.lit.long k (counts.ways b.on _ h.lit.long (tells.way refl))))

  pub ways_none : (q : Row) → Solved n (cell ts (width_of n)) (column_of cs) (bit_of ls) q false
      → Performs m₀ (lent n ws rs ts cs ls ms) b ways (number 0)
  ways_none q found = asks_ways (number 0) (says_no_way b n h.lit.long none)
    where
      none : (p : Lamps) → puts_out vs b.on p ≡ false
      none p = elim (cases_Bool (puts_out vs b.on p)) [
        | inl t ↦
            let shows = found.never refl (table vs) (cell rs (width_of n)) tracks h.steps.in_steps in
            absurd (never_both n (table vs) (at b.on) (at p) q (puts_table vs n b.on p h.lit.long t).1
            (shows.quiet, sym (ap (λ s. dot n q s) lit_row) ∙ shows.odd))
        | inr f ↦ f
      ]

-- made those of the wires, the steps are of the same board
pub renewed_holds : (n : ℕ) (ws rs ts cs ls ms rs' ts' cs' ms' : List ℕ) (b : Board) → Refreshes n (width_of n) ws ms rs ts (column_of cs) rs' ts' (column_of cs')
    → Holds (lent n ws rs ts cs ls ms) b → Holds (lent n ws rs' ts' cs' ls ms') b
renewed_holds n ws rs ts cs ls ms rs' ts' cs' ms' b renewed h =
    let steps = renewed.steps h.steps.system h.steps.but_marked h.steps.tracks h.steps.in_steps in
    record {
      wires = h.wires;
      lit = h.lit;
      steps = record { system = cell ws (width_of n); but_marked = λ i l off j k. refl; tracks = steps.0; in_steps = steps.1; spare = renewed.spare_done h.steps.spare };
    }
