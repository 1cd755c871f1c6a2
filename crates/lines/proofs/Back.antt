-- What is printed is read as what it was. Assumes nothing.
use Rattle.std.proofs.Common.{◌≡◌, ℕ, zero, suc, ◌+◌, ◌-◌, ◌*◌, ◌/◌, ◌%◌, ◌^◌, ◌<◌, ◌≤◌, Bool, true, false, eqb, List, [], ◌∷◌, ◌++◌, length, get_or, Ok, codes, decimal, sym, refl, ap, ◌∙◌, ap₂, add-zero, add_assoc, add-one, arith}
use mathlib.Core.Path.{fun_ext}
use Rattle.std.proofs.lemmas.Fmt.{decimal_by_steps}
use Rattle.std.proofs.lemmas.List.{append_assoc, append-nil, get_or_append_left, length_push}
use Rattle.std.proofs.lemmas.Bool.Decides.{nat_tests}
use Rattle.gf2.specs.Rows.{pick}
use Rattle.lamps.specs.Lamps.{listed}
use Rattle.bits.specs.Bits.{bit}
use Rattle.bits.proofs.Words.{bit_zero, bit_suc, half_below}
use Rattle.lines.specs.Readers.{Reader, ends, word, digit, longer, goes_on, digits, number, binary, bits, further}
use Rattle.lines.specs.Lines.{silent, alone, one, two, set, line_of, claim_of, serves}
use Rattle.lines.specs.Printed.{shown, set_in, printed, printed_claim}
use Rattle.lines.specs.Laws.{Fits, ClaimFits}
use Rattle.calls.specs.declared.Call.TheVariants as calls
use Rattle.lines.specs.declared.Line.{Line}
use Rattle.lines.specs.declared.Line.TheVariants as line
use Rattle.lines.specs.declared.Claim.{Claim}
use Rattle.lines.specs.declared.Claim.TheVariants as claim
use Rattle.lines.proofs.Forms.{either_way}
use Rattle.lines.proofs.Sound.{says_first}

module _ {X : Type 0} (K : ℕ → Reader X) where
  -- the digits ds, read from nothing, are n
  Reads : ℕ → List ℕ → Type 0
  Reads n ds = (n < 65536) → (digit (get_or ds 0 0) ≡ true) × (0 < length ds) × ((p : ℕ) (bs : List ℕ) → digits K 0 p (ds ++ bs) ≡ digits K n (p + length ds) bs)

  digit_step : (v d n p : ℕ) (bs : List ℕ) → d < 10 → 10 * v + d ≡ n → n < 65536 → digits K v p ((48 + d) ∷ bs) ≡ digits K n (p + 1) bs
  unfolding digits
  digit_step v d n p bs l e h =
      let on : goes_on v (48 + d) ≡ true = grind (arith, nat_tests) in
      let value : longer v (48 + d) ≡ n = omega arith in rw (on, value, add-one p)

  one_digit : (n : ℕ) → n < 10 → Reads n ((48 + n) ∷ [])
  unfolding Reads
  one_digit n h small = (grind (arith, nat_tests), omega arith, λ p bs. digit_step 0 n n p bs h (omega arith) small)

  one_more : (n : ℕ) (ds : List ℕ) → 10 ≤ n → Reads (n / 10) ds → Reads n (ds ++ ((48 + n % 10) ∷ []))
  unfolding Reads
  one_more n ds h ih small =
      let (first, some, rest) = ih (omega arith) in (
        rw (get_or_append_left ds _ 0 0 some) first,
        rw length_push (omega arith),
        λ p bs. rw (append_assoc, length_push, ← add_assoc p (length ds) 1) (rest p ((48 + n % 10) ∷ bs) ∙ digit_step (n / 10) (n % 10) n (p + length ds) bs (omega arith) (omega arith) small),
      )

  reads : (n : ℕ) → n < 65536 → Reads n (decimal n)
  reads n h = decimal_by_steps Reads one_digit one_more n (omega arith)

  pub number_reads : (n p : ℕ) (bs : List ℕ) → n < 65536 → number K p (decimal n ++ bs) ≡ digits K n (p + length (decimal n)) bs
  unfolding Reads number
  number_reads n p bs h = let (first, some, rest) = reads n h h in rw (get_or_append_left (decimal n) bs 0 0 some, first) (rest p bs)

-- a set of lamps, digit by digit
shown_binary : (l : Bool) → binary (pick l 49 48) ≡ true
shown_binary true = refl
shown_binary false = refl

shown_low : (r : ℕ) → r < 2 → pick (eqb r 1) 49 48 - 48 ≡ r
shown_low zero h = refl
shown_low (suc zero) h = refl
shown_low (suc (suc r)) h = absurd (omega arith)

pub bits_reads : {X : Type 0} (n : ℕ) (K : ℕ → Reader X) (w p : ℕ) (bs : List ℕ) → w < 2 ^ n → bits n K p (shown (set_in n w) ++ bs) ≡ K w (p + n) bs
unfolding bits shown listed
bits_reads zero K w p bs h = let none : w ≡ 0 = omega arith in rw (none, add-zero p)
bits_reads (suc n) K w p bs h =
    let low : pick (bit w 0) 49 48 - 48 ≡ w % 2 = ap (λ l. pick l 49 48 - 48) (bit_zero w) ∙ shown_low (w % 2) (omega arith) in
    rw (shown_binary (bit w 0), ap (listed n) (fun_ext (bit_suc w)))
    (bits_reads n (λ v. K ((pick (bit w 0) 49 48 - 48) + 2 * v)) (w / 2) (suc p) bs (half_below w n h) ∙ ap₂ (λ v q. K v q bs) (omega arith) (omega arith))

-- the last number of a line, and two numbers
one_reads : {X : Type 0} (f : ℕ → X) (n p : ℕ) → n < 65536 → number (λ v. ends (f v)) p (decimal n) ≡ Ok (f n)
unfolding digits ends
one_reads f n p h = ap (number (λ v. ends (f v)) p) (sym (append-nil (decimal n))) ∙ number_reads (λ v. ends (f v)) n p [] h

two_reads : {X : Type 0} (f : ℕ → ℕ → X) (i j p : ℕ) → i < 65536 → j < 65536 → number (λ v. word (codes " ") (number (λ w. ends (f v w)))) p (decimal i ++ (codes " " ++ decimal j)) ≡ Ok (f i j)
unfolding digits word
two_reads f i j p g h = number_reads (λ v. word (codes " ") (number (λ w. ends (f v w)))) i p (codes " " ++ decimal j) g ∙ one_reads (f i) j _ h

set_reads : {X : Type 0} (n : ℕ) (f : ℕ → X) (w p : ℕ) → w < 2 ^ n → bits n (λ v. ends (f v)) p (shown (set_in n w)) ≡ Ok (f w)
unfolding ends
set_reads n f w p h = ap (bits n (λ v. ends (f v)) p) (sym (append-nil (shown (set_in n w)))) ∙ bits_reads n (λ v. ends (f v)) w p [] h

-- whole lines
pub line_back : (l : Line) → Fits l → line_of (printed l) ≡ Ok l
unfolding line_of silent alone one two ends word further
line_back (line.Lamps n) h = rw (says_first 108, one_reads line.Lamps n 6 h)
line_back (line.Grid i j) h = rw (says_first 103, two_reads line.Grid i j 5 h.0 h.1)
line_back (line.Call (calls.Wire i j)) h = rw (says_first 119, two_reads (λ i j. line.Call (calls.Wire i j)) i j 5 h.0 h.1)
line_back (line.Call (calls.Turn n)) h = rw (says_first 116, one_reads (λ i. line.Call (calls.Turn i)) n 5 h)
line_back (line.Call (calls.Press n)) h = rw (says_first 112, one_reads (λ i. line.Call (calls.Press i)) n 6 h)
line_back (line.Call calls.Lit) h = refl
line_back (line.Call calls.Out) h = refl
line_back (line.Call calls.Ways) h = refl
line_back line.Nothing h = refl

pub claim_back : (n : ℕ) (c : Claim) → ClaimFits n c → claim_of n (printed_claim n c) ≡ Ok c
unfolding claim_of silent alone one two set ends word further
claim_back n (claim.Lamps m) h = rw (says_first 108, one_reads claim.Lamps m 6 h) (sym (either_way (serves n) _))
claim_back n (claim.Wire i j) h = rw (says_first 119, two_reads claim.Wire i j 5 h.0 h.1) (sym (either_way (serves n) _))
claim_back n (claim.Turn i) h = rw (says_first 116, one_reads claim.Turn i 5 h) (sym (either_way (serves n) _))
claim_back n (claim.Press p) h = rw (h.0, says_first 112, set_reads n claim.Press p 6 h.1)
claim_back n (claim.Never q) h = rw (h.0, says_first 110, set_reads n claim.Never q 10 h.1)
claim_back n claim.Nothing h = sym (either_way (serves n) _)
