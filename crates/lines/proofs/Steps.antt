-- A reader at a place of a line, one byte on. Assumes nothing.
use Rattle.std.proofs.Common.{◌≡◌, ℕ, zero, suc, ◌+◌, ◌-◌, ◌*◌, ◌^◌, ◌<◌, ◌≤◌, max, Bool, true, false, cond, List, [], ◌∷◌, length, get_or, take, drop, Some, None, Option, Ok, Err, Result, sym, refl, ap, ◌∙◌, inl, inr, add-zero, pow-suc, add-one, arith, pow_mono}
use Rattle.std.proofs.lemmas.List.{at_drop_all, drop_all, drop_more, get_or-drop, get_or_past, length-drop, take_all}
use Rattle.std.proofs.lemmas.Bool.{lt-ltb, le-ltb, ltb-true, and_parts, cases_lt, true≢false}
use Rattle.std.proofs.lemmas.Bool.Decides.{nat_tests}
use Rattle.std.specs.List.{fold}
use Rattle.std.specs.Option.{is_some}
use Rattle.std.specs.Ordering.{ord_max, nat_cmp}
use Rattle.lines.specs.Readers.{Reader, found, has, word, digit, longer, goes_on, next, digits, number, binary, bits, further}

pub never : {X : Type 0} (x : X) (p : ℕ) → Ok x ≡ Err p → ⊥
never x p e = let z : ◌≡◌ {A = ℕ} 0 1 = cc in omega arith

pub has_below : (L : List ℕ) (p b : ℕ) → true ≡ has L p b → p < length L
has_below L p b e = ltb-true _ _ (and_parts _ _ (sym e)).0

module _ {X : Type 0} (ws L : List ℕ) (K : Reader X) (i p : ℕ) (h : i < length ws) where
  word_here : word (drop i ws) K p (drop p L) ≡ cond (has L p (get_or ws i 0)) (word (drop (i + 1) ws) K (p + 1) (drop (p + 1) L)) (Err p)
  unfolding word
  word_here = elim (cases_lt p (length L)) [ inl e ↦ inside e | inr e ↦ outside e ]
    where
      inside : p < length L → word (drop i ws) K p (drop p L) ≡ cond (has L p (get_or ws i 0)) (word (drop (i + 1) ws) K (p + 1) (drop (p + 1) L)) (Err p)
      inside e = rw (drop_more ws i 0 h, drop_more L p 0 e, lt-ltb _ _ e, add-one p)

      outside : length L ≤ p → word (drop i ws) K p (drop p L) ≡ cond (has L p (get_or ws i 0)) (word (drop (i + 1) ws) K (p + 1) (drop (p + 1) L)) (Err p)
      outside e = rw (drop_more ws i 0 h, le-ltb _ _ e) (at_drop_all (word (get_or ws i 0 ∷ drop (i + 1) ws) K p) L p e)

  pub word_next : true ≡ has L p (get_or ws i 0) → word (drop (i + 1) ws) K (p + 1) (drop (p + 1) L) ≡ word (drop i ws) K p (drop p L)
  word_next e = rw (word_here, ← e)

  pub word_stops : false ≡ has L p (get_or ws i 0) → Err p ≡ word (drop i ws) K p (drop p L)
  word_stops e = rw (word_here, ← e)

pub word_done : {X : Type 0} (ws L : List ℕ) (K : Reader X) (i p : ℕ) → length ws ≤ i → K p (drop p L) ≡ word (drop i ws) K p (drop p L)
unfolding word
word_done ws L K i p e = sym (at_drop_all (λ vs. word vs K p (drop p L)) ws i e)

pub digit_below : (L : List ℕ) (p v : ℕ) → true ≡ goes_on v (get_or L p 0) → p < length L
digit_below L p v e = elim (cases_lt p (length L)) [ inl h ↦ h | inr h ↦ absurd (true≢false (e ∙ ap (goes_on v) (get_or_past L p 0 h))) ]

pub first_digit : (b : ℕ) → goes_on 0 b ≡ digit b
first_digit b = grind (arith, nat_tests)

module _ {X : Type 0} (L : List ℕ) (K : ℕ → Reader X) (p : ℕ) where
  number_here : number K p (drop p L) ≡ cond (goes_on 0 (get_or L p 0)) (digits K 0 p (drop p L)) (Err p)
  unfolding number
  number_here = rw (get_or-drop p L 0 0, add-zero p, first_digit (get_or L p 0))

  pub number_next : true ≡ goes_on 0 (get_or L p 0) → digits K 0 p (drop p L) ≡ number K p (drop p L)
  number_next e = rw (number_here, ← e)

  pub number_stops : false ≡ goes_on 0 (get_or L p 0) → Err p ≡ number K p (drop p L)
  number_stops e = rw (number_here, ← e)

  pub digits_next : (v : ℕ) → p < length L → true ≡ goes_on v (get_or L p 0) → digits K (longer v (get_or L p 0)) (p + 1) (drop (p + 1) L) ≡ digits K v p (drop p L)
  unfolding digits
  digits_next v h e = rw (drop_more L p 0 h, ← e, add-one p)

  pub digits_stop : (v : ℕ) → p < length L → false ≡ goes_on v (get_or L p 0) → K v p (drop p L) ≡ digits K v p (drop p L)
  unfolding digits
  digits_stop v h e = rw (drop_more L p 0 h, ← e)

  digits_end : (v : ℕ) → length L ≤ p → K v p (drop p L) ≡ digits K v p (drop p L)
  unfolding digits
  digits_end v h = rw (drop_all p L h)

pub digits_all : (L : List ℕ) (v p : ℕ) → length L ≡ p → Ok (v, length L) ≡ digits found v p (drop p L)
digits_all L v p e = ap (λ q. Ok (v, q)) e ∙ digits_end L found p v (omega arith)

module _ {X : Type 0} (L : List ℕ) (K : ℕ → Reader X) (p n : ℕ) where
  bits_here : bits (suc n) K p (drop p L) ≡ cond (binary (get_or L p 0)) (bits n (λ v. K ((get_or L p 0 - 48) + 2 * v)) (p + 1) (drop (p + 1) L)) (Err p)
  unfolding bits
  bits_here = elim (cases_lt p (length L)) [ inl e ↦ rw (drop_more L p 0 e, add-one p) | inr e ↦ rw (drop_all p L e, get_or_past L p 0 e) ]

  pub bits_next : (m : ℕ) → suc n ≡ m → true ≡ binary (get_or L p 0) → bits n (λ v. K ((get_or L p 0 - 48) + 2 * v)) (p + 1) (drop (p + 1) L) ≡ bits m K p (drop p L)
  bits_next m h e = rw (← h, bits_here, ← e)

  pub bits_stops : (m : ℕ) → suc n ≡ m → false ≡ binary (get_or L p 0) → Err p ≡ bits m K p (drop p L)
  bits_stops m h e = rw (← h, bits_here, ← e)

pub bits_none : {X : Type 0} (L : List ℕ) (K : ℕ → Reader X) (p n : ℕ) → n ≡ 0 → K 0 p (drop p L) ≡ bits n K p (drop p L)
unfolding bits
bits_none L K p n e = rw e

pub binary_small : (b : ℕ) → true ≡ binary b → b < 50
binary_small b e = grind (arith, nat_tests)

-- a set of n lamps is below 2 ^ n
pub bits_small : {X : Type 0} (n : ℕ) (K : ℕ → Reader X) (p : ℕ) (bs : List ℕ) (x : X) → Ok x ≡ bits n K p bs → (v : ℕ) × (v < 2 ^ n) × (q : ℕ) × (cs : List ℕ) × (Ok x ≡ K v q cs)
unfolding bits
bits_small zero K p bs x e = (0, omega arith, p, bs, e)
bits_small (suc n) K p [] x e = absurd (never x p e)
bits_small (suc n) K p (b ∷ bs) x e = go (binary b) refl e (bits_small n (λ v. K ((b - 48) + 2 * v)) (suc p) bs x)
  where
    go : (t : Bool) → binary b ≡ t → Ok x ≡ cond t (bits n (λ v. K ((b - 48) + 2 * v)) (suc p) bs) (Err p)
        → (Ok x ≡ bits n (λ v. K ((b - 48) + 2 * v)) (suc p) bs → (v : ℕ) × (v < 2 ^ n) × (q : ℕ) × (cs : List ℕ) × (Ok x ≡ K ((b - 48) + 2 * v) q cs))
        → (v : ℕ) × (v < 2 ^ suc n) × (q : ℕ) × (cs : List ℕ) × (Ok x ≡ K v q cs)
    go true t h ih =
        let (v, l, q, cs, k) = ih h in
        let low = binary_small b (sym t) in
        let double = pow-suc 2 n in ((b - 48) + 2 * v, omega arith, q, cs, k)
    go false t h ih = absurd (never x p h)

pub found_small : (n p : ℕ) (bs : List ℕ) (v q : ℕ) → n < 64 → Ok (v, q) ≡ bits n found p bs → v < 2 ^ 63
found_small n p bs v q h e =
    let (w, l, r, cs, f) = bits_small n found p bs (v, q) e in
    let same : ◌≡◌ {A = ℕ × ℕ} (v, q) (w, r) = cc in
    let first = ap (λ x. x.0) same in
    let top : 2 ^ n ≤ 2 ^ 63 = pow_mono {i = n} {j = 63} (omega arith) in omega arith

-- the number with one more digit, or none
pub next_is : (v b : ℕ) → goes_on v b ≡ is_some (next v b)
next_is v b = go (goes_on v b)
  where
    go : (t : Bool) → t ≡ is_some (cond t (Some (longer v b)) None)
    go true = refl
    go false = refl

pub first_is : (L : List ℕ) (p b : ℕ) (r : Option ℕ) (t : Bool) → b ≡ get_or L p 0 → r ≡ next 0 b → is_some r ≡ t → t ≡ goes_on 0 (get_or L p 0)
first_is L p b r t e h k = sym k ∙ ap is_some h ∙ sym (next_is 0 b) ∙ ap (goes_on 0) e

next_some : (t : Bool) (v m : ℕ) → cond t (Some v) None ≡ Some m → (true ≡ t) × (m ≡ v)
next_some true v m e = (refl, cc)
next_some false v m e = absurd (cc)

next_none : (t : Bool) (v : ℕ) → cond t (Some v) None ≡ None → false ≡ t
next_none true v e = absurd (cc)
next_none false v e = refl

-- the digits of a number, byte by byte of what the line has from `at` on
abbrev pub from : List ℕ → ℕ → List ℕ
from L at = take (length L - at) (drop at L)

module _ (L : List ℕ) (at i v : ℕ) where
  from_is : from L at ≡ drop at L
  from_is = take_all _ _ (omega (arith, length-drop at L))

  from_long : length (from L at) ≡ length L - at
  from_long = ap length from_is ∙ length-drop at L

  from_at : get_or (from L at) i 0 ≡ get_or L (at + i) 0
  from_at = ap (λ l. get_or l i 0) from_is ∙ get_or-drop at L i 0

  module _ (h : i < length (from L at)) where
    inside : at + i < length L
    inside = omega (arith, from_long)

    pub number_on : (m : ℕ) → next v (get_or (from L at) i 0) ≡ Some m → digits found m (at + (i + 1)) (drop (at + (i + 1)) L) ≡ digits found v (at + i) (drop (at + i) L)
    number_on m e =
        let (on, more) = next_some _ _ m (rw from_at at e) in
        let place : at + (i + 1) ≡ at + i + 1 = omega arith in rw (more, place) (digits_next L found (at + i) v inside on)

    pub number_off : next v (get_or (from L at) i 0) ≡ None → Ok (v, at + i) ≡ digits found v (at + i) (drop (at + i) L)
    number_off e = digits_stop L found (at + i) v inside (next_none _ _ (rw from_at at e))

  pub number_whole : at ≤ length L → i ≤ length (from L at) → length (from L at) ≤ i → Ok (v, length L) ≡ digits found v (at + i) (drop (at + i) L)
  number_whole a b c = digits_all L v (at + i) (omega (arith, from_long))

-- of several readings the one that succeeds, or the one that comes furthest
module _ {X : Type 0} where
  pub read_already : (x : X) (rs : List (Result X ℕ)) → fold further (Ok x) rs ≡ Ok x
  unfolding further
  read_already x [] = refl
  read_already x (r ∷ rs) = read_already x rs

  module _ (rs : List (Result X ℕ)) (i far : ℕ) (r : Result X ℕ) (h : i < length rs) (e : r ≡ get_or rs i r) where
    read_next : fold further (Err far) (drop i rs) ≡ fold further (further (Err far) r) (drop (i + 1) rs)
    read_next = ap (fold further (Err far)) (drop_more rs i r h) ∙ ap (λ q. fold further (further (Err far) q) (drop (i + 1) rs)) (sym e)

    pub read_found : (x : X) → r ≡ Ok x → Ok x ≡ fold further (Err far) (drop i rs)
    unfolding further
    read_found x k = sym (read_already x (drop (i + 1) rs)) ∙ ap (λ q. fold further (further (Err far) q) (drop (i + 1) rs)) (sym k) ∙ sym read_next

    pub read_far : (p m : ℕ) → r ≡ Err p → m ≡ ord_max nat_cmp far p → fold further (Err m) (drop (i + 1) rs) ≡ fold further (Err far) (drop i rs)
    unfolding further
    read_far p m k l =
        let larger : m ≡ max far p = grind arith in
        ap (λ q. fold further (Err q) (drop (i + 1) rs)) larger ∙ ap (λ q. fold further (further (Err far) q) (drop (i + 1) rs)) (sym k) ∙ sym read_next

  pub furthest_none : (r : Result X ℕ) → further (Err 0) r ≡ r
  unfolding further
  furthest_none (Ok x) = refl
  furthest_none (Err p) = ap Err (omega arith)
