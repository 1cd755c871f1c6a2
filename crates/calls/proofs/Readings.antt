-- What bytes are a call, and where others cease to be one. Assumes nothing.
use Rattle.std.proofs.Common.{◌≡◌, ℕ, zero, suc, ◌+◌, ◌*◌, ◌/◌, ◌%◌, ◌<◌, ◌≤◌, min, false, eqb, List, [], ◌∷◌, ◌++◌, length, get_or, take, drop, Result, Ok, Fits, w8, sym, refl, ap, ◌∙◌, subst, ap₂, ⊎_elim, arith, length-append}
use Rattle.std.proofs.lemmas.List.{ext_get_or, get_or-take, get_or_append_left, length-take, take-append-drop}
use Rattle.std.proofs.lemmas.Bool.{cases_eq, eq-eqb, ne_eqb}
use Rattle.calls.specs.declared.Call.{Call}
use Rattle.calls.specs.declared.Refusal.{Refusal}
use Rattle.calls.specs.declared.Call.TheVariants.{Wire, Turn, Press, Lit, Out, Ways}
use Rattle.calls.specs.Bytes.{two_bytes, two}
use Rattle.calls.specs.Reading.{encoded, exactly, numbered, decoded}
use Rattle.calls.specs.Laws.{AllBytes, Small, Beginning, Ceases, Reads, OfCalls}

-- ---- reading what was written

pub low_high : (n : ℕ) → n % 256 + 256 * (n / 256) ≡ n
low_high n = omega arith

pub decoded_encoded : (c : Call) → decoded (encoded c) ≡ Ok c
unfolding decoded
decoded_encoded (Wire i j) = ap₂ (λ x y. Ok (Wire x y)) (low_high i) (low_high j)
decoded_encoded (Turn i) = ap (λ x. Ok (Turn x)) (low_high i)
decoded_encoded (Press i) = ap (λ x. Ok (Press x)) (low_high i)
decoded_encoded Lit = refl
decoded_encoded Out = refl
decoded_encoded Ways = refl

-- ---- how many bytes a call has, by its number: none where there is no such call

whole : ℕ → ℕ
whole zero = 5
whole (suc zero) = 3
whole (suc (suc zero)) = 3
whole (suc (suc (suc zero))) = 1
whole (suc (suc (suc (suc zero)))) = 1
whole (suc (suc (suc (suc (suc zero))))) = 1
whole (suc (suc (suc (suc (suc (suc t)))))) = 0

length_encoded : (c : Call) → length (encoded c) ≡ whole (get_or (encoded c) 0 0)
unfolding whole
length_encoded (Wire i j) = refl
length_encoded (Turn i) = refl
length_encoded (Press i) = refl
length_encoded Lit = refl
length_encoded Out = refl
length_encoded Ways = refl

length_begun : (c : Call) (bs : List ℕ) → encoded c ≡ bs → length bs ≡ whole (get_or bs 0 0)
length_begun c bs e = subst (λ l. length l ≡ whole (get_or l 0 0)) e (length_encoded c)

-- ---- bytes that are not as many as their call has

-- the call c, of the bytes es, has zeros in the place of those that are missing
begun : (bs es : List ℕ) (c : Call) → encoded c ≡ es → Small c → ((k : ℕ) → k < length es → get_or es k 0 ≡ get_or bs k 0) → Beginning (take (min (length bs) (length es)) bs)
begun bs es c is small same = (c, drop p es, small, is ∙ sym (take-append-drop p es) ∙ ap (λ l. l ++ drop p es) front)
  where
    p : ℕ
    p = min (length bs) (length es)

    front : take p es ≡ take p bs
    front =
        ext_get_or 0 _ _ (simp length-take (omega arith))
        (λ k h. let l : k < p = omega (arith, simp length-take at h) in get_or-take p es k 0 l ∙ same k (omega arith) ∙ sym (get_or-take p bs k 0 l))

ceases : (bs : List ℕ) (n p : ℕ) → n ≡ whole (get_or bs 0 0) → p ≡ min (length bs) n → (length bs ≡ n → ⊥) → Beginning (take p bs) → Ceases bs p
ceases bs n p is least other front = record { none = λ c e. other (length_begun c bs e ∙ sym is); within = omega arith; before = front; beyond = past }
  where
    past : p < length bs → Beginning (take (p + 1) bs) → ⊥
    past h (c, rest, small, e) =
        let first = get_or_append_left (take (p + 1) bs) rest 0 0 (simp length-take (omega arith)) ∙ get_or-take (p + 1) bs 0 0 (omega arith) in
        let long = length_begun c _ e ∙ ap whole first ∙ sym is in
        omega (arith, simp (length-append, length-take) at long)

-- ---- whatever the bytes are

read_exactly : (bs es : List ℕ) (c : Call) → encoded c ≡ es → Small c → length es ≡ whole (get_or bs 0 0) → ((k : ℕ) → k < length es → get_or es k 0 ≡ get_or bs k 0)
    → Reads bs (exactly (length es) bs c)
read_exactly bs es c is small long same = ⊎_elim all some (cases_eq (length bs) (length es))
  where
    all : length bs ≡ length es → Reads bs (exactly (length es) bs c)
    all e = rw (eq-eqb _ _ e) (ext_get_or 0 bs es e (λ k h. sym (same k (omega arith))) ∙ sym is)

    some : (length bs ≡ length es → ⊥) → Reads bs (exactly (length es) bs c)
    some ne = rw (ne_eqb _ _ ne) (_, refl, ceases bs _ _ long refl ne (begun bs es c is small same))

read_two : (xs : List ℕ) → AllBytes xs → Reads (0 ∷ xs) (exactly 5 (0 ∷ xs) (Wire (two (0 ∷ xs) 1) (two (0 ∷ xs) 3)))
unfolding whole
read_two xs h = read_exactly (0 ∷ xs) (encoded wire) wire refl (omega (arith, h 0, h 1), omega (arith, h 2, h 3)) refl same
  where
    wire : Call
    wire = Wire (two (0 ∷ xs) 1) (two (0 ∷ xs) 3)

    same : (k : ℕ) → k < 5 → get_or (encoded wire) k 0 ≡ get_or (0 ∷ xs) k 0
    same zero l = refl
    same (suc zero) l = omega (arith, h 0)
    same (suc (suc zero)) l = omega (arith, h 0)
    same (suc (suc (suc zero))) l = omega (arith, h 2)
    same (suc (suc (suc (suc zero)))) l = omega (arith, h 2)
    same (suc (suc (suc (suc (suc k))))) l = absurd (omega arith)

read_one : (t : ℕ) (call : ℕ → Call) (xs : List ℕ) → AllBytes xs → ((i : ℕ) → encoded (call i) ≡ t ∷ two_bytes i) → ((i : ℕ) → i < 65536 → Small (call i)) → 3 ≡ whole t
    → Reads (t ∷ xs) (exactly 3 (t ∷ xs) (call (two (t ∷ xs) 1)))
read_one t call xs h is small long = read_exactly (t ∷ xs) (t ∷ two_bytes i) (call i) (is i) (small i (omega (arith, h 0, h 1))) long same
  where
    i : ℕ
    i = two (t ∷ xs) 1

    same : (k : ℕ) → k < 3 → get_or (t ∷ two_bytes i) k 0 ≡ get_or (t ∷ xs) k 0
    same zero l = refl
    same (suc zero) l = omega (arith, h 0)
    same (suc (suc zero)) l = omega (arith, h 0)
    same (suc (suc (suc k))) l = absurd (omega arith)

read_none : (t : ℕ) (c : Call) (xs : List ℕ) → encoded c ≡ t ∷ [] → Small c → 1 ≡ whole t → Reads (t ∷ xs) (exactly 1 (t ∷ xs) c)
read_none t c xs is small long = read_exactly (t ∷ xs) (t ∷ []) c is small long same
  where
    same : (k : ℕ) → k < 1 → get_or (t ∷ []) k 0 ≡ get_or (t ∷ xs) k 0
    same zero l = refl
    same (suc k) l = absurd (omega arith)

-- bytes whose first is the number of no call
read_unknown : (t : ℕ) (xs : List ℕ) → 5 < t → 0 ≡ whole t → Reads (t ∷ xs) (numbered t (t ∷ xs))
read_unknown t xs h none = rw (other 0 (omega arith), other 1 (omega arith), other 2 (omega arith), other 3 (omega arith), other 4 (omega arith), other 5 (omega arith)) (0, refl, at_first)
  where
    other : (k : ℕ) → k ≤ 5 → eqb t k ≡ false
    other k l = ne_eqb t k (λ e. omega arith)

    at_first : Ceases (t ∷ xs) 0
    at_first = ceases (t ∷ xs) 0 0 none (omega arith) (λ e. omega arith) (Lit, encoded Lit, tt, refl)

-- a row of bytes that has a first one is read by its number
by_number : (t : ℕ) (xs : List ℕ) → decoded (t ∷ xs) ≡ numbered t (t ∷ xs)
unfolding decoded
by_number t xs = rw (ne_eqb (length (t ∷ xs)) 0 (λ e. omega arith))

pub reads : (bs : List ℕ) → AllBytes bs → Reads bs (decoded bs)
unfolding decoded whole
reads [] h = (0, refl, ceases [] 5 0 refl refl (λ e. omega arith) (Lit, encoded Lit, tt, refl))
reads (zero ∷ xs) h = rw (by_number 0 xs) (read_two xs (λ k. h (suc k)))
reads (suc zero ∷ xs) h = rw (by_number 1 xs) (read_one 1 Turn xs (λ k. h (suc k)) (λ i. refl) (λ i l. l) refl)
reads (suc (suc zero) ∷ xs) h = rw (by_number 2 xs) (read_one 2 Press xs (λ k. h (suc k)) (λ i. refl) (λ i l. l) refl)
reads (suc (suc (suc zero)) ∷ xs) h = rw (by_number 3 xs) (read_none 3 Lit xs refl tt refl)
reads (suc (suc (suc (suc zero))) ∷ xs) h = rw (by_number 4 xs) (read_none 4 Out xs refl tt refl)
reads (suc (suc (suc (suc (suc zero)))) ∷ xs) h = rw (by_number 5 xs) (read_none 5 Ways xs refl tt refl)
reads (suc (suc (suc (suc (suc (suc t))))) ∷ xs) h = rw (by_number (suc (suc (suc (suc (suc (suc t)))))) xs) (read_unknown (suc (suc (suc (suc (suc (suc t)))))) xs (omega arith) refl)

-- the same of what the code read: its bytes are bytes by their type
pub reads_as : (bs : List ℕ) (r : Result Call Refusal) → ((k : ℕ) → Fits w8 (get_or bs k 0)) → r ≡ decoded bs → Reads bs r
reads_as bs r fits is = subst (Reads bs) (sym is) (reads bs (λ k. omega (arith, fits k)))

pub of_calls : OfCalls
of_calls = record { back = decoded_encoded; reads = reads }
