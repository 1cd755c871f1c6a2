-- What follows a word or a number is read from the place where that ends; and so the forms of a line, step by step. Assumes nothing.
use Rattle.std.proofs.Common.{◌≡◌, ℕ, zero, suc, ◌+◌, ◌-◌, ◌*◌, Bool, true, false, cond, eqb, List, [], ◌∷◌, get_or, drop, MatchResult, IsOkAnd, IsErr, IsErrAnd, Ok, Err, codes, Result, sym, refl, ap, ◌∙◌, add-one}
use mathlib.Core.Path.{fun_ext}
use Rattle.std.proofs.lemmas.List.{drop-drop}
use Rattle.lines.specs.Readers.{Reader, here, found, ends, word, digit, longer, goes_on, digits, number, numbers, binary, bits, then}
use Rattle.lines.proofs.Steps.{bits_next}
use Rattle.lines.specs.Lines.{alone, one, two, set, after}

-- what `?` gives back where it stops
pub stopped : {X : Type 0} (r : Result X ℕ) (p : ℕ) → IsErr r × IsErrAnd r (λ q. q ≡ p) → r ≡ Err p
stopped (Ok x) p h = absurd h.1
stopped (Err q) p h = ap Err h.1

drop_next : (L : List ℕ) (p b : ℕ) (bs : List ℕ) → drop p L ≡ b ∷ bs → drop (suc p) L ≡ bs
drop_next L p b bs e = rw (← add-one p, ← drop-drop 1 p L, e)

then_cond : {A B : Type 0} (t : Bool) (x y : Result A ℕ) (k : A → Result B ℕ) → then (cond t x y) k ≡ cond t (then x k) (then y k)
then_cond true x y k = refl
then_cond false x y k = refl

pub either_way : {A : Type 0} (t : Bool) (x : A) → x ≡ cond t x x
either_way true x = refl
either_way false x = refl

then_then : {A B C : Type 0} (r : Result A ℕ) (k : A → Result B ℕ) (l : B → Result C ℕ) → then (then r k) l ≡ then r (λ x. then (k x) l)
then_then (Ok x) k l = refl
then_then (Err p) k l = refl

then_same : {A B : Type 0} (r : Result A ℕ) {k l : A → Result B ℕ} → ((x : A) → k x ≡ l x) → then r k ≡ then r l
then_same r h = ap (then r) (fun_ext h)

ends_then : {X : Type 0} (x : X) (p : ℕ) (bs : List ℕ) → ends x p bs ≡ then (ends (tt {0}) p bs) (λ _. Ok x)
unfolding ends
ends_then x p [] = refl
ends_then x p (b ∷ bs) = refl

pub bits_then : {X : Type 0} (L : List ℕ) (n : ℕ) (K : ℕ → Reader X) (p : ℕ) (bs : List ℕ) → drop p L ≡ bs → bits n K p bs ≡ then (bits n found p bs) (λ r. K r.0 r.1 (drop r.1 L))
unfolding bits
bits_then L zero K p bs e = ap (K 0 p) (sym e)
bits_then L (suc n) K p [] e = refl
bits_then L (suc n) K p (b ∷ bs) e =
    rw (then_cond (binary b), bits_then L n (λ v. K ((b - 48) + 2 * v)) (suc p) bs (drop_next L p b bs e), bits_then L n (λ v. found ((b - 48) + 2 * v)) (suc p) bs (drop_next L p b bs e), then_then (bits n found (suc p) bs))

-- the first digit, and the set that the others are
pub bits_from : (L : List ℕ) (p n m b : ℕ) → suc n ≡ m → b ≡ get_or L p 0 → true ≡ binary b →
    bits m found p (drop p L) ≡ then (bits n found (p + 1) (drop (p + 1) L)) (λ r. Ok ((b - 48) + 2 * r.0, r.1))
bits_from L p n m b e h t = sym (bits_next L found p n m e (t ∙ ap binary h)) ∙ bits_then L n _ (p + 1) (drop (p + 1) L) refl ∙ rw h

module _ {X : Type 0} (L : List ℕ) where
  word_then : (ws : List ℕ) (K : Reader X) (p : ℕ) (bs : List ℕ) → drop p L ≡ bs → word ws K p bs ≡ then (word ws here p bs) (λ q. K q (drop q L))
  unfolding word
  word_then [] K p bs e = ap (K p) (sym e)
  word_then (w ∷ ws) K p [] e = refl
  word_then (w ∷ ws) K p (b ∷ bs) e = rw (then_cond (eqb b w), word_then ws K (suc p) bs (drop_next L p b bs e))

  digits_then : (K : ℕ → Reader X) (v p : ℕ) (bs : List ℕ) → drop p L ≡ bs → digits K v p bs ≡ then (digits found v p bs) (λ r. K r.0 r.1 (drop r.1 L))
  unfolding digits
  digits_then K v p [] e = ap (K v p) (sym e)
  digits_then K v p (b ∷ bs) e = rw (then_cond (goes_on v b), digits_then K (longer v b) (suc p) bs (drop_next L p b bs e), e)

  number_then : (K : ℕ → Reader X) (p : ℕ) (bs : List ℕ) → drop p L ≡ bs → number K p bs ≡ then (number found p bs) (λ r. K r.0 r.1 (drop r.1 L))
  unfolding number
  number_then K p bs e = rw (then_cond (digit (get_or bs 0 0)), digits_then K 0 p bs e)

  -- a keyword, what is read, and the end
  forms : {A : Type 0} (w : List ℕ) (R : (A → Reader X) → Reader X) (read : ℕ → Result (A × ℕ) ℕ) (f : A → X)
      → ((K : A → Reader X) (p : ℕ) → R K p (drop p L) ≡ then (read p) (λ r. K r.0 r.1 (drop r.1 L))) → word w (R (λ x. ends (f x))) 0 L ≡ then (after w read L) (λ x. Ok (f x))
  forms w R read f h =
      word_then w _ 0 L refl ∙ then_same (word w here 0 L) (λ q. h _ q ∙ then_same (read q) (λ r. ends_then (f r.0) r.1 (drop r.1 L))) ∙ sym (simp then_then)

  alone_then : (w : List ℕ) (x : X) → alone w x 0 L ≡ then (after w (λ p. Ok (tt {0}, p)) L) (λ _. Ok x)
  unfolding alone
  alone_then w x = forms w (λ K. K tt) (λ p. Ok (tt {0}, p)) (λ _. x) (λ K p. refl)

  one_then : (w : List ℕ) (f : ℕ → X) → one w f 0 L ≡ then (after w (λ p. number found p (drop p L)) L) (λ n. Ok (f n))
  unfolding one
  one_then w f = forms w number (λ p. number found p (drop p L)) f (λ K p. number_then K p (drop p L) refl)

  set_then : (n : ℕ) (w : List ℕ) (f : ℕ → X) → set n w f 0 L ≡ then (after w (λ p. bits n found p (drop p L)) L) (λ v. Ok (f v))
  unfolding set
  set_then n w f = forms w (bits n) (λ p. bits n found p (drop p L)) f (λ K p. bits_then L n K p (drop p L) refl)

  numbers_steps : (K : ℕ × ℕ → Reader X) (p : ℕ)
      → numbers K p (drop p L) ≡ then (number found p (drop p L)) (λ r. then (word (codes " ") here r.1 (drop r.1 L)) (λ q. then (number found q (drop q L)) (λ s. K (r.0, s.0) s.1 (drop s.1 L))))
  numbers_steps K p =
      number_then _ p (drop p L) refl ∙ then_same (number found p (drop p L))
      (λ r. word_then (codes " ") _ r.1 (drop r.1 L) refl ∙ then_same (word (codes " ") here r.1 (drop r.1 L)) (λ q. number_then _ q (drop q L) refl))

pub numbers_then : (L : List ℕ) (p : ℕ)
    → numbers found p (drop p L) ≡ then (number found p (drop p L)) (λ r. then (word (codes " ") here r.1 (drop r.1 L)) (λ q. then (number found q (drop q L)) (λ s. Ok ((r.0, s.0), s.1))))
numbers_then L p = numbers_steps L found p

two_then : {X : Type 0} (L w : List ℕ) (f : ℕ → ℕ → X) → two w f 0 L ≡ then (after w (λ p. numbers found p (drop p L)) L) (λ n. Ok (f n.0 n.1))
unfolding two
two_then L w f =
    forms L w numbers (λ p. numbers found p (drop p L)) (λ n. f n.0 n.1) (λ K p. numbers_steps L K p ∙ sym (rw (numbers_then L p) (simp then_then)))

-- what a form is read as, where a closure makes it of the numbers
module _ {X : Type 0} (L w : List ℕ) (s : Result X ℕ) where
  mapped : {A : Type 0} {P : A → X → Type 0} (f : A → X) (r : Result A ℕ) → MatchResult r (λ x. IsOkAnd s (P x)) (λ p. s ≡ Err p) → ((x : A) (y : X) → P x y → y ≡ f x)
      → s ≡ then r (λ x. Ok (f x))
  mapped {P = P} f (Ok x) m makes = made s m
    where
      made : (s : Result X ℕ) → IsOkAnd s (P x) → s ≡ Ok (f x)
      made (Ok y) h = ap Ok (makes x y h)
      made (Err p) h = absurd h
  mapped f (Err p) m makes = m

  pub alone_read : {P : Unit {0} → X → Type 0} (x : X) (r : Result (Unit {0}) ℕ) → r ≡ after w (λ p. Ok (tt {0}, p)) L
      → MatchResult r (λ u. IsOkAnd s (P u)) (λ p. s ≡ Err p) → ((u : Unit {0}) (y : X) → P u y → y ≡ x) → s ≡ alone w x 0 L
  alone_read x r e m makes = mapped (λ _. x) r m makes ∙ sym (rw (e, alone_then L w x))

  pub one_read : {P : ℕ → X → Type 0} (f : ℕ → X) (r : Result ℕ ℕ) → r ≡ after w (λ p. number found p (drop p L)) L
      → MatchResult r (λ n. IsOkAnd s (P n)) (λ p. s ≡ Err p) → ((n : ℕ) (y : X) → P n y → y ≡ f n) → s ≡ one w f 0 L
  one_read f r e m makes = mapped f r m makes ∙ sym (rw (e, one_then L w f))

  pub two_read : {P : ℕ × ℕ → X → Type 0} (f : ℕ → ℕ → X) (r : Result (ℕ × ℕ) ℕ) → r ≡ after w (λ p. numbers found p (drop p L)) L
      → MatchResult r (λ n. IsOkAnd s (P n)) (λ p. s ≡ Err p) → ((n : ℕ × ℕ) (y : X) → P n y → y ≡ f n.0 n.1) → s ≡ two w f 0 L
  two_read f r e m makes = mapped (λ n. f n.0 n.1) r m makes ∙ sym (rw (e, two_then L w f))

  pub set_read : {P : ℕ → X → Type 0} (n : ℕ) (f : ℕ → X) (r : Result ℕ ℕ) → r ≡ after w (λ p. bits n found p (drop p L)) L
      → MatchResult r (λ v. IsOkAnd s (P v)) (λ p. s ≡ Err p) → ((v : ℕ) (y : X) → P v y → y ≡ f v) → s ≡ set n w f 0 L
  set_read n f r e m makes = mapped f r m makes ∙ sym (rw (e, set_then L n w f))
