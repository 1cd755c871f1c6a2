-- Where a reader stops: at the end of the longest beginning that fits. Assumes nothing.
use Rattle.std.proofs.Common.{◌≡◌, ℕ, zero, suc, ◌+◌, ◌-◌, ◌*◌, ◌<◌, ◌≤◌, max, Bool, true, false, cond, ◌||◌, eqb, List, [], ◌∷◌, ◌++◌, length, take, drop, is_ok, Ok, Err, codes, Result, sym, refl, ap, ◌∙◌, subst, inl, inr, zero-add, add-one, arith}
use lib.Dec.{eqb-suc-zero}
use Rattle.std.proofs.lemmas.List.{append_assoc, take-append-drop, take-take}
use Rattle.std.proofs.lemmas.Bool.{and_parts, or_right, cases_lt, eq-eqb, true≢false}
use Rattle.std.proofs.lemmas.Bool.Decides.{nat_tests}
use Rattle.lines.specs.Laws.{Longest}
use Rattle.lines.specs.Readers.{Reader, ends, word, digit, longer, goes_on, digits, number, binary, bits, further, ◌or◌}
use Rattle.lines.specs.Lines.{says_nothing, silent, alone, one, two, set, call, board, claimed, line_of, claim_of, serves}
use Rattle.lines.proofs.Steps.{never, first_digit}

-- k bytes of bs fit the reader F, and no more
pub record Stops {X : Type 0} (F : Reader X) (p : ℕ) (bs : List ℕ) (k : ℕ) : Type 0 where
  pub within : k ≤ length bs
  pub fits : (t : List ℕ) × (is_ok (F p (take k bs ++ t)) ≡ true)
  pub stops : k < length bs → (t : List ℕ) → is_ok (F p (take (suc k) bs ++ t)) ≡ false

-- some text is read, and what is refused is refused where the reader stops
pub record Sound {X : Type 0} (F : Reader X) : Type 0 where
  pub alive : (p : ℕ) → (t : List ℕ) × (is_ok (F p t) ≡ true)
  pub place : (p : ℕ) (bs : List ℕ) (q : ℕ) → F p bs ≡ Err q → (k : ℕ) × (q ≡ p + k) × Stops F p bs k

place_of : {X : Type 0} (p q : ℕ) → ◌≡◌ {A = Result X ℕ} (Err p) (Err q) → p ≡ q
place_of p q e = cc

twice : {X : Type 0} (t : Bool) (x y z : X) → cond t (cond t x y) z ≡ cond t x z
twice true x y z = refl
twice false x y z = refl

-- a reader that takes a byte which passes a test, and goes on
module _ {X : Type 0} (F : Reader X) (test : ℕ → Bool) (G : ℕ → Reader X)
    (at_end : (p : ℕ) → F p [] ≡ Err p) (at_byte : (p b : ℕ) (bs : List ℕ) → F p (b ∷ bs) ≡ cond (test b) (G b (suc p) bs) (Err p))
    (c : ℕ) (passes : test c ≡ true) (sound : (b : ℕ) → Sound (G b)) where
  by_alive : (p : ℕ) → (t : List ℕ) × (is_ok (F p t) ≡ true)
  by_alive p = let a = (sound c).alive (suc p) in (c ∷ a.0, rw (at_byte, passes) a.1)

  by_place : (p : ℕ) (bs : List ℕ) (q : ℕ) → F p bs ≡ Err q → (k : ℕ) × (q ≡ p + k) × Stops F p bs k
  by_place p [] q e =
      let same = place_of p q (sym (at_end p) ∙ e) in
      (0, omega arith, record { within = omega arith; fits = by_alive p; stops = λ h. absurd (omega arith) })
  by_place p (b ∷ bs) q e = go (test b) refl (rw (at_byte p b bs) at e)
    where
      go : (v : Bool) → test b ≡ v → cond v (G b (suc p) bs) (Err p) ≡ Err q → (k : ℕ) × (q ≡ p + k) × Stops F p (b ∷ bs) k
      go true v h =
          let (k, l, s) = (sound b).place (suc p) bs q h in (
            suc k,
            omega arith,
            record {
              within = omega (arith, s.within);
              fits = (s.fits.0, rw (at_byte, v) s.fits.1);
              stops = λ m t. rw (at_byte, v) (s.stops (omega arith) t);
            },
          )
      go false v h =
          let same = place_of p q h in
          (0, omega arith, record { within = omega arith; fits = by_alive p; stops = λ m t. rw (at_byte, v) })

  sound_byte : Sound F
  sound_byte = record { alive = by_alive; place = by_place }

sound_ends : {X : Type 0} (x : X) → Sound (ends x)
unfolding ends
sound_ends x = record { alive = λ p. ([], refl); place = place }
  where
    place : (p : ℕ) (bs : List ℕ) (q : ℕ) → ends x p bs ≡ Err q → (k : ℕ) × (q ≡ p + k) × Stops (ends x) p bs k
    place p [] q e = absurd (never x q e)
    place p (b ∷ bs) q e = let same = place_of p q e in (0, omega arith, record { within = omega arith; fits = ([], refl); stops = λ h t. refl })

sound_word : {X : Type 0} (ws : List ℕ) (K : Reader X) → Sound K → Sound (word ws K)
unfolding word
sound_word [] K s = s
sound_word (w ∷ ws) K s = sound_byte (word (w ∷ ws) K) (λ b. eqb b w) (λ b. word ws K) (λ p. refl) (λ p b bs. refl) w (eq-eqb w w refl) (λ b. sound_word ws K s)

sound_bits : {X : Type 0} (n : ℕ) (K : ℕ → Reader X) → ((v : ℕ) → Sound (K v)) → Sound (bits n K)
unfolding bits
sound_bits zero K s = s 0
sound_bits (suc n) K s =
    sound_byte (bits (suc n) K) binary (λ b. bits n (λ v. K ((b - 48) + 2 * v))) (λ p. refl) (λ p b bs. refl) 48 refl (λ b. sound_bits n (λ v. K ((b - 48) + 2 * v)) (λ v. s ((b - 48) + 2 * v)))

-- what follows a number begins with no digit
Undigited : {X : Type 0} → (ℕ → Reader X) → Type 0
Undigited K = (v p b : ℕ) (bs : List ℕ) → digit b ≡ true → is_ok (K v p (b ∷ bs)) ≡ false

module _ {X : Type 0} (K : ℕ → Reader X) (sound : (v : ℕ) → Sound (K v)) (apart : Undigited K) where
  after : (v p : ℕ) (t : List ℕ) → is_ok (K v p t) ≡ true → is_ok (digits K v p t) ≡ true
  unfolding digits Undigited
  after v p [] e = e
  after v p (b ∷ t) e = go (goes_on v b) refl
    where
      go : (r : Bool) → goes_on v b ≡ r → is_ok (cond r (digits K (longer v b) (suc p) t) (K v p (b ∷ t))) ≡ true
      go true r = absurd (true≢false (sym e ∙ apart v p b t (and_parts _ _ r).0))
      go false r = e

  digits_alive : (v p : ℕ) → (t : List ℕ) × (is_ok (digits K v p t) ≡ true)
  digits_alive v p = let a = (sound v).alive p in (a.0, after v p a.0 a.1)

  digits_place : (v p : ℕ) (bs : List ℕ) (q : ℕ) → digits K v p bs ≡ Err q → (k : ℕ) × (q ≡ p + k) × Stops (digits K v) p bs k
  unfolding digits
  digits_place v p [] q e =
      let (k, l, s) = (sound v).place p [] q e in
      (k, l, record { within = s.within; fits = (s.fits.0, after v p (take k [] ++ s.fits.0) s.fits.1); stops = λ h. absurd (omega arith) })
  digits_place v p (b ∷ bs) q e = go (goes_on v b) refl e (digits_place (longer v b) (suc p) bs q)
    where
      go : (r : Bool) → goes_on v b ≡ r → cond r (digits K (longer v b) (suc p) bs) (K v p (b ∷ bs)) ≡ Err q
          → (digits K (longer v b) (suc p) bs ≡ Err q → (k : ℕ) × (q ≡ suc p + k) × Stops (digits K (longer v b)) (suc p) bs k)
          → (k : ℕ) × (q ≡ p + k) × Stops (digits K v) p (b ∷ bs) k
      go true r h ih =
          let (k, l, s) = ih h in (
            suc k,
            omega arith,
            record {
              within = omega (arith, s.within);
              fits = (s.fits.0, rw r s.fits.1);
              stops = λ m t. rw r (s.stops (omega arith) t);
            },
          )
      go false r h ih =
          let (k, l, s) = (sound v).place p (b ∷ bs) q h in (
            k,
            l,
            record {
              within = s.within;
              fits = (s.fits.0, after v p (take k (b ∷ bs) ++ s.fits.0) s.fits.1);
              stops = λ m t. rw r (s.stops m t);
            },
          )

  sound_number : Sound (number K)
  unfolding number digits
  sound_number = sound_byte (number K) digit (λ b. digits K (b - 48)) (λ p. refl) first 48 refl (λ b. record { alive = digits_alive (b - 48); place = digits_place (b - 48) })
    where
      first : (p b : ℕ) (bs : List ℕ) → number K p (b ∷ bs) ≡ cond (digit b) (digits K (b - 48) (suc p) bs) (Err p)
      first p b bs = rw (first_digit b, zero-add (b - 48)) (twice (digit b) _ _ _)

pub says_first : (b : ℕ) (bs : List ℕ) → says_nothing (b ∷ bs) ≡ eqb b 35
says_first b bs = rw (eqb-suc-zero (length bs))

sound_silent : {X : Type 0} (x : X) → Sound (silent x)
unfolding silent
sound_silent x = record { alive = λ p. ([], refl); place = place }
  where
    place : (p : ℕ) (bs : List ℕ) (q : ℕ) → silent x p bs ≡ Err q → (k : ℕ) × (q ≡ p + k) × Stops (silent x) p bs k
    place p [] q e = absurd (never x q e)
    place p (b ∷ bs) q e = go (eqb b 35) refl (rw (says_first b bs) at e)
      where
        go : (v : Bool) → eqb b 35 ≡ v → cond v (Ok x) (Err p) ≡ Err q → (k : ℕ) × (q ≡ p + k) × Stops (silent x) p (b ∷ bs) k
        go true v h = absurd (never x q h)
        go false v h =
            let same = place_of p q h in
            (0, omega arith, record { within = omega arith; fits = ([], refl); stops = λ m t. rw (says_first b t, v) })

either_ok : {X : Type 0} (r s : Result X ℕ) → is_ok (further r s) ≡ (is_ok r || is_ok s)
unfolding further
either_ok (Ok x) s = refl
either_ok (Err p) (Ok y) = refl
either_ok (Err p) (Err q) = refl

-- past the place where a reader stops nothing fits
longer_cut : (bs t : List ℕ) (i j : ℕ) → j ≤ i → take (suc j) bs ++ (drop (suc j) (take (suc i) bs) ++ t) ≡ take (suc i) bs ++ t
longer_cut bs t i j h =
    sym (append_assoc (take (suc j) bs) (drop (suc j) (take (suc i) bs)) t)
    ∙ ap (λ x. (x ++ drop (suc j) (take (suc i) bs)) ++ t) (sym (take-take (suc j) (suc i) bs (omega arith)))
    ∙ ap (λ x. x ++ t) (take-append-drop (suc j) (take (suc i) bs))

past : {X : Type 0} (F : Reader X) (p : ℕ) (bs : List ℕ) (j : ℕ) → Stops F p bs j → (i : ℕ) → j ≤ i → i < length bs → (t : List ℕ) → is_ok (F p (take (suc i) bs ++ t)) ≡ false
past F p bs j s i h l t = subst (λ x. is_ok (F p x) ≡ false) (longer_cut bs t i j h) (s.stops (omega arith) (drop (suc j) (take (suc i) bs) ++ t))

-- of two readers the one that comes further
module _ {X : Type 0} (F G : Reader X) (f : Sound F) (g : Sound G) where
  ok_left : (p : ℕ) (bs : List ℕ) → is_ok (F p bs) ≡ true → is_ok ((F or G) p bs) ≡ true
  ok_left p bs e = rw (either_ok, e)

  ok_right : (p : ℕ) (bs : List ℕ) → is_ok (G p bs) ≡ true → is_ok ((F or G) p bs) ≡ true
  ok_right p bs e = rw either_ok (or_right (is_ok (F p bs)) (is_ok (G p bs)) e)

  or_place : (p : ℕ) (bs : List ℕ) (q : ℕ) → (F or G) p bs ≡ Err q → (k : ℕ) × (q ≡ p + k) × Stops (F or G) p bs k
  unfolding further
  or_place p bs q e = go (F p bs) (G p bs) refl refl e
    where
      both : (i : ℕ) → Stops F p bs i → (j : ℕ) → Stops G p bs j → (k : ℕ) → i ≤ k → j ≤ k → k < length bs → (t : List ℕ) → is_ok ((F or G) p (take (suc k) bs ++ t)) ≡ false
      both i s j u k a b l t = rw (either_ok, past F p bs i s k a l t, past G p bs j u k b l t)

      go : (r s : Result X ℕ) → F p bs ≡ r → G p bs ≡ s → further r s ≡ Err q → (k : ℕ) × (q ≡ p + k) × Stops (F or G) p bs k
      go (Ok x) s a b h = absurd (never x q h)
      go (Err m) (Ok y) a b h = absurd (never y q h)
      go (Err m) (Err n) a b h =
          let (i, l, s) = f.place p bs m a in
          let (j, o, u) = g.place p bs n b in
          let same = place_of (max m n) q h in
          elim (cases_lt i j) [
            | inl c ↦ (j, omega arith, record { within = u.within; fits = (u.fits.0, ok_right p (take j bs ++ u.fits.0) u.fits.1); stops = both i s j u j (omega arith) (omega arith) })
            | inr c ↦ (i, omega arith, record { within = s.within; fits = (s.fits.0, ok_left p (take i bs ++ s.fits.0) s.fits.1); stops = both i s j u i (omega arith) (omega arith) })
          ]

  sound_or : Sound (F or G)
  sound_or = record { alive = λ p. let a = f.alive p in (a.0, ok_left p a.0 a.1); place = or_place }

-- the forms of a line
sound_alone : {X : Type 0} (w : List ℕ) (x : X) → Sound (alone w x)
unfolding alone
sound_alone w x = sound_word w (ends x) (sound_ends x)

sound_last : {X : Type 0} (f : ℕ → X) → Sound (number (λ n. ends (f n)))
unfolding ends Undigited
sound_last f = sound_number (λ n. ends (f n)) (λ v. sound_ends (f v)) (λ v p b bs d. refl)

sound_one : {X : Type 0} (w : List ℕ) (f : ℕ → X) → Sound (one w f)
unfolding one
sound_one w f = sound_word w (number (λ n. ends (f n))) (sound_last f)

spaced : {X : Type 0} (K : ℕ → Reader X) → Undigited (λ i. word (codes " ") (K i))
unfolding word Undigited
spaced K v p b bs d = let apart : eqb b 32 ≡ false = grind (arith, nat_tests) in rw apart

sound_two : {X : Type 0} (w : List ℕ) (f : ℕ → ℕ → X) → Sound (two w f)
unfolding two
sound_two w f =
    sound_word w _ (sound_number (λ i. word (codes " ") (number (λ j. ends (f i j)))) (λ i. sound_word (codes " ") _ (sound_last (f i))) (spaced (λ i. number (λ j. ends (f i j)))))

sound_set : {X : Type 0} (n : ℕ) (w : List ℕ) (f : ℕ → X) → Sound (set n w f)
unfolding set
sound_set n w f = sound_word w _ (sound_bits n (λ v. ends (f v)) (λ v. sound_ends (f v)))

-- and whole lines
pub longest : {X : Type 0} (F : Reader X) → Sound F → (bs : List ℕ) (p : ℕ) → F 0 bs ≡ Err p → Longest (F 0) bs p
longest F s bs p e =
    let (k, l, u) = s.place 0 bs p e in
    let same : k ≡ p = omega arith in
    let v = subst (Stops F 0 bs) same u in
    record { within = v.within; fits = v.fits; stops = λ h b. true≢false (sym b.1 ∙ rw add-one (v.stops h b.0)) }

sound_call : Sound call
sound_call =
    sound_or _ _ (sound_or _ _ (sound_or _ _ (sound_or _ _ (sound_or _ _ (sound_or _ _ (sound_or _ _ (sound_or _ _ (sound_silent _)
    (sound_one _ _)) (sound_two _ _)) (sound_two _ _)) (sound_one _ _)) (sound_one _ _)) (sound_alone _ _)) (sound_alone _ _)) (sound_alone _ _)

sound_board : Sound board
sound_board = sound_or _ _ (sound_or _ _ (sound_or _ _ (sound_silent _) (sound_one _ _)) (sound_two _ _)) (sound_one _ _)

sound_claimed : (n : ℕ) → Sound (claimed n)
sound_claimed n = sound_or _ _ (sound_or _ _ sound_board (sound_set n _ _)) (sound_set n _ _)

pub line_longest : (bs : List ℕ) (p : ℕ) → line_of bs ≡ Err p → Longest line_of bs p
unfolding line_of
line_longest = longest call sound_call

pub claim_longest : (n : ℕ) (bs : List ℕ) (p : ℕ) → claim_of n bs ≡ Err p → Longest (claim_of n) bs p
unfolding claim_of
claim_longest n = go (serves n)
  where
    go : (t : Bool) (bs : List ℕ) (p : ℕ) → cond t (claimed n 0 bs) (board 0 bs) ≡ Err p → Longest (λ cs. cond t (claimed n 0 cs) (board 0 cs)) bs p
    go true = longest (claimed n) (sound_claimed n)
    go false = longest board sound_board
