-- The wires of a grid come one by one. Assumes nothing.
use Rattle.std.proofs.Common.{◌≡◌, ℕ, zero, suc, ◌+◌, ◌*◌, ◌%◌, ◌<◌, ◌≤◌, Bool, true, false, eqb, ltb, List, [], ◌∷◌, ◌++◌, ◌≢◌, IsNone, IfSome, Option, Some, None, sym, refl, ap, ◌∙◌, subst, mul_comm, arith}
use Rattle.std.proofs.lemmas.Nat.{mod-mul-add}
use Rattle.std.proofs.lemmas.Bool.{eq-eqb, ne_eqb}
use Rattle.gf2.specs.Rows.{pick}
use Rattle.lamps.specs.Lamps.{Wire, joins, wired}
use Rattle.lamps.specs.Calls.{Board, Answer, wires, turned, changed, dropped}
use Rattle.lamps.specs.Promise.{Memory}
use Rattle.lamps.specs.Boards.{wire, wires_before}
use Rattle.desk.specs.Holding.{Holds, Performs}
use Rattle.desk.proofs.Taken.{wire_taken}
use Rattle.calls.specs.declared.Answer.{Answer as Reply}
use Rattle.calls.specs.Saying.{said}
use Rattle.text.specs.Memory.{lamps_open, in_use}
use Rattle.text.specs.declared.wall.Wall.{Wall}
use Rattle.text.specs.Board.{dark, held, Comes}

-- a wire that is not there comes
comes : (m m' : Memory) (ws : List Wire) (i j : ℕ) (a : Answer) → i < m.lamps → j < m.lamps → i ≢ j → wired ws i j ≡ false
    → Holds m (dark m.lamps ws) → Performs m m' (dark m.lamps ws) (wires i j) a → Holds m' (dark m.lamps (wire i j ∷ ws))
unfolding changed
comes m m' ws i j a p q ne free h r =
    let b = dark m.lamps ws in
    let taken : eqb (turned b (wires i j)) 0 ≡ true = eq-eqb (turned b (wires i j)) 0 (wire_taken m b h i j p q ne) in
    let then : Holds m' (changed b (wires i j)) = subst (λ t. Holds m' (pick t (changed b (wires i j)) b)) taken r.holds in
    subst (λ t. Holds m' (dark m.lamps (pick t (dropped ws i j) (wire i j ∷ ws)))) free then

pub joined : (m m' : Memory) (row : List ℕ) (i j : ℕ) (r : Option Reply) → i < m.lamps → j < m.lamps → i ≢ j → (IsNone r → m.lamps ≡ 0)
    → IfSome r (λ a. (b : Board) → Holds m b → Performs m m' b (wires i j) (said a row)) → (ws : List Wire) → wired ws i j ≡ false → Comes ws m m' (wire i j ∷ ws)
joined m m' row i j None p q ne none done ws free = absurd (omega (arith, p, none refl))
joined m m' row i j (Some a) p q ne none done ws free = λ h. comes m m' ws i j (said a row) p q ne free h (done (dark m.lamps ws) h)

-- wires come one after the other
pub record Wired (first now : Wall) (ws : List Wire) : Type 0 where
  pub same : now.board ≡ first.board
  pub comes : Comes [] (in_use (held first)) (in_use (held now)) ws

pub no_more : (first : Wall) (ws : List Wire) → [] ≡ ws → Wired first first ws
no_more first ws e = record { same = refl; comes = λ h. subst (λ us. Holds (in_use (held first)) (dark (lamps_open first.board) us)) e h }

pub more_come : {first w w' : Wall} {ws ws' : List Wire} → Wired first w ws → w'.board ≡ w.board → Comes ws (in_use (held w)) (in_use (held w')) ws' → Wired first w' ws'
more_come {first} {w} {w'} {ws} {ws'} old same new = record {
  same = same ∙ old.same;
  comes = λ h. subst (λ b. Holds (in_use (held w)) (dark (lamps_open b) ws) → Holds (in_use (held w')) (dark (lamps_open b) ws')) old.same new (old.comes h);
}

pub wired_as : {first w w' : Wall} (F : Bool → List Wire) {t t' : Bool} → t' ≡ t → w' ≡ w → Wired first w (F t) → Wired first w' (F t')
wired_as {first} {w} {w'} F {t} {t'} p q h = subst (λ x. Wired first w' (F x)) (sym p) (subst (λ x. Wired first x (F t)) (sym q) h)

-- no wire of the lamps before i is between two others
not_joined : (i j a b : ℕ) → i < a → i < b → joins i j a b ≡ false
not_joined i j a b p q = rw (ne_eqb i a (omega arith)) (rw (ne_eqb i b (omega arith)) refl)

apart_next : (t : Bool) (ws : List Wire) (i j a b : ℕ) → i < a → i < b → wired ws a b ≡ false → wired (pick t [] (wire i j ∷ []) ++ ws) a b ≡ false
unfolding wired
apart_next true ws i j a b p q h = h
apart_next false ws i j a b p q h = rw (not_joined i j a b p q) h

apart_below : (t : Bool) (ws : List Wire) (i j a b : ℕ) → i < a → i < b → wired ws a b ≡ false → wired (pick t (wire i j ∷ []) [] ++ ws) a b ≡ false
unfolding wired
apart_below true ws i j a b p q h = rw (not_joined i j a b p q) h
apart_below false ws i j a b p q h = h

pub apart : (w n i a b : ℕ) → i ≤ a → i ≤ b → wired (wires_before w n i) a b ≡ false
unfolding wired wires_before
apart w n zero a b p q = refl
apart w n (suc i) a b p q =
    apart_next (eqb ((i + 1) % w) 0) _ i (i + 1) a b (omega arith) (omega arith)
    (apart_below (ltb (i + w) n) (wires_before w n i) i (i + w) a b (omega arith) (omega arith) (apart w n i a b (omega arith) (omega arith)))

-- the wire to the next lamp is not that to the lamp below
pub next_apart : (t : Bool) (w n i : ℕ) → ((i + 1) % w ≡ 0 → ⊥) → wired (pick t (wire i (i + w) ∷ []) [] ++ wires_before w n i) i (i + 1) ≡ false
unfolding wired
next_apart false w n i ne = apart w n i i (i + 1) (omega arith) (omega arith)
next_apart true w n i ne =
    let one_left : (i + 1) % 1 ≡ 0 = omega arith in
    let several : w ≡ 1 → ⊥ = λ e. ne (ap (λ x. (i + 1) % x) e ∙ one_left) in
    rw (ne_eqb (i + w) (i + 1) (λ e. several (omega (arith, e)))) (rw (ne_eqb i (i + 1) (omega arith)) (rw (eq-eqb i i refl) (apart w n i i (i + 1) (omega arith) (omega arith))))

-- the wires of one lamp more
pub more_wires : (w n i : ℕ) → pick (eqb ((i + 1) % w) 0) [] (wire i (i + 1) ∷ []) ++ (pick (ltb (i + w) n) (wire i (i + w) ∷ []) [] ++ wires_before w n i) ≡ wires_before w n (i + 1)
unfolding wires_before
more_wires w n i =
    let next : suc i ≡ i + 1 = omega arith in
    ap (λ k. wires_before w n k) next

pub no_wires : (w n : ℕ) → [] ≡ wires_before w n 0
unfolding wires_before
no_wires w n = refl

-- a grid that has lamps has whole rows
pub grid_some : (w h : ℕ) → 0 < w * h → 0 < w
grid_some zero h p = absurd (omega (arith, p))
grid_some (suc w) h p = omega arith

pub grid_whole : (w h n : ℕ) → n ≡ w * h → 0 < w → n % w ≡ 0
grid_whole w h n e p = ap (λ x. x % w) (e ∙ mul_comm w h ∙ add_none (h * w)) ∙ mod-mul-add h w 0 p
  where
    add_none : (x : ℕ) → x ≡ x + 0
    add_none x = omega arith
