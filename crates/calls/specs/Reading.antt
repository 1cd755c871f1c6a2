-- The bytes of a call, and the call that some bytes are. Assumes nothing: these are definitions.
use Rattle.std.specs.Prelude.{ℕ, min, cond, List, [], ◌∷◌, ◌++◌, length, Ok, Err, Result, ◌==◌, slice_index}
use Rattle.calls.specs.declared.Call.{Call}
use Rattle.calls.specs.declared.Call.TheVariants.{Wire, Turn, Press, Lit, Out, Ways}
use Rattle.calls.specs.declared.Refusal.{Refusal}
use Rattle.calls.specs.declared.Refusal.TheVariants.{Unreadable}
use Rattle.calls.specs.Bytes.{two_bytes, two}

-- the bytes of a call: its number, then its lamps
abbrev pub encoded : Call → List ℕ
encoded (Wire i j) = 0 ∷ (two_bytes i ++ two_bytes j)
encoded (Turn i) = 1 ∷ two_bytes i
encoded (Press i) = 2 ∷ two_bytes i
encoded Lit = 3 ∷ []
encoded Out = 4 ∷ []
encoded Ways = 5 ∷ []

-- x, if there are n bytes: else they cease to be a call at the first that is missing, or the first that is too much
abbrev pub exactly : {A : Type 0} → ℕ → List ℕ → A → Result A Refusal
exactly n bs x = cond (length bs == n) (Ok x) (Err (Unreadable (min (length bs) n)))

-- the call of number t
abbrev pub numbered : ℕ → List ℕ → Result Call Refusal
numbered t bs =
    cond (t == 0) (exactly 5 bs (Wire (two bs 1) (two bs 3)))
    (cond (t == 1) (exactly 3 bs (Turn (two bs 1)))
    (cond (t == 2) (exactly 3 bs (Press (two bs 1)))
    (cond (t == 3) (exactly 1 bs Lit)
    (cond (t == 4) (exactly 1 bs Out)
    (cond (t == 5) (exactly 1 bs Ways) (Err (Unreadable 0)))))))

-- the call that the bytes are, or where they cease to be one
unfoldable pub decoded : List ℕ → Result Call Refusal
decoded bs = cond (length bs == 0) (Err (Unreadable 0)) (numbered (slice_index bs 0) bs)
