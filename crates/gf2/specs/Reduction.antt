-- A system of n equations in n unknowns over two elements, reduced by sums of rows. A is the system's table, R the reduced one, T says which rows
-- of A each row of R is the sum of, c in which column each row has its pivot. Assumes nothing: these are definitions.
use Rattle.std.specs.Prelude.{◌≡◌, ℕ, ◌<◌, ◌≤◌, true, false, ◌&&◌, ◌≢◌, ◌==◌, nat_le, nat_lt}
use Rattle.gf2.specs.Rows.{pick, differ, Row, Rows, Same, only, nowhere, dot, act}

-- 1. R IS MADE FROM A

-- R is T times A, and T loses nothing
pub record Tracks (n : ℕ) (A R T : Rows) : Type 0 where
  pub forward : (p : Row) (i : ℕ) → i < n → act n R p i ≡ act n T (act n A p) i
  pub backward : (p s : Row) → ((i : ℕ) → i < n → act n R p i ≡ act n T s i) → (i : ℕ) → i < n → act n A p i ≡ s i

-- the step: S is R with row m added to row k
pub record Adds (n : ℕ) (R S : Rows) (k m : ℕ) : Type 0 where
  pub here : (j : ℕ) → j < n → S k j ≡ differ (R k j) (R m j)
  pub other : (i : ℕ) → i < n → i ≢ k → (j : ℕ) → j < n → S i j ≡ R i j

abbrev pub added : Rows → ℕ → ℕ → Rows
added R k m i j = pick (i == k) (differ (R i j) (R m j)) (R i j)

-- N is M but for row k, which is a; d is c but for k, where it is x
pub record PutsRow (n : ℕ) (M N : Rows) (k : ℕ) (a : Row) : Type 0 where
  pub here : Same n (N k) a
  pub other : (i : ℕ) → i < n → i ≢ k → Same n (N i) (M i)

abbrev pub put_row : Rows → ℕ → Row → Rows
put_row M k a i j = pick (i == k) (a j) (M i j)

pub record Puts (n : ℕ) (c d : ℕ → ℕ) (k x : ℕ) : Type 0 where
  pub here : d k ≡ x
  pub other : (i : ℕ) → i < n → i ≢ k → d i ≡ c i

abbrev pub put : (ℕ → ℕ) → ℕ → ℕ → ℕ → ℕ
put c k x i = pick (i == k) x (c i)

-- M makes nothing of x
abbrev pub Quiet : ℕ → Rows → Row → Type 0
Quiet n M x = (i : ℕ) → i < n → act n M x i ≡ false

-- the rows that q has sum to nothing
abbrev pub LeftQuiet : ℕ → Rows → Row → Type 0
LeftQuiet n M q = (j : ℕ) → j < n → dot n q (λ i. M i j) ≡ false

-- 2. R IS REDUCED: row i has its pivot in the column c i, where no other row is on, or it is off everywhere, and n ≤ c i. The pivots are in no order

pub record Pivots (n : ℕ) (R : Rows) (c : ℕ → ℕ) : Type 0 where
  pub on : (i : ℕ) → i < n → c i < n → R i (c i) ≡ true
  pub alone : (i : ℕ) → i < n → c i < n → (k : ℕ) → k < n → k ≢ i → R k (c i) ≡ false
  pub none : (i : ℕ) → i < n → n ≤ c i → Same n (R i) nowhere

-- no row's pivot is in column j
abbrev pub Free : ℕ → (ℕ → ℕ) → ℕ → Type 0
Free n c j = (i : ℕ) → i < n → c i ≢ j

-- o j is the row whose pivot is in column j, or at least n
pub record Owns (n : ℕ) (c o : ℕ → ℕ) : Type 0 where
  pub row : (i : ℕ) → i < n → c i < n → o (c i) ≡ i
  pub column : (j : ℕ) → j < n → o j < n → c (o j) ≡ j

-- the row says of each column whether it is free
pub record Marks (n : ℕ) (c : ℕ → ℕ) (free : Row) : Type 0 where
  pub pivot : (i : ℕ) → i < n → c i < n → free (c i) ≡ false
  pub none : (j : ℕ) → j < n → Free n c j → free j ≡ true

abbrev pub unowned : ℕ → (ℕ → ℕ) → Row
unowned n o j = nat_le n (o j)

-- 3. WHAT IS READ OFF

-- p has at each pivot what u has for its row, and is off in the free columns
pub record Placed (n : ℕ) (c : ℕ → ℕ) (u p : Row) : Type 0 where
  pub pivot : (i : ℕ) → i < n → c i < n → p (c i) ≡ u i
  pub free : (j : ℕ) → j < n → Free n c j → p j ≡ false

abbrev pub placed : ℕ → (ℕ → ℕ) → Row → Row
placed n o u j = nat_lt (o j) n && u (o j)

-- v is the vector of the free column f: on at f, and at the pivots of the rows that are on at f
pub record Vector (n : ℕ) (R : Rows) (c : ℕ → ℕ) (f : ℕ) (v : Row) : Type 0 where
  pub pivot : (i : ℕ) → i < n → c i < n → v (c i) ≡ R i f
  pub free : (j : ℕ) → j < n → Free n c j → v j ≡ only f j

abbrev pub vector : ℕ → Rows → (ℕ → ℕ) → ℕ → Row
vector n R o f j = pick (nat_lt (o j) n) (R (o j) f) (only f j)

-- 4. TO SETTLE A ROW

-- Pivots for the rows of D alone, among themselves
pub record Settled (n : ℕ) (D : ℕ → Type 0) (R : Rows) (c : ℕ → ℕ) : Type 0 where
  pub on : (i : ℕ) → i < n → D i → c i < n → R i (c i) ≡ true
  pub alone : (i : ℕ) → i < n → D i → c i < n → (k : ℕ) → k < n → D k → k ≢ i → R k (c i) ≡ false
  pub none : (i : ℕ) → i < n → D i → n ≤ c i → Same n (R i) nowhere

-- row k is off at the pivots of the rows of D that V has
abbrev pub Reduced : ℕ → (ℕ → Type 0) → (ℕ → Type 0) → Rows → (ℕ → ℕ) → ℕ → Type 0
Reduced n D V R c k = (i : ℕ) → i < n → D i → V i → c i < n → R k (c i) ≡ false

-- column j is off in the rows of D that V has, but for row k
abbrev pub Cleared : ℕ → (ℕ → Type 0) → (ℕ → Type 0) → Rows → ℕ → ℕ → Type 0
Cleared n D V R k j = (m : ℕ) → m < n → D m → V m → m ≢ k → R m j ≡ false

-- 5. TO REPLACE A ROW of A

-- k is a row to take for row l: if a row that is off everywhere was made with row l, row k is off everywhere too
abbrev pub Chosen : ℕ → Rows → Rows → (ℕ → ℕ) → ℕ → ℕ → Type 0
Chosen n R T c l k = (z : ℕ) → z < n → n ≤ c z → T z l ≡ true → Same n (R k) nowhere

-- the rows of V, but for row k, are made without row l, and row k is made with it
pub record Freeing (n : ℕ) (A R T : Rows) (c : ℕ → ℕ) (l k : ℕ) (V : ℕ → Type 0) : Type 0 where
  pub tracks : Tracks n A R T
  pub settled : Settled n (λ i. i ≢ k) R c
  pub reduced : Reduced n (λ i. i ≢ k) (λ i. i < n) R c k
  pub lit : T k l ≡ true
  pub chosen : Chosen n R T c l k
  pub freed : (m : ℕ) → m < n → V m → m ≢ k → T m l ≡ false

-- 6. THE WHOLE

-- from R and T by sums of rows, the same in both, to R' and T'
pub data Sums (n : ℕ) (R T : Rows) : Rows → Rows → Type 0 where
  no_sum : Sums n R T R T
  one_sum : {R' T' R'' T'' : Rows} {k m : ℕ} → Sums n R T R' T' → k < n → m < n → m ≢ k → Adds n R' R'' k m → Adds n T' T'' k m → Sums n R T R'' T''

-- R and T, settled for D by sums
pub record Reduction (n : ℕ) (R T : Rows) (D : ℕ → Type 0) : Type 0 where
  pub R' : Rows
  pub T' : Rows
  pub c' : ℕ → ℕ
  pub sums : Sums n R T R' T'
  pub settled : Settled n D R' c'

-- every system is reduced by sums
pub record ReducedSystem (n : ℕ) (A : Rows) : Type 0 where
  pub R : Rows
  pub T : Rows
  pub c : ℕ → ℕ
  pub sums : Sums n A only R T
  pub tracks : Tracks n A R T
  pub pivots : Pivots n R c

abbrev pub EverySystem : Type 0
EverySystem = (n : ℕ) (A : Rows) → ReducedSystem n A

-- row l of A is replaced by a: sums, row k put anew, and sums again
pub record Replaced (n : ℕ) (A' R T : Rows) (l : ℕ) (a : Row) : Type 0 where
  pub k : ℕ
  pub R₁ : Rows
  pub T₁ : Rows
  pub R₂ : Rows
  pub T₂ : Rows
  pub R₃ : Rows
  pub T₃ : Rows
  pub c₃ : ℕ → ℕ
  pub within : k < n
  pub freed : Sums n R T R₁ T₁
  pub row_put : PutsRow n R₁ R₂ k a
  pub made_put : PutsRow n T₁ T₂ k (only l)
  pub settled : Sums n R₂ T₂ R₃ T₃
  pub tracks : Tracks n A' R₃ T₃
  pub pivots : Pivots n R₃ c₃

abbrev pub RowReplaced : Type 0
RowReplaced =
    (n : ℕ) (A A' R T : Rows) (c : ℕ → ℕ) (l : ℕ) (a : Row) →
    l < n → PutsRow n A A' l a → Tracks n A R T → Pivots n R c → Replaced n A' R T l a
