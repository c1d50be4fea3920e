-- An abstract finite machine: numbered arcs that act on a datum, and its paths. Report 6486's finite Eilenberg machine, with
-- relations that are partial functions. Document 01's three tasks are one instance (Transducer).
use Rattle.std.specs.Prelude.{ℕ, suc, ◌+◌, ◌≤◌, ◌<◌, ◌≡◌, Bool, true, false, ◌&&◌, List, [], ◌∷◌, ◌++◌, length, get_or}
use Rattle.std.proofs.Math.Option.{Option, none, some}

-- a finite machine
pub record Machine : Type 1 where
  -- what a path has read and written so far
  pub D : Type 0
  pub initials : List ℕ
  -- the arcs of state s are numbered from (first s) on, (arity s) of them
  pub first : ℕ → ℕ
  pub arity : ℕ → ℕ
  pub target : ℕ → ℕ
  pub terminal : ℕ → Bool
  -- the first datum; what an arc makes of a datum, if it fits; what it writes there; whether every given word is read
  pub d₀ : D
  pub follow : ℕ → D → Option D
  pub writes : ℕ → D → List ℕ
  pub done : D → Bool
  -- whether two data are the same, and a number above any path's arcs (see Bounded)
  pub same : D → D → Bool
  pub limit : ℕ

-- a path: the place of its initial state in the list, then the numbers of its arcs, the last one outermost
pub data Path : Type 0 where
  start : ℕ → Path
  more : Path → ℕ → Path

-- how many arcs it has
abbrev pub size : Path → ℕ
size (start i) = 0
size (more p n) = suc (size p)

-- a path as one list of numbers
abbrev pub numbers : Path → List ℕ
numbers (start i) = i ∷ []
numbers (more p n) = numbers p ++ (n ∷ [])

-- a partial step after another
abbrev pub bind : {A B : Type 0} → Option A → (A → Option B) → Option B
bind none f = none
bind (some a) f = f a

-- what there is, where a test holds
abbrev pub somewhen : {A : Type 0} → Bool → A → Option A
somewhen true a = some a
somewhen false a = none

-- what is written, if there is a datum
abbrev pub listed : {A : Type 0} → Option A → (A → List ℕ) → List ℕ
listed none f = []
listed (some a) f = f a

-- a test, if there is a datum
abbrev pub tested : {A : Type 0} → Option A → (A → Bool) → Bool
tested none f = false
tested (some a) f = f a

module _ (M : Machine) where
  -- the last state of a path
  abbrev pub final : Path → ℕ
  final (start i) = get_or M.initials i 0
  final (more p n) = M.target n

  -- "A path starts at an initial state with nothing passed on either side": the datum at a path's end, if every arc fits
  abbrev pub datum : Path → Option M.D
  datum (start i) = some M.d₀
  datum (more p n) = bind (datum p) (M.follow n)

  -- "A path accepts if its last state is terminal and every given word is read to its end."
  abbrev pub accepts : Path → Bool
  accepts p = M.terminal (final p) && tested (datum p) M.done

  -- "Its reading is the output"
  abbrev pub output : Path → List ℕ
  output (start i) = []
  output (more p n) = output p ++ listed (datum p) (M.writes n)

  -- n is the number of an arc of state s
  abbrev pub ArcOf : ℕ → ℕ → Type 0
  ArcOf s n = (M.first s ≤ n) × (n < M.first s + M.arity s)

  -- a path that the words allow
  abbrev pub Allowed : Path → Type 0
  Allowed (start i) = i < length M.initials
  Allowed (more p n) = Allowed p × ArcOf (final p) n × ((d : M.D) × (datum (more p n) ≡ some d))

  -- the limit is above the arcs of every path that the words allow
  abbrev pub Bounded : Type 0
  Bounded = (p : Path) → Allowed p → size p < M.limit
