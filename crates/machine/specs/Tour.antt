-- Document 01, "Tour and demand 3" (a depth-first traversal), and the search tree's size.
use Rattle.std.specs.Prelude.{ℕ, zero, suc, ◌+◌, ◌-◌, Bool, true, false, List, [], ◌∷◌, ◌++◌, length}
use Rattle.std.proofs.Math.Option.{Option, none, some}
use Rattle.machine.specs.Machine.{Machine, Path, start, more, size, final, datum, accepts, output}

-- an entry holds a path or is empty
abbrev pub Entry : Type 0
Entry = Option Path

-- "there is one entry: if the arc fits, it holds the path with that arc added, and what follows the longer path comes next; if not, it
-- is empty"; r is what stands after
abbrev pub branch : {A : Type 0} → Option A → (Path → List Entry) → Path → List Entry → List Entry
branch none g p r = none ∷ r
branch (some d) g p r = some p ∷ (g p ++ r)

-- the paths that entries hold
abbrev pub paths_in : List Entry → List Path
paths_in [] = []
paths_in (none ∷ es) = paths_in es
paths_in (some p ∷ es) = p ∷ paths_in es

-- the paths l where the arc fits, then r
abbrev pub nodes_if : {A : Type 0} → Option A → List Path → List Path → List Path
nodes_if none l r = r
nodes_if (some d) l r = l ++ r

module _ (M : Machine) where
  -- what follows p, of whose last state k arcs from n on are left, if g says what follows each longer path:
  -- "For each arc of its last state, by rising number .. After the last arc there is one empty entry."
  abbrev pub trail : (Path → List Entry) → Path → ℕ → ℕ → List Entry
  trail g p n zero = none ∷ []
  trail g p n (suc k) = branch (datum M (more p n)) g (more p n) (trail g p (suc n) k)

  -- what follows p, to c arcs more
  unfoldable pub following : ℕ → Path → List Entry
  following zero p = []
  following (suc c) p = trail (λ r. following c r) p (M.first (final M p)) (M.arity (final M p))

  -- what follows p; where the limit is a bound, this is `trail after` for the arcs of p's last state (following-is)
  abbrev pub after : Path → List Entry
  after p = following (M.limit - size p) p

  -- "For each listed initial state in turn it has an entry with that state's path of no arcs, then what follows this path":
  -- k initial states from place i on
  abbrev pub tour_from : (Path → List Entry) → ℕ → ℕ → List Entry
  tour_from g i zero = []
  tour_from g i (suc k) = some (start i) ∷ (g (start i) ++ tour_from g (suc i) k)

  -- "The tour is a list of entries made from table, task and words alone."
  unfoldable pub tour : List Entry
  tour = tour_from after 0 (length M.initials)

  -- "One reading per path: two paths with the same output give it twice."
  abbrev pub reading_if : Bool → List ℕ → List (List ℕ)
  reading_if true o = o ∷ []
  reading_if false o = []

  -- the reading of an entry, if it holds an accepting path
  abbrev pub reading : Entry → List (List ℕ)
  reading none = []
  reading (some p) = reading_if (accepts M p) (output M p)

  -- "The readings of its accepting paths, in order"
  unfoldable pub readings : List Entry → List (List ℕ)
  readings [] = []
  readings (e ∷ es) = reading e ++ readings es

  -- The search tree, told from paths and not from the tour: p and the paths that go on from it by fewer than c arcs.

  -- the paths that go on from p by its last state's arcs from n on, k of them; h lists those of each longer path
  abbrev pub longer : (Path → List Path) → Path → ℕ → ℕ → List Path
  longer h p n zero = []
  longer h p n (suc k) = nodes_if (datum M (more p n)) (h (more p n)) (longer h p (suc n) k)

  -- p and the paths that go on from it by fewer than c arcs
  abbrev pub paths_from : ℕ → Path → List Path
  paths_from zero p = []
  paths_from (suc c) p = p ∷ longer (λ r. paths_from c r) p (M.first (final M p)) (M.arity (final M p))

  -- the same for k initial states from place i on
  abbrev pub paths_of : ℕ → ℕ → ℕ → List Path
  paths_of c i zero = []
  paths_of c i (suc k) = paths_from c (start i) ++ paths_of c (suc i) k

  -- every path that the words allow (paths_listed shows that they are these)
  abbrev pub allowed_paths : List Path
  allowed_paths = paths_of M.limit 0 (length M.initials)

  -- "for every path that the word allows, accepting or not, the arcs of its last state plus one"
  abbrev pub weight : List Path → ℕ
  weight [] = 0
  weight (p ∷ ps) = (M.arity (final M p) + 1) + weight ps

  -- "The search tree's size is the number of initial states plus" that
  abbrev pub tree_size : ℕ
  tree_size = length M.initials + weight allowed_paths
