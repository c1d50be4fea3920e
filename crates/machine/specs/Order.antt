-- The order in which the tour holds paths, said without the tour: by place of the initial state, then arc number at the first difference, a
-- path before its continuations. It is the order of words over the numbers of a path. Document 01 tells the tour; that its paths stand in
-- this order is proved (`listed`).
use Rattle.std.specs.Prelude.{ℕ, ◌≡◌, ◌↔◌, Bool, true}
use mathlib.Core.List.{List, [], ◌∷◌, Memᴰ}
use Rattle.graph.specs.Lists.{keep, Before}
use Rattle.machine.specs.Machine.{Machine, Path, numbers, accepts, output, Allowed}

-- each path stands before all that come later, so that none is repeated
abbrev pub Rising : List Path → Type 0
Rising [] = Unit {0}
Rising (p ∷ ps) = ((r : Path) → Memᴰ r ps → Before (numbers p) (numbers r)) × Rising ps

-- the accepting ones of a list of paths
abbrev pub accepting : Machine → List Path → List Path
accepting M ps = keep (accepts M) ps

-- their readings
abbrev pub outputs : Machine → List Path → List (List ℕ)
outputs M [] = []
outputs M (p ∷ ps) = output M p ∷ outputs M ps

-- ps lists the paths that the words allow, each once, in order
pub record ListsAllowed (M : Machine) (ps : List Path) : Type 0 where
  pub rising : Rising ps
  pub members : (p : Path) → Memᴰ p ps ↔ Allowed M p

-- ps lists the accepting ones among them, each once, in order
pub record Lists (M : Machine) (ps : List Path) : Type 0 where
  pub rising : Rising ps
  pub members : (p : Path) → Memᴰ p ps ↔ (Allowed M p × (accepts M p ≡ true))

-- M narrows N: its accepting paths are those of N that pass a test
abbrev pub Narrows : Machine → Machine → (Path → Bool) → Type 0
Narrows M N test = (p : Path) → (Allowed M p × (accepts M p ≡ true)) ↔ ((Allowed N p × (accepts N p ≡ true)) × (test p ≡ true))
