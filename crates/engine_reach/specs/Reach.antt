-- What the marking of reached states says. A cell is true once its state is met; the states that are met stand in a list, in the order in which
-- they were.
use Rattle.std.specs.Prelude.{ℕ, suc, ◌+◌, ◌<◌, ◌≤◌, ◌≡◌, ◌⊎◌, Bool, true, false, List, [], ◌∷◌, length, get_or}
use Rattle.table_format.specs.Cells.{arcs_as}
use Rattle.graph.specs.Walk.{Walk}
use Rattle.graph.specs.Reached.{Reached}
use Rattle.machine.specs.Idle.{AnyArc}

-- a state is met
abbrev pub IsMet : List Bool → ℕ → Type 0
IsMet met s = get_or met s false ≡ true

-- how many states are not
abbrev pub unmet : List Bool → ℕ
unmet [] = 0
unmet (true ∷ l) = unmet l
unmet (false ∷ l) = suc (unmet l)

-- the states that are met are the first of the order
pub record Listed (met : List Bool) (order : List ℕ) (count : ℕ) : Type 0 where
  pub width : length met ≡ 256
  pub order_long : length order ≡ 256
  -- as many as are met: none stands there twice, and there is room for all
  pub once : count + unmet met ≡ 256
  -- all that are met stand there, and no others
  pub listed : (s : ℕ) → IsMet met s → ((i : ℕ) → i < count → get_or order i 0 ≡ s → ⊥) → ⊥
  pub marked : (i : ℕ) → i < count → IsMet met (get_or order i 0)

-- all that are met are below n
abbrev pub MetWithin : ℕ → List Bool → Type 0
MetWithin n met = (s : ℕ) → IsMet met s → s < n

-- some states are visited: of these each that was not met is, and all others stay
pub record Visited (Who : ℕ → Type 0) (before after : List Bool) : Type 0 where
  pub kept : (s : ℕ) → IsMet before s → IsMet after s
  pub covered : (s : ℕ) → Who s → IsMet after s
  pub only : (s : ℕ) → get_or before s false ≡ false → IsMet after s → Who s

-- and those that are met by that come behind the others
pub record Meets (Who : ℕ → Type 0) (before : List Bool) (order : List ℕ) (count : ℕ) (after : List Bool) (order' : List ℕ) (count' : ℕ) : Type 0 where
  pub visited : Visited Who before after
  pub no_fewer : count ≤ count'
  pub in_place : (i : ℕ) → i < count → get_or order' i 0 ≡ get_or order i 0

-- the states met before and all to which edges of E lead from them are met, and no others
pub record Spread (E : ℕ → ℕ → Type 0) (before after : List Bool) : Type 0 where
  pub kept : (s : ℕ) → IsMet before s → IsMet after s
  pub closed : (s r : ℕ) → IsMet after s → E s r → IsMet after r
  pub only : (s : ℕ) → IsMet after s → (x : ℕ) × IsMet before x × ((x ≡ s) ⊎ Walk E x s)

-- a state is reached by arcs, whatever their letters
abbrev pub ReachedBy : List ℕ → List ℕ → ℕ → Type 0
ReachedBy arcs initials = Reached (AnyArc (arcs_as arcs)) initials

-- whether a state is reached
abbrev pub ReachedCells : List ℕ → List ℕ → List Bool → Type 0
ReachedCells arcs initials reached = (s : ℕ) → ((get_or reached s false ≡ true) × ReachedBy arcs initials s) ⊎ ((get_or reached s false ≡ false) × (ReachedBy arcs initials s → ⊥))
