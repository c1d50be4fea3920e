-- Walks in a graph on numbers: E s r says that an edge leads from s to r.
use Rattle.std.specs.Prelude.{ℕ, ◌<◌, ◌≡◌, ◌↔◌, Bool, true, List, [], ◌∷◌}
use Rattle.graph.specs.Lists.{Distinct}

module _ (E : ℕ → ℕ → Type 0) where
  -- edges lead from s through the states l to r, in their order
  abbrev pub Through : ℕ → List ℕ → ℕ → Type 0
  Through s [] r = E s r
  Through s (x ∷ l) r = E s x × Through x l r

  -- a walk of one or more edges
  abbrev pub Walk : ℕ → ℕ → Type 0
  Walk s r = (l : List ℕ) × Through s l r

  -- a cycle, by its states: through all of them and back to the first, none twice
  abbrev pub CycleStates : List ℕ → Type 0
  CycleStates [] = ⊥
  CycleStates (s ∷ l) = Through s l s × Distinct (s ∷ l)

  -- the edges lead among the states below n
  abbrev pub Among : ℕ → Type 0
  Among n = (s r : ℕ) → E s r → (s < n) × (r < n)

  -- a test tells the edges
  abbrev pub Decides : (ℕ → ℕ → Bool) → Type 0
  Decides e = (s r : ℕ) → (e s r ≡ true) ↔ E s r
