-- What edges reach from the starts, declared and computed.
use Rattle.std.specs.Prelude.{ℕ, zero, suc, Bool, ◌||◌}
use mathlib.Core.List.{List, [], ◌∷◌, Memᴰ}
use Rattle.table_format.specs.Rules.{any}
use Rattle.graph.specs.Lists.{member, keep, up_to}
use Rattle.graph.specs.Walk.{Walk, CycleStates}

-- the starts, and what an edge leads to from a reached state
module _ (E : ℕ → ℕ → Type 0) (starts : List ℕ) where
  pub data Reached : ℕ → Type 0 where
    initial : {s : ℕ} → Memᴰ s starts → Reached s
    by_edge : {s r : ℕ} → Reached s → E s r → Reached r

-- no state that edges of A reach is on a cycle of E
abbrev pub NoReachedCycle : (A E : ℕ → ℕ → Type 0) → List ℕ → Type 0
NoReachedCycle A E starts = (s : ℕ) → Reached A starts s → Walk E s s → ⊥

-- a cycle of E, by its states, none twice, whose first state edges of A reach
abbrev pub ReachedCycle : (A E : ℕ → ℕ → Type 0) → List ℕ → List ℕ → Type 0
ReachedCycle A E starts [] = ⊥
ReachedCycle A E starts (s ∷ l) = Reached A starts s × CycleStates E (s ∷ l)

module _ (e : ℕ → ℕ → Bool) (n : ℕ) where
  -- l, and where an edge leads from one of l
  abbrev pub spread : List ℕ → List ℕ
  spread l = keep (λ r. member r l || any (λ s. e s r) l) (up_to n)

  -- what at most k edges reach
  abbrev pub reached_in : List ℕ → ℕ → List ℕ
  reached_in starts zero = starts
  reached_in starts (suc k) = spread (reached_in starts k)

  -- what is reached: n edges are enough
  abbrev pub reached : List ℕ → List ℕ
  reached starts = reached_in starts n
