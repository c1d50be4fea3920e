-- Small graphs, computed.
use Prim.Native.Nat.{ℕ}
use mathlib.Core.Path.{◌≡◌, refl}
use mathlib.Core.Bool.{Bool, ◌&&◌}
use mathlib.Core.List.{List, [], ◌∷◌}
use lib.Dec.{eqb}
use Rattle.table_format.specs.Rules.{any}
use Rattle.graph.specs.Shown.{shown_cycle}

-- the edges of a list
abbrev among : List (ℕ × ℕ) → ℕ → ℕ → Bool
among l s r = any (λ g. eqb g.0 s && eqb g.1 r) l

abbrev shown : List (ℕ × ℕ) → ℕ → List ℕ → List ℕ
shown l n starts = shown_cycle (among l) (among l) n starts

-- a loop at a state that is not reached
not-reached : shown ((3, 3) ∷ (0, 1) ∷ []) 4 (0 ∷ []) ≡ []
unfolding shown_cycle
not-reached = refl

-- the same from there
from-there : shown ((3, 3) ∷ (0, 1) ∷ []) 4 (0 ∷ 3 ∷ []) ≡ 3 ∷ []
unfolding shown_cycle
from-there = refl

-- a loop at 1, and the lower state 0 on a longer cycle
lowest-first : shown ((1, 1) ∷ (1, 2) ∷ (2, 0) ∷ (0, 2) ∷ (2, 1) ∷ []) 3 (2 ∷ []) ≡ 0 ∷ 2 ∷ []
unfolding shown_cycle
lowest-first = refl

-- the lowest next state leads back only by a longer way
shortest-first : shown ((0, 1) ∷ (1, 2) ∷ (2, 0) ∷ (0, 3) ∷ (3, 0) ∷ []) 4 (0 ∷ []) ≡ 0 ∷ 3 ∷ []
unfolding shown_cycle
shortest-first = refl

-- two of one length, the first difference decides
first_difference : shown ((0, 1) ∷ (1, 4) ∷ (4, 0) ∷ (0, 2) ∷ (2, 3) ∷ (3, 0) ∷ []) 5 (0 ∷ []) ≡ 0 ∷ 1 ∷ 4 ∷ []
unfolding shown_cycle
first_difference = refl
