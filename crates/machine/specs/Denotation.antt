-- The readings of a machine by recursion on states and data, without paths: what a state tells with a datum and with the letters written so
-- far, then what its arcs lead to, by rising number. The tour's readings are these (`tour-tells`).
use Rattle.std.specs.Prelude.{ℕ, zero, suc, ◌&&◌, List, [], ◌∷◌, ◌++◌}
use Rattle.std.proofs.Math.Option.{Option, none, some}
use Rattle.machine.specs.Machine.{Machine}
use Rattle.machine.specs.Tour.{reading_if}

-- what an arc leads to, where it fits
abbrev pub if_fits : {A : Type 0} → Option A → (A → List (List ℕ)) → List (List ℕ)
if_fits none f = []
if_fits (some a) f = f a

module _ (M : Machine) where
  -- k arcs from n on, at a datum and with o written; g says what a state tells
  abbrev pub arcs_tell : (ℕ → M.D → List ℕ → List (List ℕ)) → M.D → List ℕ → ℕ → ℕ → List (List ℕ)
  arcs_tell g d o n zero = []
  arcs_tell g d o n (suc k) = if_fits (M.follow n d) (λ e. g (M.target n) e (o ++ M.writes n d)) ++ arcs_tell g d o (suc n) k

  -- a state, to c arcs more
  unfoldable pub state_tells : ℕ → ℕ → M.D → List ℕ → List (List ℕ)
  state_tells zero s d o = reading_if M (M.terminal s && M.done d) o
  state_tells (suc c) s d o = reading_if M (M.terminal s && M.done d) o ++ arcs_tell (λ r e w. state_tells c r e w) d o (M.first s) (M.arity s)

  -- the initial states, as listed
  abbrev pub initials_tell : List ℕ → List (List ℕ)
  initials_tell [] = []
  initials_tell (s ∷ ss) = state_tells M.limit s M.d₀ [] ++ initials_tell ss
