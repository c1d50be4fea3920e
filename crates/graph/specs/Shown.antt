-- Which of the cycles is shown, declared and computed: edges of A reach, those of E make the cycle.
use Rattle.std.specs.Prelude.{ℕ, zero, suc, ◌≤◌, ◌≡◌, ◌⊎◌, Bool, cond, ◌&&◌, List, [], ◌∷◌, length}
use Rattle.table_format.specs.Rules.{any}
use Rattle.graph.specs.Lists.{Before, member, up_to, lowest}
use Rattle.graph.specs.Walk.{Through, Walk}
use Rattle.graph.specs.Cycle.{back_in, back_after, on_cycle}
use Rattle.graph.specs.Reached.{Reached, reached}

-- the cycle from s through l back to s is a shortest one through s, and among those the one whose states come first
pub record FirstCycle (E : ℕ → ℕ → Type 0) (s : ℕ) (l : List ℕ) : Type 0 where
  pub closed : Through E s l s
  pub shortest : (k : List ℕ) → Through E s k s → length l ≤ length k
  pub first : (k : List ℕ) → Through E s k s → length k ≡ length l → (k ≡ l) ⊎ Before l k

module _ (A E : ℕ → ℕ → Type 0) (starts : List ℕ) where
  -- such a cycle, and s is the lowest reached state that is on one
  pub record ShownFrom (s : ℕ) (l : List ℕ) : Type 0 where
    pub is-reached : Reached A starts s
    pub lowest-state : (r : ℕ) → Reached A starts r → Walk E r r → s ≤ r
    pub cycle : FirstCycle E s l

  -- the same, of the list of all its states, s first
  abbrev pub Shown : List ℕ → Type 0
  Shown [] = ⊥
  Shown (s ∷ l) = ShownFrom s l

module _ (e : ℕ → ℕ → Bool) (n s : ℕ) where
  -- the lowest state after x from which a walk through m states leads to s
  abbrev pub next_through : ℕ → ℕ → ℕ
  next_through m x = lowest (λ y. e x y && member y (back_in e n s m)) n

  -- the first walk from x through m states to s, each time by the lowest state from which it can go on
  abbrev pub first_through : ℕ → ℕ → List ℕ
  first_through zero x = []
  first_through (suc m) x = next_through m x ∷ first_through m (next_through m x)

  -- the shortest and first cycle through s
  abbrev pub cycle_from : List ℕ
  cycle_from = s ∷ first_through (lowest (back_after e n s) n) s

module _ (a e : ℕ → ℕ → Bool) (n : ℕ) (starts : List ℕ) where
  -- s is reached and on a cycle
  abbrev pub looped : ℕ → Bool
  looped s = member s (reached a n starts) && on_cycle e n s

  -- some state is
  abbrev pub has_reached_cycle : Bool
  has_reached_cycle = any looped (up_to n)

  -- the cycle that is shown; none where there is no cycle
  unfoldable pub shown_cycle : List ℕ
  shown_cycle = cond has_reached_cycle (cycle_from e n (lowest looped n)) []
