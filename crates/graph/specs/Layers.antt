-- Distances to a state s by the layers of a breadth-first search backwards from s: the number at s is 1, elsewhere one more than the edges of a
-- shortest walk to s; it is 0 where no walk is found yet.
use Rattle.std.specs.Prelude.{ℕ, suc, ◌<◌, ◌≤◌, ◌≡◌}

module _ (E : ℕ → ℕ → Type 0) where
  -- one layer: the states without a number from which an edge leads to number far get the next one, and no other number changes
  pub record Layer (far : ℕ) (d after : ℕ → ℕ) : Type 0 where
    pub kept : (x : ℕ) → 0 < d x → after x ≡ d x
    pub added : (x : ℕ) → d x ≡ 0 → 0 < after x → (after x ≡ suc far) × ((y : ℕ) × E x y × (d y ≡ far))
    pub covered : (x y : ℕ) → E x y → d y ≡ far → 0 < after x

  -- all numbers up to far are given, and no edge leads from s to a number below far
  pub record Layers (s : ℕ) (d : ℕ → ℕ) (far : ℕ) : Type 0 where
    pub at-state : d s ≡ 1
    pub only-state : (x : ℕ) → d x ≡ 1 → x ≡ s
    pub bounded : (x : ℕ) → d x ≤ far
    pub settled : (x y : ℕ) → E x y → 0 < d y → d y < far → (0 < d x) × (d x ≤ suc (d y))
    pub leads-on : (x : ℕ) → 1 < d x → (y : ℕ) × E x y × (suc (d y) ≡ d x)
    pub not_yet : (y : ℕ) → E s y → 0 < d y → far ≤ d y
