-- Walks whose edges cost 0 or 1.
use Rattle.std.specs.Prelude.{ℕ, suc}

module _ (A Free : ℕ → ℕ → Type 0) (s : ℕ) where
  -- a walk from s to a state, of so many edges and of such a cost: an edge of Free costs nothing, one of A costs 1
  pub data Costly : ℕ → ℕ → ℕ → Type 0 where
    stay : Costly s 0 0
    freely : {x r m k : ℕ} → Costly x m k → Free x r → Costly r (suc m) k
    paying : {x r m k : ℕ} → Costly x m k → A x r → Costly r (suc m) (suc k)
