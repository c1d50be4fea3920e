-- Whether a walk comes back, computed: e tells the edges among the states below n.
use Rattle.std.specs.Prelude.{ℕ, zero, suc, Bool, List}
use Rattle.table_format.specs.Rules.{any}
use Rattle.graph.specs.Lists.{member, keep, up_to}

-- how many states a walk that comes back goes through: fewer than n are enough
abbrev pub enough : ℕ → List ℕ
enough n = up_to n

module _ (e : ℕ → ℕ → Bool) (n : ℕ) where
  -- the states from which a walk through m states leads to s
  abbrev pub back_in : ℕ → ℕ → List ℕ
  back_in s zero = keep (λ x. e x s) (up_to n)
  back_in s (suc m) = keep (λ x. any (e x) (back_in s m)) (up_to n)

  -- a walk through m states leads from s to s
  abbrev pub back_after : ℕ → ℕ → Bool
  back_after s m = member s (back_in s m)

  -- some walk leads from s to s
  abbrev pub on_cycle : ℕ → Bool
  on_cycle s = any (back_after s) (enough n)
