-- Where each state's arcs begin: the first arc of state q has as its number how many arcs have a source below q.
use Rattle.std.specs.Prelude.{ℕ, zero, suc, ◌+◌, ◌-◌, cond, List, [], ◌∷◌, ◌++◌, ltb, replicate}
use Rattle.table_format.specs.Table.{Arc, Table}

-- how many arcs have a source below q
abbrev pub below : ℕ → List Arc → ℕ
below q [] = 0
below q (a ∷ rest) = cond (ltb a.source q) (suc (below q rest)) (below q rest)

-- f at n numbers from i on
abbrev pub tabulate : (ℕ → ℕ) → ℕ → ℕ → List ℕ
tabulate f i zero = []
tabulate f i (suc n) = f i ∷ tabulate f (suc i) n

-- the first-arc index, for q from 0 to the count of states, filled up with zeros to 257 cells
unfoldable pub first_index : ℕ → List Arc → List ℕ
first_index states arcs = tabulate (λ q. below q arcs) 0 (states + 1) ++ replicate (256 - states) 0

abbrev pub first_arcs : Table → List ℕ
first_arcs t = first_index t.states t.arcs
