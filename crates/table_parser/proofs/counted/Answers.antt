use mathlib.Core.List.{◌∷◌}
use lib.ListN.{replicate}
use Prim.Native.Nat.{◌-◌}
use Rattle.table_format.specs.Loaded.{classes_at, most_cells}
use Rattle.table_items.specs.Draft.{filled_up}
use Rattle.table_parser.proofs.counted.Goals as goal

pub returns : goal.returns
unfolding filled_up
returns c = λ i. c.number_at.ensures i ∷ c.number_at-2.ensures i ∷ c.number_at-3.ensures i ∷ c.number_at-4.ensures i ∷ replicate (most_cells - classes_at) 0
