-- What the call for a reading knows once 20, 11, 10 and 39 are not given.
use Rattle.std.specs.Prelude.{ℕ, ◌≡◌, List}
use Rattle.std.proofs.Math.Option.{some}
use Rattle.table_format.specs.Loaded.{table_in, loaded}
use Rattle.table_format.specs.Index.{first_arcs}
use Rattle.machine.specs.Query.{Task, task_of}
use Rattle.machine.specs.Asked.{runs, asked}

-- none of 20, 11, 10 and 39 is given, and `first` is the table's first-arc index
pub record Admitted (cells : List ℕ) (task : ℕ) (upper lower : List ℕ) (ceiling : ℕ) (first : List ℕ) : Type 0 where
  pub asks : Task
  pub task-is : task_of task ≡ some asks
  pub loads : loaded cells ≡ some (table_in cells)
  pub runs-is : asked cells task upper lower ceiling ≡ runs (table_in cells) (record { task = asks; upper_word = upper; lower_word = lower; ceiling = ceiling })
  pub index : first ≡ first_arcs (table_in cells)
