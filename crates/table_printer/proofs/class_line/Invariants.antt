-- At every turn, the bytes begin with the kind, the class and the letters passed.
use Prim.Native.Nat.{◌+◌, ◌≤◌}
use mathlib.Core.Path.{◌≡◌}
use mathlib.Core.List.{◌∷◌}
use lib.ListN.{length, take}
use Rattle.table_format.specs.Classes.{row_width, letters_in}
use Rattle.table_format.specs.Text.{line_bytes}
use Rattle.table_printer.proofs.class_line.Given as goal

abbrev pub invariant-loop-k : goal.invariant-loop-k
invariant-loop-k l =
    (l.count ≡ length (letters_in l.row))
    × (l.count ≤ row_width)
    × (length l.bytes ≡ line_bytes)
    × (take (l.k + 2) l.bytes ≡ 6 ∷ l.class ∷ take l.k l.row)
