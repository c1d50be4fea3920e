-- At every turn, storing the bytes that are left gives what storing all of them gives.
use Prim.Native.Nat.{◌+◌, ◌*◌}
use mathlib.Core.Path.{◌≡◌}
use lib.ListN.{drop}
use lib.Seq.{sets}
use Rattle.table_format.specs.Line.{chars_of}
use Rattle.table_printer.proofs.put_bytes.Given as goal

abbrev pub invariant-loop-k : goal.invariant-loop-k
invariant-loop-k l = sets l.text (l.at + 2 * l.k) (chars_of (drop l.k l.bytes)) ≡ sets l.initial.text l.at (chars_of l.bytes)
