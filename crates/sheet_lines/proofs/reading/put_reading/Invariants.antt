-- At every turn, storing the lines that are left gives what storing all of them gives.
use Prim.Native.Nat.{◌+◌, ◌*◌}
use mathlib.Core.Path.{◌≡◌}
use mathlib.Core.List.{map}
use lib.ListN.{length}
use Rattle.std.specs.Slice.Iter.{chunks_rest, chunks_size}
use Rattle.faces.specs.Faces.{face_of}
use Rattle.sheet_lines.specs.Lines.{line_size, row_letters, lines_for}
use Rattle.sheet_lines.proofs.Stores.{Going}
use Rattle.sheet_lines.proofs.reading.put_reading.Given as goal

abbrev pub invariant-loop-row : goal.invariant-loop-row
invariant-loop-row l =
    (chunks_size l.row-iterator ≡ row_letters)
    × Going (map (face_of l.faces) l.letters) l.initial.sheet l.initial.to (l.at + line_size * lines_for (length l.letters)) (face_of l.faces) l.sheet l.to (chunks_rest l.row-iterator)
