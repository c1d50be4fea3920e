-- At every turn, storing the faces that are left gives what storing all of them gives.
use Prim.Native.Nat.{◌+◌}
use mathlib.Core.Path.{◌≡◌}
use mathlib.Core.List.{map}
use lib.ListN.{length, drop}
use lib.Seq.{sets}
use Rattle.faces.specs.Faces.{face_of}
use Rattle.sheet_lines.proofs.reading.put_faces.Given as goal

abbrev pub invariant-loop-k : goal.invariant-loop-k
invariant-loop-k l = (length l.sheet ≡ length l.initial.sheet) × (sets l.sheet (l.at + l.k) (drop l.k (map (face_of l.faces) l.letters)) ≡ sets l.initial.sheet l.at (map (face_of l.faces) l.letters))
