-- At every turn the faces so far hold, and are those that are marked.
use Rattle.faces.proofs.Faces.{Seen}
use Rattle.faces.proofs.faces_hold.Given as goal

abbrev pub invariant-loop-face : goal.invariant-loop-face
invariant-loop-face l = Seen l.faces l.seen l.face-index
