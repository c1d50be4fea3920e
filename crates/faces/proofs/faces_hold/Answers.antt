-- At every turn the faces so far hold, and are those that are marked.
use Rattle.std.proofs.Common.{rules}
use mathlib.Core.Path.{sym}
use Rattle.faces.proofs.Faces.{seen_none, seen_more, face-outside, face-again, faces-other, faces_hold_lem}
use Rattle.faces.proofs.faces_hold.Goals as goal
use Rattle.faces.proofs.faces_hold.Goals.{then-not-contains-via-then-not-contains, then-not-contains-via-else-not-contains+then-seen-face}

pub returns-then-faces-ne-FACES : goal.returns-then-faces-ne-FACES
returns-then-faces-ne-FACES c = sym (faces-other c.args.faces.now c.if-faces-ne-FACES.true)

pub loop-face-init : goal.loop-face-init
loop-face-init c = seen_none c.args.faces.now

pub returns-then-not-contains : goal.returns-then-not-contains
returns-then-not-contains c =
    elim c.then-not-contains.branch [
      | then-not-contains-via-then-not-contains w ↦ sym (face-outside c.args.faces.now _ _ _ c.loop-face.invariant c.loop-face-test.true c.from-face.ensures (λ low high. absurd (search rules)))
      | then-not-contains-via-else-not-contains+then-seen-face w ↦ sym (face-again c.args.faces.now _ _ _ c.loop-face.invariant c.loop-face-test.true c.from-face.ensures (search rules) (search rules) w.if-seen-face.true)
    ]

pub loop-face-preserved : goal.loop-face-preserved
loop-face-preserved c =
    seen_more c.args.faces.now _ _ _ c.loop-face.invariant c.loop-face-test.true c.from-face.ensures (search rules) (search rules) c.if-seen-face.false

pub returns : goal.returns
returns c = sym (faces_hold_lem c.args.faces.now c.loop-face.face-index c.loop-face.invariant.hold c.if-faces-ne-FACES.false c.loop-face-test.false)
