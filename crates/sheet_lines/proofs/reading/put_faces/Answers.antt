-- At every turn, storing the faces that are left gives what storing all of them gives.
use Prim.Native.Nat.{ℕ, ◌-◌}
use native.Mathlib.Omega.{arith}
use mathlib.Core.Path.{ap, ◌∙◌}
use mathlib.Core.List.{map}
use lib.ListN.{get_or, length-set, length-map}
use Rattle.faces.specs.Faces.{face_of}
use Rattle.sheet_lines.proofs.Lists.{map_at}
use Rattle.destination.proofs.Putting.{next-stored}
use Rattle.sheet_lines.proofs.reading.put_faces.Goals as goal

pub loop-k-preserved : goal.loop-k-preserved
loop-k-preserved c =
    let args = c.args in
    let faces = map (face_of args.faces.now) args.letters.now in
    let size = length-map args.letters.now (face_of args.faces.now) in
    let face = ap (λ (x : ℕ). get_or args.faces.now (x - 1) 0) c.from.ensures ∙ map_at (face_of args.faces.now) args.letters.now c.loop-k.k c.loop-k-test.true in
    (simp length-set c.loop-k.invariant.0, next-stored c.loop-k.sheet args.at faces c.loop-k.k _ (omega arith) face ∙ c.loop-k.invariant.1)
