-- At every turn, storing the lines of the readings that are left gives what storing all of them gives.
use Prim.Native.Nat.{ℕ, ◌+◌}
use native.Mathlib.Omega.{arith}
use mathlib.Core.Path.{sym, ap, subst, ◌∙◌}
use mathlib.Core.List.{List, map}
use lib.Seq.{sets}
use Rattle.std.specs.Iterator.Adapters.{enumerate_source, enumerate_count}
use Rattle.faces.specs.declared.list.Readings.{Readings}
use Rattle.faces.specs.Faces.{face_of}
use Rattle.sheet_lines.specs.Lines.{reading_lines, joined}
use Rattle.sheet.proofs.Stored.{Putting, putting_begun, putting_letters, putting_room, putting_more, putting_done}
use Rattle.sheet.proofs.writer.put_readings.Goals as goal

pub loop-before-init : goal.loop-before-init
loop-before-init c =
    let bytes = c.args.readings.now in
    let faces = c.args.faces.now in
    let sheet = c.args.sheet.now in
    let at = c.args.at in
    let same = c.into_iter-before-iterator.ensures.into_iter_gives in
    let count = ap (enumerate_count {I = Readings}) same ∙ c.enumerate-before-items.ensures.count in
    let source = ap (λ x. (enumerate_source {I = Readings} x).0.now) same ∙ ap (λ (x : Readings). x.0.now) c.enumerate-before-items.ensures.source in
    subst (λ (n : ℕ). Putting bytes faces sheet at sheet at (n + 1) (enumerate_source c.into_iter-before-iterator.result).0.now) (sym count)
    (subst (λ (rest : List ℕ). Putting bytes faces sheet at sheet at 1 rest) (sym source) (putting_begun bytes faces sheet at c.requires.readings_value))

pub put_reading-to-requires-clause-letters_value : goal.put_reading-to-requires-clause-letters_value
put_reading-to-requires-clause-letters_value c = putting_letters _ _ _ _ _ _ _ _ c.loop-before.invariant _ _ c.in-Some.ensures.steps.0

pub put_reading-to-requires-clause-letters_in_bounds : goal.put_reading-to-requires-clause-letters_in_bounds
put_reading-to-requires-clause-letters_in_bounds c =
    let room = putting_room _ _ _ _ _ _ _ _ c.loop-before.invariant _ _ c.in-Some.ensures.steps.0 in
    omega (arith, room, c.loop-before.invariant.same, c.requires.readings_in_bounds)

pub loop-before-preserved : goal.loop-before-preserved
loop-before-preserved c =
    let step = c.in-Some.ensures.steps in
    let faces = c.args.faces.now in
    let lines = map (face_of faces) c.in-Some.reading.now in
    let put = c.put_reading-to.ensures in
    subst (λ (n : ℕ). Putting c.args.readings.now faces c.args.sheet.now c.args.at c.put_reading-to.new.sheet c.put_reading-to.result (n + 1) (enumerate_source c.next.new.self).0.now) (sym step.2)
    (putting_more _ _ _ _ _ _ _ _ c.loop-before.invariant _ _ step.0 _ _ c.put_reading-to.auto.sheet put.0
    (put.1 ∙ ap (λ (n : ℕ). sets c.loop-before.sheet c.loop-before.to (joined (reading_lines (n + 1) lines))) step.1))

pub returns : goal.returns
returns c = putting_done _ _ _ _ _ _ _ _ c.loop-before.invariant c.in-None.ensures.steps.0.1
