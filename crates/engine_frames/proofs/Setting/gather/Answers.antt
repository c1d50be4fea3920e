use mathlib.Core.Path.{◌∙◌}
use native.Mathlib.Omega.{arith}
use Rattle.engine_frames.proofs.Gathered.{filled_none, no_letter-there, letter-there, filled-length, room-left, letter_of_lem}
use Rattle.engine_frames.proofs.Setting.gather.Goals as goal
use Rattle.engine_frames.proofs.Setting.gather.Goals.{else-letter-ne0, then-letter-ne0}

pub loop-i-init : goal.loop-i-init
loop-i-init c = let a = c.args.self in filled_none a.setup a.arcs.now a.upper.now a.lower.now c.args.stack.now c.args.output.now

pub bounds-output-k : goal.bounds-output-k
bounds-output-k c =
    let a = c.args.self in
    let r = c.args in
    let p = c.requires in
    let e = letter_of_lem a.setup a.arcs.now a.upper.now a.lower.now r.stack.now r.output.now c.loop-i.i _ _ _ c.look-f.ensures c.arc_at-arc.ensures c.written_letter-letter.ensures in
    omega (arith, filled-length a.setup a.arcs.now a.upper.now a.lower.now r.stack.now r.output.now c.loop-i.i r.depth c.loop-i.k c.loop-i.output (omega arith) p.depth_in_bounds c.loop-i.invariant, room-left a.setup a.arcs.now a.upper.now a.lower.now r.stack.now r.output.now c.loop-i.i r.depth c.loop-i.k _ c.loop-i.output c.loop-i-test.true p.depth_in_bounds c.loop-i.invariant e c.if-letter-ne0.true)

pub loop-i-preserved : goal.loop-i-preserved
loop-i-preserved c =
    let a = c.args.self in
    let r = c.args in
    let e = letter_of_lem a.setup a.arcs.now a.upper.now a.lower.now r.stack.now r.output.now c.loop-i.i _ _ _ c.look-f.ensures c.arc_at-arc.ensures c.written_letter-letter.ensures in
    let room = room-left a.setup a.arcs.now a.upper.now a.lower.now r.stack.now r.output.now c.loop-i.i r.depth c.loop-i.k _ c.loop-i.output c.loop-i-test.true c.requires.depth_in_bounds c.loop-i.invariant e in
    elim c.if-letter-ne0.branch [ then-letter-ne0 w ↦ letter-there a.setup a.arcs.now a.upper.now a.lower.now r.stack.now r.output.now c.loop-i.i c.loop-i.k _ _ c.loop-i.output _ c.loop-i.invariant e w.if-letter-ne0.true (room w.if-letter-ne0.true) w.k-is w.output-is | else-letter-ne0 w ↦ no_letter-there a.setup a.arcs.now a.upper.now a.lower.now r.stack.now r.output.now c.loop-i.i c.loop-i.k _ c.loop-i.output _ c.loop-i.invariant (e ∙ w.if-letter-ne0.false) w.k-is w.output-is ]
