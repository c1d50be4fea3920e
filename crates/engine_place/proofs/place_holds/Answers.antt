use Rattle.std.proofs.Common.{[], not, ap, ◌∙◌, eq-eqb, arith}
use Rattle.engine_step.specs.Setting.{query_by, table_by}
use Rattle.engine_place.proofs.Placing.{over-list, over-room, no_frames, no_start, chain_decides, positive}
use Rattle.engine_place.proofs.place_holds.Goals as goal
use Rattle.engine_place.proofs.place_holds.Goals.{then-setting-run-via-then-setting-run, then-setting-run-via-else-setting-run+then-run-gt-MOST_FRAMES, then-setting-run-via-else-setting-run+else-run-gt-MOST_FRAMES+then-frames_in-used}

pub returns-then-setting-run : goal.returns-then-setting-run
returns-then-setting-run c =
    let a = c.args in
    let x = a.setting in
    elim c.then-setting-run.branch [
      | then-setting-run-via-then-setting-run w ↦ over-list (table_by x.setup x.classes.now x.initials.now [] x.arcs.now) (query_by x.setup x.upper.now x.lower.now) a.run.started a.run.depth a.stack.now w.if-setting-run.true
      | then-setting-run-via-else-setting-run+then-run-gt-MOST_FRAMES w ↦ over-room (table_by x.setup x.classes.now x.initials.now [] x.arcs.now) (query_by x.setup x.upper.now x.lower.now) a.run.started a.run.depth a.stack.now (omega (arith, w.if-run-gt-MOST_FRAMES.true))
      | then-setting-run-via-else-setting-run+else-run-gt-MOST_FRAMES+then-frames_in-used w ↦ over-room (table_by x.setup x.classes.now x.initials.now [] x.arcs.now) (query_by x.setup x.upper.now x.lower.now) a.run.started a.run.depth a.stack.now (omega (arith, w.frames_in.ensures, w.if-frames_in-used.true))
    ]

pub returns-then-used-eq0 : goal.returns-then-used-eq0
returns-then-used-eq0 c =
    let a = c.args in
    let x = a.setting in
    eq-eqb _ 0 c.if-used-eq0.true ∙ no_frames (table_by x.setup x.classes.now x.initials.now [] x.arcs.now) (query_by x.setup x.upper.now x.lower.now) a.run.started a.run.depth a.stack.now c.if-setting-run.false (omega (arith, c.frames_in.ensures, c.if-frames_in-used.false, c.if-run-gt-MOST_FRAMES.false)) c.if-used-eq0.true

pub returns-then-run-ne0 : goal.returns-then-run-ne0
returns-then-run-ne0 c =
    let a = c.args in
    let x = a.setting in
    chain_decides (table_by x.setup x.classes.now x.initials.now [] x.arcs.now) (query_by x.setup x.upper.now x.lower.now) a.run.started a.run.depth a.stack.now c.if-setting-run.false (omega (arith, c.frames_in.ensures, c.if-frames_in-used.false, c.if-run-gt-MOST_FRAMES.false)) c.if-used-eq0.false (positive a.run.started c.if-run-ne0.true) _ c.frames_hold.ensures

pub returns-else-run-ne0 : goal.returns-else-run-ne0
returns-else-run-ne0 c =
    let a = c.args in
    let x = a.setting in
    ap not (eq-eqb _ 0 c.if-run-ne0.false) ∙ no_start (table_by x.setup x.classes.now x.initials.now [] x.arcs.now) (query_by x.setup x.upper.now x.lower.now) a.run.started a.run.depth a.stack.now c.if-setting-run.false (omega (arith, c.frames_in.ensures, c.if-frames_in-used.false, c.if-run-gt-MOST_FRAMES.false)) c.if-used-eq0.false c.if-run-ne0.false
