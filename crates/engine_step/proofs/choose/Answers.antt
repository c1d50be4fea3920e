use native.Mathlib.Omega.{arith}
use Prim.Native.Nat.{◌+◌, ◌<◌, ◌≤◌}
use mathlib.Core.Path.{◌∙◌}
use lib.ListN.{get_or}
use Rattle.machine.specs.Query.{upper_side, lower_side}
use Rattle.engine_step.proofs.Moves.{begins-is, drops_by, count_small, skips_by, pushes-by}
use Rattle.engine_step.proofs.choose.Goals as goal

pub returns-then-run-eq0 : goal.returns-then-run-eq0
returns-then-run-eq0 c =
    let a = c.args in
    let x = a.setting in
    begins-is x.setup x.classes.now x.initials.now x.arcs.now x.upper.now x.lower.now a.run.started a.stack.now a.run.depth c.if-run-eq0.true (c.requires.top.some_left c.if-run-eq0.true)

pub returns-then-end-next : goal.returns-then-end-next
returns-then-end-next c =
    let a = c.args in
    let x = a.setting in
    let h : get_or x.first.now (c.look-f.result.state + 1) 0 ≤ c.look-f.result.next = omega (arith, c.from-end.ensures, c.if-end-next.true) in
    drops_by x.setup x.classes.now x.initials.now x.arcs.now x.upper.now x.lower.now a.run.started a.stack.now x.first.now a.run.depth c.requires.top c.if-run-eq0.false c.look-f.result c.look-f.ensures h

pub fit-requires-clause-up_bound : goal.fit-requires-clause-up_bound
fit-requires-clause-up_bound c =
    let a = c.args in
    let x = a.setting in
    let small = count_small x.setup x.classes.now x.initials.now x.arcs.now x.upper.now x.lower.now a.run.started a.stack.now x.first.now a.run.depth c.requires.top c.if-run-eq0.false c.look-f.result c.look-f.ensures in
    (small upper_side, small lower_side)

pub returns-in-None : goal.returns-in-None
returns-in-None c =
    let a = c.args in
    let x = a.setting in
    let h : c.look-f.result.next < get_or x.first.now (c.look-f.result.state + 1) 0 = omega (arith, c.from-end.ensures, c.if-end-next.false) in
    skips_by x.setup x.classes.now x.initials.now x.arcs.now x.upper.now x.lower.now a.run.started a.stack.now x.first.now a.run.depth c.requires.top c.if-run-eq0.false c.look-f.result c.look-f.ensures h c.requires.small_words.1 c.arc_at-arc.result c.arc_at-arc.ensures c.in-None.ensures

pub returns-in-Some : goal.returns-in-Some
returns-in-Some c =
    let a = c.args in
    let x = a.setting in
    let h : c.look-f.result.next < get_or x.first.now (c.look-f.result.state + 1) 0 = omega (arith, c.from-end.ensures, c.if-end-next.false) in
    c.within_ceiling.ensures ∙ pushes-by x.setup x.classes.now x.initials.now x.arcs.now x.upper.now x.lower.now a.run.started a.stack.now x.first.now a.run.depth c.requires.top c.if-run-eq0.false c.look-f.result c.look-f.ensures h c.requires.small_words.1 c.arc_at-arc.result c.arc_at-arc.ensures _ c.in-Some.ensures
