-- The first frame that is not linked by the rules of the sides. The invariant: those so far are, and the code holds the frame below with where its
-- state's arcs begin.
use Rattle.std.proofs.Common.{◌≡◌, ℕ, ◌+◌, ◌-◌, ◌≤◌, get_or, sym, ap, ◌∙◌, arith}
use Rattle.machine.specs.Stack.{look_at}
use Rattle.engine_frames.specs.Frames.{frame_of}
use Rattle.engine_place.proofs.Linked.{may_link, lower-indexed, linked-indexed, linked_on}
use Rattle.engine_place.proofs.links_from.Goals as goal

pub bounds-first-g : goal.bounds-first-g
bounds-first-g c =
    let p = c.requires in
    let h = lower-indexed p.standing c.args.depth (omega (arith, p.from_le_depth.1, p.from_le_depth.2)) c.args.from (omega arith) p.from_le_depth.0 (λ j a b. absurd (omega arith)) c.look-g.result c.look-g.ensures in
    omega arith

pub link_holds-requires-clause-linkable : goal.link_holds-requires-clause-linkable
link_holds-requires-clause-linkable c =
    let p = c.requires in
    may_link p.standing c.args.depth (omega (arith, p.from_le_depth.1, p.from_le_depth.2)) c.loop-i.i (omega arith) (omega arith) c.loop-i.invariant.0 c.loop-i.g c.loop-i.invariant.1

pub bounds-first-at : goal.bounds-first-at
bounds-first-at c =
    let p = c.requires in
    let h = linked-indexed p.standing c.args.depth (omega (arith, p.from_le_depth.1, p.from_le_depth.2)) c.loop-i.i (omega arith) (omega arith) c.loop-i.invariant.0 c.loop-i.g c.loop-i.invariant.1 c.loop-i.begin c.loop-i.invariant.2 c.look-f.result c.look-f.ensures (sym c.link_holds.ensures ∙ c.if-not-link_holds.false) in
    omega arith

pub bounds-first-at-else-f-begin : goal.bounds-first-at-else-f-begin
bounds-first-at-else-f-begin c =
    let p = c.requires in
    let h = linked-indexed p.standing c.args.depth (omega (arith, p.from_le_depth.1, p.from_le_depth.2)) c.loop-i.i (omega arith) (omega arith) c.loop-i.invariant.0 c.loop-i.g c.loop-i.invariant.1 c.loop-i.begin c.loop-i.invariant.2 c.look-f.result c.look-f.ensures (sym c.link_holds.ensures ∙ c.if-not-link_holds.false) in
    omega arith

pub loop-i-preserved : goal.loop-i-preserved
loop-i-preserved c =
    let p = c.requires in
    let z : c.loop-i.i ≡ (c.loop-i.i + 1) - 1 = omega arith in
    let from : get_or c.args.first.now c.look-f.result.state 0 ≤ c.look-f.result.next = omega (arith, c.from-begin-in-loop-i.ensures, c.if-f-begin.false) in
    let to : c.look-f.result.next ≤ get_or c.args.first.now (c.look-f.result.state + 1) 0 = omega (arith, c.from.ensures, c.if-from-f.false) in
    (linked_on p.standing c.args.depth (omega (arith, p.from_le_depth.1, p.from_le_depth.2)) c.loop-i.i (omega arith) (omega arith) c.loop-i.invariant.0 c.loop-i.g c.loop-i.invariant.1 c.loop-i.begin c.loop-i.invariant.2 c.look-f.result c.look-f.ensures (sym c.link_holds.ensures ∙ c.if-not-link_holds.false) from to, c.look-f.ensures ∙ ap (λ (n : ℕ). frame_of (look_at c.args.stack.now n)) z, c.from-begin-in-loop-i.ensures)
