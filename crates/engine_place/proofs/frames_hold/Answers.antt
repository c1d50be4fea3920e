-- The frames from the bottom up: the invariant is that those below i hold whatever the ceiling, which the top frame's sum then decides.
use Rattle.std.proofs.Common.{◌≡◌, ◌+◌, ◌-◌, true, false, sym, ap, ◌∙◌, arith}
use Rattle.engine_place.proofs.Placing.{chain, chain-fails, bottom-fails, bottom-indexed, first-fails, first_holds, below-indexed, linkable, link-fails, next-fails, class_indexed, class_more, over-ceiling, as_chain}
use Rattle.engine_place.proofs.Linked.{standing, unlinked-holds}
use Rattle.engine_place.proofs.frames_hold.Goals as goal
use Rattle.engine_place.proofs.frames_hold.Goals.{then-not-bottom_holds-via-then-not-bottom_holds, then-not-bottom_holds-via-else-not-bottom_holds+then-not-next_holds, then-not-class_link_holds-via-then-not-class_link_holds, then-not-class_link_holds-via-else-not-class_link_holds+then-not-next_holds-2}

pub returns-then-setting-top : goal.returns-then-setting-top
returns-then-setting-top c =
    let a = c.args in
    let p = c.requires in
    over-ceiling p.by_index.1 a.started a.stack.now p.started_nonzero.0 p.started_nonzero.1 c.look-top.result (a.depth - 1) c.look-top.ensures c.if-setting-top.true

pub next_holds-requires : goal.next_holds-requires
next_holds-requires c =
    let a = c.args in
    let p = c.requires in
    bottom-indexed p.by_index.1 a.started a.stack.now p.started_nonzero.0 p.started_nonzero.1 c.look-b.result c.look-b.ensures (sym c.bottom_holds.ensures ∙ c.if-not-bottom_holds.false)

pub returns-then-not-bottom_holds : goal.returns-then-not-bottom_holds
returns-then-not-bottom_holds c =
    let a = c.args in
    let p = c.requires in
    as_chain p.by_index.1 a.started a.stack.now p.started_nonzero.0 p.started_nonzero.1 c.look-top.result (a.depth - 1) c.look-top.ensures c.if-setting-top.false false (chain-fails p.by_index.1 a.started a.stack.now p.started_nonzero.0 p.started_nonzero.1 0 (a.depth - 1) (omega arith) (elim c.then-not-bottom_holds.branch [
      | then-not-bottom_holds-via-then-not-bottom_holds w ↦ bottom-fails p.by_index.1 a.started a.stack.now p.started_nonzero.0 p.started_nonzero.1 c.look-b.result c.look-b.ensures (sym c.bottom_holds.ensures ∙ w.if-not-bottom_holds.true)
      | then-not-bottom_holds-via-else-not-bottom_holds+then-not-next_holds w ↦ first-fails p.by_index.1 a.started a.stack.now p.started_nonzero.0 p.started_nonzero.1 c.look-b.result c.look-b.ensures (sym c.bottom_holds.ensures ∙ w.if-not-bottom_holds.false) (sym w.next_holds.ensures ∙ w.if-not-next_holds.true)
    ]))

pub links_from-i-requires-clause-standing : goal.links_from-i-requires-clause-standing
links_from-i-requires-clause-standing c =
    let a = c.args in
    let p = c.requires in
    standing p.by_index.1 a.started a.stack.now p.started_nonzero.0 p.started_nonzero.1 1 (omega arith) (first_holds p.by_index.1 a.started a.stack.now p.started_nonzero.0 p.started_nonzero.1 c.look-b.result c.look-b.ensures (sym c.bottom_holds.ensures ∙ c.if-not-bottom_holds.false) (sym c.next_holds.ensures ∙ c.if-not-next_holds.false))

pub loop-i-init : goal.loop-i-init
loop-i-init c =
    let a = c.args in
    let p = c.requires in
    let u = c.links_from-i.ensures in
    (omega (arith, u.on), u.within, unlinked-holds p.by_index.1 a.started a.stack.now p.started_nonzero.0 p.started_nonzero.1 1 (omega arith) (first_holds p.by_index.1 a.started a.stack.now p.started_nonzero.0 p.started_nonzero.1 c.look-b.result c.look-b.ensures (sym c.bottom_holds.ensures ∙ c.if-not-bottom_holds.false) (sym c.next_holds.ensures ∙ c.if-not-next_holds.false)) a.depth c.links_from-i.result (omega (arith, p.depth_nonzero.1, p.depth_nonzero.2)) u, u.unlinked)

pub class_link_holds-requires : goal.class_link_holds-requires
class_link_holds-requires c =
    let a = c.args in
    let p = c.requires in
    let h = below-indexed p.by_index.1 a.started a.stack.now p.started_nonzero.0 p.started_nonzero.1 c.loop-i.i c.loop-i.invariant.0 (omega (arith, c.loop-i.invariant.0, c.loop-i.invariant.1, p.depth_nonzero.1, p.depth_nonzero.2)) c.loop-i.invariant.2 c.look-g.result c.look-f.result c.look-g.ensures c.look-f.ensures in
    (omega arith, linkable p.by_index.1 a.started a.stack.now p.started_nonzero.0 p.started_nonzero.1 c.loop-i.i c.loop-i.invariant.0 (omega (arith, c.loop-i.invariant.0, c.loop-i.invariant.1, p.depth_nonzero.1, p.depth_nonzero.2)) c.loop-i.invariant.2 c.look-g.result c.look-f.result c.look-g.ensures c.look-f.ensures)

pub next_holds-requires-else-not-class_link_holds : goal.next_holds-requires-else-not-class_link_holds
next_holds-requires-else-not-class_link_holds c =
    let a = c.args in
    let p = c.requires in
    class_indexed p.by_index.1 a.started a.stack.now p.started_nonzero.0 p.started_nonzero.1 c.loop-i.i c.loop-i.invariant.0 (omega (arith, c.loop-i.invariant.0, c.loop-i.invariant.1, p.depth_nonzero.1, p.depth_nonzero.2)) c.loop-i.invariant.2 c.look-g.result c.look-f.result c.look-g.ensures c.look-f.ensures (sym c.class_link_holds.ensures ∙ c.if-not-class_link_holds.false)

pub returns-then-not-class_link_holds : goal.returns-then-not-class_link_holds
returns-then-not-class_link_holds c =
    let a = c.args in
    let p = c.requires in
    as_chain p.by_index.1 a.started a.stack.now p.started_nonzero.0 p.started_nonzero.1 c.look-top.result (a.depth - 1) c.look-top.ensures c.if-setting-top.false false (chain-fails p.by_index.1 a.started a.stack.now p.started_nonzero.0 p.started_nonzero.1 c.loop-i.i (a.depth - 1) (omega (arith, c.loop-i-test.true)) (elim c.then-not-class_link_holds.branch [
      | then-not-class_link_holds-via-then-not-class_link_holds w ↦ link-fails p.by_index.1 a.started a.stack.now p.started_nonzero.0 p.started_nonzero.1 c.loop-i.i c.loop-i.invariant.0 (omega (arith, c.loop-i.invariant.0, c.loop-i.invariant.1, p.depth_nonzero.1, p.depth_nonzero.2)) c.loop-i.invariant.2 c.look-g.result c.look-f.result c.look-g.ensures c.look-f.ensures (c.loop-i.invariant.3 c.loop-i-test.true) (sym c.class_link_holds.ensures ∙ w.if-not-class_link_holds.true)
      | then-not-class_link_holds-via-else-not-class_link_holds+then-not-next_holds-2 w ↦ next-fails p.by_index.1 a.started a.stack.now p.started_nonzero.0 p.started_nonzero.1 c.loop-i.i c.loop-i.invariant.0 (omega (arith, c.loop-i.invariant.0, c.loop-i.invariant.1, p.depth_nonzero.1, p.depth_nonzero.2)) c.loop-i.invariant.2 c.look-g.result c.look-f.result c.look-g.ensures c.look-f.ensures (sym w.next_holds-else-not-class_link_holds.ensures ∙ w.if-not-next_holds-2.true)
    ]))

pub links_from-i-requires-in-loop-i-clause-standing : goal.links_from-i-requires-in-loop-i-clause-standing
links_from-i-requires-in-loop-i-clause-standing c =
    let a = c.args in
    let p = c.requires in
    standing p.by_index.1 a.started a.stack.now p.started_nonzero.0 p.started_nonzero.1 (c.loop-i.i + 1) (omega arith) (class_more p.by_index.1 a.started a.stack.now p.started_nonzero.0 p.started_nonzero.1 c.loop-i.i c.loop-i.invariant.0 (omega (arith, c.loop-i.invariant.0, c.loop-i.invariant.1, p.depth_nonzero.1, p.depth_nonzero.2)) c.loop-i.invariant.2 c.look-g.result c.look-f.result c.look-g.ensures c.look-f.ensures (sym c.class_link_holds.ensures ∙ c.if-not-class_link_holds.false) (sym c.next_holds-else-not-class_link_holds.ensures ∙ c.if-not-next_holds-2.false))

pub loop-i-preserved : goal.loop-i-preserved
loop-i-preserved c =
    let a = c.args in
    let p = c.requires in
    let u = c.links_from-i-in-loop-i.ensures in
    (omega (arith, u.on), u.within, unlinked-holds p.by_index.1 a.started a.stack.now p.started_nonzero.0 p.started_nonzero.1 (c.loop-i.i + 1) (omega arith) (class_more p.by_index.1 a.started a.stack.now p.started_nonzero.0 p.started_nonzero.1 c.loop-i.i c.loop-i.invariant.0 (omega (arith, c.loop-i.invariant.0, c.loop-i.invariant.1, p.depth_nonzero.1, p.depth_nonzero.2)) c.loop-i.invariant.2 c.look-g.result c.look-f.result c.look-g.ensures c.look-f.ensures (sym c.class_link_holds.ensures ∙ c.if-not-class_link_holds.false) (sym c.next_holds-else-not-class_link_holds.ensures ∙ c.if-not-next_holds-2.false)) a.depth c.links_from-i-in-loop-i.result (omega (arith, p.depth_nonzero.1, p.depth_nonzero.2)) u, u.unlinked)

pub returns : goal.returns
returns c =
    let a = c.args in
    let p = c.requires in
    as_chain p.by_index.1 a.started a.stack.now p.started_nonzero.0 p.started_nonzero.1 c.look-top.result (a.depth - 1) c.look-top.ensures c.if-setting-top.false true (sym c.loop-i.invariant.2 ∙ ap (chain p.by_index.1 a.started a.stack.now p.started_nonzero.0 p.started_nonzero.1) (let z : c.loop-i.i - 1 ≡ a.depth - 1 = omega (arith, c.loop-i.invariant.0, c.loop-i.invariant.1, c.loop-i-test.false) in z))
