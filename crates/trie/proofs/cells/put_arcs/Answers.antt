-- At every turn the arcs of the states to come stand behind those that are there.
use native.Mathlib.Omega.{arith}
use Rattle.trie.proofs.Storing.{arcs-room, cut-room, arcs-all, laid-all}
use Rattle.trie.proofs.cells.put_arcs.Goals as goal

pub put_children-to-requires-clause-room : goal.put_children-to-requires-clause-room
put_children-to-requires-clause-room c =
    let lent = c.requires.room in
    let h = c.loop-state-test.true in
    (lent.0 c.loop-state.state, lent.1 c.loop-state.state h, omega (arith, arcs-room c.loop-state.invariant lent.0 lent.1 h lent.2))

pub put_cut-to-requires : goal.put_cut-to-requires
put_cut-to-requires c =
    let lent = c.requires.room in
    let h = c.loop-state-test.true in
    (omega (arith, c.requires.states_few), cut-room c.loop-state.invariant lent.0 lent.1 h lent.2 (c.put_children-to.ensures (lent.0 c.loop-state.state) (lent.1 c.loop-state.state h)))

pub loop-state-preserved : goal.loop-state-preserved
loop-state-preserved c =
    let lent = c.requires.room in
    arcs-all c.loop-state.invariant lent.0 lent.1 c.loop-state-test.true c.put_children-to.ensures c.put_cut-to.ensures

pub returns : goal.returns
returns c = laid-all c.loop-state.invariant c.loop-state-test.false
