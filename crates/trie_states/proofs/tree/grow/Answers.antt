-- At every turn the tree of the words so far stands in the row.
use native.Mathlib.Omega.{arith}
use mathlib.Core.Path.{sym, subst}
use mathlib.Core.List.{[]}
use Rattle.lexicon.proofs.Checking.{ReadTo, read_none}
use Rattle.trie_states.proofs.Growing.{growing_none}
use Rattle.trie_states.proofs.Turning.{states_in, shared_first, shared_second, fits, parent-low, last-in, grown-next, grown-all}
use Rattle.trie_states.proofs.tree.grow.Goals as goal

pub loop-word-init : goal.loop-word-init
loop-word-init c =
    ([], subst (λ r. ReadTo c.args.words.now [] [] r.0.now 1) (sym c.into_iter-word-iterator.ensures.into_iter_gives) (read_none c.args.words.now), growing_none)

pub overflow_sub-states : goal.overflow_sub-states
overflow_sub-states c =
    let inv = c.loop-word.invariant in
    (states_in c.requires.1 inv.1 inv.2 _ _ c.in-Some.ensures.steps).0

pub overflow_sub-before : goal.overflow_sub-before
overflow_sub-before c =
    let inv = c.loop-word.invariant in
    shared_first c.requires.1 inv.1 inv.2 _ _ c.in-Some.ensures.steps c.common-shared.ensures

pub slice_bounds-add-count : goal.slice_bounds-add-count
slice_bounds-add-count c =
    let inv = c.loop-word.invariant in
    shared_second c.requires.1 inv.1 inv.2 _ _ c.in-Some.ensures.steps c.common-shared.ensures

pub add-states-requires : goal.add-states-requires
add-states-requires c =
    let inv = c.loop-word.invariant in (
      parent-low c.requires.1 inv.1 inv.2 _ _ c.in-Some.ensures.steps c.common-shared.ensures c.ancestor-parent.ensures,
      fits c.requires.1 inv.1 inv.2 _ _ c.in-Some.ensures.steps c.common-shared.ensures,
    )

pub overflow_sub-tree : goal.overflow_sub-tree
overflow_sub-tree c =
    let inv = c.loop-word.invariant in
    let put = c.add-states.ensures in
    (last-in c.requires.1 inv.1 inv.2 _ _ c.in-Some.ensures.steps c.common-shared.ensures c.ancestor-parent.ensures put.0 put.1).0

pub bounds-tree-states : goal.bounds-tree-states
bounds-tree-states c =
    let inv = c.loop-word.invariant in
    let put = c.add-states.ensures in
    omega (arith, last-in c.requires.1 inv.1 inv.2 _ _ c.in-Some.ensures.steps c.common-shared.ensures c.ancestor-parent.ensures put.0 put.1)

pub offset_bounds-tree-states : goal.offset_bounds-tree-states
offset_bounds-tree-states c =
    let inv = c.loop-word.invariant in
    let put = c.add-states.ensures in
    omega (arith, last-in c.requires.1 inv.1 inv.2 _ _ c.in-Some.ensures.steps c.common-shared.ensures c.ancestor-parent.ensures put.0 put.1)

pub loop-word-preserved : goal.loop-word-preserved
loop-word-preserved c =
    let inv = c.loop-word.invariant in
    let put = c.add-states.ensures in
    grown-next c.requires.1 inv.1 inv.2 _ _ c.in-Some.ensures.steps c.common-shared.ensures c.ancestor-parent.ensures put.0 put.1

pub returns : goal.returns
returns c =
    let inv = c.loop-word.invariant in
    grown-all inv.1 inv.2 c.in-None.ensures.steps.1

pub slice_bounds-add-start : goal.slice_bounds-add-start
slice_bounds-add-start c =
    let inv = c.loop-word.invariant in
    shared_second c.requires.1 inv.1 inv.2 _ _ c.in-Some.ensures.steps c.common-shared.ensures
