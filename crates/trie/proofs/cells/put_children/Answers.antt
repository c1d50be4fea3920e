-- At every turn the arcs to come stand behind those that are there.
use Prim.Native.Nat.{ℕ, ◌+◌}
use native.Mathlib.Omega.{arith}
use mathlib.Core.Path.{◌≡◌, sym, ap, ap₂, subst, ◌∙◌}
use lib.Seq.{sets}
use Rattle.std.proofs.Common.{Some}
use Rattle.table_format.specs.Loaded.{arc_cells}
use Rattle.table_format.specs.Cells.{arc_as}
use Rattle.trie_states.specs.Tree.{letter_of, first_of, next_of, child_arc}
use Rattle.trie.proofs.Storing.{GoingAll, going_on, going_more, going_done, steps_left, steps-fewer}
use Rattle.trie.proofs.cells.put_children.Goals as goal

pub loop-next-smaller : goal.loop-next-smaller
loop-next-smaller c =
    let links = c.args.links.now in
    let room = c.requires.room in
    let on = going_on c.loop-next.invariant c.in-Some.is room.0 room.1 in
    let from : steps_left (next_of links c.from-k.result) ≡ steps_left (next_of links c.in-Some.child) = ap (λ (i : ℕ). steps_left (next_of links i)) c.from-k.ensures in
    let was : steps_left c.loop-next.next ≡ steps_left (Some c.in-Some.child) = ap steps_left c.in-Some.is in
    omega (arith, from, was, steps-fewer (next_of links c.in-Some.child) c.in-Some.child on.0 on.1)

pub loop-next-preserved : goal.loop-next-preserved
loop-next-preserved c =
    let tree = c.args.tree.now in
    let links = c.args.links.now in
    let letter : c.from-letter.result ≡ letter_of tree c.in-Some.child = c.from-letter.ensures ∙ ap (letter_of tree) c.from-k.ensures in
    let put = c.put_arc.ensures ∙ ap (sets c.loop-next.cells c.loop-next.to) (ap₂ (λ (x y : ℕ). arc_cells (arc_as c.args.state x x y)) letter c.from.ensures) in
    subst
    (λ (i : ℕ). GoingAll (child_arc (letter_of tree) c.args.state) (next_of links) c.args.cells.now c.args.at (first_of links c.args.state) c.put_arc.new.cells (c.loop-next.to + 5) (next_of links i))
    (sym c.from-k.ensures) (going_more c.loop-next.invariant c.in-Some.is put)

pub returns : goal.returns
returns c = going_done c.loop-next.invariant c.in_default.is
