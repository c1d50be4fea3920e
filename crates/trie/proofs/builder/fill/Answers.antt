-- The tree, its children, the terminal states, the arcs, and then the counts.
use native.Mathlib.Omega.{arith}
use mathlib.Core.Path.{ap, ◌∙◌}
use mathlib.Core.List.{List}
use lib.ListN.{length}
use Rattle.lexicon.specs.Words.{Word}
use Rattle.lexicon.specs.Beginnings.{beginnings}
use Rattle.lexicon.proofs.Lexicon.{lexicon_sound}
use Rattle.trie.proofs.Filling.{states-some, few, terminals-room, arcs-lent, sizes, filled, taken-one}
use Rattle.trie.proofs.builder.fill.Goals as goal

pub link-links-requires : goal.link-links-requires
link-links-requires c =
    let lent = c.requires.taken_as in
    let K = (lexicon_sound c.args.words.now lent.0 lent.1).0 in (omega (arith, states-some lent.0, lent.2), omega (arith, K.few, lent.2))

pub put_terminals-arcs-requires : goal.put_terminals-arcs-requires
put_terminals-arcs-requires c =
    let lent = c.requires.taken_as in
    let K = (lexicon_sound c.args.words.now lent.0 lent.1).0 in
    terminals-room K lent.2 (c.grow-tree.ensures lent.0 lent.1) c.link-links.ensures _ c.requires.cells_len

pub put_arcs-end-requires-clause-states_few : goal.put_arcs-end-requires-clause-states_few
put_arcs-end-requires-clause-states_few c =
    let lent = c.requires.taken_as in
    let K = (lexicon_sound c.args.words.now lent.0 lent.1).0 in
    few K lent.2 (c.grow-tree.ensures lent.0 lent.1) c.link-links.ensures

pub put_arcs-end-requires-clause-room : goal.put_arcs-end-requires-clause-room
put_arcs-end-requires-clause-room c =
    let lent = c.requires.taken_as in
    let K = (lexicon_sound c.args.words.now lent.0 lent.1).0 in
    arcs-lent K lent.2 (c.grow-tree.ensures lent.0 lent.1) c.link-links.ensures c.args.cells.now _ _ c.put_terminals-arcs.ensures c.requires.cells_len

pub put_counts-requires : goal.put_counts-requires
put_counts-requires c =
    let lent = c.requires.taken_as in
    let K = (lexicon_sound c.args.words.now lent.0 lent.1).0 in
    let T = c.grow-tree.ensures lent.0 lent.1 in
    let S = sizes K lent.2 T c.link-links.ensures c.args.cells.now _ _ c.put_terminals-arcs.ensures c.requires.cells_len _ _ c.put_arcs-end.ensures in
    (few K lent.2 T c.link-links.ensures, S.terminals_at_lem, S.arcs_at_lem, omega (arith, S.most), S.cells-all)

pub returns : goal.returns
returns c = λ ws e.
    let lent = c.requires.taken_as in
    let K = (lexicon_sound c.args.words.now ws e).0 in
    let states-are = lent.2 ∙ ap (λ (l : List Word). length (beginnings l)) (taken-one c.args.words.now lent.0 ws lent.1 e) in
    filled K states-are (c.grow-tree.ensures ws e) c.link-links.ensures c.args.cells.now _ _ c.put_terminals-arcs.ensures c.requires.cells_len _ _ c.put_arcs-end.ensures _ c.put_counts.ensures
