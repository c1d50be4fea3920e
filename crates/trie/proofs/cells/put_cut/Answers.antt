-- One arc, or none.
use native.Mathlib.Omega.{arith}
use mathlib.Core.Path.{◌≡◌, sym, ap, ◌∙◌}
use mathlib.Core.List.{[], ◌∷◌}
use lib.ListN.{length}
use lib.Seq.{sets}
use Rattle.table_format.specs.Loaded.{arcs_cells}
use Rattle.trie_format.specs.Trie.{cut_arc}
use Rattle.trie.specs.Cells.{cut_arcs}
use Rattle.trie.proofs.Storing.{when_true, when_false, one-cells, none-cells}
use Rattle.trie.proofs.cells.put_cut.Goals as goal

pub returns-then-not-is_end : goal.returns-then-not-is_end
returns-then-not-is_end c =
    let is : cut_arcs c.args.state c.args.is_end ≡ [] = when_false _ _ c.if-not-is_end.true in
    (omega (arith, ap length is), ap (sets c.args.cells.now c.args.at) (sym (ap arcs_cells is ∙ none-cells)))

pub returns : goal.returns
returns c =
    let is : cut_arcs c.args.state c.args.is_end ≡ cut_arc c.args.state ∷ [] = when_true _ _ c.if-not-is_end.false in
    (omega (arith, ap length is), c.put_arc.ensures ∙ ap (sets c.args.cells.now c.args.at) (sym (ap arcs_cells is ∙ one-cells (cut_arc c.args.state))))
