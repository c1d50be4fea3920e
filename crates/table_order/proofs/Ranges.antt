-- A test of each number of an arc, in a range of all of them, is a test of each arc.
use Prim.Native.Nat.{ℕ}
use native.Mathlib.Omega.{arith}
use mathlib.Core.Path.{◌≡◌, sym, ap, ◌∙◌}
use mathlib.Core.Bool.{Bool}
use mathlib.Core.List.{List, []}
use Rattle.std.specs.List.{list_all, range_with_len}
use Rattle.table_format.specs.Table.{Arc, no_arc}
use Rattle.table_format.specs.Rules.{each}
use Rattle.table_format.specs.Loaded.{arcs_in}
use Rattle.table_format.specs.Cells.{arc_of}
use Rattle.table_format.proofs.Arcs.{length-arcs, get_d_arcs}
use Rattle.table_classes.proofs.Chains.{all_each}

pub all_arcs : (test : Arc → Bool) (cells : List ℕ) (n : ℕ) → list_all (λ k. test (arc_of cells k)) (range_with_len 0 n) ≡ each (λ before a. test a) [] (arcs_in n cells)
all_arcs test cells n =
    let size = length-arcs n cells in
    ap (λ (m : ℕ). list_all (λ k. test (arc_of cells k)) (range_with_len 0 m)) (sym size)
    ∙ all_each test no_arc (arcs_in n cells) (λ k. test (arc_of cells k)) (λ k h. ap test (sym (get_d_arcs n cells k no_arc (omega arith))))
