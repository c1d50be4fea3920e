-- A table has few enough cells and bytes of text for 32 bits.
use Prim.Native.Nat.{ℕ, ◌<◌, ◌^◌}
use native.Mathlib.Omega.{arith}
use mathlib.Core.Path.{◌≡◌}
use mathlib.Core.List.{List}
use Rattle.std.specs.Prelude.{Ok}
use Rattle.table.specs.Calls.{read_answer, write_answer}
use Rattle.table_format.proofs.Rules.{keeps-parts, table-bounded}
use Rattle.table_format.proofs.Loaded.{length-cells, cells-loaded}
use Rattle.table_format.proofs.Text.{classes-size, length-text}
use Rattle.table_format.proofs.Determine.{read-text}
use Rattle.table_printer.proofs.Lines.{arcs-most}
use Rattle.table.proofs.Calls.{read_done, write_done}
use Rattle.trie.specs.Calls.{build_answer}
use Rattle.lexicon.proofs.Headlines.{taken}
use Rattle.trie_format.proofs.Headlines.{trie_cells}
use Rattle.trie.proofs.Calls.{build_is}

pub read_small : (text destination : List ℕ) (n : ℕ) → read_answer text destination ≡ Ok n → n < 2 ^ 32
read_small text destination n e =
    let s = read_done text destination n e in
    let keeps = (read-text text s.0 s.1).0 in
    let b = table-bounded s.0 keeps in
    omega (arith, s.2.size, length-cells s.0 ((keeps-parts s.0).0 keeps).classes, b.states, b.initials, b.terminals, b.arcs)

pub write_small : (cells destination : List ℕ) (n : ℕ) → write_answer cells destination ≡ Ok n → n < 2 ^ 32
write_small cells destination n e =
    let s = write_done cells destination n e in
    let keeps = (cells-loaded cells s.0 s.1).0 in
    let b = table-bounded s.0 keeps in
    omega (arith, s.2.size, length-text s.0, classes-size s.0 keeps, arcs-most s.0.arcs, b.states, b.initials, b.terminals, b.arcs)

pub build_small : (words destination : List ℕ) (n : ℕ) → build_answer words destination ≡ Ok n → n < 2 ^ 32
build_small words destination n e =
    let s = (build_is words destination n).0 e in
    omega (arith, s.2, trie_cells s.0 ((taken words s.0).0 s.1).0)
