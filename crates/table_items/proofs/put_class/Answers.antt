-- At every turn the first cells of the row are stored.
use Prim.Native.Nat.{ℕ, ◌+◌, ◌*◌, ◌<◌}
use native.Mathlib.Omega.{arith}
use mathlib.Core.Path.{sym, ap, ap₂, ◌∙◌}
use mathlib.Core.List.{List}
use lib.ListN.{length, get_or, drop, set, length-drop}
use lib.Seq.{sets, take_all, get_or-drop}
use Rattle.table_items.specs.Draft.{row_at}
use Rattle.table_items.proofs.Rows.{stored_more}
use Rattle.table_items.proofs.put_class.Goals as goal

pub loop-k-preserved : goal.loop-k-preserved
loop-k-preserved c =
    let row = drop 2 c.args.bytes in
    let k = c.loop-k.k in
    let here = 4 + 16 * c.from.result in
    let size : k < length row = omega (arith, length-drop 2 c.args.bytes, c.well_formed.1.0) in
    ap (λ (l : List ℕ). set l (here + k) c.from-in-loop-k.result) c.loop-k.invariant
    ∙ stored_more c.args.cells.now here k row size (c.from-in-loop-k.ensures ∙ ap (λ (n : ℕ). get_or c.args.bytes n 0) {x = k + 2} {y = 2 + k} (omega arith) ∙ sym (get_or-drop 2 c.args.bytes k 0))

pub returns : goal.returns
returns c =
    let bytes = c.args.bytes in
    c.loop-k.invariant
    ∙ ap₂ (sets c.args.cells.now) {x = 4 + 16 * c.from.result} {y = row_at bytes} (omega arith)
    (take_all c.loop-k.k (drop 2 bytes) (omega (arith, c.loop-k-test.false, length-drop 2 bytes, c.well_formed.1.0)))
