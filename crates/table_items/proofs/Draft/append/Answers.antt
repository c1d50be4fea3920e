use Prim.Native.Nat.{◌+◌, ◌*◌}
use native.Mathlib.Omega.{arith}
use mathlib.Core.Path.{◌≡◌, sym, ap, ◌∙◌}
use lib.Seq.{sets}
use Rattle.table_format.specs.declared.Arc.{Arc}
use Rattle.table_format.specs.Loaded.{arc_cells}
use Rattle.table_format.specs.Parse.{LineKind, arc_from}
use Rattle.table_items.specs.Draft.{kind_said, place_of, filled_after, item_cells}
use Rattle.table_scanner.proofs.Padded.{byte_at, number_as, arc_as_lem}
use Rattle.table_items.proofs.LineKinds.{kind_held_at, cells-one}
use Rattle.table_format.specs.Cells.{arc_said}
use Rattle.table_items.proofs.Rows.{row_as, part_set}
use Rattle.table_items.proofs.Draft.append.Goals as goal

pub returns-in-Class : goal.returns-in-Class
returns-in-Class c =
    λ b i p h.
    let d = ap kind_said c.in-Class.is in (
      sym (ap (λ (j : LineKind). filled_after j b c.args.self.filled) d),
      c.put_class.ensures
          ∙ (λ i. sets c.args.cells.now (4 + 16 * byte_at c.args.line.bytes b p 1 (omega arith) i) (row_as c.args.line.bytes b p h i))
          ∙ sym (ap (λ (j : LineKind). sets c.args.cells.now (place_of j b c.args.self.filled) (item_cells j b)) d),
    )

pub returns-in-Arc : goal.returns-in-Arc
returns-in-Arc c =
    let cells = c.args.cells.now in
    let filled = c.args.self.filled in
    λ b i p h.
    let d = ap kind_said c.in-Arc.is in
    let told : c.cells.result ≡ arc_cells (arc_from b) = c.cells.ensures ∙ ap (λ (a : Arc). arc_cells (arc_said a)) c.arc_in.ensures ∙ ap arc_cells (arc_as_lem c.args.line.bytes b p) in (
      sym (ap (λ (j : LineKind). filled_after j b filled) d),
      part_set cells filled _ _ _ (omega arith) (c.copy_from_slice.ensures.after ∙ told) (omega arith)
          ∙ sym (ap (λ (j : LineKind). sets cells (place_of j b filled) (item_cells j b)) d),
    )

pub returns-in_default : goal.returns-in_default
returns-in_default c =
    λ b i p h.
    let one =
    cells-one _ b c.number_at.result c.args.self.filled (λ z. c.in_default.not-Class (kind_held_at _ z)) (λ z. c.in_default.not-Arc (kind_held_at _ z)) i
    (c.number_at.ensures ∙ number_as c.args.line.bytes b p 1 (omega arith)) in
    (sym one.2, sym (λ i. sets c.args.cells.now (one.1 i) (one.0 i)))
