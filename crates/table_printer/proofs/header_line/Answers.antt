-- A kind and the two bytes of each of four numbers.
use native.Mathlib.Omega.{arith}
use mathlib.Core.List.{[], ◌∷◌}
use Rattle.table_format.specs.Parse.{header_kind}
use Rattle.table_printer.proofs.Lines.{high_byte, low_byte, line_as}
use Rattle.table_printer.proofs.header_line.Goals as goal

pub returns : goal.returns
returns c =
    let fits = c.type_inv.cells in
    let states = c.to_be_bytes.ensures in
    let initials = c.to_be_bytes-2.ensures in
    let terminals = c.to_be_bytes-3.ensures in
    let arcs = c.to_be_bytes-4.ensures in
    line_as _ _ _ _ _ (λ i. header_kind ∷ high_byte _ _ (omega (arith, fits 0)) states i ∷ low_byte _ _ states i ∷ high_byte _ _ (omega (arith, fits 1)) initials i ∷ low_byte _ _ initials i ∷ high_byte _ _ (omega (arith, fits 2)) terminals i ∷ low_byte _ _ terminals i ∷ high_byte _ _ (omega (arith, fits 3)) arcs i ∷ low_byte _ _ arcs i ∷ []) c.put_line.ensures.1
