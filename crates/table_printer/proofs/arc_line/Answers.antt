-- A kind, the two bytes of a state, two letters, the two bytes of a state, and the penalty, where there is one.
use native.Mathlib.Omega.{arith}
use mathlib.Core.Path.{sym, ◌∙◌}
use mathlib.Core.List.{[], ◌∷◌}
use Rattle.table_format.specs.Parse.{arc, code_of, penalty_kind}
use Rattle.table_format.specs.Cells.{arc_said}
use Rattle.table_format.proofs.Penalties.{line-without, line_with_lem}
use Rattle.table_printer.proofs.Lines.{high_byte, low_byte, line_told_lem, plain_size, penalised-size}
use Rattle.table_printer.proofs.arc_line.Goals as goal

pub put_line-requires : goal.put_line-requires
put_line-requires c = omega (arith, plain_size (arc_said c.args.arc) c.if-arc-eq0.true)

pub returns-then-arc-eq0 : goal.returns-then-arc-eq0
returns-then-arc-eq0 c =
    let given = c.args.arc in
    line_told_lem _ _ _ _ _ _ ((λ i. code_of arc ∷ high_byte _ _ (omega arith) c.to_be_bytes.ensures i ∷ low_byte _ _ c.to_be_bytes.ensures i ∷ given.upper ∷ given.lower ∷ high_byte _ _ (omega arith) c.to_be_bytes-2.ensures i ∷ low_byte _ _ c.to_be_bytes-2.ensures i ∷ []) ∙ sym (line-without (arc_said given) c.if-arc-eq0.true)) c.put_line.ensures

pub put_line-requires-2 : goal.put_line-requires-2
put_line-requires-2 c = omega (arith, penalised-size (arc_said c.args.arc) c.if-arc-eq0.false)

pub returns : goal.returns
returns c =
    let given = c.args.arc in
    line_told_lem _ _ _ _ _ _ ((λ i. penalty_kind ∷ high_byte _ _ (omega arith) c.to_be_bytes.ensures i ∷ low_byte _ _ c.to_be_bytes.ensures i ∷ given.upper ∷ given.lower ∷ high_byte _ _ (omega arith) c.to_be_bytes-2.ensures i ∷ low_byte _ _ c.to_be_bytes-2.ensures i ∷ given.penalty ∷ []) ∙ sym (line_with_lem (arc_said given) c.if-arc-eq0.false)) c.put_line-2.ensures
