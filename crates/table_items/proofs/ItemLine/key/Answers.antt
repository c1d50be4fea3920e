use native.Mathlib.Omega.{arith}
use mathlib.Core.Path.{◌≡◌, ap, ◌∙◌}
use Rattle.table_format.specs.declared.Arc.{Arc}
use Rattle.table_rules.specs.Judge.{arc_key}
use Rattle.table_format.specs.Cells.{arc_said}
use Rattle.table_format.specs.Parse.{arc_from}
use Rattle.table_items.specs.declared.LineKind.{LineKind as CodedKind}
use Rattle.table_items.specs.Draft.{kind_said, item_key}
use Rattle.table_scanner.proofs.Padded.{number_as, arc_as_lem}
use Rattle.table_items.proofs.ItemLine.key.Goals as goal

pub returns-in-Initial : goal.returns-in-Initial
returns-in-Initial c = λ b i p. omega (arith, ap (λ (k : CodedKind). item_key (kind_said k) b) c.in-Initial.is, c.state_key.ensures, c.number_at.ensures, number_as c.args.self.bytes b p 1 (omega arith))

pub returns-in-Arc : goal.returns-in-Arc
returns-in-Arc c =
    let bytes = c.args.self.bytes in
    λ b i p.
    let told : c.arc_key.result ≡ arc_key (arc_from bytes) = c.arc_key.ensures ∙ ap (λ (a : Arc). arc_key (arc_said a)) c.arc_in.ensures in
    omega (arith, ap (λ (k : CodedKind). item_key (kind_said k) b) c.in-Arc.is, told, ap arc_key (arc_as_lem bytes b p))
