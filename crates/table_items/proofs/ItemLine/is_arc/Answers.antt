use Prim.Native.Nat.{ℕ}
use native.Mathlib.Omega.{arith}
use mathlib.Core.Path.{sym, ap, ap₂, ◌∙◌}
use mathlib.Core.Bool.{Bool, not, ◌&&◌, ◌||◌}
use lib.Dec.{eqb}
use lib.ListN.{get_or}
use Rattle.table_format.specs.Parse.{is_penalised}
use Rattle.table_scanner.proofs.Padded.{byte_at}
use Rattle.table_items.proofs.ItemLine.is_arc.Goals as goal

pub returns-then-has_form : goal.returns-then-has_form
returns-then-has_form c = λ b p q. c.if-has_form.true ∙ sym (ap (λ (x : Bool). x || is_penalised b) (sym (c.has_form.ensures b p q) ∙ c.if-has_form.true))

pub returns-then-has_form-2 : goal.returns-then-has_form-2
returns-then-has_form-2 c =
    λ b p q.
    ap (λ (n : ℕ). not (eqb n 0)) (byte_at c.args.self.bytes b p 7 (omega arith))
    ∙ sym (ap₂ (λ (x y : Bool). x || (y && not (eqb (get_or b 7 0) 0))) (sym (c.has_form.ensures b p q) ∙ c.if-has_form.false) (sym (c.has_form-else-has_form.ensures b p q) ∙ c.if-has_form-2.true))

pub returns-else-has_form-2 : goal.returns-else-has_form-2
returns-else-has_form-2 c =
    λ b p q.
    c.if-has_form-2.false
    ∙ sym (ap₂ (λ (x y : Bool). x || (y && not (eqb (get_or b 7 0) 0))) (sym (c.has_form.ensures b p q) ∙ c.if-has_form.false) (sym (c.has_form-else-has_form.ensures b p q) ∙ c.if-has_form-2.false))
