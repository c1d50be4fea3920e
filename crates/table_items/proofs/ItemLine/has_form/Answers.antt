use Prim.Native.Nat.{ℕ}
use native.Mathlib.Omega.{arith}
use mathlib.Core.Path.{sym, ap, ◌∙◌}
use mathlib.Core.Bool.{Bool, ◌&&◌}
use lib.Dec.{eqb}
use lib.ListN.{length, get_or}
use borrow.Author.Tests.{eq-eqb, ne_eqb}
use Rattle.table_scanner.proofs.Padded.{byte_at}
use Rattle.table_items.proofs.LineKinds.{not_code}
use Rattle.table_items.proofs.ItemLine.has_form.Goals as goal

pub returns-then-self-kind : goal.returns-then-self-kind
returns-then-self-kind c =
    λ b p q.
    ap (λ (n : ℕ). eqb n c.args.count) q
    ∙ sym (ap (λ (x : Bool). x && eqb (length b) c.args.count) (eq-eqb (get_or b 0 0) c.args.kind (sym (byte_at c.args.self.bytes b p 0 (omega arith)) ∙ c.if-self-kind.true)))

pub returns-else-self-kind : goal.returns-else-self-kind
returns-else-self-kind c =
    λ b p q. ne_eqb _ _ c.if-self-kind.false ∙ sym (not_code c.args.kind c.args.count b (λ z. c.if-self-kind.false (byte_at c.args.self.bytes b p 0 (omega arith) ∙ z)))
