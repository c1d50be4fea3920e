-- What cells that hold a table say of it.
use Prim.Native.Nat.{ℕ, ◌≤◌}
use native.Mathlib.Omega.{arith}
use mathlib.Core.Path.{◌≡◌, refl, subst}
use mathlib.Core.Bool.{Bool, true, false}
use mathlib.Core.Option.{some}
use mathlib.Core.List.{List}
use lib.Dec.{leb}
use lib.ListN.{length}
use borrow.Author.Tests.{leb-true, leb-false}
use Rattle.table_format.specs.Rules.{keeps_rules}
use Rattle.table_format.specs.Loaded.{counts_in, extent, table_in, loaded}
use Rattle.table_format.proofs.Rules.{Bounded, table-bounded}
use Rattle.table_format.proofs.Loaded.{counts_of_lem, cells-loaded}
use Rattle.table_check.proofs.Parts.{loaded-short}

pub record Holding (cells : List ℕ) : Type 0 where
  pub whole : extent (counts_in cells) ≤ length cells
  pub keeps : keeps_rules (table_in cells) ≡ true
  pub bounds : Bounded (counts_in cells)

pub holding : (cells : List ℕ) → loaded cells ≡ some (table_in cells) → Holding cells
holding cells holds = go (leb (extent (counts_in cells)) (length cells)) refl
  where
    keeps : keeps_rules (table_in cells) ≡ true
    keeps = (cells-loaded cells (table_in cells) holds).0

    go : (b : Bool) → leb (extent (counts_in cells)) (length cells) ≡ b → Holding cells
    go true h =
        let whole : extent (counts_in cells) ≤ length cells = leb-true _ _ h in
        record { whole = whole; keeps = keeps; bounds = subst Bounded (counts_of_lem cells whole) (table-bounded (table_in cells) keeps) }
    go false h = let z = loaded-short cells (leb-false _ _ h) in let f : ◌≡◌ {A = ℕ} 0 1 = cc in absurd (omega arith)
