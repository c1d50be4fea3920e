-- The source of the last arc, against which rule 7 holds the next.
use Prim.Native.Nat.{ℕ, suc}
use native.Mathlib.Omega.{arith}
use mathlib.Core.Path.{◌≡◌, refl, sym, ap, ◌∙◌}
use mathlib.Core.List.{List, [], ◌∷◌, ◌++◌}
use lib.Dec.{leb}
use borrow.Author.Tests.{le-leb}
use Rattle.table_format.specs.Table.{Arc}
use Rattle.table_format.specs.Rules.{source_holds}
use Rattle.table_format.specs.Loaded.{arcs_in}
use Rattle.table_rules.specs.Judge.{last_source}
use Rattle.table_format.specs.Cells.{arc_of}
use Rattle.table_format.proofs.Arcs.{arcs-snoc}

pub last_source_lem : (cells : List ℕ) (k : ℕ) → last_source (arcs_in (suc k) cells) ≡ (arc_of cells k).source
last_source_lem cells k = ap last_source (arcs-snoc k cells) ∙ last_of (arcs_in k cells)
  where
    last_of : (arcs : List Arc) → last_source (arcs ++ (arc_of cells k ∷ [])) ≡ (arc_of cells k).source
    last_of [] = refl
    last_of (a ∷ []) = refl
    last_of (a ∷ b ∷ rest) = last_of (b ∷ rest)

pub source_by_last : (arcs : List Arc) (a : Arc) → source_holds arcs a ≡ leb (last_source arcs) a.source
source_by_last [] a = sym (le-leb 0 a.source (omega arith))
source_by_last (b ∷ []) a = refl
source_by_last (b ∷ d ∷ rest) a = source_by_last (d ∷ rest) a
