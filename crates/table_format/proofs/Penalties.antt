-- Lines of arcs with a penalty, and arcs that agree but for it.
use Prim.Native.Nat.{ℕ, ◌+◌, ◌*◌, ◌<◌}
use native.Mathlib.Omega.{arith}
use mathlib.Core.Path.{◌≡◌, ap, ap₂, ◌∙◌}
use mathlib.Core.Bool.{Bool, false, cond, not, ◌&&◌, ◌||◌, and-false}
use mathlib.Core.List.{List, [], ◌∷◌, ◌++◌}
use lib.Dec.{eqb}
use lib.ListN.{length, get_or}
use lib.Seq.{get_or-drop}
use borrow.Author.Tests.{eq-eqb, ne_eqb}
use Rattle.refusal.specs.declared.InputCause.TheVariants.{Misplaced}
use Rattle.table_format.specs.Table.{Arc, Table, Counts, no_arc, without_penalty}
use Rattle.table_format.specs.Rules.{same_arc, arc_is_new}
use Rattle.table_format.specs.Loaded.{counts_in, arcs_at, table_in}
use Rattle.table_format.specs.Text.{field_bytes, arc_bytes}
use Rattle.table_format.specs.Parse.{arc, code_of, width_of, has_form, in_place, penalty_kind, penalty_width, is_of, due, item_faults, kind_faults, within, bytes_faults}
use Rattle.table_format.proofs.Arcs.{get_d_arcs}
use Rattle.table_format.proofs.Each.{any_some}
use Rattle.table_format.proofs.Ruled.{same_arc-by}

-- the line of an arc, by its penalty
pub line-without : (a : Arc) → a.penalty ≡ 0 → arc_bytes a ≡ 4 ∷ field_bytes a
line-without a e = ap (λ (x : Bool). cond x (4 ∷ field_bytes a) (7 ∷ (field_bytes a ++ (a.penalty ∷ [])))) (eq-eqb a.penalty 0 e)

pub line_with_lem : (a : Arc) → (a.penalty ≡ 0 → ⊥) → arc_bytes a ≡ 7 ∷ (field_bytes a ++ (a.penalty ∷ []))
line_with_lem a h = ap (λ (x : Bool). cond x (4 ∷ field_bytes a) (7 ∷ (field_bytes a ++ (a.penalty ∷ [])))) (ne_eqb a.penalty 0 h)

-- a line of kind 07 where an arc is due: 2 where its last byte is 0 or its length another
module _ (c : Counts) (t : Table) (b : List ℕ) (here : due c t b ≡ arc) where
  misplaced : is_of arc b ≡ false → bytes_faults (within c t) b ≡ Misplaced ∷ []
  unfolding bytes_faults
  misplaced e = ap (λ k. kind_faults k t b) here ∙ ap (λ (x : Bool). in_place x (item_faults arc t b)) e

  -- of kind 07 it is no line of kind 04
  not_plain : get_or b 0 0 ≡ 7 → has_form (code_of arc) (width_of arc) b ≡ false
  not_plain begins = ap (λ (x : Bool). x && eqb (length b) (width_of arc)) (ne_eqb (get_or b 0 0) (code_of arc) (λ e. omega arith))

  pub penalty-none : get_or b 0 0 ≡ 7 → get_or b 7 0 ≡ 0 → bytes_faults (within c t) b ≡ Misplaced ∷ []
  penalty-none begins zero =
      misplaced
      (ap₂ (λ (x y : Bool). x || (has_form penalty_kind penalty_width b && not y)) (not_plain begins) (eq-eqb (get_or b 7 0) 0 zero)
      ∙ and-false (has_form penalty_kind penalty_width b))

  pub penalty-length : get_or b 0 0 ≡ 7 → (length b ≡ 8 → ⊥) → bytes_faults (within c t) b ≡ Misplaced ∷ []
  penalty-length begins h =
      misplaced
      (ap₂ (λ (x y : Bool). x || ((eqb (get_or b 0 0) penalty_kind && y) && not (eqb (get_or b 7 0) 0))) (not_plain begins) (ne_eqb (length b) penalty_width h)
      ∙ ap (λ (x : Bool). x && not (eqb (get_or b 7 0) 0)) (and-false (eqb (get_or b 0 0) penalty_kind)))

  -- any other is judged as an arc's
  pub penalty-judged : get_or b 0 0 ≡ 7 → length b ≡ 8 → (get_or b 7 0 ≡ 0 → ⊥) → bytes_faults (within c t) b ≡ item_faults arc t b
  unfolding bytes_faults
  penalty-judged begins size h =
      ap (λ k. kind_faults k t b) here
      ∙ ap (λ (x : Bool). in_place x (item_faults arc t b))
      (ap₂ (λ (x y : Bool). x || y) (not_plain begins)
      (ap₂ (λ (x y : Bool). x && y) (ap₂ (λ (x y : Bool). x && y) (eq-eqb (get_or b 0 0) penalty_kind begins) (eq-eqb (length b) penalty_width size)) (ap not (ne_eqb (get_or b 7 0) 0 h))))

-- an arc is not new after one that agrees with it but for the penalty
pub equal_but_penalty : (before : List Arc) (a : Arc) (k : ℕ) → k < length before → without_penalty (get_or before k no_arc) ≡ without_penalty a → arc_is_new before a ≡ false
equal_but_penalty before a k h e = ap not (any_some (λ b. same_arc b a) no_arc before k h (same_arc-by (get_or before k no_arc) a e))

-- the penalty is the last of an arc's five cells
pub penalty-cell : (c : List ℕ) (k : ℕ) → k < get_or c 3 0 → (get_or (table_in c).arcs k no_arc).penalty ≡ get_or c (arcs_at (counts_in c) + (5 * k + 4)) 0
unfolding table_in
penalty-cell c k h =
    ap (λ (a : Arc). a.penalty) (get_d_arcs (get_or c 3 0) _ k no_arc h) ∙ get_or-drop (arcs_at (counts_in c)) c (5 * k + 4) 0
