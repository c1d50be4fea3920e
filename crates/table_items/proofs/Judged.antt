-- What a line earns after the table so far: the judgements of the code are those of the line that is due.
use Prim.Native.Nat.{ℕ, ◌-◌, ◌≤◌}
use native.Mathlib.Omega.{arith}
use mathlib.Core.Path.{◌≡◌, sym, ap, ◌∙◌}
use mathlib.Core.Bool.{Bool, true}
use mathlib.Core.List.{List}
use lib.Dec.{eqb}
use lib.ListN.{length, get_or, take, drop}
use borrow.Author.Tests.{eq-eqb, ne_eqb}
use Rattle.refusal.specs.declared.InputCause.TheVariants.{LineCount, ClassFault}
use Rattle.std.specs.Prelude.{Ok, Err}
use Rattle.table_format.specs.Table.{Arc, Table, Counts}
use Rattle.table_format.specs.Classes.{class_count}
use Rattle.table_format.specs.Rules.{unless, class_holds, class_faults, initial_faults, terminal_faults, arc_faults, arcs_keep}
use Rattle.table_format.specs.Loaded.{classes_at, class_cells, initials_at, counts_in, rows_in, classes_in, terminals_at, arcs_at}
use Rattle.table_format.specs.Cells.{arcs_as}
use Rattle.table_rules.specs.Judge.{judged, largest, state_key, arc_key}
use Rattle.table_format.specs.Parse.{in_place, LineKind, class, initial, terminal, arc, end, code_of, width_of, has_form, number_at, arc_from, class_from, letters_from, is_of, due, item_faults, kind_faults}
use Rattle.table_format.specs.Text.{lines_before}
use Rattle.table_items.specs.Draft.{arcs_held, ArcsReady, Drafted, Tracks}
use Rattle.table_format.proofs.Arcs.{at_equal}
use Rattle.table_items.proofs.LineKinds.{placed}
use Rattle.table_items.proofs.Rows.{rows-front}
use Rattle.table_items.proofs.Tracked.{filled_at, counts-held, classes-held, states-held, initials-before, terminals-before, arcs-before, terminals-from, arcs-start, cells-enough}

module _ {c : Counts} {t : Table} {lines filled top : ℕ} {cells : List ℕ} (T : Tracks c t lines filled top cells) (b : List ℕ) where
  pub earned : (k : LineKind) → k ≡ due c t b → judged (kind_faults k t b) ≡ judged (kind_faults (due c t b) t b)
  earned k e = ap (λ (x : LineKind). judged (kind_faults x t b)) e

  pub judged_class : class ≡ due c t b
      → judged (in_place (is_of class b) (class_faults (classes_in cells) (class_from b) (letters_from b))) ≡ judged (kind_faults (due c t b) t b)
  unfolding item_faults
  judged_class k =
      ap (λ (rows : List (List ℕ)). judged (in_place (is_of class b) (class_faults rows (class_from b) (letters_from b)))) (classes-held T) ∙ earned class k

  pub judged-initial : (n : ℕ) → initial ≡ due c t b → has_form (code_of initial) (width_of initial) b ≡ true → n ≡ number_at b 1
      → judged (initial_faults (get_or cells 0 0) (take (filled - initials_at) (drop initials_at cells)) n) ≡ judged (kind_faults (due c t b) t b)
  unfolding item_faults
  judged-initial n k e q =
      (λ i. judged (initial_faults (states-held T i) (initials-before T b (sym k) i) (q i)))
      ∙ sym (placed (item_faults initial t b) e) ∙ earned initial k

  pub judged-terminal : (from n : ℕ) → from ≡ terminals_at (counts_in cells) → terminal ≡ due c t b → has_form (code_of terminal) (width_of terminal) b ≡ true → n ≡ number_at b 1
      → judged (terminal_faults (get_or cells 0 0) (take (filled - from) (drop from cells)) n) ≡ judged (kind_faults (due c t b) t b)
  unfolding item_faults
  judged-terminal from n f k e q =
      let p : take (filled - from) (drop from cells) ≡ t.terminals =
      at_equal (λ m. take (filled - m) (drop m cells)) from (terminals_at c) (f ∙ ap terminals_at (counts-held T)) ∙ terminals-before T b (sym k) in
      (λ i. judged (terminal_faults (states-held T i) (p i) (q i)))
      ∙ sym (placed (item_faults terminal t b) e) ∙ earned terminal k

  pub judged-arc : arc ≡ due c t b
      → judged (in_place (is_of arc b) (arc_faults (get_or cells 0 0) (classes_in cells) (arcs_held cells filled) (arc_from b))) ≡ judged (kind_faults (due c t b) t b)
  unfolding item_faults
  judged-arc k =
      (λ i. judged (in_place (is_of arc b) (arc_faults (states-held T i) (classes-held T i) (arcs-before T b (sym k) i) (arc_from b)))) ∙ earned arc k

  -- what the code asks
  initials-ready : initial ≡ due c t b → largest state_key (take (filled - initials_at) (drop initials_at cells)) ≤ top
  initials-ready k = omega (arith, ap (largest state_key) (initials-before T b (sym k)), T.top-states)

  terminals-ready : terminal ≡ due c t b → terminals_at (counts_in cells) ≤ filled
  terminals-ready k = terminals-from T b (sym k)

  arcs-ready : arc ≡ due c t b → ArcsReady cells filled top
  arcs-ready k =
      let p = arcs-before T b (sym k) in
      record {
        from = arcs-start T b (sym k);
        inside = cells-enough T;
        keep = (λ i. arcs_keep (states-held T i) (classes-held T i) (p i)) ∙ T.arcs_keep_lem;
        top-arcs = omega (arith, ap (largest arc_key) p, T.top-arcs);
      }

  -- the end line
  module _ (d : due c t b ≡ end) (e : has_form (code_of end) (width_of end) b ≡ true) where
    end-judged : judged (kind_faults (due c t b) t b) ≡ judged (unless (eqb (number_at b 1) (lines_before t)) LineCount)
    unfolding item_faults
    end-judged = ap (λ (x : LineKind). judged (kind_faults x t b)) d ∙ placed (item_faults end t b) e

    pub end_right : number_at b 1 ≡ lines → judged (kind_faults (due c t b) t b) ≡ Ok tt
    end_right q = end-judged ∙ ap (λ (x : Bool). judged (unless x LineCount)) (eq-eqb (number_at b 1) (lines_before t) (q ∙ T.lines-is))

    pub end_wrong : (number_at b 1 ≡ lines → ⊥) → judged (kind_faults (due c t b) t b) ≡ Err LineCount
    end_wrong q = end-judged ∙ ap (λ (x : Bool). judged (unless x LineCount)) (ne_eqb (number_at b 1) (lines_before t) (λ z. q (z ∙ sym T.lines-is)))

-- What the code asks of some draft.

module _ {lines filled top : ℕ} {cells : List ℕ} {kind : LineKind} (D : Drafted lines filled top cells kind) where
  pub drafted-bounds : (initials_at ≤ filled) × (filled ≤ length cells)
  drafted-bounds = (omega (arith, filled_at D.tracks), cells-enough D.tracks)

  pub drafted-initials : kind ≡ initial → largest state_key (take (filled - initials_at) (drop initials_at cells)) ≤ top
  drafted-initials k = initials-ready D.tracks D.bytes (sym k ∙ D.kind-is)

  pub drafted-terminals : kind ≡ terminal → terminals_at (counts_in cells) ≤ filled
  drafted-terminals k = terminals-ready D.tracks D.bytes (sym k ∙ D.kind-is)

  pub drafted-arcs : kind ≡ arc → ArcsReady cells filled top
  drafted-arcs k = arcs-ready D.tracks D.bytes (sym k ∙ D.kind-is)

-- What the code of the rules judges, in the parts of the cells that it is given.

pub class_judged : (rows : List (List ℕ)) (c : ℕ) (letters : List ℕ) {h : Bool} → class_holds rows c letters ≡ h → judged (class_faults rows c letters) ≡ judged (unless h ClassFault)
unfolding class_faults
class_judged rows c letters e = ap (λ (x : Bool). judged (unless x ClassFault)) e

module _ {cells : List ℕ} {filled top : ℕ} (A : ArcsReady cells filled top) (from : ℕ) (f : from ≡ arcs_at (counts_in cells)) where
  abbrev rows_given : List (List ℕ)
  rows_given = rows_in class_count (take class_cells (drop classes_at cells))

  abbrev arcs_given : List Arc
  arcs_given = arcs_as (take (filled - from) (drop from cells))

  rows_are : rows_given ≡ classes_in cells
  rows_are = rows-front class_count (drop classes_at cells)

  arcs-are : arcs_given ≡ arcs_held cells filled
  arcs-are = at_equal (λ m. arcs_as (take (filled - m) (drop m cells))) from (arcs_at (counts_in cells)) f

  pub given-keep : arcs_keep (get_or cells 0 0) rows_given arcs_given ≡ true
  given-keep = (λ i. arcs_keep (get_or cells 0 0) (rows_are i) (arcs-are i)) ∙ A.keep

  pub given-top : largest arc_key arcs_given ≤ top
  given-top = omega (arith, ap (largest arc_key) arcs-are, A.top-arcs)

  pub given-judged : {a r : Arc} → a ≡ r → judged (arc_faults (get_or cells 0 0) rows_given arcs_given a) ≡ judged (arc_faults (get_or cells 0 0) (classes_in cells) (arcs_held cells filled) r)
  given-judged q = λ i. judged (arc_faults (get_or cells 0 0) (rows_are i) (arcs-are i) (q i))
