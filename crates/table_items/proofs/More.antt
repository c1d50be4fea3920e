-- One line more: the table with its item, and the cells that hold it.
use Prim.Native.Nat.{ℕ, ◌+◌, ◌*◌, ◌≤◌, ◌<◌}
use native.Mathlib.Omega.{arith}
use mathlib.Core.Path.{◌≡◌, refl, sym, ap, ap₂, ◌∙◌}
use mathlib.Core.Bool.{true}
use mathlib.Core.List.{List, [], ◌∷◌, ◌++◌, append_assoc, append-nil}
use lib.ListN.{length, set, replicate, length-append}
use lib.Seq.{sets, length-sets}
use Rattle.std.specs.Prelude.{Ok}
use Rattle.table_format.specs.Table.{Arc, Table, Counts}
use Rattle.table_format.specs.Classes.{class_count, row_width, row_with, no_classes}
use Rattle.table_format.specs.Rules.{each, counts_hold, initial_faults, terminal_faults, arc_faults, arcs_keep}
use Rattle.table_format.specs.Loaded.{arc_width, class_cells, initials_at, most_cells, count_cells, rows_cells, arc_cells, arcs_cells, counts_in}
use Rattle.table_format.specs.Text.{class_bytes, class_lines}
use Rattle.table_rules.specs.Judge.{judged, largest, state_key, arc_key}
use Rattle.table_format.specs.Parse.{table_with, empty_table, LineKind, class, initial, terminal, arc, end, number_at, arc_from, class_from, letters_from, due, item_faults, kind_faults, within, onward}
use Rattle.table_items.specs.Draft.{filled_up, draft_cells, IsItem, row_at, place_of, filled_after, item_cells, item_key, Tracks}
use Rattle.table_rules.proofs.Turn.{keep_snoc, top-snoc}
use Rattle.table_format.proofs.Classes.{Shaped, keep-shaped, row-length, no_classes-keep}
use Rattle.table_format.proofs.ClassLines.{ClassForm, row_defined, more-line, keep-more}
use Rattle.table_format.proofs.Loaded.{classes-length}
use Rattle.table_format.proofs.Parse.{onward-due}
use Rattle.table_items.proofs.LineKinds.{kept-item, class_held}
use Rattle.table_items.proofs.Parts.{sets-left, sets_right}
use Rattle.table_items.proofs.Rows.{rows-set}
use Rattle.table_items.proofs.Filled.{sets-filled, sets-within, filled-zeros}
use Rattle.table_items.proofs.Tracked.{filled_at, lists_due}

abbrev pub extend : LineKind → Table → List ℕ → Table
extend class t b = table_with t.states (set t.classes (class_from b) (row_with (letters_from b))) t.initials t.terminals t.arcs
extend initial t b = table_with t.states t.classes (t.initials ++ (number_at b 1 ∷ [])) t.terminals t.arcs
extend terminal t b = table_with t.states t.classes t.initials (t.terminals ++ (number_at b 1 ∷ [])) t.arcs
extend arc t b = table_with t.states t.classes t.initials t.terminals (t.arcs ++ (arc_from b ∷ []))
extend end t b = t

pub onward-item : (c : Counts) (t : Table) (k : LineKind) (b : List ℕ) → due c t b ≡ k → IsItem k → onward (within c t) b ≡ within c (extend k t b)
onward-item c t class b e i = onward-due c t class b e
onward-item c t initial b e i = onward-due c t initial b e
onward-item c t terminal b e i = onward-due c t terminal b e
onward-item c t arc b e i = onward-due c t arc b e
onward-item c t end b e i = absurd i

-- the kinds whose cells stand behind those so far
abbrev IsListed : LineKind → Type 0
IsListed class = ⊥
IsListed initial = Unit {0}
IsListed terminal = Unit {0}
IsListed arc = Unit {0}
IsListed end = ⊥

-- the cells of the items behind the rows
abbrev listed : Table → List ℕ
listed t = t.initials ++ (t.terminals ++ arcs_cells t.arcs)

arcs_cells-snoc : (arcs : List Arc) (a : Arc) → arcs_cells (arcs ++ (a ∷ [])) ≡ arcs_cells arcs ++ arc_cells a
unfolding arcs_cells
arcs_cells-snoc [] a = refl
arcs_cells-snoc (x ∷ arcs) a = ap (λ (l : List ℕ). arc_cells x ++ l) (arcs_cells-snoc arcs a)

module _ {c : Counts} {t : Table} {lines filled top : ℕ} {cells : List ℕ} (T : Tracks c t lines filled top cells) (b : List ℕ) {top' : ℕ} (raised : top ≤ top') (room : filled + arc_width ≤ most_cells) where
  listed_more : (k : LineKind) → due c t b ≡ k → IsListed k → listed (extend k t b) ≡ listed t ++ item_cells k b
  unfolding arcs_cells
  listed_more class e i = absurd i
  listed_more initial e i =
      let l = lists_due T b e in
      append_assoc t.initials (number_at b 1 ∷ []) (t.terminals ++ arcs_cells t.arcs)
      ∙ ap₂ (λ (x : List ℕ) (y : List Arc). t.initials ++ (number_at b 1 ∷ (x ++ arcs_cells y))) l.1 l.2
      ∙ sym (ap₂ (λ (x : List ℕ) (y : List Arc). (t.initials ++ (x ++ arcs_cells y)) ++ (number_at b 1 ∷ [])) l.1 l.2 ∙ ap (λ (x : List ℕ). x ++ (number_at b 1 ∷ [])) (append-nil t.initials))
  listed_more terminal e i =
      let l = lists_due T b e in
      ap (λ (y : List Arc). t.initials ++ ((t.terminals ++ (number_at b 1 ∷ [])) ++ arcs_cells y)) l.2
      ∙ ap (λ (x : List ℕ). t.initials ++ x) (append-nil (t.terminals ++ (number_at b 1 ∷ [])))
      ∙ sym (ap (λ (y : List Arc). (t.initials ++ (t.terminals ++ arcs_cells y)) ++ (number_at b 1 ∷ [])) l.2 ∙ ap (λ (x : List ℕ). (t.initials ++ x) ++ (number_at b 1 ∷ [])) (append-nil t.terminals) ∙ append_assoc t.initials t.terminals (number_at b 1 ∷ []))
  listed_more arc e i =
      ap (λ (x : List ℕ). t.initials ++ (t.terminals ++ x)) (arcs_cells-snoc t.arcs (arc_from b))
      ∙ sym (append_assoc t.initials (t.terminals ++ arcs_cells t.arcs) (arc_cells (arc_from b)) ∙ ap (λ (x : List ℕ). t.initials ++ x) (append_assoc t.terminals (arcs_cells t.arcs) (arc_cells (arc_from b))))
  listed_more end e i = absurd i

  same_rows : (k : LineKind) → IsListed k → (extend k t b).classes ≡ t.classes
  same_rows class i = absurd i
  same_rows initial i = refl
  same_rows terminal i = refl
  same_rows arc i = refl
  same_rows end i = absurd i

  few : (k : LineKind) → IsListed k → length (item_cells k b) ≤ arc_width
  few class i = absurd i
  few initial i = omega arith
  few terminal i = omega arith
  few arc i = omega arith
  few end i = absurd i

  module _ (k : LineKind) (e : due c t b ≡ k) (i : IsListed k) where
    draft_more : draft_cells c (extend k t b) ≡ draft_cells c t ++ item_cells k b
    unfolding draft_cells
    draft_more =
        ap₂ (λ (rows : List (List ℕ)) (x : List ℕ). count_cells c ++ (rows_cells rows ++ x)) (same_rows k i) (listed_more k e i)
        ∙ ap (λ (x : List ℕ). count_cells c ++ x) (sym (append_assoc (rows_cells t.classes) (listed t) (item_cells k b)))

    filled_more : filled + length (item_cells k b) ≡ length (draft_cells c (extend k t b))
    filled_more = omega (arith, T.filled_is, ap length draft_more ∙ length-append (draft_cells c t) (item_cells k b))

    cells-more : sets cells filled (item_cells k b) ≡ filled_up (draft_cells c (extend k t b))
    cells-more =
        ap₂ (λ (x : List ℕ) (n : ℕ). sets x n (item_cells k b)) T.cells_are T.filled_is
        ∙ sets-filled (draft_cells c t) (item_cells k b) (omega (arith, few k i, T.filled_is)) ∙ ap filled_up (sym draft_more)

  -- a class line: its row in the cells of the rows
  module _ (form : ClassForm b) (below : class_from b < class_count) where
    abbrev row : List ℕ
    row = row_with (letters_from b)

    row-long : length row ≡ row_width
    row-long = row-length (letters_from b) form.few

    shaped : Shaped t.classes
    shaped = keep-shaped t.classes T.classes_keep_lem

    draft_class : sets (draft_cells c t) (row_at b) row ≡ draft_cells c (extend class t b)
    unfolding draft_cells
    draft_class =
        sets_right (count_cells c) (rows_cells t.classes ++ listed t) row (row_width * class_from b)
        ∙ ap (λ (x : List ℕ). count_cells c ++ x)
        (sets-left row (rows_cells t.classes) (listed t) (row_width * class_from b) (omega (arith, row-long, classes-length t.classes T.classes_keep_lem))
        ∙ ap (λ (x : List ℕ). x ++ listed t) (rows-set t.classes (class_from b) row (omega (arith, shaped.0)) shaped.1 row-long))

    filled_class : filled ≡ length (draft_cells c (extend class t b))
    filled_class = T.filled_is ∙ sym (ap length (sym draft_class) ∙ length-sets (draft_cells c t) (row_at b) row)

    cells_class : sets cells (row_at b) row ≡ filled_up (draft_cells c (extend class t b))
    cells_class =
        ap (λ (x : List ℕ). sets x (row_at b) row) T.cells_are
        ∙ sets-within (draft_cells c t) (row_at b) row (omega (arith, row-long, T.filled_is, filled_at T)) ∙ ap filled_up draft_class

  pub tracks-more : (k : LineKind) → due c t b ≡ k → IsItem k → judged (kind_faults k t b) ≡ Ok tt → item_key k b ≤ top'
      → Tracks c (extend k t b) (lines + 1) (filled_after k b filled) top' (sets cells (place_of k b filled) (item_cells k b))
  unfolding item_faults each
  tracks-more class e i kept key =
      let l = lists_due T b e in
      let h = class_held t b kept in
      let shape = keep-shaped t.classes T.classes_keep_lem in
      let line = more-line t.classes (class_from b) (row_with (letters_from b)) (omega (arith, h.1.below, shape.0)) h.1.behind (row_defined (letters_from b) h.0.some h.1.rise) in
      record {
        counts = T.counts;
        states-is = T.states-is;
        initials-most = T.initials-most;
        terminals-most = T.terminals-most;
        arcs-most = T.arcs-most;
        initials-full = T.initials-full;
        terminals-full = T.terminals-full;
        lines-is = omega (arith, T.lines-is, ap length line ∙ length-append (class_lines 0 t.classes) (class_bytes (class_from b) (row_with (letters_from b)) ∷ []));
        filled_is = filled_class h.0 h.1.below;
        cells_are = cells_class h.0 h.1.below;
        classes_keep_lem = keep-more t.classes (class_from b) (letters_from b) T.classes_keep_lem h.0.few h.1.rise;
        initials_keep_lem = T.initials_keep_lem;
        terminals_keep_lem = T.terminals_keep_lem;
        arcs_keep_lem = ap (arcs_keep t.states (set t.classes (class_from b) (row_with (letters_from b)))) l.2;
        top-states = omega (arith, T.top-states);
        top-arcs = omega (arith, T.top-arcs);
      }
  tracks-more initial e i kept key =
      let l = lists_due T b e in
      let n = length-append t.initials (number_at b 1 ∷ []) in
      record {
        counts = T.counts;
        states-is = T.states-is;
        initials-most = omega (arith, l.0);
        terminals-most = T.terminals-most;
        arcs-most = T.arcs-most;
        initials-full = λ z. absurd (omega (arith, ap length l.1, ap length l.2));
        terminals-full = T.terminals-full;
        lines-is = omega (arith, T.lines-is);
        filled_is = filled_more initial e tt;
        cells_are = cells-more initial e tt;
        classes_keep_lem = T.classes_keep_lem;
        initials_keep_lem = keep_snoc (initial_faults t.states) t.initials (number_at b 1) T.initials_keep_lem (kept-item initial t b kept);
        terminals_keep_lem = T.terminals_keep_lem;
        arcs_keep_lem = T.arcs_keep_lem;
        top-states = top-snoc state_key t.initials (number_at b 1) top' (omega (arith, T.top-states)) key;
        top-arcs = omega (arith, T.top-arcs);
      }
  tracks-more terminal e i kept key =
      let l = lists_due T b e in
      let n = length-append t.terminals (number_at b 1 ∷ []) in
      record {
        counts = T.counts;
        states-is = T.states-is;
        initials-most = T.initials-most;
        terminals-most = omega (arith, l.1);
        arcs-most = T.arcs-most;
        initials-full = λ z. l.0;
        terminals-full = λ z. absurd (omega (arith, ap length l.2));
        lines-is = omega (arith, T.lines-is);
        filled_is = filled_more terminal e tt;
        cells_are = cells-more terminal e tt;
        classes_keep_lem = T.classes_keep_lem;
        initials_keep_lem = T.initials_keep_lem;
        terminals_keep_lem = keep_snoc (terminal_faults t.states) t.terminals (number_at b 1) T.terminals_keep_lem (kept-item terminal t b kept);
        arcs_keep_lem = T.arcs_keep_lem;
        top-states = omega (arith, T.top-states);
        top-arcs = omega (arith, T.top-arcs);
      }
  tracks-more arc e i kept key =
      let l = lists_due T b e in
      let n = length-append t.arcs (arc_from b ∷ []) in
      record {
        counts = T.counts;
        states-is = T.states-is;
        initials-most = T.initials-most;
        terminals-most = T.terminals-most;
        arcs-most = omega (arith, l.2);
        initials-full = λ z. l.0;
        terminals-full = λ z. l.1;
        lines-is = omega (arith, T.lines-is);
        filled_is = filled_more arc e tt;
        cells_are = cells-more arc e tt;
        classes_keep_lem = T.classes_keep_lem;
        initials_keep_lem = T.initials_keep_lem;
        terminals_keep_lem = T.terminals_keep_lem;
        arcs_keep_lem = keep_snoc (arc_faults t.states t.classes) t.arcs (arc_from b) T.arcs_keep_lem (kept-item arc t b kept);
        top-states = omega (arith, T.top-states);
        top-arcs = top-snoc arc_key t.arcs (arc_from b) top' (omega (arith, T.top-arcs)) key;
      }
  tracks-more end e i kept key = absurd i

-- after the header line

draft_none : (c : Counts) (states : ℕ) → draft_cells c (empty_table states) ≡ count_cells c ++ replicate class_cells 0
unfolding draft_cells rows_cells no_classes arcs_cells
draft_none c states = refl

pub tracks-start : (cells : List ℕ) → cells ≡ filled_up (count_cells (counts_in cells)) → counts_hold (counts_in cells) ≡ true → Tracks (counts_in cells) (empty_table (counts_in cells).states) 1 initials_at 0 cells
unfolding largest each class_lines no_classes
tracks-start cells h e =
    let c = counts_in cells in
    let none = draft_none c c.states in
    record {
      counts = e;
      states-is = refl;
      initials-most = omega arith;
      terminals-most = omega arith;
      arcs-most = omega arith;
      initials-full = λ z. absurd (omega arith);
      terminals-full = λ z. absurd (omega arith);
      lines-is = refl;
      filled_is = sym (ap length none);
      cells_are = h ∙ sym (ap filled_up none ∙ filled-zeros (count_cells c) class_cells (omega arith));
      classes_keep_lem = no_classes-keep;
      initials_keep_lem = refl;
      terminals_keep_lem = refl;
      arcs_keep_lem = refl;
      top-states = omega arith;
      top-arcs = omega arith;
    }
