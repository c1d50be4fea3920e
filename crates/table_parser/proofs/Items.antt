-- Reading the lines after the header's: what is known at the head of the loop, a turn of it, and its ways out.
use Prim.Native.Nat.{ℕ, ◌+◌, ◌*◌, ◌≤◌, ◌<◌}
use native.Mathlib.Omega.{arith}
use mathlib.Core.Path.{◌≡◌, refl, sym, ap, subst, ◌∙◌}
use mathlib.Core.Bool.{Bool, true, false}
use mathlib.Core.List.{List, [], ◌∷◌}
use lib.ListN.{length, get_or, drop, drop_of_length-le, length-drop}
use lib.Seq.{sets}
use Rattle.refusal.specs.declared.InputCause.{InputCause}
use Rattle.refusal.specs.declared.InputCause.TheVariants.{Malformed, Misplaced, CountLimit}
use Rattle.std.specs.Prelude.{Result, Ok, Err}
use Rattle.table_format.specs.Table.{Table, Counts}
use Rattle.table_format.specs.Classes.{class_count}
use Rattle.table_format.specs.Rules.{unless, counts_hold, header_faults}
use Rattle.table_format.specs.Loaded.{arc_width, initials_at, most_cells, count_cells, counts_in, cells_of}
use Rattle.table_format.specs.Line.{lines_of, bytes_of}
use Rattle.table_format.specs.Text.{line_bytes}
use Rattle.table_rules.specs.Judge.{judged}
use Rattle.table_format.specs.Parse.{is_header, in_place, LineKind, class, initial, terminal, arc, end, Progress, due, counts_from, class_from, kind_faults, bytes_faults, opening, parsed, onward, within, closed, empty_table, Parsed, accepted, turned_down, decide, parse_from}
use denote.Enum.Bare.{sameb}
use Rattle.table_items.specs.contracts.LineKind.{the_type}
use Rattle.table_items.specs.declared.LineKind.{LineKind as CodedKind}
use Rattle.table_items.specs.declared.LineKind.TheVariants as Coded
use Rattle.table_items.specs.Draft.{kind_said, filled_up, draft_cells, kind_after, Drafted, IsItem, place_of, filled_after, item_cells, item_key, Tracks}
use Rattle.table_parser.specs.Gathered.{gathered, ReadInto, items_parsed, after_end}
use Rattle.table_scanner.specs.Scan.{first_line}
use Rattle.table_scanner.proofs.ScannedLine.{LineRead, LineBad}
use Rattle.table_parser.proofs.ParseLine.{parse-line, parse-bad, parse-after}
use Rattle.table_format.proofs.Parse.{onward-due}
use Rattle.table_items.proofs.LineKinds.{form_short, item-only, misplaced, placed, kept_form, class_held}
use Rattle.table_items.proofs.Tracked.{bounded, filled_at, cells-long, counts-held, kind-due, lists_due, Lists, end-cells}
use Rattle.table_items.proofs.More.{extend, onward-item, tracks-more, tracks-start}
use Rattle.table_format.proofs.Rules.{Bounded}
use Rattle.table_format.proofs.Classes.{keep-shaped}
use Rattle.table_format.proofs.ClassLines.{few-lines}

-- what a line's refusals decide
decide-broken : (fs : List InputCause) (f : InputCause) (p : Parsed) → judged fs ≡ Err f → decide fs p ≡ turned_down f
decide-broken [] f p e = cc
decide-broken (g ∷ fs) f p e = cc

decide-kept : (fs : List InputCause) (p : Parsed) → judged fs ≡ Ok tt → decide fs p ≡ p
decide-kept [] p e = refl
decide-kept (g ∷ fs) p e = cc

-- the test for the end line
pub is_end : (h : CodedKind) → sameb the_type h Coded.End ≡ true → kind_said h ≡ end
is_end Coded.Class e = cc
is_end Coded.Initial e = cc
is_end Coded.Terminal e = cc
is_end Coded.Arc e = cc
is_end Coded.End e = refl

pub is_no_end : (h : CodedKind) → sameb the_type h Coded.End ≡ false → kind_said h ≡ end → ⊥
is_no_end Coded.Class e f = cc
is_no_end Coded.Initial e f = cc
is_no_end Coded.Terminal e f = cc
is_no_end Coded.Arc e f = cc
is_no_end Coded.End e f = cc

not_end : (k : LineKind) → IsItem k → k ≡ end → ⊥
not_end class i e = cc
not_end initial i e = cc
not_end terminal i e = cc
not_end arc i e = cc
not_end end i e = i

abbrev All : Counts → List ℕ → ℕ → Parsed
All c text start = items_parsed c (drop start text)

pub record ReadingOn (c : Counts) (text : List ℕ) (start at lines filled top : ℕ) (cells : List ℕ) : Type 0 where
  pub table : Table
  pub tracks : Tracks c table lines filled top cells
  pub inside : at ≤ length text
  pub rest-is : All c text start ≡ parse_from (within c table) (lines_of (drop at text))

pub reading-start : (text : List ℕ) (start : ℕ) (cells : List ℕ) → start ≤ length text → counts_hold (counts_in cells) ≡ true
    → cells ≡ filled_up (count_cells (counts_in cells)) → ReadingOn (counts_in cells) text start start 1 initials_at 0 cells
reading-start text start cells h k e =
    record { table = empty_table (counts_in cells).states; tracks = tracks-start cells e k; inside = h; rest-is = refl }

module _ {c : Counts} {text : List ℕ} {start at lines filled top : ℕ} {cells : List ℕ} (R : ReadingOn c text start at lines filled top cells) where
  pub long : length cells ≡ most_cells
  long = cells-long R.tracks

  -- the line that is due
  module _ (b : List ℕ) where
    abbrev due_for : LineKind
    due_for = due c R.table b

    pub due-code : kind_after (counts_in cells) filled (get_or b 0 0) ≡ due_for
    due-code = ap (λ (x : Counts). kind_after x filled (get_or b 0 0)) (counts-held R.tracks) ∙ kind-due R.tracks b

    pub drafted : {kind : LineKind} → kind ≡ due_for → Drafted lines filled top cells kind
    drafted e = record { counts = c; table = R.table; bytes = b; tracks = R.tracks; kind-is = e }

    pub item-is : {kind : LineKind} → kind ≡ due_for → (kind ≡ end → ⊥) → IsItem due_for
    item-is e n = item-only due_for (λ z. n (e ∙ z))

    pub room : (due_for ≡ end → ⊥) → filled + arc_width ≤ most_cells
    room n = few due_for (lists_due R.tracks b refl) n
      where
        w : Bounded c
        w = bounded R.tracks

        f : filled ≡ initials_at + length R.table.initials + length R.table.terminals + arc_width * length R.table.arcs
        f = filled_at R.tracks

        few : (k : LineKind) → Lists c R.table k → (k ≡ end → ⊥) → filled + arc_width ≤ most_cells
        few class l h = omega (arith, f, ap length l.0, ap length l.1, ap length l.2)
        few initial l h = omega (arith, f, w.states, w.initials, l.0, ap length l.1, ap length l.2)
        few terminal l h = omega (arith, f, w.states, w.initials, w.terminals, l.0, l.1, ap length l.2)
        few arc l h = omega (arith, f, w.states, w.initials, w.terminals, w.arcs, l.0, l.1, l.2)
        few end l h = absurd (h refl)

  -- a refusal
  pub out-refused : {f : InputCause} {r : Result ℕ InputCause} → All c text start ≡ turned_down f → r ≡ Err f → ReadInto (All c text start) r cells
  out-refused {r = r} h e = subst (λ (p : Parsed). ReadInto p r cells) (sym h) e

  pub out_missing : length text ≤ at → All c text start ≡ turned_down Misplaced
  unfolding parse_from lines_of
  out_missing h = R.rest-is ∙ ap (λ (x : List ℕ). parse_from (within c R.table) (lines_of x)) (drop_of_length-le text h)

  pub out-bad : LineBad text at → All c text start ≡ turned_down Malformed
  out-bad L = R.rest-is ∙ parse-bad (within c R.table) text at L

  pub lines-few : lines ≤ 1545
  lines-few =
      let b = bounded R.tracks in
      omega (
        arith,
        b.states,
        b.initials,
        b.terminals,
        b.arcs,
        R.tracks.lines-is,
        few-lines 0 R.table.classes,
        (keep-shaped R.table.classes R.tracks.classes_keep_lem).0,
        R.tracks.initials-most,
        R.tracks.terminals-most,
        R.tracks.arcs-most,
      )

  module _ {count next : ℕ} {before bytes : List ℕ} (L : LineRead text at count next before bytes) where
    abbrev said : List ℕ
    said = bytes_of L.line.chars

    abbrev its_kind : LineKind
    its_kind = due_for said

    -- what the line decides
    decided : All c text start ≡ decide (kind_faults its_kind R.table said) (parse_from (onward (within c R.table) said) (lines_of (drop next text)))
    unfolding bytes_faults
    decided = R.rest-is ∙ parse-line (within c R.table) text at L

    pub out-broken : (f : InputCause) → judged (kind_faults its_kind R.table said) ≡ Err f → All c text start ≡ turned_down f
    out-broken f e = decided ∙ decide-broken (kind_faults its_kind R.table said) f _ e

    module _ (kept : judged (kind_faults its_kind R.table said) ≡ Ok tt) where
      onto : All c text start ≡ parse_from (onward (within c R.table) said) (lines_of (drop next text))
      onto = decided ∙ decide-kept (kind_faults its_kind R.table said) _ kept

      -- its bytes are in their array, and its class, if it is a class line, has a row
      pub few_bytes : length said ≤ line_bytes
      few_bytes = form_short its_kind said (kept_form its_kind R.table said kept)

      pub class_below : {kind : LineKind} → kind ≡ its_kind → kind ≡ class → class_from said < class_count
      class_below {kind} e f =
          (class_held R.table said (ap (λ (k : LineKind). judged (kind_faults k R.table said)) (sym f ∙ e) ∙ kept)).1.below

      -- the end line, with nothing after it, or another line

      end_on : its_kind ≡ end → All c text start ≡ parse_from (closed R.table) (lines_of (drop next text))
      end_on d = onto ∙ ap (λ (p : Progress). parse_from p (lines_of (drop next text))) (onward-due c R.table end said d)

      ended : its_kind ≡ end → length text ≤ next → All c text start ≡ accepted R.table
      unfolding parse_from lines_of
      ended d h = end_on d ∙ ap (λ (s : List ℕ). parse_from (closed R.table) (lines_of s)) (drop_of_length-le text h)

      pub out-end : its_kind ≡ end → length text ≤ next → ReadInto (All c text start) (Ok filled) cells
      out-end d h =
          let q : draft_cells c R.table ≡ cells_of R.table = end-cells R.tracks said d in
          subst (λ (p : Parsed). ReadInto p (Ok filled) cells) (sym (ended d h)) (ap Ok (R.tracks.filled_is ∙ ap length q), R.tracks.cells_are ∙ ap filled_up q)

      pub out-after : its_kind ≡ end → next < length text → All c text start ≡ turned_down (after_end (first_line (drop next text)))
      out-after d h = end_on d ∙ parse-after R.table (drop next text) (omega (arith, length-drop next text))

      -- one item more
      pub reading-more : (filled' top' : ℕ) (cells' : List ℕ) → IsItem its_kind → top ≤ top' → item_key its_kind said ≤ top'
          → (filled' ≡ filled_after its_kind said filled) × (cells' ≡ sets cells (place_of its_kind said filled) (item_cells its_kind said))
          → ReadingOn c text start next (lines + 1) filled' top' cells'
      reading-more filled' top' cells' i h k p =
          record {
            table = extend its_kind R.table said;
            tracks =
                subst (λ (n : ℕ). Tracks c (extend its_kind R.table said) (lines + 1) n top' cells') (sym p.0)
                (subst (Tracks c (extend its_kind R.table said) (lines + 1) _ top') (sym p.1)
                (tracks-more R.tracks said h (room said (not_end its_kind i)) its_kind refl i kept k));
            inside = L.next-inside;
            rest-is = onto ∙ ap (λ (p : Progress). parse_from p (lines_of (drop next text))) (onward-item c R.table its_kind said refl i);
          }

-- The header line.

pub header_missing : (text : List ℕ) → length text ≡ 0 → parsed text ≡ turned_down Misplaced
unfolding parsed parse_from lines_of
header_missing [] h = refl
header_missing (x ∷ text) h = absurd (omega arith)

pub header_bad : (text : List ℕ) → LineBad text 0 → parsed text ≡ turned_down Malformed
unfolding parsed
header_bad text L = parse-bad opening text 0 L

module _ {text : List ℕ} {count next : ℕ} {before bytes : List ℕ} (L : LineRead text 0 count next before bytes) where
  abbrev first : List ℕ
  first = bytes_of L.line.chars

  -- what the header line earns
  abbrev earned : List InputCause
  earned = in_place (is_header first) (header_faults (counts_from first))

  header_decided : parsed text ≡ decide earned (parse_from (onward opening first) (lines_of (drop next text)))
  unfolding parsed bytes_faults
  header_decided = parse-line opening text 0 L

  pub header_misplaced : is_header first ≡ false → parsed text ≡ turned_down Misplaced
  header_misplaced e = header_decided ∙ decide-broken earned Misplaced _ (misplaced (header_faults (counts_from first)) e)

  module _ (is : is_header first ≡ true) where
    header_judged : (b : Bool) → counts_hold (counts_from first) ≡ b → judged earned ≡ judged (unless b CountLimit)
    unfolding header_faults
    header_judged b e = placed (header_faults (counts_from first)) is ∙ ap (λ (x : Bool). judged (unless x CountLimit)) e

    pub header_limit : counts_hold (counts_from first) ≡ false → parsed text ≡ turned_down CountLimit
    header_limit e = header_decided ∙ decide-broken earned CountLimit _ (header_judged false e)

    pub header_on : counts_hold (counts_from first) ≡ true → parsed text ≡ items_parsed (counts_from first) (drop next text)
    unfolding onward
    header_on e = header_decided ∙ decide-kept earned _ (header_judged true e)

-- What is gathered, from what was read into the cells.

pub gathered-all : (p : Parsed) {r : Result ℕ InputCause} {cells : List ℕ} {n : ℕ} → ReadInto p r cells → r ≡ Ok n → record { read = Ok n; cells = cells } ≡ gathered p
gathered-all (accepted t) h e = λ i. record { read = (sym e ∙ h.0) i; cells = h.1 i }
gathered-all (turned_down f) h e = cc

pub gathered-refused : (p : Parsed) {r : Result ℕ InputCause} (cells : List ℕ) {f : InputCause} → ReadInto p r cells → r ≡ Err f → gathered (turned_down f) ≡ gathered p
gathered-refused (accepted t) cells h e = cc (h.0)
gathered-refused (turned_down g) cells h e = ap (λ (x : InputCause). gathered (turned_down x)) (cc)
