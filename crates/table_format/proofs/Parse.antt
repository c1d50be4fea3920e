-- The parse of lines, and of the items of one kind, in both directions: which lines are read, and what read lines are.
use Prim.Native.Nat.{ℕ, zero, suc, ◌+◌, ◌≤◌, ◌<◌}
use native.Mathlib.Omega.{arith}
use mathlib.Core.Path.{◌≡◌, refl, sym, ap, ap₂, ◌∙◌}
use mathlib.Core.Bool.{Bool, true, false, cond, ◌&&◌, and-eq-true_iff, and-false}
use mathlib.Core.List.{List, [], ◌∷◌, ◌++◌, map, append_assoc, append-nil}
use lib.Dec.{eqb}
use lib.ListN.{length, get_or, length-append}
use borrow.Author.Tests.{lt-ltb, le-ltb}
use Rattle.refusal.specs.declared.InputCause.{InputCause}
use Rattle.refusal.specs.declared.InputCause.TheVariants.{Malformed, LineCount}
use Rattle.table_format.specs.Table.{Arc, Table, Counts, counts_of}
use Rattle.table_format.specs.Rules.{is_empty, each, counts_hold, class_holds, header_faults}
use Rattle.table_format.specs.Line.{Line, malformed, bytes_of}
use Rattle.table_format.specs.Text.{initial_bytes, terminal_bytes, arc_bytes, lines_before}
use Rattle.table_format.specs.Parse.{in_place, is_header, LineKind, class, initial, terminal, arc, end, code_of, number_at, counts_from, arc_from, class_from, letters_from, is_of, Progress, opening, within, closed, item_due, due, table_with, empty_table, item_faults, kind_faults, bytes_faults, line_faults, added, onward, Parsed, accepted, decide, at_end, parse_from}
use Rattle.table_format.proofs.All.{All}
use Rattle.table_format.proofs.Tests.{empty-nil}
use Rattle.table_format.proofs.Rules.{clear-last, header_clear, class_clear, initial_passes, terminal_passes, arc_passes}
use Rattle.table_format.proofs.Line.{IsByte, Bytes, line_with, bytes-chars, line-well, line_bytes_lem}
use Rattle.table_format.proofs.Text.{number_value, arc-says, arc-is, initial-only, terminal-only, arc-only}

-- An accepted line earns no refusal, and the lines after it are accepted.

pub decide-accepted : (faults : List InputCause) (p : Parsed) (t : Table) → decide faults p ≡ accepted t → (faults ≡ []) × (p ≡ accepted t)
decide-accepted [] p t e = (refl, e)
decide-accepted (f ∷ faults) p t e = let z : ◌≡◌ {A = ℕ} 0 1 = cc in absurd (omega arith)

-- The parse of lines by their bytes.

unfoldable pub parse_bytes : Progress → List (List ℕ) → Parsed
parse_bytes p [] = at_end p
parse_bytes p (b ∷ bs) = decide (bytes_faults p b) (parse_bytes (onward p b) bs)

-- a line that earns no refusal leads on to those after it, and an accepted one is such a line
pub parse-one : (p : Progress) (b : List ℕ) (bs : List (List ℕ)) → is_empty (bytes_faults p b) ≡ true
    → parse_bytes p (b ∷ bs) ≡ parse_bytes (onward p b) bs
unfolding parse_bytes
parse-one p b bs h = ap (λ (f : List InputCause). decide f (parse_bytes (onward p b) bs)) (empty-nil (bytes_faults p b) h)

pub one-parsed : (p : Progress) (b : List ℕ) (bs : List (List ℕ)) (t : Table) → parse_bytes p (b ∷ bs) ≡ accepted t
    → (is_empty (bytes_faults p b) ≡ true) × (parse_bytes (onward p b) bs ≡ accepted t)
unfolding parse_bytes
one-parsed p b bs t e = let h = decide-accepted (bytes_faults p b) (parse_bytes (onward p b) bs) t e in (ap is_empty h.0, h.1)

-- a line earns no refusal where it is not malformed and its bytes earn none
faultless : (p : Progress) (l : Line) → line_faults p l ≡ [] → (malformed l ≡ false) × (bytes_faults p (bytes_of l.chars) ≡ [])
unfolding line_faults
faultless p l e = go (malformed l) refl
  where
    faults : (b : Bool) → malformed l ≡ b → cond b (Malformed ∷ []) (bytes_faults p (bytes_of l.chars)) ≡ []
    faults b h = ap (λ (x : Bool). cond x (Malformed ∷ []) (bytes_faults p (bytes_of l.chars))) (sym h) ∙ e

    go : (b : Bool) → malformed l ≡ b → (malformed l ≡ false) × (bytes_faults p (bytes_of l.chars) ≡ [])
    go true h = let z : ◌≡◌ {A = ℕ} 0 1 = cc (faults true h) in absurd (omega arith)
    go false h = (h, faults false h)

line_faults_lem : (p : Progress) (l : Line) → malformed l ≡ false → line_faults p l ≡ bytes_faults p (bytes_of l.chars)
unfolding line_faults
line_faults_lem p l h = ap (λ (b : Bool). cond b (Malformed ∷ []) (bytes_faults p (bytes_of l.chars))) h

pub parse-lines : (p : Progress) (bs : List (List ℕ)) → All Bytes bs → parse_from p (map line_with bs) ≡ parse_bytes p bs
unfolding parse_from parse_bytes
parse-lines p [] h = refl
parse-lines p (b ∷ bs) h =
    ap (λ (f : List InputCause). decide f (parse_from (onward p (bytes_of (line_with b).chars)) (map line_with bs)))
    (line_faults_lem p (line_with b) (line-well b h.0.some))
    ∙ ap (λ (x : List ℕ). decide (bytes_faults p x) (parse_from (onward p x) (map line_with bs))) (bytes-chars b h.0.small)
    ∙ ap (decide (bytes_faults p b)) (parse-lines (onward p b) bs h.1)

-- the bytes of lines that are accepted
pub record ParsedLines (p : Progress) (ls : List Line) (t : Table) : Type 0 where
  pub bytes : List (List ℕ)
  pub lines : ls ≡ map line_with bytes
  pub small : All (All IsByte) bytes
  pub parse : parse_bytes p bytes ≡ accepted t

pub lines-parsed : (p : Progress) (ls : List Line) (t : Table) → parse_from p ls ≡ accepted t → ParsedLines p ls t
unfolding parse_from parse_bytes
lines-parsed p [] t e = record { bytes = []; lines = refl; small = tt; parse = e }
lines-parsed p (l ∷ ls) t e =
    let d = decide-accepted (line_faults p l) (parse_from (onward p (bytes_of l.chars)) ls) t e in
    let w = faultless p l d.0 in
    let b = line_bytes_lem l w.0 in
    let s = lines-parsed (onward p (bytes_of l.chars)) ls t d.1 in
    record {
      bytes = bytes_of l.chars ∷ s.bytes;
      lines = ap₂ (λ (x : Line) (xs : List Line). x ∷ xs) b.0 s.lines;
      small = (b.1, s.small);
      parse = ap (λ (f : List InputCause). decide f (parse_bytes (onward p (bytes_of l.chars)) s.bytes)) w.1 ∙ s.parse;
    }

-- The kind that is due.

-- whether a line is taken as a class's: no initial state has been read, and its first byte is a class's
abbrev pub as_class : Table → List ℕ → Bool
as_class t b = is_empty t.initials && eqb (get_or b 0 0) (code_of class)

-- after an initial state no line is
pub no_class : (t : Table) (b : List ℕ) → 0 < length t.initials → as_class t b ≡ false
no_class t b h = go t.initials h
  where
    go : (is : List ℕ) → 0 < length is → (is_empty is && eqb (get_or b 0 0) (code_of class)) ≡ false
    go [] k = absurd (omega arith)
    go (s ∷ is) k = refl

module _ (c : Counts) (t : Table) (b : List ℕ) where
  pub due_class : as_class t b ≡ true → due c t b ≡ class
  due_class h = ap (λ (x : Bool). cond x class (item_due c t)) h

  module _ (none : as_class t b ≡ false) where
    pub due-item : due c t b ≡ item_due c t
    due-item = ap (λ (x : Bool). cond x class (item_due c t)) none

    pub due-initial : length t.initials < c.initials → due c t b ≡ initial
    due-initial h = due-item ∙ simp (lt-ltb (length t.initials) c.initials h)

    pub due-terminal : c.initials ≤ length t.initials → length t.terminals < c.terminals → due c t b ≡ terminal
    due-terminal h k = due-item ∙ simp (le-ltb (length t.initials) c.initials h, lt-ltb (length t.terminals) c.terminals k)

    pub due-arc : c.initials ≤ length t.initials → c.terminals ≤ length t.terminals → length t.arcs < c.arcs → due c t b ≡ arc
    due-arc h k l =
        due-item
        ∙ simp (le-ltb (length t.initials) c.initials h, le-ltb (length t.terminals) c.terminals k, lt-ltb (length t.arcs) c.arcs l)

    pub due-end : c.initials ≤ length t.initials → c.terminals ≤ length t.terminals → c.arcs ≤ length t.arcs → due c t b ≡ end
    due-end h k l =
        due-item
        ∙ simp (le-ltb (length t.initials) c.initials h, le-ltb (length t.terminals) c.terminals k, le-ltb (length t.arcs) c.arcs l)

-- a line in its place earns what it says
place-clear : (x : Bool) (faults : List InputCause) → is_empty (in_place x faults) ≡ (x && is_empty faults)
place-clear true faults = refl
place-clear false faults = refl

-- what a line earns at a place where its kind is due, and where it leads
module _ (c : Counts) (t : Table) (k : LineKind) (b : List ℕ) (here : due c t b ≡ k) where
  pub faults-due : is_empty (bytes_faults (within c t) b) ≡ (is_of k b && is_empty (item_faults k t b))
  unfolding bytes_faults
  faults-due = ap (λ (x : LineKind). is_empty (kind_faults x t b)) here ∙ place-clear (is_of k b) (item_faults k t b)

  pub onward-due : onward (within c t) b ≡ added k c t b
  unfolding onward
  onward-due = ap (λ (x : LineKind). added x c t b) here

-- The items of one kind, in lines one after the other: a table with those so far, their bytes, what bytes say, and the test that each
-- item passes. Neither their lines nor any line after one of them is taken as a class's.
pub record Phase (c : Counts) (A : Type 0) : Type 0 where
  pub kind : LineKind
  pub count : ℕ
  pub with : List A → Table
  pub bytes : A → List ℕ
  pub item : List ℕ → A
  pub test : List A → A → Bool
  pub own : (before : List A) (x : A) → as_class (with before) (bytes x) ≡ false
  pub later : (before : List A) (x : A) (b : List ℕ) → as_class (with (before ++ (x ∷ []))) b ≡ false
  pub is-due : (before : List A) (b : List ℕ) → as_class (with before) b ≡ false → length before < count → due c (with before) b ≡ kind
  pub adds : (before : List A) (b : List ℕ) → added kind c (with before) b ≡ within c (with (before ++ (item b ∷ [])))
  pub judges : (before : List A) (b : List ℕ) → is_empty (item_faults kind (with before) b) ≡ test before (item b)
  pub is-kind : (x : A) → is_of kind (bytes x) ≡ true
  pub says : (x : A) → item (bytes x) ≡ x
  pub only : (b : List ℕ) → All IsByte b → is_of kind b ≡ true → b ≡ bytes (item b)

-- What each kind of line is judged by.

pub judges_class : (t : Table) (b : List ℕ) → is_empty (item_faults class t b) ≡ class_holds t.classes (class_from b) (letters_from b)
unfolding item_faults
judges_class t b = class_clear t.classes (class_from b) (letters_from b)

pub judges-initial : (t : Table) (b : List ℕ) → is_empty (item_faults initial t b) ≡ initial_passes t.states t.initials (number_at b 1)
unfolding item_faults
judges-initial t b = refl

pub judges-terminal : (t : Table) (b : List ℕ) → is_empty (item_faults terminal t b) ≡ terminal_passes t.states t.terminals (number_at b 1)
unfolding item_faults
judges-terminal t b = refl

pub judges-arc : (t : Table) (b : List ℕ) → is_empty (item_faults arc t b) ≡ arc_passes t.states t.classes t.arcs (arc_from b)
unfolding item_faults
judges-arc t b = refl

-- The three kinds of items.

module _ (c : Counts) (s : ℕ) (rows : List (List ℕ)) where
  abbrev pub initial_phase : Phase c ℕ
  initial_phase =
      record {
        kind = initial;
        count = c.initials;
        with = λ is. table_with s rows is [] [];
        bytes = initial_bytes;
        item = λ b. number_at b 1;
        test = initial_passes s;
        own = λ is x. and-false (is_empty is);
        later = λ is x b. no_class (table_with s rows (is ++ (x ∷ [])) [] []) b (omega (arith, length-append is (x ∷ [])));
        is-due = λ is b n h. due-initial c (table_with s rows is [] []) b n h;
        adds = λ is b. refl;
        judges = λ is b. judges-initial (table_with s rows is [] []) b;
        is-kind = λ x. refl;
        says = number_value;
        only = initial-only;
      }

  module _ (is : List ℕ) (some : 0 < length is) (all : c.initials ≤ length is) where
    abbrev pub terminal_phase : Phase c ℕ
    terminal_phase =
        record {
          kind = terminal;
          count = c.terminals;
          with = λ ts. table_with s rows is ts [];
          bytes = terminal_bytes;
          item = λ b. number_at b 1;
          test = terminal_passes s;
          own = λ ts x. no_class (table_with s rows is ts []) (terminal_bytes x) some;
          later = λ ts x b. no_class (table_with s rows is (ts ++ (x ∷ [])) []) b some;
          is-due = λ ts b n h. due-terminal c (table_with s rows is ts []) b n all h;
          adds = λ ts b. refl;
          judges = λ ts b. judges-terminal (table_with s rows is ts []) b;
          is-kind = λ x. refl;
          says = number_value;
          only = terminal-only;
        }

    abbrev pub arc_phase : (ts : List ℕ) → c.terminals ≤ length ts → Phase c Arc
    arc_phase ts full =
        record {
          kind = arc;
          count = c.arcs;
          with = λ rs. table_with s rows is ts rs;
          bytes = arc_bytes;
          item = arc_from;
          test = arc_passes s rows;
          own = λ rs x. no_class (table_with s rows is ts rs) (arc_bytes x) some;
          later = λ rs x b. no_class (table_with s rows is ts (rs ++ (x ∷ []))) b some;
          is-due = λ rs b n h. due-arc c (table_with s rows is ts rs) b n all full h;
          adds = λ rs b. refl;
          judges = λ rs b. judges-arc (table_with s rows is ts rs) b;
          is-kind = arc-is;
          says = arc-says;
          only = arc-only;
        }

-- Items of a kind are read from their lines, and read lines are those of items.

module _ {A : Type 0} (c : Counts) (F : Phase c A) where
  abbrev pub read_so_far : List A → Progress
  read_so_far before = within c (F.with before)

  module _ (before : List A) (b : List ℕ) (none : as_class (F.with before) b ≡ false) (h : length before < F.count) where
    item-clear : is_empty (bytes_faults (read_so_far before) b) ≡ (is_of F.kind b && F.test before (F.item b))
    item-clear =
        faults-due c (F.with before) F.kind b (F.is-due before b none h) ∙ ap (λ (x : Bool). is_of F.kind b && x) (F.judges before b)

    item-onward : onward (read_so_far before) b ≡ read_so_far (before ++ (F.item b ∷ []))
    item-onward = onward-due c (F.with before) F.kind b (F.is-due before b none h) ∙ F.adds before b

  pub parse-items : (before xs : List A) (bs : List (List ℕ)) → length before + length xs ≤ F.count → each F.test before xs ≡ true
      → parse_bytes (read_so_far before) (map F.bytes xs ++ bs) ≡ parse_bytes (read_so_far (before ++ xs)) bs
  unfolding each
  parse-items before [] bs h e = ap (λ (l : List A). parse_bytes (read_so_far l) bs) (sym (append-nil before))
  parse-items before (x ∷ xs) bs h e =
      let p = (and-eq-true_iff (F.test before x) (each F.test (before ++ (x ∷ [])) xs)).0 e in
      let passes : F.test before (F.item (F.bytes x)) ≡ true = ap (F.test before) (F.says x) ∙ p.0 in
      let here : length before < F.count = omega arith in
      parse-one (read_so_far before) (F.bytes x) _ (item-clear before (F.bytes x) (F.own before x) here ∙ ap₂ ◌&&◌ (F.is-kind x) passes)
      ∙ ap (λ (q : Progress). parse_bytes q (map F.bytes xs ++ bs))
      (item-onward before (F.bytes x) (F.own before x) here ∙ ap (λ (y : A). read_so_far (before ++ (y ∷ []))) (F.says x))
      ∙ parse-items (before ++ (x ∷ [])) xs bs (simp length-append (omega arith)) p.1
      ∙ ap (λ (l : List A). parse_bytes (read_so_far l) bs) (append_assoc before (x ∷ []) xs)

  -- n items read from lines: the items, and the lines that are left
  pub record Items (before : List A) (n : ℕ) (bs : List (List ℕ)) (t : Table) : Type 0 where
    pub items : List A
    pub size : length items ≡ n
    pub kept : each F.test before items ≡ true
    pub rest : List (List ℕ)
    pub lines : bs ≡ map F.bytes items ++ rest
    pub small : All (All IsByte) rest
    pub parse : parse_bytes (read_so_far (before ++ items)) rest ≡ accepted t

  -- one line more
  item-parsed : (n : ℕ) (before : List A) (b : List ℕ) (bs : List (List ℕ)) (t : Table) → All IsByte b → is_of F.kind b ≡ true
      → F.test before (F.item b) ≡ true → Items (before ++ (F.item b ∷ [])) n bs t → Items before (suc n) (b ∷ bs) t
  unfolding each
  item-parsed n before b bs t small k p r =
      record {
        items = F.item b ∷ r.items;
        size = ap suc r.size;
        kept = ap₂ ◌&&◌ p r.kept;
        rest = r.rest;
        lines = ap₂ (λ (x : List ℕ) (xs : List (List ℕ)). x ∷ xs) (F.only b small k) r.lines;
        small = r.small;
        parse = ap (λ (l : List A). parse_bytes (read_so_far l) r.rest) (sym (append_assoc before (F.item b ∷ []) r.items)) ∙ r.parse;
      }

  -- where the first line is none of a class
  pub items_parsed_lem : (n : ℕ) (before : List A) (bs : List (List ℕ)) (t : Table) → as_class (F.with before) (get_or bs 0 []) ≡ false
      → length before + n ≡ F.count → All (All IsByte) bs → parse_bytes (read_so_far before) bs ≡ accepted t → Items before n bs t
  unfolding each parse_bytes
  items_parsed_lem zero before bs t none h small e =
      record {
        items = [];
        size = refl;
        kept = refl;
        rest = bs;
        lines = refl;
        small = small;
        parse = ap (λ (l : List A). parse_bytes (read_so_far l) bs) (append-nil before) ∙ e;
      }
  items_parsed_lem (suc n) before [] t none h small e = let z : ◌≡◌ {A = ℕ} 0 1 = cc in absurd (omega arith)
  items_parsed_lem (suc n) before (b ∷ bs) t none h small e =
      let here : length before < F.count = omega arith in
      let d = one-parsed (read_so_far before) b bs t e in
      let k = (and-eq-true_iff (is_of F.kind b) (F.test before (F.item b))).0 (sym (item-clear before b none here) ∙ d.0) in
      item-parsed n before b bs t small.0 k.0 k.1
      (items_parsed_lem n (before ++ (F.item b ∷ [])) bs t (F.later before (F.item b) (get_or bs 0 [])) (simp length-append (omega arith)) small.1
      (ap (λ (q : Progress). parse_bytes q bs) (sym (item-onward before b none here)) ∙ d.1))

-- The header line, and the end line after all items.

pub header_line-clear : (b : List ℕ) → is_empty (bytes_faults opening b) ≡ (is_header b && counts_hold (counts_from b))
unfolding bytes_faults
header_line-clear b = place-clear (is_header b) (header_faults (counts_from b)) ∙ ap (λ (x : Bool). is_header b && x) (header_clear (counts_from b))

pub header_onward : (b : List ℕ) → onward opening b ≡ within (counts_from b) (empty_table (counts_from b).states)
unfolding onward
header_onward b = refl

module _ (t : Table) (b : List ℕ) (some : 0 < length t.initials) where
  here : due (counts_of t) t b ≡ end
  here = due-end (counts_of t) t b (no_class t b some) (omega arith) (omega arith) (omega arith)

  pub end-clear : is_empty (bytes_faults (within (counts_of t) t) b) ≡ (is_of end b && eqb (number_at b 1) (lines_before t))
  unfolding item_faults
  end-clear = faults-due (counts_of t) t end b here ∙ ap (λ (x : Bool). is_of end b && x) (clear-last (eqb (number_at b 1) (lines_before t)) LineCount)

  pub end-onward : onward (within (counts_of t) t) b ≡ closed t
  end-onward = onward-due (counts_of t) t end b here

-- after the end line no line is accepted
pub closed-parsed : (u t : Table) (bs : List (List ℕ)) → parse_bytes (closed u) bs ≡ accepted t → (bs ≡ []) × (u ≡ t)
unfolding parse_bytes bytes_faults
closed-parsed u t [] e = (refl, cc)
closed-parsed u t (b ∷ bs) e = let z : ◌≡◌ {A = ℕ} 0 1 = cc in absurd (omega arith)
