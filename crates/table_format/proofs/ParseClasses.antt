-- The parse of class lines, in both directions. No count says how many there are: they go on while lines begin as a class's.
use Prim.Native.Nat.{ℕ, zero, suc, ◌+◌}
use native.Mathlib.Omega.{arith}
use mathlib.Core.Path.{◌≡◌, refl, sym, ap, ap₂, ◌∙◌}
use mathlib.Core.Bool.{Bool, true, false, not, cond, ◌&&◌, and-eq-true_iff}
use mathlib.Core.List.{List, [], ◌∷◌, ◌++◌, append_assoc}
use lib.Dec.{eqb}
use lib.ListN.{length, get_or, set, replicate, length-append}
use lib.Seq.{drop-append_seam, set-append_seam}
use borrow.Author.Tests.{lt-ltb}
use Rattle.table_format.specs.Table.{Table, Counts}
use Rattle.table_format.specs.Classes.{class_count, row_with, is_defined, letters_in, no_classes}
use Rattle.table_format.specs.Rules.{is_empty, any, class_holds, classes_keep}
use Rattle.table_format.specs.Text.{class_bytes, class_lines}
use Rattle.table_format.specs.Parse.{class, code_of, class_from, letters_from, is_of, Progress, within, table_with, bytes_faults, onward, accepted}
use Rattle.table_format.proofs.All.{All}
use Rattle.table_format.proofs.Tests.{and_both}
use Rattle.table_format.proofs.Classes.{row_letters_lem, rows_hold_lem}
use Rattle.table_format.proofs.Line.{IsByte}
use Rattle.table_format.proofs.ClassLines.{RowKeeps, undefined_blank, row_defined, class_kind, class_form, class_only, more-line, class_kept, keep-more}
use Rattle.table_format.proofs.Parse.{parse_bytes, parse-one, one-parsed, due_class, faults-due, onward-due, judges_class}

-- rows without letters
abbrev blanks : ℕ → List (List ℕ)
blanks n = replicate n (row_with [])

none_defined : (n : ℕ) → any is_defined (blanks n) ≡ false
none_defined zero = refl
none_defined (suc n) = none_defined n

module _ (c : Counts) (s : ℕ) where
  -- a text read as far as some classes
  abbrev pub with_rows : List (List ℕ) → Progress
  with_rows rows = within c (table_with s rows [] [] [])

  module _ (rows : List (List ℕ)) (b : List ℕ) (begins : eqb (get_or b 0 0) (code_of class) ≡ true) where
    pub class_line-clear : is_empty (bytes_faults (with_rows rows) b) ≡ (is_of class b && class_holds rows (class_from b) (letters_from b))
    class_line-clear =
        let t = table_with s rows [] [] [] in
        faults-due c t class b (due_class c t b begins) ∙ ap (λ (x : Bool). is_of class b && x) (judges_class t b)

    pub class_line-onward : onward (with_rows rows) b ≡ with_rows (set rows (class_from b) (row_with (letters_from b)))
    class_line-onward = let t = table_with s rows [] [] [] in onward-due c t class b (due_class c t b begins)

  -- The lines of classes are read: from rows that are so far done, and blank after that.

  module _ (done : List (List ℕ)) (row : List ℕ) (n : ℕ) (here : length done + suc n ≡ class_count) (keeps : RowKeeps row) (defined : is_defined row ≡ true) where
    abbrev line : List ℕ
    line = class_bytes (length done) row

    fits : class_holds (done ++ (row_with [] ∷ blanks n)) (length done) (letters_in row) ≡ true
    unfolding class_holds
    fits =
        and_both (lt-ltb (length done) class_count (omega arith))
        (and_both (ap (λ (l : List (List ℕ)). not (any is_defined l)) (drop-append_seam done (row_with [] ∷ blanks n)) ∙ ap not (none_defined n))
        (row_letters_lem row keeps).1.1)

    read_class : (bs : List (List ℕ)) → parse_bytes (with_rows (done ++ (row_with [] ∷ blanks n))) (line ∷ bs) ≡ parse_bytes (with_rows (done ++ (row ∷ blanks n))) bs
    read_class bs =
        parse-one (with_rows (done ++ (row_with [] ∷ blanks n))) line bs
        (class_line-clear (done ++ (row_with [] ∷ blanks n)) line refl ∙ and_both (class_kind (length done) row keeps defined) fits)
        ∙ ap (λ (p : Progress). parse_bytes p bs)
        (class_line-onward (done ++ (row_with [] ∷ blanks n)) line refl
        ∙ ap with_rows
        (set-append_seam done (row_with []) (blanks n) (row_with (letters_in row))
        ∙ ap (λ (r : List ℕ). done ++ (r ∷ blanks n)) (row_letters_lem row keeps).0))

  abbrev Reads : List (List ℕ) → List (List ℕ) → List (List ℕ) → Type 0
  Reads done rows bs =
      parse_bytes (with_rows (done ++ blanks (length rows))) (class_lines (length done) rows ++ bs) ≡ parse_bytes (with_rows (done ++ rows)) bs

  rows-read : (done rows bs : List (List ℕ)) → length done + length rows ≡ class_count → All RowKeeps rows → Reads done rows bs
  unfolding class_lines
  rows-read done [] bs h p = refl
  rows-read done (row ∷ rows) bs h p = go (is_defined row) refl (rows-read (done ++ (row ∷ [])) rows bs (omega (arith, size)) p.1)
    where
      size : length (done ++ (row ∷ [])) ≡ suc (length done)
      size = length-append done (row ∷ []) ∙ omega arith

      rest : Reads (done ++ (row ∷ [])) rows bs
          → parse_bytes (with_rows (done ++ (row ∷ blanks (length rows)))) (class_lines (suc (length done)) rows ++ bs) ≡ parse_bytes (with_rows (done ++ (row ∷ rows))) bs
      rest later =
          sym (ap₂ (λ (l : List (List ℕ)) (n : ℕ). parse_bytes (with_rows l) (class_lines n rows ++ bs)) (append_assoc done (row ∷ []) (blanks (length rows))) size)
          ∙ later
          ∙ ap (λ (l : List (List ℕ)). parse_bytes (with_rows l) bs) (append_assoc done (row ∷ []) rows)

      go : (d : Bool) → is_defined row ≡ d → Reads (done ++ (row ∷ [])) rows bs
          → parse_bytes (with_rows (done ++ (row_with [] ∷ blanks (length rows))))
          (cond d (class_bytes (length done) row ∷ class_lines (suc (length done)) rows) (class_lines (suc (length done)) rows) ++ bs)
          ≡ parse_bytes (with_rows (done ++ (row ∷ rows))) bs
      go true e later = read_class done row (length rows) h p.0 e (class_lines (suc (length done)) rows ++ bs) ∙ rest later
      go false e later =
          ap (λ (r : List ℕ). parse_bytes (with_rows (done ++ (r ∷ blanks (length rows)))) (class_lines (suc (length done)) rows ++ bs))
          (undefined_blank row p.0 e)
          ∙ rest later

  -- all of them
  pub parse-classes : (rows bs : List (List ℕ)) → classes_keep rows ≡ true → parse_bytes (with_rows no_classes) (class_lines 0 rows ++ bs) ≡ parse_bytes (with_rows rows) bs
  unfolding no_classes
  parse-classes rows bs keep =
      let h = (rows_hold_lem rows).0 keep in
      let size : length rows ≡ class_count = h.0 in
      sym (ap (λ (n : ℕ). parse_bytes (with_rows (blanks n)) (class_lines 0 rows ++ bs)) size) ∙ rows-read [] rows bs (omega arith) h.1

  -- Read lines are those of classes, and then a line that does not begin as a class's.

  -- one line: the rows with its class
  record OneRead (rows : List (List ℕ)) (b : List ℕ) (bs : List (List ℕ)) (t : Table) : Type 0 where
    classes : List (List ℕ)
    keep : classes_keep classes ≡ true
    lines : class_lines 0 rows ++ (b ∷ []) ≡ class_lines 0 classes
    parse : parse_bytes (with_rows classes) bs ≡ accepted t

  one_class : (rows : List (List ℕ)) (b : List ℕ) (bs : List (List ℕ)) (t : Table) → classes_keep rows ≡ true → eqb (get_or b 0 0) (code_of class) ≡ true
      → parse_bytes (with_rows rows) (b ∷ bs) ≡ accepted t → OneRead rows b bs t
  one_class rows b bs t keep begins e =
      let d = one-parsed (with_rows rows) b bs t e in
      let k = (and-eq-true_iff (is_of class b) (class_holds rows (class_from b) (letters_from b))).0 (sym (class_line-clear rows b begins) ∙ d.0) in
      let f = class_form b k.0 in
      let h = class_kept rows (class_from b) (letters_from b) k.1 in
      record {
        classes = set rows (class_from b) (row_with (letters_from b));
        keep = keep-more rows (class_from b) (letters_from b) keep f.few h.rise;
        lines =
            ap (λ (l : List ℕ). class_lines 0 rows ++ (l ∷ [])) (class_only b k.0 h.rise)
            ∙ sym
            (more-line rows (class_from b) (row_with (letters_from b)) (omega (arith, h.below, ((rows_hold_lem rows).0 keep).0)) h.behind
            (row_defined (letters_from b) f.some h.rise));
        parse = ap (λ (p : Progress). parse_bytes p bs) (sym (class_line-onward rows b begins)) ∙ d.1;
      }

  pub record ClassesRead (rows bs : List (List ℕ)) (t : Table) : Type 0 where
    pub classes : List (List ℕ)
    pub keep : classes_keep classes ≡ true
    pub rest : List (List ℕ)
    pub lines : class_lines 0 rows ++ bs ≡ class_lines 0 classes ++ rest
    pub small : All (All IsByte) rest
    pub over : eqb (get_or (get_or rest 0 []) 0 0) (code_of class) ≡ false
    pub parse : parse_bytes (with_rows classes) rest ≡ accepted t

  pub classes-parsed : (rows bs : List (List ℕ)) (t : Table) → classes_keep rows ≡ true → All (All IsByte) bs → parse_bytes (with_rows rows) bs ≡ accepted t
      → ClassesRead rows bs t
  classes-parsed rows [] t keep small e = record { classes = rows; keep = keep; rest = []; lines = refl; small = tt; over = refl; parse = e }
  classes-parsed rows (b ∷ bs) t keep small e = go (eqb (get_or b 0 0) (code_of class)) refl (λ o. classes-parsed o.classes bs t o.keep small.1 o.parse)
    where
      more : (o : OneRead rows b bs t) → ClassesRead o.classes bs t → ClassesRead rows (b ∷ bs) t
      more o r =
          record {
            classes = r.classes;
            keep = r.keep;
            rest = r.rest;
            lines = sym (append_assoc (class_lines 0 rows) (b ∷ []) bs) ∙ ap (λ (l : List (List ℕ)). l ++ bs) o.lines ∙ r.lines;
            small = r.small;
            over = r.over;
            parse = r.parse;
          }

      go : (x : Bool) → eqb (get_or b 0 0) (code_of class) ≡ x → ((o : OneRead rows b bs t) → ClassesRead o.classes bs t) → ClassesRead rows (b ∷ bs) t
      go true begins later = let o = one_class rows b bs t keep begins e in more o (later o)
      go false begins later = record { classes = rows; keep = keep; rest = b ∷ bs; lines = refl; small = small; over = begins; parse = e }

  -- from no class on
  pub all_lines : (bs : List (List ℕ)) (t : Table) (R : ClassesRead no_classes bs t) → bs ≡ class_lines 0 R.classes ++ R.rest
  unfolding no_classes class_lines
  all_lines bs t R = R.lines
