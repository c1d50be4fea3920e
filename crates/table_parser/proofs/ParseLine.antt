-- The parse of a text from a scanned line on, and after the end line.
use Prim.Native.Nat.{ℕ, ◌+◌, ◌<◌}
use mathlib.Core.Path.{◌≡◌, refl, sym, ap, ◌∙◌}
use mathlib.Core.Bool.{Bool, true, false, cond}
use mathlib.Core.List.{List, [], ◌∷◌}
use lib.ListN.{length, drop}
use Rattle.refusal.specs.declared.InputCause.{InputCause}
use Rattle.refusal.specs.declared.InputCause.TheVariants.{Malformed, Misplaced}
use Rattle.table_format.specs.Table.{Table}
use Rattle.table_format.specs.Line.{Line, lines_of, malformed, bytes_of, size_of}
use Rattle.table_format.specs.Parse.{Progress, closed, bytes_faults, line_faults, onward, Parsed, turned_down, decide, parse_from}
use Rattle.std.specs.Prelude.{Result, Ok, Err}
use Rattle.table_scanner.specs.declared.Line.{Line as ScannedLine}
use Rattle.table_scanner.specs.Scan.{first_line, scanned_as}
use Rattle.table_parser.specs.Gathered.{after_end}
use Rattle.table_scanner.proofs.FirstLine.{lines-first}
use Rattle.table_scanner.proofs.ScannedLine.{LineRead, LineBad}

pub parse-bad : (p : Progress) (text : List ℕ) (start : ℕ) → LineBad text start → parse_from p (lines_of (drop start text)) ≡ turned_down Malformed
unfolding parse_from line_faults
parse-bad p text start L =
    ap (parse_from p) L.lines_are
    ∙ ap (λ (b : Bool). decide (cond b (Malformed ∷ []) (bytes_faults p (bytes_of L.line.chars))) (parse_from (onward p (bytes_of L.line.chars)) L.others)) L.bad

pub parse-line : (p : Progress) (text : List ℕ) (start : ℕ) {count next : ℕ} {before bytes : List ℕ} (L : LineRead text start count next before bytes) → parse_from p (lines_of (drop start text))
    ≡ decide (bytes_faults p (bytes_of L.line.chars)) (parse_from (onward p (bytes_of L.line.chars)) (lines_of (drop (next) text)))
unfolding parse_from line_faults
parse-line p text start {next = next} L =
    ap (parse_from p) L.lines_are
    ∙ ap (λ (b : Bool). decide (cond b (Malformed ∷ []) (bytes_faults p (bytes_of L.line.chars))) (parse_from (onward p (bytes_of L.line.chars)) (lines_of (drop (next) text)))) L.well

-- After the end line.

-- the refusal of a scanned line there
abbrev cause_after : Result ScannedLine InputCause → InputCause
cause_after (Err cause) = cause
cause_after (Ok line) = Misplaced

pub after-told : (start : ℕ) (l : Line) {r q : Result ScannedLine InputCause} → r ≡ scanned_as start l → r ≡ q → cause_after q ≡ after_end l
unfolding scanned_as
after-told start l e f = ap cause_after (sym f ∙ e) ∙ go (malformed l)
  where
    go : (b : Bool) → cause_after (cond b (Err Malformed) (Ok (record { count = length (bytes_of l.chars); next = start + size_of l }))) ≡ cond b Malformed Misplaced
    go true = refl
    go false = refl

pub parse-after : (t : Table) (s : List ℕ) → 0 < length s → parse_from (closed t) (lines_of s) ≡ turned_down (after_end (first_line s))
unfolding parse_from line_faults bytes_faults
parse-after t s h = ap (parse_from (closed t)) (lines-first s h) ∙ go (malformed (first_line s)) _
  where
    go : (b : Bool) (p : Parsed) → decide (cond b (Malformed ∷ []) (Misplaced ∷ [])) p ≡ turned_down (cond b Malformed Misplaced)
    go true p = refl
    go false p = refl
