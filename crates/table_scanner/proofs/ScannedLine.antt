-- What a scanned line tells of the lines of a text.
use Rattle.std.specs.Prelude.{Result, Ok, Err}
use Prim.Native.Nat.{ℕ, ◌+◌, ◌<◌, ◌≤◌}
use native.Mathlib.Omega.{arith}
use mathlib.Core.Path.{◌≡◌, refl, sym, ap, ◌∙◌}
use mathlib.Core.Bool.{Bool, true, false, cond}
use mathlib.Core.List.{List, [], ◌∷◌, append-nil}
use lib.ListN.{length, drop, length-drop}
use lib.Seq.{sets, drop-drop}
use Rattle.table_format.specs.Line.{Line, lines_of, malformed, bytes_of, chars_of, size_of}
use Rattle.refusal.specs.declared.InputCause.{InputCause}
use Rattle.refusal.specs.declared.InputCause.TheVariants.{Malformed}
use Rattle.table_scanner.specs.declared.Line.{Line as ScannedLine}
use Rattle.table_scanner.specs.Scan.{first_line, scanned_as, leading_bytes}
use Rattle.table_format.proofs.All.{All}
use Rattle.table_format.proofs.Line.{IsByte, line_bytes_lem}
use Rattle.table_scanner.proofs.FirstLine.{first-inside, first_some, lines-first}
use Rattle.table_scanner.proofs.Scanning.{leading_after}

-- a line that is well formed, with its bytes in the lent array, and the lines after it
pub record LineRead (text : List ℕ) (start count next : ℕ) (before bytes : List ℕ) : Type 0 where
  pub line : Line
  pub lines_are : lines_of (drop start text) ≡ line ∷ lines_of (drop next text)
  pub well : malformed line ≡ false
  pub small : All IsByte (bytes_of line.chars)
  pub count-is : count ≡ length (bytes_of line.chars)
  pub bytes-are : bytes ≡ sets before 0 (bytes_of line.chars)
  pub next-after : start < next
  pub next-inside : next ≤ length text

pub record LineBad (text : List ℕ) (start : ℕ) : Type 0 where
  pub line : Line
  pub others : List Line
  pub lines_are : lines_of (drop start text) ≡ line ∷ others
  pub bad : malformed line ≡ true

-- a line that is well formed begins with all its bytes
leading_all : (l : Line) → malformed l ≡ false → leading_bytes l.chars ≡ bytes_of l.chars
unfolding leading_bytes
leading_all l h =
    let b : List ℕ = bytes_of l.chars in
    let w = line_bytes_lem l h in
    ap (λ (x : Line). leading_bytes x.chars) w.0 ∙ ap leading_bytes (sym (append-nil (chars_of b))) ∙ leading_after b [] w.1 ∙ append-nil b

module _ (text : List ℕ) (start : ℕ) (inside : start < length text) where
  abbrev first : Line
  first = first_line (drop start text)

  abbrev others : List Line
  others = lines_of (drop (size_of first) (drop start text))

  lines_cut : lines_of (drop start text) ≡ first ∷ others
  lines_cut = lines-first (drop start text) (omega (arith, length-drop start text))

  module _ {r : Result ScannedLine InputCause} (told : r ≡ scanned_as start first) where
    told_by_lem : (b : Bool) → malformed first ≡ b → r ≡ cond b (Err Malformed) (Ok (record { count = length (bytes_of first.chars); next = start + size_of first }))
    unfolding scanned_as
    told_by_lem b h = told ∙ ap (λ (x : Bool). cond x (Err Malformed) (Ok (record { count = length (bytes_of first.chars); next = start + size_of first }))) h

    -- the only refusal of a line
    pub line-bad : {cause : InputCause} → r ≡ Err cause → (cause ≡ Malformed) × LineBad text start
    line-bad {cause} e = go (malformed first) refl
      where
        go : (b : Bool) → malformed first ≡ b → (cause ≡ Malformed) × LineBad text start
        go true h = (cc (sym e ∙ told_by_lem true h), record { line = first; others = others; lines_are = lines_cut; bad = h })
        go false h = absurd (let z : ◌≡◌ {A = ℕ} 0 1 = cc (sym e ∙ told_by_lem false h) in omega arith)

    pub line_read : {said : ScannedLine} {before bytes : List ℕ} → r ≡ Ok said → bytes ≡ sets before 0 (leading_bytes first.chars)
        → LineRead text start said.count said.next before bytes
    line_read {said} {before} {bytes} e stored = go (malformed first) refl
      where
        go : (b : Bool) → malformed first ≡ b → LineRead text start said.count said.next before bytes
        go true h = absurd (let z : ◌≡◌ {A = ℕ} 0 1 = cc (sym e ∙ told_by_lem true h) in omega arith)
        go false h =
            let is : said ≡ record { count = length (bytes_of first.chars); next = start + size_of first } = cc (sym e ∙ told_by_lem false h) in
            let count-is : said.count ≡ length (bytes_of first.chars) = λ i. (is i).count in
            let next-is : said.next ≡ start + size_of first = λ i. (is i).next in
            record {
              line = first;
              lines_are = lines_cut ∙ ap (λ (s : List ℕ). first ∷ lines_of s) (drop-drop (size_of first) start text ∙ ap (λ (n : ℕ). drop n text) (sym next-is));
              well = h;
              small = (line_bytes_lem first h).1;
              count-is = count-is;
              bytes-are = stored ∙ ap (sets before 0) (leading_all first h);
              next-after = omega (arith, first_some (drop start text) (omega (arith, length-drop start text)));
              next-inside = omega (arith, first-inside (drop start text), length-drop start text);
            }
