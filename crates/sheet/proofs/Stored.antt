-- Readings that are lent, one after another: their lines counted, and stored.
use Prim.Native.Nat.{ℕ, suc, ◌+◌, ◌*◌, ◌≤◌}
use native.Mathlib.Omega.{arith}
use native.Mathlib.Nat.{zero-add}
use native.Mathlib.Numerals.{add-one}
use mathlib.Core.Path.{◌≡◌, refl, sym, ap, ◌∙◌}
use mathlib.Core.Bool.{Bool, true}
use mathlib.Core.List.{List, [], ◌∷◌, ◌++◌, map, append_assoc, append-nil}
use lib.ListN.{length, drop, length-append, length-map}
use lib.Seq.{sets, sets-eq}
use Rattle.table_format.proofs.All.{All}
use Rattle.table_format.proofs.Line.{IsByte}
use Rattle.table_format.proofs.Stores.{then}
use Rattle.faces.specs.Faces.{face_of}
use Rattle.table_format.specs.Text.{number}
use Rattle.faces.specs.Lent.{every, is_letter, list_holds, list_of, IsCut}
use Rattle.faces.proofs.Lent.{Left, left-all, left-none, Next, left-next, list-lent, list-few, lent-short-all}
use Rattle.sheet_lines.specs.Lines.{line_size, filled, reading_lines, joined, lines_for}
use Rattle.sheet.specs.Sheet.{opening_word, last_word, list_lines, sheet_of, lines_taken, sheet_size}
use Rattle.sheet_lines.proofs.Rows.{joined-append}
use Rattle.sheet_lines.proofs.Lines.{reading-size}
use Rattle.sheet.proofs.Sheet.{opening-line, list-size, sheet_size_lem, sheet-most}

-- a list that holds has a sheet of at most so many characters
pub size-most : (bytes : List ℕ) → All IsByte bytes → list_holds bytes ≡ true → sheet_size (list_of bytes) ≤ 72489146
size-most bytes B holds = sheet-most (list_of bytes) (list-few bytes holds) (lent-short-all bytes (list_of bytes) B (list-lent bytes holds))

-- COUNTED: so many lines before a place, and those of the readings that are left.

pub record Counting (bytes rest : List ℕ) (lines : ℕ) : Type 0 where
  pub ws : List (List ℕ)
  pub left : Left rest ws
  pub counted : lines + lines_taken ws ≡ 2 + lines_taken (list_of bytes)

pub counting_begun : (bytes : List ℕ) → list_holds bytes ≡ true → Counting bytes bytes 2
counting_begun bytes holds = record { ws = list_of bytes; left = left-all bytes holds; counted = refl }

module _ (bytes rest : List ℕ) (lines : ℕ) (C : Counting bytes rest lines) where
  pub counting_more : (w after : List ℕ) (m : ℕ) → rest ≡ number (length w) ++ (w ++ after) → m ≡ lines_for (length w) → Counting bytes after (lines + m)
  counting_more w after m e f =
      let N = left-next rest C.ws C.left w after e in
      let taken : lines_taken C.ws ≡ lines_for (length w) + lines_taken N.others = ap lines_taken N.is in
      record { ws = N.others; left = N.left; counted = omega (arith, C.counted) }

  pub counting_done : IsCut rest → lines ≡ 2 + lines_taken (list_of bytes)
  counting_done c = let none : lines_taken C.ws ≡ 0 = ap lines_taken (left-none rest C.ws C.left c) in omega (arith, C.counted)

-- STORED: the readings before those that are left, and storing these stores them all.

pub record Putting (bytes faces old : List ℕ) (at : ℕ) (s : List ℕ) (to n : ℕ) (rest : List ℕ) : Type 0 where
  pub ws : List (List ℕ)
  pub left : Left rest ws
  pub same : length s ≡ length old
  pub room : to + line_size * lines_taken ws ≡ at + line_size * lines_taken (list_of bytes)
  pub stored : sets s to (joined (list_lines faces n ws)) ≡ sets old at (joined (list_lines faces 1 (list_of bytes)))

pub putting_begun : (bytes faces old : List ℕ) (at : ℕ) → list_holds bytes ≡ true → Putting bytes faces old at old at 1 bytes
putting_begun bytes faces old at holds = record { ws = list_of bytes; left = left-all bytes holds; same = refl; room = refl; stored = refl }

module _ (bytes faces old : List ℕ) (at : ℕ) (s : List ℕ) (to n : ℕ) (rest : List ℕ) (P : Putting bytes faces old at s to n rest) where
  module _ (w after : List ℕ) (e : rest ≡ number (length w) ++ (w ++ after)) where
    N : Next w after P.ws
    N = left-next rest P.ws P.left w after e

    pub putting_letters : every is_letter w ≡ true
    putting_letters = N.letters

    pub putting_room : to + line_size * lines_for (length w) ≤ at + line_size * lines_taken (list_of bytes)
    putting_room = let taken : lines_taken P.ws ≡ lines_for (length w) + lines_taken N.others = ap lines_taken N.is in omega (arith, P.room)

    pub putting_more : (m : List ℕ) (t : ℕ) → length m ≡ length s → t ≡ to + line_size * lines_for (length w)
        → m ≡ sets s to (joined (reading_lines n (map (face_of faces) w))) → Putting bytes faces old at m t (n + 1) after
    putting_more m t l f p =
        let cs = map (face_of faces) w in
        let taken : lines_taken P.ws ≡ lines_for (length w) + lines_taken N.others = ap lines_taken N.is in
        let size : length (joined (reading_lines n cs)) ≡ line_size * lines_for (length w) = reading-size n cs ∙ ap (λ (i : ℕ). line_size * lines_for i) (length-map w (face_of faces)) in
        record {
          ws = N.others;
          left = N.left;
          same = l ∙ P.same;
          room = omega (arith, P.room);
          stored =
              ap (λ (i : ℕ). sets m t (joined (list_lines faces i N.others))) (add-one n)
              ∙ then s m _ to t (joined (reading_lines n cs)) (joined (list_lines faces (suc n) N.others)) p (omega arith) refl
              ∙ ap (sets s to) (sym (joined-append (reading_lines n cs) (list_lines faces (suc n) N.others)))
              ∙ ap (λ (vs : List (List ℕ)). sets s to (joined (list_lines faces n vs))) (sym N.is)
              ∙ P.stored;
        }

  pub putting_done : IsCut rest → (to ≡ at + line_size * lines_taken (list_of bytes)) × (s ≡ sets old at (joined (list_lines faces 1 (list_of bytes))))
  putting_done c =
      let none = left-none rest P.ws P.left c in (
        let k : lines_taken P.ws ≡ 0 = ap lines_taken none in omega (arith, P.room),
        ap (λ (vs : List (List ℕ)). sets s to (joined (list_lines faces n vs))) (sym none) ∙ P.stored,
      )

-- THE SHEET: the opening line, the readings, the last line.
pub sheet-stored : (faces : List ℕ) (ws : List (List ℕ)) (ended : Bool) (s a b r opening last : List ℕ) (end : ℕ) → sheet_size ws ≤ length s
    → opening ≡ filled opening_word → a ≡ sets s 0 opening
    → end ≡ line_size + line_size * lines_taken ws → b ≡ sets a line_size (joined (list_lines faces 1 ws))
    → last ≡ filled (last_word ended) → r ≡ sets b end last
    → r ≡ sheet_of faces ws ended ++ drop (sheet_size ws) s
unfolding sheet_of
sheet-stored faces ws ended s a b r opening last end room o p e q l t =
    let list = joined (list_lines faces 1 ws) in
    let size : length (filled opening_word) ≡ line_size = opening-line.size in
    let taken = list-size faces 1 ws in
    let two : b ≡ sets s 0 (filled opening_word ++ list) = then s a b 0 line_size (filled opening_word) list (p ∙ ap (sets s 0) o) (omega arith) q in
    let front : length (filled opening_word ++ list) ≡ length (filled opening_word) + length list = length-append (filled opening_word) list in
    let three : r ≡ sets s 0 ((filled opening_word ++ list) ++ filled (last_word ended)) =
    then s b r 0 end (filled opening_word ++ list) (filled (last_word ended)) two (omega arith) (t ∙ ap (sets b end) l) in
    let whole : (filled opening_word ++ list) ++ filled (last_word ended) ≡ sheet_of faces ws ended =
    append_assoc (filled opening_word) list (filled (last_word ended))
    ∙ ap (λ (x : List ℕ). filled opening_word ++ x)
    (sym (joined-append (list_lines faces 1 ws) (filled (last_word ended) ∷ []) ∙ ap (λ (x : List ℕ). list ++ x) (append-nil (filled (last_word ended))))) in
    let all = sheet_size_lem faces ws ended in
    three ∙ ap (sets s 0) whole
    ∙ sets-eq (sheet_of faces ws ended) s 0 (omega arith)
    ∙ ap (λ (n : ℕ). sheet_of faces ws ended ++ drop n s) (zero-add (length (sheet_of faces ws ended)) ∙ all)
