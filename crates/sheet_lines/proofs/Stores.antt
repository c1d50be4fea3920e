-- Characters stored in a sheet: blanks up to a line's end, a row's line, a reading's lines.
use Prim.Native.Nat.{ℕ, suc, ◌+◌, ◌*◌, ◌-◌, ◌<◌, ◌≤◌, min}
use native.Mathlib.Omega.{arith}
use mathlib.Core.Path.{◌≡◌, refl, sym, ap, ap₂, ◌∙◌}
use mathlib.Core.Bool.{Bool, true, false}
use lib.Dec.{leb}
use borrow.Author.Tests.{leb-true, leb-false}
use mathlib.Core.List.{List, [], ◌∷◌, ◌++◌, map, append_assoc, append-nil}
use lib.ListN.{length, take, drop, set, replicate, length-replicate, length-append, length-drop, length-map, take-append-drop, drop_of_length-le}
use borrow.Rule.Slice.PartMut.{put_mid}
use lib.Seq.{sets, take_all, take_at, drop_at, length-take-le}
use Rattle.destination.proofs.Putting.{sets-part}
use Rattle.table_format.proofs.Tests.{and_left, and_right}
use Rattle.table_format.proofs.Stores.{then}
use Rattle.faces.specs.Lent.{every, is_letter}
use Rattle.faces.proofs.Lent.{every_append}
use Rattle.sheet_lines.specs.Lines.{columns, line_size, lead_columns, row_letters, filled, ordinal_columns, rows_of, first_line, next_line, reading_lines, joined, lines_for}
use Rattle.sheet_lines.proofs.Rows.{rows_none, rows-some, rows-count}
use Rattle.sheet_lines.proofs.Lists.{take-most, map-take, map-drop}
use Rattle.sheet_lines.proofs.Lines.{filled-line}

-- Blanks up to a place, and the line feed there.

abbrev pub end_from : ℕ → ℕ → List ℕ
end_from k end = replicate (end - k) 32 ++ (10 ∷ [])

blanks-stored : (s : List ℕ) (at end : ℕ) (row blanks : List ℕ) → length row ≡ end - at → at ≤ end → end < length s → blanks ≡ row
    → set (put_mid at (end - at) s blanks) end 10 ≡ sets s at (row ++ (10 ∷ []))
blanks-stored s at end row blanks size h k e =
    let part : end - at ≡ at + length row - at = omega arith in
    let stored : put_mid at (end - at) s blanks ≡ sets s at row = ap (λ (n : ℕ). put_mid at n s blanks) part ∙ sets-part s at row blanks (omega arith) e in
    then s (put_mid at (end - at) s blanks) _ at end row (10 ∷ []) stored (omega arith) refl

pub end-stored : (s : List ℕ) (at end : ℕ) (blanks : List ℕ) → at ≤ end → end < length s → blanks ≡ replicate (length (take (end - at) (drop at s))) 32
    → set (put_mid at (end - at) s blanks) end 10 ≡ sets s at (end_from at end)
end-stored s at end blanks h k e =
    let size : length (take (end - at) (drop at s)) ≡ end - at = length-take-le (end - at) (drop at s) (let d : length (drop at s) ≡ length s - at = length-drop at s in omega arith) in
    blanks-stored s at end (replicate (end - at) 32) blanks (length-replicate (end - at) 32) h k (e ∙ ap (λ (n : ℕ). replicate n 32) size)

-- Parts of letters.

pub every-parts : (n : ℕ) (letters : List ℕ) → every is_letter letters ≡ true → (every is_letter (take n letters) ≡ true) × (every is_letter (drop n letters) ≡ true)
every-parts n letters e =
    let both = sym (every_append is_letter (take n letters) (drop n letters)) ∙ ap (every is_letter) (take-append-drop n letters) ∙ e in
    (and_left _ _ both, and_right (every is_letter (take n letters)) _ both)

-- a part at the front of a list, and the rest
front_parts : (k : ℕ) (l row after : List ℕ) → l ≡ row ++ after → length row ≡ min k (length l) → (row ≡ take k l) × (after ≡ drop k l)
front_parts k l row after is size = go (leb k (length l)) refl
  where
    whole : length l ≡ length row + length after
    whole = ap length is ∙ length-append row after

    go : (b : Bool) → leb k (length l) ≡ b → (row ≡ take k l) × (after ≡ drop k l)
    go true e =
        let h : k ≤ length l = leb-true _ _ e in
        let n : length row ≡ k = omega (arith, size) in
        (sym (ap (take k) is ∙ take_at row after k n), sym (ap (drop k) is ∙ drop_at row after k n))
    go false e =
        let h : length l < k = leb-false _ _ e in
        let none : length after ≡ 0 = omega (arith, size, whole) in
        let row_all : l ≡ row = is ∙ ap (λ (x : List ℕ). row ++ x) (nothing after none) ∙ append-nil row in
        (sym (take_all k l (omega arith) ∙ row_all), nothing after none ∙ sym (drop_of_length-le l (omega arith)))
      where
        nothing : (x : List ℕ) → length x ≡ 0 → x ≡ []
        nothing [] z = refl
        nothing (y ∷ x) z = absurd (omega arith)

pub most_parts : (n m : ℕ) (l : List ℕ) → m ≡ min (length l) n → (take m l ≡ take n l) × (drop m l ≡ drop n l)
most_parts n m l e = go (leb n (length l)) refl
  where
    go : (b : Bool) → leb n (length l) ≡ b → (take m l ≡ take n l) × (drop m l ≡ drop n l)
    go true f =
        let h : n ≤ length l = leb-true _ _ f in
        let same : m ≡ n = omega (arith, e) in
        (ap (λ (k : ℕ). take k l) same, ap (λ (k : ℕ). drop k l) same)
    go false f =
        let h : length l < n = leb-false _ _ f in
        (take_all m l (omega (arith, e)) ∙ sym (take_all n l (omega arith)), drop_of_length-le l (omega (arith, e)) ∙ sym (drop_of_length-le l (omega arith)))

-- Faces up to the end of their line.

abbrev row_text : ℕ → List ℕ → List ℕ
row_text letters row = row ++ (replicate (row_letters - letters) 32 ++ (10 ∷ []))

pub row-stored : (s m r : List ℕ) (at : ℕ) (f : ℕ → ℕ) (letters : List ℕ) → length letters ≤ row_letters
    → m ≡ sets s at (map f letters) → r ≡ sets m (at + length letters) (end_from (at + length letters) (at + row_letters)) → r ≡ sets s at (row_text (length letters) (map f letters))
row-stored s m r at f letters h p q =
    let size : length (map f letters) ≡ length letters = length-map letters f in
    let left : at + row_letters - (at + length letters) ≡ row_letters - length letters = omega arith in
    then s m r at (at + length letters) (map f letters) (replicate (row_letters - length letters) 32 ++ (10 ∷ [])) p (omega arith)
    (q ∙ ap (λ (n : ℕ). sets m (at + length letters) (replicate n 32 ++ (10 ∷ []))) left)

-- Lines: what stands before the letters, and the row.

lead_line : (lead row : List ℕ) (n : ℕ) → length lead ≡ lead_columns → n ≡ length row → filled (lead ++ row) ≡ lead ++ row_text n row
unfolding filled
lead_line lead row n e k =
    let size : length (lead ++ row) ≡ length lead + length row = length-append lead row in
    let left : columns - length (lead ++ row) ≡ row_letters - n = omega arith in
    ap (λ (i : ℕ). (lead ++ row) ++ (replicate i 32 ++ (10 ∷ []))) left ∙ append_assoc lead row (replicate (row_letters - n) 32 ++ (10 ∷ []))

pub line-stored : (s m x r : List ℕ) (at : ℕ) (f : ℕ → ℕ) (lead letters : List ℕ) → length lead ≡ lead_columns → length letters ≤ row_letters
    → m ≡ sets s at lead → x ≡ sets m (at + lead_columns) (map f letters)
    → r ≡ sets x (at + lead_columns + length letters) (end_from (at + lead_columns + length letters) (at + lead_columns + row_letters))
    → r ≡ sets s at (filled (lead ++ map f letters))
line-stored s m x r at f lead letters e h p q t =
    then s m r at (at + lead_columns) lead (row_text (length letters) (map f letters)) p (omega arith) (row-stored m x r (at + lead_columns) f letters h q t)
    ∙ ap (sets s at) (sym (lead_line lead (map f letters) (length letters) e (sym (length-map letters f))))

-- a reading's first line
pub first-stored : (s m : List ℕ) (at n : ℕ) (f : ℕ → ℕ) (lead first letters : List ℕ) → lead ≡ ordinal_columns n ++ (32 ∷ []) → first ≡ take row_letters letters
    → m ≡ sets s at (filled (lead ++ map f first)) → m ≡ sets s at (first_line n (map f letters))
unfolding first_line
first-stored s m at n f lead first letters e is p =
    p ∙ ap₂ (λ (l v : List ℕ). sets s at (filled (l ++ v))) e (ap (map f) is ∙ map-take f row_letters letters)

-- A reading's lines: the first, then those on which it goes on.

abbrev next_lines : List ℕ → List ℕ
next_lines cs = joined (map next_line (rows_of cs))

lines-turn : (cs s m : List ℕ) (to : ℕ) → 0 < length cs → m ≡ sets s to (next_line (take row_letters cs))
    → sets m (to + line_size) (next_lines (drop row_letters cs)) ≡ sets s to (next_lines cs)
unfolding next_line
lines-turn cs s m to some p =
    let row = take row_letters cs in
    let size : length (next_line row) ≡ line_size = (filled-line (replicate lead_columns 32 ++ row) (let k = take-most row_letters cs in omega arith)).size in
    then s m _ to (to + line_size) (next_line row) (next_lines (drop row_letters cs)) p (omega arith) refl
    ∙ ap (λ (rs : List (List ℕ)). sets s to (joined (map next_line rs))) (sym (rows-some cs some))

-- the letters before those that are left are stored, and these have room up to an end
pub record Going (cs old : List ℕ) (first end : ℕ) (f : ℕ → ℕ) (s : List ℕ) (to : ℕ) (rest : List ℕ) : Type 0 where
  pub same : length s ≡ length old
  pub letters : every is_letter rest ≡ true
  pub left : to + line_size * length (rows_of (map f rest)) ≡ end
  pub stored : sets s to (next_lines (map f rest)) ≡ sets old first (next_lines (drop row_letters cs))

pub going_begun : (f : ℕ → ℕ) (letters others old : List ℕ) (at : ℕ) → every is_letter letters ≡ true → others ≡ drop row_letters letters
    → Going (map f letters) old (at + line_size) (at + line_size * lines_for (length letters)) f old (at + line_size) others
going_begun f letters others old at good is =
    let faces : map f others ≡ drop row_letters (map f letters) = ap (map f) is ∙ map-drop f row_letters letters in
    let count : length (rows_of (map f others)) ≡ length (rows_of (drop row_letters (map f letters))) = ap (λ (l : List ℕ). length (rows_of l)) faces in
    let size : length (map f letters) ≡ length letters = length-map letters f in
    let k = rows-count (map f letters) in
    record {
      same = refl;
      letters = ap (every is_letter) is ∙ (every-parts row_letters letters good).1;
      left = omega arith;
      stored = ap (λ (l : List ℕ). sets old (at + line_size) (next_lines l)) faces;
    }

module _ (cs old : List ℕ) (first end : ℕ) (f : ℕ → ℕ) (s : List ℕ) (to : ℕ) (rest : List ℕ) (G : Going cs old first end f s to rest) where
  module _ (row after : List ℕ) (is : rest ≡ row ++ after) (size : length row ≡ min row_letters (length rest)) (some : 0 < length rest) where
    some-faces : 0 < length (map f rest)
    some-faces = let k = length-map rest f in omega arith

    parts : (row ≡ take row_letters rest) × (after ≡ drop row_letters rest)
    parts = front_parts row_letters rest row after is size

    more-faces : map f after ≡ drop row_letters (map f rest)
    more-faces = ap (map f) parts.1 ∙ map-drop f row_letters rest

    lines_left_lem : length (rows_of (map f rest)) ≡ suc (length (rows_of (map f after)))
    lines_left_lem =
        ap length (rows-some (map f rest) some-faces) ∙ ap (λ (l : List ℕ). suc (length (rows_of l))) (sym more-faces)

    pub going_letters : every is_letter row ≡ true
    going_letters = ap (every is_letter) parts.0 ∙ (every-parts row_letters rest G.letters).0

    pub going_room : to + line_size ≤ end
    going_room = let k = lines_left_lem in omega (arith, G.left)

    pub going_more : (m lead : List ℕ) → length m ≡ length s → lead ≡ replicate lead_columns 32 → m ≡ sets s to (filled (lead ++ map f row))
        → Going cs old first end f m (to + line_size) after
    unfolding next_line
    going_more m lead e blank p =
        record {
          same = e ∙ G.same;
          letters = ap (every is_letter) parts.1 ∙ (every-parts row_letters rest G.letters).1;
          left = (let k = lines_left_lem in omega (arith, G.left));
          stored =
              ap (λ (l : List ℕ). sets m (to + line_size) (next_lines l)) more-faces
              ∙ lines-turn (map f rest) s m to some-faces
              (p ∙ ap₂ (λ (l v : List ℕ). sets s to (filled (l ++ v))) blank (ap (map f) parts.0 ∙ map-take f row_letters rest))
              ∙ G.stored;
        }

  pub going_done : length rest ≡ 0 → (to ≡ end) × (s ≡ sets old first (next_lines (drop row_letters cs)))
  going_done none =
      let rows = rows_none (map f rest) (length-map rest f ∙ none) in (
        let k : length (rows_of (map f rest)) ≡ 0 = ap length rows in omega (arith, G.left),
        sym (ap (λ (rs : List (List ℕ)). sets s to (joined (map next_line rs))) rows) ∙ G.stored,
      )

pub reading-stored : (s m r cs : List ℕ) (at n : ℕ) → m ≡ sets s at (first_line n cs) → r ≡ sets m (at + line_size) (next_lines (drop row_letters cs))
    → r ≡ sets s at (joined (reading_lines n cs))
unfolding reading_lines first_line
reading-stored s m r cs at n p q =
    let size : length (first_line n cs) ≡ line_size = (filled-line (ordinal_columns n ++ (32 ∷ take row_letters cs)) (let k = take-most row_letters cs in omega arith)).size in
    then s m r at (at + line_size) (first_line n cs) (next_lines (drop row_letters cs)) p (omega arith) q
