-- A reading's lines are laid as the document says, and no others are.
use Prim.Native.Nat.{ℕ, zero, suc, ◌+◌, ◌*◌, ◌-◌, ◌/◌, ◌<◌, ◌≤◌}
use native.Mathlib.Omega.{arith}
use mathlib.Core.Path.{◌≡◌, refl, sym, ap, ap₂, subst, ◌∙◌}
use mathlib.Core.Bool.{Bool, true, false}
use mathlib.Core.List.{List, [], ◌∷◌, ◌++◌, map, append_assoc, append-nil}
use lib.Dec.{ltb}
use lib.ListN.{length, take, drop, replicate, length-append, length-replicate, length-map, length-take, length-drop, take-append-drop}
use lib.Seq.{take_all, take-suc, take-add, take_at, length-take-le}
use borrow.Author.Tests.{ltb-true, ltb-false}
use Rattle.table_format.proofs.All.{All, all_map, all-mem, all_from}
use Rattle.sheet_lines.specs.Lines.{columns, line_size, lead_columns, row_letters, filled, ordinal_columns, cut, rows_of, first_line, next_line, reading_lines, lines_for, joined}
use Rattle.sheet_lines.specs.Laid.{IsLine, letters_in, GoesOn, columns_say, Laid}
use Rattle.sheet_lines.proofs.Lists.{take-most}
use Rattle.sheet_lines.proofs.Rows.{pieces_length, pieces_same}
use Rattle.sheet_lines.proofs.Lines.{Row, rows_short, reading_lines_lem, reading-count}
use Rattle.sheet_lines.proofs.Ordinal.{ordinal_says, ordinal_aligned, aligned_range, aligned-only}

-- What stands in the columns for letters of a row's line: the row, and blanks.

abbrev padded : List ℕ → List ℕ
padded row = row ++ replicate (row_letters - length row) 32

row_letters_lem : (row : List ℕ) (k : ℕ) → Row row → k ≡ row_letters - length row → take row_letters (row ++ (replicate k 32 ++ (10 ∷ []))) ≡ padded row
row_letters_lem row k h e =
    ap (take row_letters) (sym (append_assoc row (replicate k 32) (10 ∷ [])))
    ∙ take_at (row ++ replicate k 32) (10 ∷ []) row_letters (simp (length-append, length-replicate) (omega arith))
    ∙ ap (λ (i : ℕ). row ++ replicate i 32) e

next-letters : (row : List ℕ) → Row row → letters_in (next_line row) ≡ padded row
unfolding next_line filled
next-letters row h = row_letters_lem row (columns - length (replicate lead_columns 32 ++ row)) h (omega arith)

first-letters : (n : ℕ) (cs : List ℕ) → letters_in (first_line n cs) ≡ padded (take row_letters cs)
unfolding first_line filled
first-letters n cs =
    let row = take row_letters cs in
    row_letters_lem row (columns - length (ordinal_columns n ++ (32 ∷ row))) (take-most row_letters cs) (omega arith)

rows-letters : (rs : List (List ℕ)) → All Row rs → map letters_in (map next_line rs) ≡ map padded rs
rows-letters [] h = refl
rows-letters (r ∷ rs) h = ap₂ (λ x xs. x ∷ xs) (next-letters r h.0) (rows-letters rs h.1)

-- where characters fill all rows but the last, the rows filled up are the characters and then blanks
cut-padded : (k : ℕ) (cs : List ℕ) (b : ℕ) → length cs + b ≡ row_letters * k → b ≤ row_letters → joined (map padded (cut k cs)) ≡ cs ++ replicate b 32
cut-padded zero [] b e h = let z : 0 ≡ b = omega arith in ap (λ (i : ℕ). replicate i 32) z
cut-padded zero (c ∷ cs) b e h = absurd (omega arith)
cut-padded (suc k) cs b e h = go (ltb (length cs) row_letters) refl (λ more. cut-padded k (drop row_letters cs) b more h)
  where
    go : (t : Bool) → ltb (length cs) row_letters ≡ t
        → (length (drop row_letters cs) + b ≡ row_letters * k → joined (map padded (cut k (drop row_letters cs))) ≡ drop row_letters cs ++ replicate b 32)
        → joined (map padded (cut (suc k) cs)) ≡ cs ++ replicate b 32
    go true t next =
        let l : length cs < row_letters = ltb-true _ _ t in
        let last : k ≡ 0 = omega arith in
        let left : row_letters - length cs ≡ b = omega arith in
        ap₂ (λ (r : List ℕ) (i : ℕ). padded r ++ joined (map padded (cut i (drop row_letters cs)))) (take_all row_letters cs (omega arith)) last
        ∙ append-nil (padded cs)
        ∙ ap (λ (i : ℕ). cs ++ replicate i 32) left
    go false t next =
        let l : row_letters ≤ length cs = ltb-false _ _ t in
        let row = take row_letters cs in
        let none : row_letters - length row ≡ 0 = omega (arith, length-take-le row_letters cs l) in
        let d : length (drop row_letters cs) ≡ length cs - row_letters = length-drop row_letters cs in
        ap₂ (λ (x y : List ℕ). x ++ y) (ap (λ (i : ℕ). row ++ replicate i 32) none ∙ append-nil row) (next (omega arith))
        ∙ sym (append_assoc row (drop row_letters cs) (replicate b 32))
        ∙ ap (λ (x : List ℕ). x ++ replicate b 32) (take-append-drop row_letters cs)

-- The lines of a reading are laid so.

abbrev blanks_after : List ℕ → ℕ
blanks_after cs = row_letters * lines_for (length cs) - length cs

reading-letters : (n : ℕ) (cs : List ℕ) → joined (map letters_in (reading_lines n cs)) ≡ cs ++ replicate (blanks_after cs) 32
unfolding reading_lines rows_of
reading-letters n cs =
    let d : length (drop row_letters cs) ≡ length cs - row_letters = length-drop row_letters cs in
    ap₂ (λ (r : List ℕ) (rs : List (List ℕ)). r ++ joined rs) (first-letters n cs) (rows-letters (rows_of (drop row_letters cs)) (rows_short (drop row_letters cs)))
    ∙ cut-padded (suc ((length (drop row_letters cs) + (row_letters - 1)) / row_letters)) cs (blanks_after cs) (omega arith) (omega arith)

pub reading-laid : (n : ℕ) (cs : List ℕ) → 0 < n → n < 100000 → Laid n cs (reading_lines n cs)
unfolding reading_lines first_line next_line filled
reading-laid n cs p h = record {
  first = first_line n cs;
  others = map next_line (rows_of (drop row_letters cs));
  is = refl;
  lines = all-mem IsLine (reading_lines n cs) (reading_lines_lem n cs);
  aligned = ordinal_aligned n p h;
  says = ordinal_says n h;
  blank = refl;
  goes_on = all-mem GoesOn (map next_line (rows_of (drop row_letters cs)))
      (all_map Row GoesOn next_line (λ r s. refl) (rows_of (drop row_letters cs)) (rows_short (drop row_letters cs)));
  blanks = blanks_after cs;
  letters = reading-letters n cs;
  fewest = λ some. omega (arith, reading-count n cs);
}

-- Lines that are laid so are told by what stands in their columns for letters.

abbrev line_of : List ℕ → List ℕ → List ℕ
line_of lead row = (lead ++ row) ++ (10 ∷ [])

abbrev lines_of : ℕ → List (List ℕ) → List (List ℕ)
lines_of n [] = []
lines_of n (r ∷ rs) = line_of (ordinal_columns n ++ (32 ∷ [])) r ∷ map (line_of (replicate lead_columns 32)) rs

line-is : (l lead : List ℕ) → IsLine l → take lead_columns l ≡ lead → l ≡ line_of lead (letters_in l)
line-is l lead h e =
    sym (take_all line_size l (omega (arith, h.size)))
    ∙ take-suc l columns 0 (omega (arith, h.size))
    ∙ ap₂ (λ (p : List ℕ) (c : ℕ). p ++ (c ∷ [])) (take-add lead_columns row_letters l ∙ ap (λ (p : List ℕ). p ++ letters_in l) e) h.feed

others-are : (ls : List (List ℕ)) → All IsLine ls → All GoesOn ls → ls ≡ map (line_of (replicate lead_columns 32)) (map letters_in ls)
others-are [] h g = refl
others-are (l ∷ ls) h g = ap₂ (λ x xs. x ∷ xs) (line-is l (replicate lead_columns 32) h.0 g.0) (others-are ls h.1 g.1)

abbrev Full : List ℕ → Type 0
Full r = length r ≡ row_letters

all-full : (ls : List (List ℕ)) → All IsLine ls → All Full (map letters_in ls)
all-full = all_map IsLine Full letters_in (λ l h. simp (length-take, length-drop) (omega (arith, h.size)))

most : (o c : ℕ) → (0 < o → row_letters * o < c) → row_letters * o ≤ c - 1
most zero c h = omega arith
most (suc o) c h = omega (arith, h (omega arith))

module _ (n : ℕ) (cs : List ℕ) (ls : List (List ℕ)) (L : Laid n cs ls) where
  all_lines : All IsLine (L.first ∷ L.others)
  all_lines = subst (All IsLine) L.is (all_from IsLine ls L.lines)

  five : length (take 5 L.first) ≡ 5
  five = length-take-le 5 L.first (omega (arith, all_lines.0.size))

  lead_is : take lead_columns L.first ≡ ordinal_columns n ++ (32 ∷ [])
  lead_is =
      take-suc L.first 5 0 (omega (arith, all_lines.0.size))
      ∙ ap₂ (λ (p : List ℕ) (c : ℕ). p ++ (c ∷ [])) (aligned-only (take 5 L.first) n five L.aligned L.says) L.blank

  lines_are : ls ≡ lines_of n (map letters_in ls)
  lines_are =
      L.is
      ∙ ap₂ (λ x xs. x ∷ xs) (line-is L.first (ordinal_columns n ++ (32 ∷ [])) all_lines.0 lead_is) (others-are L.others all_lines.1 (all_from GoesOn L.others L.goes_on))
      ∙ ap (λ (xs : List (List ℕ)). lines_of n (map letters_in xs)) (sym L.is)

  blanks-is : L.blanks ≡ blanks_after cs
  blanks-is =
      let count = pieces_length Full row_letters (λ l h. h) (map letters_in ls) (all-full ls (all_from IsLine ls L.lines)) in
      let size : length (map letters_in ls) ≡ length ls = length-map ls letters_in in
      let both : length (joined (map letters_in ls)) ≡ length cs + L.blanks = ap length L.letters ∙ simp (length-append, length-replicate) in
      let some : length ls ≡ suc (length L.others) = ap length L.is in
      let few = most (length L.others) (length cs) L.fewest in
      omega arith

-- No others are.

pub laid-only : (n : ℕ) (cs : List ℕ) (ls : List (List ℕ)) → Laid n cs ls → ls ≡ reading_lines n cs
laid-only n cs ls L =
    let r : (0 < columns_say (take 5 L.first)) × (columns_say (take 5 L.first) < 100000) = aligned_range (take 5 L.first) (five n cs ls L) L.aligned in
    let M = reading-laid n cs (omega (arith, L.says)) (omega (arith, L.says)) in
    let text = L.letters ∙ ap (λ (b : ℕ). cs ++ replicate b 32) (blanks-is n cs ls L) ∙ sym (reading-letters n cs) in
    let rows = pieces_same Full row_letters (λ l h. h) (omega arith) (map letters_in ls) (map letters_in (reading_lines n cs)) (all-full ls (all_from IsLine ls L.lines)) (all-full (reading_lines n cs) (reading_lines_lem n cs)) text in
    lines_are n cs ls L
    ∙ ap (lines_of n) rows
    ∙ sym (lines_are n cs (reading_lines n cs) M)
