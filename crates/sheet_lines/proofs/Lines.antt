-- Lines have 72 characters and a line feed; how many characters a reading's have; they are told by what they join to.
use Prim.Native.Nat.{ℕ, zero, suc, ◌+◌, ◌*◌, ◌-◌, ◌/◌, ◌≤◌}
use native.Mathlib.Omega.{arith}
use mathlib.Core.Path.{◌≡◌, sym, ap, ◌∙◌}
use mathlib.Core.List.{List, [], ◌∷◌, ◌++◌, append_assoc}
use lib.ListN.{length, get_or, take, drop, replicate, length-append, length-replicate, length-map}
use lib.Seq.{get_or_at}
use Rattle.table_format.proofs.All.{All, all_map}
use Rattle.sheet_lines.specs.Lines.{columns, line_size, lead_columns, row_letters, filled, ordinal_columns, cut, rows_of, first_line, next_line, reading_lines, lines_for, joined}
use Rattle.sheet_lines.specs.Laid.{IsLine}
use Rattle.sheet_lines.proofs.Lists.{take-most, all_take, all_drop}
use Rattle.sheet_lines.proofs.Rows.{rows-count, pieces_length, pieces_same}

pub filled-line : (cs : List ℕ) → length cs ≤ columns → IsLine (filled cs)
unfolding filled
filled-line cs h = record {
  size = simp (length-append, length-replicate) (omega arith);
  feed =
      ap (λ (l : List ℕ). get_or l columns 0) (sym (append_assoc cs (replicate (columns - length cs) 32) (10 ∷ [])))
      ∙ get_or_at (cs ++ replicate (columns - length cs) 32) 10 [] 0 columns (simp (length-append, length-replicate) (omega arith));
}

-- Rows have 66 characters at most.

abbrev pub Row : List ℕ → Type 0
Row r = length r ≤ row_letters

cut-rows : (n : ℕ) (cs : List ℕ) → All Row (cut n cs)
cut-rows zero cs = tt
cut-rows (suc n) cs = (take-most row_letters cs, cut-rows n (drop row_letters cs))

pub rows_short : (cs : List ℕ) → All Row (rows_of cs)
unfolding rows_of
rows_short cs = cut-rows ((length cs + (row_letters - 1)) / row_letters) cs

-- what every character has, those of every row have
cut_all : (P : ℕ → Type 0) (n : ℕ) (cs : List ℕ) → All P cs → All (All P) (cut n cs)
cut_all P zero cs h = tt
cut_all P (suc n) cs h = (all_take P row_letters cs h, cut_all P n (drop row_letters cs) (all_drop P row_letters cs h))

pub rows_all : (P : ℕ → Type 0) (cs : List ℕ) → All P cs → All (All P) (rows_of cs)
unfolding rows_of
rows_all P cs h = cut_all P ((length cs + (row_letters - 1)) / row_letters) cs h

-- Lines.

next_line_lem : (row : List ℕ) → Row row → IsLine (next_line row)
unfolding next_line
next_line_lem row h = filled-line (replicate lead_columns 32 ++ row) (simp length-append (omega arith))

pub reading_lines_lem : (n : ℕ) (cs : List ℕ) → All IsLine (reading_lines n cs)
unfolding reading_lines first_line
reading_lines_lem n cs = (
  filled-line (ordinal_columns n ++ (32 ∷ take row_letters cs)) (let k = take-most row_letters cs in omega arith),
  all_map Row IsLine next_line next_line_lem (rows_of (drop row_letters cs)) (rows_short (drop row_letters cs)),
)

-- How many there are.

pub reading-count : (n : ℕ) (cs : List ℕ) → length (reading_lines n cs) ≡ lines_for (length cs)
unfolding reading_lines
reading-count n cs = ap suc (length-map (rows_of (drop row_letters cs)) next_line) ∙ rows-count cs

pub joined_length : (ls : List (List ℕ)) → All IsLine ls → length (joined ls) ≡ line_size * length ls
joined_length = pieces_length IsLine line_size (λ l h. h.size)

pub reading-size : (n : ℕ) (cs : List ℕ) → length (joined (reading_lines n cs)) ≡ line_size * lines_for (length cs)
reading-size n cs = joined_length (reading_lines n cs) (reading_lines_lem n cs) ∙ ap (λ (k : ℕ). line_size * k) (reading-count n cs)

-- Lines are told by what they join to.

pub joined_same : (xs ys : List (List ℕ)) → All IsLine xs → All IsLine ys → joined xs ≡ joined ys → xs ≡ ys
joined_same = pieces_same IsLine line_size (λ l h. h.size) (omega arith)
