-- A sheet's lines as they are shown: the columns before the letters, line feeds and the last line stay as they are.
use Prim.Native.Nat.{ℕ, ◌-◌}
use native.Mathlib.Omega.{arith}
use mathlib.Core.Path.{◌≡◌, refl, sym, ap, ap₂, subst, ◌∙◌}
use mathlib.Core.Logic.{⊎_elim}
use mathlib.Core.Bool.{Bool, true, false}
use mathlib.Core.List.Memᴰ
use mathlib.Core.List.{List, [], ◌∷◌, ◌++◌, map, append_assoc, append-nil, Memᴰ}
use lib.ListN.{length, get_or, take, replicate, length-append}
use lib.Seq.{take_all, take-suc, take-add, drop_at}
use Rattle.table_format.proofs.All.{All, all_append, all-mem, all_from}
use Rattle.alphabet.specs.Shown.{face_table, code_shown, shown_as, shown, Ascii}
use Rattle.alphabet.proofs.Places.{same_from}
use Rattle.alphabet.proofs.Headlines.{shown-append}
use Rattle.faces.specs.Faces.{faces_hold}
use Rattle.faces.specs.Lent.{readings_hold}
use Rattle.sheet_lines.specs.Lines.{columns, line_size, lead_columns, row_letters, filled}
use Rattle.sheet_lines.specs.Lines as lines
use Rattle.sheet_lines.specs.Laid.{IsLine, IsDigit, Laid, letters_in}
use Rattle.sheet_lines.proofs.Lists.{all_replicate}
use Rattle.sheet_lines.proofs.Rows.{joined-append}
use Rattle.sheet.specs.Sheet.{opening_word, last_word, list_lines, sheet_lines, sheet_of}
use Rattle.sheet.specs.Read.{last_line, last_word_in}
use Rattle.sheet.proofs.Sheet.{last_line_lem}
use Rattle.sheet.proofs.Printed.{Printable, Printed}
use Rattle.sheet.proofs.Headlines as sheets

-- Parts of lines are shown one by one.
each-shown : (part : List ℕ → List ℕ) (ls : List (List ℕ)) → lines.joined (map (λ l. shown (part l)) ls) ≡ shown (lines.joined (map part ls))
unfolding shown
each-shown part [] = refl
each-shown part (l ∷ ls) = ap (λ (s : List ℕ). shown (part l) ++ s) (each-shown part ls) ∙ sym (shown-append (part l) (lines.joined (map part ls)))

-- Characters that are shown as themselves, and those of ASCII.

abbrev Same : ℕ → Type 0
Same c = shown_as c ≡ c ∷ []

pub same-shown : (s : List ℕ) → All Same s → shown s ≡ s
unfolding shown
same-shown [] h = refl
same-shown (c ∷ s) h = ap₂ ◌++◌ h.0 (same-shown s h.1)

blank-same : Same 32
unfolding shown_as code_shown face_table
blank-same = refl

feed-shown : shown (10 ∷ []) ≡ 10 ∷ []
unfolding shown shown_as code_shown face_table
feed-shown = refl

digit_same : (c : ℕ) → IsDigit c → Same c
unfolding shown_as code_shown face_table
digit_same c d = same_from shown_as (λ i. i ∷ []) 48 10 refl c d.0 (omega arith)

pub blanks-shown : (n : ℕ) → shown (replicate n 32) ≡ replicate n 32
blanks-shown n = same-shown (replicate n 32) (all_replicate Same n 32 blank-same)

-- the last line is one of them
last-shown : (ended : Bool) → shown (filled (last_word ended)) ≡ filled (last_word ended)
unfolding shown shown_as code_shown face_table filled
last-shown true = refl
last-shown false = refl

-- A line.

module _ (l : List ℕ) (L : IsLine l) where
  -- its columns, and its line feed
  line-columns : l ≡ take columns l ++ (10 ∷ [])
  line-columns =
      let size = L.size in
      sym (take_all line_size l (omega arith)) ∙ take-suc l columns 0 (omega arith) ∙ ap (λ (c : ℕ). take columns l ++ (c ∷ [])) L.feed

  line-parts : l ≡ take lead_columns l ++ (letters_in l ++ (10 ∷ []))
  line-parts =
      line-columns ∙ ap (λ (s : List ℕ). s ++ (10 ∷ [])) (take-add lead_columns row_letters l) ∙ append_assoc (take lead_columns l) (letters_in l) (10 ∷ [])

  pub line-shown : All Same (take lead_columns l) → shown l ≡ take lead_columns l ++ (shown (letters_in l) ++ (10 ∷ []))
  line-shown h =
      ap shown line-parts
      ∙ shown-append (take lead_columns l) (letters_in l ++ (10 ∷ []))
      ∙ ap₂ ◌++◌ (same-shown (take lead_columns l) h) (shown-append (letters_in l) (10 ∷ []) ∙ ap (λ (s : List ℕ). shown (letters_in l) ++ s) feed-shown)

  -- it is ASCII where it is printed
  pub line_ascii : Printed l → All Ascii l
  line_ascii p =
      subst (All Ascii) (sym line-columns)
      (all_append Ascii (take columns l) (10 ∷ []) (all_from Ascii (take columns l) (λ c m. let q = all-mem Printable (take columns l) p c m in omega arith)) (omega arith, tt))

-- The lines of a reading: the ordinal and the blank before the letters are shown as themselves, and so are six blanks.

module _ (n : ℕ) (cs : List ℕ) (ls : List (List ℕ)) (L : Laid n cs ls) where
  ordinal_same : All Same (take 5 L.first)
  ordinal_same =
      let A = L.aligned in
      subst (All Same) (sym A.is)
      (all_append Same (replicate A.blanks 32) (A.first ∷ A.others) (all_replicate Same A.blanks 32 blank-same)
      (digit_same A.first (let d = A.leads in omega arith), all_from Same A.others (λ c m. digit_same c (A.digits c m))))

  first-same : All Same (take lead_columns L.first)
  first-same =
      let size = (L.lines L.first (subst (λ (l : List (List ℕ)). Memᴰ L.first l) (sym L.is) (Memᴰ.head refl))).size in
      subst (All Same) (sym (take-suc L.first 5 0 (omega arith)))
      (all_append Same (take 5 L.first) (get_or L.first 5 0 ∷ []) ordinal_same (subst Same (sym L.blank) blank-same, tt))

  pub lead_same : (l : List ℕ) → Memᴰ l ls → All Same (take lead_columns l)
  lead_same l m =
      ⊎_elim (λ e. subst (λ (k : List ℕ). All Same (take lead_columns k)) (sym e) first-same)
      (λ k. subst (All Same) (sym (L.goes_on l k)) (all_replicate Same lead_columns 32 blank-same))
      (Memᴰ.cases_cons (subst (λ (k : List (List ℕ)). Memᴰ l k) L.is m))

  -- their columns for letters are shown as the letters, and then blanks
  pub letters-shown : lines.joined (map (λ l. shown (letters_in l)) ls) ≡ shown cs ++ replicate L.blanks 32
  letters-shown =
      each-shown letters_in ls
      ∙ ap shown L.letters
      ∙ shown-append cs (replicate L.blanks 32)
      ∙ ap (λ (s : List ℕ). shown cs ++ s) (blanks-shown L.blanks)

-- The sheet.

all-joined : (P : ℕ → Type 0) (ls : List (List ℕ)) → All (All P) ls → All P (lines.joined ls)
all-joined P [] h = tt
all-joined P (l ∷ ls) h = all_append P l (lines.joined ls) h.0 (all-joined P ls h.1)

module _ (faces : List ℕ) (rs : List (List ℕ)) (ended : Bool) where
  pub sheet_ascii : faces_hold faces ≡ true → readings_hold rs ≡ true → All Ascii (sheet_of faces rs ended)
  unfolding sheet_of
  sheet_ascii F R =
      let all = sheet_lines faces rs ended in
      all-joined Ascii all
      (all_from (All Ascii) all (λ l m. line_ascii l (all-mem IsLine all (sheets.line_72 faces rs ended) l m) (all-mem Printed all (sheets.line_printed faces F rs ended R) l m)))

  -- its last line is the print's
  pub last_in_print : last_word_in (shown (sheet_of faces rs ended)) ≡ last_word_in (sheet_of faces rs ended)
  unfolding sheet_of
  last_in_print =
      (sheets.last_is_lem (shown (sheet_of faces rs ended)) ended).1
      (ap last_line parts ∙ drop_at (shown before) last (length (shown before ++ last) - line_size) (simp length-append (omega (arith, (last_line_lem ended).size))))
      ∙ sym (sheets.last-told faces rs ended)
    where
      last : List ℕ
      last = filled (last_word ended)

      before : List ℕ
      before = lines.joined (filled opening_word ∷ list_lines faces 1 rs)

      parts : shown (sheet_of faces rs ended) ≡ shown before ++ last
      parts =
          ap shown (joined-append (filled opening_word ∷ list_lines faces 1 rs) (last ∷ []) ∙ ap (λ (s : List ℕ). before ++ s) (append-nil last))
          ∙ shown-append before last
          ∙ ap (λ (s : List ℕ). shown before ++ s) (last-shown ended)
