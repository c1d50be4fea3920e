-- What is printed for a word of an exam: its key's sheet with the letters shown; and what a print tells over the text of a list.
use Rattle.std.specs.Prelude.{ℕ, ◌+◌, ◌≡◌, length, take, replicate}
use mathlib.Core.List.{List, [], ◌∷◌, ◌++◌, map, Memᴰ}
use Rattle.std.specs.Prelude.{Ok}
use Rattle.destination.specs.Stored.{stored_answer, stored_cells}
use Rattle.utf8.specs.Utf8.{encoded}
use Rattle.alphabet.specs.Letters.{small_of}
use Rattle.alphabet.specs.Shown.{face_table, shown}
use Rattle.sheet_lines.specs.Lines.{lead_columns}
use Rattle.sheet_lines.specs.Lines as lines
use Rattle.sheet_lines.specs.Laid.{letters_in}
use Rattle.lexicon.specs.Words.{Word}
use Rattle.segmentation.specs.Ways.{joined, together}
use Rattle.wordlist_lines.specs.Lines.{Line, held_lines}
use Rattle.wordlist_spelling.specs.Facts.{Spells}
use Rattle.key_sheet.specs.Calls.{key_answer, key_sheet}
use Rattle.key_ways.specs.Told.{OnLines, KeyTold}

-- the word as it is given, its sheet as it is shown, and an empty line
abbrev pub printed_for : (line sheet : List ℕ) → List ℕ
printed_for line sheet = line ++ (10 ∷ (shown sheet ++ (10 ∷ [])))

-- the calls for a word's key: its sheet is written to one destination and shown to another, both are done, and text is what the second holds then
pub record KeyPrinted (cells word d t text : List ℕ) : Type 0 where
  pub size : ℕ
  pub written : key_answer cells word face_table d ≡ Ok size
  pub bytes : ℕ
  pub done : stored_answer (shown (take size (key_sheet cells word face_table d))) t ≡ Ok bytes
  pub is : take bytes (stored_cells (shown (take size (key_sheet cells word face_table d))) t) ≡ text

-- WAYS in print.

-- a word: the small forms of its letters, in UTF-8
abbrev pub word_text : Word → List ℕ
word_text [] = []
word_text (l ∷ u) = encoded (small_of l) ++ word_text u

-- a way: its words with `|` between
abbrev pub way_text : List Word → List ℕ
way_text [] = []
way_text (u ∷ []) = word_text u
way_text (u ∷ v ∷ z) = word_text u ++ (124 ∷ way_text (v ∷ z))

-- a way on lines of a sheet that is printed, laid out with ordinal n
pub record WayPrinted (sheet : List ℕ) (n : ℕ) (z : List Word) : Type 0 where
  pub on : OnLines face_table sheet n (joined z)
  -- in print each has its first six columns, which hold the ordinal or are blank, as they are; then what its columns for letters are shown as
  pub line-is : (l : List ℕ) → Memᴰ l on.own → shown l ≡ take lead_columns l ++ (shown (letters_in l) ++ (10 ∷ []))
  -- and that is over all lines the way's words with `|` between, and then blanks
  pub letters-are : lines.joined (map (λ l. shown (letters_in l)) on.own) ≡ way_text z ++ replicate on.laid.blanks 32

-- what a print that ends with END tells
pub record PrintTold (cut : List Word → Type 0) (text : List ℕ) : Type 0 where
  pub sheet : List ℕ
  pub text-is : text ≡ shown sheet
  -- the sheet shows exactly the ways that are cut so, each once and in order,
  pub told : KeyTold cut face_table sheet
  -- and each is printed in its letters
  pub in_print : (a : List (List Word)) (z : List Word) (b : List (List Word)) → told.ways ≡ a ++ (z ∷ b) → WayPrinted sheet (1 + length a) z

-- WORDS OF A TEXT.

-- a word that a line of a list's text spells
abbrev pub LineWord : (list : List ℕ) → Word → Type 0
LineWord list u = (l : Line) × Memᴰ l (held_lines list) × Spells u l.text

-- such words that make w
pub record LineWay (list : List ℕ) (w : Word) (z : List Word) : Type 0 where
  pub from-lines : (u : Word) → Memᴰ u z → LineWord list u
  pub whole : together z ≡ w
