-- Worked examples: ways as they are printed, and what is printed for a word over eight words.
use Prim.Native.Nat.{ℕ}
use Prim.Native.Char.{code}
use Prim.Native.String.{String, [] as []ᶜ, ◌∷◌ as ◌∷ᶜ◌}
use mathlib.Core.Path.{◌≡◌, refl}
use mathlib.Core.Bool.{true}
use mathlib.Core.List.{List, [], ◌∷◌, ◌++◌, map}
use Rattle.utf8.specs.Utf8.{encoded}
use Rattle.alphabet.specs.Letters.{smalls, capitals, letter_of, small_of}
use Rattle.alphabet.specs.Shown.{face_table, code_shown, shown_as, shown}
use Rattle.sheet_lines.specs.Lines.{filled, rows_of, first_line, next_line, reading_lines}
use Rattle.sheet.specs.Sheet.{sheet_of}
use Rattle.lexicon.specs.Words.{Word}
use Rattle.segmentation.specs.Ways.{cuts_from, ways_to_cut, joined}
use Rattle.key_ways.specs.Printed.{printed_for, way_text}

-- the bytes of a text in UTF-8, and the letters of a word
abbrev utf8 : String → List ℕ
utf8 []ᶜ = []
utf8 (c ∷ᶜ s) = encoded (code c) ++ utf8 s

abbrev word : String → Word
word []ᶜ = []
word (c ∷ᶜ s) = letter_of (code c) ∷ word s

wachs_tube : way_text (word "wachs" ∷ word "tube" ∷ []) ≡ utf8 "wachs|tube"
unfolding encoded small_of smalls letter_of capitals
wachs_tube = refl

-- capitals are printed small
über_mut : way_text (word "Über" ∷ word "Mut" ∷ []) ≡ utf8 "über|mut"
unfolding encoded small_of smalls letter_of capitals
über_mut = refl

abbrev eight : List Word
eight = map word ("becken" ∷ "ecken" ∷ "stau" ∷ "staub" ∷ "stube" ∷ "tube" ∷ "wach" ∷ "wachs" ∷ [])

-- lines of a print, each with its line feed
abbrev text : List String → List ℕ
text [] = []
text (s ∷ ss) = utf8 s ++ (10 ∷ text ss)

wachstube : printed_for (utf8 "Wachstube") (sheet_of face_table (map joined (ways_to_cut eight (word "Wachstube"))) true)
    ≡ text (
    "Wachstube"
    ∷ "READINGS                                                                "
    ∷ "    1 wachs|tube                                                        "
    ∷ "    2 wach|stube                                                        "
    ∷ "END                                                                     "
    ∷ ""
    ∷ [])
unfolding encoded small_of smalls letter_of capitals face_table code_shown shown_as shown sheet_of filled rows_of first_line next_line reading_lines cuts_from
wachstube = refl
