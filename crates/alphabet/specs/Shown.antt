-- How a sheet's characters are shown. A sheet's faces are ASCII: a to z are themselves, `|` is the cut, and each other letter has a mark that no
-- line of a sheet has otherwise. In print the letter stands where its mark does, one character for one, so that columns stay columns.
use Rattle.std.specs.Prelude.{ℕ, ◌+◌, ◌<◌, cond, ◌&&◌, List, [], ◌∷◌, ◌++◌, eqb, leb}
use Rattle.utf8.specs.Utf8.{encoded}
use Rattle.alphabet.specs.Letters.{letter_count, place_in, small_of}

-- a character of ASCII
abbrev pub Ascii : ℕ → Type 0
Ascii c = c < 128

-- the faces of letters 1 to 63:
-- a b c d e f g h i j k l m n o p q r s t u v w x y z ! " # $ % & ' ( ) * + , - . / : ; < = > ? @ [ \ ] ^ _ ` { } ~ B C F H J |
unfoldable pub face_table : List ℕ
face_table =
    97 ∷ 98 ∷ 99 ∷ 100 ∷ 101 ∷ 102 ∷ 103 ∷ 104 ∷ 105 ∷ 106 ∷ 107 ∷ 108 ∷ 109 ∷
    110 ∷ 111 ∷ 112 ∷ 113 ∷ 114 ∷ 115 ∷ 116 ∷ 117 ∷ 118 ∷ 119 ∷ 120 ∷ 121 ∷ 122 ∷
    33 ∷ 34 ∷ 35 ∷ 36 ∷ 37 ∷ 38 ∷ 39 ∷ 40 ∷ 41 ∷ 42 ∷ 43 ∷ 44 ∷ 45 ∷ 46 ∷ 47 ∷
    58 ∷ 59 ∷ 60 ∷ 61 ∷ 62 ∷ 63 ∷ 64 ∷
    91 ∷ 92 ∷ 93 ∷ 94 ∷ 95 ∷ 96 ∷
    123 ∷ 125 ∷ 126 ∷
    66 ∷ 67 ∷ 70 ∷ 72 ∷ 74 ∷
    124 ∷ []

-- the letter of a face; more than 63 where it is none
abbrev pub face_letter : ℕ → ℕ
face_letter c = 1 + place_in face_table c

-- the code point of the letter whose mark a character is, a letter above z; 0 where it is none's
unfoldable pub code_shown : ℕ → ℕ
code_shown c = cond (leb 27 (face_letter c) && leb (face_letter c) letter_count) (small_of (face_letter c)) 0

-- what a character of a sheet is shown as: a letter's mark as the letter, any other character as it is
unfoldable pub shown_as : ℕ → List ℕ
shown_as c = cond (eqb (code_shown c) 0) (c ∷ []) (encoded (code_shown c))

unfoldable pub shown : List ℕ → List ℕ
shown [] = []
shown (c ∷ text) = shown_as c ++ shown text
