-- Document 02, word lists: words of "1 to 64 letters from 1 to 62, in rising dictionary order".
use Rattle.std.specs.Prelude.{ℕ, Bool, true, false, ◌&&◌, ◌||◌, List, [], ◌∷◌, eqb, leb, ltb, length}
use Rattle.table_format.specs.Rules.{any, last_is, each}

abbrev pub Word : Type 0
Word = List ℕ

-- a letter from 1 to 62
abbrev pub letter_holds : ℕ → Bool
letter_holds x = leb 1 x && leb x 62

abbrev pub letters_hold : Word → Bool
letters_hold [] = true
letters_hold (x ∷ w) = letter_holds x && letters_hold w

-- 30: what holds where a word is not bad
abbrev pub good_word : Word → Bool
good_word w = (leb 1 (length w) && leb (length w) 64) && letters_hold w

-- the second word is above the first in dictionary order: the first difference decides, and a word is below its continuations
abbrev pub rises : Word → Word → Bool
rises [] [] = false
rises [] (y ∷ ys) = true
rises (x ∷ xs) [] = false
rises (x ∷ xs) (y ∷ ys) = ltb x y || (eqb x y && rises xs ys)

-- 31: a word is above the one before it
abbrev pub follows : List Word → Word → Bool
follows before w = last_is (λ v. rises v w) before

-- a list that earns neither 30 nor 31
abbrev pub list_holds : List Word → Bool
list_holds = each (λ before w. good_word w && follows before w) []

-- whether two words are the same
abbrev pub same : Word → Word → Bool
same [] [] = true
same [] (y ∷ ys) = false
same (x ∷ xs) [] = false
same (x ∷ xs) (y ∷ ys) = eqb x y && same xs ys

-- a word is one of the list
abbrev pub listed : List Word → Word → Bool
listed ws w = any (same w) ws
