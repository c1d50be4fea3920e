-- Document 01, "Lines of the text": capital digits, two digits a byte. 0-9 are the characters 48 to 57, A-F are 65 to 70.
use Rattle.std.specs.Prelude.{ℕ, ◌+◌, ◌-◌, ◌*◌, ◌/◌, ◌%◌, cond, ◌&&◌, leb, ltb, Option, Some, None, List, [], ◌∷◌}

-- the value of a digit
unfoldable pub value_of : ℕ → Option ℕ
value_of c = cond (leb 48 c && leb c 57) (Some (c - 48)) (cond (leb 65 c && leb c 70) (Some (c - 55)) None)

-- the byte of two digits
unfoldable pub joined : Option ℕ → Option ℕ → Option ℕ
joined None l = None
joined (Some h) None = None
joined (Some h) (Some l) = Some (h * 16 + l)

unfoldable pub decoded : ℕ → ℕ → Option ℕ
decoded h l = joined (value_of h) (value_of l)

-- the digit of the lowest four bits
unfoldable pub digit_of : ℕ → ℕ
digit_of v = cond (ltb (v % 16) 10) (48 + v % 16) (55 + v % 16)

-- both digits of a byte
unfoldable pub encoded : ℕ → List ℕ
encoded b = digit_of (b / 16) ∷ digit_of b ∷ []
