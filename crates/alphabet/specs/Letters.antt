-- The alphabet: letters 1 to 61 are the small letters of ISO 8859-15, which has those of the western European languages, a to z first, then
-- ä ö ü ß, then the others as they stand in Unicode. A capital is the letter of its small one.
use Rattle.std.specs.Prelude.{ℕ, suc, ◌+◌, ◌-◌, ◌≤◌, cond, List, [], ◌∷◌, eqb, ltb, get_or}

-- how many letters have a code point
abbrev pub letter_count : ℕ
letter_count = 61

-- a letter of the alphabet
abbrev pub Known : ℕ → Type 0
Known l = (1 ≤ l) × (l ≤ letter_count)

-- the code points of the small letters, by letter:
-- a b c d e f g h i j k l m n o p q r s t u v w x y z ä ö ü ß à á â ã å æ ç è é ê ë ì í î ï ð ñ ò ó ô õ ø ù ú û ý þ ÿ œ š ž
unfoldable pub smalls : List ℕ
smalls =
    97 ∷ 98 ∷ 99 ∷ 100 ∷ 101 ∷ 102 ∷ 103 ∷ 104 ∷ 105 ∷ 106 ∷ 107 ∷ 108 ∷ 109 ∷
    110 ∷ 111 ∷ 112 ∷ 113 ∷ 114 ∷ 115 ∷ 116 ∷ 117 ∷ 118 ∷ 119 ∷ 120 ∷ 121 ∷ 122 ∷
    228 ∷ 246 ∷ 252 ∷ 223 ∷
    224 ∷ 225 ∷ 226 ∷ 227 ∷ 229 ∷ 230 ∷ 231 ∷ 232 ∷ 233 ∷ 234 ∷ 235 ∷ 236 ∷ 237 ∷ 238 ∷
    239 ∷ 240 ∷ 241 ∷ 242 ∷ 243 ∷ 244 ∷ 245 ∷ 248 ∷ 249 ∷ 250 ∷ 251 ∷ 253 ∷ 254 ∷ 255 ∷
    339 ∷ 353 ∷ 382 ∷ []

-- and of their capitals:
-- A B C D E F G H I J K L M N O P Q R S T U V W X Y Z Ä Ö Ü ẞ À Á Â Ã Å Æ Ç È É Ê Ë Ì Í Î Ï Ð Ñ Ò Ó Ô Õ Ø Ù Ú Û Ý Þ Ÿ Œ Š Ž
unfoldable pub capitals : List ℕ
capitals =
    65 ∷ 66 ∷ 67 ∷ 68 ∷ 69 ∷ 70 ∷ 71 ∷ 72 ∷ 73 ∷ 74 ∷ 75 ∷ 76 ∷ 77 ∷
    78 ∷ 79 ∷ 80 ∷ 81 ∷ 82 ∷ 83 ∷ 84 ∷ 85 ∷ 86 ∷ 87 ∷ 88 ∷ 89 ∷ 90 ∷
    196 ∷ 214 ∷ 220 ∷ 7838 ∷
    192 ∷ 193 ∷ 194 ∷ 195 ∷ 197 ∷ 198 ∷ 199 ∷ 200 ∷ 201 ∷ 202 ∷ 203 ∷ 204 ∷ 205 ∷ 206 ∷
    207 ∷ 208 ∷ 209 ∷ 210 ∷ 211 ∷ 212 ∷ 213 ∷ 216 ∷ 217 ∷ 218 ∷ 219 ∷ 221 ∷ 222 ∷ 376 ∷
    338 ∷ 352 ∷ 381 ∷ []

-- the first place of a number in a list, or the list's length
abbrev pub place_in : List ℕ → ℕ → ℕ
place_in [] x = 0
place_in (y ∷ ys) x = cond (eqb y x) 0 (suc (place_in ys x))

-- the letter of a code point, 0 where it is none
unfoldable pub letter_of : ℕ → ℕ
letter_of c =
    cond (ltb (place_in smalls c) letter_count) (1 + place_in smalls c)
    (cond (ltb (place_in capitals c) letter_count) (1 + place_in capitals c) 0)

-- the code point of a letter's small form, and of its capital
unfoldable pub small_of : ℕ → ℕ
small_of letter = get_or smalls (letter - 1) 0

unfoldable pub capital_of : ℕ → ℕ
capital_of letter = get_or capitals (letter - 1) 0
