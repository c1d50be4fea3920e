-- UTF-8 as RFC 3629 has it: the bytes of a character, and the character that stands at the front of bytes.
use Rattle.std.specs.Prelude.{ℕ, zero, suc, ◌+◌, ◌*◌, ◌-◌, ◌/◌, ◌%◌, Bool, cond, ◌&&◌, ◌||◌, Option, None, Some, List, [], ◌∷◌, leb, ltb}
use Rattle.utf8.specs.declared.Character.{Character}

-- the code points of characters (Unicode scalar values): up to 10FFFF, without D800 to DFFF
abbrev pub is_scalar : ℕ → Bool
is_scalar c = ltb c 55296 || (leb 57344 c && leb c 1114111)

-- a character by its code point, in so many bytes
abbrev pub scalar : ℕ → ℕ → Option Character
scalar c n = Some (record { code = c; size = n })

-- a character's bytes: the fewest that have room for its bits, six of them in each byte after the first
unfoldable pub encoded : ℕ → List ℕ
encoded c =
    cond (ltb c 128) (c ∷ [])
    (cond (ltb c 2048) ((192 + c / 64) ∷ (128 + c % 64) ∷ [])
    (cond (ltb c 65536) ((224 + c / 4096) ∷ (128 + c / 64 % 64) ∷ (128 + c % 64) ∷ [])
    ((240 + c / 262144) ∷ (128 + c / 4096 % 64) ∷ (128 + c / 64 % 64) ∷ (128 + c % 64) ∷ [])))

-- a byte after the first
abbrev pub is_tail : ℕ → Bool
is_tail b = leb 128 b && ltb b 192

-- a character of so many bytes: its bits so far, then those of n further bytes. It needs as many: its code point is not below the least of them.
unfoldable pub several : ℕ → ℕ → ℕ → ℕ → List ℕ → Option Character
several least size code zero bytes = cond (leb least code && is_scalar code) (scalar code size) None
several least size code (suc n) [] = None
several least size code (suc n) (b ∷ bytes) = cond (is_tail b) (several least size (code * 64 + (b - 128)) n bytes) None

-- the character at the front of bytes, and in how many of them it stands (`character_is`)
unfoldable pub character_in : List ℕ → Option Character
character_in [] = None
character_in (b ∷ bytes) =
    cond (ltb b 128) (scalar b 1)
    (cond (ltb b 192) None
    (cond (ltb b 224) (several 128 2 (b - 192) 1 bytes)
    (cond (ltb b 240) (several 2048 3 (b - 224) 2 bytes)
    (cond (ltb b 248) (several 65536 4 (b - 240) 3 bytes) None))))
