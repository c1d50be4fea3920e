-- Document 02, the answer sheet: "A face table gives each letter 1 to 63 one printable character, 33 to 126 in ASCII." Faces that repeat
-- or leave that range give 33.
use Rattle.std.specs.Prelude.{ℕ, ◌-◌, Bool, not, ◌&&◌, List, [], eqb, leb, length, get_or}
use Rattle.table_format.specs.Rules.{any, each}

-- how many letters have a face
abbrev pub face_count : ℕ
face_count = 63

-- a face is printable, and none of those before it
abbrev pub face_holds : List ℕ → ℕ → Bool
face_holds before c = leb 33 c && (leb c 126 && not (any (λ d. eqb d c) before))

unfoldable pub faces_hold : List ℕ → Bool
faces_hold faces = eqb (length faces) face_count && each face_holds [] faces

-- the face of a letter
abbrev pub face_of : List ℕ → ℕ → ℕ
face_of faces letter = get_or faces (letter - 1) 0
