-- The first line of a text, as code scans it: how many bytes it says, where the next line begins, and the bytes in an array.
use Rattle.std.specs.Prelude.{ℕ, ◌+◌, false, cond, List, [], ◌∷◌, length, get_or, replicate, Option, Some, None, Result, Ok, Err}
use Rattle.std.proofs.lemmas.List.Edits.{sets}
use Rattle.hexadecimal.specs.Hex.{decoded}
use Rattle.table_format.specs.Line.{Line, lines_of, malformed, bytes_of, size_of}
use Rattle.table_format.specs.Text.{line_bytes}
use Rattle.refusal.specs.declared.InputCause.{InputCause}
use Rattle.refusal.specs.declared.InputCause.TheVariants.{Malformed}
use Rattle.table_scanner.specs.declared.Line.{Line as ScannedLine}

-- a line of no characters that "lacks its line feed"
abbrev pub no_line : Line
no_line = record { chars = []; fed = false }

-- the first line of a text; where the text has ended, `no_line`
unfoldable pub first_line : List ℕ → Line
first_line text = get_or (lines_of text) 0 no_line

-- what a line that begins at a place says: "A line is empty, has an odd count of digits, a character other than 0-9, A-F, or lacks its
-- line feed", or its count of bytes and the place after it
unfoldable pub scanned_as : ℕ → Line → Result ScannedLine InputCause
scanned_as start l = cond (malformed l) (Err Malformed) (Ok (record { count = length (bytes_of l.chars); next = start + size_of l }))

-- a byte before others, where two characters are its digits
abbrev pub byte_before : Option ℕ → List ℕ → List ℕ
byte_before (Some v) b = v ∷ b
byte_before None b = []

-- "two digits a byte": the bytes that characters begin with; all of a line that is not malformed
unfoldable pub leading_bytes : List ℕ → List ℕ
leading_bytes [] = []
leading_bytes (h ∷ []) = []
leading_bytes (h ∷ l ∷ cs) = byte_before (decoded h l) (leading_bytes cs)

-- the bytes of a table's line in their array: from its front, as far as there is room; the others are 0
unfoldable pub padded : List ℕ → List ℕ
padded b = sets (replicate line_bytes 0) 0 b
