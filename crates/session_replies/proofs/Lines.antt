-- A line of some bytes and others, stored at the front of a buffer.
use Prim.Native.Nat.{ℕ, ◌+◌, ◌*◌, ◌≤◌}
use native.Mathlib.Omega.{arith}
use mathlib.Core.Path.{◌≡◌, sym, ap, ◌∙◌}
use mathlib.Core.List.{List, [], ◌∷◌, ◌++◌, append_assoc}
use lib.ListN.{length, drop, length-append}
use lib.Seq.{sets, sets-eq}
use Rattle.table_format.specs.Line.{chars_of, line_text, characters_of}
use Rattle.table_format.proofs.Line.{length-chars, chars-append}
use Rattle.table_format.proofs.Stores.{then}
use Rattle.session_replies.specs.Lines.{LineStored}

line-append : (head tail : List ℕ) → line_text (head ++ tail) ≡ chars_of head ++ line_text tail
line-append head tail = ap (λ (l : List ℕ). l ++ (10 ∷ [])) (chars-append head tail) ∙ append_assoc (chars_of head) (chars_of tail) (10 ∷ [])

-- some bytes, then the line of others
pub line-stored : (text m n : List ℕ) (head tail : List ℕ) (r : ℕ) → characters_of (length head + length tail) ≤ length text
    → m ≡ sets text 0 (chars_of head) → r ≡ 2 * length head + characters_of (length tail) → n ≡ sets m (2 * length head) (line_text tail)
    → LineStored (head ++ tail) r text n
line-stored text m n head tail r room p e q =
    let line = line_text (head ++ tail) in
    let size : length line ≡ characters_of (length head + length tail) = simp (length-append, length-chars) (omega arith) in
    let zero-first : 0 + length line ≡ length line = omega arith in (
      omega arith,
      then text m n 0 (2 * length head) (chars_of head) (line_text tail) p (omega (arith, length-chars head)) q
          ∙ ap (sets text 0) (sym (line-append head tail)) ∙ sets-eq line text 0 (omega arith) ∙ ap (λ (k : ℕ). line ++ drop k text) zero-first,
    )
