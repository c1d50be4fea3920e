-- A text and its lines determine each other, and so do a line that is not malformed and its bytes.
use Prim.Native.Nat.{ℕ, ◌+◌, ◌*◌, ◌%◌, ◌/◌, ◌≤◌, ◌<◌}
use native.Mathlib.Omega.{arith}
use mathlib.Core.Path.{◌≡◌, refl, sym, ap, ap₂, ◌∙◌}
use mathlib.Core.Bool.{Bool, true, false, not, cond, ◌||◌, true≢false}
use mathlib.Core.List.{List, [], ◌∷◌, ◌++◌, map, append_assoc}
use lib.Dec.{eqb, ltb}
use lib.ListN.{length}
use borrow.Author.Tests.{ltb-true, ltb-false, eqb-true, eqb-false, ne_eqb, not-false}
use Rattle.std.specs.Prelude.{Option, Some, None}
use Rattle.hexadecimal.specs.Hex.{value_of, decoded, digit_of, encoded}
use Rattle.hexadecimal.proofs.Hex.{digit_low, digit_high, value_digit, decoded_of, decoded-encoded, encoded-decoded}
use Rattle.table_format.specs.Rules.{is_empty, any}
use Rattle.table_format.specs.Line.{Line, with_char, lines_of, is_value, malformed, byte_in, bytes_of, chars_of}
use Rattle.table_format.specs.Text.{join_lines}
use Rattle.table_format.proofs.All.{All}
use Rattle.table_format.proofs.Tests.{neither}

abbrev pub IsByte : ℕ → Type 0
IsByte b = b < 256

-- bytes of a line: there are some, and each is one
pub record Bytes (b : List ℕ) : Type 0 where
  pub some : is_empty b ≡ false
  pub small : All IsByte b

-- the line that says bytes
abbrev pub line_with : List ℕ → Line
line_with b = record { chars = chars_of b; fed = true }

-- A text and its lines.

-- a digit is a byte, and no line feed
digit_bounds : (v : ℕ) → (48 ≤ digit_of v) × (digit_of v ≤ 70)
digit_bounds v = go (ltb (v % 16) 10) refl
  where
    go : (b : Bool) → ltb (v % 16) 10 ≡ b → (48 ≤ digit_of v) × (digit_of v ≤ 70)
    go true h = let k : v % 16 < 10 = ltb-true _ _ h in let d = digit_low v k in omega arith
    go false h = let k : 10 ≤ v % 16 = ltb-false _ _ h in let d = digit_high v k in omega arith

pub digit_no_feed : (v : ℕ) → eqb (digit_of v) 10 ≡ false
digit_no_feed v = let h = digit_bounds v in ne_eqb (digit_of v) 10 (λ e. omega arith)

pub lines_char : (c : ℕ) (cs : List ℕ) → eqb c 10 ≡ false → lines_of (c ∷ cs) ≡ with_char c (lines_of cs)
unfolding lines_of
lines_char c cs h = ap (λ (b : Bool). cond b (record { chars = []; fed = true } ∷ lines_of cs) (with_char c (lines_of cs))) h

pub lines-feed : (cs : List ℕ) → lines_of (10 ∷ cs) ≡ line_with [] ∷ lines_of cs
unfolding lines_of chars_of
lines-feed cs = refl

pub lines-line : (b rest : List ℕ) → lines_of (chars_of b ++ (10 ∷ rest)) ≡ line_with b ∷ lines_of rest
unfolding chars_of encoded
lines-line [] rest = lines-feed rest
lines-line (x ∷ b) rest =
    lines_char (digit_of (x / 16)) _ (digit_no_feed (x / 16))
    ∙ ap (with_char (digit_of (x / 16))) (lines_char (digit_of x) _ (digit_no_feed x) ∙ ap (with_char (digit_of x)) (lines-line b rest))

pub lines_join : (bs : List (List ℕ)) → lines_of (join_lines bs) ≡ map line_with bs
unfolding join_lines lines_of
lines_join [] = refl
lines_join (b ∷ bs) =
    ap lines_of (append_assoc (chars_of b) (10 ∷ []) (join_lines bs)) ∙ lines-line b (join_lines bs)
    ∙ ap (λ (ls : List Line). line_with b ∷ ls) (lines_join bs)

-- the text that lines come from
abbrev feed : Bool → List ℕ → List ℕ
feed true rest = 10 ∷ rest
feed false rest = rest

text_from : List Line → List ℕ
text_from [] = []
text_from (l ∷ ls) = l.chars ++ feed l.fed (text_from ls)

text_char : (c : ℕ) (ls : List Line) → text_from (with_char c ls) ≡ c ∷ text_from ls
unfolding text_from
text_char c [] = refl
text_char c (l ∷ ls) = refl

text-lines : (x : List ℕ) → text_from (lines_of x) ≡ x
unfolding text_from lines_of
text-lines [] = refl
text-lines (c ∷ cs) = go (eqb c 10) refl (text-lines cs)
  where
    go : (b : Bool) → eqb c 10 ≡ b → text_from (lines_of cs) ≡ cs
        → text_from (cond b (record { chars = []; fed = true } ∷ lines_of cs) (with_char c (lines_of cs))) ≡ c ∷ cs
    go true h e = ap₂ (λ (n : ℕ) (l : List ℕ). n ∷ l) (sym (eqb-true c 10 h)) e
    go false h e = text_char c (lines_of cs) ∙ ap (λ (l : List ℕ). c ∷ l) e

text_join : (bs : List (List ℕ)) → text_from (map line_with bs) ≡ join_lines bs
unfolding text_from join_lines
text_join [] = refl
text_join (b ∷ bs) = ap (λ (l : List ℕ). chars_of b ++ (10 ∷ l)) (text_join bs) ∙ sym (append_assoc (chars_of b) (10 ∷ []) (join_lines bs))

-- lines that say bytes are those of the bytes' text alone
pub join_lines_lem : (x : List ℕ) (bs : List (List ℕ)) → lines_of x ≡ map line_with bs → x ≡ join_lines bs
join_lines_lem x bs e = sym (text-lines x) ∙ ap text_from e ∙ text_join bs

-- Bytes and their characters.

pub length-chars : (b : List ℕ) → length (chars_of b) ≡ 2 * length b
unfolding chars_of encoded
length-chars [] = refl
length-chars (x ∷ b) = let e : length (chars_of b) ≡ 2 * length b = length-chars b in omega arith

pub chars-append : (x y : List ℕ) → chars_of (x ++ y) ≡ chars_of x ++ chars_of y
unfolding chars_of encoded
chars-append [] y = refl
chars-append (b ∷ x) y = ap (λ (l : List ℕ). encoded b ++ l) (chars-append x y)

pub bytes-chars : (b : List ℕ) → All IsByte b → bytes_of (chars_of b) ≡ b
unfolding bytes_of chars_of encoded
bytes-chars [] h = refl
bytes-chars (x ∷ b) h = ap₂ (λ (n : ℕ) (l : List ℕ). n ∷ l) (ap byte_in (decoded-encoded x h.0)) (bytes-chars b h.1)

abbrev pub no_value : ℕ → Bool
no_value c = not (is_value (value_of c))

digit_value : (v : ℕ) → no_value (digit_of v) ≡ false
digit_value v = ap (λ (d : Option ℕ). not (is_value d)) (value_digit v)

chars-values : (b : List ℕ) → any no_value (chars_of b) ≡ false
unfolding chars_of encoded
chars-values [] = refl
chars-values (x ∷ b) = simp (digit_value (x / 16), digit_value x, chars-values b)

pub line-well : (b : List ℕ) → is_empty b ≡ false → malformed (line_with b) ≡ false
unfolding malformed chars_of encoded
line-well [] h = h
line-well (x ∷ b) h = ap₂ (λ (p q : Bool). p || (q || false)) even (chars-values (x ∷ b))
  where
    even : eqb (length (chars_of (x ∷ b)) % 2) 1 ≡ false
    even = ne_eqb (length (chars_of (x ∷ b)) % 2) 1 (λ e. omega (arith, length-chars (x ∷ b)))

-- two characters with values are a byte's
pair-byte : (c d : ℕ) → no_value c ≡ false → no_value d ≡ false → (b : ℕ) × (decoded c d ≡ Some b)
pair-byte c d h k = go (value_of c) (value_of d) refl refl
  where
    go : (u v : Option ℕ) → value_of c ≡ u → value_of d ≡ v → (b : ℕ) × (decoded c d ≡ Some b)
    go (Some u) (Some v) p q = (u * 16 + v, decoded_of c d u v p q)
    go (Some u) None p q = let z : true ≡ false = sym (ap (λ (x : Option ℕ). not (is_value x)) q) ∙ k in absurd (true≢false z)
    go None v p q = let z : true ≡ false = sym (ap (λ (x : Option ℕ). not (is_value x)) p) ∙ h in absurd (true≢false z)

chars-bytes : (cs : List ℕ) → (length cs % 2 ≡ 1 → ⊥) → any no_value cs ≡ false → (cs ≡ chars_of (bytes_of cs)) × All IsByte (bytes_of cs)
unfolding bytes_of chars_of
chars-bytes [] h k = (refl, tt)
chars-bytes (c ∷ []) h k = absurd (h refl)
chars-bytes (c ∷ d ∷ cs) h k = go (pair-byte c d k₁.0 k₂.0) (chars-bytes cs (λ e. h (omega arith)) k₂.1)
  where
    k₁ : (no_value c ≡ false) × (any no_value (d ∷ cs) ≡ false)
    k₁ = neither _ _ k

    k₂ : (no_value d ≡ false) × (any no_value cs ≡ false)
    k₂ = neither _ _ k₁.1

    go : (b : ℕ) × (decoded c d ≡ Some b) → (cs ≡ chars_of (bytes_of cs)) × All IsByte (bytes_of cs)
        → (c ∷ d ∷ cs ≡ chars_of (bytes_of (c ∷ d ∷ cs))) × All IsByte (bytes_of (c ∷ d ∷ cs))
    go (b, e) (p, q) =
        let n : byte_in (decoded c d) ≡ b = ap byte_in e in
        let w = encoded-decoded c d b e in
        let f : c ∷ d ∷ [] ≡ encoded (byte_in (decoded c d)) = sym (ap encoded n ∙ w.1) in
        (ap₂ (λ (x y : List ℕ). x ++ y) f p, (omega arith, q))

-- a line that is not malformed says its bytes
pub line_bytes_lem : (l : Line) → malformed l ≡ false → (l ≡ line_with (bytes_of l.chars)) × All IsByte (bytes_of l.chars)
unfolding malformed
line_bytes_lem l h = (λ i. record { chars = cs.0 i; fed = not-false l.fed h₃.1 i }, cs.1)
  where
    h₁ : (is_empty l.chars ≡ false) × ((eqb (length l.chars % 2) 1 || (any no_value l.chars || not l.fed)) ≡ false)
    h₁ = neither _ _ h

    h₂ : (eqb (length l.chars % 2) 1 ≡ false) × ((any no_value l.chars || not l.fed) ≡ false)
    h₂ = neither _ _ h₁.1

    h₃ : (any no_value l.chars ≡ false) × (not l.fed ≡ false)
    h₃ = neither _ _ h₂.1

    cs : (l.chars ≡ chars_of (bytes_of l.chars)) × All IsByte (bytes_of l.chars)
    cs = chars-bytes l.chars (eqb-false _ 1 h₂.0) h₃.0
