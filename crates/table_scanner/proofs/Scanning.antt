-- Scanning a line: what is known while its digits are read, a turn of the loop, and what each way out of it says.
use Rattle.std.specs.Prelude.{Option, Some, None, Result, Ok, Err}
use Prim.Native.Nat.{ℕ, suc, ◌+◌, ◌*◌, ◌%◌, ◌/◌, ◌<◌, ◌≤◌}
use native.Mathlib.Omega.{arith}
use mathlib.Core.Path.{◌≡◌, refl, sym, ap, ap₂, ◌∙◌}
use mathlib.Core.Bool.{Bool, true, false, not, cond, ◌||◌}
use mathlib.Core.List.{List, [], ◌∷◌, ◌++◌, append_assoc, append-nil}
use lib.Dec.{eqb}
use lib.ListN.{length, get_or, drop, set, length-append, drop_of_length-le}
use lib.Seq.{drop-cons, sets}
use borrow.Author.Tests.{eq-eqb, ne_eqb}
use Rattle.hexadecimal.specs.Hex.{value_of, decoded, digit_of, encoded}
use Rattle.hexadecimal.proofs.Hex.{decoded_of, decoded-encoded, encoded-decoded}
use Rattle.table_format.specs.Rules.{is_empty, any}
use Rattle.table_format.specs.Line.{Line, is_value, malformed, bytes_of, chars_of, size_of}
use Rattle.refusal.specs.declared.InputCause.{InputCause}
use Rattle.refusal.specs.declared.InputCause.TheVariants.{Malformed}
use Rattle.table_scanner.specs.declared.Line.{Line as ScannedLine}
use Rattle.table_scanner.specs.Scan.{no_line, first_line, scanned_as, byte_before, leading_bytes}
use Rattle.table_format.proofs.Tests.{or_right}
use Rattle.table_format.proofs.All.{All, all_append}
use Rattle.table_format.proofs.Each.{any_append}
use Rattle.table_format.proofs.Arcs.{at_equal}
use Rattle.table_format.proofs.Stores.{sets-append}
use Rattle.table_format.proofs.Line.{IsByte, line_with, no_value, digit_no_feed, length-chars, chars-append, bytes-chars, line-well}
use Rattle.table_scanner.proofs.FirstLine.{with_first, empty_line, first-none, first-feed, first_char}

-- The first line of a text that begins with digits, and the bytes that it begins with.

-- a line with the digits of bytes in front
abbrev after : List ℕ → Line → Line
after b l = record { chars = chars_of b ++ l.chars; fed = l.fed }

first-after : (b rest : List ℕ) → first_line (chars_of b ++ rest) ≡ after b (first_line rest)
unfolding chars_of encoded
first-after [] rest = refl
first-after (x ∷ b) rest =
    first_char (digit_of (x / 16)) _ (digit_no_feed (x / 16))
    ∙ ap (with_first (digit_of (x / 16))) (first_char (digit_of x) _ (digit_no_feed x) ∙ ap (with_first (digit_of x)) (first-after b rest))

pub leading_after : (b rest : List ℕ) → All IsByte b → leading_bytes (chars_of b ++ rest) ≡ b ++ leading_bytes rest
unfolding leading_bytes chars_of encoded decoded
leading_after [] rest h = refl
leading_after (x ∷ b) rest h = ap₂ byte_before (decoded-encoded x h.0) (leading_after b rest h.1)

-- Malformed lines.

unfed : (cs : List ℕ) → malformed (record { chars = cs; fed = false }) ≡ true
unfolding malformed
unfed cs = or_right (is_empty cs) _ (or_right (eqb (length cs % 2) 1) _ (or_right (any no_value cs) true refl))

odd : (cs : List ℕ) (f : Bool) → length cs % 2 ≡ 1 → malformed (record { chars = cs; fed = f }) ≡ true
unfolding malformed
odd cs f e = or_right (is_empty cs) _ (ap (λ (b : Bool). b || (any no_value cs || not f)) (eq-eqb (length cs % 2) 1 e))

no_digit : (cs : List ℕ) (f : Bool) → any no_value cs ≡ true → malformed (record { chars = cs; fed = f }) ≡ true
unfolding malformed
no_digit cs f e = or_right (is_empty cs) _ (or_right (eqb (length cs % 2) 1) _ (ap (λ (b : Bool). b || not f) e))

-- one of two characters is no digit
invalid : (c d : ℕ) → decoded c d ≡ None → (no_value c || (no_value d || false)) ≡ true
invalid c d e = go (value_of c) (value_of d) refl refl
  where
    go : (u v : Option ℕ) → value_of c ≡ u → value_of d ≡ v → (no_value c || (no_value d || false)) ≡ true
    go (Some u) (Some v) p q = cc (sym (decoded_of c d u v p q) ∙ e)
    go (Some u) None p q = or_right (no_value c) _ (ap (λ (x : Option ℕ). not (is_value x) || false) q)
    go None v p q = ap (λ (x : Option ℕ). not (is_value x) || (no_value d || false)) p

scanned_malformed : (start : ℕ) (l : Line) → malformed l ≡ true → scanned_as start l ≡ Err Malformed
unfolding scanned_as
scanned_malformed start l e = simp e

-- What is known at the head of the loop.

pub record Scanning (text : List ℕ) (start : ℕ) (before bytes : List ℕ) (count at : ℕ) : Type 0 where
  pub so_far_lem : List ℕ
  pub small : All IsByte so_far_lem
  pub text-is : drop start text ≡ chars_of so_far_lem ++ drop at text
  pub count-is : count ≡ length so_far_lem
  pub at-is : at ≡ start + 2 * count
  pub bytes-are : bytes ≡ sets before 0 so_far_lem

pub scanning_none : (text : List ℕ) (start : ℕ) (before : List ℕ) → Scanning text start before before 0 start
unfolding chars_of
scanning_none text start before = record { so_far_lem = []; small = tt; text-is = refl; count-is = refl; at-is = omega arith; bytes-are = refl }

module _ {text : List ℕ} {start : ℕ} {before bytes : List ℕ} {count at : ℕ} (S : Scanning text start before bytes count at) where
  abbrev here : ℕ
  here = get_or text at 0

  abbrev next : ℕ
  next = get_or text (at + 1) 0

  abbrev so_far : List ℕ
  so_far = S.so_far_lem

  rest-one : at < length text → drop at text ≡ here ∷ drop (at + 1) text
  rest-one h = drop-cons text at 0 h ∙ at_equal (λ n. here ∷ drop n text) (suc at) (at + 1) (omega arith)

  rest-two : at + 1 < length text → drop at text ≡ here ∷ next ∷ drop (at + 2) text
  rest-two h =
      rest-one (omega arith) ∙ ap (λ (l : List ℕ). here ∷ l) (drop-cons text (at + 1) 0 h ∙ at_equal (λ n. next ∷ drop n text) (suc (at + 1)) (at + 2) (omega arith))

  -- one byte more
  pub scanning_more : (v : ℕ) → at + 1 < length text → decoded here next ≡ Some v → Scanning text start before (set bytes count v) (count + 1) (at + 2)
  unfolding chars_of encoded
  scanning_more v h e =
      record {
        so_far_lem = so_far ++ (v ∷ []);
        small = all_append IsByte so_far (v ∷ []) S.small (w.0, tt);
        text-is = S.text-is ∙ ap (λ (l : List ℕ). chars_of so_far ++ l) (rest-two h ∙ two) ∙ sym (append_assoc (chars_of so_far) (chars_of (v ∷ [])) (drop (at + 2) text)) ∙ ap (λ (l : List ℕ). l ++ drop (at + 2) text) (sym (chars-append so_far (v ∷ [])));
        count-is = omega (arith, S.count-is, length-append so_far (v ∷ []));
        at-is = omega (arith, S.at-is);
        bytes-are = ap (λ (l : List ℕ). set l count v) S.bytes-are ∙ sets-append before 0 count so_far (v ∷ []) (omega (arith, S.count-is));
      }
    where
      w : (v < 256) × (encoded v ≡ here ∷ next ∷ [])
      w = encoded-decoded here next v e

      two : here ∷ next ∷ drop (at + 2) text ≡ chars_of (v ∷ []) ++ drop (at + 2) text
      two = ap (λ (l : List ℕ). l ++ drop (at + 2) text) (sym w.1)

  -- The ways out: the answer, and every byte of the lent array.

  abbrev Out : Result ScannedLine InputCause → Type 0
  Out r =
      (r ≡ scanned_as start (first_line (drop start text))) × (bytes ≡ sets before 0 (leading_bytes (first_line (drop start text)).chars))

  -- what is left begins with no byte
  out : (l : Line) (r : Result ScannedLine InputCause) → first_line (drop at text) ≡ l → scanned_as start (after so_far l) ≡ r → leading_bytes l.chars ≡ [] → Out r
  out l r e told none =
      let line : first_line (drop start text) ≡ after so_far l = ap first_line S.text-is ∙ first-after so_far (drop at text) ∙ ap (after so_far) e in
      let bytes-are : leading_bytes (first_line (drop start text)).chars ≡ so_far =
      ap (λ (x : Line). leading_bytes x.chars) line ∙ leading_after so_far l.chars S.small ∙ ap (λ (x : List ℕ). so_far ++ x) none ∙ append-nil so_far in
      (sym (ap (scanned_as start) line ∙ told), S.bytes-are ∙ ap (sets before 0) (sym bytes-are))

  out-malformed : (l : Line) → first_line (drop at text) ≡ l → malformed (after so_far l) ≡ true → leading_bytes l.chars ≡ [] → Out (Err Malformed)
  out-malformed l e m none = out l (Err Malformed) e (scanned_malformed start (after so_far l) m) none

  -- the text ends in the line
  pub out-end : length text ≤ at → Out (Err Malformed)
  unfolding leading_bytes
  out-end h = out-malformed no_line (ap first_line (drop_of_length-le text h) ∙ first-none) (unfed (chars_of so_far ++ [])) refl

  first-here : at < length text → (here ≡ 10 → ⊥) → first_line (drop at text) ≡ with_first here (first_line (drop (at + 1) text))
  first-here h n = ap first_line (rest-one h) ∙ first_char here (drop (at + 1) text) (ne_eqb here 10 n)

  pub out_half : at < length text → length text ≤ at + 1 → (here ≡ 10 → ⊥) → Out (Err Malformed)
  unfolding leading_bytes
  out_half h g n =
      out-malformed (with_first here no_line) (first-here h n ∙ ap (λ (s : List ℕ). with_first here (first_line s)) (drop_of_length-le text g) ∙ ap (with_first here) first-none)
      (unfed (chars_of so_far ++ (here ∷ []))) refl

  pub out-invalid : at + 1 < length text → (here ≡ 10 → ⊥) → decoded here next ≡ None → Out (Err Malformed)
  unfolding leading_bytes
  out-invalid h n e = go (eqb next 10) refl
    where
      rest : List ℕ
      rest = drop (at + 2) text

      then : (l : Line) → first_line (next ∷ rest) ≡ l → first_line (drop at text) ≡ with_first here l
      then l k =
          ap first_line (rest-two h) ∙ first_char here (next ∷ rest) (ne_eqb here 10 n) ∙ ap (with_first here) k

      go : (b : Bool) → eqb next 10 ≡ b → Out (Err Malformed)
      go true k =
          out-malformed (with_first here empty_line) (then empty_line (first-feed next rest k))
          (odd (chars_of so_far ++ (here ∷ [])) true (omega (arith, length-append (chars_of so_far) (here ∷ []), length-chars so_far))) refl
      go false k =
          let t : List ℕ = (first_line rest).chars in
          out-malformed (with_first here (with_first next (first_line rest))) (then (with_first next (first_line rest)) (first_char next rest k))
          (no_digit (chars_of so_far ++ (here ∷ next ∷ t)) (first_line rest).fed
          (any_append no_value (chars_of so_far) (here ∷ next ∷ t)
          ∙ or_right (any no_value (chars_of so_far)) _ (any_append no_value (here ∷ next ∷ []) t ∙ ap (λ (x : Bool). x || any no_value t) (invalid here next e))))
          (ap (λ (d : Option ℕ). byte_before d (leading_bytes t)) e)

  -- the line feed is there
  first-fed : at < length text → here ≡ 10 → first_line (drop at text) ≡ empty_line
  first-fed h e = ap first_line (rest-one h) ∙ first-feed here (drop (at + 1) text) (eq-eqb here 10 e)

  pub out-empty : at < length text → here ≡ 10 → count ≡ 0 → Out (Err Malformed)
  unfolding leading_bytes malformed chars_of
  out-empty h e z = out-malformed empty_line (first-fed h e) (go so_far (sym S.count-is ∙ z)) refl
    where
      go : (b : List ℕ) → length b ≡ 0 → malformed (after b empty_line) ≡ true
      go [] k = refl
      go (x ∷ b) k = absurd (omega arith)

  pub out_line : at < length text → here ≡ 10 → (count ≡ 0 → ⊥) → Out (Ok (record { count = count; next = at + 1 }))
  unfolding leading_bytes scanned_as
  out_line h e z = out empty_line (Ok (record { count = count; next = at + 1 })) (first-fed h e) (ap (scanned_as start) whole ∙ ap (λ (b : Bool). cond b (Err Malformed) (Ok (record { count = length (bytes_of (chars_of so_far)); next = start + size_of (line_with so_far) }))) well ∙ ap₂ said count-told next-told) refl
    where
      said : ℕ → ℕ → Result ScannedLine InputCause
      said n m = Ok (record { count = n; next = m })

      some : (b : List ℕ) → (length b ≡ 0 → ⊥) → is_empty b ≡ false
      some [] k = absurd (k refl)
      some (x ∷ b) k = refl

      whole : after so_far empty_line ≡ line_with so_far
      whole = ap (λ (cs : List ℕ). record { chars = cs; fed = true }) (append-nil (chars_of so_far))

      well : malformed (line_with so_far) ≡ false
      well = line-well so_far (some so_far (λ k. z (S.count-is ∙ k)))

      count-told : length (bytes_of (chars_of so_far)) ≡ count
      count-told = ap length (bytes-chars so_far S.small) ∙ sym S.count-is

      next-told : start + size_of (line_with so_far) ≡ at + 1
      next-told = omega (arith, length-chars so_far, S.at-is, S.count-is)
