-- The lines of a text, one after the other: where each ends, whether it begins with 05, and what stands through the first such line.
use Prim.Native.Nat.{ℕ, zero, suc, ◌+◌, ◌-◌, ◌≤◌, ◌<◌}
use native.Mathlib.Omega.{arith}
use native.Mathlib.Numerals.{add-one}
use mathlib.Core.Path.{◌≡◌, refl, sym, ap, ap₂, ◌∙◌}
use mathlib.Core.Bool.{Bool, true, false, cond, ◌&&◌, and-false, and-true}
use mathlib.Core.List.{List, [], ◌∷◌, ◌++◌}
use lib.Dec.{eqb}
use Rattle.std.specs.List.{IsFirstMatchOrLen, starts_with}
use Rattle.std.specs.Prelude.{min}
use lib.Pointwise.{pointwise}
use lib.ListN.{length, take, get_or, drop, length-drop, drop_of_length-le}
use Rattle.std.proofs.Common.{drop_at}
use lib.Seq.{take-nil, take_at, drop-cons, drop-drop}
use borrow.Author.Tests.{eqb-true, eq-eqb, ne_eqb}
use Rattle.table_format.specs.Line.{Line, with_char, lines_of, size_of}
use Rattle.table_scanner.specs.Scan.{first_line}
use Rattle.table_format.proofs.Line.{lines_char}
use Rattle.table_scanner.proofs.FirstLine.{lines-fed, first-none, first-feed, first_char, size-feed, size_char, first-inside, first_some, lines-first}
use Rattle.session_query.specs.Parts.{begins05, size_through, table_size}

-- The characters 05.

second_is : (s : List ℕ) → eqb (get_or (first_line s).chars 0 0) 53 ≡ eqb (get_or s 0 0) 53
second_is [] = ap (λ (l : Line). eqb (get_or l.chars 0 0) 53) first-none
second_is (d ∷ s) = go (eqb d 10) refl
  where
    go : (b : Bool) → eqb d 10 ≡ b → eqb (get_or (first_line (d ∷ s)).chars 0 0) 53 ≡ eqb d 53
    go true e = ap (λ (l : Line). eqb (get_or l.chars 0 0) 53) (first-feed d s e) ∙ ap (λ (n : ℕ). eqb n 53) (sym (eqb-true d 10 e))
    go false e = ap (λ (l : Line). eqb (get_or l.chars 0 0) 53) (first_char d s e)

begins-first : (s : List ℕ) → begins05 (first_line s).chars ≡ begins05 s
begins-first [] = ap (λ (l : Line). begins05 l.chars) first-none
begins-first (c ∷ s) = go (eqb c 10) refl
  where
    go : (b : Bool) → eqb c 10 ≡ b → begins05 (first_line (c ∷ s)).chars ≡ begins05 (c ∷ s)
    go true e = ap (λ (l : Line). begins05 l.chars) (first-feed c s e) ∙ ap (λ (n : ℕ). eqb n 48 && eqb (get_or s 0 0) 53) (sym (eqb-true c 10 e))
    go false e = ap (λ (l : Line). begins05 l.chars) (first_char c s e) ∙ ap (λ (b : Bool). eqb c 48 && b) (second_is s)

-- Through the first line that begins with 05.

abbrev through_by : List ℕ → ℕ → Bool → ℕ
through_by s n b = n + cond b 0 (size_through (lines_of (drop n s)))

through : (s : List ℕ) → 0 < length s → size_through (lines_of s) ≡ through_by s (size_of (first_line s)) (begins05 s)
unfolding size_through
through s h = ap size_through (lines-first s h) ∙ ap (through_by s (size_of (first_line s))) (begins-first s)

total : List Line → ℕ
total [] = 0
total (l ∷ ls) = size_of l + total ls

total-with : (c : ℕ) (ls : List Line) → total (with_char c ls) ≡ suc (total ls)
unfolding total
total-with c [] = refl
total-with c (l ∷ ls) = omega arith

total-lines : (s : List ℕ) → total (lines_of s) ≡ length s
unfolding total lines_of
total-lines [] = refl
total-lines (c ∷ cs) = go (eqb c 10) refl (total-lines cs)
  where
    go : (b : Bool) → eqb c 10 ≡ b → total (lines_of cs) ≡ length cs → total (lines_of (c ∷ cs)) ≡ suc (length cs)
    go true e h = ap total (lines-fed c cs e) ∙ omega arith
    go false e h = ap total (lines_char c cs e) ∙ total-with c (lines_of cs) ∙ ap suc h

through-total : (ls : List Line) → size_through ls ≤ total ls
unfolding size_through total
through-total [] = omega arith
through-total (l ∷ ls) = go (begins05 l.chars) (through-total ls)
  where
    go : (b : Bool) → size_through ls ≤ total ls → size_of l + cond b 0 (size_through ls) ≤ size_of l + total ls
    go true h = omega arith
    go false h = omega arith

pub size-inside : (input : List ℕ) → table_size input ≤ length input
size-inside input = omega (arith, through-total (lines_of input), total-lines input)

-- A text's first line as a part of it: the characters through the first line feed.

part-size : (s : List ℕ) (i : ℕ) → IsFirstMatchOrLen (λ c. eqb c 10) s i → min (i + 1) (length s) ≡ size_of (first_line s)
part-size [] i f = omega (arith, ap size_of first-none)
part-size (c ∷ s) zero f = omega (arith, size-feed c s (f.1 (omega arith) 0))
part-size (c ∷ s) (suc i) f =
    let rec = part-size s i (λ k d l h. f.0 (suc k) d (omega arith) (omega arith), λ h d. f.1 (omega arith) d) in
    omega (arith, size_char c s (f.0 0 0 (omega arith) (omega arith)), rec)

eqb-sym : (a b : ℕ) → eqb a b ≡ eqb b a
eqb-sym a b = go (eqb b a) refl
  where
    go : (x : Bool) → eqb b a ≡ x → eqb a b ≡ eqb b a
    go true e = eq-eqb a b (sym (eqb-true b a e)) ∙ sym e
    go false e = ne_eqb a b (λ h. let t = eq-eqb b a (sym h) in absurd (cc (sym e ∙ t))) ∙ sym e

abbrev pub starts05 : List ℕ → Bool
starts05 s = starts_with eqb s (48 ∷ 53 ∷ [])

starts-none : (n : ℕ) → starts05 (take n []) ≡ false
starts-none n = ap starts05 (take-nil n)

starts-short : (c n : ℕ) → starts05 (take n (c ∷ [])) ≡ false
starts-short c zero = refl
starts-short c (suc n) = ap (λ (l : List ℕ). eqb 48 c && pointwise eqb (53 ∷ []) (take 1 l)) (take-nil n) ∙ and-false (eqb 48 c)

starts-more : (c d n : ℕ) (s : List ℕ) → starts05 (take (suc (suc n)) (c ∷ d ∷ s)) ≡ (eqb c 48 && eqb d 53)
starts-more c d n s = ap₂ ◌&&◌ (eqb-sym 48 c) (and-true (eqb 53 d) ∙ eqb-sym 53 d)

-- it begins with 05 where the text does
part-begins : (s : List ℕ) → starts05 (take (size_of (first_line s)) s) ≡ begins05 s
part-begins [] = starts-none (size_of (first_line []))
part-begins (c ∷ []) = starts-short c (size_of (first_line (c ∷ []))) ∙ sym (and-false (eqb c 48))
part-begins (c ∷ d ∷ s) = go (eqb c 10) refl
  where
    go : (b : Bool) → eqb c 10 ≡ b → starts05 (take (size_of (first_line (c ∷ d ∷ s))) (c ∷ d ∷ s)) ≡ begins05 (c ∷ d ∷ s)
    go true e =
        ap (λ (n : ℕ). starts05 (take n (c ∷ d ∷ s))) (size-feed c (d ∷ s) e) ∙ starts-short c 1
        ∙ ap (λ (n : ℕ). eqb n 48 && eqb d 53) (sym (eqb-true c 10 e))
    go false e =
        let p = first_some (d ∷ s) (omega arith) in
        let n : ℕ = size_of (first_line (d ∷ s)) - 1 in
        let long : size_of (first_line (c ∷ d ∷ s)) ≡ suc (suc n) = omega (arith, size_char c (d ∷ s) e) in
        ap (λ (m : ℕ). starts05 (take m (c ∷ d ∷ s))) long ∙ starts-more c d n s

-- The loops: what is left of the text at a place.

module _ (text : List ℕ) where
  here : (at : ℕ) → at < length text → drop at text ≡ get_or text at 0 ∷ drop (at + 1) text
  here at h = drop-cons text at 0 h ∙ ap (λ (n : ℕ). get_or text at 0 ∷ drop n text) (sym (add-one at))

  -- where the line that is left at a place ends
  abbrev pub end_at : ℕ → ℕ
  end_at at = at + size_of (first_line (drop at text))

  -- what is left after it
  pub part-rest : (at : ℕ) (rest part next : List ℕ) → rest ≡ drop at text → rest ≡ part ++ next → next ≡ drop (at + length part) text
  part-rest at rest part next e cut = sym (drop_at part next (length part) refl) ∙ ap (drop (length part)) (sym cut ∙ e) ∙ drop-drop (length part) at text

  -- the part that is split off what is left: it ends where the line does, and begins as that does
  pub part-is : (at i : ℕ) (rest part next : List ℕ) → rest ≡ drop at text → rest ≡ part ++ next → length part ≡ min (i + 1) (length rest) → IsFirstMatchOrLen (λ c. eqb c 10) rest i
      → (at + length part ≡ end_at at) × (starts05 part ≡ begins05 (drop at text))
  part-is at i rest part next e cut size first =
      let n : length part ≡ size_of (first_line rest) = size ∙ part-size rest i first in
      let front : part ≡ take (size_of (first_line rest)) rest = sym (take_at part next (length part) refl) ∙ (λ j. take (n j) (sym cut j)) in
      (ap (λ (m : ℕ). at + m) n ∙ ap (λ (s : List ℕ). at + size_of (first_line s)) e, ap starts05 front ∙ part-begins rest ∙ ap begins05 e)

  -- what is counted at the head of the loop: the place, and what stands from there through the line that is looked for
  pub record Counted (at : ℕ) : Type 0 where
    pub inside : at ≤ length text
    pub sum : at + size_through (lines_of (drop at text)) ≡ table_size text

  pub counted_none : Counted 0
  counted_none = record { inside = omega arith; sum = omega arith }

  left : (at : ℕ) → at < length text → 0 < length (drop at text)
  left at h = omega (arith, length-drop at text)

  counted-by : (at : ℕ) (b : Bool) → at < length text → Counted at → begins05 (drop at text) ≡ b → at + through_by (drop at text) (size_of (first_line (drop at text))) b ≡ table_size text
  counted-by at b h C e =
      ap (λ (c : Bool). at + through_by (drop at text) (size_of (first_line (drop at text))) c) (sym e)
      ∙ ap (λ (n : ℕ). at + n) (sym (through (drop at text) (left at h))) ∙ C.sum

  pub counted_stop : (at : ℕ) → at < length text → Counted at → begins05 (drop at text) ≡ true → end_at at ≡ table_size text
  counted_stop at h C e = omega (arith, counted-by at true h C e)

  pub counted-more : (at next : ℕ) → at < length text → Counted at → begins05 (drop at text) ≡ false → next ≡ end_at at → Counted next × (at < next)
  counted-more at next h C e k =
      let f = first-inside (drop at text) in
      let l = length-drop at text in
      let p = first_some (drop at text) (left at h) in
      let s : lines_of (drop (size_of (first_line (drop at text))) (drop at text)) ≡ lines_of (drop next text) = ap lines_of (drop-drop (size_of (first_line (drop at text))) at text ∙ ap (λ (n : ℕ). drop n text) (sym k)) in
      let z = ap size_through s in
      let q = counted-by at false h C e in
      (record { inside = omega arith; sum = omega arith }, omega arith)

  pub counted-end : (at : ℕ) → length text ≤ at → Counted at → at ≡ table_size text
  unfolding lines_of size_through
  counted-end at h C = let z = ap (λ (s : List ℕ). size_through (lines_of s)) (drop_of_length-le text h) in omega (arith, C.sum)
