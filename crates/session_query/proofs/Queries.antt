-- Bytes that are a query's, and bytes that are not; the query of a text by its first line.
use Prim.Native.Nat.{ℕ, ◌+◌, ◌-◌, ◌≤◌, ◌<◌}
use native.Mathlib.Omega.{arith}
use mathlib.Core.Path.{◌≡◌, refl, sym, ap, ap₂, subst, ◌∙◌}
use mathlib.Core.Bool.{Bool, true, false, cond, ◌&&◌, and-false}
use mathlib.Core.List.{List, [], ◌∷◌, ◌++◌}
use lib.Dec.{eqb}
use lib.ListN.{length, get_or, take, drop, replicate, length-drop, length-replicate, get_or-append}
use lib.Seq.{take_at, take_all, take-append-le, drop-append-le, get_or-drop, sets-eq}
use borrow.Author.Tests.{eqb-true, eq-eqb, ne_eqb}
use Rattle.refusal.specs.declared.InputCause.{InputCause}
use Rattle.refusal.specs.declared.InputCause.TheVariants.{Malformed, Misplaced}
use Rattle.table_format.specs.Rules.{is_empty}
use Rattle.table_format.specs.Line.{Line, lines_of, malformed, bytes_of}
use Rattle.table_format.proofs.Tests.{and_left, and_right}
use Rattle.table_format.proofs.All.{All, all_get_d}
use Rattle.table_format.proofs.Line.{IsByte}
use Rattle.table_scanner.proofs.FirstLine.{lines-first}
use Rattle.table_scanner.proofs.ScannedLine.{LineRead, LineBad}
use Rattle.std.specs.Prelude.{Ok, Err}
use Rattle.session_query.specs.declared.Query.{Query as Asked}
use Rattle.session_query.specs.declared.Question.{Question}
use Rattle.session_query.specs.Query.{query_bytes, QueryRead, fault, says, task_in, upper_length, lower_length, word_at, upper_in, lower_in, is_query, filled, query_of}
use Rattle.session_query.specs.Asking.{question_of}

-- Bytes.

pub record IsQuery (b : List ℕ) : Type 0 where
  pub kind : get_or b 0 0 ≡ 16
  pub size : length b ≡ 4 + upper_length b + lower_length b

query-facts : (b : List ℕ) → is_query b ≡ true → IsQuery b
unfolding is_query
query-facts b e =
    let k : Bool = eqb (get_or b 0 0) 16 in
    let s : Bool = eqb (length b) (4 + upper_length b + lower_length b) in
    record { kind = eqb-true (get_or b 0 0) 16 (and_left k s e); size = eqb-true (length b) (4 + upper_length b + lower_length b) (and_right k s e) }

pub no_query : (b : List ℕ) → (IsQuery b → ⊥) → is_query b ≡ false
no_query b n = go (is_query b) refl
  where
    go : (x : Bool) → is_query b ≡ x → is_query b ≡ false
    go true e = absurd (n (query-facts b e))
    go false e = e

eqb-as : (a b c d : ℕ) → (a ≡ b → c ≡ d) → (c ≡ d → a ≡ b) → eqb a b ≡ eqb c d
eqb-as a b c d f g = go (eqb a b) refl
  where
    go : (x : Bool) → eqb a b ≡ x → eqb a b ≡ eqb c d
    go true e = e ∙ sym (eq-eqb c d (f (eqb-true a b e)))
    go false e = e ∙ sym (ne_eqb c d (λ h. let t = eq-eqb a b (g h) in absurd (cc (sym e ∙ t))))

-- what stands behind the upper word's length
abbrev pub words_in : List ℕ → List ℕ
words_in b = take (length b - 3) (drop 3 b)

words-are : (b : List ℕ) → words_in b ≡ drop 3 b
words-are b = take_all (length b - 3) (drop 3 b) (omega (arith, length-drop 3 b))

module _ (b : List ℕ) (some : 3 ≤ length b) (u : ℕ) (up : u ≡ upper_length b) where
  words-length : length (words_in b) ≡ length b - 3
  words-length = ap length (words-are b) ∙ length-drop 3 b

  -- the kind is right, and both lengths are there
  pub query_by_lem : (l : ℕ) → get_or b 0 0 ≡ 16 → l ≡ get_or (words_in b) u 0 → eqb (length (words_in b)) (u + 1 + l) ≡ is_query b
  unfolding is_query
  query_by_lem l k e =
      let low : l ≡ lower_length b = e ∙ ap (λ (w : List ℕ). get_or w u 0) (words-are b) ∙ get_or-drop 3 b u 0 ∙ ap (λ (n : ℕ). get_or b (3 + n) 0) up in
      let w = words-length in
      eqb-as (length (words_in b)) (u + 1 + l) (length b) (4 + upper_length b + lower_length b) (λ h. omega arith) (λ h. omega arith)
      ∙ ap (λ (x : Bool). x && eqb (length b) (4 + upper_length b + lower_length b)) (sym (eq-eqb (get_or b 0 0) 16 k))

  -- no length of the lower word is there
  pub query_short : length (words_in b) ≤ u → is_query b ≡ false
  query_short h = no_query b (λ q. omega (arith, words-length, q.size))

-- a query's bytes are not more
query-most : (b : List ℕ) → All IsByte b → IsQuery b → length b ≤ query_bytes
query-most b a q =
    let u : upper_length b < 256 = all_get_d IsByte b 2 0 (omega arith) a in
    let l : lower_length b < 256 = all_get_d IsByte b (3 + upper_length b) 0 (omega arith) a in
    omega (arith, q.size)

-- A text, by what its first line says.

-- no text is left exactly where no line is
lines_none : (s : List ℕ) → length s ≡ 0 → lines_of s ≡ []
unfolding lines_of
lines_none [] e = refl
lines_none (c ∷ s) e = absurd (omega arith)

lines-some : (s : List ℕ) → 0 < length s → is_empty (lines_of s) ≡ false
lines-some s h = ap is_empty (lines-first s h)

pub some-text : (s : List ℕ) → false ≡ eqb (length s) 0 → 0 < length s
some-text [] e = absurd (cc e)
some-text (c ∷ s) e = omega arith

module _ (text : List ℕ) where
  abbrev Answer : Question → Type 0
  Answer r = r ≡ question_of (query_of (lines_of text))

  pub asks_none : length text ≡ 0 → (r : Question) → r ≡ question_of (fault Misplaced) → Answer r
  unfolding query_of
  asks_none e r k = k ∙ sym (ap (λ (x : List Line). question_of (query_of x)) (lines_none text e))

  pub asks-bad : LineBad text 0 → (r : Question) → r ≡ question_of (fault Malformed) → Answer r
  unfolding query_of
  asks-bad L r k =
      k ∙ sym
      (ap question_of
      (ap query_of L.lines_are
      ∙ ap (λ (x : Bool). cond x (fault Malformed) (cond (is_query (bytes_of L.line.chars) && is_empty L.others) (says (bytes_of L.line.chars)) (fault Misplaced))) L.bad))

  module _ {count next : ℕ} {bytes : List ℕ} (L : LineRead text 0 count next (replicate query_bytes 0) bytes) where
    abbrev said : List ℕ
    said = bytes_of L.line.chars

    -- whether the line is the only one
    abbrev alone : Bool
    alone = is_empty (lines_of (drop next text))

    answer-by : (b : Bool) (r : Question) → (is_query said && alone) ≡ b → r ≡ question_of (cond b (says said) (fault Misplaced)) → Answer r
    unfolding query_of
    answer-by b r e k =
        k ∙ sym
        (ap question_of
        (ap query_of L.lines_are ∙ ap (λ (x : Bool). cond x (fault Malformed) (cond (is_query said && alone) (says said) (fault Misplaced))) L.well
        ∙ ap (λ (x : Bool). cond x (says said) (fault Misplaced)) e))

    module _ (r : Question) (k : r ≡ question_of (fault Misplaced)) where
      pub asks-followed : (next ≡ length text → ⊥) → Answer r
      asks-followed n =
          let more : next < length text = omega (arith, L.next-inside) in
          answer-by false r (ap (λ (x : Bool). is_query said && x) (lines-some (drop next text) (omega (arith, length-drop next text))) ∙ and-false (is_query said)) k

      other : is_query said ≡ false → Answer r
      other e = answer-by false r (ap (λ (x : Bool). x && alone) e) k

      pub asks-long : query_bytes < count → Answer r
      asks-long h = other (no_query said (λ q. omega (arith, query-most said L.small q, L.count-is)))

    -- its bytes are at the front of the array
    module _ (few : count ≤ query_bytes) where
      stored : bytes ≡ filled said
      unfolding filled
      stored =
          let size : 0 + length said ≡ length said = omega arith in
          L.bytes-are ∙ sets-eq said (replicate query_bytes 0) 0 (omega (arith, L.count-is, length-replicate {A = ℕ} query_bytes 0))
          ∙ ap (λ (n : ℕ). said ++ drop n (replicate query_bytes 0)) size

      front : take count bytes ≡ said
      unfolding filled
      front = ap (take count) stored ∙ take_at said (drop (length said) (replicate query_bytes 0)) count (sym L.count-is)

      pub asks-other : false ≡ is_query (take count bytes) → (r : Question) → r ≡ question_of (fault Misplaced) → Answer r
      asks-other e r k = other r k (sym (e ∙ ap is_query front))

      pub asks-query : next ≡ length text → true ≡ is_query (take count bytes) → Answer (record { asking = Ok tt; query = record { bytes = bytes } })
      asks-query a e =
          answer-by true (record { asking = Ok tt; query = record { bytes = bytes } }) (ap₂ ◌&&◌ (sym (e ∙ ap is_query front)) (ap is_empty (lines_none (drop next text) (omega (arith, length-drop next text)))))
          (ap (λ (b : List ℕ). record { asking = Ok tt; query = record { bytes = b } }) stored)

-- What a question says of the query, and the array that it holds.

pub fault-is : (q : QueryRead) (r : Question) (cause : InputCause) → r ≡ question_of q → r.asking ≡ Err cause → q ≡ fault cause
fault-is (fault c) r cause e f = let same : c ≡ cause = cc (ap (λ (x : Question). x.asking) e) in ap fault same
fault-is (says b) r cause e f = absurd (let z : ◌≡◌ {A = ℕ} 0 1 = cc (ap (λ (x : Question). x.asking) e) in omega arith)

pub query-whole : (ls : List Line) (b : List ℕ) → query_of ls ≡ says b → IsQuery b
unfolding query_of
query-whole [] b e = absurd (let z : ◌≡◌ {A = ℕ} 0 1 = cc in omega arith)
query-whole (l ∷ ls) b e = go (malformed l) e
  where
    c : List ℕ
    c = bytes_of l.chars

    is : (x : Bool) → (is_query c && is_empty ls) ≡ x → cond x (says c) (fault Misplaced) ≡ says b → IsQuery b
    is true h e = let same : c ≡ b = cc in subst IsQuery same (query-facts c (and_left (is_query c) (is_empty ls) h))
    is false h e = absurd (let z : ◌≡◌ {A = ℕ} 0 1 = cc in omega arith)

    go : (x : Bool) → cond x (fault Malformed) (cond (is_query c && is_empty ls) (says c) (fault Misplaced)) ≡ says b → IsQuery b
    go true e = absurd (let z : ◌≡◌ {A = ℕ} 0 1 = cc in omega arith)
    go false e = is (is_query c && is_empty ls) refl e

-- a query's parts are the same in the array

module _ (b : List ℕ) (q : IsQuery b) where
  abbrev rest : List ℕ
  rest = drop (length b) (replicate query_bytes 0)

  filled_at : (i : ℕ) → i < length b → get_or (filled b) i 0 ≡ get_or b i 0
  unfolding filled
  filled_at i h = get_or-append b rest 0 i h

  task-filled : task_in (filled b) ≡ task_in b
  task-filled = filled_at 1 (omega (arith, q.size))

  upper_length_lem : upper_length (filled b) ≡ upper_length b
  upper_length_lem = filled_at 2 (omega (arith, q.size))

  part_filled : (n k : ℕ) → n + k ≤ length b → take n (drop k (filled b)) ≡ take n (drop k b)
  unfolding filled
  part_filled n k h = ap (take n) (drop-append-le k b rest (omega arith)) ∙ take-append-le n (drop k b) rest (omega (arith, length-drop k b))

  word-filled : (at : ℕ) → at + 1 + get_or b at 0 ≤ length b → word_at (filled b) at ≡ word_at b at
  word-filled at h =
      ap (λ (n : ℕ). take n (drop (at + 1) (filled b))) (filled_at at (omega arith)) ∙ part_filled (get_or b at 0) (at + 1) (omega arith)

  pub upper-filled : upper_in (filled b) ≡ upper_in b
  upper-filled = word-filled 2 (omega (arith, q.size))

  pub lower-filled : lower_in (filled b) ≡ lower_in b
  lower-filled = ap (λ (n : ℕ). word_at (filled b) (3 + n)) upper_length_lem ∙ word-filled (3 + upper_length b) (omega (arith, q.size))

-- the query that a text asks
pub record Asks (ls : List Line) (x : Asked) : Type 0 where
  pub query : List ℕ
  pub is : query_of ls ≡ says query
  pub bytes-are : x.bytes ≡ filled query
  pub task-is : task_in x.bytes ≡ task_in query
  pub upper_is : upper_in x.bytes ≡ upper_in query
  pub lower-is : lower_in x.bytes ≡ lower_in query

pub asks-is : (ls : List Line) (x : Question) → x ≡ question_of (query_of ls) → x.asking ≡ Ok tt → Asks ls x.query
asks-is ls x e f = go (query_of ls) refl e
  where
    go : (q : QueryRead) → query_of ls ≡ q → x ≡ question_of q → Asks ls x.query
    go (fault c) k e = absurd (let z : ◌≡◌ {A = ℕ} 0 1 = cc (ap (λ (y : Question). y.asking) e) in omega arith)
    go (says b) k e =
        let bytes : x.query.bytes ≡ filled b = ap (λ (y : Question). y.query.bytes) e in
        let q = query-whole ls b k in
        record {
          query = b;
          is = k;
          bytes-are = bytes;
          task-is = ap task_in bytes ∙ task-filled b q;
          upper_is = ap upper_in bytes ∙ upper-filled b q;
          lower-is = ap lower_in bytes ∙ lower-filled b q;
        }
