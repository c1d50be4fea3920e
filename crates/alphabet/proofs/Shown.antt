-- What a character is shown as: itself, or two bytes of the letter whose mark it is.
use Prim.Native.Nat.{ℕ, ◌+◌, ◌-◌, ◌/◌, ◌%◌, ◌<◌, ◌≤◌}
use native.Mathlib.Omega.{arith}
use native.Mathlib.Numerals.{add-one}
use mathlib.Core.Path.{◌≡◌, refl, sym, ap, subst, ◌∙◌}
use mathlib.Core.Logic.{◌⊎◌, inl, inr, ⊎_elim}
use mathlib.Core.Bool.{Bool, true, false, cond, ◌&&◌}
use mathlib.Core.List.{List, [], ◌∷◌, ◌++◌}
use lib.Dec.{leb, ltb, eqb}
use lib.ListN.{length, get_or, drop, length-append, drop_of_length-le}
use lib.Seq.{drop-cons}
use borrow.Author.Tests.{leb-true, ltb-true, lt-ltb, le-ltb, eq-eqb, ne_eqb, eqb-true, eqb-false}
use Rattle.std.specs.Prelude.{Option, Some, None, MatchOption}
use Rattle.std.specs.Char.{encode_utf8}
use Rattle.utf8.specs.Utf8.{is_scalar, encoded}
use Rattle.faces.specs.Faces.{face_count, face_of}
use Rattle.table_format.proofs.Tests.{and_left, and_right, or_left}
use Rattle.alphabet.specs.Letters.{letter_count, smalls, place_in, letter_of, small_of}
use Rattle.alphabet.specs.Shown.{Ascii, face_table, face_letter, code_shown, shown_as, shown}
use Rattle.alphabet.proofs.LetterOf.{small-own}
use Rattle.alphabet.proofs.Places.{values, value_at, same_from, place_is}

face_count_lem : length face_table ≡ face_count
unfolding face_table
face_count_lem = refl

-- a face is ASCII
face-most : (l : ℕ) → l < face_count → Ascii (get_or face_table l 0)
unfolding face_table
face-most l h = ltb-true _ _ (same_from (λ i. ltb (get_or face_table i 0) 128) (λ i. true) 0 face_count refl l (omega arith) (omega arith))

-- a letter above z takes two bytes
abbrev is_two : ℕ → Bool
is_two code = leb 128 code && ltb code 2048

small-two : (l : ℕ) → 27 ≤ l → l ≤ letter_count → is_two (small_of l) ≡ true
unfolding small_of smalls
small-two l h k = same_from (λ i. is_two (small_of i)) (λ i. true) 27 35 refl l h (omega arith)

abbrev pub two : ℕ → List ℕ
two code = (192 + code / 64) ∷ (128 + code % 64) ∷ []

one-encoded : (code : ℕ) → code < 128 → encoded code ≡ code ∷ []
unfolding encoded
one-encoded code h = rw (lt-ltb code 128 h)

two-encoded : (code : ℕ) → 128 ≤ code → code < 2048 → encoded code ≡ two code
unfolding encoded
two-encoded code h k = rw (le-ltb code 128 h, lt-ltb code 2048 k)

module _ (c : ℕ) where
  -- c is the mark of a letter above z
  pub record Mark : Type 0 where
    pub letter : ℕ
    pub low : 27 ≤ letter
    pub high : letter ≤ letter_count
    pub face : face_of face_table letter ≡ c
    pub code : code_shown c ≡ small_of letter

  pub mark_cases : (code_shown c ≡ 0) ⊎ Mark
  unfolding code_shown
  mark_cases = go (leb 27 (face_letter c) && leb (face_letter c) letter_count) refl
    where
      go : (b : Bool) → (leb 27 (face_letter c) && leb (face_letter c) letter_count) ≡ b → (code_shown c ≡ 0) ⊎ Mark
      go true e =
          let low : 27 ≤ face_letter c = leb-true _ _ (and_left _ _ e) in
          let high : face_letter c ≤ letter_count = leb-true _ _ (and_right (leb 27 (face_letter c)) _ e) in
          let here : face_letter c - 1 ≡ place_in face_table c = omega arith in
          inr (record {
            letter = face_letter c;
            low = low;
            high = high;
            face = ap (λ (i : ℕ). get_or face_table i 0) here ∙ place_is c face_table (omega (arith, face_count_lem));
            code = ap (λ (b : Bool). cond b (small_of (face_letter c)) 0) e;
          })
      go false e = inl (ap (λ (b : Bool). cond b (small_of (face_letter c)) 0) e)

  mark_two : (M : Mark) → (128 ≤ code_shown c) × (code_shown c < 2048)
  mark_two M =
      let t = ap is_two M.code ∙ small-two M.letter M.low M.high in
      (leb-true _ _ (and_left _ _ t), ltb-true _ _ (and_right (leb 128 (code_shown c)) _ t))

  pub code_past : 128 ≤ c → code_shown c ≡ 0
  code_past h =
      ⊎_elim (λ e. e) (λ M. absurd (let b = face-most (M.letter - 1) (omega (arith, M.low, M.high)) in omega (arith, M.face))) mark_cases

  pub code-most : code_shown c < 2048
  code-most = ⊎_elim (λ e. omega arith) (λ M. (mark_two M).1) mark_cases

  pub mark_some : Mark → 0 < code_shown c
  mark_some M = omega (arith, (mark_two M).0)

  pub shown-itself : code_shown c ≡ 0 → shown_as c ≡ c ∷ []
  unfolding shown_as
  shown-itself e = ap (λ (b : Bool). cond b (c ∷ []) (encoded (code_shown c))) (eq-eqb _ _ e)

  shown-code : 0 < code_shown c → shown_as c ≡ encoded (code_shown c)
  unfolding shown_as
  shown-code h = ap (λ (b : Bool). cond b (c ∷ []) (encoded (code_shown c))) (ne_eqb (code_shown c) 0 (λ e. omega arith))

  pub shown-two : 0 < code_shown c → shown_as c ≡ two (code_shown c)
  shown-two h =
      shown-code h
      ∙ ⊎_elim (λ e. absurd (omega arith)) (λ M. two-encoded (code_shown c) (mark_two M).0 (mark_two M).1) mark_cases

  -- one character
  pub shown_scalar : Ascii c → (p : ℕ) × (is_scalar p ≡ true) × (shown_as c ≡ encoded p)
  shown_scalar h =
      ⊎_elim (λ e. (c, low c (omega arith), shown-itself e ∙ sym (one-encoded c h))) (λ M. (code_shown c, low (code_shown c) code-most, shown-code (mark_some M))) mark_cases
    where
      low : (p : ℕ) → p < 2048 → is_scalar p ≡ true
      low p k = or_left (ltb p 55296) _ (lt-ltb p 55296 (omega arith))

  pub size-one : code_shown c ≡ 0 → length (shown_as c) ≡ 1
  size-one e = ap length (shown-itself e)

  pub size-two : 0 < code_shown c → length (shown_as c) ≡ 2
  size-two h = ap length (shown-two h)

  -- one byte or two
  pub size_range : (1 ≤ length (shown_as c)) × (length (shown_as c) ≤ 2)
  size_range =
      ⊎_elim (λ e. let n = size-one e in (omega arith, omega arith)) (λ M. let n = size-two (mark_some M) in (omega arith, omega arith)) mark_cases

-- a letter's code point tells its mark
mark_tells : (c d : ℕ) → Mark c → Mark d → code_shown c ≡ code_shown d → c ≡ d
mark_tells c d M N e =
    let same : M.letter ≡ N.letter =
    sym (small-own M.letter (omega (arith, M.low)) M.high)
    ∙ ap letter_of (sym M.code ∙ e ∙ N.code)
    ∙ small-own N.letter (omega (arith, N.low)) N.high in
    sym M.face ∙ ap (face_of face_table) same ∙ N.face

-- what begins as a character is shown, begins with that character
pub first-tells : (c d : ℕ) (s t : List ℕ) → Ascii c → Ascii d → shown_as c ++ s ≡ shown_as d ++ t → (c ≡ d) × (s ≡ t)
first-tells c d s t h k e = ⊎_elim (λ p. ⊎_elim (one-one p) (one-two p) (mark_cases d)) (λ M. ⊎_elim (two-one M) (two-two M) (mark_cases d)) (mark_cases c)
  where
    both : {x y : List ℕ} → shown_as c ≡ x → shown_as d ≡ y → x ++ s ≡ y ++ t
    both p q = ap (λ (l : List ℕ). l ++ s) (sym p) ∙ e ∙ ap (λ (l : List ℕ). l ++ t) q

    one-one : code_shown c ≡ 0 → code_shown d ≡ 0 → (c ≡ d) × (s ≡ t)
    one-one p q = let f : c ∷ s ≡ d ∷ t = both (shown-itself c p) (shown-itself d q) in (cc, cc)

    one-two : code_shown c ≡ 0 → Mark d → (c ≡ d) × (s ≡ t)
    one-two p N =
        let f : c ∷ s ≡ two (code_shown d) ++ t = both (shown-itself c p) (shown-two d (mark_some d N)) in
        let g : c ≡ 192 + code_shown d / 64 = cc in
        absurd (omega arith)

    two-one : Mark c → code_shown d ≡ 0 → (c ≡ d) × (s ≡ t)
    two-one M q =
        let f : two (code_shown c) ++ s ≡ d ∷ t = both (shown-two c (mark_some c M)) (shown-itself d q) in
        let g : 192 + code_shown c / 64 ≡ d = cc in
        absurd (omega arith)

    two-two : Mark c → Mark d → (c ≡ d) × (s ≡ t)
    two-two M N =
        let f : two (code_shown c) ++ s ≡ two (code_shown d) ++ t = both (shown-two c (mark_some c M)) (shown-two d (mark_some d N)) in
        let g : 192 + code_shown c / 64 ≡ 192 + code_shown d / 64 = cc in
        let r : 128 + code_shown c % 64 ≡ 128 + code_shown d % 64 = cc in
        (mark_tells c d M N (omega arith), cc)

-- the letter whose mark a character is
abbrev pub letter_shown : ℕ → Option ℕ
letter_shown c = cond (eqb (code_shown c) 0) None (Some (code_shown c))

abbrev pub ShownIs : ℕ → Option ℕ → Type 0
ShownIs c r = MatchOption r (code_shown c ≡ 0) (λ letter. (letter ≡ code_shown c) × (128 ≤ letter) × (letter < 2048))

letter_shown_is : (c : ℕ) → ShownIs c (letter_shown c)
letter_shown_is c = go (eqb (code_shown c) 0) refl
  where
    go : (b : Bool) → eqb (code_shown c) 0 ≡ b → ShownIs c (cond b None (Some (code_shown c)))
    go true e = eqb-true _ _ e
    go false e = ⊎_elim (λ z. absurd (eqb-false (code_shown c) 0 e z)) (λ M. (refl, (mark_two c M).0, (mark_two c M).1)) (mark_cases c)

-- what a row of all the values tells at a character's place
pub shown_at : (row : List (Option ℕ)) → values letter_shown 128 ≡ row → (i c : ℕ) → i ≡ c → i < 128 → (r : Option ℕ) → r ≡ get_or row i r → ShownIs c r
shown_at row all i c s h r e =
    let is : letter_shown i ≡ r = sym (value_at letter_shown r 128 i h) ∙ ap (λ (l : List (Option ℕ)). get_or l i r) all ∙ sym e in
    subst (λ (d : ℕ). ShownIs d r) s (subst (ShownIs i) is (letter_shown_is i))

-- a letter's bytes
pub encoded-is : (c : ℕ) → 128 ≤ c → c < 2048 → encode_utf8 c ≡ encoded c
unfolding encoded encode_utf8
encoded-is c h k = rw (le-ltb c 128 h, lt-ltb c 2048 k)

pub size-shown : (c letter : ℕ) → letter ≡ code_shown c → 128 ≤ letter → letter < 2048 → encode_utf8 letter ≡ shown_as c
size-shown c letter e h k = encoded-is letter h k ∙ ap encoded e ∙ sym (shown-code c (omega arith))

-- Text, along its characters.

pub shown-next : (text : List ℕ) (k : ℕ) → k < length text → shown (drop k text) ≡ shown_as (get_or text k 0) ++ shown (drop (k + 1) text)
unfolding shown
shown-next text k h = ap shown (drop-cons text k 0 h) ∙ ap (λ (n : ℕ). shown_as (get_or text k 0) ++ shown (drop n text)) (sym (add-one k))

pub shown-end : (text : List ℕ) (k : ℕ) → length text ≤ k → shown (drop k text) ≡ []
unfolding shown
shown-end text k h = ap shown (drop_of_length-le text h)

pub next-length : (text : List ℕ) (k : ℕ) → k < length text → length (shown (drop k text)) ≡ length (shown_as (get_or text k 0)) + length (shown (drop (k + 1) text))
next-length text k h = ap length (shown-next text k h) ∙ length-append (shown_as (get_or text k 0)) (shown (drop (k + 1) text))
