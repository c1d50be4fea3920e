-- The theorems about a line as a word, stated together. What each one means is in specs/; how it is shown is in the files that it names.
use Prim.Native.Nat.{ℕ, ◌+◌, ◌≤◌, ◌<◌}
use native.Mathlib.Omega.{arith}
use mathlib.Core.Path.{◌≡◌, refl, ap, subst, sym, ◌∙◌}
use mathlib.Core.Logic.{◌↔◌}
use mathlib.Core.Bool.{true}
use mathlib.Core.List.{List, [], ◌++◌, append-nil}
use lib.ListN.{length, take, length-append}
use lib.Seq.{sets-eq, length-sets, take_at}
use Rattle.alphabet.specs.Letters.{Known}
use Rattle.alphabet.proofs.Headlines.{letter-most}
use Rattle.table_format.proofs.All.{All}
use Rattle.lexicon.specs.Words.{good_word}
use Rattle.lexicon.proofs.Facts.{ListedLetter}
use Rattle.lexicon.proofs.Headlines.{word-is}
use Rattle.std.specs.Prelude.{Some, None, Result, Ok, Err}
use Rattle.wordlist_spelling.specs.declared.Fault.{Fault}
use Rattle.wordlist_spelling.specs.Spelled.{Ending, Spelled, told_of, letters_told, ended, spelled, SpelledIs}
use Rattle.wordlist_spelling.specs.Facts.{Spells, Ends, SpelledAs}
use Rattle.wordlist_spelling.proofs.Facts as facts

-- The letters of a line are those of the characters before its end or its fault, and what stands there is as it is told;
pub spelled_as : (line : List ℕ) → SpelledAs line (spelled line)
spelled_as = facts.spelled_as

-- nothing else is so.
pub spelled-only : (line : List ℕ) (s : Spelled) → SpelledAs line s → s ≡ spelled line
spelled-only = facts.spelled-only

whole-line : (line : List ℕ) → (spelled line).ending ≡ None → Spells (spelled line).letters line
whole-line line e =
    let A = spelled_as line in
    let none : A.rest ≡ [] = (subst (λ (x : Ending). Ends x (spelled line).letters A.rest (spelled line).size) e A.ends).0 in
    subst (Spells (spelled line).letters) (sym (append-nil A.before) ∙ sym (A.cut ∙ ap (λ (l : List ℕ). A.before ++ l) none)) A.spells

-- A line is taken for a word exactly where its characters are the word's letters, small or capital, and these are at most 64.
pub word-whole : (line w : List ℕ) → (((spelled line).ending ≡ None) × ((spelled line).letters ≡ w)) ↔ (Spells w line × (length w ≤ 64))
word-whole line w = (
  λ h. (subst (λ (v : List ℕ). Spells v line) h.1 (whole-line line h.0), omega (arith, (spelled_as line).few, ap length h.1)),
  λ h.
      let is = spelled-only line (ended w None (length line) 0) (record { before = line; rest = []; cut = sym (append-nil line); spells = h.0; few = h.1; place = refl; ends = (refl, refl) }) in
      (ap (λ (s : Spelled). s.ending) (sym is), ap (λ (s : Spelled). s.letters) (sym is)),
)

-- The letters are some of the alphabet, at most 64 of them;
pub letters_hold_lem : (line : List ℕ) → All Known (spelled line).letters
letters_hold_lem line = facts.spells-each Known (λ c h. (h, letter-most c)) (spelled_as line).spells

pub letters-few : (line : List ℕ) → length (spelled line).letters ≤ 64
letters-few line = (spelled_as line).few

-- so what a line is taken for, if it is not empty, is a word for a list.
pub whole-good : (line : List ℕ) → 0 < length line → (spelled line).ending ≡ None → good_word (spelled line).letters ≡ true
whole-good line h e =
    (word-is (spelled line).letters).1
    (facts.spells-some (whole-line line e) h, letters-few line, facts.spells-each ListedLetter (λ c p. (p, omega (arith, letter-most c))) (spelled_as line).spells)

-- The character at a fault stands inside the line.
pub fault-inside : (line : List ℕ) → (spelled line).at + (spelled line).size ≤ length line
fault-inside line =
    let A = spelled_as line in
    let l = ap length A.cut ∙ length-append A.before A.rest in
    omega (arith, A.place, facts.ends-inside (spelled line).ending (spelled line).letters A.rest (spelled line).size A.ends)

-- What the code leaves in an array of 64: the letters at the front.
told-letters : (e : Ending) (letters at size : ℕ) → letters_told (told_of e letters at size) ≡ letters
told-letters None letters at size = refl
told-letters (Some kind) letters at size = refl

pub word-front : (line : List ℕ) (r : Result ℕ Fault) (before after : List ℕ) → SpelledIs line r before after → length before ≡ 64
    → (take (letters_told r) after ≡ (spelled line).letters) × (length after ≡ 64)
word-front line r before after S h =
    let few = letters-few line in
    let is = ap letters_told S.told-is ∙ told-letters (spelled line).ending (length (spelled line).letters) (spelled line).at (spelled line).size in (
      ap (take (letters_told r)) (S.word-is ∙ sets-eq (spelled line).letters before 0 (omega arith)) ∙ take_at (spelled line).letters _ (letters_told r) (sym is),
      ap length S.word-is ∙ length-sets before 0 (spelled line).letters ∙ h,
    )

-- Where it tells so many letters, the line is a word of them; a fault is told as it is.
pub told-whole : (line : List ℕ) (letters : ℕ) (before after : List ℕ) → SpelledIs line (Ok letters) before after
    → ((spelled line).ending ≡ None) × (letters ≡ length (spelled line).letters)
told-whole line letters before after S = go (spelled line).ending S.told-is
  where
    go : (e : Ending) → Ok letters ≡ told_of e (length (spelled line).letters) (spelled line).at (spelled line).size → (e ≡ None) × (letters ≡ length (spelled line).letters)
    go None q = (refl, cc)
    go (Some kind) q = cc

pub told-fault : (line : List ℕ) (fault : Fault) (before after : List ℕ) → SpelledIs line (Err fault) before after
    → ((spelled line).ending ≡ Some fault.kind) × (fault.letters ≡ length (spelled line).letters) × (fault.at ≡ (spelled line).at) × (fault.size ≡ (spelled line).size)
told-fault line fault before after S = go (spelled line).ending S.told-is
  where
    go : (e : Ending) → Err fault ≡ told_of e (length (spelled line).letters) (spelled line).at (spelled line).size
        → (e ≡ Some fault.kind) × (fault.letters ≡ length (spelled line).letters) × (fault.at ≡ (spelled line).at) × (fault.size ≡ (spelled line).size)
    go None q = cc
    go (Some kind) q =
        let same : fault ≡ record { letters = length (spelled line).letters; kind = kind; at = (spelled line).at; size = (spelled line).size } = cc in
        (ap Some (sym (ap (λ (f : Fault). f.kind) same)), ap (λ (f : Fault). f.letters) same, ap (λ (f : Fault). f.at) same, ap (λ (f : Fault). f.size) same)
