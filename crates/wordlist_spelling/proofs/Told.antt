-- The loop: the letters so far stand at the front of the word, and the bytes from a place on tell the rest.
use Prim.Native.Nat.{ℕ, suc, ◌+◌, ◌-◌, ◌<◌, ◌≤◌}
use native.Mathlib.Omega.{arith}
use mathlib.Core.Path.{◌≡◌, refl, sym, ap, ◌∙◌}
use mathlib.Core.List.{List, [], ◌∷◌, ◌++◌}
use lib.ListN.{length, take, drop, set, length-append, length-drop, drop_of_length-le}
use lib.Seq.{take_all, drop-drop, sets}
use Rattle.std.specs.Prelude.{Some, None, Result}
use Rattle.utf8.specs.Utf8.{scalar, character_in}
use Rattle.utf8.proofs.Headlines.{character_sizes}
use Rattle.alphabet.specs.Letters.{letter_of}
use Rattle.table_format.proofs.Stores.{sets-append}
use Rattle.wordlist_spelling.specs.declared.FaultKind.TheVariants.{NoLetter, TooLong}
use Rattle.wordlist_spelling.specs.declared.Fault.{Fault}
use Rattle.wordlist_spelling.specs.Spelled.{most_letters, Ending, Spelled, told_of, ended, spelled_from, spelled, SpelledIs}
use Rattle.wordlist_spelling.proofs.Turns.{turn_end, turn-broken, turn-other, turn-long, turn-letter}

-- the letters so far, w; each took a byte or more
pub record SoFar (line before word : List ℕ) (letters at : ℕ) : Type 0 where
  pub w : List ℕ
  pub count : length w ≡ letters
  pub few : letters ≤ most_letters
  pub passed : letters ≤ at
  pub within : at ≤ length line
  pub left : spelled line ≡ spelled_from (length line - letters) w at (drop at line)
  pub stored : word ≡ sets before 0 w

pub so_none : (line word : List ℕ) → SoFar line word word 0 0
unfolding spelled
so_none line word = record {
  w = [];
  count = refl;
  few = omega arith;
  passed = omega arith;
  within = omega arith;
  left = ap (λ (n : ℕ). spelled_from n [] 0 line) (omega arith);
  stored = refl;
}

module _ {line before word : List ℕ} {letters at : ℕ} (S : SoFar line before word letters at) where
  told : {r : Result ℕ Fault} (ending : Ending) (size : ℕ) → spelled line ≡ ended S.w ending at size → r ≡ told_of ending letters at size → SpelledIs line r before word
  told ending size e t = record {
    told-is =
        t
        ∙ ap (λ (n : ℕ). told_of ending n at size) (sym S.count)
        ∙ ap (λ (s : Spelled). told_of s.ending (length s.letters) s.at s.size) (sym e);
    word-is = S.stored ∙ ap (λ (s : Spelled). sets before 0 s.letters) (sym e);
  }

  pub told-whole : {r : Result ℕ Fault} → length line ≤ at → r ≡ told_of None letters at 0 → SpelledIs line r before word
  told-whole h =
      told None 0 (S.left ∙ ap (spelled_from (length line - letters) S.w at) (drop_of_length-le line h) ∙ turn_end (length line - letters) S.w at)

  module _ (h : at < length line) where
    abbrev fuel : ℕ
    fuel = length line - (letters + 1)

    abbrev here : List ℕ
    here = take (length line - at) (drop at line)

    all : here ≡ drop at line
    all = take_all (length line - at) (drop at line) (omega (arith, length-drop at line))

    count-here : length here ≡ length line - at
    count-here = ap length all ∙ length-drop at line

    left_here : spelled line ≡ spelled_from (suc fuel) S.w at here
    left_here =
        S.left
        ∙ ap (λ (n : ℕ). spelled_from n S.w at (drop at line)) (omega (arith, S.passed))
        ∙ ap (spelled_from (suc fuel) S.w at) (sym all)

    some : 0 < length here
    some = omega (arith, count-here)

    pub told-broken : {r : Result ℕ Fault} → character_in here ≡ None → r ≡ told_of (Some NoLetter) letters at 1 → SpelledIs line r before word
    told-broken e = told (Some NoLetter) 1 (left_here ∙ turn-broken fuel S.w at here some e)

    module _ (c size : ℕ) (e : character_in here ≡ scalar c size) where
      pub inside : (1 ≤ size) × (at + size ≤ length line)
      inside = let s = character_sizes here c size e in let l = count-here in (omega arith, omega arith)

      pub told-other : {r : Result ℕ Fault} → letter_of c ≡ 0 → r ≡ told_of (Some NoLetter) letters at size → SpelledIs line r before word
      told-other z = told (Some NoLetter) size (left_here ∙ turn-other fuel S.w at here some c size e z)

      pub told-long : {r : Result ℕ Fault} → 0 < letter_of c → letters ≡ most_letters → r ≡ told_of (Some TooLong) letters at size → SpelledIs line r before word
      told-long h m = told (Some TooLong) size (left_here ∙ turn-long fuel S.w at here some c size e h (omega (arith, S.count)))

      -- x is what the code takes for the letter
      module _ (x : ℕ) (is : x ≡ letter_of c) where
        pub so_more : 1 ≤ x → letters < most_letters → SoFar line before (set word letters x) (letters + 1) (at + size)
        so_more z m = record {
          w = S.w ++ (letter_of c ∷ []);
          count = length-append S.w (letter_of c ∷ []) ∙ omega (arith, S.count);
          few = omega arith;
          passed = omega (arith, S.passed, inside.0);
          within = inside.1;
          left =
              left_here
              ∙ turn-letter fuel S.w at here some c size e (omega arith) (omega (arith, S.count))
              ∙ ap (λ (l : List ℕ). spelled_from fuel (S.w ++ (letter_of c ∷ [])) (at + size) (drop size l)) all
              ∙ ap (spelled_from fuel (S.w ++ (letter_of c ∷ [])) (at + size)) (drop-drop size at line);
          stored =
              ap (λ (l : List ℕ). set l letters x) S.stored
              ∙ ap (λ (x : ℕ). set (sets before 0 S.w) letters x) is
              ∙ sets-append before 0 letters S.w (letter_of c ∷ []) (omega (arith, S.count));
        }
