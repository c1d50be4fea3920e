-- The ways in which letters go on or end at a character.
use Prim.Native.Nat.{ℕ, zero, suc, ◌+◌, ◌<◌, ◌≤◌}
use native.Mathlib.Omega.{arith}
use mathlib.Core.Path.{◌≡◌, refl, ap, ◌∙◌}
use mathlib.Core.Bool.{Bool, cond}
use mathlib.Core.List.{List, [], ◌∷◌, ◌++◌}
use lib.Dec.{eqb, leb}
use lib.ListN.{length, drop}
use borrow.Author.Tests.{eq-eqb, ne_eqb, le-leb, lt-leb}
use Rattle.utf8.specs.declared.Character.{Character}
use Rattle.std.specs.Prelude.{Option, Some, None}
use Rattle.utf8.specs.Utf8.{scalar, character_in}
use Rattle.alphabet.specs.Letters.{letter_of}
use Rattle.wordlist_spelling.specs.declared.FaultKind.TheVariants.{NoLetter, TooLong}
use Rattle.wordlist_spelling.specs.Spelled.{most_letters, Spelled, ended, by_character, spelled_from}

pub turn_end : (f : ℕ) (w : List ℕ) (at : ℕ) → spelled_from f w at [] ≡ ended w None at 0
unfolding spelled_from
turn_end zero w at = refl
turn_end (suc f) w at = refl

module _ (f : ℕ) (w : List ℕ) (at : ℕ) (bytes : List ℕ) (some : 0 < length bytes) where
  abbrev more : ℕ → ℕ → Spelled
  more x size = spelled_from f (w ++ (x ∷ [])) (at + size) (drop size bytes)

  turn : spelled_from (suc f) w at bytes ≡ by_character (character_in bytes) w at more
  unfolding spelled_from
  turn = go bytes some
    where
      go : (l : List ℕ) → 0 < length l
          → spelled_from (suc f) w at l ≡ by_character (character_in l) w at (λ x size. spelled_from f (w ++ (x ∷ [])) (at + size) (drop size l))
      go [] h = absurd (omega arith)
      go (b ∷ l) h = refl

  pub turn-broken : character_in bytes ≡ None → spelled_from (suc f) w at bytes ≡ ended w (Some NoLetter) at 1
  turn-broken e = turn ∙ ap (λ (x : Option Character). by_character x w at more) e

  module _ (c size : ℕ) (e : character_in bytes ≡ scalar c size) where
    by : (a b : Bool) → eqb (letter_of c) 0 ≡ a → leb most_letters (length w) ≡ b
        → spelled_from (suc f) w at bytes ≡ cond a (ended w (Some NoLetter) at size) (cond b (ended w (Some TooLong) at size) (more (letter_of c) size))
    by a b p q =
        turn
        ∙ ap (λ (x : Option Character). by_character x w at more) e
        ∙ ap (λ (a : Bool). cond a (ended w (Some NoLetter) at size) (cond (leb most_letters (length w)) (ended w (Some TooLong) at size) (more (letter_of c) size))) p
        ∙ ap (λ (b : Bool). cond a (ended w (Some NoLetter) at size) (cond b (ended w (Some TooLong) at size) (more (letter_of c) size))) q

    pub turn-other : letter_of c ≡ 0 → spelled_from (suc f) w at bytes ≡ ended w (Some NoLetter) at size
    turn-other h = by _ _ (eq-eqb (letter_of c) 0 h) refl

    pub turn-long : 0 < letter_of c → most_letters ≤ length w → spelled_from (suc f) w at bytes ≡ ended w (Some TooLong) at size
    turn-long h m = by _ _ (ne_eqb (letter_of c) 0 (λ z. omega arith)) (le-leb most_letters (length w) m)

    pub turn-letter : 0 < letter_of c → length w < most_letters → spelled_from (suc f) w at bytes ≡ spelled_from f (w ++ (letter_of c ∷ [])) (at + size) (drop size bytes)
    turn-letter h m = by _ _ (ne_eqb (letter_of c) 0 (λ z. omega arith)) (lt-leb most_letters (length w) m)
