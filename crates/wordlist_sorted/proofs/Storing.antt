-- A word stored in its place, and the bytes from there on behind it.
use Prim.Native.Nat.{ℕ, ◌+◌, ◌-◌, ◌≤◌}
use native.Mathlib.Omega.{arith}
use native.Mathlib.Numerals.{add-one}
use mathlib.Core.Path.{◌≡◌, refl, sym, ap, ap₂, subst, ◌∙◌}
use mathlib.Core.List.{List, ◌∷◌, ◌++◌, append_assoc}
use lib.ListN.{length, take, drop, set, length-append}
use Rattle.std.specs.List.{copy_within}
use Rattle.std.proofs.lemmas.List.{take-append-le}
use Rattle.std.proofs.Common.{take-take, length-take-le}
use lib.Seq.{sets, sets-eq, drop-drop, drop-append-add, take_at, drop_at}
use Rattle.lexicon.specs.Words.{Word}
use Rattle.lexicon.specs.Lexicon.{spelled}
use Rattle.std.specs.Prelude.{Option, Some, None}
use Rattle.wordlist_sorted.specs.Sorted.{inserted}
use Rattle.wordlist_sorted.specs.Placed.{Holds, Cut, PlaceIs}
use Rattle.wordlist_sorted.proofs.Kept.{spelled-append}

-- Words at the front of bytes.

module _ (ws : List Word) (before l : List ℕ) (H : Holds ws before l) where
  words-taken : take (length (spelled ws)) l ≡ spelled ws
  words-taken = ap (take (length (spelled ws))) H ∙ take_at (spelled ws) _ (length (spelled ws)) refl

  -- the bytes behind them are as they were
  behind-same : (k : ℕ) → drop (length (spelled ws) + k) l ≡ drop (length (spelled ws) + k) before
  behind-same k = ap (drop (length (spelled ws) + k)) H ∙ drop-append-add (spelled ws) (drop (length (spelled ws)) before) k ∙ drop-drop k (length (spelled ws)) before

  module _ (w : Word) (at : ℕ) (C : Cut ws at) where
    abbrev first : List Word
    first = C.first

    abbrev others : List Word
    others = C.others

    sizes : length (spelled ws) ≡ at + length (spelled others)
    sizes = ap length (ap spelled C.is ∙ spelled-append first others) ∙ length-append (spelled first) (spelled others) ∙ omega (arith, C.size)

    front : l ≡ spelled first ++ (spelled others ++ drop (length (spelled ws)) before)
    front = H ∙ ap (λ (b : List ℕ). b ++ drop (length (spelled ws)) before) (ap spelled C.is ∙ spelled-append first others) ∙ append_assoc (spelled first) (spelled others) _

    cut-within : at ≤ length (spelled ws)
    cut-within = omega (arith, sizes)

    from-there : take (length (spelled ws) - at) (drop at l) ≡ spelled others
    from-there =
        ap (λ (b : List ℕ). take (length (spelled ws) - at) (drop at b)) front
        ∙ ap (take (length (spelled ws) - at)) (drop_at (spelled first) _ at (sym C.size))
        ∙ take_at (spelled others) _ (length (spelled ws) - at) (omega (arith, sizes))

    abbrev bytes : List ℕ
    bytes = length w ∷ (w ++ spelled others)

    abbrev more : ℕ
    more = 1 + length w

    new-size : at + length bytes ≡ length (spelled ws) + more
    new-size = omega (arith, length-append w (spelled others), sizes)

    module _ (is : inserted w ws ≡ first ++ (w ∷ others)) where
      new-bytes : spelled (inserted w ws) ≡ spelled first ++ bytes
      new-bytes = ap spelled is ∙ spelled-append first (w ∷ others)

      new-length : length (spelled (inserted w ws)) ≡ length (spelled ws) + more
      new-length = ap length new-bytes ∙ length-append (spelled first) bytes ∙ omega (arith, C.size, new-size)

      stored : length (spelled ws) + more ≤ length l → Holds (inserted w ws) before (sets l at bytes)
      stored room =
          sets-eq bytes l at (omega (arith, new-size))
          ∙ ap₂ (λ (a b : List ℕ). (a ++ bytes) ++ b) (ap (take at) front ∙ take_at (spelled first) _ at (sym C.size))
          (ap (λ (n : ℕ). drop n l) new-size ∙ behind-same more ∙ ap (λ (n : ℕ). drop n before) (sym new-length))
          ∙ ap (λ (b : List ℕ). b ++ drop (length (spelled (inserted w ws))) before) (sym new-bytes)

-- bytes moved behind a gap, and a word stored in it
gap_filled : (w x l : List ℕ) (at end k : ℕ) → end ≡ at + 1 + length w → k ≡ length x → end + k ≤ length l → (a : List ℕ) → a ≡ (take end l ++ x) ++ drop (end + k) l
    → sets a at (length w ∷ w) ≡ sets l at (length w ∷ (w ++ x))
gap_filled w x l at end k e n room a is =
    let moved : a ≡ take end l ++ (x ++ drop (end + k) l) = is ∙ append_assoc (take end l) x (drop (end + k) l) in
    let size : length (take end l) ≡ end = length-take-le end l (omega arith) in
    let low : at ≤ length (take end l) = omega arith in
    let behind : at + length (length w ∷ w) ≡ end = omega arith in
    let all : at + length (length w ∷ (w ++ x)) ≡ end + k = omega (arith, length-append w x) in
    let fits : at + length (length w ∷ w) ≤ length a = omega (arith, ap length moved, length-append (take end l) (x ++ drop (end + k) l)) in
    sets-eq (length w ∷ w) a at fits
    ∙ ap₂ (λ (a b : List ℕ). (a ++ (length w ∷ w)) ++ b)
    (ap (take at) moved ∙ take-append-le at (take end l) _ low ∙ take-take at end l (omega arith))
    (ap₂ (λ (n : ℕ) (m : List ℕ). drop n m) behind moved ∙ drop_at (take end l) _ end size)
    ∙ sym (append_assoc (take at l ++ (length w ∷ w)) x (drop (end + k) l))
    ∙ ap (λ (a : List ℕ). a ++ drop (end + k) l) (append_assoc (take at l) (length w ∷ w) x)
    ∙ ap (λ (n : ℕ). (take at l ++ (length w ∷ (w ++ x))) ++ drop n l) (sym all)
    ∙ sym (sets-eq (length w ∷ (w ++ x)) l at (omega arith))

-- As the code finds the place of a word, and stores it there.

module _ (ws : List Word) (before l : List ℕ) (H : Holds ws before l) (used : ℕ) (u : used ≡ length (spelled ws)) where
  pub used_words : take used l ≡ spelled ws
  used_words = ap (λ (n : ℕ). take n l) u ∙ words-taken ws before l H

  pub used_within : used ≤ length l
  used_within = omega (arith, ap length H, length-append (spelled ws) (drop (length (spelled ws)) before))

  module _ (w : Word) (p : Option ℕ) (F : (vs : List Word) → take used l ≡ spelled vs → PlaceIs w vs p) where
    pub listed_kept : p ≡ None → (used ≡ length (spelled (inserted w ws))) × Holds (inserted w ws) before l
    listed_kept e =
        let is : inserted w ws ≡ ws = subst (PlaceIs w ws) e (F ws used_words) in
        (u ∙ ap (λ (vs : List Word). length (spelled vs)) (sym is), H ∙ ap (λ (vs : List Word). spelled vs ++ drop (length (spelled vs)) before) (sym is))

    module _ (at : ℕ) (e : p ≡ Some at) where
      there : PlaceIs w ws (Some at)
      there = subst (PlaceIs w ws) e (F ws used_words)

      pub place-within : at ≤ used
      place-within = omega (arith, cut-within ws before l H w at there.0)

      -- what stands from there on is moved behind the word's room, and then the word is stored
      pub word-stored : (a b : List ℕ) → used + 1 + length w ≤ length l
          → a ≡ copy_within l at used (at + 1 + length w) → b ≡ sets (set a at (length w)) (at + 1) w
          → (used + 1 + length w ≡ length (spelled (inserted w ws))) × Holds (inserted w ws) before b
      word-stored a b room f g =
          let C = there.0 in
          let is = there.1 in
          let others : take (used - at) (drop at l) ≡ spelled C.others = ap (λ (n : ℕ). take (n - at) (drop at l)) u ∙ from-there ws before l H w at C in
          let moved : a ≡ (take (at + 1 + length w) l ++ spelled C.others) ++ drop (at + 1 + length w + (used - at)) l =
          f ∙ ap (λ (x : List ℕ). (take (at + 1 + length w) l ++ x) ++ drop (at + 1 + length w + (used - at)) l) others in (
            omega (arith, new-length ws before l H w at C is),
            g
                ∙ ap (λ (i : ℕ). sets (set a at (length w)) i w) (add-one at)
                ∙ gap_filled w (spelled C.others) l at (at + 1 + length w) (used - at) refl (omega (arith, sizes ws before l H w at C)) (omega (arith, place-within)) a moved
                ∙ stored ws before l H w at C is (omega arith),
          )
