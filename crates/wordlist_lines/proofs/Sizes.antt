-- The whole lines of a text, and its line feeds, are within its characters.
use Prim.Native.Nat.{ℕ, suc, ◌≤◌}
use native.Mathlib.Omega.{arith}
use mathlib.Core.Bool.{Bool, true, false, cond}
use mathlib.Core.List.{List, [], ◌∷◌}
use lib.ListN.{length}
use Rattle.wordlist_lines.specs.Lines.{is_feed, in_front, up_to_last, whole_lines, feeds}

last_within : (p : ℕ → Bool) (l : List ℕ) → length (up_to_last p l) ≤ length l
last_within p [] = omega arith
last_within p (c ∷ l) = go (up_to_last p l) (last_within p l)
  where
    alone : (b : Bool) → length (cond b (c ∷ []) []) ≤ suc (length l)
    alone true = omega arith
    alone false = omega arith

    go : (kept : List ℕ) → length kept ≤ length l → length (in_front p c kept) ≤ suc (length l)
    go [] h = alone (p c)
    go (d ∷ kept) h = omega arith

pub whole-within : (text : List ℕ) → whole_lines text ≤ length text
whole-within text = last_within is_feed text

pub feeds-within : (text : List ℕ) → feeds text ≤ length text
feeds-within [] = omega arith
feeds-within (c ∷ text) = go (is_feed c) (feeds-within text)
  where
    go : (b : Bool) → feeds text ≤ length text → cond b (suc (feeds text)) (feeds text) ≤ suc (length text)
    go true h = omega arith
    go false h = omega arith
