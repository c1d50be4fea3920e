-- So many parents up, and the states of one word, in a row.
use Prim.Native.Nat.{ℕ, zero, suc, ◌+◌, ◌-◌, ◌<◌}
use native.Mathlib.Omega.{arith}
use mathlib.Core.Path.{◌≡◌, refl, ap, ◌∙◌}
use mathlib.Core.Bool.{false}
use mathlib.Core.List.{List, [], ◌∷◌}
use lib.ListN.{length, get_or, drop}
use lib.Seq.{sets}
use Rattle.lexicon.specs.Lexicon.{most_states}
use Rattle.trie_states.specs.declared.tree.State.{State}
use Rattle.trie_states.specs.Tree.{state_at, parent_of, ancestor, states_below}

-- Parents up.

pub ancestor-more : (tree : List State) (s above k : ℕ) → k < above → ancestor tree s (above - k) ≡ ancestor tree (parent_of tree s) (above - (k + 1))
ancestor-more tree s above k h = let e : above - k ≡ suc (above - (k + 1)) = omega arith in ap (ancestor tree s) e

-- A word's states.

pub below-length : (w : List ℕ) (p s : ℕ) → length (states_below p s w) ≡ length w
below-length [] p s = refl
below-length (x ∷ w) p s = ap suc (below-length w s (suc s))

pub below-first : (w : List ℕ) (p s : ℕ) → 0 < length w → parent_of (states_below p s w) 0 ≡ p
below-first [] p s h = absurd (omega arith)
below-first (x ∷ w) p s h = refl

pub below-later : (w : List ℕ) (m p s : ℕ) → suc m < length w → parent_of (states_below p s w) (suc m) ≡ s + m
below-later [] m p s h = absurd (omega arith)
below-later (x ∷ w) zero p s h = below-first w s (suc s) (omega arith) ∙ omega arith
below-later (x ∷ w) (suc m) p s h = below-later w m s (suc s) (omega arith) ∙ omega arith

pub below-letter : (w : List ℕ) (m p s : ℕ) → (state_at (states_below p s w) m).letter ≡ get_or w m 0
below-letter [] m p s = refl
below-letter (x ∷ w) zero p s = refl
below-letter (x ∷ w) (suc m) p s = below-letter w m s (suc s)

pub below-end : (w : List ℕ) (m p s : ℕ) → (state_at (states_below p s w) m).is_end ≡ false
below-end [] m p s = refl
below-end (x ∷ w) zero p s = refl
below-end (x ∷ w) (suc m) p s = below-end w m s (suc s)

-- at a turn: the states to come, behind those that are there
pub record Adding (letters : List ℕ) (old : List State) (parent states : ℕ) (tree : List State) (above k : ℕ) : Type 0 where
  pub above_low : above < most_states
  pub stored : sets tree (states + k) (states_below above (states + k) (drop k letters)) ≡ sets old states (states_below parent states letters)
