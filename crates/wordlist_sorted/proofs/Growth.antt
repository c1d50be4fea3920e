-- A list with a word more has no fewer beginnings.
use Prim.Native.Nat.{suc, ◌+◌, ◌-◌, ◌≤◌}
use native.Mathlib.Omega.{arith}
use mathlib.Core.Path.{◌≡◌, refl, ap, ◌∙◌}
use mathlib.Core.Bool.{Bool, true, false, cond}
use mathlib.Core.List.{List, [], ◌∷◌}
use lib.Dec.{eqb}
use lib.ListN.{length, take, drop, length-append, length-drop}
use borrow.Author.Tests.{eqb-true, eqb-false}
use Rattle.lexicon.specs.Words.{Word, rises}
use Rattle.lexicon.specs.Beginnings.{fresh, fresh_after, beginnings}
use Rattle.lexicon.specs.Check.{common}
use Rattle.lexicon.proofs.Beginnings.{fresh-is}
use Rattle.lexicon.proofs.Checking.{longer-length}
use Rattle.lexicon.proofs.Comparing.{common-first, common-second}
use Rattle.wordlist_sorted.specs.Sorted.{inserted, sorted_onto}

-- a word adds a beginning for each letter past those that it has in common with the word before it
pub fresh-length : (p w : Word) → length (fresh [] p w) ≡ length w - common p w
fresh-length p w = ap length (fresh-is p w []) ∙ longer-length (drop (common p w) w) (take (common p w) w) ∙ length-drop (common p w) w

-- of what a word has in common with two others, the less is common to all three, and the more is no longer than the word
common-between : (v w u : Word) → common v w + common w u ≤ length w + common v u
common-between [] w u = omega (arith, common-first w u)
common-between (x ∷ v) [] u = omega arith
common-between (x ∷ v) (y ∷ w) [] = omega (arith, common-second (x ∷ v) (y ∷ w))
common-between (x ∷ v) (y ∷ w) (z ∷ u) = go (eqb x y) (eqb y z) (eqb x z) refl refl refl (common-between v w u)
  where
    go : (a b c : Bool) → eqb x y ≡ a → eqb y z ≡ b → eqb x z ≡ c → common v w + common w u ≤ length w + common v u
        → cond a (suc (common v w)) 0 + cond b (suc (common w u)) 0 ≤ suc (length w) + cond c (suc (common v u)) 0
    go true true true p q r G = omega arith
    go true true false p q r G = absurd (eqb-false x z r (eqb-true x y p ∙ eqb-true y z q))
    go true false c p q r G = omega (arith, common-second v w)
    go false true c p q r G = omega (arith, common-first w u)
    go false false c p q r G = omega arith

-- so what a word adds after another is no more than both add with a word between them
fresh-between : (v w u : Word) → length (fresh [] v u) ≤ length (fresh [] v w) + length (fresh [] w u)
fresh-between v w u =
    omega (arith, fresh-length v u, fresh-length v w, fresh-length w u, common-between v w u, common-second v w, common-second w u, common-second v u)

after_more : (w : Word) (ws : List Word) (p : Word) → length (fresh_after p ws) ≤ length (fresh_after p (inserted w ws))
unfolding inserted
after_more w [] p = omega arith
after_more w (v ∷ ws) p = go (rises v w) (rises w v) (after_more w ws v)
  where
    go : (a b : Bool) → length (fresh_after v ws) ≤ length (fresh_after v (inserted w ws))
        → length (fresh_after p (v ∷ ws)) ≤ length (fresh_after p (cond a (v ∷ inserted w ws) (cond b (w ∷ v ∷ ws) (v ∷ ws))))
    go true b G = omega (arith, length-append (fresh [] p v) (fresh_after v ws), length-append (fresh [] p v) (fresh_after v (inserted w ws)))
    go false true G =
        omega (
          arith,
          fresh-between p w v,
          length-append (fresh [] p v) (fresh_after v ws),
          length-append (fresh [] p w) (fresh_after w (v ∷ ws)),
          length-append (fresh [] w v) (fresh_after v ws),
        )
    go false false G = omega arith

pub inserted-more : (w : Word) (ws : List Word) → length (beginnings ws) ≤ length (beginnings (inserted w ws))
unfolding beginnings
inserted-more w ws = let G = after_more w ws [] in omega arith

-- the same word after word
pub onto-more : (vs ws : List Word) → length (beginnings ws) ≤ length (beginnings (sorted_onto ws vs))
onto-more [] ws = omega arith
onto-more (v ∷ vs) ws = omega (arith, inserted-more v ws, onto-more vs (inserted v ws))
