-- Terminal states that rise: they keep the rules where the last one is a state.
use Prim.Native.Nat.{ℕ, zero, suc, ◌+◌, ◌-◌, ◌<◌, ◌≤◌}
use native.Mathlib.Omega.{arith}
use native.Mathlib.Numerals.{add-one}
use mathlib.Core.Path.{◌≡◌, refl, sym, ap, ◌∙◌}
use mathlib.Core.Bool.{Bool, true, false, ◌&&◌, false≢true}
use mathlib.Core.List.{List, [], ◌∷◌}
use lib.Dec.{ltb}
use lib.ListN.{length, get_or, take}
use lib.Seq.{take-suc}
use borrow.Author.Tests.{ltb-true, lt-ltb}
use Rattle.std.specs.Prelude.{Some, None, slice_get}
use Rattle.std.proofs.lemmas.Option.{slice_get_within, get_or_from_slice_get, slice_get-get_or}
use Rattle.table_format.specs.Rules.{each, state_holds, terminal_rises, terminals_keep}
use Rattle.table_format.proofs.Tests.{and_right, and_both}
use Rattle.table_format.proofs.Rules.{terminal_passes, terminal-clear}
use Rattle.table_format.proofs.Each.{each_snoc, each_at, each_more, each-fails, each-done, each_weaken, last-take, each_last}
use Rattle.table_format.proofs.Arcs.{at_equal}

abbrev pub terminals_rise : List ℕ → Bool
terminals_rise = each terminal_rises []

pub rise_one : (list : List ℕ) → terminals_rise (take 1 list) ≡ true
unfolding each
rise_one [] = refl
rise_one (x ∷ xs) = refl

pub keeps-none : (list : List ℕ) (n : ℕ) → None ≡ slice_get list (length list - 1) → terminals_keep n list ≡ true
unfolding each
keeps-none [] n e = refl
keeps-none (x ∷ xs) n e = let s = slice_get-get_or (x ∷ xs) (length (x ∷ xs) - 1) 0 (omega arith) in cc

module _ (list : List ℕ) where
  -- one state more
  pub rise-turn : (k : ℕ) → 1 ≤ k → k < length list → terminals_rise (take (k + 1) list) ≡ (terminals_rise (take k list) && ltb (get_or list (k - 1) 0) (get_or list k 0))
  rise-turn k h g =
      ap terminals_rise (ap (λ (n : ℕ). take n list) (add-one k) ∙ take-suc list k 0 g) ∙ each_snoc terminal_rises (take k list) (get_or list k 0)
      ∙ ap (λ (b : Bool). terminals_rise (take k list) && b)
      (at_equal (λ n. terminal_rises (take n list) (get_or list k 0)) k (suc (k - 1)) (omega arith) ∙ last-take (λ r. ltb r (get_or list k 0)) 0 list (k - 1) (omega arith))

  module _ (n : ℕ) where
    pub fall_breaks : terminals_rise list ≡ false → terminals_keep n list ≡ false
    fall_breaks f = go (terminals_keep n list) refl
      where
        go : (b : Bool) → terminals_keep n list ≡ b → b ≡ false
        go true e =
            absurd (false≢true (sym f ∙ each_weaken (terminal_passes n) terminal_rises (λ before s k. and_right (state_holds n s) (terminal_rises before s) (sym (terminal-clear n before s) ∙ k)) [] list e))
        go false e = refl

    module _ (R : terminals_rise list ≡ true) where
      passes : (k : ℕ) → k < length list → get_or list k 0 < n → terminal_passes n (take k list) (get_or list k 0) ≡ true
      passes k h g = terminal-clear n (take k list) (get_or list k 0) ∙ and_both (lt-ltb _ _ g) (each_at terminal_rises 0 list R k h)

      -- those up to a state keep the rules
      up_to : (k : ℕ) → k < length list → get_or list k 0 < n → terminals_keep n (take (suc k) list) ≡ true
      unfolding each
      up_to zero h g = each_more (terminal_passes n) 0 list 0 h refl (passes 0 h g)
      up_to (suc k) h g =
          each_more (terminal_passes n) 0 list (suc k) h
          (up_to k (omega arith) (omega (arith, ltb-true (get_or list k 0) (get_or list (suc k) 0) (each_last ltb 0 list R k h)))) (passes (suc k) h g)

      by_last : length list - 1 < length list → terminals_keep n list ≡ ltb (get_or list (length list - 1) 0) n
      by_last h = go (ltb (get_or list (length list - 1) 0) n) refl
        where
          go : (b : Bool) → ltb (get_or list (length list - 1) 0) n ≡ b → terminals_keep n list ≡ b
          go true e = each-done (terminal_passes n) list (suc (length list - 1)) (omega arith) (up_to (length list - 1) (omega arith) (ltb-true _ _ e))
          go false e =
              each-fails (terminal_passes n) 0 list (length list - 1) (omega arith)
              (terminal-clear n (take (length list - 1) list) (get_or list (length list - 1) 0)
              ∙ ap (λ (b : Bool). b && terminal_rises (take (length list - 1) list) (get_or list (length list - 1) 0)) e)

      pub rise-keeps : (last : ℕ) → Some last ≡ slice_get list (length list - 1) → ltb last n ≡ terminals_keep n list
      rise-keeps last is = ap (λ (s : ℕ). ltb s n) (sym (get_or_from_slice_get list (length list - 1) last 0 (sym is))) ∙ sym (by_last (slice_get_within list (length list - 1) last (sym is)))
