-- Laws of tests: a blank, a line that is passed over, the mark of UTF-8.
use Prim.Native.Nat.{ℕ}
use native.Mathlib.Omega.{arith}
use mathlib.Core.Path.{◌≡◌, refl, sym, ap, ap₂, ◌∙◌}
use mathlib.Core.Logic.{◌⊎◌, inl, inr}
use mathlib.Core.Bool.{Bool, true, false, cond, ◌&&◌, ◌||◌}
use mathlib.Core.List.{List, [], ◌∷◌}
use lib.Dec.{eqb}
use lib.ListN.{length, get_or, drop}
use borrow.Author.Tests.{eqb-true, eq-eqb, ne_eqb}
use Rattle.wordlist_lines.specs.Lines.{is_blank, passed_over, mark_size}

module _ (c : ℕ) where
  abbrev blank_by : Bool → Bool → Bool
  blank_by a b = a || (b || eqb c 13)

  pub blank-first : c ≡ 32 → true ≡ is_blank c
  blank-first e = ap (λ (a : Bool). blank_by a (eqb c 9)) (sym (eq-eqb c 32 e))

  pub blank-second : (c ≡ 32 → ⊥) → c ≡ 9 → true ≡ is_blank c
  blank-second n e = ap₂ blank_by (sym (ne_eqb c 32 n)) (sym (eq-eqb c 9 e))

  pub blank_third : (c ≡ 32 → ⊥) → (c ≡ 9 → ⊥) → eqb c 13 ≡ is_blank c
  blank_third n m = ap₂ blank_by (sym (ne_eqb c 32 n)) (sym (ne_eqb c 9 m))

  pub blank-is : is_blank c ≡ true → (c ≡ 32) ⊎ ((c ≡ 9) ⊎ (c ≡ 13))
  blank-is = go (eqb c 32) (eqb c 9) (eqb c 13) refl refl refl
    where
      go : (a b d : Bool) → eqb c 32 ≡ a → eqb c 9 ≡ b → eqb c 13 ≡ d → (a || (b || d)) ≡ true → (c ≡ 32) ⊎ ((c ≡ 9) ⊎ (c ≡ 13))
      go true b d x y z e = inl (eqb-true _ _ x)
      go false true d x y z e = inr (inl (eqb-true _ _ y))
      go false false true x y z e = inr (inr (eqb-true _ _ z))
      go false false false x y z e = let w : ◌≡◌ {A = ℕ} 0 1 = cc in absurd (omega arith)

pub passed-empty : (l : List ℕ) → length l ≡ 0 → true ≡ passed_over l
passed-empty [] e = refl
passed-empty (c ∷ l) e = absurd (omega arith)

pub passed-some : (l : List ℕ) → (length l ≡ 0 → ⊥) → eqb (get_or l 0 0) 35 ≡ passed_over l
passed-some [] n = absurd (n refl)
passed-some (c ∷ l) n = refl

pub passed_is : (l : List ℕ) → passed_over l ≡ true → (l ≡ []) ⊎ ((rest : List ℕ) × (l ≡ 35 ∷ rest))
passed_is [] e = inl refl
passed_is (c ∷ l) e = inr (l, ap (λ (d : ℕ). d ∷ l) (eqb-true c 35 e))

abbrev mark_by : Bool → Bool → Bool → ℕ
mark_by a b c = cond (a && (b && c)) 3 0

module _ (text : List ℕ) where
  pub marked : get_or text 0 0 ≡ 239 → get_or text 1 0 ≡ 187 → get_or text 2 0 ≡ 191 → 3 ≡ mark_size text
  marked e f g = rw (eq-eqb _ _ e, eq-eqb _ _ f, eq-eqb _ _ g)

  pub unmarked : (get_or text 0 0 ≡ 239 → get_or text 1 0 ≡ 187 → get_or text 2 0 ≡ 191 → ⊥) → 0 ≡ mark_size text
  unmarked none = go (eqb (get_or text 0 0) 239) (eqb (get_or text 1 0) 187) (eqb (get_or text 2 0) 191) refl refl refl
    where
      go : (a b c : Bool) → eqb (get_or text 0 0) 239 ≡ a → eqb (get_or text 1 0) 187 ≡ b → eqb (get_or text 2 0) 191 ≡ c → 0 ≡ mark_by a b c
      go true true true e f g = absurd (none (eqb-true _ _ e) (eqb-true _ _ f) (eqb-true _ _ g))
      go true true false e f g = refl
      go true false c e f g = refl
      go false b c e f g = refl

  pub mark_only : ((rest : List ℕ) → text ≡ 239 ∷ 187 ∷ 191 ∷ rest → ⊥) → mark_size text ≡ 0
  mark_only none = sym (unmarked (λ e f g. none (drop 3 text) (begins text e f g)))
    where
      begins : (l : List ℕ) → get_or l 0 0 ≡ 239 → get_or l 1 0 ≡ 187 → get_or l 2 0 ≡ 191 → l ≡ 239 ∷ 187 ∷ 191 ∷ drop 3 l
      begins [] e f g = absurd (omega arith)
      begins (a ∷ []) e f g = absurd (omega arith)
      begins (a ∷ b ∷ []) e f g = absurd (omega arith)
      begins (a ∷ b ∷ c ∷ l) e f g = ap₂ (λ (x y : ℕ). x ∷ y ∷ c ∷ l) e f ∙ ap (λ (z : ℕ). 239 ∷ 187 ∷ z ∷ l) g
