-- Laws of the tests that go through a list with the elements before each.
use Prim.Native.Nat.{ℕ, zero, suc, ◌-◌, ◌<◌, ◌≤◌}
use native.Mathlib.Omega.{arith}
use mathlib.Core.Path.{◌≡◌, refl, sym, ap, ◌∙◌}
use mathlib.Core.Bool.{Bool, true, false, ◌&&◌, ◌||◌, and_assoc, or_assoc, and-true, false≢true}
use mathlib.Core.List.{List, [], ◌∷◌, ◌++◌, append_assoc, append-nil}
use lib.ListN.{length, get_or, take, drop, take-append-drop}
use lib.Seq.{take-suc, take_all, get_or-take, length-take-le}
use Rattle.table_format.proofs.Tests.{and_left, and_right, and_both, or_right}
use Rattle.table_format.specs.Rules.{any, last_is, each}

module _ {A : Type 0} where
  pub each_append : (test : List A → A → Bool) (before xs ys : List A) → each test before (xs ++ ys) ≡ (each test before xs && each test (before ++ xs) ys)
  unfolding each
  each_append test before [] ys = ap (λ (b : List A). each test b ys) (sym (append-nil before))
  each_append test before (x ∷ xs) ys =
      ap (λ (b : Bool). test before x && b)
      (each_append test (before ++ (x ∷ [])) xs ys
      ∙ ap (λ (b : List A). each test (before ++ (x ∷ [])) xs && each test b ys) (append_assoc before (x ∷ []) xs))
      ∙ sym (and_assoc (test before x) (each test (before ++ (x ∷ [])) xs) (each test (before ++ (x ∷ xs)) ys))

  pub each-one : (test : List A → A → Bool) (before : List A) (x : A) → each test before (x ∷ []) ≡ test before x
  unfolding each
  each-one test before x = and-true (test before x)

  -- one element more
  pub each_snoc : (test : List A → A → Bool) (xs : List A) (x : A) → each test [] (xs ++ (x ∷ [])) ≡ (each test [] xs && test xs x)
  each_snoc test xs x = each_append test [] xs (x ∷ []) ∙ ap (λ (b : Bool). each test [] xs && b) (each-one test xs x)

  pub any_append : (test : A → Bool) (xs ys : List A) → any test (xs ++ ys) ≡ (any test xs || any test ys)
  any_append test [] ys = refl
  any_append test (x ∷ xs) ys = ap (λ (b : Bool). test x || b) (any_append test xs ys) ∙ sym (or_assoc (test x) (any test xs) (any test ys))

  pub last_snoc : (test : A → Bool) (xs : List A) (x : A) → last_is test (xs ++ (x ∷ [])) ≡ test x
  last_snoc test [] x = refl
  last_snoc test (y ∷ []) x = refl
  last_snoc test (y ∷ z ∷ zs) x = last_snoc test (z ∷ zs) x

  -- by their places

  pub any_none : (test : A → Bool) (d : A) (xs : List A) → ((k : ℕ) → k < length xs → test (get_or xs k d) ≡ false) → any test xs ≡ false
  any_none test d [] f = refl
  any_none test d (x ∷ xs) f = ap (λ (b : Bool). b || any test xs) (f 0 (omega arith)) ∙ any_none test d xs (λ k h. f (suc k) (omega arith))

  pub any_some : (test : A → Bool) (d : A) (xs : List A) (k : ℕ) → k < length xs → test (get_or xs k d) ≡ true → any test xs ≡ true
  any_some test d [] k h e = absurd (omega arith)
  any_some test d (x ∷ xs) zero h e = ap (λ (b : Bool). b || any test xs) e
  any_some test d (x ∷ xs) (suc k) h e = or_right (test x) (any test xs) (any_some test d xs k (omega arith) e)

  pub last-at : (test : A → Bool) (d : A) (xs : List A) → 0 < length xs → last_is test xs ≡ test (get_or xs (length xs - 1) d)
  last-at test d [] h = absurd (omega arith)
  last-at test d (x ∷ []) h = refl
  last-at test d (x ∷ y ∷ ys) h =
      last-at test d (y ∷ ys) (omega arith)
      ∙ ap (λ (n : ℕ). test (get_or (x ∷ y ∷ ys) n d)) {x = suc (length (y ∷ ys) - 1)} {y = length (x ∷ y ∷ ys) - 1} (omega arith)

  -- the last element of the first ones
  pub last-take : (test : A → Bool) (d : A) (xs : List A) (k : ℕ) → k < length xs → last_is test (take (suc k) xs) ≡ test (get_or xs k d)
  last-take test d xs k h =
      last-at test d (take (suc k) xs) (omega (arith, length-take-le (suc k) xs (omega arith)))
      ∙ ap (λ (n : ℕ). test (get_or (take (suc k) xs) n d)) {x = length (take (suc k) xs) - 1} {y = k} (omega (arith, length-take-le (suc k) xs (omega arith)))
      ∙ ap test (get_or-take (suc k) xs k d (omega arith))

  pub last_none : (test : A → Bool) (xs : List A) → length xs ≡ 0 → last_is test xs ≡ true
  last_none test [] h = refl
  last_none test (x ∷ xs) h = absurd (omega arith)

  -- what each element passes, the element at k passes
  pub each_at : (test : List A → A → Bool) (d : A) (xs : List A) → each test [] xs ≡ true → (k : ℕ) → k < length xs → test (take k xs) (get_or xs k d) ≡ true
  each_at test d xs e k h =
      and_right (each test [] (take k xs)) (test (take k xs) (get_or xs k d))
      (sym split_one ∙ and_left (each test [] (take (suc k) xs)) (each test (take (suc k) xs) (drop (suc k) xs)) (sym whole ∙ e))
    where
      split_one : each test [] (take (suc k) xs) ≡ (each test [] (take k xs) && test (take k xs) (get_or xs k d))
      split_one = ap (each test []) (take-suc xs k d h) ∙ each_snoc test (take k xs) (get_or xs k d)

      whole : each test [] xs ≡ (each test [] (take (suc k) xs) && each test (take (suc k) xs) (drop (suc k) xs))
      whole = ap (each test []) (sym (take-append-drop (suc k) xs)) ∙ each_append test [] (take (suc k) xs) (drop (suc k) xs)

  -- what each element passes with the one before it
  pub each_last : (test : A → A → Bool) (d : A) (xs : List A) → each (λ before x. last_is (λ y. test y x) before) [] xs ≡ true → (j : ℕ) → suc j < length xs
      → test (get_or xs j d) (get_or xs (suc j) d) ≡ true
  each_last test d xs e j h =
      sym (last-take (λ y. test y (get_or xs (suc j) d)) d xs j (omega arith)) ∙ each_at (λ before x. last_is (λ y. test y x) before) d xs e (suc j) h

  -- along the places of a list: one element more, the first that fails, all

  pub each_more : (test : List A → A → Bool) (d : A) (xs : List A) (k : ℕ) → k < length xs → each test [] (take k xs) ≡ true → test (take k xs) (get_or xs k d) ≡ true
      → each test [] (take (suc k) xs) ≡ true
  each_more test d xs k h e f = ap (each test []) (take-suc xs k d h) ∙ each_snoc test (take k xs) (get_or xs k d) ∙ and_both e f

  pub each-fails : (test : List A → A → Bool) (d : A) (xs : List A) (k : ℕ) → k < length xs → test (take k xs) (get_or xs k d) ≡ false → each test [] xs ≡ false
  each-fails test d xs k h f = go (each test [] xs) refl
    where
      go : (b : Bool) → each test [] xs ≡ b → each test [] xs ≡ false
      go true e = absurd (false≢true (sym f ∙ each_at test d xs e k h))
      go false e = e

  pub each-done : (test : List A → A → Bool) (xs : List A) (k : ℕ) → length xs ≤ k → each test [] (take k xs) ≡ true → each test [] xs ≡ true
  each-done test xs k h e = sym (ap (each test []) (take_all k xs h)) ∙ e

  -- each element passes, where each place's element does
  pub each_from : (test : List A → A → Bool) (d : A) (xs : List A) → ((k : ℕ) → k < length xs → test (take k xs) (get_or xs k d) ≡ true) → each test [] xs ≡ true
  unfolding each
  each_from test d xs f = each-done test xs (length xs) (omega arith) (go (length xs) (omega arith))
    where
      go : (k : ℕ) → k ≤ length xs → each test [] (take k xs) ≡ true
      go zero h = refl
      go (suc k) h = each_more test d xs k (omega arith) (go k (omega arith)) (f k (omega arith))

  -- a weaker test
  pub each_weaken : (test weak : List A → A → Bool) → ((before : List A) (x : A) → test before x ≡ true → weak before x ≡ true) → (before xs : List A)
      → each test before xs ≡ true → each weak before xs ≡ true
  unfolding each
  each_weaken test weak f before [] e = refl
  each_weaken test weak f before (x ∷ xs) e =
      and_both (f before x (and_left (test before x) (each test (before ++ (x ∷ [])) xs) e))
      (each_weaken test weak f (before ++ (x ∷ [])) xs (and_right (test before x) (each test (before ++ (x ∷ [])) xs) e))
