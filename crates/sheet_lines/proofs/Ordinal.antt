-- "its ordinal (1 to 1,000) right-aligned in 5 columns": the columns say the number, and no others that are right-aligned do.
use Prim.Native.Nat.{ℕ, zero, suc, ◌+◌, ◌*◌, ◌-◌, ◌/◌, ◌%◌, ◌<◌, ◌≤◌}
use native.Mathlib.Omega.{arith}
use mathlib.Core.Path.{◌≡◌, refl, sym, ap, ap₂, subst, ◌∙◌}
use mathlib.Core.Bool.{Bool, true, false, cond}
use mathlib.Core.List.{List, [], ◌∷◌, ◌++◌, map, head-eq_of_cons-eq, tail-eq_of_cons-eq}
use lib.Dec.{ltb}
use lib.ListN.{length, replicate}
use borrow.Author.Tests.{ltb-true, ltb-false, le-ltb}
use Rattle.table_format.proofs.All.{All, all_append, all-mem, all_from}
use Rattle.sheet_lines.specs.Lines.{digit_at, ordinal_columns}
use Rattle.sheet_lines.specs.Laid.{IsDigit, Aligned, value_in, say_from, columns_say}
use Rattle.sheet_lines.proofs.Lists.{all_replicate, map_same}

-- What an ordinal's columns say.

digit_value : (n place : ℕ) → (n < place → n / place % 10 ≡ 0) → value_in (digit_at n place) ≡ n / place % 10
digit_value n place none = go (ltb n place) refl
  where
    go : (b : Bool) → ltb n place ≡ b → value_in (cond b 32 (48 + n / place % 10)) ≡ n / place % 10
    go true h = sym (none (ltb-true _ _ h))
    go false h = omega arith

-- one digit more
digit_more : (v m c : ℕ) → v ≡ m / 10 → c ≡ m % 10 → v * 10 + c ≡ m
digit_more v m c p q = omega arith

pub ordinal_says : (n : ℕ) → n < 100000 → columns_say (ordinal_columns n) ≡ n
ordinal_says n h = digit_more _ n _ (digit_more _ (n / 10) _ (digit_more _ (n / 100) _ (digit_more _ (n / 1000) _ top b ∙ hundreds) c ∙ tens) d) (omega arith)
  where
    top : 0 * 10 + value_in (digit_at n 10000) ≡ n / 1000 / 10
    top = omega (arith, digit_value n 10000 (λ l. omega arith))

    hundreds : n / 1000 ≡ n / 100 / 10
    hundreds = omega arith

    tens : n / 100 ≡ n / 10 / 10
    tens = omega arith

    b : value_in (digit_at n 1000) ≡ n / 1000 % 10
    b = digit_value n 1000 (λ l. omega arith)

    c : value_in (digit_at n 100) ≡ n / 100 % 10
    c = digit_value n 100 (λ l. omega arith)

    d : value_in (digit_at n 10) ≡ n / 10 % 10
    d = digit_value n 10 (λ l. omega arith)

-- They are right-aligned.

-- a column before others: a blank where the number is smaller than its place, else the first digit
column_aligned : (n place : ℕ) (cs : List ℕ) → (n < place → Aligned cs) → (place ≤ n → (49 ≤ 48 + n / place % 10) × All IsDigit cs) → Aligned (digit_at n place ∷ cs)
column_aligned n place cs below above = go (ltb n place) refl
  where
    go : (b : Bool) → ltb n place ≡ b → Aligned (cond b 32 (48 + n / place % 10) ∷ cs)
    go true h =
        let a = below (ltb-true _ _ h) in
        record { blanks = suc a.blanks; first = a.first; others = a.others; is = ap (λ (l : List ℕ). 32 ∷ l) a.is; leads = a.leads; digits = a.digits }
    go false h =
        let a = above (ltb-false _ _ h) in
        record { blanks = 0; first = 48 + n / place % 10; others = cs; is = refl; leads = (a.0, omega arith); digits = all-mem IsDigit cs a.1 }

digit_is : (n place : ℕ) → place ≤ n → IsDigit (digit_at n place)
digit_is n place h = subst (λ (b : Bool). IsDigit (cond b 32 (48 + n / place % 10))) (sym (le-ltb n place h)) (omega arith)

pub ordinal_aligned : (n : ℕ) → 0 < n → n < 100000 → Aligned (ordinal_columns n)
ordinal_aligned n p h =
    column_aligned n 10000 _
    (λ l₁. column_aligned n 1000 _
    (λ l₂. column_aligned n 100 _
    (λ l₃. column_aligned n 10 _
    (λ l₄. record { blanks = 0; first = 48 + n % 10; others = []; is = refl; leads = (omega arith, omega arith); digits = all-mem IsDigit [] tt })
    (λ g. (omega arith, (last, tt))))
    (λ g. (omega arith, (digit_is n 10 (omega arith), (last, tt)))))
    (λ g. (omega arith, (digit_is n 100 (omega arith), (digit_is n 10 (omega arith), (last, tt))))))
    (λ g. (omega arith, (digit_is n 1000 (omega arith), (digit_is n 100 (omega arith), (digit_is n 10 (omega arith), (last, tt))))))
  where
    last : IsDigit (48 + n % 10)
    last = (omega arith, omega arith)

-- Columns that are right-aligned are told by what they say, where there are as many.

abbrev Small : ℕ → Type 0
Small c = c ≤ 57

say_same : (xs ys : List ℕ) (v w : ℕ) → length xs ≡ length ys → All Small xs → All Small ys → say_from v xs ≡ say_from w ys → (v ≡ w) × (map value_in xs ≡ map value_in ys)
say_same [] [] v w l h k e = (e, refl)
say_same [] (y ∷ ys) v w l h k e = absurd (omega arith)
say_same (x ∷ xs) [] v w l h k e = absurd (omega arith)
say_same (x ∷ xs) (y ∷ ys) v w l h k e =
    let a : x ≤ 57 = h.0 in
    let b : y ≤ 57 = k.0 in
    let r = say_same xs ys (v * 10 + value_in x) (w * 10 + value_in y) (omega arith) h.1 k.1 e in
    let s : v * 10 + (x - 48) ≡ w * 10 + (y - 48) = r.0 in
    let t : x - 48 ≡ y - 48 = omega arith in
    (omega arith, ap₂ (λ (z : ℕ) (zs : List ℕ). z ∷ zs) t r.1)

digits-small : (cs : List ℕ) → All IsDigit cs → All Small cs
digits-small [] h = tt
digits-small (c ∷ cs) h = (h.0.1, digits-small cs h.1)

aligned-small : (cs : List ℕ) → Aligned cs → All Small cs
aligned-small cs a =
    subst (All Small) (sym a.is) (all_append Small (replicate a.blanks 32) _ (all_replicate Small a.blanks 32 (omega arith)) (a.leads.1, digits-small a.others (all_from IsDigit a.others a.digits)))

-- where columns say the same one by one, as many are blanks, as the first digit is not 0
blanks-same : (j k x y : ℕ) (xs ys : List ℕ) → 49 ≤ x → 49 ≤ y → All IsDigit xs → All IsDigit ys
    → map value_in (replicate j 32 ++ (x ∷ xs)) ≡ map value_in (replicate k 32 ++ (y ∷ ys)) → replicate j 32 ++ (x ∷ xs) ≡ replicate k 32 ++ (y ∷ ys)
blanks-same zero zero x y xs ys p q h k e =
    let first : x - 48 ≡ y - 48 = head-eq_of_cons-eq e in
    let same : x ≡ y = omega arith in
    ap₂ (λ (z : ℕ) (zs : List ℕ). z ∷ zs) same (map_same IsDigit value_in (λ a b c d f. omega arith) xs ys h k (tail-eq_of_cons-eq e))
blanks-same zero (suc k) x y xs ys p q h d e = let z : x - 48 ≡ 0 = head-eq_of_cons-eq e in absurd (omega arith)
blanks-same (suc j) zero x y xs ys p q h d e = let z : 0 ≡ y - 48 = head-eq_of_cons-eq e in absurd (omega arith)
blanks-same (suc j) (suc k) x y xs ys p q h d e = ap (λ (l : List ℕ). 32 ∷ l) (blanks-same j k x y xs ys p q h d (tail-eq_of_cons-eq e))

aligned-same : (cs ds : List ℕ) → Aligned cs → Aligned ds → length cs ≡ length ds → columns_say cs ≡ columns_say ds → cs ≡ ds
aligned-same cs ds a b l e =
    let values = (say_same cs ds 0 0 l (aligned-small cs a) (aligned-small ds b) e).1 in
    a.is
    ∙ blanks-same a.blanks b.blanks a.first b.first a.others b.others a.leads.0 b.leads.0 (all_from IsDigit a.others a.digits) (all_from IsDigit b.others b.digits)
    (ap (map value_in) (sym a.is) ∙ values ∙ ap (map value_in) b.is)
    ∙ sym b.is

-- five of them say 1 to 99,999
say_some : (v : ℕ) (cs : List ℕ) → 0 < v → 0 < say_from v cs
say_some v [] h = h
say_some v (c ∷ cs) h = say_some (v * 10 + value_in c) cs (omega arith)

blanks-some : (k x : ℕ) (xs : List ℕ) → 49 ≤ x → 0 < columns_say (replicate k 32 ++ (x ∷ xs))
blanks-some zero x xs h = say_some (0 * 10 + value_in x) xs (omega arith)
blanks-some (suc k) x xs h = blanks-some k x xs h

abbrev tens : ℕ → ℕ → ℕ
tens k zero = k
tens k (suc n) = tens (k * 10) n

say_most : (v k : ℕ) (cs : List ℕ) → All Small cs → v < k → say_from v cs < tens k (length cs)
say_most v k [] s h = h
say_most v k (c ∷ cs) s h = let m : c ≤ 57 = s.0 in say_most (v * 10 + value_in c) (k * 10) cs s.1 (omega arith)

pub aligned_range : (cs : List ℕ) → length cs ≡ 5 → Aligned cs → (0 < columns_say cs) × (columns_say cs < 100000)
aligned_range cs five a = (
  subst (λ (l : List ℕ). 0 < columns_say l) (sym a.is) (blanks-some a.blanks a.first a.others a.leads.0),
  subst (λ (k : ℕ). columns_say cs < tens 1 k) five (say_most 0 1 cs (aligned-small cs a) (omega arith)),
)

pub aligned-only : (cs : List ℕ) (n : ℕ) → length cs ≡ 5 → Aligned cs → columns_say cs ≡ n → cs ≡ ordinal_columns n
aligned-only cs n five a e =
    let r = aligned_range cs five a in
    let p : 0 < n = omega arith in
    let h : n < 100000 = omega arith in
    aligned-same cs (ordinal_columns n) a (ordinal_aligned n p h) five (e ∙ sym (ordinal_says n h))
