-- The lines that hold a word: each with its place among all, and in order.
use Prim.Native.Nat.{ℕ, suc, ◌+◌}
use native.Mathlib.Omega.{arith}
use mathlib.Core.Path.{◌≡◌, refl, sym, ap, ap₂, subst}
use mathlib.Core.Logic.{⊎_elim}
use mathlib.Core.Bool.{Bool, true, false, cond}
use mathlib.Core.List.Memᴰ
use mathlib.Core.List.{List, [], ◌∷◌, ◌++◌, Memᴰ}
use lib.ListN.{length}
use Rattle.wordlist_lines.specs.Lines.{Line, trimmed, passed_over, held_from}
use Rattle.wordlist_lines.specs.Facts.{HeldIn, Rising}

abbrev line_with : ℕ → List ℕ → Line
line_with n t = record { number = n; text = t }

-- the lines from one on, by whether it is passed over
abbrev held_by : ℕ → List ℕ → List (List ℕ) → Bool → List Line
held_by n l ls b = cond b (held_from (suc n) ls) (line_with n (trimmed l) ∷ held_from (suc n) ls)

held-later : (n : ℕ) (l : List ℕ) (ls : List (List ℕ)) (x : Line) → HeldIn (suc n) ls x → HeldIn n (l ∷ ls) x
held-later n l ls x H = record {
  before = l ∷ H.before;
  line = H.line;
  after = H.after;
  is = ap (λ (t : List (List ℕ)). l ∷ t) H.is;
  number_is = omega (arith, H.number_is);
  text-is = H.text-is;
  holds = H.holds;
}

pub held-numbers : (n : ℕ) (ls : List (List ℕ)) (x : Line) → Memᴰ x (held_from n ls) → HeldIn n ls x
held-numbers n [] x m = absurd (Memᴰ.not-nil m)
held-numbers n (l ∷ ls) x m = go (passed_over (trimmed l)) refl m (held-numbers (suc n) ls x)
  where
    go : (b : Bool) → passed_over (trimmed l) ≡ b → Memᴰ x (held_by n l ls b) → (Memᴰ x (held_from (suc n) ls) → HeldIn (suc n) ls x) → HeldIn n (l ∷ ls) x
    go true b m later = held-later n l ls x (later m)
    go false b m later =
        ⊎_elim
        (λ e. record {
          before = [];
          line = l;
          after = ls;
          is = refl;
          number_is = omega (arith, ap (λ (y : Line). y.number) e);
          text-is = ap (λ (y : Line). y.text) e;
          holds = b;
        })
        (λ k. held-later n l ls x (later k))
        (Memᴰ.cases_cons m)

held_at : (n : ℕ) (before : List (List ℕ)) (line : List ℕ) (after : List (List ℕ)) → passed_over (trimmed line) ≡ false
    → Memᴰ (line_with (n + length before) (trimmed line)) (held_from n (before ++ (line ∷ after)))
held_at n [] line after e =
    subst (λ (b : Bool). Memᴰ (line_with (n + 0) (trimmed line)) (held_by n line after b)) (sym e)
    (Memᴰ.head (let z : n + 0 ≡ n = omega arith in ap (λ (i : ℕ). line_with i (trimmed line)) z))
held_at n (l ∷ before) line after e = go (passed_over (trimmed l)) (held_at (suc n) before line after e)
  where
    go : (b : Bool) → Memᴰ (line_with (suc n + length before) (trimmed line)) (held_from (suc n) (before ++ (line ∷ after)))
        → Memᴰ (line_with (n + suc (length before)) (trimmed line)) (held_by n l (before ++ (line ∷ after)) b)
    go b m =
        let z : n + suc (length before) ≡ suc n + length before = omega arith in
        let k = Memᴰ.cast (ap (λ (i : ℕ). line_with i (trimmed line)) z) m in
        elim b as (λ (b' : Bool). Memᴰ (line_with (n + suc (length before)) (trimmed line)) (held_by n l (before ++ (line ∷ after)) b')) [ true ↦ k | false ↦ Memᴰ.tail k ]

pub numbers-held : (n : ℕ) (ls : List (List ℕ)) (x : Line) → HeldIn n ls x → Memᴰ x (held_from n ls)
numbers-held n ls x H =
    subst (λ (t : List (List ℕ)). Memᴰ x (held_from n t)) (sym H.is)
    (Memᴰ.cast (ap₂ line_with H.number_is H.text-is) (held_at n H.before H.line H.after H.holds))

pub held-rising : (n : ℕ) (ls : List (List ℕ)) → Rising (held_from n ls)
held-rising n [] = tt
held-rising n (l ∷ ls) = go (passed_over (trimmed l)) (held-rising (suc n) ls)
  where
    go : (b : Bool) → Rising (held_from (suc n) ls) → Rising (held_by n l ls b)
    go true r = r
    go false r = ((λ y m. omega (arith, (held-numbers (suc n) ls y m).number_is)), r)
