-- Laws of lines, as loops over a text meet them: no line feed so far, the last character that passes a test, blanks at the front, line feeds.
use Prim.Native.Nat.{ℕ, suc, ◌+◌, ◌≤◌, ◌<◌}
use native.Mathlib.Numerals.{add-one}
use native.Mathlib.Omega.{arith}
use mathlib.Core.Path.{◌≡◌, refl, sym, ap, ap₂, ◌∙◌}
use mathlib.Core.Logic.{⊎_elim}
use mathlib.Core.Bool.{Bool, true, false, cond}
use mathlib.Core.List.Memᴰ
use mathlib.Core.List.{List, [], ◌∷◌, ◌++◌, Memᴰ}
use lib.ListN.{length, get_or, take, drop, drop_of_length-le}
use lib.Seq.{take_all, split_at}
use borrow.Author.Tests.{ne_eqb, eqb-true, eqb-false, not-true, not-false}
use Rattle.std.specs.Prelude.{zero, Option, Some, None, MatchOption, unwrap_or, count_by}
use Rattle.std.proofs.lemmas.List.Recursion.{is_count_by}
use Rattle.wordlist_lines.specs.Lines.{is_feed, onto, lines_in, in_front, up_to_last, feeds, no_blank, unled}
use Rattle.wordlist_lines.specs.Facts.{Unfed}

-- The first line.

module _ (c : ℕ) (l : List ℕ) (u : Unfed (c ∷ l)) where
  pub unfed-head : is_feed c ≡ false
  unfed-head = ne_eqb c 10 (λ e. u (Memᴰ.head (sym e)))

  pub unfed_tail : Unfed l
  unfed_tail m = u (Memᴰ.tail m)

abbrev lines_after : ℕ → List ℕ → Bool → List (List ℕ) → List (List ℕ)
lines_after c rest b ls = cond b ([] ∷ lines_in rest) (onto c ls)

pub line-fed : (l rest : List ℕ) → Unfed l → lines_in (l ++ (10 ∷ rest)) ≡ l ∷ lines_in rest
line-fed [] rest u = refl
line-fed (c ∷ l) rest u = ap₂ (lines_after c (l ++ (10 ∷ rest))) (unfed-head c l u) (line-fed l rest (unfed_tail c l u))

pub line-last : (l : List ℕ) → Unfed l → 0 < length l → lines_in l ≡ l ∷ []
line-last [] u h = absurd (omega arith)
line-last (c ∷ []) u h = ap (λ (b : Bool). lines_after c [] b []) (unfed-head c [] u)
line-last (c ∷ d ∷ l) u h = ap₂ (lines_after c (d ∷ l)) (unfed-head c (d ∷ l) u) (line-last (d ∷ l) (unfed_tail c (d ∷ l) u) (omega arith))

-- up to the first line feed, or all
abbrev pub FirstIs : (ℕ → Bool) → List ℕ → Option ℕ → Type 0
FirstIs p l r =
    MatchOption r ((k : ℕ) → k < length l → p (get_or l k 0) ≡ false)
    (λ i. (i < length l) × (p (get_or l i 0) ≡ true) × ((k : ℕ) → k < i → p (get_or l k 0) ≡ false))

unfed-none : (l : List ℕ) → ((k : ℕ) → k < length l → is_feed (get_or l k 0) ≡ false) → Unfed l
unfed-none [] h m = absurd (Memᴰ.not-nil m)
unfed-none (c ∷ l) h m =
    ⊎_elim (λ e. eqb-false c 10 (h 0 (omega arith)) (sym e)) (unfed-none l (λ k lt. h (suc k) (omega arith))) (Memᴰ.cases_cons m)

unfed-before : (l : List ℕ) (i : ℕ) → i < length l → ((k : ℕ) → k < i → is_feed (get_or l k 0) ≡ false) → Unfed (take i l)
unfed-before l zero lt h m = absurd (Memᴰ.not-nil m)
unfed-before [] (suc i) lt h m = absurd (omega arith)
unfed-before (c ∷ l) (suc i) lt h m =
    ⊎_elim (λ e. eqb-false c 10 (h 0 (omega arith)) (sym e)) (unfed-before l i (omega arith) (λ k below. h (suc k) (omega arith))) (Memᴰ.cases_cons m)

pub line_cut : (text : List ℕ) → 0 < length text → (r : Option ℕ) → FirstIs is_feed text r → (n : ℕ) → n ≡ unwrap_or r (length text)
    → (n ≤ length text) × (lines_in text ≡ take n text ∷ lines_in (drop (suc n) text))
line_cut text some None F n e =
    let all : take n text ≡ text = take_all n text (omega arith) in
    (omega arith, line-last text (unfed-none text F) some ∙ ap₂ (λ (l rest : List ℕ). l ∷ lines_in rest) (sym all) (sym (drop_of_length-le text {i = suc n} (omega arith))))
line_cut text some (Some i) F n e =
    rw e (
      omega (arith, F.0),
      ap lines_in (split_at text i 0 F.0 ∙ ap (λ (c : ℕ). take i text ++ (c ∷ drop (suc i) text)) (eqb-true _ _ F.1))
          ∙ line-fed (take i text) (drop (suc i) text) (unfed-before text i F.0 F.2),
    )

-- The last character that passes a test.

module _ (p : ℕ → Bool) where
  pub last-kept : (l : List ℕ) (c : ℕ) (r : List ℕ) → p c ≡ true → up_to_last p r ≡ r → up_to_last p (l ++ (c ∷ r)) ≡ l ++ (c ∷ r)
  last-kept [] c [] e k = ap (λ (b : Bool). cond b (c ∷ []) []) e
  last-kept [] c (d ∷ r) e k = ap (in_front p c) k
  last-kept (d ∷ []) c r e k = ap (in_front p d) (last-kept [] c r e k)
  last-kept (d ∷ f ∷ l) c r e k = ap (in_front p d) (last-kept (f ∷ l) c r e k)

  pub last-passed : (l z : List ℕ) → ((c : ℕ) → Memᴰ c z → p c ≡ false) → up_to_last p (l ++ z) ≡ up_to_last p l
  last-passed [] [] h = refl
  last-passed [] (c ∷ z) h =
      ap (in_front p c) (last-passed [] z (λ d m. h d (Memᴰ.tail m)))
      ∙ ap (λ (b : Bool). cond b (c ∷ []) []) (h c (Memᴰ.head refl))
  last-passed (d ∷ l) z h = ap (in_front p d) (last-passed l z h)

  -- where it stands
  abbrev pub LastIs : List ℕ → Option ℕ → Type 0
  LastIs l r =
      MatchOption r ((k : ℕ) → k < length l → p (get_or l k 0) ≡ false)
      (λ i. (i < length l) × (p (get_or l i 0) ≡ true) × ((k : ℕ) → i < k → k < length l → p (get_or l k 0) ≡ false))

  pub last_none : (l : List ℕ) → ((k : ℕ) → k < length l → p (get_or l k 0) ≡ false) → [] ≡ up_to_last p l
  last_none [] h = refl
  last_none (c ∷ l) h = sym (ap (in_front p c) (sym (last_none l (λ k lt. h (suc k) (omega arith)))) ∙ ap (λ (b : Bool). cond b (c ∷ []) []) (h 0 (omega arith)))

  pub last_at : (l : List ℕ) (i : ℕ) → i < length l → p (get_or l i 0) ≡ true → ((k : ℕ) → i < k → k < length l → p (get_or l k 0) ≡ false)
      → take (suc i) l ≡ up_to_last p l
  last_at [] i lt e h = absurd (omega arith)
  last_at (c ∷ l) zero lt e h =
      sym (ap (in_front p c) (sym (last_none l (λ k below. h (suc k) (omega arith) (omega arith)))) ∙ ap (λ (b : Bool). cond b (c ∷ []) []) e)
  last_at (c ∷ []) (suc i) lt e h = absurd (omega arith)
  last_at (c ∷ d ∷ l) (suc i) lt e h = ap (in_front p c) (last_at (d ∷ l) i (omega arith) e (λ k a b. h (suc k) (omega arith) (omega arith)))

  pub last_some : (l : List ℕ) (r : Option ℕ) (i : ℕ) → r ≡ Some i → LastIs l r → (i + 1 ≤ length l) × (take (i + 1) l ≡ up_to_last p l)
  last_some l None i e F = cc
  last_some l (Some j) i e F =
      let same : j ≡ i = cc in
      rw (← same) (omega (arith, F.0), rw add-one (last_at l j F.0 F.1 F.2))

  pub last_missing : (l : List ℕ) (r : Option ℕ) → r ≡ None → LastIs l r → [] ≡ up_to_last p l
  last_missing l None e F = last_none l F
  last_missing l (Some j) e F = cc

-- Blanks at the front, up to the first character that is none.

unled-none : (l : List ℕ) → ((k : ℕ) → k < length l → no_blank (get_or l k 0) ≡ false) → [] ≡ unled l
unled-none [] h = refl
unled-none (c ∷ l) h = unled-none l (λ k lt. h (suc k) (omega arith)) ∙ sym (ap (λ (b : Bool). cond b (unled l) (c ∷ l)) (not-false _ (h 0 (omega arith))))

unled-first : (l : List ℕ) (i : ℕ) → i < length l → no_blank (get_or l i 0) ≡ true → ((k : ℕ) → k < i → no_blank (get_or l k 0) ≡ false) → drop i l ≡ unled l
unled-first [] i lt e h = absurd (omega arith)
unled-first (c ∷ l) zero lt e h = sym (ap (λ (b : Bool). cond b (unled l) (c ∷ l)) (not-true _ e))
unled-first (c ∷ l) (suc i) lt e h =
    unled-first l i (omega arith) e (λ k below. h (suc k) (omega arith))
    ∙ sym (ap (λ (b : Bool). cond b (unled l) (c ∷ l)) (not-false _ (h 0 (omega arith))))

pub unled_cut : (l : List ℕ) (r : Option ℕ) → FirstIs no_blank l r → (n : ℕ) → n ≡ unwrap_or r (length l) → (n ≤ length l) × (drop n l ≡ unled l)
unled_cut l None F n e = (omega arith, drop_of_length-le l (omega arith) ∙ unled-none l F)
unled_cut l (Some i) F n e = rw e (omega (arith, F.0), unled-first l i F.0 F.1 F.2)

-- Line feeds, counted.

pub feeds-count : (text : List ℕ) → count_by is_feed text ≡ feeds text
feeds-count text = sym (is_count_by feeds is_feed refl (λ c l. (let e : suc (feeds l) ≡ 1 + feeds l = omega arith in ap (λ (n : ℕ). cond (is_feed c) n (feeds l)) e)) text)
