-- A text as lines with their line feeds, and what comes after the last.
use Prim.Native.Nat.{ℕ, suc, ◌<◌}
use mathlib.Core.Path.{◌≡◌, refl, sym, ap, ap₂, ◌∙◌}
use mathlib.Core.Logic.{⊎_elim}
use mathlib.Core.Bool.{Bool, true, false, cond}
use mathlib.Core.List.Memᴰ
use mathlib.Core.List.{List, [], ◌∷◌, ◌++◌, append-nil, append_assoc, Memᴰ}
use lib.ListN.{length}
use borrow.Author.Tests.{eqb-true, eqb-false, ne_eqb}
use Rattle.wordlist_lines.specs.Lines.{is_feed, lines_in, up_to_last, whole_lines, feeds}
use Rattle.wordlist_lines.specs.Facts.{fed, Unfed, AllUnfed}
use Rattle.wordlist_lines.proofs.Lines.{unfed-head, unfed_tail, line-fed, line-last, last-kept, last-passed}

abbrev Parted : List ℕ → Type 0
Parted text = (ls : List (List ℕ)) × (rest : List ℕ) × (text ≡ fed ls ++ rest) × AllUnfed ls × Unfed rest

unfed-cons : (c : ℕ) (l : List ℕ) → (c ≡ 10 → ⊥) → Unfed l → Unfed (c ∷ l)
unfed-cons c l n u m = ⊎_elim (λ e. n (sym e)) u (Memᴰ.cases_cons m)

all_cons : (l : List ℕ) (ls : List (List ℕ)) → Unfed l → AllUnfed ls → AllUnfed (l ∷ ls)
all_cons l ls u us x m = ⊎_elim (λ e. rw e u) (us x) (Memᴰ.cases_cons m)

pub text-is : (text : List ℕ) → Parted text
text-is [] = ([], [], refl, (λ l m. absurd (Memᴰ.not-nil m)), Memᴰ.not-nil)
text-is (c ∷ text) = go (is_feed c) refl (text-is text)
  where
    other : (c ≡ 10 → ⊥) → (ls : List (List ℕ)) (rest : List ℕ) → text ≡ fed ls ++ rest → AllUnfed ls → Unfed rest → Parted (c ∷ text)
    other n [] rest e us u = ([], c ∷ rest, ap (λ (t : List ℕ). c ∷ t) e, us, unfed-cons c rest n u)
    other n (l ∷ ls) rest e us u =
        ((c ∷ l) ∷ ls, rest, ap (λ (t : List ℕ). c ∷ t) e, all_cons (c ∷ l) ls (unfed-cons c l n (us l (Memᴰ.head refl))) (λ x m. us x (Memᴰ.tail m)), u)

    go : (b : Bool) → is_feed c ≡ b → Parted text → Parted (c ∷ text)
    go true b r =
        ([] ∷ r.0, r.1, ap₂ (λ (d : ℕ) (t : List ℕ). d ∷ t) (eqb-true c 10 b) r.2, all_cons [] r.0 Memᴰ.not-nil r.3, r.4)
    go false b r = other (eqb-false c 10 b) r.0 r.1 r.2 r.3 r.4

lines_then : (ls : List (List ℕ)) (rest : List ℕ) → AllUnfed ls → lines_in (fed ls ++ rest) ≡ ls ++ lines_in rest
lines_then [] rest u = refl
lines_then (l ∷ ls) rest u =
    ap lines_in (append_assoc l (10 ∷ fed ls) rest)
    ∙ line-fed l (fed ls ++ rest) (u l (Memᴰ.head refl))
    ∙ ap (λ (xs : List (List ℕ)). l ∷ xs) (lines_then ls rest (λ x m. u x (Memᴰ.tail m)))

pub lines_are : (ls : List (List ℕ)) → AllUnfed ls → lines_in (fed ls) ≡ ls
lines_are ls u = ap lines_in (sym (append-nil (fed ls))) ∙ lines_then ls [] u ∙ append-nil ls

pub lines_and_last : (ls : List (List ℕ)) (last : List ℕ) → AllUnfed ls → Unfed last → 0 < length last → lines_in (fed ls ++ last) ≡ ls ++ (last ∷ [])
lines_and_last ls last u v some = lines_then ls last u ∙ ap (λ (xs : List (List ℕ)). ls ++ xs) (line-last last v some)

fed-kept : (ls : List (List ℕ)) → up_to_last is_feed (fed ls) ≡ fed ls
fed-kept [] = refl
fed-kept (l ∷ ls) = last-kept is_feed l 10 (fed ls) refl (fed-kept ls)

unfed-each : (l : List ℕ) → Unfed l → (c : ℕ) → Memᴰ c l → is_feed c ≡ false
unfed-each l u c m = ne_eqb c 10 (λ e. u (Memᴰ.cast (sym e) m))

pub whole_lines-are : (ls : List (List ℕ)) (rest : List ℕ) → Unfed rest → whole_lines (fed ls ++ rest) ≡ length (fed ls)
whole_lines-are ls rest u = ap length (last-passed is_feed (fed ls) rest (unfed-each rest u) ∙ fed-kept ls)

feeds-unfed : (l rest : List ℕ) → Unfed l → feeds (l ++ rest) ≡ feeds rest
feeds-unfed [] rest u = refl
feeds-unfed (c ∷ l) rest u = ap₂ (λ (b : Bool) (n : ℕ). cond b (suc n) n) (unfed-head c l u) (feeds-unfed l rest (unfed_tail c l u))

pub feeds-are : (ls : List (List ℕ)) (rest : List ℕ) → AllUnfed ls → Unfed rest → feeds (fed ls ++ rest) ≡ length ls
feeds-are [] rest us u = ap feeds (sym (append-nil rest)) ∙ feeds-unfed rest [] u
feeds-are (l ∷ ls) rest us u =
    ap feeds (append_assoc l (10 ∷ fed ls) rest)
    ∙ feeds-unfed l (10 ∷ (fed ls ++ rest)) (us l (Memᴰ.head refl))
    ∙ ap suc (feeds-are ls rest (λ x m. us x (Memᴰ.tail m)) u)
