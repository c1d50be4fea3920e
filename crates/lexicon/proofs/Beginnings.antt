-- The beginnings of listed words: which they are, their order, that no other list is so, and how they grow word by word.
use Prim.Native.Nat.{ℕ, suc}
use native.Mathlib.Omega.{arith}
use mathlib.Core.Path.{◌≡◌, refl, sym, ap, ap₂, subst, ◌∙◌}
use mathlib.Core.Logic.{◌⊎◌, inl, inr, ⊎_elim, ◌↔◌}
use mathlib.Core.Bool.{Bool, true, false, cond, ◌&&◌, false≢true}
use mathlib.Core.List.Memᴰ
use mathlib.Core.List.{List, [], ◌∷◌, ◌++◌, append_assoc, append-nil, nil≢cons, Memᴰ}
use lib.Dec.{eqb, ltb}
use lib.ListN.{take, drop, take-append-drop}
use borrow.Author.Tests.{ltb-true, eqb-true}
use Rattle.table_format.specs.Rules.{each}
use Rattle.table_format.proofs.Tests.{and_left, and_right, or_cases}
use Rattle.table_format.proofs.Each.{last_snoc}
use Rattle.graph.specs.Lists.{Before, Distinct}
use Rattle.graph.proofs.Lists.{before_same, before_trans, before-both}
use Rattle.graph.proofs.Sorted.{sorted-distinct, sorted_unique}
use Rattle.lexicon.specs.Words.{Word, good_word, rises, list_holds}
use Rattle.lexicon.specs.Beginnings.{longer, fresh, fresh_after, beginnings, Begins, RisingWords}
use Rattle.lexicon.specs.Check.{common}
use Rattle.lexicon.proofs.Words.{word_test}

-- Word by word.

-- the last of some words after p
abbrev pub last_word : Word → List Word → Word
last_word p [] = p
last_word p (w ∷ ws) = last_word w ws

after-snoc : (ws : List Word) (p w : Word) → fresh_after p (ws ++ (w ∷ [])) ≡ fresh_after p ws ++ fresh [] (last_word p ws) w
after-snoc [] p w = append-nil (fresh [] p w)
after-snoc (v ∷ ws) p w =
    ap (λ (l : List Word). fresh [] p v ++ l) (after-snoc ws v w) ∙ sym (append_assoc (fresh [] p v) (fresh_after v ws) (fresh [] (last_word v ws) w))

-- one word more
pub beginnings-snoc : (ws : List Word) (w : Word) → beginnings (ws ++ (w ∷ [])) ≡ beginnings ws ++ fresh [] (last_word [] ws) w
unfolding beginnings
beginnings-snoc ws w = ap (λ (l : List Word). [] ∷ l) (after-snoc ws [] w)

-- what a word adds: its beginnings that are longer than what it has in common with the word before it
pub fresh-is : (p w b : Word) → fresh b p w ≡ longer (b ++ take (common p w) w) (drop (common p w) w)
fresh-is [] w b = ap (λ (c : Word). longer c w) (sym (append-nil b))
fresh-is (x ∷ p) [] b = refl
fresh-is (x ∷ p) (y ∷ w) b = go (eqb x y) (fresh-is p w (b ++ (y ∷ [])))
  where
    go : (t : Bool) → fresh (b ++ (y ∷ [])) p w ≡ longer ((b ++ (y ∷ [])) ++ take (common p w) w) (drop (common p w) w)
        → cond t (fresh (b ++ (y ∷ [])) p w) (longer b (y ∷ w)) ≡ longer (b ++ take (cond t (suc (common p w)) 0) (y ∷ w)) (drop (cond t (suc (common p w)) 0) (y ∷ w))
    go true e = e ∙ ap (λ (c : Word). longer c (drop (common p w) w)) (append_assoc b (y ∷ []) (take (common p w) w))
    go false e = ap (λ (c : Word). longer c (y ∷ w)) (sym (append-nil b))

-- Every beginning of a listed word is there.

longer-has : (c u b : Word) (y : ℕ) → Memᴰ (b ++ (y ∷ c)) (longer b (y ∷ (c ++ u)))
longer-has [] u b y = Memᴰ.head refl
longer-has (z ∷ c) u b y =
    Memᴰ.tail (subst (λ (d : Word). Memᴰ d (longer (b ++ (y ∷ [])) (z ∷ (c ++ u)))) (append_assoc b (y ∷ []) (z ∷ c)) (longer-has c u (b ++ (y ∷ [])) z))

-- it is new, or the word before has it
fresh-has : (p c u b : Word) (y : ℕ) → Memᴰ (b ++ (y ∷ c)) (fresh b p (y ∷ (c ++ u))) ⊎ ((r : Word) × (p ≡ y ∷ (c ++ r)))
fresh-has [] c u b y = inl (longer-has c u b y)
fresh-has (x ∷ p) c u b y = go (eqb x y) refl c (λ z d. fresh-has p d u (b ++ (y ∷ [])) z)
  where
    go : (t : Bool) → eqb x y ≡ t → (c : Word)
        → ((z : ℕ) (d : Word) → Memᴰ ((b ++ (y ∷ [])) ++ (z ∷ d)) (fresh (b ++ (y ∷ [])) p (z ∷ (d ++ u))) ⊎ ((r : Word) × (p ≡ z ∷ (d ++ r))))
        → Memᴰ (b ++ (y ∷ c)) (cond t (fresh (b ++ (y ∷ [])) p (c ++ u)) (longer b (y ∷ (c ++ u)))) ⊎ ((r : Word) × (x ∷ p ≡ y ∷ (c ++ r)))
    go false e c G = inl (longer-has c u b y)
    go true e [] G = inr (p, ap (λ (a : ℕ). a ∷ p) (eqb-true x y e))
    go true e (z ∷ c) G =
        ⊎_elim (λ m. inl (subst (λ (d : Word). Memᴰ d (fresh (b ++ (y ∷ [])) p (z ∷ (c ++ u)))) (append_assoc b (y ∷ []) (z ∷ c)) m))
        (λ R. inr (R.0, ap₂ (λ (a : ℕ) (l : Word). a ∷ l) (eqb-true x y e) R.1))
        (G z c)

after-has : (ws : List Word) (p c u : Word) (y : ℕ) → Memᴰ (y ∷ (c ++ u)) ws → Memᴰ (y ∷ c) (fresh_after p ws) ⊎ ((r : Word) × (p ≡ y ∷ (c ++ r)))
after-has [] p c u y m = absurd (Memᴰ.not-nil m)
after-has (v ∷ ws) p c u y m =
    ⊎_elim (λ h. here u (sym h)) (λ h. ⊎_elim (λ l. inl (Memᴰ.append_right (fresh [] p v) l)) (λ R. here R.0 R.1) (after-has ws v c u y h)) (Memᴰ.cases_cons m)
  where
    here : (u : Word) → v ≡ y ∷ (c ++ u) → Memᴰ (y ∷ c) (fresh [] p v ++ fresh_after v ws) ⊎ ((r : Word) × (p ≡ y ∷ (c ++ r)))
    here u e = ⊎_elim (λ l. inl (Memᴰ.append_left (fresh_after v ws) (subst (λ (z : Word). Memᴰ (y ∷ c) (fresh [] p z)) (sym e) l))) (λ R. inr R) (fresh-has p c u [] y)

pub beginnings_have : (ws : List Word) (c u : Word) → Memᴰ (c ++ u) ws → Memᴰ c (beginnings ws)
unfolding beginnings
beginnings_have ws [] u m = Memᴰ.head refl
beginnings_have ws (y ∷ c) u m = Memᴰ.tail (⊎_elim (λ l. l) (λ R. absurd (nil≢cons R.1)) (after-has ws [] c u y m))

-- And nothing else is.

longer_sound : (w b c : Word) → Memᴰ c (longer b w) → (u : Word) × (c ++ u ≡ b ++ w)
longer_sound [] b c m = absurd (Memᴰ.not-nil m)
longer_sound (x ∷ w) b c m =
    ⊎_elim (λ e. (w, ap (λ (z : Word). z ++ w) e ∙ append_assoc b (x ∷ []) w))
    (λ l. let R = longer_sound w (b ++ (x ∷ [])) c l in (R.0, R.1 ∙ append_assoc b (x ∷ []) w)) (Memᴰ.cases_cons m)

fresh_sound : (p w c : Word) → Memᴰ c (fresh [] p w) → (u : Word) × (c ++ u ≡ w)
fresh_sound p w c m =
    let R = longer_sound (drop (common p w) w) (take (common p w) w) c (subst (λ (l : List Word). Memᴰ c l) (fresh-is p w []) m) in
    (R.0, R.1 ∙ take-append-drop (common p w) w)

after_sound : (ws : List Word) (p c : Word) → Memᴰ c (fresh_after p ws) → (u : Word) × Memᴰ (c ++ u) ws
after_sound [] p c m = absurd (Memᴰ.not-nil m)
after_sound (w ∷ ws) p c m =
    ⊎_elim (λ l. let R = fresh_sound p w c l in (R.0, Memᴰ.head R.1)) (λ l. let R = after_sound ws w c l in (R.0, Memᴰ.tail R.1))
    (Memᴰ.append_cases (fresh [] p w) m)

pub beginnings-are : (ws : List Word) (c : Word) → Memᴰ c (beginnings ws) ↔ Begins ws c
unfolding beginnings
beginnings-are ws c = (
  λ m. ⊎_elim (λ e. inl e) (λ l. inr (after_sound ws [] c l)) (Memᴰ.cases_cons m),
  λ h. ⊎_elim (λ e. Memᴰ.head e) (λ R. beginnings_have ws c R.0 R.1) h,
)

-- Their order: each is above the one before it.

before_more : (b : Word) (x : ℕ) → Before b (b ++ (x ∷ []))
before_more b x = subst (λ (c : Word). Before c (b ++ (x ∷ []))) (append-nil b) (before_same b [] (x ∷ []) tt)

-- each above the one before it, the first above p
abbrev pub Climbs : Word → List Word → Type 0
Climbs p [] = Unit {0}
Climbs p (c ∷ l) = Before p c × Climbs c l

pub climbs-rise : (p : Word) (l : List Word) → Climbs p l → RisingWords (p ∷ l)
climbs-rise p [] C = (λ c m. absurd (Memᴰ.not-nil m), tt)
climbs-rise p (d ∷ l) C =
    let R = climbs-rise d l C.1 in
    (λ c m. ⊎_elim (λ e. subst (λ (z : Word). Before p z) (sym e) C.0) (λ k. before_trans p d c C.0 (R.0 c k)) (Memᴰ.cases_cons m), R)

longer_climb : (w b q : Word) (x : ℕ) (rest : List Word) → Before q (b ++ (x ∷ [])) → Climbs (b ++ (x ∷ w)) rest → Climbs q (longer b (x ∷ w) ++ rest)
longer_climb [] b q x rest h C = (h, C)
longer_climb (y ∷ w) b q x rest h C =
    let c : Word = b ++ (x ∷ []) in
    (h, longer_climb w c c y rest (before_more c y) (subst (λ (z : Word). Climbs z rest) (sym (append_assoc b (x ∷ []) (y ∷ w))) C))

fresh_climb : (p w b : Word) (rest : List Word) → rises p w ≡ true → Climbs (b ++ w) rest → Climbs (b ++ p) (fresh b p w ++ rest)
fresh_climb [] [] b rest e C = absurd (false≢true e)
fresh_climb [] (y ∷ w) b rest e C = longer_climb w b (b ++ []) y rest (before_same b [] (y ∷ []) tt) C
fresh_climb (x ∷ p) [] b rest e C = absurd (false≢true e)
fresh_climb (x ∷ p) (y ∷ w) b rest e C =
    go (eqb x y) refl (or_cases (ltb x y) _ e) (λ f. fresh_climb p w (b ++ (y ∷ [])) rest f (subst (λ (c : Word). Climbs c rest) (sym (append_assoc b (y ∷ []) w)) C))
  where
    go : (t : Bool) → eqb x y ≡ t → (ltb x y ≡ true) ⊎ ((eqb x y && rises p w) ≡ true)
        → (rises p w ≡ true → Climbs ((b ++ (y ∷ [])) ++ p) (fresh (b ++ (y ∷ [])) p w ++ rest))
        → Climbs (b ++ (x ∷ p)) (cond t (fresh (b ++ (y ∷ [])) p w) (longer b (y ∷ w)) ++ rest)
    go true f (inl l) G = absurd (omega (arith, ltb-true x y l, eqb-true x y f))
    go true f (inr l) G =
        subst (λ (c : Word). Climbs c (fresh (b ++ (y ∷ [])) p w ++ rest)) (append_assoc b (y ∷ []) p ∙ ap (λ (a : ℕ). b ++ (a ∷ p)) (sym (eqb-true x y f)))
        (G (and_right (eqb x y) _ l))
    go false f (inl l) G = longer_climb w b (b ++ (x ∷ p)) y rest (before_same b (x ∷ p) (y ∷ []) (inl (ltb-true x y l))) C
    go false f (inr l) G = absurd (false≢true (sym f ∙ and_left (eqb x y) _ l))

after_climb : (ws before : List Word) (p : Word) → each word_test (before ++ (p ∷ [])) ws ≡ true → Climbs p (fresh_after p ws)
unfolding each
after_climb [] before p e = tt
after_climb (w ∷ ws) before p e =
    fresh_climb p w [] (fresh_after w ws) (sym (last_snoc (λ v. rises v w) before p) ∙ and_right (good_word w) _ (and_left (word_test (before ++ (p ∷ [])) w) _ e))
    (after_climb ws (before ++ (p ∷ [])) w (and_right (word_test (before ++ (p ∷ [])) w) _ e))

climbs : (ws : List Word) → list_holds ws ≡ true → Climbs [] (fresh_after [] ws)
unfolding each
climbs [] e = tt
climbs ([] ∷ ws) e = absurd (false≢true e)
climbs ((x ∷ w) ∷ ws) e = fresh_climb [] (x ∷ w) [] (fresh_after (x ∷ w) ws) refl (after_climb ws [] (x ∷ w) (and_right (word_test [] (x ∷ w)) _ e))

pub beginnings-rise : (ws : List Word) → list_holds ws ≡ true → RisingWords (beginnings ws)
unfolding beginnings
beginnings-rise ws e = climbs-rise [] (fresh_after [] ws) (climbs ws e)

-- Words that rise are told by their members, and none stands there twice.

pub rising-distinct : (l : List Word) → RisingWords l → Distinct l
rising-distinct = sorted-distinct Before before-both RisingWords (λ b l R. R)

pub beginnings-only : (ws : List Word) → list_holds ws ≡ true → (bs : List Word) → RisingWords bs → ((c : Word) → Memᴰ c bs ↔ Begins ws c) → bs ≡ beginnings ws
beginnings-only ws e bs R h =
    sorted_unique Before before-both RisingWords (λ b l S. S) bs (beginnings ws) R (beginnings-rise ws e)
    (λ c. (λ m. (beginnings-are ws c).1 ((h c).0 m), λ m. (h c).1 ((beginnings-are ws c).0 m)))
