-- What bytes come to: a list that is kept exactly where they spell it, a refusal exactly where it is the first bad word's.
use Prim.Native.Nat.{ℕ, zero, suc, ◌≤◌, ◌<◌}
use native.Mathlib.Omega.{arith}
use mathlib.Core.Path.{◌≡◌, refl, sym, ap, ap₂, subst, ◌∙◌}
use mathlib.Core.Logic.{◌↔◌}
use mathlib.Core.Bool.{Bool, true, false, cond}
use mathlib.Core.List.{List, [], ◌∷◌, ◌++◌, append_assoc, append-nil, nil≢cons}
use lib.ListN.{length, take, drop, length-append, length-drop, take-append-drop}
use lib.Seq.{take-append_seam, drop-append_seam, length-take-le}
use lib.Dec.{leb}
use borrow.Author.Tests.{leb-true, leb-false, le-leb, lt-leb}
use Rattle.refusal.specs.declared.InputCause.{InputCause}
use Rattle.refusal.specs.declared.InputCause.TheVariants.{ListedWord, WordOrder, StateLimit}
use Rattle.table_format.specs.Rules.{each}
use Rattle.table_format.proofs.Tests.{and_left, and_right, and_both}
use Rattle.table_format.proofs.Each.{each_append, each_snoc}
use Rattle.lexicon.specs.Words.{Word, good_word, follows, list_holds}
use Rattle.lexicon.specs.Beginnings.{fresh, fresh_after, beginnings}
use Rattle.lexicon.specs.Lexicon.{spelled, IsCut, at_end, at_short, whole, short, items_in, most_states, Lexicon, words, turned_down, judged, lexicon_from, lexicon}
use Rattle.lexicon.specs.FirstBad.{Kept, Bad, cut_short, faulty, falls, crowds, FirstBad}
use Rattle.lexicon.proofs.Words.{word_test}

-- Lists that are kept.

pub kept-none : Kept []
unfolding beginnings each
kept-none = record { holds = refl; few = omega arith }

-- fewer words have fewer beginnings
after_fewer : (xs ys : List Word) (p : Word) → length (fresh_after p xs) ≤ length (fresh_after p (xs ++ ys))
after_fewer [] ys p = omega arith
after_fewer (x ∷ xs) ys p =
    let G = after_fewer xs ys x in
    omega (arith, length-append (fresh [] p x) (fresh_after x xs), length-append (fresh [] p x) (fresh_after x (xs ++ ys)))

pub fewer : (xs ys : List Word) → length (beginnings xs) ≤ length (beginnings (xs ++ ys))
unfolding beginnings
fewer xs ys = let G = after_fewer xs ys [] in omega arith

pub kept-first : (xs ys : List Word) → Kept (xs ++ ys) → Kept xs
kept-first xs ys K =
    record { holds = and_left (list_holds xs) _ (sym (each_append word_test [] xs ys) ∙ K.holds); few = omega (arith, fewer xs ys, K.few) }

-- one word more, and what it passes
pub kept_more : (xs : List Word) (w : Word) → Kept xs → good_word w ≡ true → follows xs w ≡ true → length (beginnings (xs ++ (w ∷ []))) ≤ most_states → Kept (xs ++ (w ∷ []))
kept_more xs w K a b c = record { holds = each_snoc word_test xs w ∙ and_both K.holds (and_both a b); few = c }

-- The bytes of words.

spelled-snoc : (xs : List Word) (w : Word) (r : List ℕ) → spelled xs ++ (length w ∷ (w ++ r)) ≡ spelled (xs ++ (w ∷ [])) ++ r
spelled-snoc [] w r = ap (λ (l : List ℕ). length w ∷ l) (ap (λ (l : List ℕ). l ++ r) (sym (append-nil w)))
spelled-snoc (x ∷ xs) w r =
    ap (λ (l : List ℕ). length x ∷ l)
    (append_assoc x (spelled xs) (length w ∷ (w ++ r)) ∙ ap (λ (l : List ℕ). x ++ l) (spelled-snoc xs w r) ∙ sym (append_assoc x (spelled (xs ++ (w ∷ []))) r))

-- a length byte that is followed by enough bytes
word-there : (n : ℕ) (r : List ℕ) → n ≤ length r → n ∷ r ≡ length (take n r) ∷ (take n r ++ drop n r)
word-there n r h = ap₂ (λ (k : ℕ) (l : List ℕ). k ∷ l) (sym (length-take-le n r h)) (sym (take-append-drop n r))

-- What bytes come to, as facts.

data Decided (bytes : List ℕ) : Lexicon → Type 0 where
  is_taken : {ws : List Word} → Kept ws → bytes ≡ spelled ws → Decided bytes (words ws)
  is_turned : {cause : InputCause} → FirstBad bytes cause → Decided bytes (turned_down cause)

module _ (bytes : List ℕ) where
  -- a word, and what comes after it
  by_word : (before : List Word) (w : Word) (r : List ℕ) (rest : Lexicon) → Kept before → bytes ≡ spelled before ++ (length w ∷ (w ++ r))
      → (Kept (before ++ (w ∷ [])) → Decided bytes rest) → Decided bytes (judged before w rest)
  by_word before w r rest K e G = go (good_word w) (follows before w) (leb (length (beginnings (before ++ (w ∷ [])))) most_states) refl refl refl
    where
      turned : {cause : InputCause} → Bad before (length w ∷ (w ++ r)) cause → Decided bytes (turned_down cause)
      turned b = is_turned (record { before = before; kept = K; rest = length w ∷ (w ++ r); cut = e; bad = b })

      go : (x y z : Bool) → good_word w ≡ x → follows before w ≡ y → leb (length (beginnings (before ++ (w ∷ [])))) most_states ≡ z
          → Decided bytes (cond x (cond y (cond z rest (turned_down StateLimit)) (turned_down WordOrder)) (turned_down ListedWord))
      go false y z a b c = turned (faulty w r a)
      go true false z a b c = turned (falls w r a b)
      go true true false a b c = turned (crowds w r a b (leb-false _ most_states c))
      go true true true a b c = G (kept_more before w K a b (leb-true _ most_states c))

  decided : (f : ℕ) (rest : List ℕ) (before : List Word) → length rest ≤ f → Kept before → bytes ≡ spelled before ++ rest → Decided bytes (lexicon_from before (items_in f rest))
  unfolding lexicon_from
  decided zero [] before h K e = is_taken K (e ∙ append-nil (spelled before))
  decided zero (n ∷ r) before h K e = absurd (omega arith)
  decided (suc f) [] before h K e = is_taken K (e ∙ append-nil (spelled before))
  decided (suc f) (n ∷ r) before h K e =
      go (leb n (length r)) refl (λ L c. decided f (drop n r) (before ++ (take n r ∷ [])) (omega (arith, length-drop n r)) L c)
    where
      go : (x : Bool) → leb n (length r) ≡ x
          → (Kept (before ++ (take n r ∷ [])) → bytes ≡ spelled (before ++ (take n r ∷ [])) ++ drop n r
          → Decided bytes (lexicon_from (before ++ (take n r ∷ [])) (items_in f (drop n r))))
          → Decided bytes (lexicon_from before (cond x (whole (take n r) ∷ items_in f (drop n r)) (short ∷ [])))
      go false x G = is_turned (record { before = before; kept = K; rest = n ∷ r; cut = e; bad = cut_short n r (leb-false n (length r) x) })
      go true x G =
          let c = e ∙ ap (λ (l : List ℕ). spelled before ++ l) (word-there n r (leb-true n (length r) x)) in
          by_word before (take n r) (drop n r) _ K c (λ L. G L (c ∙ spelled-snoc before (take n r) (drop n r)))

-- The other way: words that are kept are read, whatever follows.

pub item-whole : (f : ℕ) (w : Word) (r : List ℕ) → items_in (suc f) (length w ∷ (w ++ r)) ≡ whole w ∷ items_in f r
item-whole f w r = rw (le-leb (length w) (length (w ++ r)) (omega (arith, length-append w r)), take-append_seam w r, drop-append_seam w r)

word_kept : (before : List Word) (w : Word) (rest : Lexicon) → Kept (before ++ (w ∷ [])) → judged before w rest ≡ rest
word_kept before w rest K =
    let h = and_right (list_holds before) _ (sym (each_snoc word_test before w) ∙ K.holds) in
    rw (and_left (good_word w) _ h, and_right (good_word w) _ h, le-leb (length (beginnings (before ++ (w ∷ [])))) most_states K.few)

-- what is left to read after some words, with enough steps
pub record Read (before : List Word) (rest : List ℕ) (x : Lexicon) : Type 0 where
  pub steps : ℕ
  pub enough : length rest ≤ steps
  pub comes : x ≡ lexicon_from before (items_in steps rest)

reads : (ws before : List Word) (f : ℕ) (rest : List ℕ) → Kept (before ++ ws) → length (spelled ws ++ rest) ≤ f
    → Read (before ++ ws) rest (lexicon_from before (items_in f (spelled ws ++ rest)))
unfolding lexicon_from
reads [] before f rest K h = record { steps = f; enough = h; comes = ap (λ (b : List Word). lexicon_from b (items_in f rest)) (sym (append-nil before)) }
reads (w ∷ ws) before zero rest K h = absurd (omega arith)
reads (w ∷ ws) before (suc f) rest K h =
    let A : (before ++ (w ∷ [])) ++ ws ≡ before ++ (w ∷ ws) = append_assoc before (w ∷ []) ws in
    let R = reads ws (before ++ (w ∷ [])) f rest (subst Kept (sym A) K) (omega (arith, length-append w (spelled ws ++ rest), ap length (append_assoc w (spelled ws) rest))) in
    record {
      steps = R.steps;
      enough = R.enough;
      comes = ap (λ (l : List ℕ). lexicon_from before (items_in (suc f) (length w ∷ l))) (append_assoc w (spelled ws) rest)
          ∙ ap (lexicon_from before) (item-whole f w (spelled ws ++ rest)) ∙ word_kept before w _ (kept-first (before ++ (w ∷ [])) ws (subst Kept (sym A) K)) ∙ R.comes
          ∙ ap (λ (b : List Word). lexicon_from b (items_in R.steps rest)) A;
    }

bad-told : (before : List Word) (rest : List ℕ) (cause : InputCause) → Bad before rest cause → (f : ℕ) → length rest ≤ f → lexicon_from before (items_in f rest) ≡ turned_down cause
unfolding lexicon_from
bad-told before rest cause (cut_short n r l) zero h = absurd (omega arith)
bad-told before rest cause (cut_short n r l) (suc f) h = rw (lt-leb n (length r) l)
bad-told before rest cause (faulty w r a) zero h = absurd (omega arith)
bad-told before rest cause (faulty w r a) (suc f) h = ap (lexicon_from before) (item-whole f w r) ∙ rw a
bad-told before rest cause (falls w r a b) zero h = absurd (omega arith)
bad-told before rest cause (falls w r a b) (suc f) h = ap (lexicon_from before) (item-whole f w r) ∙ rw (a, b)
bad-told before rest cause (crowds w r a b c) zero h = absurd (omega arith)
bad-told before rest cause (crowds w r a b c) (suc f) h =
    ap (lexicon_from before) (item-whole f w r) ∙ rw (a, b, lt-leb (length (beginnings (before ++ (w ∷ [])))) most_states c)

-- Both together.

module _ (bytes : List ℕ) where
  all : Decided bytes (lexicon bytes)
  unfolding lexicon
  all = decided bytes (length bytes) bytes [] (omega arith) kept-none refl

  pub lexicon_sound : (ws : List Word) → lexicon bytes ≡ words ws → Kept ws × (bytes ≡ spelled ws)
  lexicon_sound ws e = go (lexicon bytes) e all
    where
      go : (x : Lexicon) → x ≡ words ws → Decided bytes x → Kept ws × (bytes ≡ spelled ws)
      go x e (is_taken {ws = vs} K c) = let f : vs ≡ ws = cc in subst (λ (us : List Word). Kept us × (bytes ≡ spelled us)) f (K, c)
      go x e (is_turned F) = absurd (let z : ◌≡◌ {A = ℕ} 0 1 = cc in omega arith)

  turned_sound : (cause : InputCause) → lexicon bytes ≡ turned_down cause → FirstBad bytes cause
  turned_sound cause e = go (lexicon bytes) e all
    where
      go : (x : Lexicon) → x ≡ turned_down cause → Decided bytes x → FirstBad bytes cause
      go x e (is_taken K c) = absurd (let z : ◌≡◌ {A = ℕ} 0 1 = cc in omega arith)
      go x e (is_turned {cause = c} F) = let f : c ≡ cause = cc in subst (FirstBad bytes) f F

pub lexicon-complete : (ws : List Word) → Kept ws → lexicon (spelled ws) ≡ words ws
unfolding lexicon lexicon_from
lexicon-complete ws K =
    let R = reads ws [] (length (spelled ws)) [] K (omega (arith, length-append (spelled ws) [])) in
    ap (λ (l : List ℕ). lexicon_from [] (items_in (length (spelled ws)) l)) (sym (append-nil (spelled ws))) ∙ R.comes ∙ none_left R.steps
  where
    none_left : (f : ℕ) → lexicon_from ws (items_in f []) ≡ words ws
    none_left zero = refl
    none_left (suc f) = refl

turned-complete : (bytes : List ℕ) (cause : InputCause) → FirstBad bytes cause → lexicon bytes ≡ turned_down cause
unfolding lexicon
turned-complete bytes cause F =
    let R = reads F.before [] (length (spelled F.before ++ F.rest)) F.rest F.kept (omega arith) in
    ap lexicon F.cut ∙ R.comes ∙ bad-told F.before F.rest cause F.bad R.steps R.enough

pub taken : (bytes : List ℕ) (ws : List Word) → (lexicon bytes ≡ words ws) ↔ (Kept ws × (bytes ≡ spelled ws))
taken bytes ws = (lexicon_sound bytes ws, λ h. ap lexicon h.1 ∙ lexicon-complete ws h.0)

pub turned_down_lem : (bytes : List ℕ) (cause : InputCause) → (lexicon bytes ≡ turned_down cause) ↔ FirstBad bytes cause
turned_down_lem bytes cause = (turned_sound bytes cause, turned-complete bytes cause)

-- What is left where no word is whole at the front.

pub cut_end : (bytes : List ℕ) → length bytes ≡ 0 → IsCut bytes
cut_end [] e = at_end
cut_end (n ∷ r) e = absurd (omega arith)

pub cut_front : (n : ℕ) (r bytes : List ℕ) → bytes ≡ n ∷ r → length r < n → IsCut bytes
cut_front n r bytes e h = subst IsCut (sym e) (at_short n r h)

-- A word that was taken from the bytes of words is the first of them, and those of the others are left.
pub spelled-next : (ws : List Word) (w : Word) (rest : List ℕ) → spelled ws ≡ length w ∷ (w ++ rest) → (vs : List Word) × (ws ≡ w ∷ vs) × (rest ≡ spelled vs)
spelled-next [] w rest e = absurd (nil≢cons e)
spelled-next (v ∷ vs) w rest e =
    let n : length v ≡ length w = cc in
    let same : v ++ spelled vs ≡ w ++ rest = cc in
    let first : v ≡ w = sym (take-append_seam v (spelled vs)) ∙ ap₂ (λ (k : ℕ) (l : List ℕ). take k l) n same ∙ take-append_seam w rest in
    let others : spelled vs ≡ rest = sym (drop-append_seam v (spelled vs)) ∙ ap₂ (λ (k : ℕ) (l : List ℕ). drop k l) n same ∙ drop-append_seam w rest in
    (vs, ap (λ (u : Word). u ∷ vs) first, sym others)

pub spelled-done : (ws : List Word) → IsCut (spelled ws) → ws ≡ []
spelled-done [] c = refl
spelled-done (w ∷ ws) (at_short _ _ h) = absurd (omega (arith, length-append w (spelled ws)))
