-- Laws for the check of a list, word after word.
use Prim.Native.Nat.{ℕ, zero, suc, ◌+◌, ◌≤◌}
use native.Mathlib.Omega.{arith}
use mathlib.Core.Path.{◌≡◌, refl, sym, ap, ap₂, subst, ◌∙◌}
use mathlib.Core.Bool.{Bool, true, false, cond, true≢false}
use mathlib.Core.List.{List, [], ◌∷◌, ◌++◌}
use lib.ListN.{length, take, drop, length-append, length-drop}
use lib.Dec.{eqb, leb}
use borrow.Author.Tests.{lt-leb, leb-true, eqb-true, eqb-false}
use Rattle.refusal.specs.declared.InputCause.{InputCause}
use Rattle.refusal.specs.declared.InputCause.TheVariants.{ListedWord, WordOrder, StateLimit}
use Rattle.std.specs.Prelude.{Result, Ok, Err}
use Rattle.lexicon.specs.Words.{Word, good_word, rises, follows}
use Rattle.lexicon.specs.Beginnings.{longer, fresh, beginnings}
use Rattle.lexicon.specs.Lexicon.{IsCut, at_end, at_short, items_in, most_states, Lexicon, words, turned_down, judged, lexicon_from, lexicon}
use Rattle.lexicon.specs.Check.{common, grown, word_listing}
use Rattle.lexicon.proofs.Beginnings.{last_word, beginnings-snoc, fresh-is}
use Rattle.lexicon.specs.FirstBad.{Kept}
use Rattle.lexicon.proofs.Lexicon.{kept-none, kept_more, item-whole, Read}

-- A word after those before it.

pub longer-length : (w b : Word) → length (longer b w) ≡ length w
longer-length [] b = refl
longer-length (x ∷ w) b = ap suc (longer-length w (b ++ (x ∷ [])))

pub grown-is : (before : List Word) (w : Word) → length (beginnings (before ++ (w ∷ []))) ≡ grown (last_word [] before) w (length (beginnings before))
grown-is before w =
    let p = last_word [] before in
    ap length (beginnings-snoc before w) ∙ length-append (beginnings before) (fresh [] p w)
    ∙ ap (λ (l : List Word). length (beginnings before) + length l) (fresh-is p w [])
    ∙ ap (λ (n : ℕ). length (beginnings before) + n) (longer-length (drop (common p w) w) (take (common p w) w) ∙ length-drop (common p w) w)

pub last_word-snoc : (before : List Word) (p w : Word) → last_word p (before ++ (w ∷ [])) ≡ w
last_word-snoc [] p w = refl
last_word-snoc (v ∷ before) p w = last_word-snoc before v w

-- a good word follows where it is above the last one, the empty word where there is none
follows-last : (before : List Word) (w : Word) → good_word w ≡ true → follows before w ≡ rises (last_word [] before) w
follows-last [] [] e = absurd (true≢false (sym e))
follows-last [] (x ∷ w) e = refl
follows-last (v ∷ before) w e = go before v
  where
    go : (before : List Word) (v : Word) → follows (v ∷ before) w ≡ rises (last_word v before) w
    go [] v = refl
    go (u ∷ before) v = go before u

module _ (before : List Word) (w : Word) (rest : Lexicon) where
  abbrev p : Word
  p = last_word [] before

  abbrev n : ℕ
  n = grown p w (length (beginnings before))

  judged-is : judged before w rest ≡ cond (good_word w) (cond (rises p w) (cond (leb n most_states) rest (turned_down StateLimit)) (turned_down WordOrder)) (turned_down ListedWord)
  judged-is = go (good_word w) refl
    where
      go : (x : Bool) → good_word w ≡ x
          → cond x (cond (follows before w) (cond (leb (length (beginnings (before ++ (w ∷ [])))) most_states) rest (turned_down StateLimit)) (turned_down WordOrder)) (turned_down ListedWord)
          ≡ cond x (cond (rises p w) (cond (leb n most_states) rest (turned_down StateLimit)) (turned_down WordOrder)) (turned_down ListedWord)
      go false e = refl
      go true e = ap₂ (λ (b : Bool) (m : ℕ). cond b (cond (leb m most_states) rest (turned_down StateLimit)) (turned_down WordOrder)) (follows-last before w e) (grown-is before w)

  -- what a word earns turns the list down
  pub judged-fault : (c : InputCause) → word_listing p w (length (beginnings before)) ≡ Err c → judged before w rest ≡ turned_down c
  judged-fault c e = judged-is ∙ go (good_word w) (rises p w) (leb n most_states) e
    where
      go : (x y z : Bool) → cond x (cond y (cond z (Ok n) (Err StateLimit)) (Err WordOrder)) (Err ListedWord) ≡ Err c
          → cond x (cond y (cond z rest (turned_down StateLimit)) (turned_down WordOrder)) (turned_down ListedWord) ≡ turned_down c
      go false y z e = cc
      go true false z e = cc
      go true true false e = cc
      go true true true e = absurd (cc)

  -- with a word that earns nothing the list keeps the rules, and the rest decides
  pub record Passed (m : ℕ) : Type 0 where
    pub on : judged before w rest ≡ rest
    pub holds : good_word w ≡ true
    pub above : rises p w ≡ true
    pub count : m ≡ length (beginnings (before ++ (w ∷ [])))
    pub kept : Kept before → Kept (before ++ (w ∷ []))

  pub judged-passed : (m : ℕ) → word_listing p w (length (beginnings before)) ≡ Ok m → Passed m
  judged-passed m e = go (good_word w) (rises p w) (leb n most_states) refl refl refl e
    where
      go : (x y z : Bool) → good_word w ≡ x → rises p w ≡ y → leb n most_states ≡ z
          → cond x (cond y (cond z (Ok n) (Err StateLimit)) (Err WordOrder)) (Err ListedWord) ≡ Ok m → Passed m
      go false y z a b d e = absurd (cc)
      go true false z a b d e = absurd (cc)
      go true true false a b d e = absurd (cc)
      go true true true a b d e =
          let f : n ≡ m = cc in
          record {
            on = judged-is ∙ rw (a, b, d);
            holds = a;
            above = b;
            count = sym f ∙ sym (grown-is before w);
            kept = λ K. kept_more before w K a (follows-last before w a ∙ b) (omega (arith, grown-is before w, leb-true n most_states d));
          }

-- what the check tells of a word, by its three tests
pub listing-by : (p w : Word) (n : ℕ) (x y z : Bool) → good_word w ≡ x → rises p w ≡ y → leb (grown p w n) most_states ≡ z
    → word_listing p w n ≡ cond x (cond y (cond z (Ok (grown p w n)) (Err StateLimit)) (Err WordOrder)) (Err ListedWord)
listing-by p w n x y z a b d = rw (a, b, d)

-- The words so far: the last one, the bytes that are left, and the states of their tree.

pub record ReadTo (bytes : List ℕ) (before : List Word) (last : Word) (rest : List ℕ) (states : ℕ) : Type 0 where
  pub kept : Kept before
  pub left : Read before rest (lexicon bytes)
  pub is_last : last ≡ last_word [] before
  pub count : states ≡ length (beginnings before)

pub read_none : (bytes : List ℕ) → ReadTo bytes [] [] bytes 1
unfolding beginnings lexicon
read_none bytes =
    record {
      kept = kept-none;
      left = record { steps = length bytes; enough = omega arith; comes = refl };
      is_last = refl;
      count = refl;
    }

module _ (bytes : List ℕ) (before : List Word) (last : Word) (rest : List ℕ) (states : ℕ) (R : ReadTo bytes before last rest states) where
  pub read_done : length rest ≡ 0 → lexicon bytes ≡ words before
  unfolding lexicon_from
  read_done h = R.left.comes ∙ go rest R.left.steps h
    where
      go : (r : List ℕ) (f : ℕ) → length r ≡ 0 → lexicon_from before (items_in f r) ≡ words before
      go [] zero h = refl
      go [] (suc f) h = refl
      go (m ∷ r) f h = absurd (omega arith)

  pub read-cut : IsCut rest → (length rest ≡ 0 → ⊥) → lexicon bytes ≡ turned_down ListedWord
  unfolding lexicon_from
  read-cut cut h = R.left.comes ∙ go rest R.left.steps cut h R.left.enough
    where
      go : (r : List ℕ) (f : ℕ) → IsCut r → (length r ≡ 0 → ⊥) → length r ≤ f → lexicon_from before (items_in f r) ≡ turned_down ListedWord
      go [] f at_end h l = absurd (h refl)
      go (m ∷ r) zero (at_short _ _ s) h l = absurd (omega arith)
      go (m ∷ r) (suc f) (at_short _ _ s) h l = rw (lt-leb m (length r) s)

  -- a word with all its letters
  module _ (w : Word) (after : List ℕ) (here : rest ≡ length w ∷ (w ++ after)) where
    whole-next : (f : ℕ) × (suc f ≡ R.left.steps) × (lexicon bytes ≡ judged before w (lexicon_from (before ++ (w ∷ [])) (items_in f after)))
    unfolding lexicon_from
    whole-next = go R.left.steps refl (R.left.comes ∙ ap (λ (r : List ℕ). lexicon_from before (items_in R.left.steps r)) here)
      where
        go : (f : ℕ) → f ≡ R.left.steps → lexicon bytes ≡ lexicon_from before (items_in f (length w ∷ (w ++ after)))
            → (f : ℕ) × (suc f ≡ R.left.steps) × (lexicon bytes ≡ judged before w (lexicon_from (before ++ (w ∷ [])) (items_in f after)))
        go zero g e = absurd (omega (arith, g, R.left.enough, ap length here))
        go (suc f) g e = (f, g, e ∙ ap (lexicon_from before) (item-whole f w after))

    told_is : word_listing last w states ≡ word_listing (last_word [] before) w (length (beginnings before))
    told_is = ap₂ (λ (p : Word) (n : ℕ). word_listing p w n) R.is_last R.count

    pub read-fault : (c : InputCause) → word_listing last w states ≡ Err c → lexicon bytes ≡ turned_down c
    read-fault c e = let N = whole-next in N.2 ∙ judged-fault before w _ c (sym told_is ∙ e)

    pub read_more : (n : ℕ) → word_listing last w states ≡ Ok n → ReadTo bytes (before ++ (w ∷ [])) w after n
    read_more n e =
        let N = whole-next in
        let P = judged-passed before w (lexicon_from (before ++ (w ∷ [])) (items_in N.0 after)) n (sym told_is ∙ e) in
        record {
          kept = P.kept R.kept;
          left = record { steps = N.0; enough = omega (arith, N.1, R.left.enough, ap length here, length-append w after); comes = N.2 ∙ P.on };
          is_last = sym (last_word-snoc before [] w);
          count = P.count;
        }

    -- in a list that is not turned down it earns nothing
    pub record Next : Type 0 where
      pub holds : good_word w ≡ true
      pub above : rises (last_word [] before) w ≡ true
      pub read : ReadTo bytes (before ++ (w ∷ [])) w after (length (beginnings (before ++ (w ∷ []))))

    pub read_next : (ws : List Word) → lexicon bytes ≡ words ws → Next
    read_next ws e = go (word_listing last w states) refl
      where
        go : (x : Result ℕ InputCause) → word_listing last w states ≡ x → Next
        go (Err c) f = let g : words ws ≡ turned_down c = sym e ∙ read-fault c f in absurd (cc)
        go (Ok m) f =
            let P = judged-passed before w (turned_down ListedWord) m (sym told_is ∙ f) in
            record { holds = P.holds; above = P.above; read = subst (λ (k : ℕ). ReadTo bytes (before ++ (w ∷ [])) w after k) P.count (read_more m f) }

  -- where no word is left, they are all
  pub read_all : (ws : List Word) → lexicon bytes ≡ words ws → IsCut rest → lexicon bytes ≡ words before
  read_all ws e cut = go (eqb (length rest) 0) refl
    where
      go : (b : Bool) → eqb (length rest) 0 ≡ b → lexicon bytes ≡ words before
      go true f = read_done (eqb-true (length rest) 0 f)
      go false f = let g : words ws ≡ turned_down ListedWord = sym e ∙ read-cut cut (eqb-false (length rest) 0 f) in absurd (cc)
