-- What lines come to, computed and by facts: both agree.
use Prim.Native.Nat.{◌≤◌}
use native.Mathlib.Omega.{arith}
use mathlib.Core.Path.{◌≡◌, refl, sym, ap, subst, ◌∙◌}
use mathlib.Core.Logic.{inl, inr, ⊎_elim, ◌↔◌}
use mathlib.Core.Bool.{Bool, true, false, cond}
use mathlib.Core.List.Memᴰ
use mathlib.Core.List.{List, [], ◌∷◌, ◌++◌, map, append_assoc, append-nil, map-append, Memᴰ}
use lib.Dec.{leb}
use lib.ListN.{length}
use borrow.Author.Tests.{le-leb, lt-leb, leb-true, leb-false}
use Rattle.lexicon.specs.Words.{Word}
use Rattle.lexicon.specs.Beginnings.{beginnings}
use Rattle.lexicon.specs.Lexicon.{most_states}
use Rattle.lexicon.proofs.Lexicon.{kept-none}
use Rattle.wordlist_lines.specs.Lines.{Line}
use Rattle.std.specs.Prelude.{Some, None}
use Rattle.wordlist_spelling.specs.declared.FaultKind.TheVariants.{NoLetter, TooLong}
use Rattle.wordlist_spelling.specs.Spelled.{Ending, spelled}
use Rattle.wordlist_sorted.specs.Sorted.{inserted, sorted_onto, sorted}
use Rattle.wordlist_sorted.proofs.Growth.{onto-more}
use Rattle.wordlist.specs.Gathered.{Fate, taken, bad_word, too_many, fate_by, fate_from}
use Rattle.wordlist.specs.Facts.{IsWord, word_of, TakenLines, FirstFault, ComesTo}
use Rattle.wordlist.proofs.LineWords.{whole_word, word-ends, fault_no_word, no_word-fault}

-- Lines that make a list.

taken_none : TakenLines [] []
unfolding sorted
taken_none = record { words = λ l m. absurd (Memᴰ.not-nil m); sorted-is = refl; few = kept-none.few }

onto-snoc : (vs ws : List Word) (w : Word) → sorted_onto ws (vs ++ (w ∷ [])) ≡ inserted w (sorted_onto ws vs)
onto-snoc [] ws w = refl
onto-snoc (v ∷ vs) ws w = onto-snoc vs (inserted v ws) w

-- one line more
taken_more : (ls : List Line) (ws : List Word) (l : Line) → TakenLines ls ws → IsWord l (word_of l) → length (beginnings (inserted (word_of l) ws)) ≤ most_states
    → TakenLines (ls ++ (l ∷ [])) (inserted (word_of l) ws)
unfolding sorted
taken_more ls ws l T h few =
    record {
      words =
          λ x m.
          ⊎_elim (T.words x) (λ k. subst (λ (y : Line). IsWord y (word_of y)) (sym (Memᴰ.eq_of_singleton k)) h) (Memᴰ.append_cases ls m);
      sorted-is = ap (inserted (word_of l)) T.sorted-is ∙ sym (ap sorted (map-append word_of ls (l ∷ [])) ∙ onto-snoc (map word_of ls) [] (word_of l));
      few = few;
    }

-- What is computed is so.

comes-from : (ls before : List Line) (ws : List Word) → TakenLines before ws → ComesTo (before ++ ls) (fate_from ws ls)
unfolding fate_from
comes-from [] before ws T = subst (λ (ls : List Line). TakenLines ls ws) (sym (append-nil before)) T
comes-from (l ∷ ls) before ws T = go (spelled l.text).ending refl (comes-from ls (before ++ (l ∷ [])) (inserted (word_of l) ws))
  where
    first : {Fault : Line → List Word → Type 0} → Fault l ws → FirstFault Fault (before ++ (l ∷ ls)) l ws
    first f = record { before = before; after = ls; cut = refl; made = T; fault = f }

    by-states : (b : Bool) → IsWord l (word_of l) → leb (length (beginnings (inserted (word_of l) ws))) most_states ≡ b
        → (TakenLines (before ++ (l ∷ [])) (inserted (word_of l) ws) → ComesTo ((before ++ (l ∷ [])) ++ ls) (fate_from (inserted (word_of l) ws) ls))
        → ComesTo (before ++ (l ∷ ls)) (cond b (fate_from (inserted (word_of l) ws) ls) (too_many l ws))
    by-states true h t G =
        subst (λ (k : List Line). ComesTo k (fate_from (inserted (word_of l) ws) ls)) (append_assoc before (l ∷ []) ls)
        (G (taken_more before ws l T h (leb-true _ most_states t)))
    by-states false h t G = first (h, leb-false _ most_states t)

    go : (e : Ending) → (spelled l.text).ending ≡ e
        → (TakenLines (before ++ (l ∷ [])) (inserted (word_of l) ws) → ComesTo ((before ++ (l ∷ [])) ++ ls) (fate_from (inserted (word_of l) ws) ls))
        → ComesTo (before ++ (l ∷ ls)) (fate_by e l ws (word_of l) (λ vs. fate_from vs ls))
    go None e G = by-states (leb (length (beginnings (inserted (word_of l) ws))) most_states) (whole_word l e) refl G
    go (Some NoLetter) e G = first (fault_no_word l ws (inl e))
    go (Some TooLong) e G = first (fault_no_word l ws (inr e))

-- Nothing else is so: lines that make a list are gone through, whatever follows.

by-ending : (l : Line) (ws : List Word) (ls : List Line) (e : Ending) → (spelled l.text).ending ≡ e
    → fate_from ws (l ∷ ls) ≡ fate_by e l ws (word_of l) (λ vs. fate_from vs ls)
unfolding fate_from
by-ending l ws ls e q = ap (λ (x : Ending). fate_by x l ws (word_of l) (λ vs. fate_from vs ls)) q

by_word : (l : Line) (ws : List Word) (ls : List Line) (b : Bool) → IsWord l (word_of l) → leb (length (beginnings (inserted (word_of l) ws))) most_states ≡ b
    → fate_from ws (l ∷ ls) ≡ cond b (fate_from (inserted (word_of l) ws) ls) (too_many l ws)
by_word l ws ls b h t =
    by-ending l ws ls None (word-ends l (word_of l) h) ∙ ap (λ (x : Bool). cond x (fate_from (inserted (word_of l) ws) ls) (too_many l ws)) t

goes_on : (ls after : List Line) (ws : List Word) → ((l : Line) → Memᴰ l ls → IsWord l (word_of l))
    → length (beginnings (sorted_onto ws (map word_of ls))) ≤ most_states → fate_from ws (ls ++ after) ≡ fate_from (sorted_onto ws (map word_of ls)) after
goes_on [] after ws h few = refl
goes_on (l ∷ ls) after ws h few =
    let most : length (beginnings (inserted (word_of l) ws)) ≤ most_states = omega (arith, onto-more (map word_of ls) (inserted (word_of l) ws)) in
    by_word l ws (ls ++ after) true (h l (Memᴰ.head refl)) (le-leb _ most_states most)
    ∙ goes_on ls after (inserted (word_of l) ws) (λ k m. h k (Memᴰ.tail m)) few

made-goes_on : (ls after : List Line) (ws : List Word) → TakenLines ls ws → fate_from [] (ls ++ after) ≡ fate_from ws after
unfolding sorted
made-goes_on ls after ws T =
    goes_on ls after [] T.words (subst (λ (vs : List Word). length (beginnings vs) ≤ most_states) T.sorted-is T.few)
    ∙ ap (λ (vs : List Word). fate_from vs after) (sym T.sorted-is)

first-told : {Fault : Line → List Word → Type 0} (ls : List Line) (l : Line) (ws : List Word) (f : Fate) → (F : FirstFault Fault ls l ws)
    → fate_from ws (l ∷ F.after) ≡ f → fate_from [] ls ≡ f
first-told ls l ws f F e = ap (fate_from []) F.cut ∙ made-goes_on F.before (l ∷ F.after) ws F.made ∙ e

told : (ls : List Line) (f : Fate) → ComesTo ls f → fate_from [] ls ≡ f
unfolding fate_from
told ls (taken ws) T = ap (fate_from []) (sym (append-nil ls)) ∙ made-goes_on ls [] ws T
told ls (bad_word l ws) F =
    first-told ls l ws (bad_word l ws) F (⊎_elim (by-ending l ws F.after (Some NoLetter)) (by-ending l ws F.after (Some TooLong)) (no_word-fault l ws F.fault))
told ls (too_many l ws) F = first-told ls l ws (too_many l ws) F (by_word l ws F.after false F.fault.0 (lt-leb _ most_states F.fault.1))

pub comes-to : (ls : List Line) (f : Fate) → (fate_from [] ls ≡ f) ↔ ComesTo ls f
comes-to ls f = (λ e. subst (ComesTo ls) e (comes-from ls [] [] taken_none), told ls f)
