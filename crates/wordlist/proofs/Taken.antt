-- The list of a text that is taken: its words, their order, and that it is kept.
use Prim.Native.Nat.{ℕ}
use mathlib.Core.Path.{◌≡◌, refl, sym, subst}
use mathlib.Core.Logic.{◌↔◌}
use mathlib.Core.Bool.{true}
use mathlib.Core.List.Memᴰ
use mathlib.Core.List.{List, map, Memᴰ}
use Rattle.graph.specs.Lists.{Distinct}
use Rattle.lexicon.specs.Words.{Word, good_word, list_holds}
use Rattle.lexicon.specs.Beginnings.{RisingWords}
use Rattle.lexicon.specs.FirstBad.{Kept}
use Rattle.wordlist_lines.specs.Lines.{Line, held_lines}
use Rattle.wordlist_spelling.specs.Facts.{Spells}
use Rattle.wordlist_sorted.specs.Sorted.{GoodWords}
use Rattle.wordlist_sorted.proofs.Headlines.{sorted_rises, sorted-members, sorted-once, sorted-holds}
use Rattle.wordlist.specs.Facts.{word_of, TakenLines}
use Rattle.wordlist.proofs.LineWords.{spells_one, held-good}

module _ (text : List ℕ) (ws : List Word) (T : TakenLines (held_lines text) ws) where
  abbrev found : List Word
  found = map word_of (held_lines text)

  pub list-words : (w : Word) → Memᴰ w ws ↔ ((l : Line) × Memᴰ l (held_lines text) × Spells w l.text)
  list-words w = (
    λ m.
        let L = Memᴰ.of_map word_of (held_lines text) ((sorted-members w found).0 (subst (λ (vs : List Word). Memᴰ w vs) T.sorted-is m)) in
        (L.0, L.1, subst (λ (v : Word). Spells v L.0.text) L.2 (T.words L.0 L.1).0),
    λ L.
        let same : w ≡ word_of L.0 = spells_one (T.words L.0 L.1).0 L.2 refl in
        subst (λ (vs : List Word). Memᴰ w vs) (sym T.sorted-is)
        ((sorted-members w found).1 (subst (λ (v : Word). Memᴰ v found) (sym same) (Memᴰ.map word_of L.1))),
  )

  pub list-rises : RisingWords ws
  list-rises = subst RisingWords (sym T.sorted-is) (sorted_rises found)

  pub list-once : Distinct ws
  list-once = subst Distinct (sym T.sorted-is) (sorted-once found)

  found-good : GoodWords found
  found-good w m =
      let L = Memᴰ.of_map word_of (held_lines text) m in
      subst (λ (v : Word). good_word v ≡ true) L.2 (held-good text L.0 L.1 (T.words L.0 L.1))

  pub list-kept : Kept ws
  list-kept = record { holds = subst (λ (vs : List Word). list_holds vs ≡ true) (sym T.sorted-is) (sorted-holds found found-good); few = T.few }
