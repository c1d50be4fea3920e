-- Worked examples: eight words, of which a compound can be cut in two ways, and a small list with its table.
use Prim.Native.Nat.{◌-◌}
use Prim.Native.Char.{code}
use Prim.Native.String.{String, [] as []ᶜ, ◌∷◌ as ◌∷ᶜ◌}
use mathlib.Core.Path.{◌≡◌, refl}
use mathlib.Core.Bool.{true}
use mathlib.Core.List.{List, [], ◌∷◌, map}
use Rattle.table_format.specs.Classes.{no_classes}
use Rattle.table_format.specs.Rules.{each}
use Rattle.table_format.specs.Cells.{arc_as}
use Rattle.lexicon.specs.Words.{Word, list_holds}
use Rattle.lexicon.specs.Beginnings.{beginnings}
use Rattle.trie_format.specs.Trie.{letter_arcs, trie_table}
use Rattle.segmentation.specs.Ways.{cuts_from, ways_to_cut, joined}

-- a = 1 to z = 26
abbrev word : String → Word
word []ᶜ = []
word (c ∷ᶜ s) = (code c - 96) ∷ word s

abbrev eight : List Word
eight = map word ("becken" ∷ "ecken" ∷ "stau" ∷ "staub" ∷ "stube" ∷ "tube" ∷ "wach" ∷ "wachs" ∷ [])

eight-holds : list_holds eight ≡ true
unfolding each
eight-holds = refl

staubecken : ways_to_cut eight (word "staubecken") ≡ (word "staub" ∷ word "ecken" ∷ []) ∷ (word "stau" ∷ word "becken" ∷ []) ∷ []
unfolding cuts_from
staubecken = refl

wachstube : ways_to_cut eight (word "wachstube") ≡ (word "wachs" ∷ word "tube" ∷ []) ∷ (word "wach" ∷ word "stube" ∷ []) ∷ []
unfolding cuts_from
wachstube = refl

-- The list 1, 12, 2 and the word 12.

abbrev three : List Word
three = (1 ∷ []) ∷ (1 ∷ 2 ∷ []) ∷ (2 ∷ []) ∷ []

three-table : trie_table three
    ≡ record {
      states = 4;
      classes = no_classes;
      initials = 0 ∷ [];
      terminals = 1 ∷ 2 ∷ 3 ∷ [];
      arcs = arc_as 0 1 1 1 ∷ arc_as 0 2 2 3 ∷ arc_as 1 2 2 2 ∷ arc_as 1 0 63 0 ∷ arc_as 2 0 63 0 ∷ arc_as 3 0 63 0 ∷ [];
    }
unfolding beginnings letter_arcs
three-table = refl

three-readings : map joined (ways_to_cut three (1 ∷ 2 ∷ [])) ≡ (1 ∷ 2 ∷ []) ∷ (1 ∷ 63 ∷ 2 ∷ []) ∷ []
unfolding cuts_from
three-readings = refl
