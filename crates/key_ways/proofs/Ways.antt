-- The readings of the ways to cut a word into the words of a list that holds.
use Prim.Native.Nat.{◌-◌, ◌*◌, ◌≤◌}
use mathlib.Core.Path.{◌≡◌, subst, ◌∙◌, sym, ap}
use mathlib.Core.Bool.{true}
use mathlib.Core.List.Memᴰ
use mathlib.Core.List.{List, map, Memᴰ}
use lib.ListN.{length}
use Rattle.table_format.proofs.All.{All, all_from}
use Rattle.faces.specs.Lent.{every, is_letter}
use Rattle.lexicon.specs.Words.{Word, good_word, list_holds}
use Rattle.lexicon.proofs.Words.{mem-holds}
use Rattle.segmentation.specs.Ways.{ways_to_cut, joined, together, Way}
use Rattle.segmentation.proofs.Headlines as cutting
use Rattle.key_ways.proofs.Joined.{uncut, joined_length, joined_letters_lem, joined-uncut}

module _ (ws : List Word) (holds : list_holds ws ≡ true) (w : Word) where
  pub words_hold_lem : (z : List Word) → Way ws w z → All (λ b. good_word b ≡ true) z
  words_hold_lem z W = all_from (λ b. good_word b ≡ true) z (λ b m. mem-holds ws holds b (W.from_list b m))

  -- a reading with the way that it shows
  pub record Reads (r : Word) : Type 0 where
    pub way : List Word
    pub is-way : Way ws w way
    pub is : joined way ≡ r

  pub reads : (r : Word) → Memᴰ r (map joined (ways_to_cut ws w)) → Reads r
  reads r m = let R = Memᴰ.of_map joined (ways_to_cut ws w) m in record { way = R.0; is-way = (cutting.ways-are ws holds w R.0).0 R.1; is = R.2 }

  module _ (r : Word) (R : Reads r) where
    good : All (λ b. good_word b ≡ true) R.way
    good = words_hold_lem R.way R.is-way

    pub reads-length : length r ≤ 2 * length w - 1
    reads-length = subst (λ (v : Word). length r ≤ 2 * length v - 1) R.is-way.whole (subst (λ (v : Word). length v ≤ 2 * length (together R.way) - 1) R.is (joined_length R.way good))

    pub reads-letters : every is_letter r ≡ true
    reads-letters = subst (λ (v : Word). every is_letter v ≡ true) R.is (joined_letters_lem R.way good)

    pub reads_word : uncut r ≡ w
    reads_word = sym (ap uncut R.is) ∙ joined-uncut R.way good ∙ R.is-way.whole
