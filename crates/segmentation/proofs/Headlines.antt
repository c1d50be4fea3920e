-- The theorems about cutting a word into listed words, stated together. What each one means is in specs/; how it is shown is in the files that it
-- names. `list_holds` says that no word of a list earns 30 or 31, `Kept` that it does not earn 32 either.
use Prim.Native.Nat.{ℕ, ◌≤◌}
use mathlib.Core.Path.{◌≡◌, refl, sym, subst}
use mathlib.Core.Logic.{◌↔◌}
use mathlib.Core.Bool.{true, false}
use mathlib.Core.List.Memᴰ
use mathlib.Core.List.{List, [], ◌∷◌, ◌++◌, map, Memᴰ}
use lib.ListN.{length, drop}
use Rattle.std.specs.Prelude.{Ok}
use Rattle.table_format.specs.Loaded.{cells_of}
use Rattle.table_format.proofs.All.{All}
use Rattle.graph.specs.Lists.{Distinct}
use Rattle.machine.specs.declared.Started.{Started}
use Rattle.machine.specs.Query as query
use Rattle.machine.specs.Query.{Task}
use Rattle.machine.specs.Idle.{NoIdleCycle, has_idle_cycle}
use Rattle.machine.specs.Start.{started, start_told_by, StartedIs}
use Rattle.machine.proofs.Headlines as machines
use Rattle.lexicon.specs.Words.{Word, good_word, list_holds}
use Rattle.lexicon.specs.Beginnings.{beginnings}
use Rattle.lexicon.specs.Lexicon.{TakenAs}
use Rattle.lexicon.specs.FirstBad.{Kept}
use Rattle.lexicon.proofs.Words.{mem-holds, no_empty}
use Rattle.lexicon.proofs.Headlines as lists
use Rattle.trie_format.specs.Trie.{trie_table}
use Rattle.trie_format.proofs.Names.{names}
use Rattle.trie_format.proofs.Ranks.{distinct-map}
use Rattle.trie_format.proofs.Headlines.{trie_rules}
use Rattle.trie.specs.Calls.{build_answer, build_cells}
use Rattle.trie.proofs.Headlines as tries
use Rattle.segmentation.specs.Ways.{ways_to_cut, joined, Way, Falling}
use Rattle.segmentation.specs.Readings.{tree_readings}
use Rattle.segmentation.proofs.Cuts as cutting
use Rattle.segmentation.proofs.WaysAre as ways
use Rattle.segmentation.proofs.Joined as joining
use Rattle.segmentation.proofs.Idle as idles
use Rattle.segmentation.proofs.Starts as starting
use Rattle.segmentation.proofs.Caller.{CutsTold}
use Rattle.segmentation.proofs.Caller as caller

-- Words with 63 between tell the words.
pub joined_injective : (z y : List Word) → All (λ w. good_word w ≡ true) z → All (λ w. good_word w ≡ true) y → joined z ≡ joined y → z ≡ y
joined_injective = joining.joined_injective

module _ (ws : List Word) (holds : list_holds ws ≡ true) where
  -- "The readings in synthesis of a word of one or more letters shall be all the ways to cut it into listed words", under any ceiling.
  pub cuts : (x : ℕ) (v : Word) (ceiling : ℕ) → tree_readings ws (x ∷ v) ceiling ≡ map joined (ways_to_cut ws (x ∷ v))
  cuts = cutting.cuts-on ws (beginnings ws) (names ws holds)

  -- A word of no letters has no reading.
  pub no_letters : (ceiling : ℕ) → tree_readings ws [] ceiling ≡ []
  no_letters = cutting.none-on ws (beginnings ws) (names ws holds)

  -- The ways are exactly the lists of listed words that make the word; they stand in order, the longer word first; no other list is so.
  pub ways-are : (w : Word) (z : List Word) → Memᴰ z (ways_to_cut ws w) ↔ Way ws w z
  ways-are = ways.ways-are ws (λ m. no_empty (mem-holds ws holds [] m))

  pub ways-in_order : (w : Word) → Falling (ways_to_cut ws w)
  ways-in_order = ways.ways_fall ws

  pub ways-only : (w : Word) (Z : List (List Word)) → Falling Z → ((z : List Word) → Memᴰ z Z ↔ Way ws w z) → Z ≡ ways_to_cut ws w
  ways-only w Z F h = ways.falling_unique Z (ways_to_cut ws w) F (ways-in_order w) (λ z. (λ m. (ways-are w z).1 ((h z).0 m), λ m. (h z).1 ((ways-are w z).0 m)))

  -- "each way once": none is repeated, and neither is its reading
  pub ways-differ : (w : Word) → Distinct (ways_to_cut ws w)
  ways-differ w = ways.falling_distinct (ways_to_cut ws w) (ways-in_order w)

  pub readings-are : (x : ℕ) (v : Word) (ceiling : ℕ) (r : Word) → Memᴰ r (tree_readings ws (x ∷ v) ceiling) ↔ ((z : List Word) × Way ws (x ∷ v) z × (joined z ≡ r))
  readings-are x v ceiling r = (
    λ m. let R = Memᴰ.of_map joined (ways_to_cut ws (x ∷ v)) (subst (λ (l : List Word). Memᴰ r l) (cuts x v ceiling) m) in (R.0, (ways-are (x ∷ v) R.0).0 R.1, R.2),
    λ R. subst (λ (l : List Word). Memᴰ r l) (sym (cuts x v ceiling))
        (subst (λ (a : Word). Memᴰ a (map joined (ways_to_cut ws (x ∷ v)))) R.2 (Memᴰ.map joined ((ways-are (x ∷ v) R.0).1 R.1))),
  )

  pub readings-differ : (x : ℕ) (v : Word) (ceiling : ℕ) → Distinct (tree_readings ws (x ∷ v) ceiling)
  readings-differ x v ceiling =
      subst (λ (l : List Word). Distinct l) (sym (cuts x v ceiling))
      (distinct-map joined (ways_to_cut ws (x ∷ v)) (λ a b m n e. joined_injective a b (words_hold_lem a (way a m)) (words_hold_lem b (way b n)) e) (ways-differ (x ∷ v)))
    where
      way : (z : List Word) → Memᴰ z (ways_to_cut ws (x ∷ v)) → (u : Word) → Memᴰ u z → Memᴰ u ws
      way z m = ((ways-are (x ∷ v) z).0 m).from_list

      words_hold_lem : (z : List Word) → ((u : Word) → Memᴰ u z → Memᴰ u ws) → All (λ w. good_word w ≡ true) z
      words_hold_lem [] h = tt
      words_hold_lem (u ∷ z) h = (mem-holds ws holds u (h u (Memᴰ.head refl)), words_hold_lem z (λ c m. h c (Memᴰ.tail m)))

  -- No task has an idle cycle on the tree's table,
  pub trie_no_cycle : (k : Task) → NoIdleCycle (trie_table ws) k
  trie_no_cycle = idles.no_idle-cycle ws (beginnings ws) (names ws holds)

-- so that no start is refused with 12, whatever the task, the words and the ceiling, and whatever stands behind the table's cells.
pub trie_starts : (ws : List Word) → Kept ws → (k : Task) → has_idle_cycle (trie_table ws) k ≡ false
trie_starts ws K k = (machines.cycle-test (trie_table ws) (trie_rules ws K) k).1 (trie_no_cycle ws K.holds k)

pub never-twelve : (ws : List Word) → Kept ws → (rest : List ℕ) (task : ℕ) (upper lower : List ℕ) (ceiling : ℕ) (s : Started)
    → StartedIs (started (cells_of (trie_table ws) ++ rest) task upper lower ceiling) s → (start_told_by s).number ≡ 12 → ⊥
never-twelve = starting.never-twelve

-- A CALLER, with bytes that are taken for a list, cells that begin with its table's, a word of 1 to 64 letters from 1 to 63 (63 is in no listed
-- word), and a ceiling of 100,000 or less (a higher one is refused with 39): the start is ready, any calls after it bring the first of the ways, all of them in order once one answers Ended, and the end comes.
pub caller_cuts : (bytes : List ℕ) (ws : List Word) → TakenAs bytes ws → (rest : List ℕ) (x : ℕ) (v : Word) → query.word_holds (x ∷ v) ≡ true
    → (ceiling : ℕ) → ceiling ≤ query.most_ceiling
    → (s : Started) (S : StartedIs (started (cells_of (trie_table ws) ++ rest) 2 (x ∷ v) [] ceiling) s) → CutsTold ws (cells_of (trie_table ws) ++ rest) (x ∷ v) ceiling s S
caller_cuts bytes ws e = caller.caller_cuts ws ((lists.taken bytes ws).0 e).0

-- FROM BYTES TO READINGS: a list that the builder has taken, a start over the cells that it left, and any calls after it.
pub built-cuts : (bytes d : List ℕ) (n : ℕ) → build_answer bytes d ≡ Ok n → (x : ℕ) (v : Word) → query.word_holds (x ∷ v) ≡ true
    → (ceiling : ℕ) → ceiling ≤ query.most_ceiling
    → (s : Started) (S : StartedIs (started (build_cells bytes d) 2 (x ∷ v) [] ceiling) s) → (ws : List Word) × TakenAs bytes ws × CutsTold ws (build_cells bytes d) (x ∷ v) ceiling s S
built-cuts bytes d n e x v good ceiling low =
    let R = (tries.build_is bytes d n).0 e in
    let ws = R.0 in
    let left = tries.build_leaves bytes d ws R.1 (subst (λ (k : ℕ). k ≤ length d) R.2 R.3) in
    subst (λ (c : List ℕ). (s : Started) (S : StartedIs (started c 2 (x ∷ v) [] ceiling) s) → (ws : List Word) × TakenAs bytes ws × CutsTold ws c (x ∷ v) ceiling s S) (sym left)
    (λ s S. (ws, R.1, caller_cuts bytes ws R.1 (drop (length (cells_of (trie_table ws))) d) x v good ceiling low s S))
