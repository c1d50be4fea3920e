-- What a caller gets from a start and the calls after it, over the cells of the letter tree's table.
use Prim.Native.Nat.{ℕ, ◌≤◌}
use mathlib.Core.Path.{◌≡◌, sym, ap, subst₂, ◌∙◌}
use mathlib.Core.Bool.{true}
use mathlib.Core.List.{List, [], ◌∷◌, ◌++◌, map}
use lib.ListN.{take, drop, take-append-drop}
use borrow.Author.Tests.{le-leb}
use Rattle.table_format.specs.Table.{Table}
use Rattle.table_format.specs.Loaded.{cells_of}
use Rattle.machine.specs.declared.Started.{Started}
use Rattle.machine.specs.declared.StartAnswer.TheVariants.{Ready}
use Rattle.machine.specs.Query.{Query, synthesis, word_holds, most_ceiling, synthesis_of}
use Rattle.machine.specs.Tour.{Entry, tour, readings}
use Rattle.machine.specs.Asked.{runs, asked}
use Rattle.machine.specs.Start.{started, StartedIs}
use Rattle.machine.specs.Demand.{Lent, Handed, received, steps_told, LastEnds, Demand3}
use Rattle.machine.proofs.Call.{readings-append}
use Rattle.machine.proofs.Headlines as machines
use Rattle.lexicon.specs.Words.{Word}
use Rattle.lexicon.specs.Beginnings.{beginnings}
use Rattle.lexicon.specs.FirstBad.{Kept}
use Rattle.trie_format.specs.Trie.{trie_table}
use Rattle.trie_format.proofs.Names.{names}
use Rattle.trie_format.proofs.Headlines.{trie_loaded}
use Rattle.segmentation.specs.Ways.{ways_to_cut, joined}
use Rattle.segmentation.specs.Readings.{tree_machine, tree_readings}
use Rattle.segmentation.proofs.Cuts.{cuts-on}
use Rattle.segmentation.proofs.Idle.{no_idle-cycle}

module _ (ws : List Word) (cells : List ℕ) (w : Word) (ceiling : ℕ) (s : Started) (S : StartedIs (started cells 2 w [] ceiling) s) where
  pub record CutsTold : Type 0 where
    -- a start without a refusal
    pub ready : s.answer ≡ Ready
    -- calls that are handed on as demand 3 says bring the first of the ways, in order,
    pub so_far_lem : (xs : List Lent) → Handed w [] cells s.run [] xs → (more : List Word) × (received w [] s.run xs ++ more ≡ map joined (ways_to_cut ws w))
    -- and all of them where the last call answers Ended
    pub ended : (xs : List Lent) → Handed w [] cells s.run [] xs → LastEnds w [] s.run xs → received w [] s.run xs ≡ map joined (ways_to_cut ws w)
    -- which it does after enough calls with room enough
    pub end-comes : machines.EndComes cells w [] 2 ceiling s S (trie_table ws) (synthesis_of w ceiling)

module _ (ws : List Word) (K : Kept ws) (rest : List ℕ) (x : ℕ) (v : Word) (good : word_holds (x ∷ v) ≡ true) (ceiling : ℕ) (low : ceiling ≤ most_ceiling) where
  abbrev cells : List ℕ
  cells = cells_of (trie_table ws) ++ rest

  abbrev w : Word
  w = x ∷ v

  asked_is : asked cells 2 w [] ceiling ≡ runs (trie_table ws) (synthesis_of w ceiling)
  unfolding asked
  asked_is = rw (trie_loaded ws K rest, good, le-leb ceiling most_ceiling low)

  -- nothing else is asked
  only : (t : Table) (q : Query) → asked cells 2 w [] ceiling ≡ runs t q → (t ≡ trie_table ws) × (q ≡ synthesis_of w ceiling)
  only t q e = let f : runs t q ≡ runs (trie_table ws) (synthesis_of w ceiling) = sym e ∙ asked_is in (cc, cc)

  all_told : tree_readings ws w ceiling ≡ map joined (ways_to_cut ws w)
  all_told = cuts-on ws (beginnings ws) (names ws K.holds) x v ceiling

  -- the readings of some entries and of the others
  split : (n : ℕ) (es : List Entry) → readings (tree_machine ws w ceiling) (take n es) ++ readings (tree_machine ws w ceiling) (drop n es) ≡ readings (tree_machine ws w ceiling) es
  split n es = sym (readings-append (tree_machine ws w ceiling) (take n es) (drop n es)) ∙ ap (readings (tree_machine ws w ceiling)) (take-append-drop n es)

  pub caller_cuts : (s : Started) (S : StartedIs (started cells 2 w [] ceiling) s) → CutsTold ws cells w ceiling s S
  caller_cuts s S = record { ready = ready; so_far_lem = so_far_lem; ended = ended; end-comes = end-comes }
    where
      ready : s.answer ≡ Ready
      ready = (machines.ready-is cells 2 w [] ceiling s S).1 (trie_table ws, synthesis_of w ceiling, asked_is, no_idle-cycle ws (beginnings ws) (names ws K.holds) synthesis)

      demand : (xs : List Lent) → Handed w [] cells s.run [] xs → Demand3 w [] (trie_table ws) (synthesis_of w ceiling) s.run xs
      demand =
          let D = machines.demand-three cells 2 w [] ceiling s S ready in
          let O = only D.0 D.1 D.2 in
          subst₂ (λ (t : Table) (q : Query). (xs : List Lent) → Handed w [] cells s.run [] xs → Demand3 w [] t q s.run xs) O.0 O.1 D.3

      so_far_lem : (xs : List Lent) → Handed w [] cells s.run [] xs → (more : List Word) × (received w [] s.run xs ++ more ≡ map joined (ways_to_cut ws w))
      so_far_lem xs H =
          let n = steps_told w [] s.run xs in
          let left = readings (tree_machine ws w ceiling) (drop n (tour (tree_machine ws w ceiling))) in
          (left, ap (λ (l : List Word). l ++ left) (demand xs H).same-readings ∙ split n (tour (tree_machine ws w ceiling)) ∙ all_told)

      ended : (xs : List Lent) → Handed w [] cells s.run [] xs → LastEnds w [] s.run xs → received w [] s.run xs ≡ map joined (ways_to_cut ws w)
      ended xs H L = machines.ended-whole w [] (trie_table ws) (synthesis_of w ceiling) s.run xs (demand xs H) L ∙ all_told

      end-comes : machines.EndComes cells w [] 2 ceiling s S (trie_table ws) (synthesis_of w ceiling)
      end-comes =
          let E = machines.end-comes cells w [] 2 ceiling s S ready in
          let O = only E.0 E.1 E.2.asked_is in
          subst₂ (λ (t : Table) (q : Query). machines.EndComes cells w [] 2 ceiling s S t q) O.0 O.1 E.2
