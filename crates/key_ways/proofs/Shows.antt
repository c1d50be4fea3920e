-- A key over the letter tree's table of a list of words is no refusal, and shows the ways to cut the word.
use Prim.Native.Nat.{ℕ, ◌*◌, ◌≤◌, ◌<◌}
use native.Mathlib.Omega.{arith}
use mathlib.Core.Path.{◌≡◌, refl, sym, ap, subst, subst₂, ◌∙◌}
use mathlib.Core.Logic.{◌⊎◌, inl, inr, ⊎_elim}
use mathlib.Core.Bool.{Bool, true, false}
use mathlib.Core.List.{List, [], ◌∷◌, ◌++◌}
use lib.Dec.{ltb}
use lib.ListN.{length, length-append, length-map, length-replicate}
use borrow.Author.Tests.{ltb-true, ltb-false}
use Rattle.refusal.specs.declared.Refusal.{Refusal}
use Rattle.faces.specs.Lent.{most_readings}
use Rattle.table_format.specs.Table.{Table}
use Rattle.table_format.specs.Loaded.{cells_of}
use Rattle.machine.specs.declared.Started.{Started}
use Rattle.machine.specs.Query.{Query, word_holds, most_ceiling}
use Rattle.machine.specs.Tour.{tree_size}
use Rattle.machine.specs.Asked.{runs}
use Rattle.machine.specs.Stack.{frame_width, room_in}
use Rattle.machine.specs.Start.{StartedIs}
use Rattle.machine.specs.Demand.{Lent, Handed, Demand3}
use Rattle.machine.proofs.Headlines as machines
use Rattle.session_calls.specs.Calls.{most_calls}
use Rattle.lexicon.specs.Words.{Word}
use Rattle.lexicon.specs.FirstBad.{Kept}
use Rattle.trie_format.specs.Trie.{trie_table}
use Rattle.segmentation.specs.Ways.{ways_to_cut, joined}
use Rattle.segmentation.proofs.Caller.{CutsTold, caller_cuts}
use Rattle.key_sheet.specs.Key.{Key, key, refused, stack_frames, output_letters, first_stack, first_output, start_of, key_of}
use Rattle.key_ways.specs.Shows.{CallsShow, CallsTell, KeyCalls, spent_steps, key_query, key_machine, KeyShows}
use Rattle.key_ways.proofs.KeyCalls.{key-calls}
use Rattle.key_ways.proofs.Never.{all-ample, none-refused}

first-room : room_in first_stack ≡ stack_frames
first-room = omega (arith, length-replicate {A = ℕ} (stack_frames * frame_width) 0)

module _ (ws : List Word) (K : Kept ws) (rest : List ℕ) (x : ℕ) (v : Word) (good : word_holds (x ∷ v) ≡ true) where
  abbrev cells : List ℕ
  cells = cells_of (trie_table ws) ++ rest

  abbrev w : Word
  w = x ∷ v

  abbrev s : Started
  s = start_of cells w

  S : StartedIs s s
  S = (refl, refl, refl, refl)

  told : CutsTold ws cells w most_ceiling s S
  told = caller_cuts ws K rest x v good most_ceiling (omega arith) s S

  demand : (xs : List Lent) → Handed w [] cells s.run [] xs → Demand3 w [] (trie_table ws) (key_query w) s.run xs
  demand =
      let D = machines.demand-three cells 2 w [] most_ceiling s S told.ready in
      let e : runs D.0 D.1 ≡ runs (trie_table ws) (key_query w) = sym D.2 ∙ told.end-comes.asked_is in
      let t : D.0 ≡ trie_table ws = cc in
      let q : D.1 ≡ key_query w = cc in
      subst₂ (λ (t : Table) (q : Query). (xs : List Lent) → Handed w [] cells s.run [] xs → Demand3 w [] t q s.run xs) t q D.3

  behind : KeyCalls cells w s.run (key_of cells w)
  behind = key-calls cells w s S told.ready

  at-limit : (rs : List (List ℕ)) → CallsShow w most_readings most_calls s.run behind.calls rs false → (length rs ≡ most_readings) ⊎ (spent_steps ≤ tree_size (key_machine ws w))
  at-limit rs T = go (ltb (length rs) most_readings) refl
    where
      go : (b : Bool) → ltb (length rs) most_readings ≡ b → (length rs ≡ most_readings) ⊎ (spent_steps ≤ tree_size (key_machine ws w))
      go true e = ⊎_elim inl (λ l. inr (omega (arith, ltb-true (length rs) most_readings e, T.steps-made refl, (demand behind.calls behind.handed).inside-tree))) (T.more-is refl)
      go false e = inl (omega (arith, ltb-false (length rs) most_readings e, T.few-readings))

  shows : (k : Key) → CallsTell w most_readings most_calls s.run behind.calls k → KeyShows ws w k
  shows (refused r) T =
      absurd (none-refused ws K x v good cells behind.calls 0 s.run r (demand behind.calls behind.handed).tells
      (all-ample ws K x v good cells behind.calls s.run first_stack first_output first-room (length-replicate {A = ℕ} output_letters 0) behind.lending) T)
  shows (key rs ended) T =
      let F = told.so_far_lem behind.calls behind.handed in
      record {
        readings = rs;
        ended = ended;
        is = refl;
        few = T.few-readings;
        more = F.0;
        first-ways = ap (λ (l : List (List ℕ)). l ++ F.0) (sym T.same) ∙ F.1;
        all_ways = λ e. sym T.same ∙ told.ended behind.calls behind.handed (T.end_is e);
        limit = λ e. at-limit rs (subst (CallsShow w most_readings most_calls s.run behind.calls rs) e T);
      }

  pub key-shows : KeyShows ws w (key_of cells w)
  key-shows = shows (key_of cells w) behind.tell

  pub never-refused : (r : Refusal) → key_of cells w ≡ refused r → ⊥
  never-refused r e = let k : ◌≡◌ {A = ℕ} 0 1 = (let f = key-shows.is in cc) in omega arith

-- a key that shows fewer than 1,000 ways of a smaller tree ended
pub end-comes : (ws : List Word) (w : Word) (k : Key) (S : KeyShows ws w k) → length (ways_to_cut ws w) < most_readings → tree_size (key_machine ws w) < spent_steps → S.ended ≡ true
end-comes ws w k S few small = go S.ended refl
  where
    go : (b : Bool) → S.ended ≡ b → b ≡ true
    go true e = refl
    go false e =
        absurd (⊎_elim (λ l. omega (arith, ap length S.first-ways, length-append S.readings S.more, length-map (ways_to_cut ws w) joined)) (λ l. omega arith) (S.limit e))
