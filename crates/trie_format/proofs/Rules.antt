-- The letter tree's table keeps the rules of a table; how many arcs and terminal states it has.
use Prim.Native.Nat.{ℕ, suc, ◌+◌, ◌*◌, ◌≤◌, ◌<◌}
use native.Mathlib.Omega.{arith}
use mathlib.Core.Path.{◌≡◌, refl, sym, ap, subst, ◌∙◌}
use mathlib.Core.Logic.{inl, inr, ⊎_elim}
use mathlib.Core.Bool.{Bool, true, false, cond, true≢false}
use mathlib.Core.List.Memᴰ
use mathlib.Core.List.{List, [], ◌∷◌, ◌++◌, map, append-nil, Memᴰ}
use lib.ListN.{length, get_or, length-append, length-map}
use Rattle.table_format.specs.Table.{Arc, without_penalty}
use Rattle.table_format.specs.Classes.{is_plain, no_classes}
use Rattle.table_format.specs.Rules.{keeps_rules}
use Rattle.table_format.specs.Ruled.{AtLeast}
use Rattle.table_format.specs.Loaded.{cells_of}
use Rattle.table_format.proofs.All.{All, all-mem, at_mem}
use Rattle.table_format.proofs.Classes.{classes-are, no_classes-keep}
use Rattle.table_format.proofs.ClassFaults.{plain-is}
use Rattle.table_format.proofs.Ruled.{kept}
use Rattle.table_format.proofs.Loaded.{length-cells}
use Rattle.graph.specs.Lists.{Distinct}
use Rattle.graph.proofs.Pigeon.{pigeon}
use Rattle.lexicon.specs.Words.{Word, listed}
use Rattle.trie_format.specs.Facts.{ByLetter, TreeArc, rank, Between}
use Rattle.trie_format.specs.Trie.{by_state, letter_arcs, cut_arc, arcs_of, table_on}
use Rattle.trie_format.proofs.Names.{ends, snoc-parts, Names}
use Rattle.trie_format.proofs.Ranks.{distinct-differ, distinct-map, all-by, between-by, between-rise, ranked_distinct}
use Rattle.trie_format.proofs.Shapes.{letter-above, letters_shape, arcs_shape, ends_shape, state-between, arcs-between}

-- sources do not fall where ranks rise
at_least : (l : List Arc) (s r m : ℕ) → s * 64 ≤ r → Between rank r m l → All (λ a. a.lower ≤ 63) l → AtLeast s l
at_least [] s r m h B p = tt
at_least (a ∷ l) s r m h B p = (omega (arith, B.0, p.0), at_least l a.source (suc (rank a)) m (omega arith) B.1 p.1)

module _ (ws bs : List Word) where
  -- How many.

  -- the arcs by letters
  abbrev letters_on : ℕ → List Word → List Arc
  letters_on = by_state (λ i b. letter_arcs bs i b 1 62)

  -- the others are as many as the word ends
  arcs-count : (names : List Word) (i : ℕ) → length (by_state (arcs_of ws bs) i names) ≡ length (letters_on i names) + length (ends (listed ws) i names)
  arcs-count [] i = refl
  arcs-count (b ∷ names) i = go (listed ws b) (arcs-count names (suc i))
    where
      go : (x : Bool) → length (by_state (arcs_of ws bs) (suc i) names) ≡ length (letters_on (suc i) names) + length (ends (listed ws) (suc i) names)
          → length ((letter_arcs bs i b 1 62 ++ cond x (cut_arc i ∷ []) []) ++ by_state (arcs_of ws bs) (suc i) names)
          ≡ length (letter_arcs bs i b 1 62 ++ letters_on (suc i) names) + length (cond x (i ∷ []) [] ++ ends (listed ws) (suc i) names)
      go true e = simp length-append (omega arith)
      go false e = simp length-append (omega arith)

  ends-few : (names : List Word) (i : ℕ) → length (ends (listed ws) i names) ≤ length names
  ends-few [] i = omega arith
  ends-few (b ∷ names) i = go (listed ws b) (ends-few names (suc i))
    where
      go : (x : Bool) → length (ends (listed ws) (suc i) names) ≤ length names → length (cond x (i ∷ []) [] ++ ends (listed ws) (suc i) names) ≤ suc (length names)
      go true h = omega arith
      go false h = omega arith

  letters_shapes : All (ByLetter bs) (letters_on 0 bs)
  letters_shapes = all-by (ByLetter bs) (λ i b. letter_arcs bs i b 1 62) bs (letters_shape bs)

  letters-distinct : Distinct (letters_on 0 bs)
  letters-distinct =
      ranked_distinct rank (letters_on 0 bs) (
        0 * 64,
        (0 + length bs) * 64,
        between-by rank (λ i b. letter_arcs bs i b 1 62) (λ s. s * 64)
            (λ i b. subst (λ (l : List Arc). Between rank (i * 64) (suc i * 64) l) (append-nil (letter_arcs bs i b 1 62)) (state-between bs i b [] (omega arith))) bs 0,
      )

  module _ (N : Names ws bs) (D : Distinct bs) where
    -- each leads to another state, none to the root
    same_target : (a c : Arc) → ByLetter bs a → ByLetter bs c → a.target ≡ c.target → a ≡ c
    same_target a c S T e =
        let P = snoc-parts (get_or bs a.source []) (get_or bs c.source []) a.lower c.lower (sym S.step ∙ ap (λ (z : ℕ). get_or bs z []) e ∙ T.step) in
        λ i.
        record {
          source = distinct-differ bs D [] a.source c.source S.source_in T.source_in P.0 i;
          upper = (S.same ∙ P.1 ∙ sym T.same) i;
          lower = P.1 i;
          target = e i;
          penalty = (S.no_penalty ∙ sym T.no_penalty) i;
        }

    letter_shape : (a : Arc) → Memᴰ a (letters_on 0 bs) → ByLetter bs a
    letter_shape = all-mem (ByLetter bs) (letters_on 0 bs) letters_shapes

    targets : List ℕ
    targets = map (λ a. a.target) (letters_on 0 bs)

    target_in : (s : ℕ) → Memᴰ s targets → (0 < s) × (s < length bs)
    unfolding targets
    target_in s m =
        let R = Memᴰ.of_map (λ (a : Arc). a.target) (letters_on 0 bs) m in
        let S = letter_shape R.0 R.1 in
        (omega (arith, R.2, letter-above bs N.root R.0 S), omega (arith, R.2, S.target_in))

    few-letters : suc (length (letters_on 0 bs)) ≤ length bs
    unfolding targets
    few-letters =
        omega (
          arith,
          length-map (letters_on 0 bs) (λ (a : Arc). a.target),
          pigeon (length bs) (0 ∷ targets)
              (λ m. omega (arith, (target_in 0 m).0), distinct-map (λ a. a.target) (letters_on 0 bs) (λ a c m n e. same_target a c (letter_shape a m) (letter_shape c n) e) letters-distinct)
              (λ s m. ⊎_elim (λ e. omega (arith, N.some-state)) (λ k. (target_in s k).1) (Memᴰ.cases_cons m)),
        )

    few-ends : suc (length (table_on ws bs).terminals) ≤ length bs
    few-ends = go bs N.some-state (ap (listed ws) N.root ∙ N.no_empty)
      where
        go : (bs : List Word) → 0 < length bs → listed ws (get_or bs 0 []) ≡ false → suc (length (ends (listed ws) 0 bs)) ≤ length bs
        go [] h e = absurd (omega arith)
        go (b ∷ names) h e = let k = ends-few names 1 in rw e (omega arith)

    pub few-arcs : suc (suc (length (table_on ws bs).arcs)) ≤ length bs + length bs
    few-arcs = omega (arith, arcs-count bs 0, few-letters, few-ends)

    -- The rules.

    ends-rise : Between (λ s. s) 0 (0 + length bs) (ends (listed ws) 0 bs)
    ends-rise = between-by (λ s. s) (λ i b. cond (listed ws b) (i ∷ []) []) (λ s. s) (λ i b. go i (listed ws b)) bs 0
      where
        go : (i : ℕ) (x : Bool) → Between (λ s. s) i (suc i) (cond x (i ∷ []) [])
        go i true = (omega arith, omega arith)
        go i false = omega arith

    -- an arc between states, with letters up to 63
    inside : (a : Arc) → TreeArc ws bs a → (a.source < length bs) × (a.target < length bs) × (a.upper ≤ 63) × (a.lower ≤ 63)
    inside a (inl S) = (S.source_in, S.target_in, omega (arith, S.same, S.high), omega (arith, S.high))
    inside a (inr S) = (S.source_in, omega (arith, S.to-root, N.some-state), omega (arith, S.reads_none), omega (arith, S.writes-cut))

    arc-inside : (a : Arc) → Memᴰ a (table_on ws bs).arcs → (a.source < length bs) × (a.target < length bs) × (a.upper ≤ 63) × (a.lower ≤ 63)
    arc-inside a m = inside a (all-mem (TreeArc ws bs) (table_on ws bs).arcs (arcs_shape ws bs) a m)

    -- so none has a class
    plain : (a : Arc) → Memᴰ a (table_on ws bs).arcs → is_plain a ≡ true
    plain a m = let h = arc-inside a m in (plain-is a).1 (omega (arith, h.2), omega (arith, h.3))

    -- nor a penalty
    no_penalty : (a : Arc) → Memᴰ a (table_on ws bs).arcs → a.penalty ≡ 0
    no_penalty a m = ⊎_elim (λ (S : ByLetter bs a). S.no_penalty) (λ S. S.no_penalty) (all-mem (TreeArc ws bs) (table_on ws bs).arcs (arcs_shape ws bs) a m)

    bare : (a : Arc) → Memᴰ a (table_on ws bs).arcs → without_penalty a ≡ a
    bare a m = λ i. record { source = a.source; upper = a.upper; lower = a.lower; target = a.target; penalty = sym (no_penalty a m) i }

    pub rules : length bs ≤ 256 → keeps_rules (table_on ws bs) ≡ true
    rules few =
        kept (table_on ws bs)
        (record {
          some-state = N.some-state;
          few-states = few;
          some-initial = omega arith;
          few-initials = N.some-state;
          initial_in = λ s m. ⊎_elim (λ e. omega (arith, N.some-state)) (λ k. absurd (Memᴰ.not-nil k)) (Memᴰ.cases_cons m);
          initials-differ = λ d i j h k e. omega arith;
          few-terminals = omega (arith, few-ends);
          terminal_in = λ s m. (all-mem (λ s. (s < length bs) × Memᴰ (get_or bs s []) ws) (table_on ws bs).terminals (ends_shape ws bs) s m).0;
          terminals_rise_lem = between-rise (ends (listed ws) 0 bs) 0 (0 + length bs) ends-rise;
          few-arcs = omega (arith, few-arcs);
          rising = at_least (table_on ws bs).arcs 0 0 (length bs * 64) (omega arith) (arcs-between ws bs) (low (table_on ws bs).arcs (arcs_shape ws bs));
          eight-rows = ((classes-are no_classes).0 no_classes-keep).0;
          row_in = ((classes-are no_classes).0 no_classes-keep).1;
          source_in = λ a m. (arc-inside a m).0;
          target_in = λ a m. (arc-inside a m).1;
          upper_in = λ a m. omega (arith, (arc-inside a m).2);
          lower_in = λ a m. omega (arith, (arc-inside a m).3);
          class_alike = λ a m e. absurd (true≢false (sym (plain a m) ∙ e));
          class_defined = λ a m e. absurd (true≢false (sym (plain a m) ∙ e));
          penalty_in = λ a m. omega (arith, no_penalty a m);
          arcs-differ =
              λ d i j h k e.
              distinct-differ (table_on ws bs).arcs (ranked_distinct rank (table_on ws bs).arcs (0, length bs * 64, arcs-between ws bs)) d i j h k
              (sym (bare _ (at_mem (table_on ws bs).arcs i d h)) ∙ e ∙ bare _ (at_mem (table_on ws bs).arcs j d k));
        })
      where
        low : (l : List Arc) → All (TreeArc ws bs) l → All (λ a. a.lower ≤ 63) l
        low [] p = tt
        low (a ∷ l) p = ((inside a p.0).3, low l p.1)

    -- at most 4 + 128 + 1 + 255 + 5 × 510 cells
    pub few-cells : length bs ≤ 256 → length (cells_of (table_on ws bs)) ≤ 2938
    few-cells few = omega (arith, length-cells (table_on ws bs) no_classes-keep, few-ends, few-arcs)
