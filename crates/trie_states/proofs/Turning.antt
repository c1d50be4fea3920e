-- One turn over the words of a list, in terms of what the code has.
use Prim.Native.Nat.{ℕ, ◌+◌, ◌-◌, ◌≤◌, ◌<◌}
use native.Mathlib.Omega.{arith}
use mathlib.Core.Path.{◌≡◌, sym, ap, ap₂, subst, ◌∙◌}
use mathlib.Core.Bool.{true}
use mathlib.Core.List.{List, [], ◌∷◌, ◌++◌}
use lib.ListN.{length, take, drop, length-drop}
use lib.Seq.{sets, take_all}
use Rattle.lexicon.specs.Words.{Word, rises}
use Rattle.lexicon.specs.Beginnings.{beginnings}
use Rattle.lexicon.specs.Lexicon.{IsCut, most_states, words, TakenAs}
use Rattle.lexicon.specs.Check.{common, grown}
use Rattle.lexicon.proofs.Comparing.{common-first, common-second}
use Rattle.lexicon.proofs.Checking.{grown-is, ReadTo, Next, read_next, read_all}
use Rattle.trie_states.specs.declared.tree.State.{State}
use Rattle.trie_states.specs.Tree.{ancestor, states_below, Tree}
use Rattle.trie_states.proofs.Growing.{Growing, marked_at, q_in, grow_more}

module _ {bytes : List ℕ} {ws : List Word} (taken : TakenAs bytes ws) {so_far : List Word} {before : Word} {rest : List ℕ} {states : ℕ}
    (R : ReadTo bytes so_far before rest states) {tree : List State} (G : Growing so_far (beginnings so_far) tree)
    (word : Word) (after : List ℕ) (here : rest ≡ length word ∷ (word ++ after)) where
  N : Next bytes so_far before rest states R word after here
  N = read_next bytes so_far before rest states R word after here ws taken

  above : rises before word ≡ true
  above = ap (λ (p : Word). rises p word) R.is_last ∙ N.above

  abbrev shared : ℕ
  shared = common before word

  grown-count : states + (length word - shared) ≡ length (beginnings (so_far ++ (word ∷ [])))
  grown-count = ap (λ (p : Word). grown p word states) R.is_last ∙ ap (grown _ word) R.count ∙ sym (grown-is so_far word)

  pub states_in : (0 < states) × (states ≤ most_states)
  unfolding beginnings
  states_in = (omega (arith, R.count), omega (arith, R.count, R.kept.few))

  module _ {k : ℕ} (k-is : k ≡ shared) where
    pub shared_first : k ≤ length before
    shared_first = omega (arith, k-is, common-first before word)

    pub shared_second : k ≤ length word
    shared_second = omega (arith, k-is, common-second before word)

    -- the letters that are new
    abbrev part : Word
    part = take (length word - k) (drop k word)

    part-is : part ≡ drop shared word
    part-is = take_all (length word - k) (drop k word) (omega (arith, length-drop k word)) ∙ ap (λ (i : ℕ). drop i word) k-is

    part-length : length part ≡ length word - shared
    part-length = ap length part-is ∙ length-drop shared word

    pub fits : states + length part ≤ most_states
    fits = omega (arith, part-length, grown-count, N.read.kept.few)

    module _ {q : ℕ} (q-is : q ≡ ancestor tree (states - 1) (length before - k)) where
      q-parent : q ≡ ancestor tree (states - 1) (length before - shared)
      q-parent = q-is ∙ ap (λ (i : ℕ). ancestor tree (states - 1) (length before - i)) k-is

      pub parent-low : q < most_states
      parent-low = omega (arith, q-parent, q_in so_far word before R.is_last states R.count tree N.read.kept G N.holds above, states_in.1)

      -- what `add` leaves
      module _ {r : ℕ} {tree' : List State} (r-is : r ≡ states + length part) (tree-is : tree' ≡ sets tree states (states_below q states part)) where
        r-count : r ≡ states + (length word - shared)
        r-count = omega (arith, r-is, part-length)

        pub last-in : (1 ≤ r) × (r ≤ most_states)
        last-in = (omega (arith, r-is, states_in.0), omega (arith, r-is, fits))

        -- and the mark
        pub grown-next : (vs : List Word) × ReadTo bytes vs word after r × Growing vs (beginnings vs) (marked_at tree' (r - 1))
        grown-next =
            let t : tree' ≡ sets tree states (states_below (ancestor tree (states - 1) (length before - shared)) states (drop shared word)) =
            tree-is ∙ ap₂ (λ (i : ℕ) (v : Word). sets tree states (states_below i states v)) q-parent part-is in (
              so_far ++ (word ∷ []),
              subst (λ (i : ℕ). ReadTo bytes (so_far ++ (word ∷ [])) word after i) (sym (r-count ∙ grown-count)) N.read,
              subst (λ (i : ℕ). Growing (so_far ++ (word ∷ [])) (beginnings (so_far ++ (word ∷ []))) (marked_at tree' (i - 1))) (sym r-count)
                  (subst (λ (l : List State). Growing (so_far ++ (word ∷ [])) (beginnings (so_far ++ (word ∷ []))) (marked_at l (states + (length word - shared) - 1))) (sym t)
                  (grow_more so_far word before R.is_last states R.count tree N.read.kept G N.holds above)),
            )

-- the whole list is read
pub grown-all : {bytes : List ℕ} {so_far : List Word} {before : Word} {rest : List ℕ} {states : ℕ} → ReadTo bytes so_far before rest states → {tree : List State}
    → Growing so_far (beginnings so_far) tree → IsCut rest → (ws : List Word) → TakenAs bytes ws → Tree ws (beginnings ws) tree
grown-all {bytes} {so_far} {before} {rest} {states} R {tree} G cut ws e =
    let f : words so_far ≡ words ws = sym (read_all bytes so_far before rest states R ws e cut) ∙ e in
    let g : so_far ≡ ws = cc in
    subst (λ (l : List Word). Tree l (beginnings l) tree) g G.holds
