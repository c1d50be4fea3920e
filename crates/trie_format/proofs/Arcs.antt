-- Which arcs and terminal states the letter tree's table has, and that no other list is so.
use Prim.Native.Nat.{ℕ, zero, suc, ◌+◌, ◌*◌, ◌≤◌, ◌<◌}
use native.Mathlib.Omega.{arith}
use mathlib.Core.Path.{◌≡◌, refl, sym, ap, subst, ◌∙◌}
use mathlib.Core.Logic.{inl, inr, ⊎_elim, ◌↔◌}
use mathlib.Core.Bool.{Bool, true, cond}
use mathlib.Core.Option.{Option, none, some}
use mathlib.Core.List.Memᴰ
use mathlib.Core.List.{List, [], ◌∷◌, ◌++◌, Memᴰ}
use lib.ListN.{length, get_or}
use Rattle.table_format.specs.Table.{Arc}
use Rattle.table_format.specs.Cells.{arc_as}
use Rattle.table_format.proofs.All.{all-mem, at_mem}
use Rattle.graph.specs.Lists.{Distinct}
use Rattle.graph.proofs.Lists.{most?, member-mem}
use Rattle.lexicon.specs.Words.{Word, list_holds, listed}
use Rattle.lexicon.specs.Beginnings.{beginnings}
use Rattle.lexicon.proofs.Words.{mem-listed}
use Rattle.lexicon.proofs.Beginnings.{beginnings-rise, rising-distinct}
use Rattle.trie_format.specs.Facts.{TreeArc, rank, Ranked}
use Rattle.trie_format.specs.Trie.{place_from, by_state, letter_arc, letter_arcs, cut_arc, arcs_of, trie_table}
use Rattle.trie_format.proofs.Names.{place_found, place_none, ends-are}
use Rattle.trie_format.proofs.Ranks.{distinct-differ, ranked_unique}
use Rattle.trie_format.proofs.Shapes.{arcs_shape, ends_shape, arcs-between}

mem-by : {A : Type 0} (f : ℕ → Word → List A) (a : A) (bs : List Word) (i s k : ℕ) → s ≡ i + k → k < length bs → Memᴰ a (f s (get_or bs k [])) → Memᴰ a (by_state f i bs)
mem-by f a [] i s k e h m = absurd (omega arith)
mem-by f a (b ∷ bs) i s zero e h m = let E : s ≡ i = omega arith in Memᴰ.append_left (by_state f (suc i) bs) (subst (λ (z : ℕ). Memᴰ a (f z b)) E m)
mem-by f a (b ∷ bs) i s (suc k) e h m = Memᴰ.append_right (f i b) (mem-by f a bs (suc i) s k (omega arith) (omega arith) m)

pub place_here : (bs : List Word) → Distinct bs → (c : Word) (j : ℕ) → j < length bs → get_or bs j [] ≡ c → place_from 0 c bs ≡ some j
place_here bs D c j h e = go (place_from 0 c bs) refl
  where
    go : (o : Option ℕ) → place_from 0 c bs ≡ o → o ≡ some j
    go none f = absurd (place_none bs c 0 f (subst (λ (z : Word). Memᴰ z bs) e (at_mem bs j [] h)))
    go (some k) f =
        let R = place_found bs c 0 k f in
        ap some (omega (arith, R.1, distinct-differ bs D [] R.0 j R.2 h (R.3 ∙ sym e)))

pub letters_have : (bs : List Word) (i : ℕ) (b : Word) (y j k x : ℕ) → x ≤ y → y < x + k → place_from 0 (b ++ (y ∷ [])) bs ≡ some j → Memᴰ (arc_as i y y j) (letter_arcs bs i b x k)
unfolding letter_arcs
letters_have bs i b y j zero x l h e = absurd (omega arith)
letters_have bs i b y j (suc k) x l h e =
    ⊎_elim
    (λ f. let g : x ≡ y = omega arith in
    Memᴰ.append_left (letter_arcs bs i b (suc x) k)
    (subst (λ (z : ℕ). Memᴰ (arc_as i y y j) (letter_arc i z (place_from 0 (b ++ (z ∷ [])) bs))) (sym g)
    (subst (λ (o : Option ℕ). Memᴰ (arc_as i y y j) (letter_arc i y o)) (sym e) (Memᴰ.head refl))))
    (λ f. Memᴰ.append_right (letter_arc i x (place_from 0 (b ++ (x ∷ [])) bs)) (letters_have bs i b y j k (suc x) (omega arith) (omega arith) e))
    (most? y x)

module _ (ws : List Word) (holds : list_holds ws ≡ true) where
  abbrev bs : List Word
  bs = beginnings ws

  D : Distinct bs
  D = rising-distinct bs (beginnings-rise ws holds)

  pub terminals-are : (s : ℕ) → Memᴰ s (trie_table ws).terminals ↔ ((s < length bs) × Memᴰ (get_or bs s []) ws)
  terminals-are s = (
    all-mem (λ s. (s < length bs) × Memᴰ (get_or bs s []) ws) (trie_table ws).terminals (ends_shape ws bs) s,
    λ h. member-mem s (trie_table ws).terminals (ends-are (listed ws) bs s 0 s (omega arith) h.0 ∙ mem-listed ws (get_or bs s []) h.1),
  )

  pub arcs-are : (a : Arc) → Memᴰ a (trie_table ws).arcs ↔ TreeArc ws bs a
  arcs-are a = (all-mem (TreeArc ws bs) (trie_table ws).arcs (arcs_shape ws bs) a, from)
    where
      from : TreeArc ws bs a → Memᴰ a (by_state (arcs_of ws bs) 0 bs)
      from (inl S) =
          mem-by (arcs_of ws bs) a bs 0 a.source a.source (omega arith) S.source_in
          (Memᴰ.append_left (cond (listed ws (get_or bs a.source [])) (cut_arc a.source ∷ []) [])
          (subst (λ (c : Arc). Memᴰ c (letter_arcs bs a.source (get_or bs a.source []) 1 62)) (λ i. record { source = a.source; upper = sym S.same i; lower = a.lower; target = a.target; penalty = sym S.no_penalty i })
          (letters_have bs a.source (get_or bs a.source []) a.lower a.target 62 1 S.low (omega (arith, S.high)) (place_here bs D _ a.target S.target_in S.step))))
      from (inr S) =
          mem-by (arcs_of ws bs) a bs 0 a.source a.source (omega arith) S.source_in
          (Memᴰ.append_right (letter_arcs bs a.source (get_or bs a.source []) 1 62)
          (subst (λ (x : Bool). Memᴰ a (cond x (cut_arc a.source ∷ []) [])) (sym (mem-listed ws _ S.word_end))
          (Memᴰ.head (λ i. record { source = a.source; upper = S.reads_none i; lower = S.writes-cut i; target = S.to-root i; penalty = S.no_penalty i }))))

  pub arcs-only : (l : List Arc) → Ranked rank l → ((a : Arc) → Memᴰ a l ↔ TreeArc ws bs a) → l ≡ (trie_table ws).arcs
  arcs-only l R h =
      ranked_unique rank l (trie_table ws).arcs R (0, length bs * 64, arcs-between ws bs)
      (λ a. (λ m. (arcs-are a).1 ((h a).0 m), λ m. (h a).1 ((arcs-are a).0 m)))
