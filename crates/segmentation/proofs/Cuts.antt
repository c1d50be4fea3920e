-- The readings of the letter tree in synthesis are the ways to cut the word.
use Prim.Native.Nat.{ℕ, zero, suc, ◌+◌, ◌*◌, ◌≤◌, ◌<◌}
use native.Mathlib.Omega.{arith}
use native.Mathlib.Nat.{mul-le-mul_left}
use mathlib.Core.Path.{◌≡◌, refl, sym, ap, ap₂, ◌∙◌}
use mathlib.Core.Logic.{◌⊎◌, inl, inr, ⊎_elim}
use mathlib.Core.Bool.{Bool, true, false, cond, ◌&&◌}
use mathlib.Core.Option.{Option, none, some}
use mathlib.Core.List.{List, [], ◌∷◌, ◌++◌, map, append_assoc, append-nil, map-append}
use lib.ListN.{length, get_or, drop, get_or-eq_default}
use lib.Dec.{eqb, leb-zero}
use borrow.Author.Tests.{eq-eqb, ne_eqb}
use Rattle.graph.proofs.Lists.{most?}
use Rattle.machine.specs.Query.{synthesis_of}
use Rattle.machine.specs.Machine.{Machine}
use Rattle.machine.specs.Tour.{readings, reading_if, tour}
use Rattle.machine.specs.Transducer.{Passed, machine}
use Rattle.machine.specs.Denotation.{state_tells}
use Rattle.machine.proofs.Traces.{drop_head, drop_tail}
use Rattle.machine.proofs.Denotation.{tour-tells}
use Rattle.lexicon.specs.Words.{Word, listed}
use Rattle.trie_format.specs.Trie.{place_from, letter_arcs, cut_arc, arcs_of, table_on}
use Rattle.trie_format.proofs.Names.{place_found, ends-are, above_root, Names}
use Rattle.trie_format.proofs.Shapes.{arcs_from_lem}
use Rattle.segmentation.specs.Ways.{cuts_from, ways_to_cut, joined}
use Rattle.machine.proofs.ArcLists.{list_tell, list_tell-append}
use Rattle.segmentation.proofs.Parts.{state-part}
use Rattle.segmentation.proofs.Ways.{cuts-none, cuts_join}
use Rattle.segmentation.proofs.Letters.{at, onto, letters-miss, letters-hit}

-- n letters of w are read and v is left
record Left (w : Word) (n : ℕ) (v : Word) : Type 0 where
  rest : drop n w ≡ v
  count : n + length v ≡ length w

module _ (ws bs : List Word) (N : Names ws bs) (w : Word) (ceiling : ℕ) where
  abbrev M : Machine
  M = machine (table_on ws bs) (synthesis_of w ceiling)

  abbrev name : ℕ → Word
  name k = get_or bs k []

  -- the readings of ways, with o written before
  abbrev told : Word → List (List Word) → List (List ℕ)
  told o Z = map (λ z. o ++ joined z) Z

  abbrev tells : ℕ → ℕ → Passed × ℕ → List ℕ → List (List ℕ)
  tells c s d o = state_tells M c s d o

  -- what arcs tell where states tell as with c arcs more
  abbrev arcs_from : ℕ → ℕ → ℕ → Word → ℕ → Word → List (List ℕ)
  arcs_from c n m p i b = list_tell (table_on ws bs) (synthesis_of w ceiling) (λ r e z. tells c r e z) (at n m) p (letter_arcs bs i b 1 62)

  next : (n x : ℕ) (v : Word) → Left w n (x ∷ v) → Left w (suc n) v
  next n x v L = record { rest = drop_tail w n x v L.rest; count = omega (arith, L.count) }

  -- what a state tells, of as many arcs more as the letters left can take
  abbrev State : ℕ → Type 0
  State c = (k n m : ℕ) (v o : Word) → k < length bs → Left w n v → 2 * length v ≤ c → tells c k (at n m) (o ++ name k) ≡ told o (cuts_from ws (name k) v)

  abbrev Root : ℕ → Type 0
  Root c = (n m x : ℕ) (v o : Word) → Left w n (x ∷ v) → suc (2 * length v) ≤ c → tells c 0 (at n m) o ≡ told o (cuts_from ws (x ∷ []) v)

  -- arcs by letters, where one is left
  onward : (c i : ℕ) (b : Word) (n m x : ℕ) (v o p : Word) → Left w n (x ∷ v) → p ++ (x ∷ []) ≡ o ++ (b ++ (x ∷ []))
      → ((j : ℕ) → 0 < j → j < length bs → tells c j (at (suc n) (suc m)) (o ++ name j) ≡ told o (cuts_from ws (name j) v))
      → arcs_from c n m p i b ≡ told o (cuts_from ws (b ++ (x ∷ [])) v)
  onward c i b n m x v o p L e G =
      ⊎_elim (λ l. miss (inl l)) (λ l. ⊎_elim (λ h. hit l h) (λ h. miss (inr h)) (most? x 62)) (most? x 0)
    where
      here : get_or w n 0 ≡ x
      here = drop_head w n x v L.rest

      miss : ((x ≤ 0) ⊎ (63 ≤ x)) → arcs_from c n m p i b ≡ told o (cuts_from ws (b ++ (x ∷ [])) v)
      miss h =
          letters-miss (table_on ws bs) w ceiling (λ r e z. tells c r e z) n m p bs i b 62 0 (omega arith) (⊎_elim (λ l. inl (omega (arith, here))) (λ l. inr (omega (arith, here))) h)
          ∙ sym (ap (told o) (cuts-none ws v (b ++ (x ∷ [])) (N.letters b x h)))

      to : (q : Option ℕ) → place_from 0 (b ++ (x ∷ [])) bs ≡ q → onto (table_on ws bs) w ceiling (λ r e z. tells c r e z) n m p x q ≡ told o (cuts_from ws (b ++ (x ∷ [])) v)
      to none f = sym (ap (told o) (cuts-none ws v (b ++ (x ∷ [])) (N.complete b x f)))
      to (some j) f =
          let R = place_found bs (b ++ (x ∷ [])) 0 j f in
          let J : j ≡ R.0 = omega (arith, R.1) in
          let E : name j ≡ b ++ (x ∷ []) = ap name J ∙ R.3 in
          ap (λ (z : Word). tells c j (at (suc n) (suc m)) z) (e ∙ ap (λ (z : Word). o ++ z) (sym E)) ∙ G j (above_root bs N.root j b x E) (omega (arith, R.2))
          ∙ ap (λ (z : Word). told o (cuts_from ws z v)) E

      hit : 0 < x → x ≤ 62 → arcs_from c n m p i b ≡ told o (cuts_from ws (b ++ (x ∷ [])) v)
      hit l h = letters-hit (table_on ws bs) w ceiling (λ r e z. tells c r e z) n m p bs i b 62 0 x (omega arith) here l (omega arith) ∙ to (place_from 0 (b ++ (x ∷ [])) bs) refl

  -- and where none is left
  stays : (c i : ℕ) (b : Word) (n m : ℕ) (p : Word) → Left w n [] → arcs_from c n m p i b ≡ []
  stays c i b n m p L =
      let Z : get_or w n 0 ≡ 0 = get_or-eq_default w 0 (omega (arith, L.count)) in
      letters-miss (table_on ws bs) w ceiling (λ r e z. tells c r e z) n m p bs i b 62 0 (omega arith) (inl (omega arith))

  -- a state in parts, by whether it is a word's end, whether all is read, and what its arcs by letters tell
  abbrev parts : ℕ → ℕ → ℕ → Word → Bool → Bool → List (List ℕ) → List (List ℕ)
  parts c n m p ends done arcs = reading_if M (ends && (done && true)) p ++ (arcs ++ cond ends (tells c 0 (at n (suc m)) (p ++ (63 ∷ []))) [])

  opened : (c k n m : ℕ) (p : Word) → k < length bs → tells (suc c) k (at n m) p ≡ parts c n m p (listed ws (name k)) (eqb n (length w)) (arcs_from c n m p k (name k))
  unfolding state_tells
  opened c k n m p h =
      ap₂ (λ (a b : List (List ℕ)). a ++ b)
      (ap (λ (b : Bool). reading_if M (b && (eqb n (length w) && true)) p) (ends-are (listed ws) bs k 0 k (omega arith) h))
      (state-part (arcs_of ws bs) (arcs_from_lem ws bs) (table_on ws bs) (synthesis_of w ceiling) bs refl (λ r e z. state_tells M c r e z) (at n m) p k h
      ∙ list_tell-append (table_on ws bs) (synthesis_of w ceiling) (λ r e z. state_tells M c r e z) (at n m) p (letter_arcs bs k (name k) 1 62) _
      ∙ ap (λ (l : List (List ℕ)). arcs_from c n m p k (name k) ++ l) (go (listed ws (name k))))
    where
      go : (x : Bool) → list_tell (table_on ws bs) (synthesis_of w ceiling) (λ r e z. state_tells M c r e z) (at n m) p (cond x (cut_arc k ∷ []) [])
          ≡ cond x (state_tells M c 0 (at n (suc m)) (p ++ (63 ∷ []))) []
      go true = rw (leb-zero ceiling) (append-nil _)
      go false = refl

  no_root : listed ws (name 0) ≡ false
  no_root = ap (listed ws) N.root ∙ N.no_empty

  -- at the root with no letter left
  end : (c n m : ℕ) (p : Word) → Left w n [] → tells c 0 (at n m) p ≡ []
  unfolding state_tells
  end zero n m p L = ap (λ (b : Bool). reading_if M (b && (eqb n (length w) && true)) p) (ends-are (listed ws) bs 0 0 0 (omega arith) N.some-state ∙ no_root)
  end (suc c) n m p L =
      opened c 0 n m p N.some-state ∙ ap₂ (λ (b : Bool) (l : List (List ℕ)). parts c n m p b (eqb n (length w)) l) no_root (stays c 0 (name 0) n m p L)

  -- at the root with one left
  root-from : (c n m x : ℕ) (v o : Word) → Left w n (x ∷ v)
      → ((j : ℕ) → 0 < j → j < length bs → tells c j (at (suc n) (suc m)) (o ++ name j) ≡ told o (cuts_from ws (name j) v))
      → tells (suc c) 0 (at n m) o ≡ told o (cuts_from ws (x ∷ []) v)
  root-from c n m x v o L G =
      opened c 0 n m o N.some-state ∙ ap (λ (b : Bool). parts c n m o b (eqb n (length w)) (arcs_from c n m o 0 (name 0))) no_root ∙ append-nil _
      ∙ onward c 0 (name 0) n m x v o o L (ap (λ (z : Word). o ++ (z ++ (x ∷ []))) (sym N.root)) G
      ∙ ap (λ (z : Word). told o (cuts_from ws (z ++ (x ∷ [])) v)) N.root

  record Good (c : ℕ) : Type 0 where
    state : State c
    root : Root c

  -- a word's end with all read tells the word
  word_end : (k : ℕ) (o : Word) (b : Bool) → reading_if M (b && (true && true)) (o ++ name k) ≡ told o (cond b ((name k ∷ []) ∷ []) [])
  word_end k o true = refl
  word_end k o false = refl

  state-zero : State 0
  unfolding state_tells cuts_from
  state-zero k n m (x ∷ v) o h L l = absurd (omega arith)
  state-zero k n m [] o h L l =
      ap₂ (λ (b e : Bool). reading_if M (b && (e && true)) (o ++ name k)) (ends-are (listed ws) bs k 0 k (omega arith) h) (eq-eqb n (length w) (omega (arith, L.count)))
      ∙ word_end k o (listed ws (name k))

  state-suc : (c : ℕ) → State c → Root c → State (suc c)
  unfolding cuts_from
  state-suc c G R k n m [] o h L l =
      opened c k n m (o ++ name k) h
      ∙ ap₂ (λ (e : Bool) (z : List (List ℕ)). parts c n m (o ++ name k) (listed ws (name k)) e z) (eq-eqb n (length w) (omega (arith, L.count)))
      (stays c k (name k) n m (o ++ name k) L)
      ∙ ap (λ (z : List (List ℕ)). reading_if M (listed ws (name k) && (true && true)) (o ++ name k) ++ cond (listed ws (name k)) z [])
      (end c n (suc m) ((o ++ name k) ++ (63 ∷ [])) L)
      ∙ go (listed ws (name k)) ∙ word_end k o (listed ws (name k))
    where
      go : (b : Bool) → reading_if M (b && (true && true)) (o ++ name k) ++ cond b [] [] ≡ reading_if M (b && (true && true)) (o ++ name k)
      go true = refl
      go false = refl
  state-suc c G R k n m (x ∷ v) o h L l =
      opened c k n m (o ++ name k) h
      ∙ ap₂ (λ (e : Bool) (z : List (List ℕ)). parts c n m (o ++ name k) (listed ws (name k)) e z) (ne_eqb n (length w) (λ u. omega (arith, L.count)))
      (onward c k (name k) n m x v o (o ++ name k) L (append_assoc o (name k) (x ∷ [])) (λ j p q. G j (suc n) (suc m) v o q (next n x v L) (omega arith)))
      ∙ go (listed ws (name k))
      ∙ sym (map-append (λ z. o ++ joined z) (cuts_from ws (name k ++ (x ∷ [])) v) _)
    where
      go : (b : Bool) → parts c n m (o ++ name k) b false (told o (cuts_from ws (name k ++ (x ∷ [])) v))
          ≡ told o (cuts_from ws (name k ++ (x ∷ [])) v) ++ told o (cond b (map (λ z. name k ∷ z) (cuts_from ws (x ∷ []) v)) [])
      go false = refl
      go true =
          ap (λ (z : List (List ℕ)). told o (cuts_from ws (name k ++ (x ∷ [])) v) ++ z)
          (R n (suc m) x v ((o ++ name k) ++ (63 ∷ [])) L (omega arith) ∙ cuts_join ws o (name k) v (x ∷ []))

  good : (c : ℕ) → Good c
  good zero = record { state = state-zero; root = λ n m x v o L l. absurd (omega arith) }
  good (suc c) =
      let G = good c in
      record {
        state = state-suc c G.state G.root;
        root = λ n m x v o L l. root-from c n m x v o L (λ j p q. G.state j (suc n) (suc m) v o q (next n x v L) (omega arith));
      }

-- the readings of a table whose states' beginnings are such
pub cuts-on : (ws bs : List Word) → Names ws bs → (x : ℕ) (v : Word) (ceiling : ℕ)
    → readings (machine (table_on ws bs) (synthesis_of (x ∷ v) ceiling)) (tour (machine (table_on ws bs) (synthesis_of (x ∷ v) ceiling))) ≡ map joined (ways_to_cut ws (x ∷ v))
cuts-on ws bs N x v ceiling = tour-tells (machine (table_on ws bs) (synthesis_of (x ∷ v) ceiling)) ∙ append-nil _ ∙ ⊎_elim one_state more-states (most? (length bs) 1)
  where
    L : Left (x ∷ v) 0 (x ∷ v)
    L = record { rest = refl; count = omega arith }

    limit : ℕ
    limit = (suc (length v) + 0 + 1) * length bs

    Goal : ℕ → Type 0
    Goal c = state_tells (machine (table_on ws bs) (synthesis_of (x ∷ v) ceiling)) c 0 (at 0 0) [] ≡ map joined (cuts_from ws (x ∷ []) v)

    one_state : length bs ≤ 1 → Goal limit
    one_state h = go limit (mul-le-mul_left (suc (length v) + 0 + 1) N.some-state)
      where
        go : (c : ℕ) → (suc (length v) + 0 + 1) * 1 ≤ c → Goal c
        go zero l = absurd (omega arith)
        go (suc c) l = root-from ws bs N (x ∷ v) ceiling c 0 0 x v [] L (λ j p q. absurd (omega arith))

    more-states : 1 < length bs → Goal limit
    more-states h = (good ws bs N (x ∷ v) ceiling limit).root 0 0 x v [] L (omega (arith, mul-le-mul_left (suc (length v) + 0 + 1) h))

-- a word of no letters has no reading
pub none-on : (ws bs : List Word) → Names ws bs → (ceiling : ℕ) → readings (machine (table_on ws bs) (synthesis_of [] ceiling)) (tour (machine (table_on ws bs) (synthesis_of [] ceiling))) ≡ []
none-on ws bs N ceiling = tour-tells (machine (table_on ws bs) (synthesis_of [] ceiling)) ∙ append-nil _ ∙ end ws bs N [] ceiling _ 0 0 [] (record { rest = refl; count = omega arith })
