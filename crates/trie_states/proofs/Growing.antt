-- The tree with one word more.
use Prim.Native.Nat.{ℕ, zero, suc, ◌+◌, ◌-◌, ◌≤◌, ◌<◌}
use native.Mathlib.Omega.{arith}
use mathlib.Core.Path.{◌≡◌, refl, sym, ap, ap₂, subst, ◌∙◌}
use mathlib.Core.Logic.{◌⊎◌, inl, inr, ⊎_elim}
use mathlib.Core.Bool.{Bool, true, false, ◌||◌, or-false, or-true}
use mathlib.Core.List.{List, [], ◌∷◌, ◌++◌, append_assoc, append-nil, Memᴰ}
use lib.ListN.{length, get_or, set, take, drop, replicate, length-append, length-drop, length-set, get_or-append, length-replicate, take-append-drop}
use lib.Seq.{sets, length-sets, get_or-append-add, take-append-le, take-suc, get_or-drop, take_all, get_or-set_same, get_or-set_other, split_at}
use lib.Dec.{eqb}
use borrow.Author.Tests.{eqb-true, eqb-false}
use Rattle.table_format.proofs.All.{All, all_get_d, mem-at}
use Rattle.graph.specs.Lists.{Distinct}
use Rattle.graph.proofs.Lists.{most?}
use Rattle.table_format.proofs.Each.{any_append}
use Rattle.lexicon.specs.Words.{Word, letters_hold, good_word, rises, same, listed}
use Rattle.lexicon.specs.Beginnings.{longer, fresh, beginnings}
use Rattle.lexicon.specs.Lexicon.{most_states}
use Rattle.lexicon.specs.FirstBad.{Kept}
use Rattle.lexicon.specs.Check.{common}
use Rattle.lexicon.proofs.Words.{letters as letters_hold_lem, letter_in_lem, not_listed, same-is, is_same}
use Rattle.lexicon.proofs.Beginnings.{last_word, beginnings-snoc, fresh-is, beginnings_have, beginnings-rise, rising-distinct}
use Rattle.lexicon.proofs.Comparing.{common-first, common-same, rises-more}
use Rattle.lexicon.proofs.Checking.{longer-length, last_word-snoc}
use Rattle.trie_states.specs.declared.tree.State.{State}
use Rattle.trie_states.specs.Tree.{Rows, state_at, parent_of, letter_of, ends_at, Below, ancestor, states_below, Tree}
use Rattle.trie_format.proofs.Ranks.{distinct-differ}
use Rattle.trie_states.proofs.Sets.{sets-before, sets-at, sets-after, field-kept}
use Rattle.trie_states.proofs.Adding.{below-length, below-first, below-later, below-letter, below-end}

-- Names.

longer-at : (v b : Word) (k : ℕ) → k < length v → get_or (longer b v) k [] ≡ b ++ take (suc k) v
longer-at [] b k h = absurd (omega arith)
longer-at (x ∷ v) b zero h = refl
longer-at (x ∷ v) b (suc k) h = longer-at v (b ++ (x ∷ [])) k (omega arith) ∙ append_assoc b (x ∷ []) (take (suc k) v)

letter_at_lem : (w : Word) (j : ℕ) → letters_hold w ≡ true → j < length w → (1 ≤ get_or w j 0) × (get_or w j 0 ≤ 62)
letter_at_lem w j e h = letter_in_lem (take j w) (drop (suc j) w) (get_or w j 0) (ap letters_hold (sym (split_at w j 0 h)) ∙ e)

-- so many parents up, a name has as many letters less
module _ (tree : List State) (bs : List Word) (R : Rows (parent_of tree) (letter_of tree) bs) where
  abbrev name : ℕ → Word
  name j = get_or bs j []

  pub record Up (s k : ℕ) : Type 0 where
    pub state_in_lem : ancestor tree s k < length bs
    pub name-is : name (ancestor tree s k) ≡ take (length (name s) - k) (name s)

  pub up : (k s : ℕ) → s < length bs → k ≤ length (name s) → Up s k
  up zero s h l = record { state_in_lem = h; name-is = sym (take_all (length (name s) - 0) (name s) (omega arith)) }
  up (suc k) zero h l = absurd (omega (arith, ap length R.root))
  up (suc k) (suc s) h l =
      let r = parent_of tree (suc s) in
      let E = R.row (suc s) (omega arith) h in
      let N : length (name (suc s)) ≡ length (name r) + 1 = ap length E ∙ length-append (name r) (letter_of tree (suc s) ∷ []) in
      let U = up k r (R.parent_in (suc s) (omega arith) h) (omega arith) in
      let m : length (name (suc s)) - suc k ≡ length (name r) - k = omega arith in
      record {
        state_in_lem = U.state_in_lem;
        name-is = U.name-is ∙ sym (take-append-le (length (name r) - k) (name r) (letter_of tree (suc s) ∷ []) (omega arith))
            ∙ ap₂ (λ (n : ℕ) (v : Word). take n v) (sym m) (sym E);
      }

-- rows by the same parents and letters
rows-same : (f g x y : ℕ → ℕ) (bs : List Word) → ((j : ℕ) → f j ≡ g j) → ((j : ℕ) → x j ≡ y j) → Rows f x bs → Rows g y bs
rows-same f g x y bs p l R =
    record {
      root = R.root;
      parent_in = λ j h k. omega (arith, p j, R.parent_in j h k);
      row = λ j h k. R.row j h k ∙ ap₂ (λ (i z : ℕ). get_or bs i [] ++ (z ∷ [])) (p j) (l j);
      low = λ j h k. omega (arith, l j, R.low j h k);
      high = λ j h k. omega (arith, l j, R.high j h k);
    }

-- One word more.

abbrev root : State
root = record { parent = 0; letter = 0; is_end = false }

all_roots : (n : ℕ) → All (λ (x : State). x ≡ root) (replicate n root)
all_roots zero = tt
all_roots (suc n) = (refl, all_roots n)

-- the tree of some words, whose last state is the end of the last word
pub record Growing (ws bs : List Word) (tree : List State) : Type 0 where
  pub holds : Tree ws bs tree
  pub last : get_or bs (length bs - 1) [] ≡ last_word [] ws

pub growing_none : Growing [] (beginnings []) (replicate most_states root)
unfolding beginnings
growing_none =
    record {
      holds =
          record {
            states_all = length-replicate {A = State} most_states root;
            parents_low = λ j. omega (arith, ap (λ (x : State). x.parent) (root-at j));
            rows =
                record {
                  root = refl;
                  parent_in = λ j h l. omega arith;
                  row = λ j h l. absurd (omega arith);
                  low = λ j h l. absurd (omega arith);
                  high = λ j h l. absurd (omega arith);
                };
            marks = λ i h. ap (λ (x : State). x.is_end) (root-at i);
            unmarked = λ i h. ap (λ (x : State). x.is_end) (root-at i);
          };
      last = refl;
    }
  where
    root-at : (j : ℕ) → state_at (replicate most_states root) j ≡ root
    root-at j = all_get_d (λ (x : State). x ≡ root) (replicate most_states root) j root refl (all_roots most_states)

-- A word's last state is marked.

abbrev pub marked_at : List State → ℕ → List State
marked_at tree k = set tree k (record { parent = parent_of tree k; letter = letter_of tree k; is_end = true })

module _ (before : List Word) (w : Word) (p : Word) (p-is : p ≡ last_word [] before) (n : ℕ) (n-is : n ≡ length (beginnings before)) (tree : List State)
    (K : Kept (before ++ (w ∷ []))) (G : Growing before (beginnings before) tree) (holds : good_word w ≡ true) (above : rises p w ≡ true) where
  abbrev T : Tree before (beginnings before) tree
  T = G.holds

  abbrev c : ℕ
  c = common p w

  abbrev bs : List Word
  bs = beginnings before

  abbrev m : ℕ
  m = length w - c

  abbrev v : Word
  v = drop c w

  -- the beginnings that are there then
  abbrev bs' : List Word
  bs' = bs ++ longer (take c w) v

  all-is : beginnings (before ++ (w ∷ [])) ≡ bs'
  all-is = beginnings-snoc before w ∙ ap (λ (q : Word). bs ++ fresh [] q w) (sym p-is) ∙ ap (λ (l : List Word). bs ++ l) (fresh-is p w [])

  some-new : 0 < m
  some-new = omega (arith, rises-more p w above)

  v-length : length v ≡ m
  v-length = length-drop c w

  all-length : length bs' ≡ n + m
  all-length = omega (arith, n-is, length-append bs (longer (take c w) v), longer-length v (take c w), v-length)

  few : n + m ≤ most_states
  few = omega (arith, K.few, ap length all-is, all-length)

  old-name : (i : ℕ) → i < n → get_or bs' i [] ≡ get_or bs i []
  old-name i h = get_or-append bs (longer (take c w) v) [] i (omega (arith, n-is))

  new-name : (k : ℕ) → k < m → get_or bs' (n + k) [] ≡ take c w ++ take (suc k) v
  new-name k h = ap (λ (i : ℕ). get_or bs' (i + k) []) n-is ∙ get_or-append-add bs (longer (take c w) v) k [] ∙ longer-at v (take c w) k (omega (arith, v-length))

  -- the state of the letters in common
  abbrev q : ℕ
  q = ancestor tree (n - 1) (length p - c)

  some-state : 0 < n
  unfolding beginnings
  some-state = omega (arith, n-is)

  last-name : get_or bs (n - 1) [] ≡ p
  last-name = ap (λ (i : ℕ). get_or bs (i - 1) []) n-is ∙ G.last ∙ sym p-is

  below : Up tree bs T.rows (n - 1) (length p - c)
  below = up tree bs T.rows (length p - c) (n - 1) (omega (arith, some-state, n-is)) (omega (arith, ap length last-name))

  pub q_in : q < n
  q_in = omega (arith, below.state_in_lem, n-is)

  q-name : get_or bs q [] ≡ take c w
  q-name =
      let e : length p - (length p - c) ≡ c = omega (arith, common-first p w) in
      below.name-is ∙ ap (λ (u : Word). take (length u - (length p - c)) u) last-name ∙ ap (λ (k : ℕ). take k p) e ∙ common-same p w

  -- the states that the word adds
  abbrev new : List State
  new = states_below q n v

  abbrev grown : List State
  grown = sets tree n new

  old-state : (j : ℕ) → j < n → state_at grown j ≡ state_at tree j
  old-state j h = sets-before root new tree n j h

  new-state : (k : ℕ) → k < m → state_at grown (n + k) ≡ state_at new k
  new-state k h = sets-at root new tree n k (omega (arith, below-length v q n, v-length)) (omega (arith, few, T.states_all))

  later-state : (j : ℕ) → n + m ≤ j → state_at grown j ≡ state_at tree j
  later-state j h = sets-after root new tree n j (omega (arith, below-length v q n, v-length))

  old-parent : (j : ℕ) → j < n → parent_of grown j ≡ parent_of tree j
  old-parent j h = ap (λ (x : State). x.parent) (old-state j h)

  old-letter : (j : ℕ) → j < n → letter_of grown j ≡ letter_of tree j
  old-letter j h = ap (λ (x : State). x.letter) (old-state j h)

  new-parent : (k : ℕ) → k < m → parent_of grown (n + k) ≡ parent_of new k
  new-parent k h = ap (λ (x : State). x.parent) (new-state k h)

  new-letter : (k : ℕ) → k < m → letter_of grown (n + k) ≡ get_or v k 0
  new-letter k h = ap (λ (x : State). x.letter) (new-state k h) ∙ below-letter v k q n

  parent-name : (k : ℕ) → k < m → (parent_of grown (n + k) < n + m) × (get_or bs' (parent_of grown (n + k)) [] ≡ take c w ++ take k v)
  parent-name zero h =
      let e = new-parent 0 h ∙ below-first v q n (omega (arith, v-length, some-new)) in
      (omega (arith, e, q_in), ap (λ (i : ℕ). get_or bs' i []) e ∙ old-name q q_in ∙ q-name ∙ sym (append-nil (take c w)))
  parent-name (suc k) h = let e = new-parent (suc k) h ∙ below-later v k q n (omega (arith, v-length)) in (omega (arith, e), ap (λ (i : ℕ). get_or bs' i []) e ∙ new-name k (omega arith))

  new_row : (k : ℕ) → k < m → get_or bs' (n + k) [] ≡ get_or bs' (parent_of grown (n + k)) [] ++ (letter_of grown (n + k) ∷ [])
  new_row k h =
      new-name k h ∙ ap (λ (u : Word). take c w ++ u) (take-suc v k 0 (omega (arith, v-length))) ∙ sym (append_assoc (take c w) (take k v) (get_or v k 0 ∷ []))
      ∙ ap₂ (λ (u : Word) (x : ℕ). u ++ (x ∷ [])) (sym (parent-name k h).1) (sym (new-letter k h))

  new_in : (k : ℕ) → k < m → (1 ≤ letter_of grown (n + k)) × (letter_of grown (n + k) ≤ 62)
  new_in k h =
      let L = letter_at_lem w (c + k) (letters_hold_lem w holds) (omega arith) in
      let e = new-letter k h ∙ get_or-drop c w k 0 in
      (omega (arith, e, L.0), omega (arith, e, L.1))

  -- a state is one that was there, or a new one
  old_or_new : (j : ℕ) → j < n + m → (j < n) ⊎ ((k : ℕ) × (k < m) × (j ≡ n + k))
  old_or_new j h = ⊎_elim (λ l. inr (j - n, omega arith, omega arith)) (λ l. inl l) (most? n j)

  module _ (P : ℕ → Type 0) (old : (j : ℕ) → 0 < j → j < n → P j) (new : (k : ℕ) → k < m → P (n + k)) where
    every : (j : ℕ) → 0 < j → j < length bs' → P j
    every j h l = ⊎_elim (λ o. old j h o) (λ R. subst P (sym R.2) (new R.0 R.1)) (old_or_new j (omega (arith, all-length)))

  rows' : Rows (parent_of grown) (letter_of grown) bs'
  rows' =
      record {
        root = old-name 0 some-state ∙ T.rows.root;
        parent_in = every (λ j. parent_of grown j < length bs') (λ j h l. omega (arith, old-parent j l, T.rows.parent_in j h (omega (arith, n-is)), all-length)) (λ k h. omega (arith, (parent-name k h).0, all-length));
        row = every (λ j. get_or bs' j [] ≡ get_or bs' (parent_of grown j) [] ++ (letter_of grown j ∷ []))
            (λ j h l. old-name j l ∙ T.rows.row j h (omega (arith, n-is))
            ∙ ap₂ (λ (u : Word) (x : ℕ). u ++ (x ∷ [])) (sym (ap (λ (i : ℕ). get_or bs' i []) (old-parent j l) ∙ old-name (parent_of tree j) (omega (arith, n-is, T.rows.parent_in j h (omega (arith, n-is)))))) (sym (old-letter j l)))
            new_row;
        low = every (λ j. 1 ≤ letter_of grown j) (λ j h l. omega (arith, old-letter j l, T.rows.low j h (omega (arith, n-is)))) (λ k h. (new_in k h).0);
        high = every (λ j. letter_of grown j ≤ 62) (λ j h l. omega (arith, old-letter j l, T.rows.high j h (omega (arith, n-is)))) (λ k h. (new_in k h).1);
      }

  -- The ends of words.

  abbrev last' : ℕ
  last' = n + m - 1

  last-in : last' < length grown
  last-in = omega (arith, few, some-new, T.states_all, length-sets tree n new)

  abbrev tree' : List State
  tree' = marked_at grown last'

  -- a mark leaves parents and letters
  parents-kept : (j : ℕ) → parent_of tree' j ≡ parent_of grown j
  parents-kept = field-kept root (λ (x : State). x.parent) grown last' _ last-in refl

  letters-kept : (j : ℕ) → letter_of tree' j ≡ letter_of grown j
  letters-kept = field-kept root (λ (x : State). x.letter) grown last' _ last-in refl

  last_name : get_or bs' last' [] ≡ w
  last_name =
      let e : last' ≡ n + (m - 1) = omega (arith, some-new) in
      let f : suc (m - 1) ≡ m = omega (arith, some-new) in
      ap (λ (i : ℕ). get_or bs' i []) e ∙ new-name (m - 1) (omega (arith, some-new)) ∙ ap (λ (u : Word). take c w ++ u) (take_all (suc (m - 1)) v (omega (arith, v-length))) ∙ take-append-drop c w

  differ : (i j : ℕ) → i < n + m → j < n + m → get_or bs' i [] ≡ get_or bs' j [] → i ≡ j
  differ i j h k e =
      distinct-differ bs' (subst (λ (l : List Word). Distinct l) all-is (rising-distinct (beginnings (before ++ (w ∷ []))) (beginnings-rise (before ++ (w ∷ [])) K.holds))) [] i j (omega (arith, all-length)) (omega (arith, all-length)) e

  listed-snoc : (b : Word) → listed (before ++ (w ∷ [])) b ≡ (listed before b || same b w)
  listed-snoc b = any_append (same b) before (w ∷ []) ∙ ap (λ (t : Bool). listed before b || t) (or-false (same b w))

  not_same : (i : ℕ) → i < n + m → (i ≡ last' → ⊥) → same (get_or bs' i []) w ≡ false
  not_same i h l = go (same (get_or bs' i []) w) refl
    where
      go : (t : Bool) → same (get_or bs' i []) w ≡ t → same (get_or bs' i []) w ≡ false
      go false e = e
      go true e = absurd (l (differ i last' h (omega (arith, some-new)) (same-is (get_or bs' i []) w e ∙ sym last_name)))

  -- a new state's name is no word that was there
  new-not : (k : ℕ) → k < m → listed before (get_or bs' (n + k) []) ≡ false
  new-not k h =
      not_listed before (get_or bs' (n + k) [])
      (λ l. let M = mem-at bs (get_or bs' (n + k) []) [] (beginnings_have before (get_or bs' (n + k) []) [] (subst (λ (b : Word). Memᴰ b before) (sym (append-nil (get_or bs' (n + k) []))) l)) in
      let e = differ M.0 (n + k) (omega (arith, M.1, n-is)) (omega arith) (old-name M.0 (omega (arith, M.1, n-is)) ∙ M.2) in
      omega (arith, M.1, e, n-is))

  marks' : (i : ℕ) → i < n + m → ends_at tree' i ≡ listed (before ++ (w ∷ [])) (get_or bs' i [])
  marks' i h = go (eqb i last') refl
    where
      was : ends_at grown i ≡ listed before (get_or bs' i [])
      was =
          ⊎_elim (λ o. ap (λ (x : State). x.is_end) (old-state i o) ∙ T.marks i (omega (arith, n-is)) ∙ ap (listed before) (sym (old-name i o)))
          (λ R. ap (ends_at grown) R.2 ∙ ap (λ (x : State). x.is_end) (new-state R.0 R.1) ∙ below-end v R.0 q n ∙ sym (ap (λ (j : ℕ). listed before (get_or bs' j [])) R.2 ∙ new-not R.0 R.1))
          (old_or_new i h)

      go : (t : Bool) → eqb i last' ≡ t → ends_at tree' i ≡ listed (before ++ (w ∷ [])) (get_or bs' i [])
      go true e =
          let f : i ≡ last' = eqb-true i last' e in
          ap (ends_at tree') f ∙ ap (λ (x : State). x.is_end) (get_or-set_same grown last' _ root last-in)
          ∙ sym (listed-snoc (get_or bs' i []) ∙ ap (λ (b : Word). listed before (get_or bs' i []) || same b w) (ap (λ (j : ℕ). get_or bs' j []) f ∙ last_name) ∙ ap (λ (t : Bool). listed before (get_or bs' i []) || t) (is_same w) ∙ or-true (listed before (get_or bs' i [])))
      go false e =
          let l : i ≡ last' → ⊥ = eqb-false i last' e in
          ap (λ (x : State). x.is_end) (get_or-set_other grown last' i _ root l) ∙ was
          ∙ sym (listed-snoc (get_or bs' i []) ∙ ap (λ (t : Bool). listed before (get_or bs' i []) || t) (not_same i h l) ∙ or-false (listed before (get_or bs' i [])))

  parents_low' : Below most_states grown
  parents_low' j =
      ⊎_elim (λ h. ⊎_elim (λ o. omega (arith, old-parent j o, T.parents_low j)) (λ R. omega (arith, ap (parent_of grown) R.2, (parent-name R.0 R.1).0, few)) (old_or_new j h))
      (λ h. omega (arith, ap (λ (x : State). x.parent) (later-state j (omega arith)), T.parents_low j)) (most? (suc j) (n + m))

  pub grow_more : Growing (before ++ (w ∷ [])) (beginnings (before ++ (w ∷ []))) tree'
  grow_more =
      subst (λ (l : List Word). Growing (before ++ (w ∷ [])) l tree') (sym all-is)
      (record {
        holds =
            record {
              states_all = length-set grown last' _ ∙ length-sets tree n new ∙ T.states_all;
              parents_low = λ j. omega (arith, parents-kept j, parents_low' j);
              rows = rows-same (parent_of grown) (parent_of tree') (letter_of grown) (letter_of tree') bs' (λ j. sym (parents-kept j)) (λ j. sym (letters-kept j)) rows';
              marks = λ i h. marks' i (omega (arith, all-length));
              unmarked = λ i h.
                  ap (λ (x : State). x.is_end) (get_or-set_other grown last' i _ root (λ e. omega (arith, all-length, some-new)) ∙ later-state i (omega (arith, all-length)))
                  ∙ T.unmarked i (omega (arith, all-length, n-is));
            };
        last = ap (λ (k : ℕ). get_or bs' (k - 1) []) all-length ∙ last_name ∙ sym (last_word-snoc before [] w);
      })
