-- What the call answers and leaves: 30, 31, 32 as the list earns them, then 24.
use Prim.Native.Nat.{ℕ, ◌+◌, ◌≤◌, ◌<◌}
use native.Mathlib.Omega.{arith}
use mathlib.Core.Path.{◌≡◌, refl, sym, ap, ◌∙◌}
use mathlib.Core.Logic.{◌↔◌}
use mathlib.Core.List.{List, ◌++◌}
use lib.ListN.{length, take, drop}
use lib.Seq.{sets, sets-eq, length-sets, take_at}
use Rattle.refusal.specs.declared.InputCause.{InputCause}
use Rattle.refusal.specs.declared.StateCause.TheVariants.{DestinationShort}
use Rattle.refusal.specs.declared.Refusal.{Refusal}
use Rattle.refusal.specs.declared.Refusal.TheVariants.{Input, State}
use Rattle.std.specs.Prelude.{Result, Ok, Err}
use Rattle.destination.specs.Stored.{stored_answer, stored_cells}
use Rattle.destination.proofs.Stored.{stored-done, stored-fits, stored_short, stored_refused}
use Rattle.table_format.specs.Loaded.{most_cells, cells_of}
use Rattle.lexicon.specs.Words.{Word}
use Rattle.lexicon.specs.Beginnings.{beginnings}
use Rattle.lexicon.specs.Lexicon.{Lexicon, words, turned_down, lexicon, TakenAs}
use Rattle.lexicon.specs.Check.{listing}
use Rattle.lexicon.proofs.Lexicon.{lexicon_sound}
use Rattle.trie_format.specs.Trie.{trie_table}
use Rattle.trie.specs.Calls.{answer_for, cells_for, build_answer, build_cells}
use Rattle.trie_format.proofs.Headlines.{trie_cells}

-- From what the check tells.

pub check_fault : (bytes d : List ℕ) (c : InputCause) → listing (lexicon bytes) ≡ Err c → (build_answer bytes d ≡ Err (Input c)) × (build_cells bytes d ≡ d)
unfolding build_answer build_cells
check_fault bytes d c e = go (lexicon bytes) e
  where
    go : (x : Lexicon) → listing x ≡ Err c → (answer_for x d ≡ Err (Input c)) × (cells_for x d ≡ d)
    go (turned_down cause) e = (cc, refl)
    go (words ws) e = absurd (cc)

pub check_states : (bytes : List ℕ) (n : ℕ) → listing (lexicon bytes) ≡ Ok n → (ws : List Word) × TakenAs bytes ws × (n ≡ length (beginnings ws))
check_states bytes n e = go (lexicon bytes) refl e
  where
    go : (x : Lexicon) → lexicon bytes ≡ x → listing x ≡ Ok n → (ws : List Word) × TakenAs bytes ws × (n ≡ length (beginnings ws))
    go (turned_down cause) f e = absurd (cc)
    go (words ws) f e = (ws, f, cc)

-- the cells that were made
module _ (bytes d : List ℕ) (ws : List Word) (e : TakenAs bytes ws) (cells cells' : List ℕ) (n : ℕ) (all : length cells ≡ most_cells)
    (f : n ≡ length (cells_of (trie_table ws))) (g : cells' ≡ sets cells 0 (cells_of (trie_table ws))) where
  few : 0 + length (cells_of (trie_table ws)) ≤ length cells
  few = omega (arith, trie_cells ws (lexicon_sound bytes ws e).0)

  pub made-room : n ≤ length cells'
  made-room = omega (arith, few, ap length g, length-sets cells 0 (cells_of (trie_table ws)))

  made : take n cells' ≡ cells_of (trie_table ws)
  made = ap (take n) (g ∙ sets-eq (cells_of (trie_table ws)) cells 0 few) ∙ take_at (cells_of (trie_table ws)) (drop (0 + length (cells_of (trie_table ws))) cells) n (sym f)

  pub made-stored : (r : Result ℕ Refusal) (l : List ℕ) → r ≡ stored_answer (take n cells') d → l ≡ stored_cells (take n cells') d → (r ≡ build_answer bytes d) × (l ≡ build_cells bytes d)
  unfolding build_answer build_cells
  made-stored r l a b =
      (a ∙ ap (λ (c : List ℕ). stored_answer c d) made ∙ ap (λ (x : Lexicon). answer_for x d) (sym e), b ∙ ap (λ (c : List ℕ). stored_cells c d) made ∙ ap (λ (x : Lexicon). cells_for x d) (sym e))

-- The answers, as facts.

module _ (bytes d : List ℕ) where
  module _ (ws : List Word) (e : TakenAs bytes ws) where
    abbrev out : List ℕ
    out = cells_of (trie_table ws)

    answer-taken : build_answer bytes d ≡ stored_answer out d
    unfolding build_answer
    answer-taken = ap (λ (x : Lexicon). answer_for x d) e

    cells-taken : build_cells bytes d ≡ stored_cells out d
    unfolding build_cells
    cells-taken = ap (λ (x : Lexicon). cells_for x d) e

    pub build_leaves : length out ≤ length d → build_cells bytes d ≡ out ++ drop (length out) d
    build_leaves h = cells-taken ∙ (stored-fits out d h).1

  -- either way
  data Built : Type 0 where
    taken : (ws : List Word) → TakenAs bytes ws → Built
    turned : (c : InputCause) → lexicon bytes ≡ turned_down c → Built

  built : Built
  built = go (lexicon bytes) refl
    where
      go : (x : Lexicon) → lexicon bytes ≡ x → Built
      go (words ws) e = taken ws e
      go (turned_down c) e = turned c e

  answer-turned : (c : InputCause) → lexicon bytes ≡ turned_down c → build_answer bytes d ≡ Err (Input c)
  unfolding build_answer
  answer-turned c e = ap (λ (x : Lexicon). answer_for x d) e

  cells-turned : (c : InputCause) → lexicon bytes ≡ turned_down c → build_cells bytes d ≡ d
  unfolding build_cells
  cells-turned c e = ap (λ (x : Lexicon). cells_for x d) e

  not_done : {A : Type 0} (r : Refusal) (n : ℕ) → build_answer bytes d ≡ Err r → build_answer bytes d ≡ Ok n → A
  not_done r n e f = let g : Err r ≡ Ok n = sym e ∙ f in absurd (cc)

  pub build_is : (n : ℕ) → (build_answer bytes d ≡ Ok n) ↔ ((ws : List Word) × TakenAs bytes ws × (n ≡ length (cells_of (trie_table ws))) × (n ≤ length d))
  build_is n = (λ e. to built e, λ R. answer-taken R.0 R.1 ∙ (stored-fits (out R.0 R.1) d (omega (arith, R.2, R.3))).0 ∙ ap Ok (sym R.2))
    where
      to : Built → build_answer bytes d ≡ Ok n → (ws : List Word) × TakenAs bytes ws × (n ≡ length (cells_of (trie_table ws))) × (n ≤ length d)
      to (taken ws t) e = let S = stored-done (out ws t) d n (sym (answer-taken ws t) ∙ e) in (ws, t, S.size, S.room)
      to (turned c t) e = not_done (Input c) n (answer-turned c t) e

  pub build_turned : (c : InputCause) → (build_answer bytes d ≡ Err (Input c)) ↔ (lexicon bytes ≡ turned_down c)
  build_turned c = (λ e. to built e, answer-turned c)
    where
      to : Built → build_answer bytes d ≡ Err (Input c) → lexicon bytes ≡ turned_down c
      to (taken ws t) e = absurd (let f : Input c ≡ State DestinationShort = (stored_refused (out ws t) d (Input c) (sym (answer-taken ws t) ∙ e)).0 in let z : ◌≡◌ {A = ℕ} 0 1 = cc in omega arith)
      to (turned b t) e = t ∙ (let f : Err (Input b) ≡ Err (Input c) = sym (answer-turned b t) ∙ e in let g : b ≡ c = cc in ap turned_down g)

  pub build_short : (build_answer bytes d ≡ Err (State DestinationShort)) ↔ ((ws : List Word) × TakenAs bytes ws × (length d < length (cells_of (trie_table ws))))
  build_short = (λ e. to built e, λ R. answer-taken R.0 R.1 ∙ (stored_short (out R.0 R.1) d).1 R.2)
    where
      to : Built → build_answer bytes d ≡ Err (State DestinationShort) → (ws : List Word) × TakenAs bytes ws × (length d < length (cells_of (trie_table ws)))
      to (taken ws t) e = (ws, t, (stored_short (out ws t) d).0 (sym (answer-taken ws t) ∙ e))
      to (turned c t) e = absurd (let f : Err (Input c) ≡ Err (State DestinationShort) = sym (answer-turned c t) ∙ e in let z : ◌≡◌ {A = ℕ} 0 1 = cc in omega arith)

  -- "touches nothing"
  pub build_refused : (r : Refusal) → build_answer bytes d ≡ Err r → build_cells bytes d ≡ d
  build_refused r e = go built
    where
      go : Built → build_cells bytes d ≡ d
      go (taken ws t) = cells-taken ws t ∙ (stored_refused (out ws t) d r (sym (answer-taken ws t) ∙ e)).1
      go (turned c t) = cells-turned c t
