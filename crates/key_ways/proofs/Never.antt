-- Over the letter tree's table no call of a key is refused: the stack and the output buffer are never too short.
use Prim.Native.Nat.{ℕ, ◌+◌, ◌*◌, ◌≤◌}
use native.Mathlib.Omega.{arith}
use native.Mathlib.Nat.{mul-le-mul}
use mathlib.Core.Path.{◌≡◌, sym, ap, subst, ◌∙◌}
use mathlib.Core.Logic.{⊎_elim}
use mathlib.Core.Bool.{true}
use mathlib.Core.List.Memᴰ
use mathlib.Core.List.{List, [], ◌∷◌, Memᴰ}
use lib.ListN.{length}
use borrow.Author.Tests.{leb-true}
use Rattle.refusal.specs.declared.Refusal.{Refusal}
use Rattle.table_format.proofs.All.{All}
use Rattle.table_format.proofs.Tests.{and_left}
use Rattle.machine.specs.declared.Run.{Run}
use Rattle.machine.specs.declared.Answer.{Answer}
use Rattle.machine.specs.Answer.{told}
use Rattle.machine.specs.Query.{synthesis, word_holds, most_ceiling}
use Rattle.machine.specs.Machine.{Machine, Path, accepts, output, Allowed, Bounded}
use Rattle.machine.specs.Tour.{tour, paths_in}
use Rattle.machine.specs.Transducer.{letters_to_read}
use Rattle.machine.specs.Order.{accepting, outputs}
use Rattle.machine.specs.Stack.{room_in}
use Rattle.machine.specs.Demand.{Lent, Ample, call_on, steps_on, run_after, Tells}
use Rattle.machine.proofs.Headlines as machines
use Rattle.lexicon.specs.Words.{Word}
use Rattle.lexicon.specs.FirstBad.{Kept}
use Rattle.trie_format.specs.Trie.{trie_table}
use Rattle.trie_format.proofs.Headlines.{trie_rules}
use Rattle.segmentation.proofs.Headlines as cutting
use Rattle.key_sheet.specs.Key.{stack_frames, output_letters}
use Rattle.key_ways.specs.Shows.{Lending, LastRefused, key_query, key_machine}
use Rattle.key_ways.proofs.OneCall.{one-call}
use Rattle.key_ways.proofs.Ways.{reads, reads-length}

-- the output of a path is among those of a list that has it
outputs-mem : (M : Machine) (ps : List Path) (p : Path) → Memᴰ p ps → Memᴰ (output M p) (outputs M ps)
outputs-mem M [] p m = absurd (Memᴰ.not-nil m)
outputs-mem M (r ∷ ps) p m = ⊎_elim (λ e. Memᴰ.head (ap (output M) e)) (λ k. Memᴰ.tail (outputs-mem M ps p k)) (Memᴰ.cases_cons m)

module _ (ws : List Word) (K : Kept ws) (x : ℕ) (v : Word) (good : word_holds (x ∷ v) ≡ true) where
  abbrev w : Word
  w = x ∷ v

  short : length w ≤ 64
  short = leb-true _ _ (and_left _ _ good)

  bounded : Bounded (key_machine ws w)
  bounded = machines.bound (trie_table ws) (trie_rules ws K) (key_query w) (cutting.trie_no_cycle ws K.holds synthesis)

  -- a reading has at most 127 letters
  enough-letters : (p : Path) → Allowed (key_machine ws w) p → accepts (key_machine ws w) p ≡ true → length (output (key_machine ws w) p) ≤ output_letters
  enough-letters p A e =
      let m = outputs-mem (key_machine ws w) (accepting (key_machine ws w) (paths_in (tour (key_machine ws w)))) p (((machines.listed (key_machine ws w) bounded).members p).1 (A, e)) in
      let r = output (key_machine ws w) p in
      let k = subst (λ (l : List Word). Memᴰ r l) (sym (machines.readings-are (key_machine ws w)) ∙ cutting.cuts ws K.holds x v most_ceiling) m in
      omega (arith, short, reads-length ws K.holds w r (reads ws K.holds w r k))

  -- the stack has frames enough
  enough-frames : (letters_to_read (key_query w) + 1) * (trie_table ws).states ≤ stack_frames
  enough-frames =
      let h : letters_to_read (key_query w) + 1 ≤ 65 = omega (arith, short) in
      mul-le-mul h K.few

  module _ (cells : List ℕ) where
    abbrev AmpleCall : Lent → Type 0
    AmpleCall = Ample (trie_table ws) (key_query w)

    pub all-ample : (calls : List Lent) (run : Run) (stack output : List ℕ) → room_in stack ≡ stack_frames → length output ≡ output_letters → Lending cells w run stack output calls → All AmpleCall calls
    all-ample [] run stack output f l H = tt
    all-ample (y ∷ ys) run stack output f l H =
        let C = one-call y.table w [] run y.stack y.allowance y.buffer in (
          subst AmpleCall (sym H.0) (record { frames = omega (arith, enough-frames); steps = omega arith; letters = λ p A e. omega (arith, enough-letters p A e) }),
          all-ample ys (run_after w [] run y) (call_on w [] run y).stack (call_on w [] run y).output
              (C.same-room ∙ ap (λ (z : Lent). room_in z.stack) H.0 ∙ f) (C.same-letters ∙ ap (λ (z : Lent). length z.buffer) H.0 ∙ l) H.1,
        )

    pub none-refused : (calls : List Lent) (n : ℕ) (run : Run) (r : Refusal) → Tells w [] (trie_table ws) (key_query w) n run calls → All AmpleCall calls → LastRefused w run calls r → ⊥
    none-refused [] n run r T A L = L
    none-refused (y ∷ []) n run r T A L =
        ⊎_elim (T.0.never-short A.0.frames).0 (⊎_elim (T.0.never-short A.0.frames).1 (T.0.never-full A.0.letters))
        (T.0.refusals (ap (λ (a : Answer). (told a).kind) L.1))
    none-refused (y ∷ z ∷ zs) n run r T A L = none-refused (z ∷ zs) (n + steps_on w [] run y) (run_after w [] run y) r T.1 A.1 L
