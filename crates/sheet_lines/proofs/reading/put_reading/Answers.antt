-- At every turn, storing the lines that are left gives what storing all of them gives.
use Prim.Native.Nat.{ℕ, ◌+◌, ◌*◌, min}
use native.Mathlib.Omega.{arith}
use mathlib.Core.Path.{refl, sym, ap, subst, ◌∙◌}
use mathlib.Core.List.{List, map}
use lib.ListN.{length}
use Rattle.std.specs.Slice.Iter.{chunks_rest, chunks_size}
use Rattle.faces.specs.Faces.{face_of}
use Rattle.sheet_lines.specs.Lines.{line_size, row_letters, lines_for}
use Rattle.sheet_lines.proofs.Stores.{Going, most_parts, first-stored, going_begun, going_room, going_more, going_done, reading-stored}
use Rattle.sheet_lines.proofs.reading.put_reading.Goals as goal

pub loop-row-init : goal.loop-row-init
loop-row-init c =
    let letters = c.args.letters.now in
    let f = face_of c.args.faces.now in
    let sheet = c.put_line.new.sheet in
    let at = c.args.at in
    let others = c.split_at.ensures.back ∙ (most_parts row_letters c.min.result letters c.min.ensures).1 in
    let same = c.into_iter-row-iterator.ensures.into_iter_gives in (
      ap chunks_size same ∙ c.chunks-row-items.ensures.size,
      subst (λ (rest : List ℕ). Going (map f letters) sheet (at + line_size) (at + line_size * lines_for (length letters)) f sheet (at + line_size) rest)
          (sym (ap chunks_rest same ∙ c.chunks-row-items.ensures.rest))
          (going_begun f letters c.split_at.result.1.now sheet at c.requires.letters_value others),
    )

pub put_line-requires-in-loop-row-clause-letters_len_bound : goal.put_line-requires-in-loop-row-clause-letters_len_bound
put_line-requires-in-loop-row-clause-letters_len_bound c =
    let h = c.in-Some.ensures.steps in
    let I = c.loop-row.invariant in
    let size = h.1.1 ∙ ap (λ (n : ℕ). min n (length (chunks_rest c.loop-row.row-iterator))) I.0 in
    let room = going_room _ _ _ _ _ _ _ _ I.1 _ _ h.1.0 size h.1.2 in
    (omega (arith, size), omega (arith, room, I.1.same, c.requires.letters_in_bounds))

pub loop-row-preserved : goal.loop-row-preserved
loop-row-preserved c =
    let h = c.in-Some.ensures.steps in
    let I = c.loop-row.invariant in
    let size = h.1.1 ∙ ap (λ (n : ℕ). min n (length (chunks_rest c.loop-row.row-iterator))) I.0 in
    (h.0 ∙ I.0, going_more _ _ _ _ _ _ _ _ I.1 _ _ h.1.0 size h.1.2 _ _ c.put_line-in-loop-row.auto.sheet refl c.put_line-in-loop-row.ensures)

pub returns : goal.returns
returns c =
    let letters = c.args.letters.now in
    let f = face_of c.args.faces.now in
    let first = c.split_at.ensures.front ∙ (most_parts row_letters c.min.result letters c.min.ensures).0 in
    let done = going_done _ _ _ _ _ _ _ _ c.loop-row.invariant.1 c.in-None.ensures.steps.1.0 in (
      done.0,
      reading-stored _ _ _ (map f letters) c.args.at c.args.n
          (first-stored _ _ c.args.at c.args.n f _ _ letters c.ordinal.ensures first c.put_line.ensures)
          done.1,
    )
