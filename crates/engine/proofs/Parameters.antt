-- The parameters of a call for a reading: the table, the words, the lent run, the stack, the allowance and the output.
use mathlib.Core.List.{List, [], ◌∷◌}
use mir.Syntax.{named, w32}
use contract.Lifetimes.{Lfts}
use denote.RattleType.{RattleType}
use denote.Laws.{Ises, Spells, Tellss}
use denote.Plain.{uint_vals, uint_Tells}
use denote.Builtin.{u8, u16, u32}
use denote.Ref.{MutRef, mut_vals, mut_Tells}
use denote.Slice.{ShrSlice, MutSlice, shr_slice_vals, mut_slice_vals, shr_slice_Tells, mut_slice_Tells}
use Rattle.machine.specs.contracts.Run as R

-- their types, at the lifetimes of the references
abbrev pub parameters : Lfts 6 → List RattleType
parameters κs =
    ShrSlice (named 0) κs.0 u16 ∷ ShrSlice (named 1) κs.1.0 u8 ∷ ShrSlice (named 2) κs.1.1.0 u8 ∷ MutRef (named 3) κs.1.1.1.0 R.the_row
    ∷ MutSlice (named 4) κs.1.1.1.1.0 u32 ∷ u32 ∷ MutSlice (named 5) κs.1.1.1.1.1.0 u8 ∷ []

-- their machine values, and that nothing else is passed
abbrev pub spells : (κs : Lfts 6) → Spells (parameters κs)
spells κs = (shr_slice_vals, (shr_slice_vals, (shr_slice_vals, (mut_vals, (mut_slice_vals, (uint_vals w32, (mut_slice_vals, tt)))))))

abbrev pub tells : (κs : Lfts 6) → Tellss (parameters κs) (Ises (parameters κs)) (spells κs)
tells κs = (
  shr_slice_Tells (named 0) κs.0 u16,
  (
    shr_slice_Tells (named 1) κs.1.0 u8,
    (
      shr_slice_Tells (named 2) κs.1.1.0 u8,
      (mut_Tells (named 3) κs.1.1.1.0 R.the_row, (mut_slice_Tells (named 4) κs.1.1.1.1.0 u32, (uint_Tells w32, (mut_slice_Tells (named 5) κs.1.1.1.1.1.0 u8, tt)))),
    ),
  ),
)
