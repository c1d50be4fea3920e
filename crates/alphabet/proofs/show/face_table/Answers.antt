-- The table as it stands.
use mathlib.Core.Path.{refl}
use Rattle.alphabet.specs.Shown.{face_table}
use Rattle.alphabet.proofs.show.face_table.Goals as goal

pub returns : goal.returns
unfolding face_table
returns c = refl
