-- The row is that of all the values, which antt computes.
use Rattle.std.proofs.Common.{arith, refl, ◌≤◌, ◌<◌}
use Rattle.alphabet.specs.Letters.{smalls, small_of}
use Rattle.alphabet.specs.Shown.{face_table, code_shown}
use Rattle.alphabet.proofs.Shown.{shown_at, code_past}
use Rattle.alphabet.proofs.show.letter_shown.Goals as goal

pub returns-in_err-get : goal.returns-in_err-get
returns-in_err-get c = rw c.from_residual.ensures (let h : 128 ≤ c.from.result = c.in_err-get.ensures.lookup.3 in code_past c.args.character (omega (arith, c.from.ensures)))

pub returns : goal.returns
unfolding face_table code_shown small_of smalls
returns c =
    let h : c.from.result < 128 = c.in_ok-get.ensures.lookup.3.0 in
    shown_at _ refl c.from.result c.args.character c.from.ensures h c.in_ok-get.field-0.now c.in_ok-get.ensures.lookup.1
