-- At every turn, the bytes begin with the kind, the class and the letters passed.
use Prim.Native.Nat.{◌+◌}
use native.Mathlib.Omega.{arith}
use mathlib.Core.Path.{refl, sym}
use lib.Seq.{length-take-le}
use Rattle.table_format.specs.Text.{class_bytes}
use Rattle.table_classes.proofs.Letters.{letters-few}
use Rattle.table_printer.proofs.Lines.{length-line, letters-put, line_told_lem}
use Rattle.table_printer.proofs.class_line.Goals as goal

pub slice_bounds-letter-items-end : goal.slice_bounds-letter-items-end
slice_bounds-letter-items-end c = sym (length-take-le _ c.args.row.now (omega (arith, c.letters_in-count.ensures, letters-few c.args.row.now)))

pub loop-k-init : goal.loop-k-init
loop-k-init c = (c.letters_in-count.ensures, omega (arith, letters-few c.args.row.now, c.letters_in-count.ensures), refl, refl)

pub slice_bounds-put_line-end : goal.slice_bounds-put_line-end
slice_bounds-put_line-end c = sym (length-take-le _ c.loop-k.bytes (omega arith))

pub put_line-requires : goal.put_line-requires
put_line-requires c =
    let args = c.args in
    omega (arith, length-take-le (c.letters_in-count.result + 2) c.loop-k.bytes (omega arith), length-line (class_bytes args.class args.row.now))

pub returns : goal.returns
returns c =
    let args = c.args in
    let row = args.row.now in
    let all = length-take-le c.letters_in-count.result row (omega (arith, letters-few row)) in
    let said = letters-put args.class row c.loop-k.bytes c.loop-k.k c.loop-k.invariant.3 c.letters_in-count.result (omega (arith, all)) (omega (arith, all)) in
    line_told_lem _ _ _ _ _ _ said c.put_line.ensures
