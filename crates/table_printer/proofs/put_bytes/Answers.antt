-- At every turn, storing the bytes that are left gives what storing all of them gives.
use Prim.Native.Nat.{◌+◌, ◌*◌}
use native.Mathlib.Omega.{arith}
use mathlib.Core.Path.{sym, ◌∙◌}
use Rattle.table_printer.proofs.Lines.{bytes-turn, bytes-end}
use Rattle.table_printer.proofs.put_bytes.Goals as goal

pub loop-k-preserved : goal.loop-k-preserved
loop-k-preserved c =
    let bytes = c.args.bytes.now in
    let k = c.loop-k.k in
    let to = c.args.at + 2 * k in
    let next = c.args.at + 2 * (k + 1) in
    bytes-turn c.loop-k.text to next bytes k c.loop-k-test.true (omega arith) c.encode.ensures ∙ c.loop-k.invariant

pub returns : goal.returns
returns c = sym (bytes-end c.loop-k.text _ c.args.bytes.now c.loop-k.k (omega arith)) ∙ c.loop-k.invariant
