-- At every turn the bytes from k on decide, with the bits so far, of which there is room for six more.
use Rattle.std.proofs.Common.{arith, ◌≤◌, ◌<◌, refl, sym, true, false}
use borrow.Author.Tests.{le-leb, lt-leb}
use Rattle.utf8.proofs.Bytes.{tail_is, not_tail, scalar_in, scalar_out}
use Rattle.utf8.proofs.Further.{cut_short, next-byte, all_read}
use Rattle.utf8.proofs.several.Goals as goal

pub returns-in_err-byte : goal.returns-in_err-byte
returns-in_err-byte c = rw c.from_residual.ensures (let a = c.args in sym (cut_short a.text.now a.least a.size c.loop-k.code c.loop-k.k c.loop-k.invariant.3 (omega arith) (omega (arith, c.in_err-byte.ensures.lookup))))

pub returns-in_default : goal.returns-in_default
returns-in_default c = let a = c.args in sym (next-byte a.text.now a.least a.size c.loop-k.code c.loop-k.k c.loop-k.invariant.3 (omega arith) (omega (arith, c.in_ok-byte.ensures.lookup)) c.in_ok-byte.field-0.now c.in_ok-byte.ensures.lookup.1 false (not_tail _ (λ (h : 128 ≤ c.in_ok-byte.field-0.now) (k : c.in_ok-byte.field-0.now < 192). omega arith)))

pub returns-in_default-2 : goal.returns-in_default-2
returns-in_default-2 c = let a = c.args in sym (next-byte a.text.now a.least a.size c.loop-k.code c.loop-k.k c.loop-k.invariant.3 (omega arith) (omega (arith, c.in_ok-byte.ensures.lookup)) c.in_ok-byte.field-0.now c.in_ok-byte.ensures.lookup.1 false (not_tail _ (λ (h : 128 ≤ c.in_ok-byte.field-0.now) (k : c.in_ok-byte.field-0.now < 192). omega arith)))

pub loop-k-preserved : goal.loop-k-preserved
loop-k-preserved c =
    let a = c.args in
    let tail : (128 ≤ c.in_ok-byte.field-0.now) × (c.in_ok-byte.field-0.now < 192) = (omega arith, omega arith) in (
      (λ h. omega arith),
      (λ h. let b = c.loop-k.invariant.0 (omega arith) in omega (arith, tail)),
      (λ h. let b = c.loop-k.invariant.1 (omega arith) in omega (arith, tail)),
      rw c.from.ensures (next-byte a.text.now a.least a.size c.loop-k.code c.loop-k.k c.loop-k.invariant.3 (omega arith) (omega (arith, c.in_ok-byte.ensures.lookup)) c.in_ok-byte.field-0.now c.in_ok-byte.ensures.lookup.1 true (tail_is _ tail.0 tail.1)),
    )

pub returns-then-code-least : goal.returns-then-code-least
returns-then-code-least c = let a = c.args in sym (all_read a.text.now a.least a.size c.loop-k.code c.loop-k.k c.loop-k.invariant.3 (omega arith) false _ (lt-leb a.least _ c.if-code-least.true) refl)

pub returns-in_err-code : goal.returns-in_err-code
returns-in_err-code c = rw c.from_residual-in_err-code.ensures (let a = c.args in sym (all_read a.text.now a.least a.size c.loop-k.code c.loop-k.k c.loop-k.invariant.3 (omega arith) true false (le-leb a.least _ c.if-code-least.false) (scalar_out _ c.in_err-code.ensures.cases)))

pub returns : goal.returns
returns c = rw c.in_ok-code.ensures.value.1 (let a = c.args in sym (all_read a.text.now a.least a.size c.loop-k.code c.loop-k.k c.loop-k.invariant.3 (omega arith) true true (le-leb a.least _ c.if-code-least.false) (scalar_in _ c.in_ok-code.ensures.cases)))
