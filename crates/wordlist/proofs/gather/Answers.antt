-- At every turn the words so far, with the lines that are left, come to what the whole text comes to.
use Rattle.std.proofs.Common.{arith}
use Rattle.wordlist.proofs.Going.{begun, none_found, part-some, line-fits, fault-told, goes_on-more, goes_on-same, count_fits}
use Rattle.wordlist.proofs.gather.Goals as goal

pub loop-from-init : goal.loop-from-init
loop-from-init c = begun _ _ _ c.mark_size-at.ensures

pub overflow_add-number : goal.overflow_add-number
overflow_add-number c = omega (arith, line-fits c.loop-from.invariant c.in-Some.ensures)

pub overflow_add-number-in-Some : goal.overflow_add-number-in-Some
overflow_add-number-in-Some c = omega (arith, line-fits c.loop-from.invariant c.in-Some.ensures)

pub slice_bounds-add-count : goal.slice_bounds-add-count
slice_bounds-add-count c = omega (arith, c.in-Some.ensures.some)

pub add-requires : goal.add-requires
add-requires c = let G = c.loop-from.invariant in (part-some G c.in-Some.ensures, (c.args.list.now, G.words, G.kept, G.holds, G.size))

pub returns-in-Err : goal.returns-in-Err
returns-in-Err c = let G = c.loop-from.invariant in fault-told G c.in-Some.ensures _ c.in-Err.kind (c.in-Err.ensures _ _ G.kept G.holds G.size)

pub overflow_add-count : goal.overflow_add-count
overflow_add-count c = omega (arith, count_fits c.loop-from.invariant c.in-Some.ensures)

pub loop-from-smaller-then-bytes-grown : goal.loop-from-smaller-then-bytes-grown
loop-from-smaller-then-bytes-grown c = omega (arith, c.in-Some.ensures.moves, c.in-Some.ensures.within)

pub loop-from-preserved-then-bytes-grown : goal.loop-from-preserved-then-bytes-grown
loop-from-preserved-then-bytes-grown c =
    let G = c.loop-from.invariant in goes_on-more G c.in-Some.ensures _ _ (c.in-Ok.ensures _ _ G.kept G.holds G.size) (omega (arith, c.if-bytes-grown.true))

pub loop-from-smaller : goal.loop-from-smaller
loop-from-smaller c = omega (arith, c.in-Some.ensures.moves, c.in-Some.ensures.within)

pub loop-from-preserved : goal.loop-from-preserved
loop-from-preserved c =
    let G = c.loop-from.invariant in goes_on-same G c.in-Some.ensures _ _ (c.in-Ok.ensures _ _ G.kept G.holds G.size) (omega (arith, c.if-bytes-grown.false))

pub returns : goal.returns
returns c = none_found c.loop-from.invariant c.in_default.ensures
