use Rattle.std.proofs.Common.{sym, ◌∙◌, rules}
use Rattle.engine_advance.proofs.Resuming.{laid_whole, prepared, refused-outcome, good-place, search_outcome}
use Rattle.engine_advance.proofs.resume.Goals as goal

pub initials-requires : goal.initials-requires
initials-requires c =
    let a = c.args in
    let p = c.requires in
    laid_whole a.table.now a.upper.now a.lower.now a.checked.now.first a.run p.admitted a.checked.now.layout p.layout

pub terminals-requires : goal.terminals-requires
terminals-requires c =
    let a = c.args in
    let p = c.requires in
    laid_whole a.table.now a.upper.now a.lower.now a.checked.now.first a.run p.admitted a.checked.now.layout p.layout

pub arcs-requires : goal.arcs-requires
arcs-requires c =
    let a = c.args in
    let p = c.requires in
    laid_whole a.table.now a.upper.now a.lower.now a.checked.now.first a.run p.admitted a.checked.now.layout p.layout

pub place_holds-requires : goal.place_holds-requires
place_holds-requires c =
    let a = c.args in
    let p = c.requires in
    (c.terminals.result.now, prepared a.table.now a.upper.now a.lower.now a.checked.now.first a.run p.admitted a.checked.now.layout p.layout a.classes p.rows _ _ _ c.initials.ensures.table c.terminals.ensures.table c.arcs.ensures.table c.reads.result c.reads-2.result c.reads.ensures c.reads-2.ensures)

pub returns-then-not-place_holds : goal.returns-then-not-place_holds
returns-then-not-place_holds c =
    let a = c.args in
    let p = c.requires in
    refused-outcome a.table.now a.upper.now a.lower.now a.checked.now.first a.run p.admitted a.checked.now.layout p.layout a.classes p.rows _ _ _ c.initials.ensures.table c.terminals.ensures.table c.arcs.ensures.table c.reads.result c.reads-2.result c.reads.ensures c.reads-2.ensures a.stack.now a.allowance a.output.now (sym c.place_holds.ensures ∙ c.if-not-place_holds.true) _ (search rules)

pub take_steps-requires-clause-prepared : goal.take_steps-requires-clause-prepared
take_steps-requires-clause-prepared c =
    let a = c.args in
    let p = c.requires in
    prepared a.table.now a.upper.now a.lower.now a.checked.now.first a.run p.admitted a.checked.now.layout p.layout a.classes p.rows _ _ _ c.initials.ensures.table c.terminals.ensures.table c.arcs.ensures.table c.reads.result c.reads-2.result c.reads.ensures c.reads-2.ensures

pub take_steps-requires-clause-good : goal.take_steps-requires-clause-good
take_steps-requires-clause-good c =
    let a = c.args in
    let p = c.requires in
    good-place a.table.now a.upper.now a.lower.now a.checked.now.first a.run p.admitted a.checked.now.layout p.layout a.classes p.rows _ _ _ c.initials.ensures.table c.terminals.ensures.table c.arcs.ensures.table c.reads.result c.reads-2.result c.reads.ensures c.reads-2.ensures a.stack.now a.allowance a.output.now (sym c.place_holds.ensures ∙ c.if-not-place_holds.false)

pub returns : goal.returns
returns c =
    let a = c.args in
    let p = c.requires in
    search_outcome a.table.now a.upper.now a.lower.now a.checked.now.first a.run p.admitted a.checked.now.layout p.layout a.classes p.rows _ _ _ c.initials.ensures.table c.terminals.ensures.table c.arcs.ensures.table c.reads.result c.reads-2.result c.reads.ensures c.reads-2.ensures a.stack.now a.allowance a.output.now (sym c.place_holds.ensures ∙ c.if-not-place_holds.false) _ _ _ c.take_steps.ensures
