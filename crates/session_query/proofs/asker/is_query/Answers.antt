-- Where a test fails the bytes are no query's; the last one decides.
use Rattle.std.proofs.Common.{◌≤◌, length, sym, arith, ◌∙◌}
use borrow.Author.Tests.{ne_eqb, le-ltb}
use Rattle.session_query.proofs.Queries.{no_query, words_in, query_by_lem, query_short}
use Rattle.session_query.proofs.asker.is_query.Goals as goal
use Rattle.session_query.proofs.asker.is_query.Goals.{then-kind-eq16, else-kind-eq16}

pub returns-in_default : goal.returns-in_default
returns-in_default c = sym (no_query c.args.bytes.now (λ q. omega (arith, q.size)))

pub returns-then-upper-words : goal.returns-then-upper-words
returns-then-upper-words c =
    query_by_lem c.args.bytes.now c.in-len3-up.len_at_least c.from-upper.result c.from-upper.ensures c.from.result c.if-upper-words.true.0 c.from.ensures

pub returns-else-upper-words : goal.returns-else-upper-words
returns-else-upper-words c =
    let b = c.args.bytes.now in
    elim c.if-kind-eq16.branch [
      | then-kind-eq16 w ↦
          let short : length (words_in b) ≤ c.from-upper.result = omega (arith, c.if-upper-words.either, w.if-kind-eq16.true) in
          w.t-14-is ∙ le-ltb c.from-upper.result (length (words_in b)) short ∙ sym (query_short b c.in-len3-up.len_at_least c.from-upper.result c.from-upper.ensures short)
      | else-kind-eq16 w ↦ w.t-14-is ∙ ne_eqb _ _ w.if-kind-eq16.false ∙ sym (no_query b (λ q. w.if-kind-eq16.false q.kind))
    ]
