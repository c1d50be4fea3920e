-- The first byte decides.
use Rattle.std.proofs.Common.{arith, sym, ◌∙◌, drop}
use Rattle.utf8.proofs.Bytes.{no_byte, first_byte, one_byte, no_first, two_bytes, three-bytes, four_bytes, too_high}
use Rattle.utf8.proofs.decode.Goals as goal

pub returns-in_err-lead : goal.returns-in_err-lead
returns-in_err-lead c = rw c.from_residual.ensures (sym (no_byte c.args.text.now (omega (arith, c.in_err-lead.ensures.item))))

pub returns-in-0-to-127 : goal.returns-in-0-to-127
returns-in-0-to-127 c =
    let text = c.args.text.now in
    let item = c.in_ok-lead.ensures.item in
    let first = first_byte text (omega (arith, item)) c.in_ok-lead.field-0.now item.1 in
    rw c.from.ensures (sym (first ∙ one_byte _ (drop 1 text) (omega arith)))

pub returns-in-192-to-223 : goal.returns-in-192-to-223
returns-in-192-to-223 c =
    let text = c.args.text.now in
    let item = c.in_ok-lead.ensures.item in
    let first = first_byte text (omega (arith, item)) c.in_ok-lead.field-0.now item.1 in
    c.several.ensures ∙ sym (first ∙ two_bytes _ (drop 1 text) (omega arith) (omega arith))

pub returns-in-224-to-239 : goal.returns-in-224-to-239
returns-in-224-to-239 c =
    let text = c.args.text.now in
    let item = c.in_ok-lead.ensures.item in
    let first = first_byte text (omega (arith, item)) c.in_ok-lead.field-0.now item.1 in
    c.several-in-224-to-239.ensures ∙ sym (first ∙ three-bytes _ (drop 1 text) (omega arith) (omega arith))

pub returns-in-240-to-247 : goal.returns-in-240-to-247
returns-in-240-to-247 c =
    let text = c.args.text.now in
    let item = c.in_ok-lead.ensures.item in
    let first = first_byte text (omega (arith, item)) c.in_ok-lead.field-0.now item.1 in
    c.several-in-240-to-247.ensures ∙ sym (first ∙ four_bytes _ (drop 1 text) (omega arith) (omega arith))

pub returns-in_default : goal.returns-in_default
returns-in_default c =
    let text = c.args.text.now in
    let item = c.in_ok-lead.ensures.item in
    let first = first_byte text (omega (arith, item)) c.in_ok-lead.field-0.now item.1 in
    sym (first ∙ no_first _ (drop 1 text) (omega arith) (omega arith))

pub returns-in_default-2 : goal.returns-in_default-2
returns-in_default-2 c =
    let text = c.args.text.now in
    let item = c.in_ok-lead.ensures.item in
    let first = first_byte text (omega (arith, item)) c.in_ok-lead.field-0.now item.1 in
    sym (first ∙ too_high _ (drop 1 text) (omega arith))
