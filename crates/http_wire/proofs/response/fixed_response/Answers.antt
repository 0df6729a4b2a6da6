use Rattle.std.proofs.Common.{◌++◌, None, [], append-nil, ap, refl, sym, ◌∙◌, rules}
use borrow.Author.Tests.{tests}
use Rattle.http_wire.specs.Responses.{fixed_body, fixed_text}
use Rattle.http_wire.proofs.ResponseLemmas.{pieces_text}
use Rattle.http_wire.proofs.response.fixed_response.Goals as goal

pub opening-text-requires : goal.opening-text-requires
opening-text-requires c = search (tests, rules)

pub returns : goal.returns
unfolding fixed_text
returns c =
    c.put-2.ensures.text ∙ ap (λ t. t ++ c.sent.result.now) c.put.ensures.text
    ∙ ap (λ t. t ++ c.ending.result.now ++ c.sent.result.now) (sym (append-nil c.opening-text.result))
    ∙ pieces_text (record { status = c.args.status; moment = c.args.moment; allow = None; close = c.args.close; no_body = c.args.no_body; body = fixed_body c.args.status })
    c.fixed_body-body.result.now c.opening-text.result [] c.ending.result.now c.sent.result.now
    c.fixed_body-body.ensures.text c.opening-text.ensures.text refl c.ending.ensures.text c.sent.ensures.text
