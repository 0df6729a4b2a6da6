use Rattle.std.proofs.Common.{◌≡◌, Some, sym, ap, ◌∙◌}
use Rattle.http.specs.StatusCode.{reason_phrase}
use Rattle.http_wire.specs.Responses.{phrase}
use Rattle.http_wire.proofs.PhraseLemmas.{read_phrase, short, is_code}
use Rattle.http_wire.proofs.status.phrase.Goals as goal

told : (c : goal.After-unwrap_or) → phrase c.args.status ≡ Some c.unwrap_or.result.now
told c =
    read_phrase c.args.status c.canonical_reason.result _ c.requires (c.canonical_reason.ensures.value ∙ ap reason_phrase c.in-Ok.ensures.1)
    ∙ ap (λ r. Some r.now) (sym c.unwrap_or.ensures)

pub returns-in-Ok-clause-text : goal.returns-in-Ok-clause-text
returns-in-Ok-clause-text c = told c

pub returns-in-Ok-clause-short : goal.returns-in-Ok-clause-short
returns-in-Ok-clause-short c = short c.args.status c.unwrap_or.result.now (told c)

pub returns-in-Err-clause-text : goal.returns-in-Err-clause-text
returns-in-Err-clause-text c = absurd (c.in-Err.ensures (is_code c.args.status c.requires))
