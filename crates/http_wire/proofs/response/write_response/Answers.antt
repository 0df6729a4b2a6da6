use Rattle.std.proofs.Common.{◌≡◌, List, ℕ, ◌++◌, ap, refl, ◌∙◌}
use Rattle.http_wire.specs.Responses.{allow_line}
use Rattle.http_wire.proofs.ResponseLemmas.{pieces_text}
use Rattle.http_wire.proofs.response.write_response.Goals as goal

-- the vector after each piece
opened : (c : goal.In_ok-extend_from_slice-3) → c.extend_from_slice.new.self.items ≡ c.as_slice-opening.result.now
opened c = c.in_ok-extend_from_slice.ensures.items ∙ ap (λ (t : List ℕ). t ++ c.as_slice-opening.result.now) c.in_ok-text.ensures.items

allowed : (c : goal.In_ok-extend_from_slice-3) → c.put_allow.new.text.items ≡ c.as_slice-opening.result.now ++ allow_line c.args.response.now.allow
allowed c = c.in_ok-put_allow.ensures ∙ ap (λ (t : List ℕ). t ++ allow_line c.args.response.now.allow) (opened c)

ended : (c : goal.In_ok-extend_from_slice-3) → c.extend_from_slice-2.new.self.items ≡ c.as_slice-opening.result.now ++ allow_line c.args.response.now.allow ++ c.ending-ending.result.now
ended c = c.in_ok-extend_from_slice-2.ensures.items ∙ ap (λ (t : List ℕ). t ++ c.ending-ending.result.now) (allowed c)

pub returns : goal.returns
returns c =
    c.in_ok-extend_from_slice-3.ensures.items ∙ ap (λ (t : List ℕ). t ++ c.sent-sent.result.now) (ended c)
    ∙ pieces_text c.args.response.now c.as_slice-body.result.now c.as_slice-opening.result.now (allow_line c.args.response.now.allow) c.ending-ending.result.now c.sent-sent.result.now
    c.as_slice-body.ensures (c.as_slice-opening.ensures ∙ c.opening-opening.ensures.text) refl c.ending-ending.ensures.text c.sent-sent.ensures.text
