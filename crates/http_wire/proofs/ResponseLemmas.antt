use Rattle.std.proofs.Common.{◌≡◌, ℕ, List, [], ◌++◌, length, append_assoc, ap, ◌∙◌}
use Rattle.std.specs.Prelude.{if◌then◌else◌}
use Rattle.http_wire.specs.declared.response.Response.{Response}
use Rattle.http_wire.specs.Responses.{status_line, date_line, type_line, length_line, allow_line, close_line, line_end, sent_body, response_text}

joined : (opening close end body : List ℕ) → opening ++ (close ++ end) ++ body ≡ opening ++ close ++ end ++ body
joined opening close end body = simp append_assoc

abbrev opening_text : Response → List ℕ → List ℕ
opening_text response body = status_line response.status ++ date_line response.moment ++ type_line ++ length_line (length body)

-- a response's text is joined from its four pieces
pub pieces_text : (response : Response) (body opening allow ending sent : List ℕ) → body ≡ response.body → opening ≡ opening_text response body → allow ≡ allow_line response.allow → ending ≡ close_line response.close ++ line_end → sent ≡ (if response.no_body then [] else body) → opening ++ allow ++ ending ++ sent ≡ response_text response
unfolding response_text
pieces_text response body opening allow ending sent is_body is_opening is_allow is_ending is_sent =
    (λ i. is_opening i ++ is_allow i ++ is_ending i ++ is_sent i)
    ∙ ap (λ b. opening_text response b ++ allow_line response.allow ++ (close_line response.close ++ line_end) ++ (if response.no_body then [] else b)) is_body
    ∙ joined (opening_text response response.body ++ allow_line response.allow) (close_line response.close) line_end (sent_body response)
