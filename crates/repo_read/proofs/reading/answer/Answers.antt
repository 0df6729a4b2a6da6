use Rattle.std.proofs.Common.{arith, ◌≡◌, ◌∙◌, ℕ, ◌-◌, List, length, drop, ap}
use Rattle.std.proofs.lemmas.Result.{IfOk-weaker}
use Rattle.entry_codec.specs.declared.call.ReadCall.{ReadCall}
use Rattle.entry_codec.specs.declared.entry.Entry.{Entry}
use Rattle.entry_codec.specs.Histories.{tables}
use Rattle.entry_codec.specs.Replies.{looked_up, reply_at, read_reply}
use Rattle.repo_read.proofs.reading.answer.Goals as goal

-- all entries are the first ones at the front
at_front : (r n : ℕ) (past : List Entry) (call : ReadCall) → n ≡ length past → reply_at r n past call ≡ read_reply r past call
at_front r n past call e =
    let none : length past - n ≡ 0 = omega arith in
    ap (λ k. looked_up r (tables r (drop k past)) call) none

pub returns-clause-reply : goal.returns-clause-reply
returns-clause-reply c = λ past st.
    let r = c.args.view.now.repository in
    IfOk-weaker c.answer_at.result (λ a. a ≡ reply_at r c.front.result past c.args.call.now) (λ a. a ≡ read_reply r past c.args.call.now)
    (λ a is. is ∙ at_front r c.front.result past c.args.call.now (c.front.ensures ∙ st.front)) (c.answer_at.ensures.reply past st)
