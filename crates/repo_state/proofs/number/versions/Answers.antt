use Rattle.std.proofs.Common.{◌≡◌, ◌∷◌, ◌+◌, drop, ◌∙◌}
use Rattle.api_records.specs.Sets.{has}
use Rattle.repo_state.proofs.VersionLemmas.{split_at, values_of, versions_made, serials_drawn, one_more, one_more_stored}
use Rattle.repo_state.proofs.number.versions.Goals as goal

pub loop-change-preserved : goal.loop-change-preserved
loop-change-preserved c =
    let r = c.args.repository in
    let known = has c.args.known.now in
    let cs = c.args.changes.now in
    let i = c.loop-change.change-index in
    let split : drop i cs ≡ c.change-item.result ∷ drop (i + 1) cs = split_at cs i c.change-item.result c.loop-change-test.true c.change-item.is in
    let behind = c.in_ok-drawn.drawn.next in
    let v = c.in_ok-drawn.drawn.made in
    let old = c.loop-change.made.items in
    let new = c.push.new.self.items in
    record {
      made = versions_made r known c.loop-change.next behind c.change-item.result (drop (i + 1) cs) (drop i cs) (values_of old) (values_of new) v
          split (one_more old new c.in_ok-new.field-0 v c.in_ok-push.ensures.items c.in_ok-new.ensures.ok) c.in_ok-drawn.ensures.version c.in_ok-drawn.ensures.next ∙ c.loop-change.invariant.made;
      next = serials_drawn r known c.loop-change.next behind c.change-item.result (drop (i + 1) cs) (drop i cs) split c.in_ok-drawn.ensures.next ∙ c.loop-change.invariant.next;
      stored = one_more_stored old new c.in_ok-new.field-0 v c.in_ok-push.ensures.items c.in_ok-new.ensures.ok c.loop-change.invariant.stored c.in_ok-drawn.ensures.stored;
    }
