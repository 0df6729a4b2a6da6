use Rattle.std.proofs.Common.{ℕ, List, [], ◌∷◌, ◌++◌, ◌∙◌, Some, sym, ap, subst}
use Rattle.std.specs.Prelude.{length, ◌+◌, ◌≤◌}
use Rattle.entry_bytes.specs.Spelling.{entry_bytes}
use Rattle.shared_repo.specs.Stored.{opened}
use Rattle.shared_repo.proofs.Committing.{prepared_leaves, command_leaves, faulty, written}
use Rattle.shared_repo.proofs.repo.Repo.command.Goals as goal

pub returns-in_err-state-clause-any_moment : goal.returns-in_err-state-clause-any_moment
returns-in_err-state-clause-any_moment g c = λ kept told some.
    prepared_leaves g.Q.Keeper.moment g.Q.Keeper.images_since c.args.self.now.keeper c.prepare.new.keeper kept (g.Q.Keeper.doubted c.args.self.now.keeper)
    (entry_bytes (record { moment = c.args.moment; command = c.args.command.now })) (c.prepare.ensures.any_moment kept told)

pub keep-requires-clause-room : goal.keep-requires-clause-room
keep-requires-clause-room g c =
    subst (λ (b : List ℕ). (g.Q.Keeper.figures c.prepare.new.keeper).used + g.Q.Keeper.costs (length b) ≤ (g.Q.Keeper.figures c.prepare.new.keeper).room)
    (sym c.deref.ensures.value) c.in_ok-state.ensures.fits

pub returns-in_err-keep-clause-judged : goal.returns-in_err-keep-clause-judged
returns-in_err-keep-clause-judged g c = λ history stores.
    faulty g.Q.Keeper.figures g.Q.Keeper.records g.Q.Keeper.costs (opened c.args.self.now) c.prepare.new.keeper c.keep.new.keeper _ history
    (record { moment = c.args.moment; command = c.args.command.now }) c.from_residual-in_err-keep.result stores (c.in_ok-state.ensures.judged history stores)
    c.prepare.ensures.reserved.same_figures c.prepare.ensures.reserved.same_records c.in_err-keep.ensures.no_more c.in_err-keep.ensures.records c.from_residual-in_err-keep.ensures.1

pub returns-in_err-keep-clause-any_moment : goal.returns-in_err-keep-clause-any_moment
returns-in_err-keep-clause-any_moment g c = λ kept told some.
    command_leaves g.Q.Keeper.moment g.Q.Keeper.images_since g.Q.Keeper.records g.Q.Keeper.doubted c.args.self.now.keeper c.prepare.new.keeper c.keep.new.keeper kept c.deref.result.now
    (entry_bytes (record { moment = c.args.moment; command = c.args.command.now })) c.prepare.ensures.reserved.same_records c.prepare.ensures.reserved.same_doubted
    (c.deref.ensures.value ∙ c.in_ok-state.ensures.bytes) told some (c.prepare.ensures.any_moment kept told) c.keep.ensures.any_moment

pub returns-clause-judged : goal.returns-clause-judged
returns-clause-judged g c = λ history stores.
    written g.Q.Keeper.figures g.Q.Keeper.records g.Q.Keeper.costs (opened c.args.self.now) c.prepare.new.keeper c.keep.new.keeper c.in_ok-state.field-0 history
    (record { moment = c.args.moment; command = c.args.command.now }) c.deref.result.now stores (c.in_ok-state.ensures.judged history stores) c.requires
    c.in_ok-state.ensures.proper (c.deref.ensures.value ∙ c.in_ok-state.ensures.bytes) c.prepare.ensures.reserved.same_figures c.prepare.ensures.reserved.same_records
    c.in_ok-keep.ensures.more c.in_ok-keep.ensures.records

pub returns-clause-any_moment : goal.returns-clause-any_moment
returns-clause-any_moment g c = λ kept told some.
    command_leaves g.Q.Keeper.moment g.Q.Keeper.images_since g.Q.Keeper.records g.Q.Keeper.doubted c.args.self.now.keeper c.prepare.new.keeper c.keep.new.keeper kept c.deref.result.now
    (entry_bytes (record { moment = c.args.moment; command = c.args.command.now })) c.prepare.ensures.reserved.same_records c.prepare.ensures.reserved.same_doubted
    (c.deref.ensures.value ∙ c.in_ok-state.ensures.bytes) told some (c.prepare.ensures.any_moment kept told) c.in_ok-keep.ensures.any_moment

pub returns-clause-kept : goal.returns-clause-kept
returns-clause-kept g c = λ kept told some image left.
    c.in_ok-keep.ensures.kept kept (c.prepare.ensures.reserved.same_records ∙ told) some image left
    ∙ ap (λ (b : List ℕ). Some (kept ++ b ∷ [])) (c.deref.ensures.value ∙ c.in_ok-state.ensures.bytes)
