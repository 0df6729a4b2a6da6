use Rattle.std.proofs.Common.{Ok, refl, sym}
use Rattle.api_records.specs.declared.command.Command.TheVariants.{CreateProject, UpdateProject, DeleteProject, CreateCommit, CreateBranch, DeleteBranch, CreateTag, DeleteTag}
use Rattle.repo_state.proofs.Steps.{judged}
use Rattle.repo_state.proofs.state.State.accept.Goals as goal

pub returns-in_ok-create_project-in-CreateProject-clause-exact : goal.returns-in_ok-create_project-in-CreateProject-clause-exact
returns-in_ok-create_project-in-CreateProject-clause-exact c = λ past st.
    judged c.args.self.now past c.args.moment (CreateProject c.in-CreateProject.name c.in-CreateProject.description) c.args.command.now (Ok c.in_ok-create_project-in-CreateProject.field-0)
    (sym c.in-CreateProject.is) (refl, c.in_ok-create_project-in-CreateProject.ensures.follows) st

pub returns-in-UpdateProject-clause-exact : goal.returns-in-UpdateProject-clause-exact
returns-in-UpdateProject-clause-exact c = λ past st.
    judged c.args.self.now past c.args.moment (UpdateProject c.in-UpdateProject.project c.in-UpdateProject.name c.in-UpdateProject.description c.in-UpdateProject.default_branch) c.args.command.now c.update_project.result (sym c.in-UpdateProject.is) c.update_project.ensures.judged st

pub returns-in-DeleteProject-clause-exact : goal.returns-in-DeleteProject-clause-exact
returns-in-DeleteProject-clause-exact c = λ past st.
    judged c.args.self.now past c.args.moment (DeleteProject c.in-DeleteProject.project) c.args.command.now c.delete_project.result (sym c.in-DeleteProject.is) c.delete_project.ensures.judged st

pub returns-in-CreateCommit-clause-exact : goal.returns-in-CreateCommit-clause-exact
returns-in-CreateCommit-clause-exact c = λ past st.
    judged c.args.self.now past c.args.moment (CreateCommit c.in-CreateCommit.project c.in-CreateCommit.branch c.in-CreateCommit.previous c.in-CreateCommit.description c.in-CreateCommit.changes) c.args.command.now c.create_commit.result (sym c.in-CreateCommit.is) c.create_commit.ensures.judged st

pub returns-in-CreateBranch-clause-exact : goal.returns-in-CreateBranch-clause-exact
returns-in-CreateBranch-clause-exact c = λ past st.
    judged c.args.self.now past c.args.moment (CreateBranch c.in-CreateBranch.project c.in-CreateBranch.name c.in-CreateBranch.head) c.args.command.now c.create_branch.result (sym c.in-CreateBranch.is) c.create_branch.ensures.judged st

pub returns-in-DeleteBranch-clause-exact : goal.returns-in-DeleteBranch-clause-exact
returns-in-DeleteBranch-clause-exact c = λ past st.
    judged c.args.self.now past c.args.moment (DeleteBranch c.in-DeleteBranch.project c.in-DeleteBranch.branch) c.args.command.now c.delete_branch.result (sym c.in-DeleteBranch.is) c.delete_branch.ensures.judged st

pub returns-in-CreateTag-clause-exact : goal.returns-in-CreateTag-clause-exact
returns-in-CreateTag-clause-exact c = λ past st.
    judged c.args.self.now past c.args.moment (CreateTag c.in-CreateTag.project c.in-CreateTag.name c.in-CreateTag.commit) c.args.command.now c.create_tag.result (sym c.in-CreateTag.is) c.create_tag.ensures.judged st

pub returns-in-DeleteTag-clause-exact : goal.returns-in-DeleteTag-clause-exact
returns-in-DeleteTag-clause-exact c = λ past st.
    judged c.args.self.now past c.args.moment (DeleteTag c.in-DeleteTag.project c.in-DeleteTag.tag) c.args.command.now c.delete_tag.result (sym c.in-DeleteTag.is) c.delete_tag.ensures.judged st
