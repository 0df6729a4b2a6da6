use Rattle.doc_value.specs.Seen.{document}
use Rattle.api_records.proofs.StorableLemmas.{command_right}
use Rattle.api_records.proofs.command.Command.from_body.Goals as goal

pub returns-in-Commit-Some-clause-right_parts : goal.returns-in-Commit-Some-clause-right_parts
returns-in-Commit-Some-clause-right_parts c =
    command_right c.commit_of.result c.in-Commit-Some.project.now c.args.branch (document c.args.doc.now) c.requires.sound c.commit_of.ensures.exact c.commit_of.ensures.few
