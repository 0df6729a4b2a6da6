use Rattle.std.proofs.Common.{arith, Some, ap, ◌∙◌}
use Rattle.api_records.specs.Records.{version_doc}
use Rattle.repo_read.proofs.Told.{version_told_more, listable_more}
use Rattle.repo_read.proofs.list.version_docs.Goals as goal

pub loop-version-preserved : goal.loop-version-preserved
loop-version-preserved c =
    let loop = c.loop-version in
    record {
      told = version_told_more c.args.versions.now loop.version-index c.version-item.result loop.docs.items c.push.new.self.items c.in_ok-to_doc.field-0
          c.loop-version-test.true c.version-item.is loop.invariant.told (c.in_ok-to_doc.ensures.doc ∙ ap version_doc c.deref.ensures) c.in_ok-push.ensures.items;
      listable = listable_more loop.docs.items c.push.new.self.items (Some c.in_ok-to_doc.field-0) loop.invariant.listable
          (c.in_ok-to_doc.ensures.sound, omega (arith, c.in_ok-to_doc.ensures.shallow)) c.in_ok-push.ensures.items;
    }
