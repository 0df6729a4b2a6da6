use Rattle.std.proofs.Common.{◌≡◌, length, rules, ◌∙◌}
use Rattle.journal_disk.proofs.Pieces.{piece_filled}
use Rattle.journal_disk.proofs.piece.look.Goals as goal

pub returns-then-has-clause-bytes : goal.returns-then-has-clause-bytes
returns-then-has-clause-bytes g c =
    let piece = c.args.piece.now in
    let long : length c.copy.new.into ≡ length c.args.into.now = search rules in
    let in_it = c.has.ensures c.if-has.true in
    piece_filled (g.D.Disk.reading c.args.disk.now) piece.from piece.len c.args.at piece.bytes c.copy.new.into c.requires.holds (search rules) (search rules) (search rules)

pub returns-then-has-2-clause-bytes : goal.returns-then-has-2-clause-bytes
returns-then-has-2-clause-bytes g c =
    let piece = c.refill.new.piece in
    let long : length c.copy-then-has-2.new.into ≡ length c.args.into.now = search rules in
    let in_it = c.has-2.ensures c.if-has-2.true in
    λ b is. piece_filled (g.D.Disk.reading c.refill.new.disk) piece.from piece.len c.args.at piece.bytes c.copy-then-has-2.new.into c.in_ok-refill.ensures.holds (search rules) (search rules) (search rules) b (c.refill.ensures.same ∙ is)
