use Rattle.std.proofs.Common.{rules, ◌≤◌, ◌^◌, length}
use Rattle.shared_repo.proofs.Committing.{short_bytes}
use Rattle.shared_repo.proofs.commit.prepare.Goals as goal

pub overflow_cast-len : goal.overflow_cast-len
overflow_cast-len g c =
    let short : length c.in_ok-bytes.bytes.items ≤ 2 ^ 27 = short_bytes c.in_ok-bytes.bytes.items c.args.moment c.args.command.now c.requires.storable c.in_ok-bytes.ensures.bytes in
    search rules

pub reserve-requires : goal.reserve-requires
reserve-requires g c =
    let short : length c.in_ok-bytes.bytes.items ≤ 2 ^ 27 = short_bytes c.in_ok-bytes.bytes.items c.args.moment c.args.command.now c.requires.storable c.in_ok-bytes.ensures.bytes in
    search rules

pub needed_for-needed-requires : goal.needed_for-needed-requires
needed_for-needed-requires g c =
    let short : length c.in_ok-bytes.bytes.items ≤ 2 ^ 27 = short_bytes c.in_ok-bytes.bytes.items c.args.moment c.args.command.now c.requires.storable c.in_ok-bytes.ensures.bytes in
    search rules

pub returns-clause-size : goal.returns-clause-size
returns-clause-size g c = short_bytes c.in_ok-bytes.bytes.items c.args.moment c.args.command.now c.requires.storable c.in_ok-bytes.ensures.bytes
