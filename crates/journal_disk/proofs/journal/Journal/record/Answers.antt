use Rattle.std.proofs.Common.{◌≡◌, ◌<◌, ◌+◌, ◌-◌, [], length, get_or, arith, rules, ap}
use Rattle.std.proofs.lemmas.List.{get_or_read}
use Rattle.std.proofs.lemmas.Result.{IfOk-weaker}
use Rattle.journal_disk.proofs.Kept as lem
use Rattle.journal_disk.proofs.journal.Journal.record.Goals as goal

pub overflow_add-place : goal.overflow_add-place
overflow_add-place g c =
    let within : c.args.i < length c.self.inside.places.items = lem.within_of _ c.args.self.now c.self.view_is c.args.i c.requires in
    let place = get_or_read c.self.inside.places.items c.args.i c.index-place.result.now within c.index-place.ensures 0 in
    omega (arith, place, lem.low_place c.self.invariant c.args.i within)

pub overflow_sub-end : goal.overflow_sub-end
overflow_sub-end g c =
    let within : c.args.i < length c.self.inside.places.items = lem.within_of _ c.args.self.now c.self.view_is c.args.i c.requires in
    let place = get_or_read c.self.inside.places.items c.args.i c.index-place.result.now within c.index-place.ensures 0 in
    let end : c.end_of-end.result ≡ get_or c.self.inside.places.items (c.args.i + 1) (c.self.inside.used - 1) = search rules in
    omega (arith, place, end, lem.ends c.self.invariant c.args.i within)

pub overflow_sub-end-2 : goal.overflow_sub-end-2
overflow_sub-end-2 g c =
    let within : c.args.i < length c.self.inside.places.items = lem.within_of _ c.args.self.now c.self.view_is c.args.i c.requires in
    let place = get_or_read c.self.inside.places.items c.args.i c.index-place.result.now within c.index-place.ensures 0 in
    let end : c.end_of-end.result ≡ get_or c.self.inside.places.items (c.args.i + 1) (c.self.inside.used - 1) = search rules in
    omega (arith, place, end, lem.ends c.self.invariant c.args.i within)

pub read_bytes-requires : goal.read_bytes-requires
read_bytes-requires g c =
    let within : c.args.i < length c.self.inside.places.items = lem.within_of _ c.args.self.now c.self.view_is c.args.i c.requires in
    let place = get_or_read c.self.inside.places.items c.args.i c.index-place.result.now within c.index-place.ensures 0 in
    let end : c.end_of-end.result ≡ get_or c.self.inside.places.items (c.args.i + 1) (c.self.inside.used - 1) = search rules in
    omega (arith, place, end, lem.ends c.self.invariant c.args.i within, lem.low_place c.self.invariant c.args.i within, lem.short c.self.invariant c.args.i within)

pub returns-clause-value : goal.returns-clause-value
returns-clause-value g c =
    let within : c.args.i < length c.self.inside.places.items = lem.within_of _ c.args.self.now c.self.view_is c.args.i c.requires in
    let place = get_or_read c.self.inside.places.items c.args.i c.index-place.result.now within c.index-place.ensures 0 in
    let end : c.end_of-end.result ≡ get_or c.self.inside.places.items (c.args.i + 1) (c.self.inside.used - 1) = search rules in
    let long : c.end_of-end.result - c.index-place.result.now - 5 ≡ length (get_or c.self.invariant.records c.args.i []) = omega (arith, place, end, lem.ends c.self.invariant c.args.i within) in
    rw (← c.self.view_is) (lem.record_read c.self.invariant (g.D.Disk.reading c.self.inside.disk) (g.met.D.Disk.reads_as_image c.self.inside.disk) c.read_bytes.result c.args.i _ _ within (ap (λ n. n + 5) place) long c.read_bytes.ensures.value)

pub returns-clause-size : goal.returns-clause-size
returns-clause-size g c =
    let within : c.args.i < length c.self.inside.places.items = lem.within_of _ c.args.self.now c.self.view_is c.args.i c.requires in
    let place = get_or_read c.self.inside.places.items c.args.i c.index-place.result.now within c.index-place.ensures 0 in
    let end : c.end_of-end.result ≡ get_or c.self.inside.places.items (c.args.i + 1) (c.self.inside.used - 1) = search rules in
    IfOk-weaker c.read_bytes.result _ _ (λ v is. omega (arith, is, place, end, lem.ends c.self.invariant c.args.i within, lem.short c.self.invariant c.args.i within)) c.read_bytes.ensures.size
