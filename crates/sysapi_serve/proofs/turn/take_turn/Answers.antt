use Rattle.std.proofs.Common.{refl, inl, inr}
use Rattle.http_wire.proofs.StreamLemmas.{takes_some}
use Rattle.sysapi_serve.proofs.TurnLemmas.{refused_front, taken_front, closes_of_turn}
use Rattle.sysapi_serve.proofs.turn.take_turn.Goals as goal

pub returns-in-Ok-clause-feeds : goal.returns-in-Ok-clause-feeds
returns-in-Ok-clause-feeds g c =
    let got = c.in-Some-Ok in
    takes_some c.args.feed.now got.request c.next.new.self (taken_front c.args.feed.now c.next.new.self got.field-0 got.request got.field-0-is got.ensures.request)

pub returns-in-Err-clause-does : goal.returns-in-Err-clause-does
returns-in-Err-clause-does g c = λ before stores.
    let got = c.in-Some-Ok in
    let now = c.in-Err.ensures.sent before stores in (
      now.0,
      now.1,
      inl (
        refl,
        record {
          request = got.request;
          moment = c.now.result;
          way = now.2.0;
          text = now.2.1;
          takes = taken_front c.args.feed.now c.next.new.self got.field-0 got.request got.field-0-is got.ensures.request;
          judges = now.2.2;
          ticks = c.now.ensures;
          sends = now.2.3;
        },
      ),
    )

pub returns-in-Some-Err-clause-does : goal.returns-in-Some-Err-clause-does
returns-in-Some-Err-clause-does g c = λ before stores.
    let got = c.in-Some-Err in
    let front = refused_front c.args.feed.now c.next.new.self got.field-0 got.error got.field-0-is got.ensures.refused in
    (before, stores, inr (refl, front.0, (c.now-in-Some-Err.result, c.now-in-Some-Err.ensures, c.refuse.ensures.closes c.args.feed.now front.1)))

pub returns-in-Some-Err-clause-feeds : goal.returns-in-Some-Err-clause-feeds
returns-in-Some-Err-clause-feeds g c =
    let got = c.in-Some-Err in
    let front = refused_front c.args.feed.now c.next.new.self got.field-0 got.error got.field-0-is got.ensures.refused in
    closes_of_turn (g.K.Sink.taken c.args.sink.now) (g.K.Sink.taken c.refuse.new.sink) c.args.feed.now c.now-in-Some-Err.result c.refuse.result (c.refuse.ensures.closes c.args.feed.now front.1)
