use Rattle.std.proofs.Common.{inl, inr, refl, arith, lit<, lit≤, drop, []}
use Rattle.journal_disk.specs.Format.{header_of, body, base}
use Rattle.journal_disk.specs.Example.{with_byte}
use Rattle.journal_disk.proofs.laws.first_journal.Goals as goal

pub returns-clause-records : goal.returns-clause-records
unfolding base header_of body
returns-clause-records c = record {
  gate = 0;
  shut = λ is. omega arith;
  begins = ([], refl);
  fits = (omega arith, lit≤ tt, tt);
  number = omega arith;
}

pub returns-clause-head : goal.returns-clause-head
returns-clause-head c = inl (refl, λ head. let e = head.1.1 in omega arith)

pub returns-clause-gate : goal.returns-clause-gate
unfolding base header_of body
returns-clause-gate c = inr (record {
  repository = 1;
  records = [];
  fits = tt;
  place_is = refl;
  begins = (drop 17 (with_byte 20 17), refl);
  number = omega arith;
  bad = inr (inr (lit< tt));
})
