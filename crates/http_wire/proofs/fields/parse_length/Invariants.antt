use Rattle.std.proofs.Common.{◌≡◌, ◌≤◌, drop}
use Rattle.http_wire.specs.declared.fields.TheConstants.{BODY_MOST}
use Rattle.http_wire.specs.Fields.{length_of_text}
use Rattle.http_wire.proofs.LengthLemmas.{from}
use Rattle.http_wire.proofs.fields.parse_length.Given as goal

-- the bytes that are left, behind the number so far, make what the whole text makes
abbrev pub invariant-loop-digit : goal.invariant-loop-digit
invariant-loop-digit l = (l.len ≤ BODY_MOST) × (from l.len (drop l.digit-index l.text) ≡ length_of_text l.text)
