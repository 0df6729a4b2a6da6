-- Tests of the limits that documents keep.
use Rattle.std.specs.Prelude.{ℕ, ◌-◌, ◌^◌, ℤ, pos, negsuc, Bool, true, nat_lt, ◌&&◌}
use Rattle.doc_value.specs.Document.{Document, whole, list, object, Members, no_members, member, Fields, no_fields, field}

abbrev pub is_in_range : ℤ → Bool
is_in_range (pos n) = nat_lt n (2 ^ 64)
is_in_range (negsuc n) = nat_lt n (2 ^ 63)

-- whether each whole number is in range and the depth is at most the limit
abbrev mutual
  pub is_within : ℕ → Document → Bool
  is_within limit (whole z) = is_in_range z
  is_within limit (list ds) = nat_lt 0 limit && are_within (limit - 1) ds
  is_within limit (object fs) = nat_lt 0 limit && fields_are_within (limit - 1) fs
  is_within limit other = true

  pub are_within : ℕ → Members → Bool
  are_within limit no_members = true
  are_within limit (member d ds) = is_within limit d && are_within limit ds

  pub fields_are_within : ℕ → Fields → Bool
  fields_are_within limit no_fields = true
  fields_are_within limit (field k d fs) = is_within limit d && fields_are_within limit fs
