use Rattle.std.proofs.Common.{◌≡◌, List, length, ◌++◌, map, option_map, string_bytes}
use Rattle.std.specs.List.Sorted.{IsStrictlySortedBy}
use Rattle.std.specs.Map.{keys_of}
use Rattle.std.specs.String.{string_cmp}
use Rattle.std.specs.Vec.Iter.{into_iter_items, into_iter_len}
use Rattle.serde_json.specs.View.{items_view, members_view}
use Rattle.serde_json.proofs.Views.{Entry}
use Rattle.doc_value.specs.Document.{AreProper, FieldsAreProper, MembersHaveRange, FieldsHaveRange, members_of, fields_of}
use Rattle.doc_value.specs.Seen.{documents, all_named}
use Rattle.doc_value.specs.Data.{members_in, fields_in}
use Rattle.doc_value.proofs.Reading.{members_before, fields_before}
use Rattle.doc_value.proofs.read.+from_value.Given as goal

-- the documents so far and those of the rest are those of all
abbrev pub invariant-from_items-loop-item : goal.invariant-from_items-loop-item
invariant-from_items-loop-item l = record {
  left : into_iter_len l.item-iterator ≡ length (into_iter_items l.item-iterator);
  all : option_map (members_before (documents l.docs.items)) (members_in (items_view (into_iter_items l.item-iterator))) ≡ members_in (items_view l.fn.items.items);
  range : MembersHaveRange (members_of (documents l.docs.items));
  proper : AreProper (members_of (documents l.docs.items));
}

abbrev pub invariant-from_members-loop-name : goal.invariant-from_members-loop-name
invariant-from_members-loop-name l = record {
  done : List Entry;
  front : l.fn.members.entries ≡ done ++ l.name-iterator;
  names : map (λ e. string_bytes e.0) l.docs.entries ≡ map (λ e. string_bytes e.0) done;
  all : option_map (fields_before (all_named l.docs.entries)) (fields_in (members_view l.name-iterator)) ≡ fields_in (members_view l.fn.members.entries);
  range : FieldsHaveRange (fields_of (all_named l.docs.entries));
  ordered : IsStrictlySortedBy string_cmp (keys_of l.docs.entries);
  proper : FieldsAreProper (fields_of (all_named l.docs.entries));
}
