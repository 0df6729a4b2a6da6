use Rattle.std.proofs.Common.{IsUtf8, ◌≡◌, length, arith, [], ◌∷◌, ◌++◌, sym, ap, ◌∙◌, subst, Some, option_map, string_bytes, append_assoc}
use Rattle.std.proofs.lemmas.List.{nil_from_length}
use Rattle.std.proofs.lemmas.Str.{IsUtf8-string_bytes}
use Rattle.std.specs.List.Sorted.{IsStrictlySortedBy}
use Rattle.std.specs.Map.{keys_of}
use Rattle.std.specs.String.{string_cmp}
use Rattle.std.specs.Vec.Iter.{into_iter_items}
use Rattle.serde_json.specs.View.{view, items_view, members_view}
use Rattle.serde_json.proofs.Views.{Entry}
use Rattle.doc_value.proofs.Writing.{names_rise}
use Rattle.doc_value.specs.Document.{AreProper, FieldsAreProper, MembersHaveRange, FieldsHaveRange, members_of, fields_of}
use Rattle.doc_value.specs.Seen.{document, documents, all_named}
use Rattle.doc_value.specs.Data.{members_in, fields_in}
use Rattle.doc_value.proofs.Reading.{documents_push, members_before, fields_before, was_whole, is_whole, members_before_none, member_read, fields_before_none, field_read, named_last, same_names, range_push, field_range_push, proper_push, field_proper_push}
use Rattle.doc_value.proofs.read.+from_value.Goals as goal

pub from_value-returns-in-String-clause-proper : goal.from_value-returns-in-String-clause-proper
from_value-returns-in-String-clause-proper t c = subst IsUtf8 (sym c.of.ensures) (IsUtf8-string_bytes c.in-String.text)

pub from_items-loop-item-preserved : goal.from_items-loop-item-preserved
from_items-loop-item-preserved t c =
    let l = c.loop-item in
    let x = c.in-Some.item in
    let d = c.in_ok-from_value.field-0 in
    let rest = into_iter_items c.next.new.self in
    let here : into_iter_items l.item-iterator ≡ x ∷ rest = c.in-Some.ensures.steps.0 in
    let pushed : documents c.push.new.self.items ≡ documents l.docs.items ++ document d ∷ [] = documents_push l.docs.items c.push.new.self.items d c.in_ok-push.ensures.items in
    let shorter = ap length here in
    record {
      left = let had = l.invariant.left in let gone = c.in-Some.ensures.steps.1 in omega arith;
      all = ap (λ ds. option_map (members_before ds) (members_in (items_view rest))) pushed
          ∙ sym (member_read (documents l.docs.items) (document d) (view x) (items_view rest) (was_whole _ _ c.in_ok-from_value.ensures.exact))
          ∙ ap (λ ys. option_map (members_before (documents l.docs.items)) (members_in (items_view ys))) (sym here) ∙ l.invariant.all;
      range = subst (λ ds. MembersHaveRange (members_of ds)) (sym pushed) (range_push (documents l.docs.items) (document d) l.invariant.range c.in_ok-from_value.ensures.range);
      proper = subst (λ ds. AreProper (members_of ds)) (sym pushed) (proper_push (documents l.docs.items) (document d) l.invariant.proper c.in_ok-from_value.ensures.proper);
    }

pub from_items-returns-clause-exact : goal.from_items-returns-clause-exact
from_items-returns-clause-exact t c =
    let l = c.loop-item in
    let none : into_iter_items l.item-iterator ≡ [] = nil_from_length _ (sym l.invariant.left ∙ c.in-None.ensures.steps.0) in
    is_whole _ _ (sym l.invariant.all ∙ ap (λ ys. option_map (members_before (documents l.docs.items)) (members_in (items_view ys))) none ∙ ap Some (members_before_none (documents l.docs.items)))

pub from_members-loop-name-preserved : goal.from_members-loop-name-preserved
from_members-loop-name-preserved t c =
    let l = c.loop-name in
    let done = l.invariant.done in
    let e : Entry = (c.in-Some.name, c.in-Some.member) in
    let left = c.next.new.self in
    let d = c.in_ok-from_value.field-0 in
    let step : l.name-iterator ≡ e ∷ left = c.in-Some.ensures.steps in
    let all : c.args.members.entries ≡ done ++ e ∷ left = l.invariant.front ∙ ap (λ es. done ++ es) step in
    let sorted = subst (λ es. IsStrictlySortedBy string_cmp (keys_of es)) all c.into_iter-name-iterator.ensures.into_iter_gives.5 in
    let last = ap all_named c.in_ok-insert.ensures.entries ∙ named_last l.docs.entries d done e left sorted l.invariant.names in record {
      done = done ++ e ∷ [];
      front = all ∙ sym (append_assoc done (e ∷ []) left);
      names = same_names l.docs.entries c.insert.new.self.entries (document d) done e last l.invariant.names;
      all = ap (λ es. option_map (fields_before es) (fields_in (members_view left))) last
          ∙ sym (field_read (all_named l.docs.entries) (string_bytes e.0) (document d) (view e.1) (members_view left) (was_whole _ _ c.in_ok-from_value.ensures.exact))
          ∙ ap (λ es. option_map (fields_before (all_named l.docs.entries)) (fields_in (members_view es))) (sym step) ∙ l.invariant.all;
      range = subst (λ es. FieldsHaveRange (fields_of es)) (sym last) (field_range_push (all_named l.docs.entries) (string_bytes e.0) (document d) l.invariant.range c.in_ok-from_value.ensures.range);
      ordered = c.in_ok-insert.ensures.ordered;
      proper = subst (λ es. FieldsAreProper (fields_of es)) (sym last) (field_proper_push (all_named l.docs.entries) (string_bytes e.0) (document d) l.invariant.proper (IsUtf8-string_bytes e.0) c.in_ok-from_value.ensures.proper);
    }

pub from_members-returns-clause-exact : goal.from_members-returns-clause-exact
from_members-returns-clause-exact t c =
    let l = c.loop-name in
    is_whole _ _ (sym l.invariant.all
    ∙ ap (λ es. option_map (fields_before (all_named l.docs.entries)) (fields_in (members_view es))) c.in-None.ensures.steps.0 ∙ ap Some (fields_before_none (all_named l.docs.entries)))

pub from_members-returns-clause-proper : goal.from_members-returns-clause-proper
from_members-returns-clause-proper t c = (names_rise c.loop-name.docs.entries c.loop-name.invariant.ordered, c.loop-name.invariant.proper)
