use Rattle.std.proofs.Common.{◌≡◌, [], ◌∷◌, ◌++◌, String, Global, string_bytes, sym, ap, ◌∙◌, subst, append_assoc}
use Rattle.std.proofs.lemmas.List.{map_push}
use Rattle.std.specs.List.Sorted.{IsStrictlySortedBy}
use Rattle.std.specs.Map.{keys_of}
use Rattle.std.specs.String.{string_cmp}
use Rattle.doc_value.specs.declared.doc.Doc.{Doc}
use Rattle.doc_value.specs.Seen.{document, named, all_named}
use Rattle.doc_value.proofs.Reading.{named_last_as, names_alike}
use Rattle.doc_value.proofs.doc.copy.+copy_of.Goals as goal

pub copy_of_fields-loop-name-preserved : goal.copy_of_fields-loop-name-preserved
copy_of_fields-loop-name-preserved t c =
    let l = c.loop-name in
    let done = l.invariant.0 in
    let e : String Global × Doc = (c.in-Some.name.now, c.in-Some.doc.now) in
    let left = c.next.new.self in
    let step : l.name-iterator ≡ e ∷ left = c.in-Some.ensures.steps in
    let all : c.args.docs.now.entries ≡ done ++ e ∷ left = l.invariant.1 ∙ ap (λ es. done ++ es) step in
    let sorted = subst (λ es. IsStrictlySortedBy string_cmp (keys_of es)) all c.iter-name-items.ensures.ordered in
    let key : string_bytes c.in_ok-key.key ≡ string_bytes e.0 = c.in_ok-key.ensures.ok ∙ c.as_str.ensures.value in
    let same : document c.in_ok-copy_of.field-0 ≡ document e.1 = ap document c.in_ok-copy_of.ensures in
    let last = named_last_as l.copies.entries c.in_ok-key.key c.in_ok-copy_of.field-0 done e left sorted (names_alike l.copies.entries done l.invariant.2) key in (
      done ++ e ∷ [],
      all ∙ sym (append_assoc done (e ∷ []) left),
      ap all_named c.in_ok-insert.ensures.entries ∙ last ∙ ap (λ d. all_named l.copies.entries ++ (string_bytes e.0, d) ∷ []) same
          ∙ ap (λ es. es ++ named e ∷ []) l.invariant.2 ∙ sym (map_push named done e),
    )
