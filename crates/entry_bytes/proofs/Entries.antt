-- The two laws of entries: what is read is spelled so, and what is spelled so is read.
use Rattle.std.proofs.Common.{◌≡◌, ℕ, ◌^◌, ◌<◌, ◌≤◌, Bool, false, cond, eqb, ltb, List, [], ◌++◌, length, ◌+◌, Option, Some, None, option_and_then, IfSome, Result, Ok, Err, IfOk, sym, ap, subst, ◌∙◌, arith}
use Rattle.std.specs.Prelude.{IfErr}
use Rattle.std.specs.Int.{w64}
use Rattle.std.proofs.lemmas.Bool.{eqb-true, ltb-false, ltb-true, lt-ltb, le-ltb}
use Rattle.std.proofs.lemmas.List.{append-nil, nil_from_length, length-append}
use Rattle.std.proofs.lemmas.Option.{none-some}
use Rattle.sysapi_base.specs.declared.moment.TheConstants.{END}
use Rattle.doc_value.specs.Document.{IsProper}
use Rattle.doc_value.specs.declared.doc.Doc.{Doc}
use Rattle.doc_value.specs.Seen.{document}
use Rattle.api_records.specs.Storable.{HasRightParts, IsStored, IsShort}
use Rattle.api_records.specs.declared.command.Command.{Command}
use Rattle.api_records.specs.declared.command.Command.TheVariants.{CreateProject, UpdateProject, DeleteProject, CreateCommit, CreateBranch, DeleteBranch, CreateTag, DeleteTag}
use Rattle.entry_codec.specs.declared.entry.Entry.{Entry}
use Rattle.entry_bytes.specs.declared.error.DecodeError.{DecodeError}
use Rattle.entry_bytes.specs.declared.error.DecodeError.TheVariants.{NotAnEntry, Memory}
use Rattle.api_records.specs.Spelling.{number_bytes, command_bytes}
use Rattle.entry_bytes.specs.Spelling.{entry_bytes}
use Rattle.entry_bytes.specs.Sound.{IsEntry, IsProperEntry, HasProperParts, IsKept, HasKeptPayloads}
use Rattle.entry_bytes.specs.Reading.{both, judged, number_at, command_at, if_moment, entry_at, if_ended, entry_in, Gives, Fails, Explains, IsNoEntry}
use Rattle.entry_bytes.proofs.Parts.{IsBytes, chained, provided, unless, Reads, made_takes, made_again, judged_reads, IsBelow}
use Rattle.entry_bytes.proofs.Fields.{both_of, number_64}
use Rattle.entry_bytes.proofs.Lengths.{length_64}
use Rattle.entry_bytes.proofs.Commands.{WasTaken, CanBeRead, command_reads}

moment_right : (a b : ℕ) → IsBelow (2 ^ 64) a → if_moment a ≡ Some b → (a ≡ b) × (b < END)
moment_right a b any e =
    let g = provided (ltb a END) a b e in
    let below : a < END = ltb-true a END g.0 in
    (g.1, subst (λ (n : ℕ). n < END) g.1 below)

moment_again : (b : ℕ) → b < END → if_moment b ≡ Some b
moment_again b h = ap (λ (t : Bool). cond t (Some b) None) (lt-ltb b END h)

moment_reads : Reads (judged if_moment (number_at w64)) (number_bytes w64) (λ n. n < END) (λ n. n < END)
moment_reads = judged_reads if_moment (number_at w64) (number_bytes w64) (IsBelow (2 ^ 64)) (IsBelow (2 ^ 64)) number_64 (λ b. b) (λ n. n < END) (λ n. n < END) moment_right moment_again (λ b fits lt. omega (arith, fits))

abbrev Taken : Entry → Type 0
Taken e = (e.moment < END) × WasTaken e.command

abbrev entry_of : ℕ × Command → Entry
entry_of x = record { moment = x.0; command = x.1 }

parts : Reads (both (judged if_moment (number_at w64)) command_at) (λ x. number_bytes w64 x.0 ++ command_bytes x.1) (λ x. (x.0 < END) × WasTaken x.1) (λ x. (x.0 < END) × CanBeRead x.1)
parts = both_of moment_reads command_reads

all_takes : (bytes : List ℕ) (e : Entry) → IsBytes bytes → entry_in bytes ≡ Some e → (bytes ≡ entry_bytes e) × Taken e × (length bytes ≤ 2 ^ 27)
all_takes bytes e fits is =
    let g = unless (ltb (2 ^ 27) (length bytes)) (option_and_then if_ended (entry_at bytes)) e is in
    let short : length bytes ≤ 2 ^ 27 = ltb-false (2 ^ 27) (length bytes) g.0 in
    let x = chained if_ended (entry_at bytes) e g.1 in
    let ended = provided (eqb (length x.0.1) 0) x.0.0 e x.2 in
    let nothing : x.0.1 ≡ [] = nil_from_length x.0.1 (eqb-true (length x.0.1) 0 ended.0) in
    let a = made_takes entry_of _ _ _ _ parts bytes x.0 fits x.1 in
    let same : entry_of a.0 ≡ e = a.1 ∙ ended.1 in
    let whole : bytes ≡ entry_bytes (entry_of a.0) = a.2 ∙ ap (λ (l : List ℕ). entry_bytes (entry_of a.0) ++ l) nothing ∙ append-nil (entry_bytes (entry_of a.0)) in
    subst (λ (f : Entry). (bytes ≡ entry_bytes f) × Taken f × (length bytes ≤ 2 ^ 27)) same (whole, (a.3.0, a.3.1), short)

-- ---- what is known of entries

kept : (o : Option Doc) → IsStored o → IfSome o (λ d. IsProper (document d)) → IfSome o IsKept
kept None h k = tt
kept (Some d) h k = (h, k)

stored : (o : Option Doc) → IfSome o IsKept → IsStored o × IfSome o (λ d. IsProper (document d))
stored None h = (tt, tt)
stored (Some d) h = (h.0, h.1)

readable : (c : Command) → HasRightParts c → HasProperParts c → CanBeRead c
readable (CreateProject n d) h p = (p.0, p.1)
readable (UpdateProject x n d b) h p = (p.0, p.1, p.2, p.3)
readable (DeleteProject x) h p = p
readable (CreateCommit x b cs d xs) h p = (p.0, p.1, p.2, p.3, λ k c lt. (p.4 k c lt, kept _ (h.0 k c lt) (p.5 k c lt)))
readable (CreateBranch x n b) h p = (p.0, p.1, p.2)
readable (DeleteBranch x b) h p = (p.0, p.1)
readable (CreateTag x n c) h p = (p.0, p.1, p.2)
readable (DeleteTag x t) h p = (p.0, p.1)

right_parts : (c : Command) → WasTaken c → HasKeptPayloads c → HasRightParts c × HasProperParts c
right_parts (CreateProject n d) p h = (tt, (p.0, p.1))
right_parts (UpdateProject x n d b) p h = (tt, (p.0, p.1, p.2, p.3))
right_parts (DeleteProject x) p h = (tt, p)
right_parts (CreateCommit x b cs d xs) p h = (((λ k c lt. (stored _ (h k c lt)).0), p.5), (p.0, p.1, p.2, p.3, p.4, λ k c lt. (stored _ (h k c lt)).1))
right_parts (CreateBranch x n b) p h = (tt, (p.0, p.1, p.2))
right_parts (DeleteBranch x b) p h = (tt, (p.0, p.1))
right_parts (CreateTag x n c) p h = (tt, (p.0, p.1, p.2))
right_parts (DeleteTag x t) p h = (tt, (p.0, p.1))

-- ---- lengths

length_entry : (e : Entry) → length (entry_bytes e) ≡ 8 + length (command_bytes e.command)
length_entry e = omega (arith, length-append (number_bytes w64 e.moment) (command_bytes e.command), length_64 e.moment)

short_entry : (e : Entry) → length (entry_bytes e) ≤ 2 ^ 27 → IsShort e.command
short_entry e le = omega (arith, le, length_entry e)

pub entry_short : (e : Entry) → IsShort e.command → length (entry_bytes e) ≤ 2 ^ 27
entry_short e le = omega (arith, le, length_entry e)

-- ---- the laws

pub entry_takes : (bytes : List ℕ) (e : Entry) → IsBytes bytes → entry_in bytes ≡ Some e → HasKeptPayloads e.command → (entry_bytes e ≡ bytes) × IsEntry e × IsProperEntry e
entry_takes bytes e fits is payloads =
    let a = all_takes bytes e fits is in
    let known = right_parts e.command a.1.1 payloads in
    (sym a.0, (known.0, short_entry e (subst (λ (l : List ℕ). length l ≤ 2 ^ 27) a.0 a.2)), (a.1.0, known.1))

pub entry_again : (e : Entry) → IsEntry e → IsProperEntry e → entry_in (entry_bytes e) ≡ Some e
entry_again e is proper =
    let fits : length (entry_bytes e) ≤ 2 ^ 27 = entry_short e is.1 in
    let short : ltb (2 ^ 27) (length (entry_bytes e)) ≡ false = le-ltb _ _ fits in
    let nothing : entry_bytes e ++ [] ≡ entry_bytes e = append-nil (entry_bytes e) in
    let less : length (entry_bytes e ++ []) < 2 ^ 32 = subst (λ (l : List ℕ). length l < 2 ^ 32) (sym nothing) (omega (arith, fits)) in
    let read = made_again entry_of _ _ _ _ parts (e.moment, e.command) [] (proper.0, readable e.command is.0 proper.1) less in
    ap (λ (b : Bool). cond b None (option_and_then if_ended (entry_at (entry_bytes e)))) short
    ∙ ap (λ (l : List ℕ). option_and_then if_ended (entry_at l)) (sym nothing)
    ∙ ap (λ (o : Option (Entry × List ℕ)). option_and_then if_ended o) read

pub one_spelling : (e f : Entry) → IsEntry e → IsProperEntry e → IsEntry f → IsProperEntry f → entry_bytes e ≡ entry_bytes f → e ≡ f
one_spelling e f he pe hf pf same = cc (sym (entry_again e he pe) ∙ ap entry_in same ∙ entry_again f hf pf)

-- ---- what `decode` answers

module _ (bytes : List ℕ) (fits : IsBytes bytes) where
  found : (r : Result Entry DecodeError) → Gives (λ (e : Entry). e) r (entry_in bytes) → IfOk r (λ e. HasKeptPayloads e.command)
      → IfOk r (λ e. (entry_bytes e ≡ bytes) × IsEntry e × IsProperEntry e)
  found (Ok e) given payloads = entry_takes bytes e fits given payloads
  found (Err why) given payloads = tt

  pub is_found : (r : Result Entry DecodeError) → Gives (λ (e : Entry). e) r (entry_in bytes) → IfOk r (λ e. HasKeptPayloads e.command) → IfOk r (λ e. entry_bytes e ≡ bytes)
  is_found (Ok e) given payloads = (found (Ok e) given payloads).0
  is_found (Err why) given payloads = tt

  pub is_sound : (r : Result Entry DecodeError) → Gives (λ (e : Entry). e) r (entry_in bytes) → IfOk r (λ e. HasKeptPayloads e.command) → IfOk r IsEntry
  is_sound (Ok e) given payloads = (found (Ok e) given payloads).1
  is_sound (Err why) given payloads = tt

  pub is_proper : (r : Result Entry DecodeError) → Gives (λ (e : Entry). e) r (entry_in bytes) → IfOk r (λ e. HasKeptPayloads e.command) → IfOk r IsProperEntry
  is_proper (Ok e) given payloads = (found (Ok e) given payloads).2
  is_proper (Err why) given payloads = tt

pub no_entry : (bytes : List ℕ) → entry_in bytes ≡ None → IsNoEntry bytes
no_entry bytes nothing e is proper same =
    let read : entry_in bytes ≡ Some e = ap entry_in (sym same) ∙ entry_again e is proper in
    none-some e (sym nothing ∙ read)

explained : (bytes : List ℕ) (why : DecodeError) → Fails why (entry_in bytes) → Explains bytes why
explained bytes NotAnEntry nothing = no_entry bytes nothing
explained bytes Memory nothing = tt

pub is_none : (bytes : List ℕ) (r : Result Entry DecodeError) → Gives (λ (e : Entry). e) r (entry_in bytes) → IfErr r (Explains bytes)
is_none bytes (Ok e) given = tt
is_none bytes (Err why) given = explained bytes why given
