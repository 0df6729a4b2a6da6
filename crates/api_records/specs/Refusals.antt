-- The names by which responses tell refusals.
use Rattle.std.specs.Prelude.{ℕ, List, codes}
use Rattle.api_records.specs.declared.refusal.Refusal.{Refusal}
use Rattle.api_records.specs.declared.refusal.Refusal.TheVariants.{UnknownProject, UnknownBranch, UnknownTag, UnknownCommit, HeadMoved, DefaultBranch, MultiplePrevious, IdentityMismatch, IdentityTwice, DeleteUnknown, UnknownPin, UnknownElement, UnknownChange}

abbrev pub refusal_text : Refusal → List ℕ
refusal_text UnknownProject = codes "unknown-project"
refusal_text UnknownBranch = codes "unknown-branch"
refusal_text UnknownTag = codes "unknown-tag"
refusal_text UnknownCommit = codes "unknown-commit"
refusal_text (HeadMoved head) = codes "head-moved"
refusal_text DefaultBranch = codes "default-branch"
refusal_text MultiplePrevious = codes "multiple-previous"
refusal_text (IdentityMismatch place) = codes "identity-mismatch"
refusal_text (IdentityTwice place) = codes "identity-twice"
refusal_text (DeleteUnknown place) = codes "delete-unknown"
refusal_text (UnknownPin place) = codes "unknown-pin"
refusal_text UnknownElement = codes "unknown-element"
refusal_text UnknownChange = codes "unknown-change"
