-- The images of a journal, as records.
use Rattle.std.proofs.Common.{◌≡◌, inl, inr, ⊎_elim, ℕ, List, [], ◌∷◌, ◌++◌, Option, Some, None, ap, subst}
use Rattle.journal_disk.specs.Format.{HasRecords, IsEither}
use Rattle.journal_disk.specs.Disk.{LeavesOnly}
use Rattle.journal_disk.specs.Keeper.{IsOldOrMore, IsKeptWith}
use Rattle.journal_disk.specs.Journal.{Held, IsKeptOr, IsImage, record_images_since}
use Rattle.journal_disk.proofs.Formats.{one_reading}

pub has_read : (n : ℕ) (kept : List (List ℕ)) (image : Option (List (List ℕ))) (c : List ℕ) → IsImage n c image → HasRecords n kept c → image ≡ Some kept
has_read n kept (Some rs) c is has = ap (λ (l : List (List ℕ)). Some l) (one_reading n n rs kept c is has)
has_read n kept None c none has = absurd (none kept has)

pub either_read : (n : ℕ) (kept : List (List ℕ)) (r : List ℕ) (image : Option (List (List ℕ))) (c : List ℕ) → IsImage n c image → IsEither n kept r c → IsOldOrMore kept r image
either_read n kept r image c is (inl was) = inl (has_read n kept image c is was)
either_read n kept r image c is (inr more) = inr (has_read n (kept ++ r ∷ []) image c is more)

pub kept_read : (n : ℕ) (kept : List (List ℕ)) (doubt : Option (List ℕ)) (image : Option (List (List ℕ))) (c : List ℕ) → IsImage n c image → IsKeptOr n kept doubt c → IsKeptWith kept doubt image
kept_read n kept None image c is was = has_read n kept image c is was
kept_read n kept (Some r) image c is either = either_read n kept r image c is either

-- of a journal whose repository is the same
module _ {D : Type 0} (old new : Held D) (same : new.repository ≡ old.repository) where
  pub image_of : (image : Option (List (List ℕ))) (c : List ℕ) → IsImage new.repository c image → IsImage old.repository c image
  image_of image c is = subst (λ (n : ℕ). IsImage n c image) same is

  pub record_moments : (moment : D → ℕ) (since : D → ℕ → List ℕ → Type 0) (P : List ℕ → Type 0) (Q : Option (List (List ℕ)) → Type 0)
      → ((image : Option (List (List ℕ))) (c : List ℕ) → IsImage old.repository c image → P c → Q image) → LeavesOnly moment since old.disk new.disk P
      → LeavesOnly (λ (j : Held D). moment j.disk) (record_images_since since) old new Q
  record_moments moment since P Q to leaves = record {
    later = leaves.later;
    each = λ image left. to image left.0 (image_of image left.0 left.2) (leaves.each left.0 left.1);
    before = λ t image le left. ⊎_elim
        (λ was. inl (left.0, was, image_of image left.0 left.2))
        (λ p. inr (to image left.0 (image_of image left.0 left.2) p)) (leaves.before t left.0 le left.1);
  }
