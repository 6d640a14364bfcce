-- What `copy` leaves: the text in place of as many bytes.
use mathlib.Core.List.{List}
use mathlib.Core.Path.{◌≡◌, refl, sym, ◌∙◌}
use Prim.Native.Nat.{ℕ, ◌+◌}
use borrow.Rule.Slice.PartMut.{put_mid}
use lib.ListN.{length}
use lib.Seq.{sets-eq, take-length}
use Rattle.std.proofs.lemmas.Slice.{put_mid-paste}
use Rattle.tables.specs.Append.{Appended}
use Rattle.lines.specs.Append.{Room}

pub copied : (text ws to : List ℕ) (from n : ℕ) → Room ws from text → n ≡ length text → to ≡ text → Appended ws from text (put_mid from n ws to) (from + length text)
copied text ws to from n r e h = record {
  next = refl;
  left = put_mid-paste from n ws to text (length text) h (sym e) refl ∙ rw take-length (sym (sets-eq text ws from r.fits));
}
