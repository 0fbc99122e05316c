-- Wrong readers, each of which the law `HandsOutAll` refuses. proofs/WrongReaders.antt proves `Refuted`.
use Rattle.std.specs.Prelude.{ℕ, ◌^◌, ◌<◌, ◌≡◌, Bool, false, if◌then◌else◌, Option, None, Some}
use Rattle.refusals.specs.Given.{Given, refused, answered}
use Rattle.extension.specs.declared.Field.{Field}
use Rattle.extension.specs.ReaderLaws.{Reader, reads, HandsOutAll}

-- hands out nothing
abbrev pub hands_out_nothing : Reader
hands_out_nothing packet c = answered None

-- stops at the first field whose type it does not know
abbrev pub unless_unknown : (ℕ → Bool) → Given (Option Field) → Given (Option Field)
unless_unknown known (answered (Some f)) = if known f.field_type then answered (Some f) else answered None
unless_unknown known (answered None) = answered None
unless_unknown known (refused n) = refused n

abbrev pub stops_at_unknown : (ℕ → Bool) → Reader
stops_at_unknown known packet c = unless_unknown known (reads packet c)

pub record Refuted : Type 0 where
  pub nothing : HandsOutAll hands_out_nothing → ⊥
  -- whichever types it knows, if not all of 16 bits
  pub unknown : (known : ℕ → Bool) (field_type : ℕ) → field_type < 2 ^ 16 → known field_type ≡ false → HandsOutAll (stops_at_unknown known) → ⊥
