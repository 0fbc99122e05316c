-- What was added is read back. proofs/Adding.antt proves `WriterLaws`.
use Rattle.std.specs.Prelude.{ℕ, ◌+◌, ◌%◌, ◌^◌, ◌≤◌, ◌<◌, ◌≡◌, List, [], ◌∷◌, ◌++◌, Ok, Err, length, take, drop}
use Rattle.refusals.specs.declared.Refusal.{Refusal}
use Rattle.arithmetic.specs.Octets.{AreOctets}
use Rattle.extension.specs.Tail.{header_length, WellFormed}
use Rattle.extension.specs.Reading.{extension_fields}
use Rattle.extension.specs.Reader.{cursor}
use Rattle.extension.specs.ReaderLaws.{reads, Walk}
use Rattle.extension_writer.specs.Writer.{filled_length, new_field, added, added_buffer}

-- a body of n octets may have m with its fill
pub record Fill (n m : ℕ) : Type 0 where
  pub holds : n ≤ m
  pub in_fours : m % 4 ≡ 0
  pub at_least_28 : 28 ≤ 4 + m

-- `after` is the buffer after a field was added to the packet in it, which had `size` octets and now has `new`
pub record ReadsBack (buffer after : List ℕ) (size new field_type : ℕ) (body : List ℕ) : Type 0 where
  -- every octet outside the field stays
  pub length_kept : length after ≡ length buffer
  pub front_kept : take size after ≡ take size buffer
  pub rest_kept : drop new after ≡ drop new buffer
  -- the longer packet is the old fields and this one, and nothing behind it
  pub well_formed : WellFormed (take new after) (extension_fields (take size buffer) ++ (new_field field_type body ∷ [])) []
  -- so these are what the reader hands out
  pub walk : Walk reads (take new after) (cursor header_length) (extension_fields (take size buffer) ++ (new_field field_type body ∷ []))

pub record WriterLaws : Type 0 where
  -- the fill is right, and the least that is
  pub fills : (n : ℕ) → Fill n (filled_length n)
  pub fewest : (n m : ℕ) → Fill n m → filled_length n ≤ m
  -- a refusal leaves the buffer as it was
  pub refused : (buffer : List ℕ) (size field_type : ℕ) (body : List ℕ) (r : Refusal) → added buffer size body ≡ Err r
      → added_buffer buffer size field_type body ≡ buffer
  pub reads_back : (buffer : List ℕ) (size field_type : ℕ) (body : List ℕ) (new : ℕ) → AreOctets buffer → field_type < 2 ^ 16
      → added buffer size body ≡ Ok new → ReadsBack buffer (added_buffer buffer size field_type body) size new field_type body
