-- The tail as a relation and as a function are the same, and 7 refuses what is not well formed. proofs/Reading.antt proves it.
use Rattle.std.specs.Prelude.{ℕ, ◌-◌, ◌≤◌, ◌≡◌, true, false, List, ◌++◌, length}
use Rattle.arithmetic.specs.Octets.{AreOctets}
use Rattle.extension.specs.Tail.{header_length, Field, Tail, WellFormed, joined}
use Rattle.extension.specs.Reading.{ends_fields, reading, extension_fields, after_fields, is_malformed}

pub record TailLaws : Type 0 where
  -- where nothing or an authenticator is left after the fields, these are the tail's
  pub sound : (t : List ℕ) → AreOctets t → ends_fields (length (reading t).rest) ≡ true → Tail t (reading t).fields (reading t).rest
  -- and a tail is read so
  pub complete : {t a : List ℕ} {fs : List Field} → Tail t fs a → (reading t ≡ record { fields = fs; rest = a }) × (ends_fields (length a) ≡ true)
  -- a tail has at most one reading
  pub unique : {t a b : List ℕ} {fs gs : List Field} → Tail t fs a → Tail t gs b → (fs ≡ gs) × (a ≡ b)
  -- heads, bodies and authenticator, put one after another, are the tail: nothing is skipped, and nothing is there twice
  pub whole : {t a : List ℕ} {fs : List Field} → Tail t fs a → joined fs ++ a ≡ t
  -- 7 is not given exactly where the packet is well formed
  pub not_refused : (packet : List ℕ) → AreOctets packet → is_malformed packet ≡ false → WellFormed packet (extension_fields packet) (after_fields packet)
  pub well_formed : {packet a : List ℕ} {fs : List Field} → WellFormed packet fs a → is_malformed packet ≡ false
  -- it is not given, whatever the octets are, where there are 48 of them, and at most an authenticator
  pub without_fields : (packet : List ℕ) → header_length ≤ length packet → ends_fields (length packet - header_length) ≡ true → is_malformed packet ≡ false
