-- What a reader hands out from the beginning on. proofs/Walks.antt proves `ReaderLaws`.
use Rattle.std.specs.Prelude.{ℕ, ◌+◌, ◌-◌, ◌≤◌, ◌≡◌, List, [], ◌∷◌, ◌++◌, ◌⊎◌, Option, None, Some, Ok, Err, length, drop}
use Rattle.refusals.specs.declared.Refusal.{Refusal}
use Rattle.refusals.specs.Given.{Given, answered, numbered}
use Rattle.arithmetic.specs.Octets.{part, AreOctets}
use Rattle.extension.specs.declared.Cursor.{Cursor}
use Rattle.extension.specs.declared.Field as found
use Rattle.extension.specs.Tail.{header_length, Field, WellFormed, joined}
use Rattle.extension.specs.Reading.{reading, extension_fields, after_fields}
use Rattle.extension.specs.Reader.{cursor, begun, next}

-- some program for `next`
abbrev pub Reader : Type 0
Reader = List ℕ → Cursor → Given (Option found.Field)

-- ours
abbrev pub reads : Reader
reads packet c = numbered (next packet c)

-- the field of which this is handed out; its body is the part of the packet that `body` returns
abbrev pub handed : List ℕ → found.Field → Field
handed packet f = record { field_type = f.field_type; body = part f.start (f.end - f.start) packet }

-- what a reader hands out where it is asked again and again, from this cursor on, until it is done
pub data Walk (reader : Reader) (packet : List ℕ) : Cursor → List Field → Type 0 where
  done : {c : Cursor} → reader packet c ≡ answered None → Walk reader packet c []
  hand : {c : Cursor} {f : found.Field} {fs : List Field} → reader packet c ≡ answered (Some f) → Walk reader packet f.next fs → Walk reader packet c (handed packet f ∷ fs)

-- of every packet that is not refused a walk from the beginning hands out each field once, in order, and ends
abbrev pub HandsOutAll : Reader → Type 0
HandsOutAll reader = (packet a : List ℕ) (fs : List Field) → WellFormed packet fs a → Walk reader packet (cursor header_length) fs

pub record ReaderLaws : Type 0 where
  pub hands_out_all : HandsOutAll reads
  -- and nothing else
  pub once : {packet : List ℕ} {c : Cursor} {fs gs : List Field} → Walk reads packet c fs → Walk reads packet c gs → fs ≡ gs
  -- so where the reader begins: what the walk hands out, and the authenticator, are all of the packet past its 48th octet
  pub begins : (packet : List ℕ) (c : Cursor) → AreOctets packet → begun packet ≡ Ok c
      → Walk reads packet c (extension_fields packet) × (joined (extension_fields packet) ++ after_fields packet ≡ drop header_length packet)
  -- a body lies in the packet, behind its field's head, and the next field begins where it ends
  pub inside : (packet : List ℕ) (c : Cursor) (f : found.Field) → next packet c ≡ Ok (Some f)
      → (f.start ≡ c.at + 4) × (f.start + 12 ≤ f.end) × (f.end ≤ length packet) × (f.next.at ≡ f.end)
  -- what is handed out is the first of the fields that are left, and the others are left at the next cursor
  pub steps : (packet : List ℕ) (c : Cursor) (f : found.Field) → next packet c ≡ Ok (Some f)
      → (reading (drop c.at packet)).fields ≡ handed packet f ∷ (reading (drop f.next.at packet)).fields
  -- where no field is handed out, none is left
  pub stops : (packet : List ℕ) (c : Cursor) → (next packet c ≡ Ok None) ⊎ ((r : Refusal) × (next packet c ≡ Err r))
      → (reading (drop c.at packet)).fields ≡ []
