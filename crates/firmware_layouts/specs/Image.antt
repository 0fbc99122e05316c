-- The image of a client record: 32 octets (docs/C.md, "Layouts").
use Rattle.std.specs.Prelude.{ℕ, ◌+◌, ◌-◌, Bool, cond, not, ◌&&◌, List, [], ◌∷◌, ◌++◌, eqb, leb, length, get_or, Option, None, Some}
use Rattle.arithmetic.specs.Octets.{octets}
use Rattle.slices.specs.Slices.{read_at}
use Rattle.timestamp.specs.Timestamp.{timestamp}
use Rattle.token.specs.Token.{token}
use Rattle.client.specs.declared.Phase.{Phase}
use Rattle.client.specs.declared.Phase.TheVariants.{Idle, Waiting, Stopped}
use Rattle.client.specs.declared.Client.{Client}
use Rattle.client.specs.Record.{illegal}

-- 0 phase (0 idle, 1 waiting, 2 stopped), 1 version, 2 ever asked (0 or 1), 3 the exponent less 6, 4 to 7 zero, 8 to 15 T1, 16 to 23 token, 24 to 31 uptime
abbrev pub octet_of_phase : Phase → ℕ
octet_of_phase Idle = 0
octet_of_phase Waiting = 1
octet_of_phase Stopped = 2

abbrev pub octet_of_flag : Bool → ℕ
octet_of_flag flag = cond flag 1 0

unfoldable pub image_of : Client → List ℕ
image_of c =
    (octet_of_phase c.phase ∷ c.version ∷ octet_of_flag c.asked ∷ (c.exponent - 6) ∷ []) ++ octets 4 0
    ++ octets 8 c.t1.0 ++ octets 8 c.token.0 ++ octets 8 c.uptime

-- ---- read

abbrev pub phase_of : ℕ → Phase
phase_of n = cond (eqb n 0) Idle (cond (eqb n 1) Waiting Stopped)

-- the record that the octets stand for
unfoldable pub record_in : List ℕ → Client
record_in image = record {
  phase = phase_of (get_or image 0 0);
  t1 = timestamp (read_at 8 image 8);
  token = token (read_at 8 image 16);
  version = get_or image 1 0;
  asked = eqb (get_or image 2 0) 1;
  uptime = read_at 8 image 24;
  exponent = get_or image 3 0 + 6;
}

-- phase, ever asked and the exponent have one of their values, and 4 to 7 are zero
unfoldable pub has_legal_values : List ℕ → Bool
has_legal_values image = leb (get_or image 0 0) 2 && leb (get_or image 2 0) 1 && leb (get_or image 3 0) 8 && eqb (read_at 4 image 4) 0

-- it has 32 octets of such values
unfoldable pub has_values : List ℕ → Bool
has_values image = eqb (length image) 32 && has_legal_values image

unfoldable pub values_read : List ℕ → Option Client
values_read image = cond (has_values image) (Some (record_in image)) None

-- it has 32 octets, and a legal record
unfoldable pub is_image : List ℕ → Bool
is_image image = eqb (length image) 32 && has_legal_values image && not (illegal (record_in image))

unfoldable pub image_read : List ℕ → Option Client
image_read image = cond (is_image image) (Some (record_in image)) None

-- ---- written

-- what a slice holds that is to take an image: one of another length stays
abbrev pub with_image : List ℕ → Client → List ℕ
with_image slice c = cond (eqb (length slice) 32) (image_of c) slice
