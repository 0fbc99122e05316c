-- The client for C: its calls on an image (docs/C.md).
use Rattle.std.specs.Prelude.{ℕ, min, Bool, true, cond, not, ◌&&◌, List, [], eqb, length}
use Rattle.refusals.specs.declared.Refusal.TheVariants.{ImageNotLegal}
use Rattle.refusals.specs.Numbers as refusals
use Rattle.ordered_tests.specs.Tests.{Tests, ◌if◌else◌, otherwise, answer}
use Rattle.timestamp.specs.Timestamp.{timestamp}
use Rattle.token.specs.Token as tokens
use Rattle.client.specs.declared.Client.{Client}
use Rattle.client.specs.Record.{fresh}
use Rattle.client.specs.Calls as calls
use Rattle.client.specs.Calls.{Call}
use Rattle.firmware_layouts.specs.Image.{is_image, record_in, with_image}
use Rattle.firmware_layouts.specs.Answer.{answer_in}
use Rattle.firmware.specs.Numbers.{yes, number_of}

-- ---- fresh: it looks at the slice's length alone

abbrev pub fresh_tests : List ℕ → Tests ℕ
fresh_tests image =
    ImageNotLegal if not (eqb (length image) 32) else
    otherwise 0

abbrev pub fresh_number : List ℕ → ℕ
fresh_number image = answer refusals.number (fresh_tests image)

abbrev pub fresh_image : List ℕ → List ℕ
fresh_image image = with_image image fresh

-- ---- the calls on an image

-- what each is lent and told beside the image, in the order of its parameters
pub data LentCall : Type 0 where
  ask : (buffer : List ℕ) (version clock token uptime : ℕ) → LentCall
  arrival : (answer : List ℕ) (t4 alternate : ℕ) (packet : List ℕ) → LentCall
  give_up : (uptime : ℕ) → LentCall

-- the call of the client that it stands for: a version that 8 bits do not hold becomes 255
abbrev pub inner : LentCall → Call
inner (ask buffer version clock token uptime) = calls.ask (record { buffer = buffer; version = min version 255; clock = timestamp clock; token = tokens.token token; uptime = uptime })
inner (arrival answer t4 alternate packet) = calls.arrival (record { packet = packet; t4 = timestamp t4; alternate = yes alternate })
inner (give_up uptime) = calls.give_up (record { uptime = uptime })

-- an answer slice has 24 octets
abbrev pub slices_fit : LentCall → Bool
slices_fit (ask buffer version clock token uptime) = true
slices_fit (arrival answer t4 alternate packet) = eqb (length answer) 24
slices_fit (give_up uptime) = true

-- 46 is not given
abbrev pub admitted : List ℕ → LentCall → Bool
admitted image x = is_image image && slices_fit x

-- what the inner call does with the image's record
abbrev pub outcome : List ℕ → LentCall → calls.Outcome
outcome image x = calls.step (record_in image) (inner x)

-- 46 before anything else
abbrev pub image_tests : {A : Type 0} → List ℕ → LentCall → Tests A → Tests A
image_tests image x rest =
    ImageNotLegal if not (admitted image x) else
    rest

-- the number that the call returns
unfoldable pub number : List ℕ → LentCall → ℕ
number image x = answer refusals.number (image_tests image x (otherwise (number_of (outcome image x).result)))

-- the image after it: a refusal leaves it as it was, anything else puts the next record's there
abbrev pub next_image : List ℕ → calls.Told → Client → List ℕ
next_image image (calls.refused n) c = image
next_image image calls.done c = with_image image c
next_image image (calls.accepted offset half delay) c = with_image image c
next_image image (calls.kiss code row) c = with_image image c

unfoldable pub image_after : List ℕ → LentCall → List ℕ
image_after image x = cond (admitted image x) (next_image image (outcome image x).result (outcome image x).next) image

-- the buffer of an ask after it
unfoldable pub buffer_after : List ℕ → LentCall → List ℕ
buffer_after image x = cond (admitted image x) (outcome image x).octets (calls.lent (inner x))

-- the answer slice that it is lent, and that slice after it
abbrev pub lent_answer : LentCall → List ℕ
lent_answer (ask buffer version clock token uptime) = []
lent_answer (arrival answer t4 alternate packet) = answer
lent_answer (give_up uptime) = []

unfoldable pub answer_after : List ℕ → LentCall → List ℕ
answer_after image x = cond (admitted image x) (answer_in (lent_answer x) (outcome image x).result) (lent_answer x)
