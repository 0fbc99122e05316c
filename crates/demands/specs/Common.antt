-- What the rules of several calls speak of.
use Rattle.std.specs.Prelude.{ℕ, ◌%◌, ◌^◌, ◌≤◌, ◌≡◌, ◌≢◌, ◌⊎◌, List, ℤ, nat_abs, length, drop}
use Rattle.refusals.specs.Given.{Given, numbered}
use Rattle.timestamp.specs.declared.Timestamp.{Timestamp}
use Rattle.timestamp.specs.Timestamp.{constants}
use Rattle.extension.specs.Tail.{Authenticator}
use Rattle.extension.specs.Reading.{stated_length}
use Rattle.token.specs.declared.Token.{Token}
use Rattle.token.specs.Token.{token}
use Rattle.ledger.specs.declared.Called.{Called}
use Rattle.ledger.specs.declared.Ledger.{Ledger}

-- the all-zero timestamp: "not available"
abbrev pub not_available : Timestamp
not_available = constants.zero

-- a difference of two timestamps has an order unless they are half a circle apart
abbrev pub InOrder : ℤ → Type 0
InOrder difference = nat_abs difference ≢ 2 ^ 63

-- no token
abbrev pub no_token : Token
no_token = token 0

-- ---- a packet (docs/RULES.md, "Extension fields")

-- 0 octets left end the fields, and so do 4, 20 or 24, which are an authenticator
abbrev pub EndsFields : ℕ → Type 0
EndsFields left = (left ≡ 0) ⊎ Authenticator left

-- 28 or more begin a field, of the length that its head states
pub record BeginsField (t : List ℕ) : Type 0 where
  pub at_least_28 : 28 ≤ length t
  pub length_at_least_16 : 16 ≤ stated_length t
  pub length_in_fours : stated_length t % 4 ≡ 0
  pub not_past_the_end : stated_length t ≤ length t

-- fields one after another, and behind the last of them a number of octets that may stand there
pub data FieldsThen (Last : ℕ → Type 0) : List ℕ → Type 0 where
  last : {t : List ℕ} → Last (length t) → FieldsThen Last t
  field : {t : List ℕ} → BeginsField t → FieldsThen Last (drop (stated_length t) t) → FieldsThen Last t

pub record IsPacket (p : List ℕ) : Type 0 where
  pub at_least_48 : 48 ≤ length p
  pub at_most_1024 : length p ≤ 1024
  pub tail : FieldsThen EndsFields (drop 48 p)

-- ---- buffers

-- what a call that writes into a lent buffer answers, and what the buffer holds then
pub record Written (A : Type 0) : Type 0 where
  pub answer : A
  pub octets : List ℕ

-- ---- the ledger

-- what a call of the ledger answers, and the next record
pub record LedgerOutcome (A : Type 0) : Type 0 where
  pub answer : Given A
  pub ledger : Ledger

abbrev pub ledger_outcome : {A : Type 0} → Called A → LedgerOutcome A
ledger_outcome o = record { answer = numbered o.answer; ledger = o.ledger }
