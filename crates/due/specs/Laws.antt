-- What an answer of `ask_due` and `give_up_due` says of the client's own calls at every uptime. proofs/Laws.antt proves it for every record.
use Rattle.std.specs.Prelude.{ℕ, ◌^◌, ◌≤◌, ◌<◌, ◌≡◌, true, false, Result, Ok, Err}
use Rattle.refusals.specs.declared.Refusal.{Refusal}
use Rattle.refusals.specs.declared.Refusal.TheVariants.{AskedTooSoon, GaveUpTooSoon}
use Rattle.refusals.specs.Numbers.{number}
use Rattle.ordered_tests.specs.Tests.{between}
use Rattle.timestamp.specs.declared.Timestamp.{Timestamp}
use Rattle.timestamp.specs.Timestamp.{is_zero}
use Rattle.token.specs.declared.Token.{Token}
use Rattle.token.specs.Token.{is_zero_token}
use Rattle.packet.specs.Packet.{packet_length}
use Rattle.client.specs.declared.Client.{Client}
use Rattle.client.specs.Ask.{after_ask}
use Rattle.client.specs.GiveUp.{gave_up}
use Rattle.due.specs.Due.{ask_due, give_up_due}

-- In these three `say r` is a call's refusal by r, and `done` is its answer if it is not refused. `call` is what the call answers at each uptime, and `too-soon`
-- is the refusal of its last test.

-- refused, by a number other than 0
pub record IsRefused {A : Type 0} (say : Refusal → A) (a : A) : Type 0 where
  pub refusal : Refusal
  pub not_zero : 0 < number refusal
  pub is : a ≡ say refusal

-- Ok u: u is an uptime of 64 bits. Before u the call is refused by `too-soon`, and from u on it is not refused.
-- Err r: the number of r is not 0, and the call is refused by r at every uptime of 64 bits.
abbrev pub Exactly : {A : Type 0} (say : Refusal → A) (done : A) (too-soon : Refusal) (call : ℕ → A) → Result ℕ Refusal → Type 0
Exactly say done too-soon call (Ok u) =
    (u < 2 ^ 64) × ((uptime : ℕ) → uptime < u → call uptime ≡ say too-soon) × ((uptime : ℕ) → u ≤ uptime → call uptime ≡ done)
Exactly say done too-soon call (Err r) = (0 < number r) × ((uptime : ℕ) → uptime < 2 ^ 64 → call uptime ≡ say r)

-- The same of a call whose other arguments may be refused.
-- Ok u: u is an uptime of 64 bits. Before u the call is refused, and from u on it is not refused by `too-soon`.
-- Err r: the number of r is not 0, and the call is refused at every uptime of 64 bits.
abbrev pub AtLeast : {A : Type 0} (say : Refusal → A) (too-soon : Refusal) (call : ℕ → A) → Result ℕ Refusal → Type 0
AtLeast say too-soon call (Ok u) =
    (u < 2 ^ 64) × ((uptime : ℕ) → uptime < u → IsRefused say (call uptime)) × ((uptime : ℕ) → u ≤ uptime → call uptime ≡ say too-soon → ⊥)
AtLeast say too-soon call (Err r) = (0 < number r) × ((uptime : ℕ) → uptime < 2 ^ 64 → IsRefused say (call uptime))

-- arguments of an ask that pass the tests 1, 2, 3 and 42
pub record Pass (room version : ℕ) (clock : Timestamp) (token : Token) : Type 0 where
  pub room_enough : packet_length ≤ room
  pub version_supported : between 1 4 version ≡ true
  pub clock_read : is_zero clock ≡ false
  pub token_drawn : is_zero_token token ≡ false

pub record Laws (c : Client) : Type 0 where
  -- an ask whose other arguments pass 1, 2, 3 and 42
  pub passing_ask : (room version : ℕ) (clock : Timestamp) (token : Token) → Pass room version clock token
      → Exactly Err (Ok tt) AskedTooSoon (λ uptime. (after_ask c room version clock token uptime).answer) (ask_due c)
  -- any ask
  pub any_ask : (room version : ℕ) (clock : Timestamp) (token : Token)
      → AtLeast Err AskedTooSoon (λ uptime. (after_ask c room version clock token uptime).answer) (ask_due c)
  -- a give-up
  pub any_give_up : Exactly Err (Ok tt) GaveUpTooSoon (λ uptime. (gave_up c uptime).answer) (give_up_due c)
