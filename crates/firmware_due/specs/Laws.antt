-- What `pongulvesz_ask_due` and `pongulvesz_give_up_due` say of `pongulvesz_ask` and `pongulvesz_give_up` on the same image, for any octets.
-- If `ask_due` or `give_up_due` is Ok u, its call returns 0 and writes u. If it is Err r, its call returns the number of r, which is not 0, and writes nothing.
-- An ask or a give-up returns the number of its refusal, else 0; due/specs/Laws.antt has Exactly and AtLeast. proofs/Laws.antt proves this.
use Rattle.std.specs.Prelude.{ℕ, ◌≡◌, List, length, Err}
use Rattle.refusals.specs.declared.Refusal.TheVariants.{RecordNotLegal, AskedTooSoon, GaveUpTooSoon}
use Rattle.refusals.specs.Numbers as refusals
use Rattle.timestamp.specs.Timestamp.{timestamp}
use Rattle.token.specs.Token as tokens
use Rattle.due.specs.Laws.{Exactly, AtLeast, Pass}
use Rattle.firmware.specs.Client.{number, ask, give_up}
use Rattle.firmware_due.specs.Due.{ask_due, give_up_due}

pub record Laws (image : List ℕ) : Type 0 where
  -- an ask whose other arguments pass 1, 2, 3 and 42
  pub passing_ask : (buffer : List ℕ) (version clock token : ℕ) → Pass (length buffer) version (timestamp clock) (tokens.token token)
      → Exactly refusals.number 0 AskedTooSoon (λ uptime. number image (ask buffer version clock token uptime)) (ask_due image)
  -- any ask
  pub any_ask : (buffer : List ℕ) (version clock token : ℕ)
      → AtLeast refusals.number AskedTooSoon (λ uptime. number image (ask buffer version clock token uptime)) (ask_due image)
  -- a give-up
  pub any_give_up : Exactly refusals.number 0 GaveUpTooSoon (λ uptime. number image (give_up uptime)) (give_up_due image)
  -- an image has a legal record: neither call is refused by 29
  pub ask_not_29 : ask_due image ≡ Err RecordNotLegal → ⊥
  pub give_up_not_29 : give_up_due image ≡ Err RecordNotLegal → ⊥
