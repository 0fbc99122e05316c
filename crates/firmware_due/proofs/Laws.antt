-- The laws of `due`, said of the numbers that the calls for C return; 46 is given at every uptime.
use Prim.Native.Nat.{ℕ, min}
use native.Mathlib.Omega.{arith}
use mathlib.Core.Path.{◌≡◌, refl}
use mathlib.Core.Bool.{Bool, true, false}
use mathlib.Core.List.{List}
use lib.ListN.{length}
use Rattle.std.specs.Prelude.{Result}
use Rattle.refusals.specs.declared.Refusal.{Refusal}
use Rattle.refusals.specs.declared.Refusal.TheVariants.{ImageNotLegal}
use Rattle.ordered_tests.specs.Tests.{between}
use Rattle.ordered_tests.proofs.Reflection.{is_true, within}
use Rattle.timestamp.specs.declared.Timestamp.{Timestamp}
use Rattle.timestamp.specs.Timestamp.{timestamp}
use Rattle.token.specs.declared.Token.{Token}
use Rattle.token.specs.Token as tokens
use Rattle.client.specs.declared.Client.{Client}
use Rattle.client.specs.Calls.{said_call}
use Rattle.firmware_layouts.specs.Image.{is_image, record_in}
use Rattle.firmware.specs.Numbers as numbers
use Rattle.firmware.specs.Client.{number}
use Rattle.due.specs.Due as inner
use Rattle.due.specs.Laws.{Pass}
use Rattle.due.proofs.Laws as due
use Rattle.due.proofs.Laws.{Distinct, not_zero}
use Rattle.firmware_due.specs.Due.{ask_due, give_up_due}
use Rattle.firmware_due.specs.Laws.{Laws}
use Rattle.firmware_due.proofs.Legal.{ask_not_29, give_up_not_29}

-- the number that C gets of an answer
abbrev told : Result (Unit {0}) Refusal → ℕ
told a = numbers.number_of (said_call a)

distinct : Distinct told
distinct = record {
  done = λ e. omega arith;
  record_not_legal = λ e. omega arith;
  buffer_too_short = λ e. omega arith;
  version_unsupported = λ e. omega arith;
  own_clock_zero = λ e. omega arith;
  token_zero = λ e. omega arith;
}

-- a version that passes is narrowed to itself
narrowed : {room version : ℕ} {clock : Timestamp} {token : Token} → Pass room version clock token → Pass room (min version 255) clock token
narrowed {room} {version} pass =
    let small = ((within 1 4 version).from ((is_true (between 1 4 version)).to pass.version_supported)).1 in
    let same : min version 255 ≡ version = omega arith in
    record {
      room_enough = pass.room_enough;
      version_supported = rw same pass.version_supported;
      clock_read = pass.clock_read;
      token_drawn = pass.token_drawn;
    }

module _ (image : List ℕ) where
  abbrev c : Client
  c = record_in image

  pub laws : Laws image
  unfolding number ask_due give_up_due inner.ask_due inner.give_up_due
  laws = go (is_image image) refl
    where
      go : (b : Bool) → is_image image ≡ b → Laws image
      go false e = record {
        passing_ask = λ buffer version clock token pass. rw e (not_zero ImageNotLegal, λ uptime h. refl);
        any_ask = λ buffer version clock token. rw e (not_zero ImageNotLegal, λ uptime h. record { refusal = ImageNotLegal; not_zero = not_zero ImageNotLegal; is = refl });
        any_give_up = rw e (not_zero ImageNotLegal, λ uptime h. refl);
        ask_not_29 = ask_not_29 image;
        give_up_not_29 = give_up_not_29 image;
      }
      go true e = record {
        passing_ask = λ buffer version clock token pass.
            rw e (due.passing_ask told c (length buffer) (min version 255) (timestamp clock) (tokens.token token) (narrowed pass));
        any_ask = λ buffer version clock token. rw e (due.any_ask told c distinct (length buffer) (min version 255) (timestamp clock) (tokens.token token));
        any_give_up = rw e (due.any_give_up told c);
        ask_not_29 = ask_not_29 image;
        give_up_not_29 = give_up_not_29 image;
      }
