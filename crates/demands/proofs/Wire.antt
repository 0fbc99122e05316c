-- Of an ask's clock reading, its tests see whether it is zero, and its octets nothing.
use mathlib.Core.Path.{◌≡◌, sym, ap, ◌∙◌}
use mathlib.Core.Logic.{◌≢◌}
use mathlib.Core.Bool.{false}
use mathlib.Core.List.{List, ◌++◌}
use lib.ListN.{length, take, drop}
use Prim.Native.Nat.{ℕ}
use Rattle.ordered_tests.specs.Tests.{Tests, answer, carry, kept}
use Rattle.ordered_tests.proofs.Tests.{carried, kept_carried}
use Rattle.ordered_tests.proofs.Reflection.{is_false}
use Rattle.timestamp.specs.declared.Timestamp.{Timestamp}
use Rattle.timestamp.specs.Timestamp.{is_zero}
use Rattle.request.specs.Request.{request}
use Rattle.client.specs.declared.Called.{Called}
use Rattle.client.specs.Record.{refused_call}
use Rattle.client.specs.Ask.{ask_tests, after_ask, after_ask_buffer}
use Rattle.client.specs.Calls.{said_call}
use Rattle.std.specs.Prelude.{Result, Err}
use Rattle.refusals.specs.declared.Refusal.{Refusal}
use Rattle.demands.specs.Common.{not_available}
use Rattle.demands.specs.Behaviour.{reply, ours}
use Rattle.demands.specs.Wire.{Asking, the_ask, Unseen, ClockUnseen}
use Rattle.demands.proofs.Facts.{available}

module _ (x : Asking) where
  abbrev tests : Timestamp → Tests (Called (Unit {0}))
  tests clock = ask_tests x.client (length x.buffer) x.version clock x.token x.uptime

  -- the tests with what the call answers, without the record
  abbrev told : Timestamp → Tests (Result (Unit {0}) Refusal)
  told clock = carry (λ (c : Called (Unit {0})). c.answer) (tests clock)

  some : (t : Timestamp) → t ≢ not_available → is_zero t ≡ false
  some t n = (is_false (is_zero t)).from ((available t).to n)

  same : (t u : Timestamp) → t ≢ not_available → u ≢ not_available → told t ≡ told u
  unfolding ask_tests
  same t u n m = rw (some t n, some u m)

  answers : (t : Timestamp) → (the_ask ours x t).result ≡ said_call (answer Err (told t))
  unfolding after_ask
  answers t = ap said_call (sym (carried (λ (c : Called (Unit {0})). c.answer) (refused_call x.client) (tests t)))

  abbrev sent : List ℕ
  sent = request x.version x.token ++ drop 48 x.buffer

  leaves : (t : Timestamp) → (the_ask ours x t).octets ≡ kept (told t) x.buffer sent
  unfolding after_ask_buffer
  leaves t = sym (kept_carried (λ (c : Called (Unit {0})). c.answer) (tests t) x.buffer sent)

  unseen : (t u : Timestamp) → t ≢ not_available → u ≢ not_available → Unseen ours x t u
  unseen t u n m =
      let e = same t u n m in
      let octets = leaves t ∙ ap (λ k. kept k x.buffer sent) e ∙ sym (leaves u) in
      record {
        told = answers t ∙ ap (λ k. said_call (answer Err k)) e ∙ sym (answers u);
        octets = octets;
        reply = λ s t2 t3 buffer. ap (λ o. ours.does reply (record { settings = s; request = take 48 o; t2 = t2; t3 = t3; buffer = buffer })) octets;
      }

pub clock_unseen : ClockUnseen ours
clock_unseen = unseen
