-- When an ask or a give-up of a record is due (docs/RULES.md, "The client" and the numbers 6 and 20).
use Rattle.std.specs.Prelude.{ℕ, ◌+◌, ◌^◌, not, leb, Result}
use Rattle.refusals.specs.declared.Refusal.{Refusal}
use Rattle.refusals.specs.declared.Refusal.TheVariants.{RecordNotLegal, ClientStopped, AlreadyWaiting, AskedTooSoon, NotWaiting, GaveUpTooSoon}
use Rattle.ordered_tests.specs.Tests.{Tests, ◌if◌else◌, ◌when◌else◌, otherwise, given}
use Rattle.timestamp.specs.Timestamp.{constants}
use Rattle.client.specs.declared.Client.{Client}
use Rattle.client.specs.Record.{is_waiting, is_stopped, illegal}

-- the uptime `seconds` past `since`; too soon at every uptime if 64 bits do not hold it
abbrev pub past : (too-soon : Refusal) (since seconds : ℕ) → Tests ℕ
past too-soon since seconds =
    too-soon if leb (2 ^ 64) (since + seconds) else
    otherwise (since + seconds)

-- an ask: at once if the client never asked, else 2^exponent s past its last ask
unfoldable pub ask_due_tests : Client → Tests ℕ
ask_due_tests c =
    RecordNotLegal if illegal c else
    ClientStopped if is_stopped c.phase else
    AlreadyWaiting if is_waiting c.phase else
    0 when not c.asked else
    past AskedTooSoon c.uptime (2 ^ c.exponent)

unfoldable pub ask_due : Client → Result ℕ Refusal
ask_due c = given (ask_due_tests c)

-- a give-up: 16 s past the request
unfoldable pub give_up_due_tests : Client → Tests ℕ
give_up_due_tests c =
    RecordNotLegal if illegal c else
    NotWaiting if not (is_waiting c.phase) else
    past GaveUpTooSoon c.uptime constants.limit_seconds

unfoldable pub give_up_due : Client → Result ℕ Refusal
give_up_due c = given (give_up_due_tests c)
