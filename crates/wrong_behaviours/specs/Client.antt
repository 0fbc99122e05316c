-- Wrong clients (docs/RULES.md, "Slips that look reasonable" and "How much each public function must say"). Each does what ours does but for one thing.
use Rattle.reply_checks.specs.declared.ArrivalAnswer.{ArrivalAnswer}
use Rattle.std.specs.Prelude.{ℕ, min, ◌+◌, ◌^◌, Bool, true, false, cond, not, List, [], ◌++◌, eqb, ltb, ℤ, pos, ◌+ℤ◌, ◌-ℤ◌, length, take, drop}
use Rattle.std.specs.Int.Signed.{quot_z, le_z}
use Rattle.arithmetic.specs.TwosComplement.{signed}
use Rattle.refusals.specs.declared.Refusal.TheVariants.{RecordNotLegal, PacketLengthWrong, NotWaiting, ArrivedBeforeSent, RootDelayOutOfRange, RootDispersionTooLarge}
use Rattle.ordered_tests.specs.Tests.{Tests, ◌if◌else◌, ◌when◌else◌, given, kept, carry}
use Rattle.timestamp.specs.declared.Timestamp.{Timestamp}
use Rattle.timestamp.specs.Timestamp.{timestamp, ◌since◌, negative}
use Rattle.token.specs.Token.{token}
use Rattle.offset.specs.Offset.{floor_half, offset_tests}
use Rattle.extension.specs.Reading.{is_malformed}
use Rattle.packet.specs.declared.Fields.{Fields}
use Rattle.packet.specs.Packet.{fields_of}
use Rattle.sanity.specs.Sanity.{header_tests, is_root_delay_out_of_range, is_root_dispersion_too_large, root_tests}
use Rattle.client.specs.declared.Client.{Client}
use Rattle.client.specs.declared.Phase.TheVariants.{Idle}
use Rattle.reply_checks.specs.Checks.{match_tests, check_tests}
use Rattle.kiss.specs.Kiss.{row_of}
use Rattle.client.specs.Record.{is_waiting, illegal, without_request}
use Rattle.request.specs.Request.{request}
use Rattle.client.specs.Arrival.{arrival_tests, after}
use Rattle.client.specs.Calls.{Arrival, Call, ask, arrival, give_up, lent, Told, refused, done, accepted, kiss, Outcome, said_arrival, step}
use Rattle.demands.specs.Form.{Implementation}
use Rattle.demands.specs.Client.{client}
use Rattle.demands.specs.Arrival.{four}
use Rattle.demands.specs.Measure.{Four, P, Q, d, offset, half}

-- a record of a client that has never asked, with an uptime
abbrev pub later_start : Client
later_start = record { phase = Idle; t1 = timestamp 0; token = token 0; version = 0; asked = false; uptime = 1; exponent = 6 }

-- ---- at every call

-- it refuses everything, by whatever numbers
abbrev pub refusing : (Client → Call → ℕ) → Implementation client
refusing number (c, x) = record { result = refused (number c x); next = c; octets = lent x }

-- it writes a request whether it refuses or not
abbrev asks_for : Call → List ℕ
asks_for (ask x) = take (length x.buffer) (request x.version x.token ++ drop 48 x.buffer)
asks_for (arrival x) = x.packet
asks_for (give_up x) = []

abbrev pub always_writing : Implementation client
always_writing (c, x) = record { result = (step c x).result; next = (step c x).next; octets = asks_for x }

-- ---- at an ask

-- it takes a version above 4 for 4
abbrev pub any_version : Implementation client
any_version (c, ask x) = step c (ask (record { buffer = x.buffer; version = min x.version 4; clock = x.clock; token = x.token; uptime = x.uptime }))
any_version (c, arrival x) = step c (arrival x)
any_version (c, give_up x) = step c (give_up x)

-- its request carries the clock reading in place of the token
abbrev pub sending_clock : Implementation client
sending_clock (c, ask x) = step c (ask (record { buffer = x.buffer; version = x.version; clock = x.clock; token = token x.clock.0; uptime = x.uptime }))
sending_clock (c, arrival x) = step c (arrival x)
sending_clock (c, give_up x) = step c (give_up x)

-- ---- at an arrival

abbrev arriving : (Client → Arrival → Outcome) → Implementation client
arriving does (c, ask x) = step c (ask x)
arriving does (c, arrival x) = does c x
arriving does (c, give_up x) = step c (give_up x)

-- it takes no reply, whatever the numbers, and so waits until it gives up
abbrev pub taking_none : (Client → Arrival → ℕ) → Implementation client
taking_none number = arriving (λ c x. record { result = refused (number c x); next = c; octets = x.packet })

-- it tells what ours does, and stays waiting
abbrev pub staying_waiting : Implementation client
staying_waiting = arriving (λ c x. record { result = (step c (arrival x)).result; next = c; octets = x.packet })

-- it spends the request on a refused arrival
abbrev spent : Client → Client
spent c = cond (is_waiting c.phase) (without_request c Idle c.exponent) c

abbrev pub spending : Implementation client
spending = arriving (λ c x. record {
  result = (step c (arrival x)).result;
  next = kept (arrival_tests c x.packet x.t4) (spent c) (step c (arrival x)).next;
  octets = x.packet;
})

-- it takes it that an alternate exists, or that none does, whatever it is told
abbrev supposing : Bool → Implementation client
supposing alternate = arriving (λ c x. step c (arrival (record { packet = x.packet; t4 = x.t4; alternate = alternate })))

-- a kiss always stops it
abbrev pub always_stopping : Implementation client
always_stopping = supposing true

-- no kiss stops it
abbrev pub never_stopping : Implementation client
never_stopping = supposing false

-- ---- at an arrival, by another table of tests

abbrev testing : (Client → Arrival → Tests ArrivalAnswer) → Implementation client
testing tests = arriving (λ c x.
    let a = given (tests c x) in
    record { result = said_arrival a; next = after c x.alternate a; octets = x.packet })

abbrev kissed : Fields → ArrivalAnswer
kissed f = ArrivalAnswer.Kiss f.identifier (row_of f.identifier)

-- it looks at no tail, and takes any
abbrev pub any_tail : Implementation client
any_tail = testing (λ c x. arrival_tests c (take 48 x.packet) x.t4)

-- it takes a packet without extension fields alone
abbrev pub without_fields : Implementation client
without_fields = testing (λ c x.
    PacketLengthWrong if ltb 68 (length x.packet) else
    arrival_tests c x.packet x.t4)

-- it obeys a kiss before the originate test
abbrev pub kiss_first : Implementation client
kiss_first = testing (λ c x.
    RecordNotLegal if illegal c else
    PacketLengthWrong if is_malformed x.packet else
    NotWaiting if not (is_waiting c.phase) else
    kissed (fields_of x.packet) when eqb (fields_of x.packet).stratum 0 else
    arrival_tests c x.packet x.t4)

-- it takes a packet with any originate timestamp for the reply
abbrev pub any_originate : Implementation client
any_originate = testing (λ c x.
    let f = fields_of x.packet in
    RecordNotLegal if illegal c else
    PacketLengthWrong if is_malformed x.packet else
    NotWaiting if not (is_waiting c.phase) else
    check_tests c.t1 (token f.originate.0) c.version f x.t4)

-- it makes other tests of the root fields and the four timestamps of a reply
abbrev checking : (Client → Fields → Timestamp → Tests ArrivalAnswer) → Implementation client
checking rest = testing (λ c x.
    let f = fields_of x.packet in
    RecordNotLegal if illegal c else
    PacketLengthWrong if is_malformed x.packet else
    NotWaiting if not (is_waiting c.phase) else
    match_tests c.token c.version f (
    kissed f when eqb f.stratum 0 else
    header_tests f x.t4 (rest c f x.t4)))

-- the tests of the four timestamps, their differences taken so
abbrev timed : (Timestamp → Timestamp → ℤ) → Client → Fields → Timestamp → Tests ArrivalAnswer
timed less c f t4 =
    carry ArrivalAnswer.Accepted (offset_tests (less t4 c.t1) (less f.transmit f.receive) (less f.receive c.t1) (less f.transmit t4))

-- it compares timestamps as plain unsigned numbers
abbrev pub unsigned_times : Implementation client
unsigned_times = checking (λ c f t4. root_tests f (timed (λ x y. pos x.0 -ℤ pos y.0) c f t4))

-- it does not look at the root fields
abbrev pub root_untested : Implementation client
root_untested = checking (timed ◌since◌)

-- it makes no test for a negative root delay
abbrev pub negative_delay_untested : Implementation client
negative_delay_untested = checking (λ c f t4.
    RootDelayOutOfRange if le_z (pos 65536) f.root_delay else
    RootDispersionTooLarge if is_root_dispersion_too_large f.root_dispersion else
    timed ◌since◌ c f t4)

-- it reads root dispersion as a signed number
abbrev pub dispersion_signed : Implementation client
dispersion_signed = checking (λ c f t4.
    RootDelayOutOfRange if is_root_delay_out_of_range f.root_delay else
    RootDispersionTooLarge if le_z (pos 65536) (signed 32 f.root_dispersion) else
    timed ◌since◌ c f t4)

-- it tests root dispersion before root delay
abbrev pub root_swapped : Implementation client
root_swapped = checking (λ c f t4.
    RootDispersionTooLarge if is_root_dispersion_too_large f.root_dispersion else
    RootDelayOutOfRange if is_root_delay_out_of_range f.root_delay else
    timed ◌since◌ c f t4)

-- it tests the root fields after T4 - T1
abbrev pub root_after15 : Implementation client
root_after15 = checking (λ c f t4.
    ArrivedBeforeSent if negative (t4 since c.t1) else
    root_tests f (timed ◌since◌ c f t4))

-- ---- at a reply that ours accepts: it tells something else

abbrev instead : Told → Told → Told
instead new (refused n) = refused n
instead new done = done
instead new (accepted offset half delay) = new
instead new (kiss code row) = kiss code row

abbrev reporting : (Client → Arrival → Told) → Implementation client
reporting report = arriving (λ c x. record {
  result = instead (report c x) (step c (arrival x)).result;
  next = (step c (arrival x)).next;
  octets = x.packet;
})

-- it fixes what it tells when asking, whatever that is, and looks at the delay alone
abbrev pub fixing : (Client → Timestamp → ℤ → Told) → Implementation client
fixing guess = reporting (λ c x. guess c x.t4 (d (four c x)))

-- it makes something else of the four timestamps
abbrev pub measuring : (Four → Told) → Implementation client
measuring made = reporting (λ c x. made (four c x))

-- offset 0 always
abbrev pub zero_offset : Four → Told
zero_offset x = accepted (pos 0) 0 (d x)

-- a huge delay, so that the bound is easy
abbrev pub huge_delay : Four → Told
huge_delay x = accepted (offset x) (half x) (pos (2 ^ 40))

-- the half lost
abbrev pub half_lost : Four → Told
half_lost x = accepted (offset x) 0 (d x)

-- 10 half units moved from the offset to the half, so that the bound is met
abbrev pub large_half : Four → Told
large_half x = accepted (offset x -ℤ pos 5) (half x + 10) (d x)

-- halved toward zero
abbrev pub toward_zero : Four → Told
toward_zero x = accepted (quot_z (P x +ℤ Q x) (pos 2)) (half x) (d x)

-- P and Q halved apart
abbrev pub halved_apart : Four → Told
halved_apart x = accepted (floor_half (P x) +ℤ floor_half (Q x)) (half x) (d x)
