-- Which demand each wrong program fails. Demands 1 and 2 are asked of each call, so that a behaviour with such a program for one call fails them; for demand 3
-- a behaviour is ours but for its client, whose replay then answers as that client does, or but for its server.
use Rattle.std.specs.Prelude.{ℕ, ℤ}
use Rattle.refusals.specs.Numbers.{number}
use Rattle.refusals.specs.declared.Refusal.TheVariants.{DelayNegative}
use Rattle.timestamp.specs.declared.Timestamp.{Timestamp}
use Rattle.client.specs.declared.Client.{Client}
use Rattle.client.specs.Calls.{Arrival, Call, Told}
use Rattle.demands.specs.Form.{Implementation, Refuses, Answers}
use Rattle.demands.specs.Wrapper.{through}
use Rattle.demands.specs.Client as clients
use Rattle.demands.specs.Reply as replies
use Rattle.demands.specs.Reply.{Request}
use Rattle.demands.specs.Line.{carrying}
use Rattle.demands.specs.Behaviour.{Operation, client, association, reply, broadcast, broadcast_arrival, measure, read, write, begin, next, body, add, date, timestamp, unix_time, timestamp_of_unix, write_count, read_count, precision, entry, tick, line, fresh_for_c, client_for_c, reply_for_c, form, Behaviour, ours}
use Rattle.demands.specs.Demand2.{Demand2}
use Rattle.demands.specs.Demand3.{Demand3}
use Rattle.demands.specs.Ticks.{Ticks}
use Rattle.demands.specs.SingleServer.{NeverStops}
use Rattle.demands.specs.Wire.{ClockUnseen}
use Rattle.wrong_behaviours.specs.Client.{later_start, refusing, always_writing, any_version, sending_clock, taking_none, staying_waiting, spending, always_stopping, never_stopping, any_tail, without_fields, kiss_first, any_originate, unsigned_times, root_untested, negative_delay_untested, dispersion_signed, root_swapped, root_after15, fixing, measuring, zero_offset, huge_delay, half_lost, large_half, toward_zero, halved_apart}
use Rattle.wrong_behaviours.specs.Others.{preferring_first, forgetting_use, answering_zero, never_replying, wrong_originate, replying_anyway, measuring_half_circle, reversing_half_circle, telling_half_circle, reading_nothing, writing_nothing, fourth_year_dates, fourth_year_timestamps, nearest_nanosecond, since1900, fraction_down, window_first, little_endian, reading_longer, rounded_down, refusing_entries, taking_entries, paying_all, refusing_lines, dropping_digits, starting_afresh}
use Rattle.wrong_behaviours.specs.ForC.{fresh_of_images, fresh_writing_nothing, clearing_answer, starting_over, testing_late, cutting_version, cutting_leap}

-- ours with this client
abbrev client_of : Implementation clients.client → (x : Operation) → Implementation (form x)
client_of f client = f
client_of f association = ours.does association
client_of f reply = ours.does reply
client_of f broadcast = ours.does broadcast
client_of f broadcast_arrival = ours.does broadcast_arrival
client_of f measure = ours.does measure
client_of f read = ours.does read
client_of f write = ours.does write
client_of f begin = ours.does begin
client_of f next = ours.does next
client_of f body = ours.does body
client_of f add = ours.does add
client_of f date = ours.does date
client_of f timestamp = ours.does timestamp
client_of f unix_time = ours.does unix_time
client_of f timestamp_of_unix = ours.does timestamp_of_unix
client_of f write_count = ours.does write_count
client_of f read_count = ours.does read_count
client_of f precision = ours.does precision
client_of f entry = ours.does entry
client_of f tick = ours.does tick
client_of f line = through clients.client carrying f
client_of f fresh_for_c = ours.does fresh_for_c
client_of f client_for_c = ours.does client_for_c
client_of f reply_for_c = ours.does reply_for_c

abbrev pub with_client : Implementation clients.client → Behaviour
with_client f = record { fresh = ours.fresh; opened = ours.opened; does = client_of f }

-- ours with this server
abbrev server_of : Implementation replies.reply → (x : Operation) → Implementation (form x)
server_of f client = ours.does client
server_of f association = ours.does association
server_of f reply = f
server_of f broadcast = ours.does broadcast
server_of f broadcast_arrival = ours.does broadcast_arrival
server_of f measure = ours.does measure
server_of f read = ours.does read
server_of f write = ours.does write
server_of f begin = ours.does begin
server_of f next = ours.does next
server_of f body = ours.does body
server_of f add = ours.does add
server_of f date = ours.does date
server_of f timestamp = ours.does timestamp
server_of f unix_time = ours.does unix_time
server_of f timestamp_of_unix = ours.does timestamp_of_unix
server_of f write_count = ours.does write_count
server_of f read_count = ours.does read_count
server_of f precision = ours.does precision
server_of f entry = ours.does entry
server_of f tick = ours.does tick
server_of f line = ours.does line
server_of f fresh_for_c = ours.does fresh_for_c
server_of f client_for_c = ours.does client_for_c
server_of f reply_for_c = ours.does reply_for_c

abbrev pub with_server : Implementation replies.reply → Behaviour
with_server f = record { fresh = ours.fresh; opened = ours.opened; does = server_of f }

-- ours with this record for a client that has never asked
abbrev pub with_fresh : Client → Behaviour
with_fresh c = record { fresh = c; opened = ours.opened; does = ours.does }

-- ---- the demands that fail

abbrev pub Fails1 : (x : Operation) → Implementation (form x) → Type 0
Fails1 x f = Refuses (form x) f → ⊥

abbrev pub Fails2 : (x : Operation) → Implementation (form x) → Type 0
Fails2 x f = Answers (form x) f → ⊥

abbrev pub Fails3 : Behaviour → Type 0
Fails3 b = Demand3 b → ⊥

-- a client that fails demands 2 and 3, and such a server
abbrev Client23 : Implementation clients.client → Type 0
Client23 f = Fails2 client f × Fails3 (with_client f)

abbrev Server23 : Implementation replies.reply → Type 0
Server23 f = Fails2 reply f × Fails3 (with_server f)

pub record Refuted : Type 0 where
  -- the client
  pub refuses_everything : (number : Client → Call → ℕ) → Fails2 client (refusing number)
  pub refuses_by_0 : Fails1 client (refusing (λ c x. 0))
  -- demand 3 alone lets one pass that never asks: its premise is an ask that was not refused
  pub never_asks : (number : Client → Call → ℕ) → Demand3 (with_client (refusing number))
  pub any_version_fails : Fails2 client any_version
  pub sends_the_clock : Fails2 client sending_clock × (ClockUnseen (with_client sending_clock) → ⊥)
  pub fresh_with_uptime : Demand2 (with_fresh later_start) → ⊥
  pub takes_no_reply : (number : Client → Arrival → ℕ) → Client23 (taking_none number)
  -- between clocks that tick a reply may be refused by 18, but not every reply
  pub refuses_by_18 : Ticks (with_client (taking_none (λ c x. (number DelayNegative)))) → ⊥
  pub stays_waiting : Fails2 client staying_waiting
  pub offset_zero : Client23 (measuring zero_offset)
  pub huge_delay_fails : Client23 (measuring huge_delay)
  pub half_lost_fails : Client23 (measuring half_lost)
  pub large_half_fails : Client23 (measuring large_half)
  pub toward_zero_fails : Client23 (measuring toward_zero)
  pub halved_apart_fails : Client23 (measuring halved_apart)
  pub fixed_when_asking : (guess : Client → Timestamp → ℤ → Told) → Client23 (fixing guess)
  pub unsigned_times_fails : Client23 unsigned_times
  pub always_stops : Fails2 client always_stopping × (NeverStops (with_client always_stopping) → ⊥)
  pub never_stops : Fails2 client never_stopping
  pub any_tail_fails : Fails2 client any_tail
  pub without_fields_fails : Fails2 client without_fields
  pub kiss_before_originate : Client23 kiss_first
  pub any_originate_fails : Fails2 client any_originate
  pub root_untested_fails : Fails2 client root_untested
  pub negative_delay_untested_fails : Fails2 client negative_delay_untested
  pub dispersion_signed_fails : Fails2 client dispersion_signed
  pub root_swapped_fails : Fails2 client root_swapped
  pub root_after_15 : Fails2 client root_after15
  pub spends_the_request : Fails1 client spending × Fails3 (with_client spending)
  pub writes_when_refused : Fails1 client always_writing × Fails3 (with_client always_writing)
  -- the list
  pub prefers_first : Fails2 association preferring_first
  pub forgets_use : Fails2 association forgetting_use
  -- the server
  pub never_replies : (number : Request → ℕ) → Server23 (never_replying number)
  pub wrong_originate_fails : Server23 wrong_originate
  pub replies_anyway : Fails1 reply replying_anyway
  -- the client of a broadcast
  pub always_0 : Fails2 broadcast_arrival answering_zero
  -- half a circle, in the three calls that test a difference
  pub half_circle_measured : Fails2 measure measuring_half_circle
  pub half_circle_reversed : Fails2 reply reversing_half_circle
  pub half_circle_told : Fails2 broadcast_arrival telling_half_circle
  -- the packet, the calendar, the precision octet
  pub reads_nothing : Fails2 read reading_nothing
  pub writes_nothing : Fails2 write writing_nothing
  pub every_fourth_year : Fails2 date fourth_year_dates
  pub february_2100 : Fails2 timestamp fourth_year_timestamps
  pub rounded_down_fails : Fails2 precision rounded_down
  -- Unix time and the Time Protocol
  pub nearest_nanosecond_fails : Fails2 unix_time nearest_nanosecond
  pub since_1900 : Fails2 unix_time since1900
  pub fraction_down_fails : Fails2 timestamp_of_unix fraction_down
  pub window_first_fails : Fails2 timestamp_of_unix window_first
  pub little_endian_fails : Fails2 write_count little_endian
  pub reads_longer : Fails2 read_count reading_longer
  -- the ledger
  pub refuses_entries_by_0 : Fails1 entry refusing_entries
  pub takes_every_entry : Fails2 entry taking_entries
  pub pays_all : Fails2 tick paying_all
  -- the replay
  pub refuses_every_line : Fails2 line refusing_lines
  pub accepts_odd_digits : Fails2 line dropping_digits
  pub starts_afresh : Fails1 line starting_afresh
  -- the calls for C
  pub fresh_of_images_fails : Fails2 fresh_for_c fresh_of_images
  pub fresh_writes_nothing : Fails2 fresh_for_c fresh_writing_nothing
  pub clears_answer : Fails1 client_for_c clearing_answer
  pub starts_over : Fails1 client_for_c starting_over
  pub tests_late : Fails2 client_for_c testing_late
  pub cuts_version : Fails2 client_for_c cutting_version
  pub cuts_leap : Fails2 reply_for_c cutting_leap
