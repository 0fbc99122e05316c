-- The order of each call's tests, those of docs/RULES.md, as lists of numbers, in one place. The checker computes that each call's rules, which the demands go by, and
-- its table of tests, which the contracts of the code go by, have it.
use Rattle.std.specs.Prelude.{ℕ, min, ◌≡◌, List, [], ◌∷◌, ◌++◌, length, drop}
use Rattle.refusals.specs.Numbers.{number}
use Rattle.ordered_tests.specs.Tests.{Tests, ◌if◌else◌, ◌when◌else◌, otherwise}
use Rattle.timestamp.specs.declared.Timestamp.{Timestamp}
use Rattle.timestamp.specs.Timestamp.{◌since◌}
use Rattle.offset.specs.Offset.{offset_tests}
use Rattle.extension.specs.Reader.{begin_tests, next_tests}
use Rattle.extension_writer.specs.Writer.{add_tests}
use Rattle.packet.specs.Packet.{read_tests, write_tests}
use Rattle.calendar.specs.declared.Date.{Date}
use Rattle.calendar.specs.Calendar.{date_tests, timestamp_tests}
use Rattle.unix_time.specs.declared.UnixTime.{UnixTime}
use Rattle.unix_time.specs.UnixTime as unix
use Rattle.time_protocol.specs.TimeProtocol as time
use Rattle.precision.specs.Precision.{precision_tests}
use Rattle.client.specs.declared.Client.{Client}
use Rattle.client.specs.Ask.{ask_tests}
use Rattle.client.specs.Arrival.{arrival_tests}
use Rattle.client.specs.GiveUp.{give_up_tests}
use Rattle.client.specs.Calls.{Ask, Arrival, GiveUp}
use Rattle.association_rules.specs.Associations.{list_tests, association}
use Rattle.server.specs.Server.{reply_tests}
use Rattle.broadcast.specs.Broadcast as broadcasts
use Rattle.ledger.specs.Ledger.{entry_tests, tick_tests}
use Rattle.timestamp.specs.Timestamp as timestamps-of
use Rattle.token.specs.Token as tokens
use Rattle.firmware_layouts.specs.Image.{record_in}
use Rattle.firmware.specs.Client as firmware
use Rattle.demands.specs.Form.{Rules, ◌unless◌then◌, ◌provided◌else◌, does, refuses}
use Rattle.demands.specs.Ask.{ask_rules}
use Rattle.demands.specs.Arrival.{arrival_rules}
use Rattle.demands.specs.GiveUp.{give_up_rules}
use Rattle.demands.specs.Associations as associations
use Rattle.demands.specs.Measure.{Four, P, Q, measure}
use Rattle.demands.specs.Read.{read}
use Rattle.demands.specs.Write.{Fill, write}
use Rattle.demands.specs.Begin.{begin}
use Rattle.demands.specs.Next.{Next, next}
use Rattle.demands.specs.Add.{Add, add}
use Rattle.demands.specs.Date as dates
use Rattle.demands.specs.Timestamp as timestamps
use Rattle.demands.specs.UnixTime.{unix_time}
use Rattle.demands.specs.TimestampOfUnix.{timestamp_of_unix}
use Rattle.demands.specs.TimeProtocol.{CountToWrite, write_count, read_count}
use Rattle.demands.specs.Precision.{precision}
use Rattle.demands.specs.Reply.{Request, reply}
use Rattle.demands.specs.Broadcast.{Broadcast, broadcast, BroadcastArrival, broadcast_arrival}
use Rattle.demands.specs.ForC.{client_for_c, fresh_for_c, RequestForC, inner_request, reply_for_c}
use Rattle.demands.specs.Entry.{Entry, entry}
use Rattle.demands.specs.Tick.{Tick, tick}

-- a test with its number, or an outcome after which no later test is made: a kiss, or a field that is handed out
pub data Place : Type 0 where
  test : ℕ → Place
  outcome : Place

-- ---- the orders of docs/RULES.md

abbrev tests : List ℕ → List Place
tests [] = []
tests (n ∷ ns) = test n ∷ tests ns

abbrev pub ask_order : List Place
ask_order = tests (29 ∷ 1 ∷ 2 ∷ 3 ∷ 42 ∷ 4 ∷ 5 ∷ 6 ∷ [])

-- of four timestamps: T4 - T1, T3 - T2, and P and then Q
abbrev pub measure_order : List Place
measure_order = tests (43 ∷ 15 ∷ 16 ∷ 43 ∷ 17 ∷ 18 ∷ 43 ∷ 43 ∷ 19 ∷ [])

abbrev pub arrival_order : List Place
arrival_order = tests (29 ∷ 7 ∷ 8 ∷ 9 ∷ 10 ∷ 11 ∷ []) ++ outcome ∷ tests (3 ∷ 12 ∷ 13 ∷ 14 ∷ 33 ∷ 34 ∷ []) ++ measure_order

abbrev pub give_up_order : List Place
give_up_order = tests (29 ∷ 8 ∷ 20 ∷ [])

-- before each of these, for a record of a list
abbrev pub list_order : List Place
list_order = tests (35 ∷ 29 ∷ [])

-- before each of them, for C on an image
abbrev pub image_order : List Place
image_order = tests (46 ∷ [])

-- 14, 43 and 17 when synchronised
abbrev pub reply_order : List Place
reply_order = tests (1 ∷ 7 ∷ 21 ∷ 22 ∷ 23 ∷ 14 ∷ 43 ∷ 17 ∷ [])

-- 14 when synchronised
abbrev pub broadcast_order : List Place
broadcast_order = tests (1 ∷ 22 ∷ 23 ∷ 41 ∷ 14 ∷ [])

abbrev pub broadcast_arrival_order : List Place
broadcast_arrival_order = tests (7 ∷ 36 ∷ 37 ∷ 38 ∷ 39 ∷ 40 ∷ 3 ∷ 43 ∷ [])

abbrev pub fresh_order : List Place
fresh_order = tests (46 ∷ [])

abbrev pub read_order : List Place
read_order = tests (7 ∷ [])

abbrev pub write_order : List Place
write_order = tests (1 ∷ 27 ∷ [])

abbrev pub begin_order : List Place
begin_order = tests (7 ∷ [])

abbrev pub next_order : List Place
next_order = outcome ∷ tests (7 ∷ [])

abbrev pub add_order : List Place
add_order = tests (7 ∷ 7 ∷ 44 ∷ 44 ∷ [])

abbrev pub date_order : List Place
date_order = tests (24 ∷ [])

abbrev pub timestamp_order : List Place
timestamp_order = tests (25 ∷ 26 ∷ 24 ∷ [])

abbrev pub unix_time_order : List Place
unix_time_order = tests (24 ∷ [])

abbrev pub timestamp_of_unix_order : List Place
timestamp_of_unix_order = tests (25 ∷ 26 ∷ 24 ∷ [])

abbrev pub write_count_order : List Place
write_count_order = tests (45 ∷ [])

abbrev pub read_count_order : List Place
read_count_order = tests (45 ∷ [])

abbrev pub precision_order : List Place
precision_order = tests (28 ∷ [])

abbrev pub entry_order : List Place
entry_order = tests (29 ∷ 30 ∷ 31 ∷ [])

abbrev pub tick_order : List Place
tick_order = tests (29 ∷ 32 ∷ [])

-- ---- the orders of rules and tables

abbrev pub of_rules : {O : Type 0} → Rules O → List Place
of_rules (r unless P then rest) = test (number r) ∷ of_rules rest
of_rules (o provided P else rest) = outcome ∷ of_rules rest
of_rules (does o) = []
of_rules (refuses r) = test (number r) ∷ []

abbrev pub of_table : {A : Type 0} → Tests A → List Place
of_table (r if b else rest) = test (number r) ∷ of_table rest
of_table (a when b else rest) = outcome ∷ of_table rest
of_table (otherwise a) = []

-- both have this order
pub record Both {A O : Type 0} (order : List Place) (table : Tests A) (rules : Rules O) : Type 0 where
  pub in_table : of_table table ≡ order
  pub in_rules : of_rules rules ≡ order

abbrev list_rules : List Client → (at in_use : ℕ) → associations.ListCall → Rules associations.ListOutcome
list_rules list at in_use x = (associations.associations).rules (record { list = list; at = at; in_use = in_use; call = x })

pub record Orders : Type 0 where
  pub ask : (c : Client) (x : Ask) → Both ask_order (ask_tests c (length x.buffer) x.version x.clock x.token x.uptime) (ask_rules c x)
  pub arrival : (c : Client) (x : Arrival) → Both arrival_order (arrival_tests c x.packet x.t4) (arrival_rules c x)
  pub give_up : (c : Client) (x : GiveUp) → Both give_up_order (give_up_tests c x.uptime) (give_up_rules c x)
  pub list_ask : (list : List Client) (at in_use : ℕ) (x : Ask)
      → Both (list_order ++ ask_order) (list_tests list at in_use (ask_tests (association list at) (length x.buffer) x.version x.clock x.token x.uptime))
      (list_rules list at in_use (associations.ask x))
  pub list_arrival : (list : List Client) (at in_use : ℕ) (x : associations.ListArrival)
      → Both (list_order ++ arrival_order) (list_tests list at in_use (arrival_tests (association list at) x.packet x.t4)) (list_rules list at in_use (associations.arrival x))
  pub list_give_up : (list : List Client) (at in_use : ℕ) (x : GiveUp)
      → Both (list_order ++ give_up_order) (list_tests list at in_use (give_up_tests (association list at) x.uptime)) (list_rules list at in_use (associations.give_up x))
  pub server : (x : Request) → Both reply_order (reply_tests x.settings x.request x.t2 x.t3 x.buffer) (reply.rules x)
  pub broadcasting : (x : Broadcast) → Both broadcast_order (broadcasts.write_tests x.settings x.version x.poll x.t3 (length x.buffer)) (broadcast.rules x)
  pub broadcast_arrival_ordered : (x : BroadcastArrival) → Both broadcast_arrival_order (broadcasts.arrival_tests x.packet x.t4) (broadcast_arrival.rules x)
  pub four : (x : Four) → Both measure_order (offset_tests (x.t4 since x.t1) (x.t3 since x.t2) (P x) (Q x)) (measure.rules x)
  pub reading : (p : List ℕ) → Both read_order (read_tests p) (read.rules p)
  pub writing : (x : Fill) → Both write_order (write_tests x.buffer x.fields) (write.rules x)
  pub beginning : (p : List ℕ) → Both begin_order (begin_tests p) (begin.rules p)
  pub stepping : (x : Next) → Both next_order (next_tests (drop x.cursor.at x.packet) x.cursor.at) (next.rules x)
  pub adding : (x : Add) → Both add_order (add_tests x.buffer x.size (length x.body)) (add.rules x)
  pub date : (t : Timestamp) → Both date_order (date_tests t) ((dates.date).rules t)
  pub timestamp : (d : Date) → Both timestamp_order (timestamp_tests d) ((timestamps.timestamp).rules d)
  pub unix_time_ordered : (t : Timestamp) → Both unix_time_order (unix.unix_time_tests t) (unix_time.rules t)
  pub timestamp_of_unix_ordered : (u : UnixTime) → Both timestamp_of_unix_order (unix.timestamp_tests u) (timestamp_of_unix.rules u)
  pub writing_count : (x : CountToWrite) → Both write_count_order (time.write_tests x.buffer) (write_count.rules x)
  pub reading_count : (p : List ℕ) → Both read_count_order (time.read_tests p) (read_count.rules p)
  pub precisions : (n : ℕ) → Both precision_order (precision_tests n) (precision.rules n)
  pub entries : (x : Entry) → Both entry_order (entry_tests x.ledger x.offset x.half) (entry.rules x)
  pub ticks : (x : Tick) → Both tick_order (tick_tests x.ledger x.limit) (tick.rules x)
  pub image_ask : (image buffer : List ℕ) (version clock token uptime : ℕ)
      → Both (image_order ++ ask_order)
      (firmware.image_tests image (firmware.ask buffer version clock token uptime)
      (ask_tests (record_in image) (length buffer) (min version 255) (timestamps-of.timestamp clock) (tokens.token token) uptime))
      (client_for_c.rules (record { image = image; call = firmware.ask buffer version clock token uptime }))
  pub image_arrival : (image answer : List ℕ) (t4 alternate : ℕ) (packet : List ℕ)
      → Both (image_order ++ arrival_order) (firmware.image_tests image (firmware.arrival answer t4 alternate packet) (arrival_tests (record_in image) packet (timestamps-of.timestamp t4)))
      (client_for_c.rules (record { image = image; call = firmware.arrival answer t4 alternate packet }))
  pub image_give_up : (image : List ℕ) (uptime : ℕ)
      → Both (image_order ++ give_up_order) (firmware.image_tests image (firmware.give_up uptime) (give_up_tests (record_in image) uptime))
      (client_for_c.rules (record { image = image; call = firmware.give_up uptime }))
  pub image_fresh : (image : List ℕ) → Both fresh_order (firmware.fresh_tests image) (fresh_for_c.rules image)
  pub server_for_c : (x : RequestForC)
      → Both reply_order (reply_tests (inner_request x).settings x.request (inner_request x).t2 (inner_request x).t3 x.buffer) (reply_for_c.rules x)
