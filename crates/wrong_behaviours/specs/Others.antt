-- Wrong programs for the other calls. Each does what ours does but for one thing.
use Rattle.std.specs.Prelude.{Option, Some, None}
use Rattle.std.specs.Prelude.{ℤ}
use Rattle.refusals.specs.Given.{Given, refused, answered, numbered}
use Rattle.refusals.specs.Numbers.{number}
use Rattle.ordered_tests.specs.Tests.{Tests, given}
use Rattle.std.specs.Prelude.{ℕ, suc, ◌+◌, ◌-◌, ◌*◌, ◌/◌, ◌%◌, ◌^◌, Bool, cond, not, ◌&&◌, ◌||◌, List, [], ◌∷◌, ◌++◌, eqb, leb, ltb, pos, neg_ℤ, nat_abs, ◌+ℤ◌, ◌-ℤ◌, length, take, drop, replicate}
use Rattle.std.specs.Int.Signed.{lt_z}
use Rattle.arithmetic.specs.Octets.{part, big_endian}
use Rattle.refusals.specs.Numbers as numbers
use Rattle.refusals.specs.declared.Refusal.TheVariants.{PacketLengthWrong, ArrivedBeforeSent, ArrivedTooLate, AnsweredBeforeReceived, DelayNegative, FirstBelowSecond, NoOrder, TimestampZero, NoSuchDate, OutsideWindow, TickOutOfRange, TimeLengthWrong, LineMalformed}
use Rattle.ordered_tests.specs.Tests.{◌if◌else◌, otherwise}
use Rattle.timestamp.specs.declared.Timestamp.{Timestamp}
use Rattle.timestamp.specs.Timestamp.{constants, from_seconds, fraction_of, is_zero, ◌since◌, negative}
use Rattle.extension.specs.Reading.{is_malformed}
use Rattle.packet.specs.Packet.{fields_of, octets_of}
use Rattle.calendar.specs.declared.Date.{Date}
use Rattle.calendar.specs.Gregorian.{divides}
use Rattle.calendar.specs.Dates as calendar
use Rattle.calendar.specs.Dates.{exists, seconds_to, date_at}
use Rattle.calendar.specs.Calendar.{start1900, seconds_at, in_window, era_seconds}
use Rattle.unix_time.specs.declared.UnixTime.{UnixTime}
use Rattle.unix_time.specs.UnixTime.{unix_second, nanoseconds_of, from_year0, inside, timestamp_at}
use Rattle.precision.specs.Precision.{least}
use Rattle.client.specs.declared.Client.{Client}
use Rattle.client.specs.Record.{fresh}
use Rattle.server.specs.Server.{reply_fields}
use Rattle.hex_decode.specs.Decoding.{decode}
use Rattle.client.specs.Calls.{Call}
use Rattle.frames.specs.Frames.{parsed}
use Rattle.demands.specs.Form.{Implementation}
use Rattle.demands.specs.Associations as lists
use Rattle.demands.specs.Associations.{ListInput, ListOutcome, associations}
use Rattle.demands.specs.Measure.{P, Q, d, offset, half, measure}
use Rattle.demands.specs.Reply as replies
use Rattle.demands.specs.Reply.{Request, reply}
use Rattle.demands.specs.Broadcast as broadcasts
use Rattle.demands.specs.Broadcast.{broadcast_arrival}
use Rattle.demands.specs.Read.{read}
use Rattle.demands.specs.Write as writing
use Rattle.demands.specs.Write.{write}
use Rattle.demands.specs.Date.{date}
use Rattle.demands.specs.Timestamp.{timestamp}
use Rattle.demands.specs.UnixTime.{unix_time}
use Rattle.demands.specs.TimestampOfUnix.{timestamp_of_unix}
use Rattle.demands.specs.TimeProtocol as time
use Rattle.demands.specs.TimeProtocol.{write_count, read_count}
use Rattle.demands.specs.Precision.{precision}
use Rattle.demands.specs.Entry.{entry, owed}
use Rattle.demands.specs.Tick.{tick}
use Rattle.demands.specs.Line as lines
use Rattle.demands.specs.Line.{line}

-- what a table of tests gives, a refusal by its number
abbrev gives : {A : Type 0} → Tests A → Given A
gives tests = numbered (given tests)

-- ---- the list: what is in use after a call

abbrev in_use_by : (ListInput → ListOutcome → ℕ) → Implementation associations
in_use_by number i = record {
  result = (lists.ours i).result;
  list = (lists.ours i).list;
  in_use = number i (lists.ours i);
  octets = (lists.ours i).octets;
}

-- where use moves, it moves to record 0
abbrev pub preferring_first : Implementation associations
preferring_first = in_use_by (λ i o. cond (eqb o.in_use i.in_use) i.in_use 0)

-- it does not keep the number in use, and hands back the number of the record that was called
abbrev pub forgetting_use : Implementation associations
forgetting_use = in_use_by (λ i o. i.at)

-- ---- the server

-- it refuses everything, by whatever numbers
abbrev pub never_replying : (Request → ℕ) → Implementation reply
never_replying number x = record { answer = refused (number x); octets = x.buffer }

-- its reply carries the request's originate timestamp in place of its transmit timestamp
abbrev pub wrong_originate : Implementation reply
wrong_originate x = replies.ours (record { settings = x.settings; request = take 40 x.request ++ part 24 8 x.request ++ drop 48 x.request; t2 = x.t2; t3 = x.t3; buffer = x.buffer })

-- it writes its reply whether it refuses or not
abbrev pub replying_anyway : Implementation reply
replying_anyway x = record {
  answer = (replies.ours x).answer;
  octets = take (length x.buffer) (octets_of (reply_fields x.settings (fields_of x.request) x.t2 x.t3) ++ drop 48 x.buffer);
}

-- ---- the client of a broadcast: it answers 0 where ours answers a difference

abbrev zeroed : Given ℤ → Given ℤ
zeroed (refused n) = refused n
zeroed (answered d) = answered (pos 0)

abbrev pub answering_zero : Implementation broadcast_arrival
answering_zero x = zeroed (broadcasts.ours_arrival x)

-- ---- half a circle apart taken for the lowest difference, -2^63, where ours says that there is no order

abbrev pub measuring_half_circle : Implementation measure
measuring_half_circle x = gives (
    ArrivedBeforeSent if negative (x.t4 since x.t1) else
    ArrivedTooLate if lt_z constants.limit (x.t4 since x.t1) else
    AnsweredBeforeReceived if negative (x.t3 since x.t2) else
    DelayNegative if negative (d x) else
    FirstBelowSecond if lt_z (P x) (Q x) else
    otherwise (record { offset = offset x; half = half x; delay = d x }))

abbrev reversed : Given (Unit {0}) → Given (Unit {0})
reversed (refused n) = refused (cond (eqb n (numbers.number NoOrder)) (numbers.number AnsweredBeforeReceived) n)
reversed (answered tt) = answered tt

abbrev pub reversing_half_circle : Implementation reply
reversing_half_circle x = record { answer = reversed (replies.ours x).answer; octets = (replies.ours x).octets }

abbrev lowest : Given ℤ → Given ℤ
lowest (refused n) = cond (eqb n (numbers.number NoOrder)) (answered (neg_ℤ (pos (2 ^ 63)))) (refused n)
lowest (answered z) = answered z

abbrev pub telling_half_circle : Implementation broadcast_arrival
telling_half_circle x = lowest (broadcasts.ours_arrival x)

-- ---- the packet: reader and writer refuse what ours refuse, and do nothing

abbrev pub reading_nothing : Implementation read
reading_nothing p = gives (PacketLengthWrong if is_malformed p else otherwise (fields_of (replicate 48 0)))

abbrev pub writing_nothing : Implementation write
writing_nothing x = record { answer = (writing.ours x).answer; octets = x.buffer }

-- ---- the calendar: every fourth year is a leap year

-- 29 February 2100 stands for 1 March, and from then on the date is a day behind
abbrev march2100 : ℕ
march2100 = seconds_to (calendar.date 2100 3 1 0 0 0 0)

abbrev fourth_year_date : ℕ → ℕ → Date
fourth_year_date s fraction =
    cond (ltb s march2100) (date_at s fraction)
    (cond (ltb s (march2100 + 86400)) (calendar.date 2100 2 29 (s / 3600 % 24) (s / 60 % 60) (s % 60) fraction)
    (date_at (s - 86400) fraction))

abbrev pub fourth_year_dates : Implementation date
fourth_year_dates t = gives (TimestampZero if is_zero t else otherwise (fourth_year_date (seconds_at t) (fraction_of t)))

-- there is such a date where there is one in a leap year, in a year that 4 divides
abbrev fourth_year_exists : Date → Bool
fourth_year_exists x = exists (calendar.date (cond (divides 4 x.year) 2000 x.year) x.month x.day x.hour x.minute x.second x.fraction)

abbrev fourth_year_seconds : Date → ℕ
fourth_year_seconds x = seconds_to x + cond (ltb 2100 x.year || (eqb 2100 x.year && leb 3 x.month)) 86400 0

abbrev fourth_year_timestamp : Date → Timestamp
fourth_year_timestamp x = from_seconds (era_seconds (fourth_year_seconds x)) x.fraction

abbrev pub fourth_year_timestamps : Implementation timestamp
fourth_year_timestamps x = gives (
    NoSuchDate if not (fourth_year_exists x) else
    OutsideWindow if not (in_window (fourth_year_seconds x)) else
    TimestampZero if is_zero (fourth_year_timestamp x) else
    otherwise (fourth_year_timestamp x))

-- ---- Unix time

abbrev to_unix : (Timestamp → UnixTime) → Implementation unix_time
to_unix u t = gives (TimestampZero if is_zero t else otherwise (u t))

-- nanoseconds rounded to the nearest
abbrev pub nearest_nanosecond : Implementation unix_time
nearest_nanosecond = to_unix λ t. record { seconds = unix_second (seconds_at t); nanoseconds = (fraction_of t * 10 ^ 9 + 2 ^ 31) / 2 ^ 32 }

-- seconds from 1900
abbrev pub since1900 : Implementation unix_time
since1900 = to_unix λ t. record { seconds = pos (seconds_at t) -ℤ pos start1900; nanoseconds = nanoseconds_of (fraction_of t) }

-- the fraction rounded down on the way back
abbrev fraction_below : UnixTime → Timestamp
fraction_below u = from_seconds (era_seconds (nat_abs (from_year0 u.seconds))) (u.nanoseconds * 2 ^ 32 / 10 ^ 9)

abbrev pub fraction_down : Implementation timestamp_of_unix
fraction_down u = gives (
    NoSuchDate if leb (10 ^ 9) u.nanoseconds else
    OutsideWindow if not (inside (from_year0 u.seconds)) else
    TimestampZero if is_zero (fraction_below u) else
    otherwise (fraction_below u))

-- the window tested before the nanoseconds
abbrev pub window_first : Implementation timestamp_of_unix
window_first u = gives (
    OutsideWindow if not (inside (from_year0 u.seconds)) else
    NoSuchDate if leb (10 ^ 9) u.nanoseconds else
    TimestampZero if is_zero (timestamp_at u) else
    otherwise (timestamp_at u))

-- ---- the Time Protocol

-- the octets from the lowest to the highest
abbrev lowest_first : ℕ → List ℕ
lowest_first n = n % 2 ^ 8 ∷ n / 2 ^ 8 % 2 ^ 8 ∷ n / 2 ^ 16 % 2 ^ 8 ∷ n / 2 ^ 24 % 2 ^ 8 ∷ []

abbrev pub little_endian : Implementation write_count
little_endian x = record {
  answer = (time.ours_write x).answer;
  octets = cond (ltb (length x.buffer) 4) x.buffer (lowest_first x.count ++ drop 4 x.buffer);
}

-- the first four of any octets
abbrev pub reading_longer : Implementation read_count
reading_longer p = gives (TimeLengthWrong if ltb (length p) 4 else otherwise (big_endian (take 4 p)))

-- ---- the precision: the greatest power of two not above the tick

abbrev pub rounded_down : Implementation precision
rounded_down tick = gives (
    TickOutOfRange if eqb tick 0 || ltb (2 ^ 32) tick else
    otherwise (pos (least (suc tick) 33 - 1) -ℤ pos 32))

-- ---- the ledger

-- it refuses every entry by 0
abbrev pub refusing_entries : Implementation entry
refusing_entries x = record { answer = refused 0; ledger = x.ledger }

-- it takes every entry
abbrev pub taking_entries : Implementation entry
taking_entries x = record { answer = answered tt; ledger = record { debt = x.ledger.debt +ℤ owed x } }

-- it pays the whole debt at once, whatever the limit
abbrev pub paying_all : Implementation tick
paying_all x = record { answer = answered x.ledger.debt; ledger = record { debt = pos 0 } }

-- ---- the replay

-- it takes every line for malformed
abbrev pub refusing_lines : Implementation line
refusing_lines (c, l) = record { client = c; octets = numbers.number LineMalformed ∷ [] }

-- it drops the last of an odd number of digits, and obeys the rest
abbrev pairs : List ℕ → List ℕ
pairs [] = []
pairs (a ∷ []) = []
pairs (a ∷ b ∷ rest) = a ∷ b ∷ pairs rest

abbrev pub dropping_digits : Implementation line
dropping_digits (c, l) = lines.ours (c, pairs l)

-- it starts afresh at a malformed line
abbrev afresh : Client → Option Call → Client
afresh next (Some x) = next
afresh next None = fresh

abbrev pub starting_afresh : Implementation line
starting_afresh (c, l) = record { client = afresh (lines.ours (c, l)).client (parsed (decode l)); octets = (lines.ours (c, l)).octets }
