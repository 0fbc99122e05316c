-- Each wrong program fails a demand.
use Rattle.refusals.specs.Given as given
use Rattle.refusals.specs.Given.{Given}
use Rattle.packet.specs.declared.Fields.{Fields}
use Prim.Native.Nat.{ℕ, ◌^◌, ◌+◌}
use mathlib.Core.Path.{refl, sym, ap, subst, ◌∙◌}
use mathlib.Core.Logic.{◌≢◌}
use mathlib.Core.Bool.{Bool, true, false, not, ◌&&◌}
use mathlib.Core.List.{List, [], ◌∷◌, ◌++◌}
use native.Mathlib.Omega.{arith}
use lib.Dec.{T, eqb, leb}
use lib.ListN.{get_or, replicate}
use lib.IntN.{ℤ, pos, negsuc, nat_abs, ◌+ℤ◌, ◌-ℤ◌}
use lib.Signed.{le_z, le_z_yes, ◌≤ℤ◌}
use mir.Facts.{and_yes}
use Rattle.refusals.specs.Numbers as numbers
use Rattle.refusals.specs.declared.Refusal.TheVariants.{DelayNegative, LineMalformed}
use Rattle.arithmetic.specs.Modulo.{◌modulo◌}
use Rattle.arithmetic.specs.TwosComplement.{signed, bits, difference}
use Rattle.arithmetic.specs.Octets.{octets}
use Rattle.arithmetic.proofs.Integers.{integers, size, minus}
use Rattle.refusals.specs.declared.Refusal.TheVariants.{DelayNegative, LineMalformed}
use Rattle.timestamp.specs.declared.Timestamp.{Timestamp}
use Rattle.timestamp.specs.Timestamp.{timestamp, from_seconds, ◌since◌, has_no_order}
use Rattle.offset.specs.Offset.{floor_half, half_of, offset_tests, measured}
use Rattle.offset.specs.Halving.{twice}
use Rattle.extension.specs.Reading as tails
use Rattle.packet.specs.Packet.{fields_of, octets_of}
use Rattle.calendar.specs.Gregorian.{leap_days, year_days, month_days, before, last}
use Rattle.calendar.specs.Dates as dates
use Rattle.calendar.specs.Dates.{date, days_to, seconds_to, date_at, year_on, day_of_year, month_on, day_of_month}
use Rattle.unix_time.specs.UnixTime as unix
use Rattle.calendar.specs.Calendar.{date_of, seconds_at, start1900, start2036, window_start, window_end, in_window, era_seconds, timestamp_of}
use Rattle.precision.specs.Precision.{least}
use Rattle.poll.specs.Poll.{too_soon}
use Rattle.client.specs.declared.Client.{Client}
use Rattle.client.specs.declared.Phase.TheVariants.{Waiting, Stopped}
use Rattle.client.specs.Record.{fresh, is_waiting, is_stopped, illegal}
use Rattle.client.specs.Ask.{ask_tests, after_ask, after_ask_buffer}
use Rattle.request.specs.Request as requests
use Rattle.client.specs.Arrival.{arrived}
use Rattle.client.specs.Arrival as arrivals
use Rattle.reply_checks.specs.Checks.{waiting_tests, check_tests}
use Rattle.client.specs.GiveUp.{gave_up, give_up_tests}
use Rattle.client.specs.Calls.{Call, ask, arrival, give_up, Told, refused, done, accepted, kiss, Outcome}
use Rattle.association_rules.specs.Associations.{any_illegal, first_running, arrived_for, list_after_arrival}
use Rattle.association_rules.specs.InUse.{outside}
use Rattle.kiss.specs.Kiss.{row_of}
use Rattle.broadcast.specs.Broadcast.{broadcast_arrived, field_tests}
use Rattle.server_packet.specs.Packet as server-packet
use Rattle.server.specs.Server.{request_tests}
use Rattle.server.specs.Server as server
use Rattle.ledger.specs.declared.Ledger.{Ledger}
use Rattle.ledger.specs.Ledger.{is_debt_too_large, is_entry_too_large, entry_tests, payment, tick_tests}
use Rattle.hex_decode.specs.Lines.{digit_of}
use Rattle.frames.specs.Frames.{LineAnswer, call_of}
use Rattle.demands.specs.Form.{refusal, acceptance, Implementation}
use Rattle.demands.specs.Client as clients
use Rattle.demands.specs.Reply.{Request}
use Rattle.demands.specs.Associations as associations
use Rattle.demands.specs.Associations.{ListInput}
use Rattle.demands.specs.SeveralServers.{rate}
use Rattle.demands.specs.Behaviour.{client, association, reply, broadcast_arrival, form, ours}
use Rattle.demands.specs.Behaviour as behaviour
use Rattle.clocks.specs.Exchange.{Exchange, reading, readings, T2, T3, T4, Orderly}
use Rattle.clocks.specs.Ticks as ticks
use Rattle.clocks.specs.Ticks.{cut_down}
use Rattle.clocks.specs.WorkedExchanges.{replay}
use Rattle.clocks.proofs.WorkedExchanges.{worked_exchanges, orderly}
use Rattle.demands.specs.Demand3.{the_ask, the_arrival}
use Rattle.demands.specs.Witnesses.{settings, buffer, run}
use Rattle.demands.specs.Wire.{Asking}
use Rattle.token.specs.Token.{token}
use Rattle.ordered_tests.proofs.Reflection.{contradiction}
use Rattle.demands.proofs.Form.{acceptance_shown, differs, unique}
use Rattle.demands.proofs.Each.{each}
use Rattle.demands.proofs.Demand3.{follows}
use Rattle.wrong_behaviours.specs.Client.{refusing, always_writing, taking_none, staying_waiting, spending, any_tail, without_fields, kiss_first, unsigned_times, root_untested, negative_delay_untested, dispersion_signed, root_swapped, root_after15, fixing, measuring, zero_offset, huge_delay, half_lost, large_half, toward_zero, halved_apart}
use Rattle.wrong_behaviours.proofs.ForC.{fresh_of_images_fails, fresh_writes_nothing, clears_answer, starts_over, tests_late, cuts_version, cuts_leap}
use Rattle.wrong_behaviours.specs.Others.{never_replying, wrong_originate, fourth_year_dates, fourth_year_timestamps, nearest_nanosecond, since1900, fraction_down, window_first, rounded_down, taking_entries, paying_all, refusing_lines, dropping_digits, starting_afresh}
use Rattle.wrong_behaviours.specs.Refuted.{with_client, with_server, Fails1, Fails2, Fails3, Refuted}
use Rattle.wrong_behaviours.proofs.Exchanges.{slow_back, slow_out, both_odd, other_server, waiting, request, replied, with_root, with_tail, with_kiss, tells_other, near, in_bound, concluded, in_bound_lem}

-- no result is in the bound of two servers that are 2000 units apart
not_both : (r : Told) → T (in_bound slow_back r) → T (in_bound other_server r) → ⊥
unfolding reading ◌modulo◌ ◌since◌ difference signed
not_both (refused n) s t = s
not_both done s t = s
not_both (accepted o h δ) s t =
    let x = twice o +ℤ pos h in
    let (low, rest) = and_yes (near slow_back o h δ) (le_z δ (pos 7) && leb h 1) s in
    let (high, _) = and_yes (near other_server o h δ) (le_z δ (pos 7) && leb h 1) t in
    let (short, _) = and_yes (le_z δ (pos 7)) (leb h 1) rest in
    let l : pos (nat_abs (x -ℤ negsuc 1999)) ≤ℤ δ = le_z_yes low in
    let u : pos (nat_abs (x -ℤ pos 2000)) ≤ℤ δ = le_z_yes high in
    let m : δ ≤ℤ pos 7 = le_z_yes short in
    omega (arith, integers, size (x -ℤ negsuc 1999), size (x -ℤ pos 2000), minus x (negsuc 1999), minus x (pos 2000))
not_both (kiss code row) s t = s

-- ---- the calendar, the precision octet and the replay

-- 1 March 2100
every_fourth_year : Fails2 behaviour.date fourth_year_dates
unfolding date_of seconds_to days_to date_at year_on day_of_year month_on day_of_month leap_days year_days month_days before last seconds_at start2036
every_fourth_year = differs (each behaviour.date).answers (from_seconds 2021563904 0) (λ o. eqb (nat_abs (get_or ((form behaviour.date).shown o).values 1 (pos 0))) 2) tt tt

-- 29 February 2100
february_2100 : Fails2 behaviour.timestamp fourth_year_timestamps
unfolding timestamp_of dates.exists seconds_to days_to leap_days year_days month_days before in_window window_start window_end era_seconds start1900 start2036
february_2100 = differs (each behaviour.timestamp).answers (date 2100 2 29 0 0 0 0) (λ o. eqb ((form behaviour.timestamp).shown o).number 0) tt tt

-- a tick of 3 units, of which the smallest power of two not below is 4
rounded_down_fails : Fails2 behaviour.precision rounded_down
unfolding least
rounded_down_fails = differs (each behaviour.precision).answers 3 (λ o. le_z (get_or ((form behaviour.precision).shown o).values 0 (pos 0)) (negsuc 30)) tt tt

-- ---- Unix time

-- three units of 2^-32 s are 0.69 nanoseconds
nearest_nanosecond_fails : Fails2 behaviour.unix_time nearest_nanosecond
unfolding unix.unix_time_of
nearest_nanosecond_fails = differs (each behaviour.unix_time).answers (from_seconds 1 3) (λ o. eqb (nat_abs (get_or ((form behaviour.unix_time).shown o).values 1 (pos 0))) 1) tt tt

-- the first second of 1970
since_1900 : Fails2 behaviour.unix_time since1900
unfolding unix.unix_time_of unix.unix_second unix.start1970 seconds_at start1900 seconds_to days_to leap_days year_days month_days before
since_1900 = differs (each behaviour.unix_time).answers (from_seconds 2208988800 0) (λ o. le_z (pos 1) (get_or ((form behaviour.unix_time).shown o).values 0 (pos 0))) tt tt

-- a nanosecond of 1970 is 4.3 units
fraction_down_fails : Fails2 behaviour.timestamp_of_unix fraction_down
unfolding unix.timestamp_of unix.start1970 seconds_to days_to leap_days year_days month_days before in_window window_start window_end era_seconds start1900 start2036
fraction_down_fails = differs (each behaviour.timestamp_of_unix).answers (record { seconds = pos 0; nanoseconds = 1 }) (λ o. le_z (get_or ((form behaviour.timestamp_of_unix).shown o).values 0 (pos 0)) (pos (from_seconds 2208988800 4).0)) tt tt

-- outside the window and no such time
window_first_fails : Fails2 behaviour.timestamp_of_unix window_first
unfolding unix.timestamp_of unix.start1970 seconds_to days_to leap_days year_days month_days before in_window window_start window_end
window_first_fails = differs (each behaviour.timestamp_of_unix).answers (record { seconds = pos (2 ^ 40); nanoseconds = 10 ^ 9 }) (λ o. eqb ((form behaviour.timestamp_of_unix).shown o).number 26) tt tt

-- A3 and so many digits 0, of which 32 make a give-up
abbrev give_up_line : ℕ → List ℕ
give_up_line zeros = 65 ∷ 51 ∷ replicate zeros 48

abbrev malformed : LineAnswer → Bool
malformed r = eqb (get_or r.octets 0 0) (numbers.number LineMalformed)

refuses_every_line : Fails2 behaviour.line refusing_lines
unfolding digit_of call_of gave_up give_up_tests illegal
refuses_every_line = differs (each behaviour.line).answers (fresh, give_up_line 32) malformed tt tt

accepts_odd_digits : Fails2 behaviour.line dropping_digits
unfolding digit_of call_of gave_up give_up_tests illegal
accepts_odd_digits = differs (each behaviour.line).answers (fresh, give_up_line 33) (λ r. not (malformed r)) tt tt

-- an empty line, to a client that waits
starts_afresh : (c : Client) → T (is_waiting c.phase) → Fails1 behaviour.line starting_afresh
unfolding call_of
starts_afresh c waits demand = subst (λ (r : LineAnswer). T (is_waiting r.client.phase)) (sym (demand.unchanged (c, []) refl)) waits

-- ---- the ledger

abbrev owing : ℤ → Ledger
owing debt = record { debt = debt }

takes_every_entry : Fails2 behaviour.entry taking_entries
unfolding entry_tests is_debt_too_large is_entry_too_large
takes_every_entry = differs (each behaviour.entry).answers (record { ledger = owing (pos 0); offset = pos 0; half = 2 }) (λ o. eqb ((form behaviour.entry).shown o).number 0) tt tt

pays_all : Fails2 behaviour.tick paying_all
unfolding tick_tests is_debt_too_large payment
pays_all = differs (each behaviour.tick).answers (record { ledger = owing (pos 2); limit = 1 }) (λ o. le_z o.ledger.debt (pos 0)) tt tt

-- what is seen of an answer
abbrev is_written : Given (Unit {0}) → Bool
is_written (given.refused n) = false
is_written (given.answered u) = true

abbrev has_mode : ℕ → Given Fields → Bool
has_mode m (given.refused n) = false
has_mode m (given.answered f) = eqb f.mode m

abbrev number : Outcome → ℕ
number o = ((clients.client).shown o).number

-- ---- the client and the server at an exchange: what ours tells, and what is seen of a program that differs

module _ (f : Implementation clients.client) where
  back : T (tells_other (negsuc 1003) 1 (pos 7) (f (replied slow_back))) → Fails2 client f
  unfolding arrived arrivals.arrival_answer waiting_tests check_tests offset_tests ◌since◌ difference signed ◌modulo◌ has_no_order floor_half half_of tails.is_malformed tails.reading tails.ends_fields tails.is_field_length fields_of octets_of octets requests.request illegal ask_tests after_ask after_ask_buffer server.replied server.replied_buffer server.reply_tests request_tests server-packet.out_of_range server-packet.packet_fields reading too_soon gave_up give_up_tests bits
  back seen = differs (each client).answers (replied slow_back) (tells_other (negsuc 1003) 1 (pos 7)) seen tt

  odd : T (tells_other (negsuc 1002) 0 (pos 8) (f (replied both_odd))) → Fails2 client f
  unfolding arrived arrivals.arrival_answer waiting_tests check_tests offset_tests ◌since◌ difference signed ◌modulo◌ has_no_order floor_half half_of tails.is_malformed tails.reading tails.ends_fields tails.is_field_length fields_of octets_of octets requests.request illegal ask_tests after_ask after_ask_buffer server.replied server.replied_buffer server.reply_tests request_tests server-packet.out_of_range server-packet.packet_fields reading too_soon gave_up give_up_tests bits
  odd seen = differs (each client).answers (replied both_odd) (tells_other (negsuc 1002) 0 (pos 8)) seen tt

  over_2036 : T (tells_other (pos 43486543872) 0 (pos 3221225472) (f (replied replay))) → Fails2 client f
  unfolding arrived arrivals.arrival_answer waiting_tests check_tests offset_tests ◌since◌ difference signed ◌modulo◌ has_no_order floor_half half_of tails.is_malformed tails.reading tails.ends_fields tails.is_field_length fields_of octets_of octets requests.request illegal ask_tests after_ask after_ask_buffer server.replied server.replied_buffer server.reply_tests request_tests server-packet.out_of_range server-packet.packet_fields reading too_soon gave_up give_up_tests bits
  over_2036 seen = differs (each client).answers (replied replay) (tells_other (pos 43486543872) 0 (pos 3221225472)) seen tt

  -- a reply of which this number is told, and not by ours
  tells : (i : Client × Call) (n : ℕ) → T (eqb (number (f i)) n) → T (not (eqb (number (ours.does client i)) n)) → Fails2 client f
  tells i n = differs (each client).answers i (λ o. eqb (number o) n)

  -- demand 3 of the behaviour with this client, where its ask is not refused
  module _ (e : Exchange) (o : Orderly e) (asked : ((form client).shown (the_ask (with_client f) (readings e) (run e))).kind ≢ refusal) where
    in_bound_at : T (not (in_bound e (the_arrival (with_client f) (readings e) (run e)).result)) → Fails3 (with_client f)
    in_bound_at other demand = contradiction (in_bound e (the_arrival (with_client f) (readings e) (run e)).result) (in_bound_lem e o (with_client f) asked demand) other

-- a broadcast packet of version 4, stratum 1 and transmit timestamp 7
abbrev from_broadcast : List ℕ
from_broadcast = 0x25 ∷ 1 ∷ replicate 38 0 ++ octets 8 7

-- a fresh client asks in version 4 with the token 7 at uptime 0
abbrev fresh_ask : Asking
fresh_ask = record { client = fresh; buffer = buffer; version = 4; token = token 7; uptime = 0 }

-- three records that wait for the kiss RATE, one of them called
abbrev kissed_at : (at in_use : ℕ) → ListInput
kissed_at at in_use = record {
  list = replicate 3 (waiting slow_back);
  at = at;
  in_use = in_use;
  call = associations.arrival (record { packet = rate 7; t4 = T4 slow_back });
}

waiting_runs : Waiting ≢ Stopped
waiting_runs e = subst (λ p. T (not (is_stopped p))) e tt

abbrev accepted_ask : acceptance ≢ refusal
accepted_ask = acceptance_shown.0

pub refuted : Refuted
unfolding measured broadcast_arrived field_tests outside any_illegal first_running arrived_for list_after_arrival row_of arrived arrivals.arrival_answer waiting_tests check_tests offset_tests ◌since◌ difference signed ◌modulo◌ has_no_order floor_half half_of tails.is_malformed tails.reading tails.ends_fields tails.is_field_length fields_of octets_of octets requests.request illegal ask_tests after_ask after_ask_buffer server.replied server.replied_buffer server.reply_tests request_tests server-packet.out_of_range server-packet.packet_fields reading ticks.reading cut_down too_soon gave_up give_up_tests bits
refuted =
    let at_back = orderly slow_back tt in
    let at_out = orderly slow_out tt in
    let at-odd = orderly both_odd tt in
    record {
      refuses_everything = λ number. back (refusing number) tt;
      refuses_by_0 = λ demand. demand.listed (fresh, give_up (record { uptime = 0 })) refl;
      never_asks = λ number r p. absurd (p.calls.ask_accepted refl);
      any_version_fails = differs (each client).answers (fresh, ask (record { buffer = buffer; version = 5; clock = T4 slow_back; token = token 7; uptime = 0 })) (λ o. eqb (number o) 0) tt tt;
      sends_the_clock = (
        differs (each client).answers (fresh, ask (record { buffer = buffer; version = 4; clock = timestamp 8; token = token 7; uptime = 0 })) (λ o. eqb (get_or o.octets 47 0) 8) tt tt,
        (λ law. let e = ap (λ o. get_or o 47 0) (law fresh_ask (timestamp 8) (timestamp 9) (λ z. omega (arith, ap (λ (t : Timestamp). t.0) z)) (λ z. omega (arith, ap (λ (t : Timestamp). t.0) z))).octets in omega arith),
      );
      fresh_with_uptime = λ demand. let e = ap (λ (c : Client). c.uptime) demand.fresh_record in omega arith;
      takes_no_reply = λ number. (back (taking_none number) tt, in_bound_at (taking_none number) slow_back at_back accepted_ask tt);
      refuses_by_18 = λ met. let by_18 = taking_none (λ c x. (numbers.number DelayNegative)) in in_bound_at by_18 slow_back at_back accepted_ask tt (follows (with_client by_18) met);
      stays_waiting = back staying_waiting tt;
      offset_zero = (back (measuring zero_offset) tt, in_bound_at (measuring zero_offset) slow_back at_back accepted_ask tt);
      huge_delay_fails = (back (measuring huge_delay) tt, in_bound_at (measuring huge_delay) slow_back at_back accepted_ask tt);
      half_lost_fails = (back (measuring half_lost) tt, in_bound_at (measuring half_lost) slow_back at_back accepted_ask tt);
      large_half_fails = (back (measuring large_half) tt, in_bound_at (measuring large_half) slow_back at_back accepted_ask tt);
      toward_zero_fails = (back (measuring toward_zero) tt, in_bound_at (measuring toward_zero) slow_out at_out accepted_ask tt);
      halved_apart_fails = (odd (measuring halved_apart) tt, in_bound_at (measuring halved_apart) both_odd at-odd accepted_ask tt);
      -- two servers answer one request: what was fixed when asking cannot fit both
      fixed_when_asking = λ guess. (
        (λ demand.
            let one = ap (λ (o : Outcome). o.result) (unique demand (each client).answers (replied slow_back)) in
            let other = ap (λ (o : Outcome). o.result) (unique demand (each client).answers (replied other_server)) in
            subst (λ r. T (in_bound slow_back r)) (sym one ∙ other) tt),
        (λ demand.
            not_both (guess (waiting slow_back) (T4 slow_back) (pos 7))
            (in_bound_lem slow_back at_back (with_client (fixing guess)) accepted_ask demand)
            (in_bound_lem other_server (orderly other_server tt) (with_client (fixing guess)) accepted_ask demand)),
      );
      unsigned_times_fails = (over_2036 unsigned_times tt, in_bound_at unsigned_times replay worked_exchanges.replay_orderly accepted_ask tt);
      always_stops = (
        differs (each client).answers (waiting slow_back, with_kiss slow_back false) (λ o. is_stopped o.next.phase) tt tt,
        (λ law. law (waiting slow_back) (with_kiss slow_back false ∷ []) waiting_runs (refl, tt) refl),
      );
      never_stops = differs (each client).answers (waiting slow_back, with_kiss slow_back true) (λ o. not (is_stopped o.next.phase)) tt tt;
      -- one octet more than 48; a field of 28 octets
      any_tail_fails = tells any_tail (with_tail slow_back (0 ∷ [])) 0 tt tt;
      without_fields_fails = tells without_fields (with_tail slow_back (0 ∷ 0 ∷ 0 ∷ 28 ∷ replicate 24 0)) 7 tt tt;
      -- a packet of 48 zero octets, which a stranger sent
      kiss_before_originate = (
        differs (each client).answers (waiting slow_back, arrival (record { packet = buffer; t4 = T4 slow_back; alternate = true })) (λ o. eqb (number o) 0) tt tt,
        in_bound_at kiss_first slow_back at_back accepted_ask tt,
      );
      -- a kiss to another request
      any_originate_fails = differs (each client).answers (waiting slow_back, arrival (record { packet = rate 8; t4 = T4 slow_back; alternate = true })) (λ o. eqb (number o) 0) tt tt;
      root_untested_fails = tells root_untested (with_root slow_back (negsuc 0) 0 (T4 slow_back)) 0 tt tt;
      negative_delay_untested_fails = tells negative_delay_untested (with_root slow_back (negsuc 0) 0 (T4 slow_back)) 0 tt tt;
      dispersion_signed_fails = tells dispersion_signed (with_root slow_back (pos 0) (2 ^ 31) (T4 slow_back)) 0 tt tt;
      root_swapped_fails = tells root_swapped (with_root slow_back (negsuc 0) 65536 (T4 slow_back)) 34 tt tt;
      root_after_15 = tells root_after15 (with_root slow_back (negsuc 0) 0 (timestamp 4999)) 15 tt tt;
      spends_the_request = (
        (λ demand. subst (λ (o : Outcome). T (not (is_waiting o.next.phase))) (demand.unchanged (waiting slow_back, arrival (record { packet = []; t4 = T4 slow_back; alternate = true })) refl) tt),
        in_bound_at spending slow_back at_back accepted_ask tt,
      );
      writes_when_refused = (
        (λ demand. subst (λ (o : Outcome). T (not (eqb (get_or o.octets 0 0) 0))) (demand.unchanged (waiting slow_back, ask (record { buffer = buffer; version = 4; clock = T4 slow_back; token = token 7; uptime = 9 })) refl) tt),
        (λ demand. subst (λ (o : Outcome). T (not (eqb (get_or o.octets 0 0) 0))) (concluded slow_back at_back (with_client always_writing) accepted_ask demand).calls.refusals.0.is tt),
      );
      -- record 0 is kissed and use moves to record 1; record 1 is kissed while record 0 is in use, and use stays at 0
      prefers_first = differs (each association).answers (kissed_at 0 0) (λ o. eqb o.in_use 0) tt tt;
      forgets_use = differs (each association).answers (kissed_at 1 0) (λ o. eqb o.in_use 1) tt tt;
      always_0 = differs (each broadcast_arrival).answers (record { packet = from_broadcast; t4 = timestamp 5 }) (λ a. eqb (nat_abs (get_or ((form broadcast_arrival).shown a).values 0 (pos 0))) 0) tt tt;
      never_replies = λ number. (
        differs (each reply).answers (request slow_back) (λ w. not (is_written w.answer)) tt tt,
        (λ demand. subst (λ a. T (is_written a)) (sym (concluded slow_back at_back (with_server (never_replying number)) accepted_ask demand).calls.answered) tt),
      );
      wrong_originate_fails = (
        differs (each reply).answers (request slow_back) (λ w. eqb (get_or w.octets 31 0) 0) tt tt,
        in_bound_lem slow_back at_back (with_server wrong_originate) accepted_ask,
      );
      -- a request of mode 0
      replies_anyway = λ demand.
          let x : Request = record { settings = settings; request = buffer; t2 = T2 slow_back; t3 = T3 slow_back; buffer = buffer } in
          subst (λ w. T (not (eqb (get_or w.octets 0 0) 0))) (demand.unchanged x refl) tt;
      half_circle_measured = differs (each behaviour.measure).answers (record { t1 = timestamp 0; t2 = timestamp (2 ^ 63); t3 = timestamp (2 ^ 63); t4 = timestamp 0 }) (λ o. eqb ((form behaviour.measure).shown o).number 0) tt tt;
      half_circle_reversed =
          let x : Request = record { settings = settings; request = (request slow_back).request; t2 = timestamp 1; t3 = timestamp (1 + 2 ^ 63); buffer = buffer } in
          differs (each reply).answers x (λ w. eqb ((form reply).shown w).number 17) tt tt;
      half_circle_told = differs (each broadcast_arrival).answers (record { packet = from_broadcast; t4 = timestamp (7 + 2 ^ 63) }) (λ a. eqb ((form broadcast_arrival).shown a).number 0) tt tt;
      reads_nothing = differs (each behaviour.read).answers (1 ∷ replicate 47 0) (λ o. not (has_mode 1 o)) tt tt;
      writes_nothing = differs (each behaviour.write).answers (record { buffer = replicate 48 1; fields = fields_of buffer }) (λ w. eqb (get_or w.octets 0 0) 1) tt tt;
      every_fourth_year = every_fourth_year;
      february_2100 = february_2100;
      rounded_down_fails = rounded_down_fails;
      nearest_nanosecond_fails = nearest_nanosecond_fails;
      since_1900 = since_1900;
      fraction_down_fails = fraction_down_fails;
      window_first_fails = window_first_fails;
      little_endian_fails = differs (each behaviour.write_count).answers (record { buffer = replicate 4 0; count = 1 }) (λ w. eqb (get_or w.octets 0 0) 1) tt tt;
      reads_longer = differs (each behaviour.read_count).answers (replicate 5 0) (λ o. eqb ((form behaviour.read_count).shown o).number 0) tt tt;
      refuses_entries_by_0 = λ demand. demand.listed (record { ledger = owing (pos 0); offset = pos 0; half = 0 }) refl;
      takes_every_entry = takes_every_entry;
      pays_all = pays_all;
      refuses_every_line = refuses_every_line;
      accepts_odd_digits = accepts_odd_digits;
      starts_afresh = starts_afresh (waiting slow_back) tt;
      fresh_of_images_fails = fresh_of_images_fails;
      fresh_writes_nothing = fresh_writes_nothing;
      clears_answer = clears_answer;
      starts_over = starts_over;
      tests_late = tests_late;
      cuts_version = cuts_version;
      cuts_leap = cuts_leap;
    }
