-- The worked exchanges between clocks that tick, computed.
use Prim.Native.Nat.{ℕ, ◌^◌}
use mathlib.Core.Path.{refl}
use mathlib.Core.Logic.{◌≢◌}
use lib.Dec.{T}
use Rattle.arithmetic.specs.Modulo.{◌modulo◌}
use Rattle.arithmetic.specs.Octets.{octets}
use Rattle.arithmetic.specs.TwosComplement.{signed, bits, difference}
use Rattle.timestamp.specs.Timestamp.{◌since◌, has_no_order}
use Rattle.offset.specs.Offset.{floor_half, half_of, offset_tests}
use Rattle.extension.specs.Reading as tails
use Rattle.packet.specs.Packet.{fields_of, octets_of}
use Rattle.poll.specs.Poll.{too_soon}
use Rattle.reply_checks.specs.Checks.{waiting_tests, check_tests}
use Rattle.client.specs.Record.{illegal}
use Rattle.client.specs.Ask.{ask_tests, after_ask, after_ask_buffer}
use Rattle.client.specs.Arrival.{arrived, arrival_answer}
use Rattle.client.specs.GiveUp.{gave_up, give_up_tests}
use Rattle.request.specs.Request.{request}
use Rattle.server_packet.specs.Packet.{out_of_range, packet_fields}
use Rattle.server.specs.Server.{request_tests, reply_tests, replied, replied_buffer}
use Rattle.demands.specs.Form.{refusal}
use Rattle.demands.specs.Behaviour.{client, form, ours}
use Rattle.clocks.specs.Exchange.{Exchange}
use Rattle.clocks.specs.Ticks.{cut_down, reading, readings}
use Rattle.clocks.specs.WorkedExchanges.{replay}
use Rattle.clocks.proofs.WorkedExchanges.{all, tests, ticking_orderly}
use Rattle.demands.specs.Demand3.{the_ask}
use Rattle.demands.specs.Ticks.{Premises}
use Rattle.demands.specs.Witnesses.{run}
use Rattle.demands.specs.TickWitnesses.{short_trip, slow_out, no_trip, TickWitnesses}
use Rattle.demands.proofs.Form.{acceptance_shown}
use Rattle.demands.proofs.Witnesses.{call_premises}

met : (i j : ℕ) (e : Exchange) → ((form client).shown (the_ask ours (readings (2 ^ i) (2 ^ j) e) (run e))).kind ≢ refusal → T (all (tests i j e)) → Premises (2 ^ i) (2 ^ j) ours (run e)
met i j e asked passed = record { orderly = ticking_orderly i j e passed; calls = call_premises ours (readings (2 ^ i) (2 ^ j) e) e asked }

pub tick_witnesses : TickWitnesses
unfolding reading cut_down arrived arrival_answer waiting_tests check_tests offset_tests ◌since◌ difference signed ◌modulo◌ has_no_order floor_half half_of tails.is_malformed tails.reading tails.ends_fields fields_of octets_of octets request illegal ask_tests after_ask after_ask_buffer replied replied_buffer reply_tests request_tests out_of_range packet_fields too_soon gave_up give_up_tests bits
tick_witnesses = record {
  by_18 = record { met = met 0 1 short_trip acceptance_shown.0 tt; read = refl; told = refl };
  by_18_delay = refl;
  highest = record { met = met 2 0 slow_out acceptance_shown.0 tt; read = refl; told = refl };
  highest_bound = refl;
  lowest = record { met = met 0 2 no_trip acceptance_shown.0 tt; read = refl; told = refl };
  lowest_bound = refl;
  seconds = record { met = met 32 32 replay acceptance_shown.0 tt; read = refl; told = refl };
  seconds_true = refl;
}
