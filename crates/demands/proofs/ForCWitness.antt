-- The premises of demand 3 for C are met.
use mathlib.Core.Path.{refl, subst}
use native.Mathlib.Omega.{arith}
use lib.Dec.{T, lit<, lit≤}
use lib.Signed.{le_z_yes}
use Rattle.arithmetic.specs.Modulo.{◌modulo◌}
use Rattle.arithmetic.specs.Octets.{octets}
use Rattle.arithmetic.specs.TwosComplement.{signed, bits, difference}
use Rattle.slices.specs.Slices.{read_at}
use Rattle.timestamp.specs.Timestamp.{is_zero, ◌since◌, has_no_order}
use Rattle.offset.specs.Offset.{offset_tests}
use Rattle.extension.specs.Reading as tails
use Rattle.packet.specs.Packet.{fields_of, octets_of}
use Rattle.poll.specs.Poll.{too_soon}
use Rattle.request.specs.Request as requests
use Rattle.reply_checks.specs.Checks.{waiting_tests, check_tests}
use Rattle.server_packet.specs.Packet as server-packet
use Rattle.server.specs.Server as server
use Rattle.clocks.specs.Exchange.{reading}
use Rattle.clocks.proofs.WorkedExchanges.{worked_exchanges}
use Rattle.client.specs.Record.{illegal}
use Rattle.client.specs.Ask.{ask_tests, after_ask, after_ask_buffer}
use Rattle.client.specs.Arrival.{arrived, arrival_answer}
use Rattle.client.specs.GiveUp.{give_up_tests, gave_up}
use Rattle.firmware_layouts.specs.Image.{image_of, record_in, has_legal_values, is_image}
use Rattle.firmware.specs.Client as firmware
use Rattle.demands.specs.ForCDemand3.{PremisesMet}

pub premises_met : PremisesMet
unfolding firmware.number firmware.image_after firmware.buffer_after firmware.answer_after is_image has_legal_values record_in image_of read_at octets illegal after_ask after_ask_buffer ask_tests too_soon arrived arrival_answer waiting_tests check_tests offset_tests gave_up give_up_tests tails.is_malformed tails.reading tails.ends_fields fields_of octets_of reading ◌modulo◌ requests.request server.replied server.replied_buffer server.reply_tests server.request_tests server-packet.out_of_range server-packet.packet_fields bits signed difference ◌since◌ has_no_order
premises_met = record {
  orderly = worked_exchanges.replay_orderly;
  ask_accepted = refl;
  token_fits = lit< tt;
  uptime_fits = lit< tt;
  synchronised = λ e. omega arith;
  set = record { leap = lit≤ tt; precision = (le_z_yes tt, le_z_yes tt) };
  room = lit≤ tt;
  permitted = (tt, ((λ packet same. subst (λ t. T (is_zero t)) same tt), ((λ packet same. subst (λ t. T (is_zero t)) same tt), (lit< tt, tt))));
  reply_admitted = λ e. omega arith;
  arrival_admitted = λ e. omega arith;
}
