-- The orders are those of the rules, by computation.
use mathlib.Core.Path.{refl}
use Rattle.offset.specs.Offset.{offset_tests}
use Rattle.extension_writer.specs.Writer.{add_tests}
use Rattle.client.specs.Ask.{ask_tests}
use Rattle.reply_checks.specs.Checks.{waiting_tests, check_tests}
use Rattle.client.specs.GiveUp.{give_up_tests}
use Rattle.server.specs.Server as server
use Rattle.broadcast.specs.Broadcast as broadcasts
use Rattle.ledger.specs.Ledger.{entry_tests, tick_tests}
use Rattle.demands.specs.Orders.{Orders}

pub orders : Orders
unfolding add_tests broadcasts.write_tests broadcasts.field_tests ask_tests waiting_tests check_tests offset_tests give_up_tests server.reply_tests server.request_tests entry_tests tick_tests
orders = record {
  ask = λ c x. record { in_table = refl; in_rules = refl };
  arrival = λ c x. record { in_table = refl; in_rules = refl };
  give_up = λ c x. record { in_table = refl; in_rules = refl };
  list_ask = λ list at in_use x. record { in_table = refl; in_rules = refl };
  list_arrival = λ list at in_use x. record { in_table = refl; in_rules = refl };
  list_give_up = λ list at in_use x. record { in_table = refl; in_rules = refl };
  server = λ x. record { in_table = refl; in_rules = refl };
  broadcasting = λ x. record { in_table = refl; in_rules = refl };
  broadcast_arrival_ordered = λ x. record { in_table = refl; in_rules = refl };
  four = λ x. record { in_table = refl; in_rules = refl };
  reading = λ p. record { in_table = refl; in_rules = refl };
  writing = λ x. record { in_table = refl; in_rules = refl };
  beginning = λ p. record { in_table = refl; in_rules = refl };
  stepping = λ x. record { in_table = refl; in_rules = refl };
  adding = λ x. record { in_table = refl; in_rules = refl };
  date = λ t. record { in_table = refl; in_rules = refl };
  timestamp = λ d. record { in_table = refl; in_rules = refl };
  unix_time_ordered = λ t. record { in_table = refl; in_rules = refl };
  timestamp_of_unix_ordered = λ u. record { in_table = refl; in_rules = refl };
  writing_count = λ x. record { in_table = refl; in_rules = refl };
  reading_count = λ p. record { in_table = refl; in_rules = refl };
  precisions = λ n. record { in_table = refl; in_rules = refl };
  entries = λ x. record { in_table = refl; in_rules = refl };
  ticks = λ x. record { in_table = refl; in_rules = refl };
  image_ask = λ image buffer version clock token uptime. record { in_table = refl; in_rules = refl };
  image_arrival = λ image answer t4 alternate packet. record { in_table = refl; in_rules = refl };
  image_give_up = λ image uptime. record { in_table = refl; in_rules = refl };
  image_fresh = λ image. record { in_table = refl; in_rules = refl };
  server_for_c = λ x. record { in_table = refl; in_rules = refl };
}
