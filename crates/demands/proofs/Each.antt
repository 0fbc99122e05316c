-- Every call meets its form.
use Rattle.demands.specs.Behaviour.{Operation, client, association, reply, broadcast, broadcast_arrival, measure, read, write, begin, next, body, add, date, timestamp, unix_time, timestamp_of_unix, write_count, read_count, precision, entry, tick, line, fresh_for_c, client_for_c, reply_for_c, form, ours}
use Rattle.demands.proofs.Form.{Meets}
use Rattle.demands.proofs.Client.{client_meets}
use Rattle.demands.proofs.Reply.{reply_meets}
use Rattle.demands.proofs.Broadcast.{broadcast_meets, broadcast_arrival_meets}
use Rattle.demands.proofs.Measure.{measure_meets}
use Rattle.demands.proofs.Packet.{read_meets, write_meets}
use Rattle.demands.proofs.Extension.{begin_meets, next_meets, body_meets, add_meets}
use Rattle.demands.proofs.Calendar.{date_meets, timestamp_meets}
use Rattle.demands.proofs.UnixTime.{unix_time_meets, timestamp_of_unix_meets}
use Rattle.demands.proofs.TimeProtocol.{write_count_meets, read_count_meets}
use Rattle.demands.proofs.Precision.{precision_meets}
use Rattle.demands.proofs.Ledger.{entry_meets, tick_meets}
use Rattle.demands.proofs.Line.{line_meets}
use Rattle.demands.proofs.Associations.{associations_meets}
use Rattle.demands.proofs.ForC.{fresh_meets, client_for_c_meets, reply_for_c_meets}

pub each : (x : Operation) → Meets (form x) (ours.does x)
each client = client_meets
each association = associations_meets
each reply = reply_meets
each broadcast = broadcast_meets
each broadcast_arrival = broadcast_arrival_meets
each measure = measure_meets
each read = read_meets
each write = write_meets
each begin = begin_meets
each next = next_meets
each body = body_meets
each add = add_meets
each date = date_meets
each timestamp = timestamp_meets
each unix_time = unix_time_meets
each timestamp_of_unix = timestamp_of_unix_meets
each write_count = write_count_meets
each read_count = read_count_meets
each precision = precision_meets
each entry = entry_meets
each tick = tick_meets
each line = line_meets
each fresh_for_c = fresh_meets
each client_for_c = client_for_c_meets
each reply_for_c = reply_for_c_meets
