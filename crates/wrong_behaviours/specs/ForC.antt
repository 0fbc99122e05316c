-- Wrong programs for the calls for C. Each does what ours does but for one thing.
use Rattle.std.specs.Prelude.{◌%◌, cond, eqb, length, replicate}
use Rattle.refusals.specs.Numbers.{number}
use Rattle.refusals.specs.declared.Refusal.TheVariants.{ImageNotLegal}
use Rattle.client.specs.Record.{fresh}
use Rattle.firmware_layouts.specs.Image.{is_image, with_image}
use Rattle.firmware.specs.Numbers.{number_of}
use Rattle.firmware.specs.Client.{LentCall, ask, arrival, give_up, outcome}
use Rattle.demands.specs.Form.{Implementation}
use Rattle.demands.specs.ForC as for-c
use Rattle.demands.specs.ForC.{fresh_for_c, ImageCall, ImageOutcome, client_for_c, RequestForC, reply_for_c}

-- fresh looks at the octets too, and refuses what is no image
abbrev pub fresh_of_images : Implementation fresh_for_c
fresh_of_images image = cond (is_image image) (for-c.ours_fresh image) (fresh_for_c.refusing image (number ImageNotLegal))

-- fresh leaves the slice as it was
abbrev pub fresh_writing_nothing : Implementation fresh_for_c
fresh_writing_nothing image = record { number = (for-c.ours_fresh image).number; image = image }

-- what ours does, with something made of its outcome where it refuses
abbrev on_refusal : (ImageOutcome → ImageOutcome) → Implementation client_for_c
on_refusal f i = cond (eqb (for-c.ours_client i).number 0) (for-c.ours_client i) (f (for-c.ours_client i))

-- it fills the answer slice with zeros
abbrev pub clearing_answer : Implementation client_for_c
clearing_answer = on_refusal λ o. record { number = o.number; image = o.image; octets = o.octets; answer = replicate (length o.answer) 0 }

-- it puts a fresh record's image there
abbrev pub starting_over : Implementation client_for_c
starting_over = on_refusal λ o. record { number = o.number; image = with_image o.image fresh; octets = o.octets; answer = o.answer }

-- it looks at the slices after the inner call alone
abbrev pub testing_late : Implementation client_for_c
testing_late i =
    let inside = number_of (outcome i.image i.call).result in
    cond (eqb inside 0) (for-c.ours_client i) (client_for_c.refusing i inside)

-- it cuts the version to 8 bits
abbrev cut : LentCall → LentCall
cut (ask buffer version clock token uptime) = ask buffer (version % 256) clock token uptime
cut (arrival answer t4 alternate packet) = arrival answer t4 alternate packet
cut (give_up uptime) = give_up uptime

abbrev pub cutting_version : Implementation client_for_c
cutting_version i = for-c.ours_client (record { image = i.image; call = cut i.call })

-- the server cuts the leap indicator to 8 bits
abbrev pub cutting_leap : Implementation reply_for_c
cutting_leap x = for-c.ours_reply (record {
  synchronised = x.synchronised;
  leap = x.leap % 256;
  precision = x.precision;
  identifier = x.identifier;
  reference = x.reference;
  t2 = x.t2;
  t3 = x.t3;
  buffer = x.buffer;
  request = x.request;
})
