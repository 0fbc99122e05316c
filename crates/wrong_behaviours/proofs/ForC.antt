-- Each wrong program for the calls for C fails a demand.
use Prim.Native.Nat.{ℕ}
use mathlib.Core.Path.{refl, subst}
use mathlib.Core.List.{List, [], ◌∷◌}
use lib.Dec.{T, eqb}
use lib.IntN.{pos}
use lib.ListN.{get_or, replicate}
use Rattle.arithmetic.specs.Octets.{octets}
use Rattle.slices.specs.Slices.{read_at}
use Rattle.extension.specs.Reading as tails
use Rattle.packet.specs.Packet.{fields_of}
use Rattle.poll.specs.Poll.{too_soon}
use Rattle.client.specs.Record.{illegal}
use Rattle.client.specs.Ask.{ask_tests, after_ask}
use Rattle.client.specs.Arrival.{arrived, arrival_answer}
use Rattle.client.specs.GiveUp.{give_up_tests, gave_up}
use Rattle.server_packet.specs.Packet.{out_of_range}
use Rattle.server.specs.Server as server
use Rattle.firmware_layouts.specs.Image.{image_of, record_in, has_legal_values, is_image}
use Rattle.firmware_layouts.specs.Answer.{answer_in}
use Rattle.firmware.specs.Client as firmware
use Rattle.firmware.specs.Client.{LentCall, ask, arrival, give_up}
use Rattle.demands.specs.ForC.{ImageCall, ImageOutcome}
use Rattle.demands.specs.Behaviour.{fresh_for_c, client_for_c, reply_for_c}
use Rattle.demands.proofs.Form.{differs}
use Rattle.demands.proofs.Each.{each}
use Rattle.wrong_behaviours.specs.Refuted.{Fails1, Fails2}
use Rattle.wrong_behaviours.specs.ForC.{fresh_of_images, fresh_writing_nothing, clearing_answer, starting_over, testing_late, cutting_version, cutting_leap}

-- the image of a client that has never asked, and of an idle one that has
abbrev fresh_image_lem : List ℕ
fresh_image_lem = replicate 32 0

abbrev idle_image : List ℕ
idle_image = 0 ∷ 0 ∷ 1 ∷ replicate 29 0

abbrev on : List ℕ → LentCall → ImageCall
on image x = record { image = image; call = x }

-- 32 octets of which no legal record has the first
pub fresh_of_images_fails : Fails2 fresh_for_c fresh_of_images
unfolding is_image has_legal_values
fresh_of_images_fails = differs (each fresh_for_c).answers (replicate 32 3) (λ o. eqb o.number 46) tt tt

pub fresh_writes_nothing : Fails2 fresh_for_c fresh_writing_nothing
unfolding image_of octets
fresh_writes_nothing = differs (each fresh_for_c).answers (replicate 32 3) (λ o. eqb (get_or o.image 0 0) 3) tt tt

-- an arrival of no octets, with an answer slice of ones
pub clears_answer : Fails1 client_for_c clearing_answer
unfolding firmware.number firmware.image_after firmware.buffer_after firmware.answer_after is_image has_legal_values record_in read_at illegal arrived arrival_answer tails.is_malformed answer_in
clears_answer demand = subst (λ (o : ImageOutcome). T (eqb (get_or o.answer 0 0) 0)) (demand.unchanged (on fresh_image_lem (arrival (replicate 24 1) 0 0 [])) refl) tt

-- a give-up where nothing is waited for
pub starts_over : Fails1 client_for_c starting_over
unfolding firmware.number firmware.image_after firmware.buffer_after firmware.answer_after is_image has_legal_values record_in read_at illegal gave_up give_up_tests image_of answer_in
starts_over demand = subst (λ (o : ImageOutcome). T (eqb (get_or o.image 2 0) 0)) (demand.unchanged (on idle_image (give_up 0)) refl) tt

-- a give-up on no image: 8 for 46
pub tests_late : Fails2 client_for_c testing_late
unfolding firmware.number is_image has_legal_values record_in read_at illegal gave_up give_up_tests
tests_late = differs (each client_for_c).answers (on [] (give_up 0)) (λ o. eqb o.number 8) tt tt

-- version 260
pub cuts_version : Fails2 client_for_c cutting_version
unfolding firmware.number is_image has_legal_values record_in read_at illegal after_ask ask_tests too_soon
cuts_version = differs (each client_for_c).answers (on fresh_image_lem (ask (replicate 48 0) 260 1 1 0)) (λ o. eqb o.number 0) tt tt

-- leap indicator 256, of a server that is not synchronised
pub cuts_leap : Fails2 reply_for_c cutting_leap
unfolding server.replied server.reply_tests server.request_tests out_of_range fields_of tails.is_malformed tails.reading tails.ends_fields
cuts_leap =
    differs (each reply_for_c).answers
    (record { synchronised = 0; leap = 256; precision = pos 0; identifier = 0; reference = 0; t2 = 0; t3 = 0; buffer = replicate 48 0; request = 0x23 ∷ replicate 47 0 })
    (λ o. eqb o.answer 0) tt tt
