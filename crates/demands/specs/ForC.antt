-- The calls for C: those of the client on an image, and the server's, around the inner ones; and fresh.
use Rattle.refusals.specs.Given.{given_number}
use Rattle.refusals.specs.Given.{Given}
use Rattle.std.specs.Prelude.{ℕ, ◌≤◌, ◌≡◌, cond, List, [], eqb, ℤ, length, get_or, replicate}
use Rattle.refusals.specs.declared.Refusal.TheVariants.{ImageNotLegal}
use Rattle.slices.specs.Slices.{read_at}
use Rattle.timestamp.specs.Timestamp.{timestamp}
use Rattle.std.specs.Prelude.{Ok}
use Rattle.client.specs.Calls as calls
use Rattle.firmware_layouts.specs.Image.{record_in}
use Rattle.firmware_layouts.specs.Answer.{answer_in}
use Rattle.firmware.specs.Numbers.{number_of}
use Rattle.firmware.specs.Client as firmware
use Rattle.firmware.specs.Client.{LentCall, ask, arrival, give_up, inner, lent_answer, next_image}
use Rattle.firmware.specs.Server.{settings, reply_number, reply_buffer}
use Rattle.demands.specs.Form.{Kind, acceptance, kiss, Shown, refused_by, telling, ◌unless◌then◌, does, Form, Implementation}
use Rattle.demands.specs.Common.{Written}
use Rattle.demands.specs.Wrapper.{Wrapper, map_rules, wrapped}
use Rattle.demands.specs.Legal.{Legal}
use Rattle.demands.specs.Client.{numbers, call_rules}
use Rattle.demands.specs.Reply.{Request, reply}

-- ---- fresh

pub record FreshOutcome : Type 0 where
  pub number : ℕ
  pub image : List ℕ

-- 0 is no refusal
abbrev pub shown_number : ℕ → Shown
shown_number n = cond (eqb n 0) (telling []) (refused_by 0 n)

abbrev pub fresh_for_c : Form
fresh_for_c = record {
  Input = List ℕ;
  Outcome = FreshOutcome;
  shown = λ o. shown_number o.number;
  refusing = λ image n. record { number = n; image = image };
  rules = λ image.
      ImageNotLegal unless length image ≡ 32 then
      does (record { number = 0; image = replicate 32 0 });
}

abbrev pub ours_fresh : Implementation fresh_for_c
ours_fresh image = record { number = firmware.fresh_number image; image = firmware.fresh_image image }

-- ---- the client on an image

pub record ImageCall : Type 0 where
  pub image : List ℕ
  pub call : LentCall

-- the number that a call returns, and what the slices that it was lent are then: the image, an ask's buffer or an arrival's packet, an arrival's answer
pub record ImageOutcome : Type 0 where
  pub number : ℕ
  pub image : List ℕ
  pub octets : List ℕ
  pub answer : List ℕ

-- the image of a legal record
pub record IsImage (image : List ℕ) : Type 0 where
  pub length_32 : length image ≡ 32
  pub phase : get_or image 0 0 ≤ 2
  pub asked : get_or image 2 0 ≤ 1
  pub zero : read_at 4 image 4 ≡ 0
  pub legal : Legal (record_in image)

-- an answer slice has 24 octets
abbrev pub SlicesFit : LentCall → Type 0
SlicesFit (ask buffer version clock token uptime) = Unit {0}
SlicesFit (arrival answer t4 alternate packet) = length answer ≡ 24
SlicesFit (give_up uptime) = Unit {0}

abbrev pub Admitted : ImageCall → Type 0
Admitted i = IsImage i.image × SlicesFit i.call

-- what is made of the inner call's outcome
abbrev pub lent_after : ImageCall → calls.Outcome → ImageOutcome
lent_after i o = record {
  number = number_of o.result;
  image = next_image i.image o.result o.next;
  octets = o.octets;
  answer = answer_in (lent_answer i.call) o.result;
}

-- where the number is 0 the answer's first octet tells a kiss
abbrev pub kind_of : ℕ → Kind
kind_of octet = cond (eqb octet 2) kiss acceptance

abbrev pub shown : ImageOutcome → Shown
shown o =
    cond (eqb o.number 0) (record { kind = kind_of (get_or o.answer 0 0); number = 0; values = numbers o.answer })
    (refused_by (length o.answer) o.number)

abbrev pub client_for_c : Form
client_for_c = record {
  Input = ImageCall;
  Outcome = ImageOutcome;
  shown = shown;
  refusing = λ i n. record { number = n; image = i.image; octets = calls.lent (inner i.call); answer = lent_answer i.call };
  rules = λ i.
      ImageNotLegal unless Admitted i then
      map_rules (lent_after i) (call_rules (record_in i.image) (inner i.call));
}

abbrev pub ours_client : Implementation client_for_c
ours_client i = record {
  number = firmware.number i.image i.call;
  image = firmware.image_after i.image i.call;
  octets = firmware.buffer_after i.image i.call;
  answer = firmware.answer_after i.image i.call;
}

-- ---- the server

pub record RequestForC : Type 0 where
  pub synchronised : ℕ
  pub leap : ℕ
  pub precision : ℤ
  pub identifier : ℕ
  pub reference : ℕ
  pub t2 : ℕ
  pub t3 : ℕ
  pub buffer : List ℕ
  pub request : List ℕ

abbrev pub inner_request : RequestForC → Request
inner_request x = record {
  settings = settings x.synchronised x.leap x.precision x.identifier x.reference;
  request = x.request;
  t2 = timestamp x.t2;
  t3 = timestamp x.t3;
  buffer = x.buffer;
}

-- what is made of the server's outcome
abbrev pub returned : Written (Given (Unit {0})) → Written ℕ
returned o = record { answer = given_number o.answer; octets = o.octets }

abbrev pub replying : Wrapper reply
replying = record {
  Input = RequestForC;
  Outcome = Written ℕ;
  shown = λ o. shown_number o.answer;
  refusing = λ x n. record { answer = n; octets = x.buffer };
  read = λ x. Ok (inner_request x);
  show = λ x. returned;
}

abbrev pub reply_for_c : Form
reply_for_c = wrapped reply replying

abbrev pub ours_reply : Implementation reply_for_c
ours_reply x =
    let s = (inner_request x).settings in
    record { answer = reply_number s x.request x.t2 x.t3 x.buffer; octets = reply_buffer s x.request x.t2 x.t3 x.buffer }
