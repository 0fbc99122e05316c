-- The calls for C meet their forms: fresh by its test, the others around the client's and the server's.
use Rattle.ordered_tests.specs.Tests.{given, Tests, otherwise, answer_of, kept_of}
use Prim.Native.Nat.{ℕ}
use mathlib.Core.Path.{◌≡◌, refl, ap, subst, ◌∙◌}
use mathlib.Core.Logic.{◌≢◌}
use mathlib.Core.Bool.{Bool, true, false, cond}
use mathlib.Core.List.{List}
use native.Mathlib.Omega.{arith}
use borrow.Author.Tests.{ne_eqb}
use lib.Dec.{T, eqb}
use lib.ListN.{length, get_or, replicate}
use Rattle.refusals.specs.declared.Refusal.{Refusal}
use Rattle.refusals.specs.declared.Refusal.TheVariants.{ImageNotLegal}
use Rattle.refusals.specs.Numbers.{listed, number}
use Rattle.std.specs.Prelude.{Result, Ok, Err}
use Rattle.ordered_tests.specs.Tests as tests
use Rattle.client.specs.declared.Client.{Client}
use Rattle.client.specs.Calls as calls
use Rattle.firmware_layouts.specs.Image.{is_image, record_in}
use Rattle.firmware_layouts.specs.Answer.{answer_in}
use Rattle.firmware_layouts.proofs.Laws as layouts
use Rattle.refusals.specs.Given.{numbered, given_number, result_number}
use Rattle.firmware.specs.Numbers.{number_of}
use Rattle.firmware.specs.Client as firmware
use Rattle.firmware.specs.Client.{LentCall, ask, arrival, give_up}
use Rattle.demands.specs.Form.{refusal, kiss, acceptance, Rules, ◌unless◌then◌, ◌provided◌else◌, does, refuses}
use Rattle.demands.specs.Client as clients
use Rattle.demands.specs.Client.{call_rules, client}
use Rattle.server.specs.Server.{replied, replied_buffer}
use Rattle.demands.specs.Reply as replies
use Rattle.demands.specs.Reply.{Request, reply}
use Rattle.demands.specs.ForC.{returned, FreshOutcome, shown_number, fresh_for_c, ours_fresh, ImageCall, IsImage, SlicesFit, Admitted, lent_after, shown, client_for_c, ours_client, RequestForC, inner_request, replying, reply_for_c, ours_reply}
use Rattle.ordered_tests.proofs.Reflection.{WhereTrue, negated, conjoined, is_true, equal}
use Rattle.demands.proofs.Facts.{some}
use Rattle.demands.proofs.Form.{Meets, Each, Accepted, ShownAs, ◌and◌, end, by, acceptance_shown, kiss_shown, table_meets, wrapped_meets, Leads, ◌before◌, inner, around, around_meets, same_program}
use Rattle.demands.proofs.Legal.{legal_tested}
use Rattle.demands.proofs.Client.{client_meets, each_told}
use Rattle.demands.proofs.Reply.{reply_meets}

not_0 : (n : ℕ) → T (listed n) → eqb n 0 ≡ false
not_0 n l = ne_eqb n 0 (some n l)

number_shown : (n : ℕ) → T (listed n) → ShownAs n (shown_number n)
number_shown n l = rw (not_0 n l) (by 0 n)

-- ---- fresh

abbrev make : List ℕ → Result ℕ Refusal → FreshOutcome
make image g = record { number = answer_of number g; image = kept_of g image (replicate 32 0) }

fresh_is : (image : List ℕ) (b : Bool) → eqb (length image) 32 ≡ b → ours_fresh image ≡ make image (tests.given (firmware.fresh_tests image))
fresh_is image true e = rw e (λ i. record { number = 0; image = (layouts.laws).fresh_zero i })
fresh_is image false e = rw e refl

pub fresh_meets : Meets fresh_for_c ours_fresh
fresh_meets = table_meets firmware.fresh_tests make (λ image. number_shown) (λ image. acceptance_shown)
    (λ image. fresh_is image (eqb (length image) 32) refl) (λ image r. refl) (λ image. negated (equal (length image) 32) and end refl)

-- ---- the client on an image: the test before the client's own

image_tested : (image : List ℕ) → WhereTrue (IsImage image) (is_image image)
unfolding record_in
image_tested image =
    let test = layouts.tested image in
    record {
      to = λ i. let e = i.legal.exponent.1 in test.to (record {
        length_32 = i.length_32;
        phase = i.phase;
        asked = i.asked;
        exponent = omega arith;
        zero = i.zero;
        legal = (legal_tested (record_in image)).0 i.legal;
      });
      from = λ t. let h = test.from t in record {
        length_32 = h.length_32;
        phase = h.phase;
        asked = h.asked;
        zero = h.zero;
        legal = (legal_tested (record_in image)).1 h.legal;
      };
    }

fit_tested : (x : LentCall) → WhereTrue (SlicesFit x) (firmware.slices_fit x)
fit_tested (ask buffer version clock token uptime) = record { to = λ t. tt; from = λ t. tt }
fit_tested (arrival answer t4 alternate packet) = equal (length answer) 24
fit_tested (give_up uptime) = record { to = λ t. tt; from = λ t. tt }

pub admitted_tested : (i : ImageCall) → WhereTrue (Admitted i) (firmware.admitted i.image i.call)
admitted_tested i = conjoined (image_tested i.image) (fit_tested i.call)

-- ---- the call around the client's

abbrev at_record : ImageCall → Client × calls.Call
at_record i = (record_in i.image, firmware.inner i.call)

abbrev table : ImageCall → Tests (Client × calls.Call)
table i = firmware.image_tests i.image i.call (otherwise (at_record i))

leads : (i : ImageCall) → Leads client (at_record i) (lent_after i) (table i) (client_for_c.rules i)
leads i = negated (admitted_tested i) before inner

module _ (i : ImageCall) where
  -- an inner refusal is a refusal by the same number
  pub refused_in : (c : Client) (n : ℕ) → lent_after i (client.refusing (c, firmware.inner i.call) n) ≡ client_for_c.refusing i n
  unfolding answer_in
  refused_in c n = refl

  is_ours : ours_client i ≡ around client client_for_c clients.ours lent_after i (tests.given (table i))
  unfolding firmware.number firmware.image_after firmware.buffer_after firmware.answer_after
  is_ours = go (firmware.admitted i.image i.call) refl
    where
      go : (b : Bool) → firmware.admitted i.image i.call ≡ b → ours_client i ≡ around client client_for_c clients.ours lent_after i (tests.given (table i))
      go true e = rw e refl
      go false e = rw e refl

  pub agrees : Admitted i → ours_client i ≡ lent_after i (clients.ours (at_record i))
  agrees a = is_ours ∙ rw ((is_true (firmware.admitted i.image i.call)).from ((admitted_tested i).to a)) refl

  pub not_admitted : firmware.admitted i.image i.call ≡ false → ours_client i ≡ client_for_c.refusing i (number ImageNotLegal)
  not_admitted e = is_ours ∙ rw e refl

-- where the number is 0 the kind is no refusal
pub not_refusal : (b : Bool) → cond b kiss acceptance ≢ refusal
not_refusal true = kiss_shown.0
not_refusal false = acceptance_shown.0

each_of : {O : Type 0} {P Q : O → Type 0} → ((o : O) → P o → Q o) → (r : Rules O) → Each P r → Each Q r
each_of f (n unless P then rest) e = each_of f rest e
each_of f (o provided P else rest) (first, others) = (f o first, each_of f rest others)
each_of f (does o) e = f o e
each_of f (refuses n) e = e

returns_0 : (c : Client) (x : calls.Call) → Each (λ o. number_of o.result ≡ 0) (call_rules c x)
returns_0 = each_told (λ o. number_of o.result ≡ 0) (λ next octets. refl) (λ code row next octets. refl) (λ offset half delay next octets. refl)

module _ (i : ImageCall) where
  -- so an outcome of the client that is no refusal is shown as none
  accepted_lent : (o : calls.Outcome) → number_of o.result ≡ 0 → Accepted client_for_c (lent_after i o)
  accepted_lent o e = rw e (not_refusal (eqb (get_or (answer_in (firmware.lent_answer i.call) o.result) 0 0) 2), refl)

  shows_accepted : (c : Client) (x : calls.Call) → Each (λ o. Accepted client_for_c (lent_after i o)) (call_rules c x)
  shows_accepted c x = each_of accepted_lent (call_rules c x) (returns_0 c x)

  refusal_shown : (n : ℕ) → T (listed n) → ShownAs n (shown (client_for_c.refusing i n))
  refusal_shown n l = rw (not_0 n l) (by (length (firmware.lent_answer i.call)) n)

pub client_for_c_meets : Meets client_for_c ours_client
client_for_c_meets = around_meets client_meets at_record lent_after leads is_ours (λ i. refused_in i (record_in i.image)) refusal_shown
    (λ i. shows_accepted i (at_record i).0 (at_record i).1)

-- ---- the server

number_same : (o : Result (Unit {0}) Refusal) → result_number o ≡ given_number (numbered o)
number_same (Err r) = refl
number_same (Ok u) = refl

-- what is returned is made of what the server does
pub reply_same : (x : RequestForC) → ours_reply x ≡ returned (replies.ours (inner_request x))
reply_same x =
    let q = inner_request x in
    ap (λ n. record { answer = n; octets = replied_buffer q.settings q.request q.t2 q.t3 q.buffer }) (number_same (replied q.settings q.request q.t2 q.t3 q.buffer))

pub reply_for_c_meets : Meets reply_for_c ours_reply
reply_for_c_meets = same_program reply_same (wrapped_meets reply_meets replying (record {
  refusing = λ x y n e. let s : inner_request x ≡ y = cc in subst (λ (q : Request). replying.show x (reply.refusing q n) ≡ replying.refusing x n) s refl;
  refusals = λ x. number_shown;
  others = λ x y e. acceptance_shown;
}))
