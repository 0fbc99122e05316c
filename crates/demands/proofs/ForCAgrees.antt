-- Every call for C agrees with the inner one: ours does, and demand 2 leaves no other.
use mathlib.Core.Path.{◌≡◌, refl, sym, ap, ◌∙◌}
use mathlib.Core.Logic.{◌≢◌}
use mathlib.Core.Bool.{Bool, true, false, not}
use Prim.Native.Nat.{ℕ}
use native.Mathlib.Omega.{arith}
use borrow.Author.Tests.{eq-eqb, ne_eqb}
use lib.Dec.{eqb}
use lib.ListN.{length}
use mir.Facts.{eqb_no}
use Rattle.refusals.specs.Numbers.{number}
use Rattle.refusals.specs.declared.Refusal.TheVariants.{ImageNotLegal}
use Rattle.firmware_layouts.specs.Image.{record_in, image_of}
use Rattle.firmware.specs.Client as firmware
use Rattle.demands.specs.Behaviour.{client, reply, fresh_for_c, client_for_c, reply_for_c, form, ours}
use Rattle.demands.specs.Common.{Written}
use Rattle.demands.specs.ForC.{ImageCall, Admitted, lent_after, RequestForC, inner_request, returned}
use Rattle.demands.specs.ForCAgrees.{AllAgree}
use Rattle.ordered_tests.proofs.Reflection.{is_true}
use Rattle.demands.proofs.Form.{either, number_in, outcome_in}
use Rattle.demands.proofs.ForC.{agrees, not_admitted, admitted_tested, reply_same, reply_for_c_meets}
use Rattle.demands.proofs.Unique.{unique}

refused_46 : (i : ImageCall) → (Admitted i → ⊥) → ours.does client_for_c i ≡ (form client_for_c).refusing i (number ImageNotLegal)
refused_46 i out = go (firmware.admitted i.image i.call) refl
  where
    go : (b : Bool) → firmware.admitted i.image i.call ≡ b → ours.does client_for_c i ≡ (form client_for_c).refusing i (number ImageNotLegal)
    go true e = absurd (out ((admitted_tested i).from ((is_true (firmware.admitted i.image i.call)).to e)))
    go false e = not_admitted i e

-- no test of the server's has 46
never_46 : (x : RequestForC) → (ours.does reply_for_c x).answer ≢ number ImageNotLegal
never_46 x =
    either reply_for_c_meets x (λ o. o.answer ≢ number ImageNotLegal)
    (λ n l p e. eqb_no (number_in (λ n. not (eqb n (number ImageNotLegal))) ((form reply_for_c).rules x) n tt p) e)
    (λ o p e. let z = outcome_in (λ o. o.answer ≡ 0) ((form reply_for_c).rules x) o refl p in omega arith)

pub all_agree : AllAgree
all_agree b demand =
    let only = unique b demand in
    record {
      fresh = λ image n. only.same fresh_for_c image ∙ rw (eq-eqb (length image) 32 n) (λ j. record { number = 0; image = image_of (sym only.same_fresh j) });
      client_call = λ i a. only.same client_for_c i ∙ agrees i a ∙ sym (ap (lent_after i) (only.same client (record_in i.image, firmware.inner i.call)));
      server_call = λ x. only.same reply_for_c x ∙ reply_same x ∙ sym (ap returned (only.same reply (inner_request x)));
      server_never_46 = λ x e. never_46 x (sym (ap (λ (o : Written ℕ). o.answer) (only.same reply_for_c x)) ∙ e);
      fresh_refused = λ image n. only.same fresh_for_c image ∙ rw (ne_eqb (length image) 32 n) refl;
      call_refused = λ i out. only.same client_for_c i ∙ refused_46 i out;
    }
