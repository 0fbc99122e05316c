-- Every call for C agrees with the inner one wherever 46 is not given, and changes nothing where it is.
use Rattle.std.specs.Prelude.{◌≡◌, ◌≢◌, List, ℕ, length}
use Rattle.refusals.specs.Numbers.{number}
use Rattle.refusals.specs.declared.Refusal.TheVariants.{ImageNotLegal}
use Rattle.firmware_layouts.specs.Image.{record_in, image_of}
use Rattle.firmware.specs.Client.{inner}
use Rattle.demands.specs.ForC.{ImageCall, Admitted, lent_after, RequestForC, inner_request, returned}
use Rattle.demands.specs.Behaviour.{Behaviour, client, reply, fresh_for_c, client_for_c, reply_for_c, form}
use Rattle.demands.specs.Demand2.{Demand2}

pub record Agrees (b : Behaviour) : Type 0 where
  pub fresh : (image : List ℕ) → length image ≡ 32 → b.does fresh_for_c image ≡ record { number = 0; image = image_of b.fresh }
  pub client_call : (i : ImageCall) → Admitted i → b.does client_for_c i ≡ lent_after i (b.does client (record_in i.image, inner i.call))
  pub server_call : (x : RequestForC) → b.does reply_for_c x ≡ returned (b.does reply (inner_request x))
  pub server_never_46 : (x : RequestForC) → (b.does reply_for_c x).answer ≢ number ImageNotLegal
  pub fresh_refused : (image : List ℕ) → (length image ≡ 32 → ⊥) → b.does fresh_for_c image ≡ (form fresh_for_c).refusing image (number ImageNotLegal)
  pub call_refused : (i : ImageCall) → (Admitted i → ⊥) → b.does client_for_c i ≡ (form client_for_c).refusing i (number ImageNotLegal)

-- so it is of every behaviour that meets demand 2
abbrev pub AllAgree : Type 0
AllAgree = (b : Behaviour) → Demand2 b → Agrees b
