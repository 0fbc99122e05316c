-- A line of a replay meets its form.
use Rattle.std.specs.Prelude.{Option, Some, None, Result, Ok, Err}
use Prim.Native.Nat.{ℕ}
use mathlib.Core.Path.{◌≡◌, refl, sym, ap, subst, ◌∙◌}
use mathlib.Core.Logic.{◌≢◌, ◌↔◌}
use mathlib.Core.Bool.{Bool, true, false, not}
use mathlib.Core.List.{List, [], ◌∷◌}
use native.Mathlib.Omega.{arith}
use borrow.Author.Tests.{eqb-true}
use lib.Dec.{T, eqb}
use mir.Facts.{eqb_no}
use Rattle.refusals.specs.declared.Refusal.{Refusal}
use Rattle.refusals.specs.declared.Refusal.TheVariants.{LineMalformed}
use Rattle.refusals.specs.Numbers.{listed, number}
use Rattle.client.specs.declared.Client.{Client}
use Rattle.client.specs.Calls as calls
use Rattle.client.specs.Calls.{Call, ask, arrival, give_up}
use Rattle.hex_decode.specs.Decoding.{decode}
use Rattle.frames.specs.Frames as frames
use Rattle.frames.specs.Frames.{parsed}
use Rattle.demands.specs.Wrapper.{over}
use Rattle.demands.specs.Client as clients
use Rattle.demands.specs.Client.{call_rules, client}
use Rattle.demands.specs.Line.{carried, carrying, shown, line, ours}
use Rattle.ordered_tests.proofs.Reflection.{contradiction}
use Rattle.demands.proofs.Form.{Meets, Each, Accepted, ShownAs, each_number, number_in, outcome_in, either, acceptance_shown, kiss_shown, wrapped_meets, same_program}
use Rattle.demands.proofs.Client.{client_meets, each_told}

-- a line is read with its own client
own : (c d : Client) (x : Option Call) (y : Call) → carried c x ≡ Ok (d, y) → d ≡ c
own c d (Some x) y e = ap first_of (sym e)
  where
    first_of : Result (Client × Call) Refusal → Client
    first_of (Err r) = c
    first_of (Ok p) = p.0
own c d None y e = let z : ◌≡◌ {A = ℕ} 0 1 = cc in absurd (omega arith)

-- no listed number is E0 or 0
pub number_shown : (n : ℕ) → T (listed n) → ShownAs n (shown (n ∷ []))
number_shown n l =
    let no-kiss = unlisted 0xE0 tt (eqb n 0xE0) refl in
    let some = unlisted 0 tt (eqb n 0) refl in
    rw (no-kiss, some) (record { kind = refl; number = refl; values = refl })
  where
    unlisted : (m : ℕ) → T (not (listed m)) → (b : Bool) → eqb n m ≡ b → eqb n m ≡ false
    unlisted m u true e = absurd (contradiction (listed m) (subst (λ x. T (listed x)) (eqb-true n m e) l) u)
    unlisted m u false e = e

shows_accepted : (c : Client) (l : List ℕ) (x : Call) → Each (λ o. Accepted line (carrying.show (c, l) o)) (call_rules c x)
shows_accepted c l = each_told (λ o. Accepted line (carrying.show (c, l) o)) (λ next octets. acceptance_shown) (λ code row next octets. kiss_shown) (λ offset half delay next octets. acceptance_shown) c

is_ours : (c : Client) (l : List ℕ) (x : Option Call) → frames.reply_to calls.step c x ≡ over client carrying clients.ours (c, l) (carried c x)
is_ours c l (Some x) = refl
is_ours c l None = refl

pub line_meets : Meets line ours
line_meets = same_program (λ (c, l). is_ours c l (parsed (decode l))) (wrapped_meets client_meets carrying (record {
  refusing = λ (c, l) (d, y) n e. λ i. record { client = own c d (parsed (decode l)) y e i; octets = n ∷ [] };
  refusals = λ i. number_shown;
  others = λ (c, l) (d, x) e. shows_accepted d l x;
}))

-- ---- 64

call_not : (c : Client) (l : List ℕ) (x : Call) → (shown (frames.reply_to calls.step c (Some x)).octets).number ≢ number LineMalformed
call_not c l x =
    either client_meets (c, x) (λ o. (shown (frames.answer_octets o.result o.octets)).number ≢ number LineMalformed)
    (λ n listed p e. eqb_no (number_in (λ n. not (eqb n (number LineMalformed))) (call_rules c x) n (not_64 x) p) (sym (number_shown n listed).number ∙ e))
    (λ o p e. let z = (outcome_in (λ o. Accepted line (carrying.show (c, l) o)) (call_rules c x) o (shows_accepted c l x) p).1 in omega arith)
  where
    not_64 : (x : Call) → T (each_number (λ n. not (eqb n (number LineMalformed))) (call_rules c x))
    not_64 (ask x) = tt
    not_64 (arrival x) = tt
    not_64 (give_up x) = tt

-- it is given exactly to a line that carries no call
pub only_malformed : (c : Client) (l : List ℕ) (x : Option Call) → ((shown (frames.reply_to calls.step c x).octets).number ≡ number LineMalformed) ↔ (x ≡ None)
only_malformed c l (Some x) = (λ e. absurd (call_not c l x e), λ e. let z : ◌≡◌ {A = ℕ} 0 1 = cc in absurd (omega arith))
only_malformed c l None = (λ e. refl, λ e. refl)
