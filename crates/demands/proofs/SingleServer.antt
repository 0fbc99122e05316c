-- While no alternate exists, a client that is not stopped never stops.
use mathlib.Core.Path.{sym, subst}
use mathlib.Core.Logic.{◌≢◌, inl, inr}
use mathlib.Core.Bool.{cond, not}
use mathlib.Core.List.{[], ◌∷◌}
use Prim.Native.Nat.{suc, min}
use lib.Dec.{T}
use Rattle.client.specs.declared.Client.{Client}
use Rattle.client.specs.declared.Phase.TheVariants.{Idle, Waiting, Stopped}
use Rattle.client.specs.Record.{is_stopped, without_request}
use Rattle.client.specs.Calls.{Call, ask, arrival, give_up, Outcome}
use Rattle.demands.specs.Client.{call_rules}
use Rattle.demands.specs.Behaviour.{client, ours}
use Rattle.demands.specs.SingleServer.{NoAlternate, NeverStops}
use Rattle.demands.proofs.Form.{Passes, either}
use Rattle.demands.proofs.Client.{client_meets}

abbrev pub Runs : Outcome → Type 0
Runs o = o.next.phase ≢ Stopped

pub idle_runs : Idle ≢ Stopped
idle_runs e = subst (λ p. T (not (is_stopped p))) e tt

pub waiting_runs : Waiting ≢ Stopped
waiting_runs e = subst (λ p. T (not (is_stopped p))) e tt

pub passing_runs : (c : Client) (x : Call) (o : Outcome) → NoAlternate x → Passes (call_rules c x) o → Runs o
passing_runs c (ask x) o alone (_, (_, (_, (_, (_, (_, (_, (_, e)))))))) = subst Runs e waiting_runs
passing_runs c (arrival x) o alone (_, (_, (_, (_, (_, (_, inl (_, e))))))) =
    subst Runs e (subst (λ alternate. (cond alternate (without_request c Stopped c.exponent) (without_request c Idle (min (suc c.exponent) 14))).phase ≢ Stopped) (sym alone) idle_runs)
passing_runs c (arrival x) o alone (_, (_, (_, (_, (_, (_, inr (_, (_, (_, (_, (_, (_, (_, (_, (_, (_, (_, (_, (_, (_, (_, (_, e)))))))))))))))))))))) = subst Runs e idle_runs
passing_runs c (give_up x) o alone (_, (_, (_, e))) = subst Runs e idle_runs

pub never_stops : NeverStops ours
never_stops c [] runs alone = runs
never_stops c (x ∷ xs) runs (first, others) =
    never_stops (ours.does client (c, x)).next xs
    (either client_meets (c, x) Runs (λ n listed p. runs) (λ o p. passing_runs c x o first p))
    others
