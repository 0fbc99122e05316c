-- A gateway with several servers does not fall silent.
use Prim.Native.Nat.{ℕ, ◌<◌}
use mathlib.Core.Path.{◌≡◌, refl, sym, ap, subst}
use mathlib.Core.Logic.{◌≢◌, ◌⊎◌, inl, inr}
use mathlib.Core.Bool.{Bool, true, false}
use mathlib.Core.List.{List, [], ◌∷◌}
use native.Mathlib.Omega.{arith}
use borrow.Author.Tests.{eqb-true, eqb-false}
use lib.Dec.{eqb}
use lib.ListN.{length, set, length-set}
use lib.Seq.{get_or-set_same, get_or-set_other}
use Rattle.client.specs.declared.Client.{Client}
use Rattle.client.specs.declared.Phase.TheVariants.{Stopped}
use Rattle.arithmetic.specs.Octets.{octets}
use Rattle.extension.specs.Reading.{ends_fields, reading, is_malformed}
use Rattle.packet.specs.Packet.{fields_of}
use Rattle.kiss.specs.Kiss.{row_of}
use Rattle.poll.specs.Poll.{too_soon}
use Rattle.reply_checks.specs.Checks.{waiting_tests, check_tests}
use Rattle.client.specs.Record.{fresh, illegal}
use Rattle.client.specs.Ask.{ask_tests, after_ask}
use Rattle.client.specs.Arrival.{arrival_answer, arrived}
use Rattle.client.specs.Calls as calls
use Rattle.std.specs.Prelude.{Option, Some, None}
use Rattle.association_rules.specs.Associations.{any_illegal, first_running, alternate, asked_for, list_after_ask, arrived_for, list_after_arrival}
use Rattle.association_rules.specs.InUse.{outside, exists}
use Rattle.association_rules.proofs.Alternates.{alternates}
use Rattle.demands.specs.Client.{call_rules}
use Rattle.demands.specs.Behaviour.{ours}
use Rattle.demands.specs.Associations.{ListCall, ask, arrival, give_up, InList, AllLegal, use_after, client_call, placed, at_record}
use Rattle.demands.specs.Demand3List.{Associations, Numbered, given, does, left}
use Rattle.demands.specs.SeveralServers.{Runs, OneRuns, UseRuns, Worked}
use Rattle.demands.specs.SingleServer.{NoAlternate}
use Rattle.demands.proofs.Form.{Passes, either, unmapped}
use Rattle.demands.proofs.Associations.{associations_meets}
use Rattle.demands.proofs.SingleServer as single
use Rattle.demands.proofs.SingleServer.{passing_runs, idle_runs, waiting_runs}

-- ---- one call

-- what a refusal leaves and what any outcome of the client's call leaves, a call leaves
pub stepped : (s : Associations) (x : Numbered) (P : Associations → Type 0) → P s
    → ((o : calls.Outcome) → InList s.list x.at s.in_use → AllLegal s.list
    → Passes (call_rules (at_record (given ours s x)).0 (at_record (given ours s x)).1) o → P (left ours (placed (given ours s x) o)))
    → P (left ours (does ours s x))
stepped s x P same moved =
    let i = given ours s x in
    either associations_meets i (λ o. P (left ours o))
    (λ n listed g. same)
    (λ o (in_list, (legal, q)).
    let (a, p, e) = unmapped (placed i) (call_rules (at_record i).0 (at_record i).1) o q in
    subst (λ o. P (left ours o)) e (moved a in_list legal p))

-- a record that is not stopped, in the list with another record stored
module _ (list : List Client) (at : ℕ) (next : Client) where
  other_runs : (i : ℕ) → i ≢ at → Runs list i → Runs (set list at next) i
  other_runs i other (inside, runs) = (
    subst (λ n. i < n) (sym (length-set list at next)) inside,
    subst (λ c. c.phase ≢ Stopped) (sym (get_or-set_other list at i next fresh other)) runs,
  )

  stored_runs : at < length list → next.phase ≢ Stopped → Runs (set list at next) at
  stored_runs inside runs = (
    subst (λ n. at < n) (sym (length-set list at next)) inside,
    subst (λ c. c.phase ≢ Stopped) (sym (get_or-set_same list at next fresh inside)) runs,
  )

-- where there is no alternate, the client's call leaves a record that is not stopped
alone_runs : (c : Client) (a : Option ℕ) (x : ListCall) (o : calls.Outcome) → a ≡ None → Passes (call_rules c (client_call (exists a) x)) o → single.Runs o
alone_runs c a x o e p = passing_runs c (client_call (exists a) x) o (alone x) p
  where
    alone : (x : ListCall) → NoAlternate (client_call (exists a) x)
    alone (ask x) = tt
    alone (arrival x) = ap exists e
    alone (give_up x) = tt

-- an alternate is another record, and is not stopped
alternate_runs : (list : List Client) (at i : ℕ) → alternate list at ≡ Some i → at < length list → (i ≢ at) × Runs list i
alternate_runs list at i e inside =
    let (below, other) = alternates.in_list list at i e inside in
    (other, (below, (alternates.found list at i e).runs))

-- ---- one record is not stopped

one_kept : (s : Associations) (x : Numbered) (i : ℕ) → Runs s.list i → (j : ℕ) × Runs (left ours (does ours s x)).list j
one_kept s x i runs = stepped s x (λ t. (j : ℕ) × Runs t.list j) (i, runs) (λ o in_list legal p. go o in_list p (alternate s.list x.at) refl)
  where
    go : (o : calls.Outcome) → InList s.list x.at s.in_use → Passes (call_rules (at_record (given ours s x)).0 (at_record (given ours s x)).1) o
        → (a : Option ℕ) → alternate s.list x.at ≡ a → (j : ℕ) × Runs (set s.list x.at o.next) j
    go o in_list p None e = (x.at, stored_runs s.list x.at o.next in_list.2 (alone_runs _ (alternate s.list x.at) x.call o e p))
    go o in_list p (Some j) e =
        let (other, runs) = alternate_runs s.list x.at j e in_list.2 in
        (j, other_runs s.list x.at o.next j other runs)

pub one_runs : OneRuns ours
one_runs s [] i runs = (i, runs)
one_runs s (x ∷ xs) i runs = let (j, still) = one_kept s x i runs in one_runs (left ours (does ours s x)) xs j still

-- ---- the record in use is not stopped

-- a call that leaves its record stopped tells a kiss
abbrev IsKiss : calls.Told → Type 0
IsKiss r = (code : ℕ) × (row : ℕ) × (r ≡ calls.kiss code row)

kiss_or_runs : (c : Client) (x : calls.Call) (o : calls.Outcome) → Passes (call_rules c x) o → IsKiss o.result ⊎ single.Runs o
kiss_or_runs c (calls.ask x) o (_, (_, (_, (_, (_, (_, (_, (_, e)))))))) = inr (subst single.Runs e waiting_runs)
kiss_or_runs c (calls.arrival x) o (_, (_, (_, (_, (_, (_, inl (_, e))))))) = inl (subst (λ o. IsKiss o.result) e (_, _, refl))
kiss_or_runs c (calls.arrival x) o (_, (_, (_, (_, (_, (_, inr (_, (_, (_, (_, (_, (_, (_, (_, (_, (_, (_, (_, (_, (_, (_, (_, e)))))))))))))))))))))) = inr (subst single.Runs e idle_runs)
kiss_or_runs c (calls.give_up x) o (_, (_, (_, e))) = inr (subst single.Runs e idle_runs)

-- use stays where there is no alternate, or where another record was kissed
use_stays : (r : calls.Told) (at in_use : ℕ) → use_after r None at in_use ≡ in_use
use_stays (calls.refused n) at in_use = refl
use_stays calls.done at in_use = refl
use_stays (calls.accepted offset half delay) at in_use = refl
use_stays (calls.kiss code row) at in_use = refl

use_stays_other : (r : calls.Told) (j at in_use : ℕ) → eqb at in_use ≡ false → use_after r (Some j) at in_use ≡ in_use
use_stays_other (calls.refused n) j at in_use e = refl
use_stays_other calls.done j at in_use e = refl
use_stays_other (calls.accepted offset half delay) j at in_use e = refl
use_stays_other (calls.kiss code row) j at in_use e = rw e refl

-- where the record in use was called and an alternate exists, use is at one of the two, and at the alternate after a kiss
use_moves : (r : calls.Told) (P : ℕ → Type 0) (j at in_use : ℕ) → eqb at in_use ≡ true → P j → (IsKiss r ⊎ P in_use) → P (use_after r (Some j) at in_use)
use_moves (calls.refused n) P j at in_use e alternate (inl (code, row, k)) = let z : ◌≡◌ {A = ℕ} 0 1 = cc in absurd (omega arith)
use_moves (calls.refused n) P j at in_use e alternate (inr p) = p
use_moves calls.done P j at in_use e alternate (inl (code, row, k)) = let z : ◌≡◌ {A = ℕ} 0 1 = cc in absurd (omega arith)
use_moves calls.done P j at in_use e alternate (inr p) = p
use_moves (calls.accepted offset half delay) P j at in_use e alternate (inl (code, row, k)) = let z : ◌≡◌ {A = ℕ} 0 1 = cc in absurd (omega arith)
use_moves (calls.accepted offset half delay) P j at in_use e alternate (inr p) = p
use_moves (calls.kiss code row) P j at in_use e alternate either = rw e alternate

use_kept : (s : Associations) (x : Numbered) → Runs s.list s.in_use → Runs (left ours (does ours s x)).list (left ours (does ours s x)).in_use
use_kept s x runs = stepped s x (λ t. Runs t.list t.in_use) runs (λ o in_list legal p. go o in_list p (alternate s.list x.at) refl (eqb x.at s.in_use) refl)
  where
    go : (o : calls.Outcome) → InList s.list x.at s.in_use → Passes (call_rules (at_record (given ours s x)).0 (at_record (given ours s x)).1) o
        → (a : Option ℕ) → alternate s.list x.at ≡ a → (b : Bool) → eqb x.at s.in_use ≡ b
        → Runs (set s.list x.at o.next) (use_after o.result (alternate s.list x.at) x.at s.in_use)
    go o in_list p None e true same =
        rw (e, use_stays) (subst (Runs (set s.list x.at o.next)) (eqb-true x.at s.in_use same)
        (stored_runs s.list x.at o.next in_list.2 (alone_runs _ (alternate s.list x.at) x.call o e p)))
    go o in_list p None e false differs =
        rw (e, use_stays) (other_runs s.list x.at o.next s.in_use (λ q. eqb-false x.at s.in_use differs (sym q)) runs)
    go o in_list p (Some j) e false differs =
        rw (e, use_stays_other o.result j x.at s.in_use differs)
        (other_runs s.list x.at o.next s.in_use (λ q. eqb-false x.at s.in_use differs (sym q)) runs)
    go o in_list p (Some j) e true same =
        let (other, alternate-is) = alternate_runs s.list x.at j e in_list.2 in
        rw e (use_moves o.result (Runs (set s.list x.at o.next)) j x.at s.in_use same
        (other_runs s.list x.at o.next j other alternate-is)
        (kissed (kiss_or_runs (at_record (given ours s x)).0 (at_record (given ours s x)).1 o p)))
      where
        kissed : IsKiss o.result ⊎ single.Runs o → IsKiss o.result ⊎ Runs (set s.list x.at o.next) s.in_use
        kissed (inl k) = inl k
        kissed (inr r) = inr (subst (Runs (set s.list x.at o.next)) (eqb-true x.at s.in_use same) (stored_runs s.list x.at o.next in_list.2 r))

pub use_runs : UseRuns ours
use_runs s [] runs = runs
use_runs s (x ∷ xs) runs = use_runs (left ours (does ours s x)) xs (use_kept s x runs)

-- ---- the worked case

pub worked : Worked
unfolding outside any_illegal first_running asked_for list_after_ask arrived_for list_after_arrival arrived arrival_answer waiting_tests check_tests is_malformed reading ends_fields fields_of octets row_of illegal ask_tests after_ask too_soon
worked = record { moved = refl; backed_off = refl }
