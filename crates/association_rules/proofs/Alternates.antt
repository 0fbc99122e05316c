-- The search for the alternate finds the first other record that is not stopped.
use Prim.Native.Nat.{ℕ, zero, suc, ◌+◌, ◌-◌, ◌%◌, ◌≤◌, ◌<◌}
use mathlib.Core.Path.{◌≡◌, refl, sym, ap, subst, ◌∙◌}
use mathlib.Core.Logic.{◌≢◌}
use mathlib.Core.Bool.{Bool, true, false, cond}
use mathlib.Core.List.{List, [], ◌∷◌}
use native.Mathlib.Nat.{mod-eq_of_lt, mod-eq-sub-mod, mod-lt}
use native.Mathlib.Omega.{arith}
use borrow.Author.Tests.{ltb-true, ltb-false}
use lib.Dec.{ltb}
use lib.ListN.{length}
use Rattle.client.specs.declared.Client.{Client}
use Rattle.client.specs.declared.Phase.{Phase}
use Rattle.client.specs.declared.Phase.TheVariants.{Idle, Waiting, Stopped}
use Rattle.client.specs.Record.{is_stopped}
use Rattle.std.specs.Prelude.{Option, Some, None}
use Rattle.association_rules.specs.Associations.{association, round, first_running, alternate}
use Rattle.association_rules.specs.Alternates.{IsStopped, StoppedBefore, First, Alternates}

-- ---- the test of a phase

stopped_is : (p : Phase) → is_stopped p ≡ true → p ≡ Stopped
stopped_is Idle e = let z : ◌≡◌ {A = ℕ} 0 1 = cc in absurd (omega arith)
stopped_is Waiting e = let z : ◌≡◌ {A = ℕ} 0 1 = cc in absurd (omega arith)
stopped_is Stopped e = refl

runs_is : (p : Phase) → is_stopped p ≡ false → p ≢ Stopped
runs_is p e s = let z : true ≡ false = sym (ap is_stopped s) ∙ e in let y : ◌≡◌ {A = ℕ} 0 1 = cc in omega arith

-- ---- the search

-- what it finds
abbrev Finds : List Client → ℕ → Option ℕ → Type 0
Finds list at None = StoppedBefore list at (length list)
Finds list at (Some i) = First list at i

module _ (list : List Client) (at : ℕ) where
  further : (k : ℕ) → StoppedBefore list at k → IsStopped list (round (length list) at k) → StoppedBefore list at (suc k)
  further k before here j one below = go (ltb j k) refl
    where
      go : (b : Bool) → ltb j k ≡ b → IsStopped list (round (length list) at j)
      go true e = before j one (ltb-true j k e)
      go false e = let same : k ≡ j = let h = ltb-false j k e in omega arith in subst (λ n. IsStopped list (round (length list) at n)) same here

  searched : (k count : ℕ) → 1 ≤ k → k + count ≡ length list → StoppedBefore list at k → Finds list at (first_running (length list) list at k count)
  unfolding first_running
  searched k zero one all before = subst (StoppedBefore list at) (let h : k ≡ length list = omega (arith, all) in h) before
  searched k (suc count) one all before =
      go (is_stopped (association list (round (length list) at k)).phase) refl
      (λ here. searched (suc k) count (omega arith) (omega (arith, all)) (further k before here))
    where
      go : (b : Bool) → is_stopped (association list (round (length list) at k)).phase ≡ b
          → (IsStopped list (round (length list) at k) → Finds list at (first_running (length list) list at (suc k) count))
          → Finds list at (cond b (first_running (length list) list at (suc k) count) (Some (round (length list) at k)))
      go true e rest = rest (stopped_is _ e)
      go false e rest = record { k = k; other = (one, omega (arith, all)); is = refl; runs = runs_is _ e; before = before }

finds : (list : List Client) (at : ℕ) → Finds list at (alternate list at)
unfolding first_running
finds [] at = λ j one below. absurd (omega arith)
finds (c ∷ rest) at = searched (c ∷ rest) at 1 (length (c ∷ rest) - 1) (omega arith) (omega arith) (λ j one below. absurd (omega arith))

-- ---- round the list

-- k places on, not all the way round, is another number of the list
round_other : (at k n : ℕ) → at < n → 1 ≤ k → k < n → ((at + k) % n < n) × ((at + k) % n ≢ at)
round_other at k n h one few = (mod-lt (at + k) (omega arith), go (ltb (at + k) n) refl)
  where
    go : (b : Bool) → ltb (at + k) n ≡ b → (at + k) % n ≢ at
    go true e s = let m = mod-eq_of_lt (ltb-true (at + k) n e) in omega (arith, m, s)
    go false e s =
        let past = ltb-false (at + k) n e in
        let m = mod-eq-sub-mod past ∙ mod-eq_of_lt (let h : at + k - n < n = omega arith in h) in
        omega (arith, m, s)

pub alternates : Alternates
alternates = record {
  found = λ list at i e. subst (Finds list at) e (finds list at);
  none = λ list at e. subst (Finds list at) e (finds list at);
  in_list = λ list at i e h.
      let f : First list at i = subst (Finds list at) e (finds list at) in
      subst (λ n. (n < length list) × (n ≢ at)) (sym f.is) (round_other at f.k (length list) h f.other.0 f.other.1);
}
