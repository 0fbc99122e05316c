-- The search for an alternate: the records after this one, then those before it.
use Prim.Native.Nat.{ℕ, zero, suc, ◌+◌, ◌-◌, ◌≤◌, ◌<◌}
use mathlib.Core.Path.{◌≡◌, refl, sym, ap, ◌∙◌}
use mathlib.Core.Bool.{Bool, true, false, not, cond}
use mathlib.Core.List.{List, [], ◌∷◌}
use native.Mathlib.Nat.{mod-eq_of_lt, mod-eq-sub-mod}
use native.Mathlib.Omega.{arith}
use lib.ListN.{length}
use lib.Dec.{ltb}
use borrow.Author.Tests.{ltb-true, ltb-false}
use Rattle.std.specs.Prelude.{Option, Some, None, get_or, take, drop, position}
use Rattle.std.specs.List.{position_from}
use Rattle.std.proofs.lemmas.Bool.{not-true, not-false}
use Rattle.std.proofs.Math.Seq.{take-length}
use Rattle.std.proofs.lemmas.List.{get_or-drop, get_or-take, length-drop, length-take-le}
use Rattle.std.proofs.lemmas.List.Quantifiers.{position-Some}
use Rattle.std.proofs.lemmas.Iterator.Adapters.{position_from-zero}
use Rattle.client.specs.declared.Client.{Client}
use Rattle.client.specs.Record.{fresh, is_stopped}
use Rattle.association_rules.specs.Associations.{association, round, first_running, alternate}

module _ (list : List Client) (at : ℕ) where
  -- the record k places on is not the one that is looked for
  abbrev Passed : (from to : ℕ) → Type 0
  Passed from to = (k : ℕ) → from ≤ k → k < to → is_stopped (association list k).phase ≡ true

  abbrev n : ℕ
  n = length list

  abbrev from_to : (from to : ℕ) → Type 0
  from_to from to = (i : ℕ) → from ≤ i → i < to → is_stopped (association list (round n at i)).phase ≡ true

  skipped : (k j left m all : ℕ) → from_to k m → m ≡ k + j → all ≡ j + left → first_running n list at k all ≡ first_running n list at m left
  unfolding first_running
  skipped k zero left m all stopped e f = cc (let h : m ≡ k = omega (arith, e) in h, let h : all ≡ left = omega (arith, f) in h)
  skipped k (suc j) left m all stopped e f =
      let one : all ≡ suc (j + left) = omega (arith, f) in
      rw (one, stopped k (omega arith) (omega (arith, e)))
      (skipped (suc k) j left m (j + left) (λ i low high. stopped i (omega arith) high) (omega (arith, e)) refl)

  here : (k left : ℕ) → is_stopped (association list (round n at k)).phase ≡ false → first_running n list at k (suc left) ≡ Some (round n at k)
  unfolding first_running
  here k left e = rw e

  nothing : (k : ℕ) → first_running n list at k 0 ≡ None
  unfolding first_running
  nothing k = refl

  module _ (listed : at < length list) where
    onward : (k : ℕ) → at + k < n → round n at k ≡ at + k
    onward k h = mod-eq_of_lt h

    wrapped : (k : ℕ) → n ≤ at + k → k < n → round n at k ≡ at + k - n
    wrapped k h few = mod-eq-sub-mod h ∙ mod-eq_of_lt (let g : at + k - n < n = omega arith in g)

    -- the records after this one as far as one number are stopped, or those and the records before it
    after_to : (to k : ℕ) → Passed (at + 1) to → to ≤ n → at + k ≤ to → from_to 1 k
    after_to to k p small few i low high = rw (onward i (omega arith)) (p (at + i) (omega arith) (omega arith))

    around : (to k : ℕ) → Passed (at + 1) n → Passed 0 to → at + k ≤ n + to → k ≤ n → from_to 1 k
    around to k p q few h i low high = go (ltb (at + i) n) refl
      where
        go : (b : Bool) → ltb (at + i) n ≡ b → is_stopped (association list (round n at i)).phase ≡ true
        go true e = let less = ltb-true (at + i) n e in rw (onward i less) (p (at + i) (omega arith) less)
        go false e = let past = ltb-false (at + i) n e in rw (wrapped i past (omega arith)) (q (at + i - n) (omega arith) (omega arith))

    found_after : (i : ℕ) → at + 1 ≤ i → i < n → is_stopped (association list i).phase ≡ false → Passed (at + 1) i → Some i ≡ alternate list at
    found_after i low high runs p =
        let k = i - at in
        let is : round n at k ≡ i = onward k (omega arith) ∙ (let h : at + k ≡ i = omega arith in h) in
        let same : first_running n list at 1 (n - 1) ≡ first_running n list at k (suc (n - k - 1)) = skipped 1 (k - 1) (suc (n - k - 1)) k (n - 1) (after_to i k p (omega arith) (omega arith)) (omega arith) (omega arith) in
        sym (same ∙ here k (n - k - 1) (rw is runs) ∙ ap Some is)

    found_before : (i : ℕ) → i < at → is_stopped (association list i).phase ≡ false → Passed (at + 1) n → Passed 0 i → Some i ≡ alternate list at
    found_before i high runs p q =
        let k = n - at + i in
        let is : round n at k ≡ i = wrapped k (omega arith) (omega arith) ∙ (let h : at + k - n ≡ i = omega arith in h) in
        let same : first_running n list at 1 (n - 1) ≡ first_running n list at k (suc (n - k - 1)) = skipped 1 (k - 1) (suc (n - k - 1)) k (n - 1) (around i k p q (omega arith) (omega arith)) (omega arith) (omega arith) in
        sym (same ∙ here k (n - k - 1) (rw is runs) ∙ ap Some is)

    found_none : Passed (at + 1) n → Passed 0 at → None ≡ alternate list at
    found_none p q = sym (skipped 1 (n - 1) 0 n (n - 1) (around at n p q (omega arith) (omega arith)) (omega arith) (omega arith) ∙ nothing n)

-- ---- where the library's `position` finds a record that runs

abbrev runs : Client → Bool
runs c = not (is_stopped c.phase)

none_runs : (list : List Client) (i : ℕ) → position_from runs i list ≡ None → (k : ℕ) → k < length list → runs (get_or list k fresh) ≡ false
none_runs [] i e k h = absurd (omega arith)
none_runs (c ∷ rest) i e k h = go (runs c) refl e k h (none_runs rest (i + 1))
  where
    go : (b : Bool) → runs c ≡ b → cond b (Some i) (position_from runs (i + 1) rest) ≡ None → (k : ℕ) → k < suc (length rest)
        → (position_from runs (i + 1) rest ≡ None → (k : ℕ) → k < length rest → runs (get_or rest k fresh) ≡ false)
        → runs (get_or (c ∷ rest) k fresh) ≡ false
    go true is e k h further = cc
    go false is e zero h further = is
    go false is e (suc k) h further = further e k (omega arith)

none : (list : List Client) → position runs list ≡ None → (k : ℕ) → k < length list → is_stopped (get_or list k fresh).phase ≡ true
none list e k h = not-false _ (none_runs list 0 (sym (position_from-zero runs list) ∙ e) k h)

-- the record that is found behind this one, else the one that is found before it
abbrev either : ℕ → Option ℕ → Option ℕ → Option ℕ
either at (Some i) other = Some (at + 1 + i)
either at None other = other

module _ (list : List Client) (at : ℕ) (listed : at < length list) where
  behind : (k : ℕ) → get_or (drop (at + 1) list) k fresh ≡ association list (at + 1 + k)
  behind k = get_or-drop (at + 1) list k fresh

  -- the records from the next one on, as the code has them
  abbrev rest : List Client
  rest = take (length list - (at + 1)) (drop (at + 1) list)

  all : rest ≡ drop (at + 1) list
  all = rw (← length-drop (at + 1) list) (take-length (drop (at + 1) list))

  after : {i : ℕ} → position runs rest ≡ Some i → Some (at + 1 + i) ≡ alternate list at
  after {i} f =
      let e : position runs (drop (at + 1) list) ≡ Some i = rw (← all) f in
      let (bound, here, others) = position-Some runs (drop (at + 1) list) i fresh e in
      found_after list at listed (at + 1 + i) (omega arith) (omega (arith, length-drop (at + 1) list)) (not-true _ (rw behind at here))
      (λ k low high. let same : at + 1 + (k - (at + 1)) ≡ k = omega arith in rw (← same, ← behind (k - (at + 1))) (not-false _ (others (k - (at + 1)) (omega arith))))

  module _ (f : position runs rest ≡ None) where
    none_after : (k : ℕ) → at + 1 ≤ k → k < length list → is_stopped (association list k).phase ≡ true
    none_after k low high =
        let same : at + 1 + (k - (at + 1)) ≡ k = omega arith in
        let e : position runs (drop (at + 1) list) ≡ None = rw (← all) f in
        rw (← same, ← behind (k - (at + 1))) (none (drop (at + 1) list) e (k - (at + 1)) (omega (arith, length-drop (at + 1) list)))

    before : position runs (take at list) ≡ alternate list at
    before = go (position runs (take at list)) refl
      where
        go : (r : Option ℕ) → position runs (take at list) ≡ r → r ≡ alternate list at
        go None f =
            found_none list at listed none_after
            (λ k low high. rw (← get_or-take at list k fresh high) (none (take at list) f k (omega (arith, length-take-le at list))))
        go (Some i) f =
            let (bound, here, others) = position-Some runs (take at list) i fresh f in
            let high : i < at = omega (arith, length-take-le at list) in
            found_before list at listed i high (rw (← get_or-take at list i fresh high) (not-true _ here)) none_after
            (λ k low less. rw (← get_or-take at list k fresh (omega arith)) (not-false _ (others k less)))

  pub alternate_is : alternate list at ≡ either at (position runs rest) (position runs (take at list))
  alternate_is = go (position runs rest) refl
    where
      go : (r : Option ℕ) → position runs rest ≡ r → alternate list at ≡ either at r (position runs (take at list))
      go (Some i) f = sym (after f)
      go None f = sym (before f)
