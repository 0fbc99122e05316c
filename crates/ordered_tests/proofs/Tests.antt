-- Laws of tests in order, for any table.
use mathlib.Core.Path.{◌≡◌, refl, sym, ap, subst, ◌∙◌}
use Prim.Native.Nat.{ℕ, zero, suc}
use mathlib.Core.Bool.{Bool, true, false, not}
use lib.Dec.{T}
use Rattle.std.specs.Prelude.{Result, Ok, Err}
use Rattle.refusals.specs.declared.Refusal.{Refusal}
use Rattle.refusals.specs.declared.Refusal.TheVariants.{BufferTooShort}
use Rattle.ordered_tests.specs.Tests.{Tests, ◌if◌else◌, ◌when◌else◌, otherwise, given, tested, tested_of, answer, answer_of, kept, kept_of, carry}

err-not-ok : {A : Type 0} {a : A} {r : Refusal} → Err r ≡ Ok a → ⊥
err-not-ok e = subst is-err e tt
  where
    is-err : {A : Type 0} → Result A Refusal → Type 0
    is-err (Err r) = Unit {0}
    is-err (Ok a) = ⊥

ok-not-err : {A : Type 0} {a : A} {r : Refusal} → Ok a ≡ Err r → ⊥
ok-not-err e = err-not-ok (sym e)

-- the refusal stays what it is, whatever is made of an answer
abbrev err : (A : Type 0) → Refusal → Result A Refusal
err A r = Err r

abbrev ok : {A : Type 0} → A → Result A Refusal
ok a = Ok a

same-err : {A B : Type 0} {x r : Refusal} → err A x ≡ err A r → err B x ≡ err B r
same-err {A} {B} e = ap retold e
  where
    retold : Result A Refusal → Result B Refusal
    retold (Err r) = Err r
    retold (Ok a) = err B BufferTooShort

same-ok : {A B : Type 0} (f : A → B) {x a : A} → ok x ≡ ok a → ok (f x) ≡ ok (f a)
same-ok {A} {B} f e = ap made e
  where
    made : Result A Refusal → Result B Refusal
    made (Err r) = Err r
    made (Ok a) = ok (f a)

module _ {A : Type 0} where
  -- no test holds
  abbrev pub Passes : Tests A → Type 0
  Passes (r if b else rest) = T (not b) × Passes rest
  Passes (a when b else rest) = T (not b) × Passes rest
  Passes (otherwise a) = Unit {0}

  -- the answer where none does
  abbrev pub final : Tests A → A
  final (r if b else rest) = final rest
  final (a when b else rest) = final rest
  final (otherwise a) = a

  pub passes : (t : Tests A) → Passes t → given t ≡ Ok (final t)
  passes (r if true else rest) p = absurd p.0
  passes (r if false else rest) p = passes rest p.1
  passes (a when true else rest) p = absurd p.0
  passes (a when false else rest) p = passes rest p.1
  passes (otherwise a) p = refl

  -- a table of refusals alone
  abbrev pub plain : Tests A → Bool
  plain (r if b else rest) = plain rest
  plain (a when b else rest) = false
  plain (otherwise a) = true

  pub passed : (t : Tests A) → T (plain t) → tested t ≡ Ok tt → Passes t
  passed (r if true else rest) l e = absurd (err-not-ok e)
  passed (r if false else rest) l e = (tt, passed rest l e)
  passed (a when b else rest) l e = absurd l
  passed (otherwise a) l e = tt

  pub refused_by : (t : Tests A) {r : Refusal} → tested t ≡ Err r → given t ≡ Err r
  refused_by (x if true else rest) e = same-err e
  refused_by (x if false else rest) e = refused_by rest e
  refused_by (a when true else rest) e = absurd (ok-not-err e)
  refused_by (a when false else rest) e = refused_by rest e
  refused_by (otherwise a) e = absurd (ok-not-err e)

  -- the answer of such a table, from what code found: the refusal, or if no test holds the answer of its last row
  pub by_refusal : (say : Refusal → A) (t : Tests A) {r : Refusal} → tested t ≡ Err r → say r ≡ answer say t
  by_refusal say t e = sym (ap (answer_of say) (refused_by t e))

  pub by_passing : (say : Refusal → A) (t : Tests A) → T (plain t) → tested t ≡ Ok tt → final t ≡ answer say t
  by_passing say t l e = sym (ap (answer_of say) (passes t (passed t l e)))

  -- and what is left of a state or a buffer
  pub kept_refused : {B : Type 0} (t : Tests A) {r : Refusal} (old new : B) → tested t ≡ Err r → kept t old new ≡ old
  kept_refused t old new e = ap (λ g. kept_of g old new) (refused_by t e)

  pub kept_passing : {B : Type 0} (t : Tests A) (old new : B) → T (plain t) → tested t ≡ Ok tt → kept t old new ≡ new
  kept_passing t old new l e = ap (λ g. kept_of g old new) (passes t (passed t l e))

  -- ---- a table in code: `if test { return Err(REFUSAL); }` a row, in the table's order, and the answer at the end

  -- what the row k gives, and its test; the last row has none to fail
  abbrev pub row : ℕ → Tests A → Result A Refusal
  row zero (r if b else rest) = Err r
  row zero (a when b else rest) = Ok a
  row zero (otherwise a) = Ok a
  row (suc k) (r if b else rest) = row k rest
  row (suc k) (a when b else rest) = row k rest
  row (suc k) (otherwise a) = Ok a

  abbrev pub test : ℕ → Tests A → Bool
  test zero (r if b else rest) = b
  test zero (a when b else rest) = b
  test zero (otherwise a) = true
  test (suc k) (r if b else rest) = test k rest
  test (suc k) (a when b else rest) = test k rest
  test (suc k) (otherwise a) = true

  -- the table without its first k rows
  abbrev pub from : ℕ → Tests A → Tests A
  from zero t = t
  from (suc k) (r if b else rest) = from k rest
  from (suc k) (a when b else rest) = from k rest
  from (suc k) (otherwise a) = otherwise a

  -- the code is at the row k: no test before it holds
  pub record At (k : ℕ) (t : Tests A) : Type 0 where
    pub is : given t ≡ given (from k t)

  pub starts : {t : Tests A} → At 0 t
  starts = record { is = refl }

  -- the test of the row k does not hold: the code goes on to the next row
  pub goes_on : {k : ℕ} {t : Tests A} → At k t → test k t ≡ false → At (suc k) t
  goes_on {k} {t} at e = record { is = at.is ∙ go k t e }
    where
      go : (k : ℕ) (t : Tests A) → test k t ≡ false → given (from k t) ≡ given (from (suc k) t)
      go zero (r if b else rest) e = rw e
      go zero (a when b else rest) e = rw e
      go zero (otherwise a) e = refl
      go (suc k) (r if b else rest) e = go k rest e
      go (suc k) (a when b else rest) e = go k rest e
      go (suc k) (otherwise a) e = refl

  -- it holds, or the row is the last: this row is what the table gives
  settled : {k : ℕ} {t : Tests A} → At k t → test k t ≡ true → row k t ≡ given t
  settled {k} {t} at e = sym (at.is ∙ go k t e)
    where
      go : (k : ℕ) (t : Tests A) → test k t ≡ true → given (from k t) ≡ row k t
      go zero (r if b else rest) e = rw e
      go zero (a when b else rest) e = rw e
      go zero (otherwise a) e = refl
      go (suc k) (r if b else rest) e = go k rest e
      go (suc k) (a when b else rest) e = go k rest e
      go (suc k) (otherwise a) e = refl

  -- the code returns this row's refusal, or its answer
  pub returned : {k : ℕ} {t : Tests A} → At k t → test k t ≡ true → tested_of (row k t) ≡ tested t
  returned at e = ap tested_of (settled at e)

  pub returned_answer : (say : Refusal → A) {k : ℕ} {t : Tests A} → At k t → test k t ≡ true → answer_of say (row k t) ≡ answer say t
  returned_answer say at e = ap (answer_of say) (settled at e)

-- what a table gives has the property P where what each row gives has it, wherever that row is the first whose test holds
module _ {A : Type 0} (P : Result A Refusal → Type 0) where
  abbrev pub Rows : Tests A → Type 0
  Rows (r if b else rest) = (T b → P (Err r)) × (T (not b) → Rows rest)
  Rows (a when b else rest) = (T b → P (Ok a)) × (T (not b) → Rows rest)
  Rows (otherwise a) = P (Ok a)

  pub by_rows : (t : Tests A) → Rows t → P (given t)
  by_rows (x if true else rest) r = r.0 tt
  by_rows (x if false else rest) r = by_rows rest (r.1 tt)
  by_rows (a when true else rest) r = r.0 tt
  by_rows (a when false else rest) r = by_rows rest (r.1 tt)
  by_rows (otherwise a) r = r

-- ---- tables put together

module _ {A B : Type 0} where
  -- what is made of the answer is made of what a refusal is said by, too
  pub carried : (f : A → B) (say : Refusal → A) (t : Tests A) → answer (λ r. f (say r)) (carry f t) ≡ f (answer say t)
  carried f say (r if true else rest) = refl
  carried f say (r if false else rest) = carried f say rest
  carried f say (a when true else rest) = refl
  carried f say (a when false else rest) = carried f say rest
  carried f say (otherwise a) = refl

  -- and what is left of a state or a buffer does not depend on it
  pub kept_carried : {C : Type 0} (f : A → B) (t : Tests A) (old new : C) → kept (carry f t) old new ≡ kept t old new
  kept_carried f (r if true else rest) old new = refl
  kept_carried f (r if false else rest) old new = kept_carried f rest old new
  kept_carried f (a when true else rest) old new = refl
  kept_carried f (a when false else rest) old new = kept_carried f rest old new
  kept_carried f (otherwise a) old new = refl

  -- what is made of the answer, in the Result itself
  pub carried_refusal : (f : A → B) (t : Tests A) {r : Refusal} → given t ≡ Err r → given (carry f t) ≡ Err r
  carried_refusal f (x if true else rest) e = same-err e
  carried_refusal f (x if false else rest) e = carried_refusal f rest e
  carried_refusal f (a when true else rest) e = absurd (ok-not-err e)
  carried_refusal f (a when false else rest) e = carried_refusal f rest e
  carried_refusal f (otherwise a) e = absurd (ok-not-err e)

  pub carried_answer : (f : A → B) (t : Tests A) {a : A} → given t ≡ Ok a → given (carry f t) ≡ Ok (f a)
  carried_answer f (x if true else rest) e = absurd (err-not-ok e)
  carried_answer f (x if false else rest) e = carried_answer f rest e
  carried_answer f (a when true else rest) e = same-ok f e
  carried_answer f (a when false else rest) e = carried_answer f rest e
  carried_answer f (otherwise a) e = same-ok f e

  -- the tests of the first table, then the second one
  abbrev pub before : Tests A → Tests B → Tests B
  before (r if b else rest) then = r if b else before rest then
  before (a when b else rest) then = before rest then
  before (otherwise a) then = then

  pub before_refused : (t : Tests A) (then : Tests B) {r : Refusal} → T (plain t) → given t ≡ Err r → given (before t then) ≡ Err r
  before_refused (x if true else rest) then l e = same-err e
  before_refused (x if false else rest) then l e = before_refused rest then l e
  before_refused (a when b else rest) then l e = absurd l
  before_refused (otherwise a) then l e = absurd (ok-not-err e)

  pub before_passed : (t : Tests A) (then : Tests B) {a : A} → T (plain t) → given t ≡ Ok a → given (before t then) ≡ given then
  before_passed (x if true else rest) then l e = absurd (err-not-ok e)
  before_passed (x if false else rest) then l e = before_passed rest then l e
  before_passed (a when b else rest) then l e = absurd l
  before_passed (otherwise a) then l e = refl
