-- Timestamps and Unix times, there and back, against the calendar and in order.
use mathlib.Core.Path.{◌≡◌, refl, sym, ap, subst, ◌∙◌}
use mathlib.Core.Bool.{Bool, true, false}
use mathlib.Core.Logic.{inl, inr, ⊎_elim}
use Prim.Native.Nat.{ℕ, ◌^◌, ◌≤◌, ◌<◌}
use native.Mathlib.Omega.{arith}
use borrow.Author.Tests.{ne_eqb, leb-false, lt-leb}
use lib.Dec.{leb}
use lib.IntN.{ℤ, pos, ◌-ℤ◌, nat_abs, -ℤ-+ℤ_cancel}
use lib.Signed.{◌<ℤ◌}
use Rattle.timestamp.specs.declared.Timestamp.{Timestamp}
use Rattle.timestamp.specs.Timestamp.{timestamp, from_seconds, seconds_of, fraction_of, is_zero}
use Rattle.ordered_tests.specs.Tests.{◌if◌else◌, otherwise, given}
use Rattle.std.proofs.lemmas.Int.{ints}
use Rattle.std.specs.Prelude.{Result, Ok, Err}
use Rattle.refusals.specs.declared.Refusal.{Refusal}
use Rattle.refusals.specs.declared.Refusal.TheVariants.{TimestampZero, NoSuchDate}
use Rattle.calendar.specs.Calendar.{seconds_at, era_seconds, date_of}
use Rattle.calendar.specs.Dates.{date, seconds_to}
use Rattle.calendar.specs.OneToOne.{HasDate}
use Rattle.calendar.specs.declared.Date.{Date}
use Rattle.calendar.proofs.Eras.{era_seconds_lem, seconds_at_lem, seconds_back, fraction_back}
use Rattle.calendar.proofs.RoundTrip.{date_seconds}
use Rattle.calendar.proofs.OneToOne.{dated_has}
use Rattle.unix_time.specs.UnixTime.{start1970, unix_second, nanoseconds_of, unix_time_at, unix_time_of, from_year0, inside, fraction_above, timestamp_at, timestamp_of}
use Rattle.refusals.specs.Given.{answered, numbered}
use Rattle.refusals.proofs.Given.{answered_ok}
use Rattle.unix_time.specs.Laws.{BarelyBefore, NotLater, NotLaterUnix, Laws}
use Rattle.unix_time.specs.declared.UnixTime.{UnixTime}
use Rattle.unix_time.proofs.Seconds.{inside_has, inside_yes}
use Rattle.unix_time.proofs.Fractions.{fraction_fits, nanoseconds_back, nanoseconds_fit, fraction_not_later, fraction_near, fraction_none, nanoseconds_mono}

-- ---- what the answers are like

-- the answer to t is the Unix time u
abbrev HasUnixTime : Timestamp → UnixTime → Type 0
HasUnixTime t u = unix_time_of t ≡ Ok u

-- the answer to u is the timestamp t
abbrev HasTimestamp : UnixTime → Timestamp → Type 0
HasTimestamp u t = timestamp_of u ≡ Ok t

timed_in : (t : Timestamp) → is_zero t ≡ false → HasUnixTime t (unix_time_at t)
unfolding unix_time_of
timed_in t z = simp z

timed_has : (t : Timestamp) (u : UnixTime) → HasUnixTime t u → (is_zero t ≡ false) × (unix_time_at t ≡ u)
unfolding unix_time_of
timed_has t u q = go (is_zero t) refl
  where
    go : (z : Bool) → is_zero t ≡ z → (is_zero t ≡ false) × (unix_time_at t ≡ u)
    go true e = let r = simp e at q in cc
    go false e = let r = simp e at q in (e, cc)

record Timestamped (u : UnixTime) (t : Timestamp) : Type 0 where
  below : u.nanoseconds < 10 ^ 9
  is_inside : inside (from_year0 u.seconds) ≡ true
  not_zero : is_zero t ≡ false
  counted : timestamp_at u ≡ t

timestamped_has : (u : UnixTime) (t : Timestamp) → HasTimestamp u t → Timestamped u t
unfolding timestamp_of
timestamped_has u t q = go (leb (10 ^ 9) u.nanoseconds) (inside (from_year0 u.seconds)) (is_zero (timestamp_at u)) refl refl refl
  where
    go : (a b z : Bool) → leb (10 ^ 9) u.nanoseconds ≡ a → inside (from_year0 u.seconds) ≡ b → is_zero (timestamp_at u) ≡ z → Timestamped u t
    go true b z ea eb ez = let r : ◌≡◌ {A = Result Timestamp Refusal} (Err NoSuchDate) (Ok t) = simp ea at q in cc
    go false false z ea eb ez = let r = simp (ea, eb) at q in cc
    go false true true ea eb ez = let r = simp (ea, eb, ez) at q in cc
    go false true false ea eb ez =
        let i = simp (ea, eb, ez) at q in
        let is : timestamp_at u ≡ t = cc in
        record { below = leb-false (10 ^ 9) u.nanoseconds ea; is_inside = eb; not_zero = ap is_zero (sym is) ∙ ez; counted = is }

-- ---- from a Unix time and back

unix_second_back : (z : ℤ) (s : ℕ) → pos s ≡ from_year0 z → unix_second s ≡ z
unfolding unix_second
unix_second_back z s e = omega (arith, ints)

same : (u : UnixTime) (t : Timestamp) → HasTimestamp u t → HasUnixTime t u
same u t q =
    let h = timestamped_has u t q in
    let i = inside_has (from_year0 u.seconds) h.is_inside in
    let s = nat_abs (from_year0 u.seconds) in
    let f = fraction_above u.nanoseconds in
    let b = fraction_fits u.nanoseconds h.below in
    let seconds = ap unix_second (ap seconds_at (sym h.counted) ∙ seconds_back s f i.from i.to b) ∙ unix_second_back u.seconds s i.is in
    let nanoseconds = ap nanoseconds_of (ap fraction_of (sym h.counted) ∙ fraction_back s f i.from i.to b) ∙ nanoseconds_back u.nanoseconds h.below in
    timed_in t h.not_zero ∙ ap Ok (λ i. record { seconds = seconds i; nanoseconds = nanoseconds i })

-- ---- from a timestamp and back

from_year_0 : (s : ℕ) → from_year0 (unix_second s) ≡ pos s
unfolding unix_second
from_year_0 s = -ℤ-+ℤ_cancel (pos s) (pos start1970)

module _ (t : Timestamp) (h : t.0 < 2 ^ 64) where
  -- the timestamp that its Unix time counts to: the same seconds, and the fraction rounded down and up
  back : timestamp_at (unix_time_at t) ≡ from_seconds (seconds_of t) (fraction_above (nanoseconds_of (fraction_of t)))
  back =
      let c = seconds_at_lem t h in
      rw (from_year_0 (seconds_at t), era_seconds_lem (seconds_at t) c.from c.to, c.residue)

  back_is : timestamp_of (unix_time_at t) ≡ given (TimestampZero if is_zero (timestamp_at (unix_time_at t)) else otherwise (timestamp_at (unix_time_at t)))
  unfolding timestamp_of
  back_is =
      let c = seconds_at_lem t h in
      let w = inside_yes (pos (seconds_at t)) (record { is = refl; from = c.from; to = c.to }) in
      simp (lt-leb (10 ^ 9) (nanoseconds_of (fraction_of t)) (nanoseconds_fit (fraction_of t) (omega arith)), ap inside (from_year_0 (seconds_at t)) ∙ w)

  barely_before : BarelyBefore (timestamp_at (unix_time_at t)) t
  barely_before =
      let c = seconds_at_lem t h in
      let s = seconds_at t in
      let n = nanoseconds_of (fraction_of t) in
      let f = fraction_fits n (nanoseconds_fit (fraction_of t) (omega arith)) in
      let b : fraction_of (timestamp_at (unix_time_at t)) ≡ fraction_above n = ap fraction_of back ∙ omega arith in
      record {
        same_second = ap (λ z. seconds_at (from_seconds (era_seconds (nat_abs z)) (fraction_above n))) (from_year_0 s) ∙ seconds_back s (fraction_above n) c.from c.to f;
        not_later = rw b (fraction_not_later (fraction_of t));
        less_than_one = rw b (fraction_near (fraction_of t));
      }

  not_refused : 4 < t.0 → HasTimestamp (unix_time_at t) (timestamp_at (unix_time_at t))
  not_refused l = back_is ∙ rw (ap is_zero back ∙ ne_eqb (from_seconds (seconds_of t) (fraction_above (nanoseconds_of (fraction_of t)))).0 0 λ e. omega arith)

  refused : t.0 ≤ 4 → timestamp_of (unix_time_at t) ≡ Err TimestampZero
  refused l =
      let n = fraction_none (fraction_of t) (omega arith) in
      let z : seconds_of t ≡ 0 = omega arith in
      back_is ∙ rw (ap is_zero (back ∙ (λ i. from_seconds (z i) (n i))))

-- ---- the calendar and the order

same_second : (t : Timestamp) (d : Date) (u : UnixTime) → t.0 < 2 ^ 64 → HasDate t d → HasUnixTime t u
    → u.seconds ≡ pos (seconds_to d) -ℤ pos (seconds_to (date 1970 1 1 0 0 0 0))
unfolding unix_second start1970
same_second t d u h p q =
    let s = date_seconds (seconds_at t) (fraction_of t) (seconds_at_lem t h).to in
    ap (λ v. v.seconds) (sym (timed_has t u q).1) ∙ ap (λ n. pos n -ℤ pos start1970) (sym s ∙ ap seconds_to (dated_has t d p).1)

seconds_mono : (s t : ℕ) → s < t → unix_second s <ℤ unix_second t
unfolding unix_second
seconds_mono s t h = grind (arith, ints)

in_order : (s t : Timestamp) → NotLater s t → NotLaterUnix (unix_time_at s) (unix_time_at t)
in_order s t = ⊎_elim
    (λ l. inl (seconds_mono (seconds_at s) (seconds_at t) l))
    (λ l. inr (ap unix_second l.0, nanoseconds_mono (fraction_of s) (fraction_of t) l.1))

-- ---- the theorem

-- in code a call answers a Result
timed_as : (t : Timestamp) {u : UnixTime} → numbered (unix_time_of t) ≡ answered u → HasUnixTime t u
timed_as t e = answered_ok (unix_time_of t) e

pub laws : Laws (λ t. numbered (unix_time_of t)) (λ u. numbered (timestamp_of u)) (λ t. numbered (date_of t))
laws = record {
  timed = λ t z. (unix_time_at t, ap numbered (timed_in t (ne_eqb t.0 0 λ e. z (ap timestamp e))));
  zero_refused = unfold unix_time_of in refl;
  same = λ u t e. ap numbered (same u t (answered_ok (timestamp_of u) e));
  barely_before = λ t u h l q.
      subst (λ v. (b : Timestamp) × (numbered (timestamp_of v) ≡ answered b) × BarelyBefore b t) (timed_has t u (timed_as t q)).1
      (timestamp_at (unix_time_at t), ap numbered (not_refused t h l), barely_before t h);
  first_four = λ t u l q. ap numbered (ap timestamp_of (sym (timed_has t u (timed_as t q)).1) ∙ refused t (omega arith) l);
  same_second = λ t d u h p q. same_second t d u h (answered_ok (date_of t) p) (timed_as t q);
  in_order = λ s t u v l p q.
      subst (NotLaterUnix u) (timed_has t v (timed_as t q)).1 (subst (λ x. NotLaterUnix x (unix_time_at t)) (timed_has s u (timed_as s p)).1 (in_order s t l));
}
