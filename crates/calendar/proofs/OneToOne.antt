-- Timestamps and dates match one to one.
use Rattle.std.specs.Prelude.{Ok}
use Rattle.std.proofs.lemmas.Bool.{false_from_ne_true}
use mathlib.Core.Path.{◌≡◌, refl, sym, ap, ◌∙◌}
use mathlib.Core.Bool.{Bool, true, false}
use Prim.Native.Nat.{◌^◌, ◌<◌}
use native.Mathlib.Omega.{arith}
use borrow.Author.Tests.{eqb-true, ne_eqb}
use Rattle.timestamp.specs.declared.Timestamp.{Timestamp}
use Rattle.timestamp.specs.Timestamp.{timestamp, seconds_of, fraction_of, is_zero}
use Rattle.calendar.specs.Gregorian.{leap_days, year_days, month_days, before, last}
use Rattle.calendar.specs.Dates.{exists, days_to, seconds_to, year_on, day_of_year, month_on, day_of_month, date_at}
use Rattle.calendar.specs.Calendar.{start1900, start2036, window_start, window_end, seconds_at, date_of, in_window, era_seconds, timestamp_at, timestamp_of}
use Rattle.calendar.specs.OneToOne.{HasDate, HasTimestamp, era_start, OneToOne}
use Rattle.calendar.specs.declared.Date.{Date}
use Rattle.calendar.proofs.Dates.{exists_has, exists_yes, window_has, window_yes, bounds}
use Rattle.calendar.proofs.RoundTrip.{date_exists, date_seconds, date_back}
use Rattle.calendar.proofs.Eras.{era_seconds_lem, seconds_at_lem, timestamp_fits, seconds_back, fraction_back}

-- ---- from a timestamp to its date

date_in : (t : Timestamp) → is_zero t ≡ false → HasDate t (date_at (seconds_at t) (fraction_of t))
unfolding date_of
date_in t z = simp z

-- what a timestamp that has a date is like
pub dated_has : (t : Timestamp) (d : Date) → HasDate t d → (is_zero t ≡ false) × (date_at (seconds_at t) (fraction_of t) ≡ d)
unfolding date_of
dated_has t d q = go (is_zero t) refl
  where
    go : (z : Bool) → is_zero t ≡ z → (is_zero t ≡ false) × (date_at (seconds_at t) (fraction_of t) ≡ d)
    go true e = let r = simp e at q in cc
    go false e = let r = simp e at q in (e, cc)

timestamp_in : (d : Date) → exists d ≡ true → in_window (seconds_to d) ≡ true → is_zero (timestamp_at d) ≡ false → HasTimestamp d (timestamp_at d)
unfolding timestamp_of
timestamp_in d e w z = simp (e, w, z)

-- and that date has the timestamp
date_timestamp : (t : Timestamp) → t.0 < 2 ^ 64 → is_zero t ≡ false → HasTimestamp (date_at (seconds_at t) (fraction_of t)) t
unfolding date_at
date_timestamp t h z =
    let s = seconds_at t in
    let f = fraction_of t in
    let c = seconds_at_lem t h in
    let is = date_seconds s f c.to in
    let e = exists_yes (date_at s f) (date_exists s f c.to) in
    let w = ap in_window is ∙ window_yes s c.from c.to in
    let seconds : era_seconds (seconds_to (date_at s f)) ≡ seconds_of t = ap era_seconds is ∙ era_seconds_lem s c.from c.to ∙ c.residue in
    let counted : t ≡ timestamp_at (date_at s f) = ap timestamp (omega arith) in
    timestamp_in (date_at s f) e w (ap is_zero (sym counted) ∙ z) ∙ ap Ok (sym counted)

-- ---- from a date to its timestamp

-- what a date that has a timestamp is like
record Timestamped (d : Date) (t : Timestamp) : Type 0 where
  is_date : exists d ≡ true
  is_inside : in_window (seconds_to d) ≡ true
  not_zero : is_zero t ≡ false
  counted : timestamp_at d ≡ t

timestamped_has : (d : Date) (t : Timestamp) → HasTimestamp d t → Timestamped d t
unfolding timestamp_of
timestamped_has d t q = go (exists d) (in_window (seconds_to d)) (is_zero (timestamp_at d)) refl refl refl
  where
    go : (a b z : Bool) → exists d ≡ a → in_window (seconds_to d) ≡ b → is_zero (timestamp_at d) ≡ z → Timestamped d t
    go false false z ea eb ez = let r = simp (ea, eb) at q in cc
    go false true z ea eb ez = let r = simp (ea, eb) at q in cc
    go true false z ea eb ez = let r = simp (ea, eb) at q in cc
    go true true true ea eb ez = let r = simp (ea, eb, ez) at q in cc
    go true true false ea eb ez =
        let i = simp (ea, eb, ez) at q in
        let same : timestamp_at d ≡ t = cc in
        record { is_date = ea; is_inside = eb; not_zero = ap is_zero (sym same) ∙ ez; counted = same }

-- and the timestamp has that date
timestamp_date : (d : Date) (t : Timestamp) → d.fraction < 2 ^ 32 → HasTimestamp d t → HasDate t d
timestamp_date d t f q =
    let s = timestamped_has d t q in
    let w = window_has (seconds_to d) s.is_inside in
    let back = date_back d (exists_has d s.is_date) w.1 in
    let seconds = ap seconds_at (sym s.counted) ∙ seconds_back (seconds_to d) d.fraction w.0 w.1 f in
    let fraction = ap fraction_of (sym s.counted) ∙ fraction_back (seconds_to d) d.fraction w.0 w.1 f in
    date_in t s.not_zero ∙ ap Ok (rw (seconds, fraction) back)

date_2036 : date_at start2036 0 ≡ era_start
unfolding start2036 seconds_to days_to date_at year_on day_of_year month_on day_of_month before last year_days month_days leap_days
date_2036 = refl

-- only the start of the second era would have the timestamp zero
zero_date : (d : Date) → exists d ≡ true → in_window (seconds_to d) ≡ true → is_zero (timestamp_at d) ≡ true → d ≡ era_start
zero_date d e w z =
    let b = window_has (seconds_to d) w in
    let u = eqb-true (timestamp_at d).0 0 z in
    let s : seconds_to d ≡ start2036 = omega (arith, bounds, era_seconds_lem (seconds_to d) b.0 b.1) in
    let f : d.fraction ≡ 0 = omega arith in
    sym (date_back d (exists_has d e) b.1) ∙ rw (s, f) date_2036

-- ---- the theorem

pub one_to_one : OneToOne
one_to_one = record {
  exactly_when = λ t d h f. (
    λ q. let c = dated_has t d q in rw c.1 at (date_timestamp t h c.0),
    timestamp_date d t f,
  );
  dated = λ t h z. (date_at (seconds_at t) (fraction_of t), date_in t (ne_eqb t.0 0 λ e. z (ap timestamp e)));
  zero_refused = unfold date_of in refl;
  timestamped = λ d f e w other. let b = window_has (seconds_to d) w in (
    timestamp_at d,
    timestamp_fits (seconds_to d) d.fraction b.0 b.1 f,
    timestamp_in d e w (false_from_ne_true (is_zero (timestamp_at d)) λ z. other (zero_date d e w z)),
  );
  era_start_refused = unfold timestamp_of exists in_window window_start window_end start1900 start2036 era_seconds seconds_to days_to before year_days month_days leap_days in refl;
}
