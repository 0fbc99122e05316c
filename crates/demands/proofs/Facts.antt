-- The facts of timestamps, tokens, packets, phases and uptimes that rules name, each with the test of the tables that decides it.
use mathlib.Core.Path.{◌≡◌, refl, sym, ap, subst}
use mathlib.Core.Logic.{◌≢◌}
use mathlib.Core.Bool.{Bool}
use mathlib.Core.List.{List}
use Prim.Native.Nat.{ℕ, ◌+◌, ◌≤◌, ◌<◌}
use native.Mathlib.Omega.{arith}
use lib.Dec.{T, ltb, eqb}
use lib.IntN.{ℤ}
use lib.ListN.{length, drop}
use mir.Facts.{eqb_yes, yes_eqb}
use Rattle.refusals.specs.Numbers.{listed}
use Rattle.ordered_tests.proofs.Reflection.{WhereTrue, WhereFalse, refuted, is_true, is_false, at_least}
use Rattle.timestamp.specs.declared.Timestamp.{Timestamp}
use Rattle.timestamp.specs.Timestamp.{timestamp, is_zero, has_no_order}
use Rattle.token.specs.declared.Token.{Token}
use Rattle.token.specs.Token.{token, is_zero_token}
use Rattle.extension.specs.Reading.{begins_field, stated_length, reading, is_malformed}
use Rattle.extension.proofs.Heads.{is_length, length_is, no_room}
use Rattle.extension.proofs.Reading as tails
use Rattle.extension.proofs.Reading.{reading_field, reading_none, ends_short, by_fields, taken}
use Rattle.poll.specs.Poll.{too_soon}
use Rattle.client.specs.declared.Phase.{Phase}
use Rattle.client.specs.declared.Phase.TheVariants.{Idle, Waiting, Stopped}
use Rattle.client.specs.Record.{is_idle, is_waiting, is_stopped}
use Rattle.demands.specs.Common.{not_available, InOrder, no_token, EndsFields, BeginsField, FieldsThen, last, field, IsPacket}

-- ---- timestamps and tokens

pub same_timestamp : (t u : Timestamp) → WhereTrue (t ≡ u) (eqb t.0 u.0)
same_timestamp t u = record { to = λ e. yes_eqb (ap (λ (x : Timestamp). x.0) e); from = λ h. ap timestamp (eqb_yes h) }

pub available : (t : Timestamp) → WhereFalse (t ≢ not_available) (is_zero t)
available t = refuted (same_timestamp t not_available)

pub in_order : (z : ℤ) → WhereFalse (InOrder z) (has_no_order z)
unfolding has_no_order
in_order z = refuted (record { to = yes_eqb; from = eqb_yes })

pub same_token : (t u : Token) → WhereTrue (t ≡ u) (eqb t.0 u.0)
same_token t u = record { to = λ e. yes_eqb (ap (λ (x : Token). x.0) e); from = λ h. ap token (eqb_yes h) }

pub some_token : (t : Token) → WhereFalse (t ≢ no_token) (is_zero_token t)
some_token t = refuted (same_token t no_token)

-- ---- packets

pub begins_field_lem : (t : List ℕ) → WhereTrue (BeginsField t) (begins_field t)
begins_field_lem t = record {
  to = λ b. (is_true (begins_field t)).to (length_is (length t) (stated_length t) (record { room = omega (arith, b.at_least_28); at_least_16 = b.length_at_least_16; in_fours = b.length_in_fours; within = b.not_past_the_end }));
  from = λ h.
      let l = is_length (length t) (stated_length t) ((is_true (begins_field t)).from h) in
      record { at_least_28 = l.room; length_at_least_16 = l.at_least_16; length_in_fours = l.in_fours; not_past_the_end = l.within };
}

-- fields and then a number of octets that is too small for a field: that number is what reading leaves
module _ (Last : ℕ → Type 0) (short : (n : ℕ) → Last n → n < 28) where
  left : {t : List ℕ} → FieldsThen Last t → Last (length (reading t).rest)
  left (last {t} h) = rw (reading_none t (no_room (length t) (stated_length t) (short (length t) h))) h
  left (field {t} b rest) = rw (reading_field t ((is_true (begins_field t)).from ((begins_field_lem t).to b))) (left rest)

  fields_then : (t : List ℕ) → (FieldsThen Last t → Last (length (reading t).rest)) × (Last (length (reading t).rest) → FieldsThen Last t)
  fields_then t = (left, by_fields Last (FieldsThen Last) (λ t h. last h) (λ t b rest. field ((begins_field_lem t).from ((is_true (begins_field t)).to b)) rest) t)

-- nothing is left
pub only_fields : (t : List ℕ) → WhereFalse (FieldsThen (λ left. left ≡ 0) t) (ltb 0 (length (reading t).rest))
only_fields t =
    let then = fields_then (λ left. left ≡ 0) (λ n e. omega arith) t in
    let none = at_least 0 (length (reading t).rest) in
    record { to = λ k. none.to (let e = then.0 k in omega arith); from = λ h. then.1 (let l = none.from h in omega arith) }

pub packet : (p : List ℕ) → WhereFalse (IsPacket p) (is_malformed p)
packet p =
    let then = fields_then EndsFields ends_short (drop 48 p) in
    record {
      to = λ k. (taken p).to (record { at_least_48 = k.at_least_48; at_most_1024 = k.at_most_1024; ends = then.0 k.tail });
      from = λ h. let k = (taken p).from h in record { at_least_48 = k.at_least_48; at_most_1024 = k.at_most_1024; tail = then.1 k.ends };
    }

-- 48 octets are one
pub of_48 : (p : List ℕ) → length p ≡ 48 → IsPacket p
of_48 p e = (packet p).from ((is_false (is_malformed p)).to (tails.of_48 p e))

-- ---- phases

-- a test that holds of one phase alone decides whether a phase is that one
module _ (is : Phase → Bool) (q : Phase) (itself : T (is q)) (idle : T (is Idle) → Idle ≡ q) (waiting : T (is Waiting) → Waiting ≡ q) (stopped : T (is Stopped) → Stopped ≡ q) where
  alone : (p : Phase) → T (is p) → p ≡ q
  alone Idle = idle
  alone Waiting = waiting
  alone Stopped = stopped

  phase : (p : Phase) → WhereTrue (p ≡ q) (is p)
  phase p = record { to = λ e. subst (λ x. T (is x)) (sym e) itself; from = alone p }

pub idle : (p : Phase) → WhereTrue (p ≡ Idle) (is_idle p)
idle = phase is_idle Idle tt (λ t. refl) (λ t. absurd t) (λ t. absurd t)

pub waiting : (p : Phase) → WhereTrue (p ≡ Waiting) (is_waiting p)
waiting = phase is_waiting Waiting tt (λ t. absurd t) (λ t. refl) (λ t. absurd t)

pub stopped : (p : Phase) → WhereTrue (p ≡ Stopped) (is_stopped p)
stopped = phase is_stopped Stopped tt (λ t. absurd t) (λ t. absurd t) (λ t. refl)

-- ---- uptimes

pub late : (since seconds uptime : ℕ) → WhereFalse (since + seconds ≤ uptime) (too_soon since seconds uptime)
unfolding too_soon
late since seconds uptime = at_least uptime (since + seconds)

-- ---- numbers

-- 0 is not listed
pub some : (n : ℕ) → T (listed n) → n ≢ 0
some n l e = rw e at l
