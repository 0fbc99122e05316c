-- A count and its four octets, and the second that it names.
use Rattle.std.specs.Prelude.{Ok}
use mathlib.Core.Path.{◌≡◌, refl, sym, ap, ◌∙◌}
use mathlib.Core.Bool.{Bool, true, false, cond}
use mathlib.Core.List.{List, ◌++◌}
use Prim.Native.Nat.{ℕ, ◌+◌, ◌^◌, ◌≤◌, ◌<◌}
use native.Mathlib.Nat.{add-zero, mod-eq_of_lt}
use native.Mathlib.Omega.{arith}
use borrow.Author.Tests.{eqb-true, ltb-false}
use lib.Dec.{eqb, leb, ltb}
use lib.ListN.{length, take, drop}
use lib.Seq.{take_at, drop_at}
use Rattle.arithmetic.specs.Octets.{big_endian, octets, AreOctets}
use Rattle.arithmetic.proofs.Octets.{length_octets, big_endian_octets, octets_big_endian}
use Rattle.timestamp.specs.Timestamp.{timestamp, from_seconds, seconds_of, fraction_of}
use Rattle.calendar.specs.Dates.{date, seconds_to}
use Rattle.calendar.specs.Calendar.{start1900, start2036, seconds_at}
use Rattle.calendar.specs.OneToOne.{HasDate}
use Rattle.calendar.specs.declared.Date.{Date}
use Rattle.calendar.proofs.Eras.{seconds_at_lem}
use Rattle.calendar.proofs.RoundTrip.{date_seconds}
use Rattle.calendar.proofs.OneToOne.{dated_has, one_to_one}
use Rattle.time_protocol.specs.TimeProtocol.{written, read_answer, second_named}
use Rattle.time_protocol.specs.Laws.{Laws}
use Rattle.time_protocol.proofs.Octets.{answer_written, octets_written, answer_read}

-- ---- the octets

count_back : (count : ℕ) (b : List ℕ) → count < 2 ^ 32 → 4 ≤ length b → read_answer (take 4 (written count b)) ≡ Ok count
count_back count b h room =
    ap (λ w. read_answer (take 4 w)) (octets_written b room count)
    ∙ ap read_answer (take_at (octets 4 count) (drop 4 b) 4 (length_octets 4 count))
    ∙ answer_read (octets 4 count) (length_octets 4 count)
    ∙ ap Ok (big_endian_octets 4 count ∙ mod-eq_of_lt h)

read_has : (p : List ℕ) (count : ℕ) → read_answer p ≡ Ok count → (length p ≡ 4) × (big_endian p ≡ count)
read_has p count q = go (eqb (length p) 4) refl
  where
    go : (b : Bool) → eqb (length p) 4 ≡ b → (length p ≡ 4) × (big_endian p ≡ count)
    go true e = let r = simp e at q in (eqb-true (length p) 4 e, cc)
    go false e = let r = simp e at q in cc

octets_back : (p b : List ℕ) (count : ℕ) → AreOctets p → read_answer p ≡ Ok count → 4 ≤ length b → written count b ≡ p ++ drop 4 b
octets_back p b count o q room =
    let h = read_has p count q in
    octets_written b room count ∙ ap (λ l. l ++ drop 4 b) (ap (octets 4) (sym h.1) ∙ octets_big_endian 4 p h.0 o)

rest_kept : (count : ℕ) (b : List ℕ) → drop 4 (written count b) ≡ drop 4 b
rest_kept count b = go (ltb (length b) 4) refl
  where
    go : (t : Bool) → ltb (length b) 4 ≡ t → drop 4 (written count b) ≡ drop 4 b
    go true e = rw e
    go false e = ap (drop 4) (octets_written b (ltb-false (length b) 4 e) count) ∙ drop_at (octets 4 count) (drop 4 b) 4 (length_octets 4 count)

-- ---- the second

-- it is the same for every fraction
named : (count fraction : ℕ) → fraction < 2 ^ 32 → seconds_at (from_seconds count fraction) ≡ second_named count
unfolding second_named seconds_at
named count fraction f =
    let e : seconds_of (from_seconds count fraction) ≡ seconds_of (from_seconds count 0) = omega arith in
    ap (λ n. cond (leb (2 ^ 31) n) start1900 start2036 + n) e

same_second : (count fraction : ℕ) → count < 2 ^ 32 → fraction < 2 ^ 32 → (from_seconds count fraction ≡ timestamp 0 → ⊥)
    → (d : Date) × HasDate (from_seconds count fraction) d × (seconds_to d ≡ second_named count)
same_second count fraction h f z =
    let t = from_seconds count fraction in
    let fits : t.0 < 2 ^ 64 = omega arith in
    let d = one_to_one.dated t fits z in (
      d.0,
      d.1,
      ap seconds_to (sym (dated_has t d.0 d.1).1)
          ∙ date_seconds (seconds_at t) (fraction_of t) (seconds_at_lem t fits).to
          ∙ named count fraction f,
    )

-- ---- the theorem

pub laws : Laws
laws = record {
  count_back = λ count b h room. (answer_written b room, count_back count b h room);
  octets_back = octets_back;
  rest_kept = rest_kept;
  same_second = same_second;
  zero = unfold second_named seconds_at start2036 in add-zero (seconds_to (date 2036 2 7 6 28 16 0));
}
