-- The tail as a function is the tail as a relation. Assumes nothing.
use Prim.Native.Nat.{ℕ, zero, suc, ◌+◌, ◌-◌, ◌≤◌, ◌<◌}
use native.Mathlib.Omega.{arith}
use mathlib.Core.Path.{◌≡◌, refl, sym, ap, ◌∙◌}
use mathlib.Core.Bool.{Bool, true, false, cond, ◌||◌, false≢true}
use mathlib.Core.List.{List, [], ◌∷◌, ◌++◌, append_assoc}
use mathlib.Core.Logic.{◌⊎◌, inl, inr, ⊎_elim}
use borrow.Author.Tests.{eqb-true}
use lib.Dec.{eqb}
use lib.ListN.{length, drop, length-drop}
use lib.Seq.{get_or-drop}
use Rattle.arithmetic.specs.Octets.{AreOctets}
use Rattle.ordered_tests.proofs.Reflection.{WhereTrue, WhereFalse, negated, both, is_true, is_false, at_least}
use Rattle.extension.specs.Tail.{header_length, maximum_length, Field, octets_of, Legal, Authenticator, of_4, of_20, of_24, Tail, end, authenticator, field, WellFormed, joined}
use Rattle.extension.specs.Reading.{ends_fields, begins_field, stated_length, first_field, Reading, no_field, field_then, reading_up_to, reading, extension_fields, after_fields, is_malformed}
use Rattle.extension.specs.TailLaws.{TailLaws}
use Rattle.extension.proofs.Heads.{Length, is_length, no_room}
use Rattle.extension.proofs.Front.{length_front, rest_front, field_front, begins_front, legal_here, front_here}

-- the count of fields that it stops at does not matter
enough : (n m : ℕ) (t : List ℕ) → length t ≤ n → length t ≤ m → reading_up_to n t ≡ reading_up_to m t
enough zero zero t h k = refl
enough zero (suc m) t h k = rw (no_room (length t) (stated_length t) (omega arith))
enough (suc n) zero t h k = rw (no_room (length t) (stated_length t) (omega arith))
enough (suc n) (suc m) t h k = go (begins_field t) refl (λ p q. enough n m (drop (stated_length t) t) p q)
  where
    rest : List ℕ
    rest = drop (stated_length t) t

    go : (b : Bool) → begins_field t ≡ b → (length rest ≤ n → length rest ≤ m → reading_up_to n rest ≡ reading_up_to m rest)
        → cond b (field_then (first_field t) (reading_up_to n (drop (stated_length t) t))) (no_field t) ≡ cond b (field_then (first_field t) (reading_up_to m (drop (stated_length t) t))) (no_field t)
    go true e again =
        let l = is_length (length t) (stated_length t) e in
        ap (field_then (first_field t)) (again (rw length-drop (omega arith)) (rw length-drop (omega arith)))
    go false e again = refl

module _ (t : List ℕ) where
  pub reading_field : begins_field t ≡ true → reading t ≡ field_then (first_field t) (reading (drop (stated_length t) t))
  unfolding reading
  reading_field e = go (length t) refl
    where
      l : Length (length t) (stated_length t)
      l = is_length (length t) (stated_length t) e

      go : (n : ℕ) → length t ≡ n → reading_up_to n t ≡ field_then (first_field t) (reading_up_to (length (drop (stated_length t) t)) (drop (stated_length t) t))
      go zero q = absurd (omega (arith, l.room))
      go (suc n) q =
          rw (e, enough n (length (drop (stated_length t) t)) (drop (stated_length t) t) (rw length-drop (omega (arith, l.at_least_16))) (omega arith))

  pub reading_none : begins_field t ≡ false → reading t ≡ no_field t
  unfolding reading
  reading_none e = go (length t)
    where
      go : (n : ℕ) → reading_up_to n t ≡ no_field t
      go zero = refl
      go (suc n) = rw e

-- ---- the two agree

whole : {t a : List ℕ} {fs : List Field} → Tail t fs a → joined fs ++ a ≡ t
whole end = refl
whole (authenticator x) = refl
whole {a = a} (field {f = f} {fs = fs} h l e r) = append_assoc (octets_of f) (joined fs) a ∙ ap (λ z. octets_of f ++ z) (whole r) ∙ sym e

pub authenticator_short : {n : ℕ} → Authenticator n → n < 28
authenticator_short of_4 = omega arith
authenticator_short of_20 = omega arith
authenticator_short of_24 = omega arith

pub authenticator_ends : {n : ℕ} → Authenticator n → ends_fields n ≡ true
unfolding ends_fields
authenticator_ends of_4 = refl
authenticator_ends of_20 = refl
authenticator_ends of_24 = refl

-- a field in front is read first
front : (f : Field) (rest : List ℕ) (r : Reading) → Legal f → 28 ≤ length (octets_of f ++ rest) → reading rest ≡ r → reading (octets_of f ++ rest) ≡ field_then f r
front f rest r l h e =
    reading_field (octets_of f ++ rest) (begins_front f rest l h)
    ∙ rw (field_front f rest l, length_front f rest l.length_fits, rest_front f rest, e)

pub empty : (reading [] ≡ no_field []) × (ends_fields 0 ≡ true)
unfolding reading ends_fields
empty = (refl, refl)

complete : {t a : List ℕ} {fs : List Field} → Tail t fs a → (reading t ≡ record { fields = fs; rest = a }) × (ends_fields (length a) ≡ true)
complete end = empty
complete {t} (authenticator x) = (reading_none t (no_room (length t) (stated_length t) (authenticator_short x)), authenticator_ends x)
complete (field {t} {rest} {a} {f} {fs} h l e r) =
    let again = complete r in
    let room : 28 ≤ length (octets_of f ++ rest) = omega (arith, ap length e) in
    (ap reading e ∙ front f rest (record { fields = fs; rest = a }) l room again.0, again.1)

unique : {t a b : List ℕ} {fs gs : List Field} → Tail t fs a → Tail t gs b → (fs ≡ gs) × (a ≡ b)
unique p q =
    let e = sym (complete p).0 ∙ (complete q).0 in
    (ap (λ r. r.fields) e, ap (λ r. r.rest) e)

end_cases : (n : ℕ) → ends_fields n ≡ true → (n ≡ 0) ⊎ Authenticator n
unfolding ends_fields
end_cases n e = go (eqb n 0) (eqb n 4) (eqb n 20) (eqb n 24) refl refl refl refl e
  where
    go : (a b c d : Bool) → eqb n 0 ≡ a → eqb n 4 ≡ b → eqb n 20 ≡ c → eqb n 24 ≡ d → a || b || c || d ≡ true → (n ≡ 0) ⊎ Authenticator n
    go true b c d p q r s x = inl (eqb-true n 0 p)
    go false true c d p q r s x = inr (rw (eqb-true n 4 q) of_4)
    go false false true d p q r s x = inr (rw (eqb-true n 20 r) of_20)
    go false false false true p q r s x = inr (rw (eqb-true n 24 s) of_24)
    go false false false false p q r s x = absurd (false≢true x)

pub ends : (n : ℕ) → WhereTrue ((n ≡ 0) ⊎ Authenticator n) (ends_fields n)
ends n = record { to = λ h. (is_true (ends_fields n)).to (⊎_elim (λ e. ap ends_fields e ∙ empty.1) authenticator_ends h); from = λ t. end_cases n ((is_true (ends_fields n)).from t) }

pub ends_short : (n : ℕ) → (n ≡ 0) ⊎ Authenticator n → n < 28
ends_short n h = ⊎_elim (λ z. omega arith) authenticator_short h

end_tail : (t : List ℕ) → ends_fields (length t) ≡ true → Tail t [] t
end_tail [] e = end
end_tail (x ∷ t) e = ⊎_elim (λ z. absurd (omega arith)) authenticator (end_cases (suc (length t)) e)

-- What is true of octets whose number may be left after the fields, and, where a field begins, follows of all octets from those behind it, is true of
-- octets after whose fields such a number is left.
module _ (Last : ℕ → Type 0) (P : List ℕ → Type 0) (last : (t : List ℕ) → Last (length t) → P t)
    (begins : (t : List ℕ) → begins_field t ≡ true → P (drop (stated_length t) t) → P t) where
  no_field_lem : (t : List ℕ) → begins_field t ≡ false → Last (length (reading t).rest) → P t
  no_field_lem t f e = last t (rw (reading_none t f) at e)

  up_to : (n : ℕ) (t : List ℕ) → length t ≤ n → Last (length (reading t).rest) → P t
  up_to zero t h e = no_field_lem t (no_room (length t) (stated_length t) (omega arith)) e
  up_to (suc n) t h e = go (begins_field t) refl (up_to n (drop (stated_length t) t))
    where
      rest : List ℕ
      rest = drop (stated_length t) t

      go : (b : Bool) → begins_field t ≡ b → (length rest ≤ n → Last (length (reading rest).rest) → P rest) → P t
      go true f again =
          let l = is_length (length t) (stated_length t) f in
          begins t f (again (rw length-drop (omega arith)) (rw (reading_field t f) at e))
      go false f again = no_field_lem t f e

  pub by_fields : (t : List ℕ) → Last (length (reading t).rest) → P t
  by_fields t = up_to (length t) t (omega arith)

sound : (t : List ℕ) → AreOctets t → ends_fields (length (reading t).rest) ≡ true → Tail t (reading t).fields (reading t).rest
sound t known e =
    by_fields (λ n. ends_fields n ≡ true) (λ t. AreOctets t → Tail t (reading t).fields (reading t).rest)
    (λ t e known. rw (reading_none t (no_room (length t) (stated_length t) (ends_short (length t) (end_cases (length t) e)))) (end_tail t e))
    (λ t f again known.
    let l = is_length (length t) (stated_length t) f in
    rw (reading_field t f) (field l.room (legal_here t known f) (front_here t known f) (again (λ i. rw get_or-drop (known (stated_length t + i))))))
    t e known

-- ---- refusal 7

pub record Taken (packet : List ℕ) : Type 0 where
  pub at_least_48 : header_length ≤ length packet
  pub at_most_1024 : length packet ≤ maximum_length
  pub ends : (length (after_fields packet) ≡ 0) ⊎ Authenticator (length (after_fields packet))

-- 7 is given exactly where not
pub taken : (packet : List ℕ) → WhereFalse (Taken packet) (is_malformed packet)
unfolding is_malformed
taken p =
    let three = both (both (at_least (length p) header_length) (at_least maximum_length (length p))) (negated (ends (length (after_fields p)))) in
    record {
      to = λ k. three.to ((k.at_least_48, k.at_most_1024), k.ends);
      from = λ t. let ((a, b), c) = three.from t in record { at_least_48 = a; at_most_1024 = b; ends = c };
    }

pub taken_false : (packet : List ℕ) → is_malformed packet ≡ false → Taken packet
taken_false p e = (taken p).from ((is_false (is_malformed p)).to e)

not_refused : (packet : List ℕ) → AreOctets packet → is_malformed packet ≡ false → WellFormed packet (extension_fields packet) (after_fields packet)
not_refused p known e =
    let k = taken_false p e in
    record { at_least_48 = k.at_least_48; at_most_1024 = k.at_most_1024; tail = sound (drop header_length p) (λ i. rw get_or-drop (known (header_length + i))) ((is_true _).from ((ends _).to k.ends)) }

well_formed : {packet a : List ℕ} {fs : List Field} → WellFormed packet fs a → is_malformed packet ≡ false
well_formed {packet} w =
    let c = complete w.tail in
    (is_false (is_malformed packet)).from ((taken packet).to (record { at_least_48 = w.at_least_48; at_most_1024 = w.at_most_1024; ends = end_cases _ (rw (ap (λ r. length r.rest) c.0) c.1) }))

without_fields : (packet : List ℕ) → header_length ≤ length packet → ends_fields (length packet - header_length) ≡ true → is_malformed packet ≡ false
without_fields packet h e =
    let l = ends_short (length packet - header_length) (end_cases (length packet - header_length) e) in
    well_formed {fs = []} (record { at_least_48 = h; at_most_1024 = omega arith; tail = end_tail (drop header_length packet) (rw length-drop e) })

pub of_48 : (packet : List ℕ) → length packet ≡ header_length → is_malformed packet ≡ false
unfolding ends_fields
of_48 packet e = without_fields packet (omega arith) (rw e)

pub tail_laws : TailLaws
tail_laws = record { sound = sound; complete = complete; unique = unique; whole = whole; not_refused = not_refused; well_formed = well_formed; without_fields = without_fields }
