-- A walk from the beginning hands out the fields of the tail. Assumes nothing.
use Prim.Native.Nat.{ℕ, ◌+◌, ◌-◌, ◌≤◌, ◌<◌}
use native.Mathlib.Omega.{arith}
use mathlib.Core.Path.{◌≡◌, refl, sym, ap, subst, ◌∙◌}
use mathlib.Core.Bool.{Bool, true, false, not}
use mathlib.Core.List.{List, [], ◌∷◌, ◌++◌}
use mathlib.Core.Logic.{◌⊎◌, ⊎_elim}
use lib.ListN.{length, drop, length-drop}
use lib.Seq.{drop-drop}
use Rattle.arithmetic.specs.Octets.{part, AreOctets}
use Rattle.std.specs.Prelude.{Option, None, Some, Result, Ok, Err}
use Rattle.refusals.specs.declared.Refusal.{Refusal}
use Rattle.refusals.specs.declared.Refusal.TheVariants.{PacketLengthWrong}
use Rattle.ordered_tests.specs.Tests.{given, ◌if◌else◌, ◌when◌else◌, otherwise}
use Rattle.extension.specs.declared.Cursor.{Cursor}
use Rattle.extension.specs.declared.Field as found
use Rattle.extension.specs.Tail.{header_length, Field, length_of, octets_of, Legal, Tail, end, authenticator, field, joined}
use Rattle.extension.specs.Reading.{ends_fields, begins_field, stated_length, reading, extension_fields, after_fields, is_malformed}
use Rattle.refusals.specs.Given.{numbered}
use Rattle.extension.specs.Reader.{cursor, begun, field_at, next_tests, next}
use Rattle.extension.specs.ReaderLaws.{handed, reads, Walk, done, hand, HandsOutAll, ReaderLaws}
use Rattle.extension.proofs.Heads.{is_length, no_room}
use Rattle.extension.proofs.Front.{type_front, length_front, rest_front, body_front, begins_front}
use Rattle.extension.proofs.Reading.{reading_field, reading_none, authenticator_short, authenticator_ends, empty, tail_laws}

-- ---- what stands at a boundary of a tail

abbrev answer_at : List ℕ → ℕ → Result (Option found.Field) Refusal
answer_at t at = given (next_tests t at)

answer_end : (t : List ℕ) (at : ℕ) → length t < 28 → ends_fields (length t) ≡ true → answer_at t at ≡ Ok None
answer_end t at h e = rw (no_room (length t) (stated_length t) h, e)

answer_field : (f : Field) (rest : List ℕ) (at : ℕ) → Legal f → 28 ≤ length (octets_of f ++ rest)
    → answer_at (octets_of f ++ rest) at ≡ Ok (Some (record { field_type = f.field_type; start = at + 4; end = at + length_of f; next = cursor (at + length_of f) }))
answer_field f rest at l h = rw (begins_front f rest l h, type_front f rest l.type_fits, length_front f rest l.length_fits)

-- the body of a field that stands at index at of a packet
body_there : (p : List ℕ) (f : Field) (rest : List ℕ) (at : ℕ) → drop at p ≡ octets_of f ++ rest → part (at + 4) (at + length_of f - (at + 4)) p ≡ f.body
body_there p f rest at q =
    let n : at + length_of f - (at + 4) ≡ length_of f - 4 = omega arith in
    rw (n, ← drop-drop 4 at p, q) (body_front f rest)

walk : (p : List ℕ) (at : ℕ) {t a : List ℕ} {fs : List Field} → drop at p ≡ t → Tail t fs a → Walk reads p (cursor at) fs
unfolding next
walk p at q end = done (ap numbered (ap (λ t. answer_at t at) q ∙ answer_end [] at (omega arith) empty.1))
walk p at {t} q (authenticator x) = done (ap numbered (ap (λ t. answer_at t at) q ∙ answer_end t at (authenticator_short x) (authenticator_ends x)))
walk p at q (field {t} {rest} {a} {f} {fs} h l e r) =
    let q' = q ∙ e in
    subst (λ b. Walk reads p (cursor at) (record { field_type = f.field_type; body = b } ∷ fs)) (body_there p f rest at q')
    (hand (ap numbered (ap (λ t. answer_at t at) q' ∙ answer_field f rest at l (rw e at h)))
    (walk p (at + length_of f) (sym (drop-drop (length_of f) at p) ∙ ap (drop (length_of f)) q' ∙ rest_front f rest) r))

hands_out_all : HandsOutAll reads
hands_out_all packet a fs w = walk packet header_length refl w.tail

once : {p : List ℕ} {c : Cursor} {fs gs : List Field} → Walk reads p c fs → Walk reads p c gs → fs ≡ gs
once (done d) (done e) = refl
once (done d) (hand e w) = absurd cc
once (hand d v) (done e) = absurd cc
once {p} (hand {f = f} {fs = fs} d v) (hand {f = g} {fs = gs} d' v') =
    let same : g ≡ f = cc in
    let rest : fs ≡ gs = once v (subst (λ (y : found.Field). Walk reads p y.next gs) same v') in
    cc

begins : (p : List ℕ) (c : Cursor) → AreOctets p → begun p ≡ Ok c
    → Walk reads p c (extension_fields p) × (joined (extension_fields p) ++ after_fields p ≡ drop header_length p)
unfolding begun
begins p c known e = go (is_malformed p) refl
  where
    go : (b : Bool) → is_malformed p ≡ b → Walk reads p c (extension_fields p) × (joined (extension_fields p) ++ after_fields p ≡ drop header_length p)
    go true f = let e' = rw f at e in absurd cc
    go false f =
        let e' = rw f at e in
        let s : cursor header_length ≡ c = cc in
        let w = tail_laws.not_refused p known f in
        (subst (λ x. Walk reads p x (extension_fields p)) s (hands_out_all p _ _ w), tail_laws.whole w.tail)

-- ---- one step

-- what is handed out is the field that begins at the cursor
hands : (p : List ℕ) (c : Cursor) (f : found.Field) → next p c ≡ Ok (Some f) → (begins_field (drop c.at p) ≡ true) × (f ≡ field_at (drop c.at p) c.at)
unfolding next
hands p c f = go (begins_field (drop c.at p)) (ends_fields (length (drop c.at p))) refl
  where
    go : (b d : Bool) → begins_field (drop c.at p) ≡ b
        → given (Some (field_at (drop c.at p) c.at) when b else PacketLengthWrong if not d else otherwise None) ≡ Ok (Some f)
        → (begins_field (drop c.at p) ≡ true) × (f ≡ field_at (drop c.at p) c.at)
    go true d q e = (q, cc)
    go false true q e = absurd cc
    go false false q e = absurd cc

module _ (p : List ℕ) (c : Cursor) (f : found.Field) (e : next p c ≡ Ok (Some f)) where
  abbrev t : List ℕ
  t = drop c.at p

  inside : (f.start ≡ c.at + 4) × (f.start + 12 ≤ f.end) × (f.end ≤ length p) × (f.next.at ≡ f.end)
  inside =
      let h = hands p c f e in
      let l = is_length (length (drop c.at p)) (stated_length (drop c.at p)) h.0 in
      let n = length-drop c.at p in
      rw h.1 (refl, omega (arith, l.at_least_16), omega (arith, l.within, l.room), refl)

  steps : (reading (drop c.at p)).fields ≡ handed p f ∷ (reading (drop f.next.at p)).fields
  steps =
      let h = hands p c f e in
      let n : c.at + stated_length t - (c.at + 4) ≡ stated_length t - 4 = omega arith in
      rw (h.1, reading_field (drop c.at p) h.0, n, drop-drop 4 c.at p, drop-drop (stated_length (drop c.at p)) c.at p)

stops : (p : List ℕ) (c : Cursor) → (next p c ≡ Ok None) ⊎ ((r : Refusal) × (next p c ≡ Err r)) → (reading (drop c.at p)).fields ≡ []
unfolding next
stops p c e = go (begins_field (drop c.at p)) refl
  where
    go : (b : Bool) → begins_field (drop c.at p) ≡ b → (reading (drop c.at p)).fields ≡ []
    go true f = ⊎_elim (λ d. let d' = rw f at d in absurd cc) (λ d. let d' = rw f at d.1 in absurd cc) e
    go false f = ap (λ r. r.fields) (reading_none (drop c.at p) f)

pub reader_laws : ReaderLaws
reader_laws = record { hands_out_all = hands_out_all; once = once; begins = begins; inside = inside; steps = steps; stops = stops }
