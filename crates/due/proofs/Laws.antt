-- The answers of `ask_due` and `give_up_due` say what the client's calls answer at every uptime. Each table of tests is taken over the tests' results.
use Prim.Native.Nat.{ℕ, zero, suc, ◌+◌, ◌^◌, ◌<◌}
use native.Mathlib.Omega.{arith}
use mathlib.Core.Path.{◌≡◌, refl, sym, ◌∙◌}
use mathlib.Core.Bool.{Bool, true, false, not, ◌&&◌}
use lib.Dec.{leb, ltb, T}
use borrow.Author.Tests.{leb-true, leb-false, lt-ltb, le-ltb}
use Rattle.std.specs.Prelude.{Result, Ok, Err}
use Rattle.refusals.specs.declared.Refusal.{Refusal}
use Rattle.refusals.specs.declared.Refusal.TheVariants.{RecordNotLegal, BufferTooShort, VersionUnsupported, OwnClockZero, TokenZero, ClientStopped, AlreadyWaiting, AskedTooSoon, NotWaiting, GaveUpTooSoon}
use Rattle.refusals.specs.Numbers.{number, listed}
use Rattle.refusals.proofs.Laws.{each_listed}
use Rattle.ordered_tests.specs.Tests.{Tests, ◌if◌else◌, ◌when◌else◌, otherwise, given, answer, between}
use Rattle.timestamp.specs.declared.Timestamp.{Timestamp}
use Rattle.timestamp.specs.Timestamp.{constants, is_zero}
use Rattle.token.specs.declared.Token.{Token}
use Rattle.token.specs.Token.{is_zero_token}
use Rattle.packet.specs.Packet.{packet_length}
use Rattle.poll.specs.Poll.{too_soon}
use Rattle.client.specs.declared.Client.{Client}
use Rattle.client.specs.declared.Called.{Called}
use Rattle.client.specs.Record.{is_waiting, is_stopped, illegal, back_off, refused_call}
use Rattle.client.specs.Ask.{waiting_for, ask_tests, after_ask}
use Rattle.client.specs.GiveUp.{give_up_tests, gave_up}
use Rattle.due.specs.Due.{past, ask_due_tests, ask_due, give_up_due_tests, give_up_due}
use Rattle.due.specs.Laws.{Exactly, AtLeast, Pass, Laws}

pub not_zero : (r : Refusal) → 0 < number r
not_zero r = go (number r) (each_listed r)
  where
    go : (n : ℕ) → T (listed n) → 0 < n
    go zero t = absurd t
    go (suc n) t = omega arith

abbrev Answer : Type 0
Answer = Result (Unit {0}) Refusal

-- in what a caller is told, an ask that is refused otherwise, or not at all, is not one that came too soon
pub record Distinct {A : Type 0} (tell : Answer → A) : Type 0 where
  pub done : tell (Ok tt) ≡ tell (Err AskedTooSoon) → ⊥
  pub record_not_legal : tell (Err RecordNotLegal) ≡ tell (Err AskedTooSoon) → ⊥
  pub buffer_too_short : tell (Err BufferTooShort) ≡ tell (Err AskedTooSoon) → ⊥
  pub version_unsupported : tell (Err VersionUnsupported) ≡ tell (Err AskedTooSoon) → ⊥
  pub own_clock_zero : tell (Err OwnClockZero) ≡ tell (Err AskedTooSoon) → ⊥
  pub token_zero : tell (Err TokenZero) ≡ tell (Err AskedTooSoon) → ⊥

module _ {A : Type 0} (tell : Answer → A) where
  abbrev refusal : Refusal → A
  refusal r = tell (Err r)

  abbrev ExactlyTold : (too-soon : Refusal) (call : ℕ → A) → Result ℕ Refusal → Type 0
  ExactlyTold = Exactly refusal (tell (Ok tt))

  abbrev AtLeastTold : (too-soon : Refusal) (call : ℕ → A) → Result ℕ Refusal → Type 0
  AtLeastTold = AtLeast refusal

  -- a call that is refused otherwise at every uptime; `call` is the same call with arguments that pass
  always : (too-soon r : Refusal) → (refusal r ≡ refusal too-soon → ⊥) → (call : ℕ → A) (d : Result ℕ Refusal)
      → ExactlyTold too-soon call d → AtLeastTold too-soon (λ uptime. refusal r) d
  always too-soon r other call (Ok u) x = (x.0, (λ uptime h. record { refusal = r; not_zero = not_zero r; is = refl }), λ uptime h. other)
  always too-soon r other call (Err m) x = (not_zero m, λ uptime h. record { refusal = r; not_zero = not_zero r; is = refl })

  weaker : (call : ℕ → A) (too-soon : Refusal) → (tell (Ok tt) ≡ refusal too-soon → ⊥) → (d : Result ℕ Refusal)
      → ExactlyTold too-soon call d → AtLeastTold too-soon call d
  weaker call too-soon taken (Ok u) (fits, before, after) = (
    fits,
    (λ uptime h. record { refusal = too-soon; not_zero = not_zero too-soon; is = before uptime h }),
    λ uptime h r. taken (sym (after uptime h) ∙ r),
  )
  weaker call too-soon taken (Err r) e = (not_zero r, λ uptime h. record { refusal = r; not_zero = not_zero r; is = e.1 uptime h })

  module _ (c : Client) (next : ℕ → Client) where
    abbrev done : ℕ → Tests (Called (Unit {0}))
    done uptime = otherwise (record { answer = Ok tt; client = next uptime })

    abbrev said : Tests (Called (Unit {0})) → A
    said tests = tell (answer (refused_call c) tests).answer

    -- the last test of both calls
    module _ (too-soon : Refusal) (since seconds : ℕ) where
      last : ExactlyTold too-soon (λ uptime. said (too-soon if too_soon since seconds uptime else done uptime)) (given (past too-soon since seconds))
      unfolding too_soon
      last = go (leb (2 ^ 64) (since + seconds)) refl
        where
          go : (b : Bool) → leb (2 ^ 64) (since + seconds) ≡ b
              → ExactlyTold too-soon (λ uptime. said (too-soon if ltb uptime (since + seconds) else done uptime)) (given (too-soon if b else otherwise (since + seconds)))
          go true e = let never = leb-true (2 ^ 64) (since + seconds) e in (not_zero too-soon, λ uptime h. rw (lt-ltb uptime (since + seconds) (omega arith)))
          go false e = (
            leb-false (2 ^ 64) (since + seconds) e,
            (λ uptime h. rw (lt-ltb uptime (since + seconds) h)),
            λ uptime h. rw (le-ltb uptime (since + seconds) h),
          )

    -- the ask
    module _ (since seconds : ℕ) where
      abbrev asking : (not-legal short unsupported no-clock no-token stopped waiting asked : Bool) → ℕ → Tests (Called (Unit {0}))
      asking not-legal short unsupported no-clock no-token stopped waiting asked uptime =
          RecordNotLegal if not-legal else
          BufferTooShort if short else
          VersionUnsupported if unsupported else
          OwnClockZero if no-clock else
          TokenZero if no-token else
          ClientStopped if stopped else
          AlreadyWaiting if waiting else
          AskedTooSoon if asked && too_soon since seconds uptime else
          done uptime

      abbrev due : (not-legal stopped waiting asked : Bool) → Result ℕ Refusal
      due not-legal stopped waiting asked =
          given (
          RecordNotLegal if not-legal else
          ClientStopped if stopped else
          AlreadyWaiting if waiting else
          0 when not asked else
          past AskedTooSoon since seconds)

      exact : (not-legal stopped waiting asked : Bool)
          → ExactlyTold AskedTooSoon (λ uptime. said (asking not-legal false false false false stopped waiting asked uptime)) (due not-legal stopped waiting asked)
      exact true stopped waiting asked = (omega arith, λ uptime h. refl)
      exact false true waiting asked = (omega arith, λ uptime h. refl)
      exact false false true asked = (omega arith, λ uptime h. refl)
      exact false false false false = (omega arith, (λ uptime h. absurd (omega arith)), λ uptime h. refl)
      exact false false false true = last AskedTooSoon since seconds

      module _ (distinct : Distinct tell) where
        refused_first : (r : Refusal) → (refusal r ≡ refusal AskedTooSoon → ⊥) → (not-legal stopped waiting asked : Bool)
            → AtLeastTold AskedTooSoon (λ uptime. refusal r) (due not-legal stopped waiting asked)
        refused_first r other not-legal stopped waiting asked =
            always AskedTooSoon r other (λ uptime. said (asking not-legal false false false false stopped waiting asked uptime)) (due not-legal stopped waiting asked) (exact not-legal stopped waiting asked)

        any : (not-legal short unsupported no-clock no-token stopped waiting asked : Bool)
            → AtLeastTold AskedTooSoon (λ uptime. said (asking not-legal short unsupported no-clock no-token stopped waiting asked uptime)) (due not-legal stopped waiting asked)
        any true short unsupported no-clock no-token = refused_first RecordNotLegal distinct.record_not_legal true
        any false true unsupported no-clock no-token = refused_first BufferTooShort distinct.buffer_too_short false
        any false false true no-clock no-token = refused_first VersionUnsupported distinct.version_unsupported false
        any false false false true no-token = refused_first OwnClockZero distinct.own_clock_zero false
        any false false false false true = refused_first TokenZero distinct.token_zero false
        any false false false false false = λ stopped waiting asked.
            weaker (λ uptime. said (asking false false false false false stopped waiting asked uptime)) AskedTooSoon distinct.done (due false stopped waiting asked) (exact false stopped waiting asked)

    -- the give-up
    module _ (since seconds : ℕ) where
      give : (not-legal waiting : Bool)
          → ExactlyTold GaveUpTooSoon
          (λ uptime. said (RecordNotLegal if not-legal else NotWaiting if not waiting else GaveUpTooSoon if too_soon since seconds uptime else done uptime))
          (given (RecordNotLegal if not-legal else NotWaiting if not waiting else past GaveUpTooSoon since seconds))
      give true waiting = (omega arith, λ uptime h. refl)
      give false false = (omega arith, λ uptime h. refl)
      give false true = last GaveUpTooSoon since seconds

  -- ---- the calls of a record, for whatever a caller is told of their answers
  module _ (c : Client) where
    pub passing_ask : (room version : ℕ) (clock : Timestamp) (token : Token) → Pass room version clock token
        → ExactlyTold AskedTooSoon (λ uptime. tell (after_ask c room version clock token uptime).answer) (ask_due c)
    unfolding ask_tests after_ask ask_due_tests ask_due
    passing_ask room version clock token pass =
        rw (le-ltb room packet_length pass.room_enough, pass.version_supported, pass.clock_read, pass.token_drawn)
        (exact c (waiting_for c version clock token) c.uptime (2 ^ c.exponent) (illegal c) (is_stopped c.phase) (is_waiting c.phase) c.asked)

    pub any_ask : Distinct tell → (room version : ℕ) (clock : Timestamp) (token : Token)
        → AtLeastTold AskedTooSoon (λ uptime. tell (after_ask c room version clock token uptime).answer) (ask_due c)
    unfolding ask_tests after_ask ask_due_tests ask_due
    any_ask distinct room version clock token =
        any c (waiting_for c version clock token) c.uptime (2 ^ c.exponent) distinct (illegal c) (ltb room packet_length) (not (between 1 4 version)) (is_zero clock) (is_zero_token token) (is_stopped c.phase) (is_waiting c.phase) c.asked

    pub any_give_up : ExactlyTold GaveUpTooSoon (λ uptime. tell (gave_up c uptime).answer) (give_up_due c)
    unfolding give_up_tests gave_up give_up_due_tests give_up_due
    any_give_up = give c (λ uptime. back_off c) c.uptime constants.limit_seconds (illegal c) (is_waiting c.phase)

itself : Distinct (λ a. a)
itself = record {
  done = λ e. cc;
  record_not_legal = λ e. cc;
  buffer_too_short = λ e. cc;
  version_unsupported = λ e. cc;
  own_clock_zero = λ e. cc;
  token_zero = λ e. cc;
}

pub laws : (c : Client) → Laws c
laws c = record { passing_ask = passing_ask (λ a. a) c; any_ask = any_ask (λ a. a) c itself; any_give_up = any_give_up (λ a. a) c }
