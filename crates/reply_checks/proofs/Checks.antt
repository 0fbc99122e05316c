-- The ways out of a reply's checks, one law each, over any request, fields and T4.
use mathlib.Core.Path.{◌≡◌, sym, ◌∙◌}
use Prim.Native.Nat.{ℕ}
use borrow.Author.Tests.{eq-eqb, ne_eqb}
use lib.Dec.{eqb}
use Rattle.std.specs.Prelude.{Ok, Err}
use Rattle.refusals.specs.declared.Refusal.{Refusal}
use Rattle.ordered_tests.specs.Tests.{Tests, ◌when◌else◌, given, carry, pass}
use Rattle.ordered_tests.proofs.Tests.{carried_refusal, carried_answer, before_refused, before_passed}
use Rattle.timestamp.specs.declared.Timestamp.{Timestamp}
use Rattle.timestamp.specs.Timestamp.{◌since◌}
use Rattle.offset.specs.declared.Measurement.{Measurement}
use Rattle.offset.specs.Offset.{offset_tests, measured}
use Rattle.packet.specs.declared.Fields.{Fields}
use Rattle.kiss.specs.Kiss.{row_of}
use Rattle.token.specs.declared.Token.{Token}
use Rattle.sanity.specs.Sanity.{header_tests, root_tests}
use Rattle.reply_checks.specs.declared.ArrivalAnswer.{ArrivalAnswer}
use Rattle.reply_checks.specs.declared.ArrivalAnswer.TheVariants.{Accepted, Kiss}
use Rattle.reply_checks.specs.Checks.{match_tests, check_tests, checked}

module _ (t1 : Timestamp) (token : Token) (version : ℕ) (f : Fields) (t4 : Timestamp) where
  -- the tables by themselves: the packet answers the request; the reply is of use; its four timestamps
  abbrev matching : Tests (Unit {0})
  matching = match_tests token version f pass

  abbrev sane : Tests (Unit {0})
  sane = header_tests f t4 (root_tests f pass)

  abbrev timely : Tests Measurement
  timely = offset_tests (t4 since t1) (f.transmit since f.receive) (f.receive since t1) (f.transmit since t4)

  -- what follows the first, and where it is no kiss
  abbrev of_use : Tests ArrivalAnswer
  of_use = header_tests f t4 (root_tests f (carry Accepted timely))

  abbrev matched_then : Tests ArrivalAnswer
  matched_then = Kiss f.identifier (row_of f.identifier) when eqb f.stratum 0 else of_use

  pub refused_match : {r : Refusal} → given matching ≡ Err r → Err r ≡ checked t1 token version f t4
  unfolding checked check_tests
  refused_match e = sym (before_refused matching matched_then tt e)

  module _ (matched : given matching ≡ Ok tt) where
    rest : given (check_tests t1 token version f t4) ≡ given matched_then
    unfolding check_tests
    rest = before_passed matching matched_then tt matched

    pub a_kiss : f.stratum ≡ 0 → Ok (Kiss f.identifier (row_of f.identifier)) ≡ checked t1 token version f t4
    unfolding checked
    a_kiss z = rw (rest, eq-eqb f.stratum 0 z)

    module _ (no-kiss : f.stratum ≡ 0 → ⊥) where
      then : given (check_tests t1 token version f t4) ≡ given of_use
      then = rw (rest, ne_eqb f.stratum 0 no-kiss)

      pub refused_sanity : {r : Refusal} → given sane ≡ Err r → Err r ≡ checked t1 token version f t4
      unfolding checked
      refused_sanity e = sym (then ∙ before_refused sane (carry Accepted timely) tt e)

      module _ (passes : given sane ≡ Ok tt) where
        last : given (check_tests t1 token version f t4) ≡ given (carry Accepted timely)
        last = then ∙ before_passed sane (carry Accepted timely) tt passes

        pub not_measured : {r : Refusal} → measured t1 f.receive f.transmit t4 ≡ Err r → Err r ≡ checked t1 token version f t4
        unfolding measured checked
        not_measured e = sym (last ∙ carried_refusal Accepted timely e)

        pub accepts : {m : Measurement} → measured t1 f.receive f.transmit t4 ≡ Ok m → Ok (Accepted m) ≡ checked t1 token version f t4
        unfolding measured checked
        accepts e = sym (last ∙ carried_answer Accepted timely e)
