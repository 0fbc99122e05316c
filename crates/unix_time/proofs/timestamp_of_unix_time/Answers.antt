-- The second that the code counts to has the timestamp of the Unix second, or none as that has none.
use Rattle.std.proofs.Common.{◌∙◌, ◌≡◌, rules, ◌^◌, arith, to_z-of_z}
use borrow.Author.Tests.{lt-leb}
use mir.Syntax.{w64}
use mir.Val.{SFits}
use Rattle.ordered_tests.specs.Tests.{given}
use Rattle.calendar.specs.Calendar.{second_tests}
use Rattle.unix_time.specs.UnixTime.{fraction_above, timestamp_of}
use Rattle.unix_time.proofs.Seconds.{counts}
use Rattle.unix_time.proofs.timestamp_of_unix_time.Goals as goal

pub returns : goal.returns
unfolding timestamp_of
returns c =
    let u = c.args.u in
    let fits : SFits w64 u.seconds = search rules in
    let counted : given (second_tests c.wrapping_add_signed-s.result c.fraction_of.result) ≡ timestamp_of u =
    rw (c.wrapping_add_signed-s.ensures, c.fraction_of.ensures, to_z-of_z fits, lt-leb (10 ^ 9) u.nanoseconds (omega arith)) (counts u.seconds fits (fraction_above u.nanoseconds)) in
    c.timestamp_at_second.ensures ∙ counted
