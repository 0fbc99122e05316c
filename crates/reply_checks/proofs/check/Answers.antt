-- The exits of a refusal.
use Rattle.std.proofs.Common.{sym}
use Rattle.std.proofs.lemmas.Result.{err_from_is_err_and}
use Rattle.reply_checks.proofs.Checks.{refused_match, refused_sanity, not_measured}
use Rattle.reply_checks.proofs.check.Goals as goal

pub returns-in_err-check_match : goal.returns-in_err-check_match
returns-in_err-check_match c =
    let a = c.args in
    let handed_on = err_from_is_err_and c.from_residual.result c.from_residual.ensures.1 in
    rw (handed_on.1, handed_on.2) (refused_match a.t1 a.token a.version a.f a.t4 (sym c.in_err-check_match.ensures))

pub returns-in_err-check : goal.returns-in_err-check
returns-in_err-check c =
    let a = c.args in
    let handed_on = err_from_is_err_and c.from_residual-in_err-check.result c.from_residual-in_err-check.ensures.1 in
    rw (handed_on.1, handed_on.2)
    (refused_sanity a.t1 a.token a.version a.f a.t4 (sym c.in_ok-check_match.ensures) c.if-f-eq0.false (sym c.in_err-check.ensures))

pub returns-in_err-measurement : goal.returns-in_err-measurement
returns-in_err-measurement c =
    let a = c.args in
    let handed_on = err_from_is_err_and c.from_residual-in_err-measurement.result c.from_residual-in_err-measurement.ensures.1 in
    rw (handed_on.1, handed_on.2)
    (not_measured a.t1 a.token a.version a.f a.t4 (sym c.in_ok-check_match.ensures) c.if-f-eq0.false (sym c.in_ok-check.ensures) (sym c.in_err-measurement.ensures))
