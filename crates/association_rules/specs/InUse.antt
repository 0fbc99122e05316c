-- The number of the record in use (docs/RULES.md, "Associations").
use Rattle.std.specs.Prelude.{ℕ, Bool, cond, not, ◌||◌, eqb, ltb, Option, None, Some, is_some, Result, Ok, Err}
use Rattle.refusals.specs.declared.Refusal.{Refusal}
use Rattle.ordered_tests.specs.Tests.{between}
use Rattle.reply_checks.specs.declared.ArrivalAnswer.{ArrivalAnswer}
use Rattle.reply_checks.specs.declared.ArrivalAnswer.TheVariants.{Accepted, Kiss}

-- the list is empty or has more than eight records, or one of the two numbers is not in it
unfoldable pub outside : (count at in_use : ℕ) → Bool
outside count at in_use = not (between 1 8 count) || not (ltb at count) || not (ltb in_use count)

-- whether there is an alternate
abbrev pub exists : Option ℕ → Bool
exists a = is_some a

-- ---- the number in use

-- after a kiss of the record in use the alternate is in use, where there is one
abbrev pub use_after_kiss : Option ℕ → (at in_use : ℕ) → ℕ
use_after_kiss None at in_use = in_use
use_after_kiss (Some i) at in_use = cond (eqb at in_use) i in_use

abbrev pub use_after : Result ArrivalAnswer Refusal → Option ℕ → (at in_use : ℕ) → ℕ
use_after (Err r) a at in_use = in_use
use_after (Ok (Accepted measurement)) a at in_use = in_use
use_after (Ok (Kiss code row)) a at in_use = use_after_kiss a at in_use
