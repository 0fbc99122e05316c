-- When a client's call on an image is due, for C (docs/C.md).
use Rattle.std.specs.Prelude.{ℕ, not, List, Result}
use Rattle.refusals.specs.declared.Refusal.{Refusal}
use Rattle.refusals.specs.Given.{after}
use Rattle.refusals.specs.declared.Refusal.TheVariants.{ImageNotLegal}
use Rattle.ordered_tests.specs.Tests.{Tests, ◌if◌else◌, given}
use Rattle.client.specs.declared.Client.{Client}
use Rattle.firmware_layouts.specs.Image.{is_image, record_in}
use Rattle.due.specs.Due.{ask_due_tests, give_up_due_tests}

-- 46 before anything else, then the inner call's tests of the image's record. That record is legal, so 29 is not given.
abbrev pub on_image : (Client → Tests ℕ) → List ℕ → Tests ℕ
on_image inner image =
    ImageNotLegal if not (is_image image) else
    inner (record_in image)

unfoldable pub ask_due : List ℕ → Result ℕ Refusal
ask_due image = given (on_image ask_due_tests image)

unfoldable pub give_up_due : List ℕ → Result ℕ Refusal
give_up_due image = given (on_image give_up_due_tests image)

-- the lent number after the call
abbrev pub uptime_after : ℕ → Result ℕ Refusal → ℕ
uptime_after = after (λ u. u)
