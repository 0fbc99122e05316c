-- The calls that read and add extension fields meet their forms.
use Rattle.refusals.specs.Given.{answered}
use Prim.Native.Nat.{ℕ, ◌≤◌}
use native.Mathlib.Omega.{arith}
use mathlib.Core.Path.{refl}
use lib.ListN.{length, take, drop}
use Rattle.ordered_tests.proofs.Reflection.{WhereFalse, negated, at_least}
use Rattle.extension.specs.Reader as reader
use Rattle.extension.specs.Reader.{begin_tests, next_tests, begun}
use Rattle.extension.proofs.Reading.{ends}
use Rattle.extension_writer.specs.Writer.{new_length, no_room, add_tests, with_field}
use Rattle.demands.specs.Begin as beginning
use Rattle.demands.specs.Begin.{begin}
use Rattle.demands.specs.Next as stepping
use Rattle.demands.specs.Next.{next}
use Rattle.demands.specs.Body as bodies
use Rattle.demands.specs.Body.{body}
use Rattle.demands.specs.Add as adding
use Rattle.demands.specs.Add.{Add, add}
use Rattle.demands.proofs.Facts.{begins_field_lem, only_fields, packet}
use Rattle.demands.proofs.Form.{Meets, ◌and◌, ◌or_else◌and◌, end, by, acceptance_shown, given_meets, written_meets}

pub begin_meets : Meets begin beginning.ours
unfolding begun
begin_meets = given_meets begin_tests (by 1) (λ p. acceptance_shown) (λ p. refl) (λ p. packet p and end refl)

pub next_meets : Meets next stepping.ours
unfolding reader.next
next_meets = given_meets (λ x. next_tests (drop x.cursor.at x.packet) x.cursor.at) (by 4) (λ x. (acceptance_shown, acceptance_shown)) (λ x. refl)
    (λ x. let t = drop x.cursor.at x.packet in begins_field_lem t or_else refl and negated (ends (length t)) and end refl)

-- no test is made
pub body_meets : Meets body bodies.ours
body_meets = record {
  proper = record { refusals = λ x n l. by 0 n; others = λ x. acceptance_shown };
  answers = record { given = λ x. answered (bodies.ours x); by_rules = λ x. refl; done = λ x. refl };
}

-- ---- adding

room : (capacity size n : ℕ) → WhereFalse ((new_length size n ≤ capacity) × (new_length size n ≤ 1024)) (no_room capacity size n)
unfolding no_room
room capacity size n =
    let least = at_least _ (new_length size n) in
    record { to = λ (a, b). least.to (omega arith); from = λ h. let l = least.from h in (omega arith, omega arith) }

pub add_meets : Meets add adding.ours
unfolding add_tests
add_meets = written_meets (λ x. x.buffer) (λ x. with_field x.buffer x.size x.field_type x.body)
    (λ x. add_tests x.buffer x.size (length x.body)) (λ old. by 1) (λ x. acceptance_shown) (λ x. refl)
    (λ x. let p = take x.size x.buffer in at_least (length x.buffer) x.size and packet p and only_fields (drop 48 p) and room (length x.buffer) x.size (length x.body) and end refl)
