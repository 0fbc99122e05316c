-- Whole numbers through ℕ. `up z` and `dn z` are natural numbers with z = up z - dn z, so an equation or an order
-- between sums and differences of whole numbers is one between natural numbers, which `omega` proves. A proof is
--     omega (arith, whole, sum a b, minus a c, ..)
-- with one entry for each sum and difference that stands in the hypotheses and in the goal: `whole` reads the rest.
use mathlib.Core.Path.{◌≡◌, refl, ap, sym, ◌∙◌}
use Prim.Native.Nat.{ℕ, zero, suc, ◌+◌, ◌-◌, ◌≤◌, ◌<◌}
use native.Mathlib.Omega.{arith}
use lib.Dec.{T, ltb, ltb→lt, nltb→le, leb→le, nleb→lt, le→leb, lt→ltb}
use mathlib.Core.Bool.{Bool, true, false, cond, not}
use lib.IntN.{ℤ, pos, negsuc, neg_ℤ, sub_ℕ, ◌+ℤ◌, ◌-ℤ◌, nat_abs}
use lib.Signed.{◌≤ℤ◌, ◌<ℤ◌, le_z, lt_z, lt_z_yes, lt_z_no}
use lib.Arith.{lt→nleb, le→nltb}

abbrev pub up : ℤ → ℕ
up (pos n) = n
up (negsuc n) = 0

abbrev pub dn : ℤ → ℕ
dn (pos n) = 0
dn (negsuc n) = suc n

-- ---- the rules that `omega` applies by itself

pub eq_integers : {a b : ℤ} → a ≡ b → up a + dn b ≡ up b + dn a
eq_integers {a} {b} e = ap (λ z. up a + dn z) (sym e) ∙ ap (λ z. up z + dn a) e

pub integers_eq : {a b : ℤ} → up a + dn b ≡ up b + dn a → a ≡ b
integers_eq {a = pos a} {b = pos b} h = ap pos (omega arith)
integers_eq {a = pos a} {b = negsuc b} h = absurd (omega arith)
integers_eq {a = negsuc a} {b = pos b} h = absurd (omega arith)
integers_eq {a = negsuc a} {b = negsuc b} h = ap negsuc (omega arith)

pub le_integers : {a b : ℤ} → a ≤ℤ b → up a + dn b ≤ up b + dn a
le_integers {a = pos a} {b = pos b} h = omega (arith, leb→le a b h.le)
le_integers {a = pos a} {b = negsuc b} h = absurd h.le
le_integers {a = negsuc a} {b = pos b} h = omega arith
le_integers {a = negsuc a} {b = negsuc b} h = omega (arith, leb→le b a h.le)

pub integers_le : {a b : ℤ} → up a + dn b ≤ up b + dn a → a ≤ℤ b
integers_le {a = pos a} {b = pos b} h = record { le = le→leb a b (omega arith) }
integers_le {a = pos a} {b = negsuc b} h = absurd (omega arith)
integers_le {a = negsuc a} {b = pos b} h = record { le = tt }
integers_le {a = negsuc a} {b = negsuc b} h = record { le = le→leb b a (omega arith) }

pub lt_integers : {a b : ℤ} → a <ℤ b → up a + dn b < up b + dn a
lt_integers {a = pos a} {b = pos b} h = omega (arith, ltb→lt a b h.lt)
lt_integers {a = pos a} {b = negsuc b} h = absurd h.lt
lt_integers {a = negsuc a} {b = pos b} h = omega arith
lt_integers {a = negsuc a} {b = negsuc b} h = omega (arith, ltb→lt b a h.lt)

pub integers_lt : {a b : ℤ} → up a + dn b < up b + dn a → a <ℤ b
integers_lt {a = pos a} {b = pos b} h = record { lt = lt→ltb a b (omega arith) }
integers_lt {a = pos a} {b = negsuc b} h = absurd (omega arith)
integers_lt {a = negsuc a} {b = pos b} h = record { lt = tt }
integers_lt {a = negsuc a} {b = negsuc b} h = record { lt = lt→ltb b a (omega arith) }

-- the test `lt_z`, failed
pub integers_nlt : (a b : ℤ) → up b + dn a ≤ up a + dn b → T (not (lt_z a b))
integers_nlt (pos a) (pos b) h = le→nltb a b (omega arith)
integers_nlt (pos a) (negsuc b) h = tt
integers_nlt (negsuc a) (pos b) h = absurd (omega arith)
integers_nlt (negsuc a) (negsuc b) h = le→nltb b a (omega arith)

pub nlt_integers : (a b : ℤ) → T (not (lt_z a b)) → up b + dn a ≤ up a + dn b
nlt_integers a b t = le_integers {a = b} {b = a} (lt_z_no {a = a} {b = b} t)

-- the test `le_z`, failed
pub integers_nle : (a b : ℤ) → up b + dn a < up a + dn b → T (not (le_z a b))
integers_nle (pos a) (pos b) h = lt→nleb a b (omega arith)
integers_nle (pos a) (negsuc b) h = tt
integers_nle (negsuc a) (pos b) h = absurd (omega arith)
integers_nle (negsuc a) (negsuc b) h = lt→nleb b a (omega arith)

pub nle_integers : (a b : ℤ) → T (not (le_z a b)) → up b + dn a < up a + dn b
nle_integers (pos a) (pos b) t = omega (arith, nleb→lt a b t)
nle_integers (pos a) (negsuc b) t = omega arith
nle_integers (negsuc a) (pos b) t = absurd t
nle_integers (negsuc a) (negsuc b) t = omega (arith, nleb→lt b a t)

-- the test `lt_z`, passed
pub integers_test : (a b : ℤ) → up a + dn b < up b + dn a → T (lt_z a b)
integers_test a b h = (integers_lt {a = a} {b = b} h).lt

pub test_integers : (a b : ℤ) → T (lt_z a b) → up a + dn b < up b + dn a
test_integers a b t = lt_integers {a = a} {b = b} (lt_z_yes t)

pub ruleset integers = (eq_integers, integers_eq, le_integers, integers_le, lt_integers, integers_lt, integers_nlt, nlt_integers, integers_nle, nle_integers, integers_test, test_integers)

-- ---- the entries for a sum, a difference and a negation

cond_is : (c : Bool) (x y : ℤ) (P : ℤ → Type 0) → (T c → P x) → (T (not c) → P y) → P (cond c x y)
cond_is true x y P f g = f tt
cond_is false x y P f g = g tt

sub_integers : (a b : ℕ) → up (sub_ℕ a b) + b ≡ a + dn (sub_ℕ a b)
sub_integers a b = cond_is (ltb a b) (negsuc (b - suc a)) (pos (a - b)) (λ z. up z + b ≡ a + dn z)
    (λ t. omega (arith, ltb→lt a b t)) (λ t. omega (arith, nltb→le a b t))

pub sum : (a b : ℤ) → up (a +ℤ b) + (dn a + dn b) ≡ (up a + up b) + dn (a +ℤ b)
sum (pos a) (pos b) = omega arith
sum (pos a) (negsuc b) = omega (arith, sub_integers a (suc b))
sum (negsuc a) (pos b) = omega (arith, sub_integers b (suc a))
sum (negsuc a) (negsuc b) = omega arith

pub neg : (a : ℤ) → up (neg_ℤ a) + up a ≡ dn a + dn (neg_ℤ a)
neg (pos zero) = refl
neg (pos (suc n)) = omega arith
neg (negsuc n) = omega arith

pub minus : (a b : ℤ) → up (a -ℤ b) + (dn a + up b) ≡ (up a + dn b) + dn (a -ℤ b)
minus a b = omega (arith, sum a (neg_ℤ b), neg b)

-- the absolute value, as a natural number
pub size : (a : ℤ) → (up a ≤ nat_abs a + dn a) × (dn a ≤ nat_abs a + up a) × (nat_abs a ≤ up a + dn a)
size (pos a) = omega arith
size (negsuc a) = omega arith

pub size_is : (a : ℤ) → nat_abs a ≡ (up a - dn a) + (dn a - up a)
size_is (pos a) = omega arith
size_is (negsuc a) = omega arith

pub size_le : (a d : ℤ) → neg_ℤ d ≤ℤ a → a ≤ℤ d → pos (nat_abs a) ≤ℤ d
size_le (pos a) d l r = r
size_le (negsuc a) d l r = omega (arith, integers, neg d)
