-- Facts and the tests that decide them.
use mathlib.Core.Path.{◌≡◌, refl, sym, subst}
use mathlib.Core.Bool.{Bool, true, false, not, ◌&&◌, ◌||◌}
use Prim.Native.Nat.{ℕ, ◌≤◌, ◌<◌}
use lib.Dec.{T, leb, ltb, eqb}
use mir.Facts.{ltb_no, no_ltb, ltb_yes, yes_ltb, leb_no, no_leb, leb_yes, yes_leb, and_yes, yes_and, or_no, T_not-not, eqb_yes, yes_eqb}
use Rattle.ordered_tests.specs.Tests.{between}

-- the fact P holds exactly where the test b does
pub record WhereTrue (P : Type 0) (b : Bool) : Type 0 where
  pub to : P → T b
  pub from : T b → P

-- exactly where it does not
pub record WhereFalse (P : Type 0) (b : Bool) : Type 0 where
  pub to : P → T (not b)
  pub from : T (not b) → P

-- ---- from one to another

pub contradiction : (b : Bool) → T b → T (not b) → ⊥
contradiction true t f = f
contradiction false t f = t

module _ {P : Type 0} {b : Bool} (r : WhereTrue P b) where
  pub negated : WhereFalse P (not b)
  negated = record { to = λ p. go b (r.to p); from = λ t. r.from (T_not-not b t) }
    where
      go : (b : Bool) → T b → T (not (not b))
      go true t = tt
      go false t = t

  not_to : (P → ⊥) → T (not b)
  not_to h = go b r.from
    where
      go : (b : Bool) → (T b → P) → T (not b)
      go true f = h (f tt)
      go false f = tt

  pub refuted : WhereFalse (P → ⊥) b
  refuted = record { to = not_to; from = λ t p. contradiction b (r.to p) t }

  pub complement : WhereTrue (P → ⊥) (not b)
  complement = record { to = not_to; from = λ t p. contradiction b (r.to p) t }

module _ {P Q : Type 0} {a b : Bool} where
  pub both : WhereFalse P a → WhereFalse Q b → WhereFalse (P × Q) (a || b)
  both p q = record { to = λ (x, y). neither a (p.to x) (q.to y); from = λ t. let (x, y) = or_no a b t in (p.from x, q.from y) }
    where
      neither : (a : Bool) → T (not a) → T (not b) → T (not (a || b))
      neither true x y = x
      neither false x y = y

  pub conjoined : WhereTrue P a → WhereTrue Q b → WhereTrue (P × Q) (a && b)
  conjoined p q = record { to = λ (x, y). yes_and a b (p.to x) (q.to y); from = λ t. let (x, y) = and_yes a b t in (p.from x, q.from y) }

  -- a fact that is asked for where a condition holds
  pub guarded : WhereTrue P a → WhereFalse Q b → WhereFalse (P → Q) (a && b)
  guarded p q = record { to = go a p.from; from = λ t x. q.from (back a (p.to x) t) }
    where
      go : (a : Bool) → (T a → P) → (P → Q) → T (not (a && b))
      go true f h = q.to (h (f tt))
      go false f h = tt

      back : (a : Bool) → T a → T (not (a && b)) → T (not b)
      back true x t = t
      back false x t = absurd x

pub is_true : (b : Bool) → WhereTrue (b ≡ true) b
is_true b = record { to = λ e. subst T (sym e) tt; from = go b }
  where
    go : (b : Bool) → T b → b ≡ true
    go true t = refl
    go false t = absurd t

pub is_false : (b : Bool) → WhereFalse (b ≡ false) b
is_false b = record { to = λ e. subst (λ x. T (not x)) (sym e) tt; from = go b }
  where
    go : (b : Bool) → T (not b) → b ≡ false
    go true t = absurd t
    go false t = refl

pub isnt_true : (b : Bool) → WhereTrue (b ≡ false) (not b)
isnt_true b = record { to = (is_false b).to; from = (is_false b).from }

-- ---- numbers

pub at_least : (n m : ℕ) → WhereFalse (m ≤ n) (ltb n m)
at_least n m = record { to = no_ltb; from = ltb_no }

pub below : (n m : ℕ) → WhereFalse (n < m) (leb m n)
below n m = record { to = no_leb; from = leb_no }

pub not_above : (n m : ℕ) → WhereTrue (n ≤ m) (leb n m)
not_above n m = record { to = yes_leb; from = leb_yes }

pub is_below : (n m : ℕ) → WhereTrue (n < m) (ltb n m)
is_below n m = record { to = yes_ltb; from = ltb_yes }

pub equal : (m n : ℕ) → WhereTrue (m ≡ n) (eqb m n)
equal m n = record { to = yes_eqb; from = eqb_yes }

pub within : (low high n : ℕ) → WhereTrue ((low ≤ n) × (n ≤ high)) (between low high n)
within low high n = conjoined (not_above low n) (not_above n high)
