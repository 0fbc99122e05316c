-- What a call gives its caller, where a refusal is known by its number.
use Rattle.std.specs.Prelude.{ℕ, Result, Ok, Err}
use Rattle.refusals.specs.declared.Refusal.{Refusal}
use Rattle.refusals.specs.Numbers.{number}

pub data Given (A : Type 0) : Type 0 where
  refused : ℕ → Given A
  answered : A → Given A

-- what a call of the code gives
abbrev pub numbered : {A : Type 0} → Result A Refusal → Given A
numbered (Err r) = refused (number r)
numbered (Ok a) = answered a

-- the number that a call for C returns: that of a refusal, and 0 of an answer
abbrev pub result_number : {A : Type 0} → Result A Refusal → ℕ
result_number (Err r) = number r
result_number (Ok a) = 0

-- what was lent to a call, after it: what is told of the answer, and after a refusal the same
abbrev pub after : {A B : Type 0} → (A → B) → B → Result A Refusal → B
after told lent (Err r) = lent
after told lent (Ok a) = told a

-- the number of what is given
abbrev pub given_number : {A : Type 0} → Given A → ℕ
given_number (refused n) = n
given_number (answered a) = 0
