-- The numbers of the refusals are those of the rules' table, and each refusal has its own. proofs/Laws.antt proves it.
use Rattle.std.specs.Prelude.{ℕ, Bool, true, ◌&&◌, List, [], ◌∷◌, ltb, ◌≡◌, T}
use Rattle.refusals.specs.declared.Refusal.{Refusal}
use Rattle.refusals.specs.Numbers.{number, numbers, listed}

-- each number of a list is below the next one
abbrev pub ascending : List ℕ → Bool
ascending [] = true
ascending (n ∷ []) = true
ascending (n ∷ m ∷ ms) = ltb n m && ascending (m ∷ ms)

pub record Laws : Type 0 where
  pub each_listed : (r : Refusal) → T (listed (number r))
  pub each_own : (r s : Refusal) → number r ≡ number s → r ≡ s
  pub in_order : ascending numbers ≡ true
