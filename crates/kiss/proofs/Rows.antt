-- The row of a code in a list of codes, by its index there.
use Rattle.std.proofs.Common.{ℕ, suc, ◌+◌, ◌≡◌, Bool, true, false, Option, Some, None, List, [], ◌∷◌, refl, add-one, position}
use Rattle.std.specs.List.{position_from}
use Rattle.std.proofs.lemmas.Iterator.Adapters.{position_from-zero}
use lib.Dec.{eqb}
use Rattle.kiss.specs.Kiss.{row_in}

abbrev pub row_at : Option ℕ → ℕ
row_at None = 0
row_at (Some i) = i + 1

row_from : (k : ℕ) (codes : List ℕ) (c : ℕ) → row_in (suc k) codes c ≡ row_at (position_from (λ x. eqb c x) k codes)
row_from k [] c = refl
row_from k (x ∷ codes) c = go (eqb c x) refl (row_from (suc k) codes c)
  where
    go : (t : Bool) → eqb c x ≡ t → row_in (suc (suc k)) codes c ≡ row_at (position_from (λ x. eqb c x) (suc k) codes) → row_in (suc k) (x ∷ codes) c ≡ row_at (position_from (λ x. eqb c x) k (x ∷ codes))
    go true e r = rw (e, add-one)
    go false e r = rw (e, add-one) r

pub row_position : (codes : List ℕ) (c : ℕ) → row_in 1 codes c ≡ row_at (position (λ x. eqb c x) codes)
row_position codes c = rw (position_from-zero (λ x. eqb c x) codes) (row_from 0 codes c)
