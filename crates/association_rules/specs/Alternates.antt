-- The alternate of a record is the first other record after it, round the list, that is not stopped. proofs/Alternates.antt proves `Alternates`.
use Rattle.std.specs.Prelude.{ℕ, ◌≤◌, ◌<◌, ◌≡◌, ◌≢◌, Some, None, List, length}
use Rattle.client.specs.declared.Client.{Client}
use Rattle.client.specs.declared.Phase.TheVariants.{Stopped}
use Rattle.association_rules.specs.Associations.{association, round, alternate}

module _ (list : List Client) where
  abbrev pub IsStopped : ℕ → Type 0
  IsStopped i = (association list i).phase ≡ Stopped

  -- the records from 1 place after `at` up to k places, k not included, are stopped
  abbrev pub StoppedBefore : (at k : ℕ) → Type 0
  StoppedBefore at k = (j : ℕ) → 1 ≤ j → j < k → IsStopped (round (length list) at j)

  -- i is the first that is not stopped, k places after `at`
  pub record First (at i : ℕ) : Type 0 where
    pub k : ℕ
    pub other : (1 ≤ k) × (k < length list)
    pub is : i ≡ round (length list) at k
    pub runs : (association list i).phase ≢ Stopped
    pub before : StoppedBefore at k

pub record Alternates : Type 0 where
  pub found : (list : List Client) (at i : ℕ) → alternate list at ≡ Some i → First list at i
  pub none : (list : List Client) (at : ℕ) → alternate list at ≡ None → StoppedBefore list at (length list)
  -- it is another record of the list
  pub in_list : (list : List Client) (at i : ℕ) → alternate list at ≡ Some i → at < length list → (i < length list) × (i ≢ at)
