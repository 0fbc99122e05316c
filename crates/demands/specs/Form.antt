-- What is asked of any call. A call's file fills in the form; nothing is asked of a single call anywhere else but in the laws that tie calls together.
use Rattle.std.specs.Prelude.{ℕ, ◌≡◌, ◌≢◌, ◌⊎◌, List, T, ℤ, pos, length, replicate}
use Rattle.refusals.specs.Numbers as numbers
use Rattle.refusals.specs.declared.Refusal.{Refusal}
use Rattle.refusals.specs.Given.{Given, refused, answered}

-- ---- what the caller is shown (docs/RULES.md, "Numbers a caller may see")

-- which kind of answer it is
pub data Kind : Type 0 where
  refusal : Kind
  acceptance : Kind
  kiss : Kind

-- the kind, the number, and the values that the call has to tell; what an answer does not name is zero
pub record Shown : Type 0 where
  pub kind : Kind
  pub number : ℕ
  pub values : List ℤ

-- a refusal by n, of a call that has this count of values to tell
abbrev pub refused_by : ℕ → ℕ → Shown
refused_by count n = record { kind = refusal; number = n; values = replicate count (pos 0) }

-- any other answer has the number 0
abbrev pub telling : List ℤ → Shown
telling values = record { kind = acceptance; number = 0; values = values }

-- ---- a call's rules, in the order of its tests

infixr 3 ◌unless◌then◌ ◌provided◌else◌
pub data Rules (O : Type 0) : Type 1 where
  ◌unless◌then◌ : Refusal → Type 0 → Rules O → Rules O  -- refused by it unless the fact holds; if it holds, the rest
  ◌provided◌else◌ : O → Type 0 → Rules O → Rules O  -- this outcome provided the fact holds, and no later rule is looked at; else the rest
  does : O → Rules O  -- this outcome
  refuses : Refusal → Rules O  -- refused by it, whatever the call is given

-- what the rules give: the first that applies decides
abbrev pub Gives : {O : Type 0} → Rules O → Given O → Type 0
Gives (r unless P then rest) g = ((P → ⊥) × (g ≡ refused (numbers.number r))) ⊎ (P × Gives rest g)
Gives (o provided P else rest) g = (P × (g ≡ answered o)) ⊎ ((P → ⊥) × Gives rest g)
Gives (does o) g = g ≡ answered o
Gives (refuses r) g = g ≡ refused (numbers.number r)

-- ---- the form of a call

pub record Form : Type 1 where
  pub Input : Type 0  -- what the call is given: values, a record, and the octets that it is lent
  pub Outcome : Type 0  -- what it answers, and what the record and those octets are then
  pub shown : Outcome → Shown
  pub refusing : Input → ℕ → Outcome  -- the refusal by this number, which changes nothing
  pub rules : Input → Rules Outcome

module _ (F : Form) where
  -- some program for the call
  abbrev pub Implementation : Type 0
  Implementation = F.Input → F.Outcome

  -- the outcome of what the rules give
  abbrev pub outcome : F.Input → Given F.Outcome → F.Outcome
  outcome i (refused n) = F.refusing i n
  outcome i (answered o) = o

  -- Demand 1 of a call: what is of the kind refusal carries a number of the table, changes nothing and tells no value; anything else has the number 0.
  pub record Refuses (f : Implementation) : Type 0 where
    pub listed : (i : F.Input) → (F.shown (f i)).kind ≡ refusal → T (numbers.listed (F.shown (f i)).number)
    pub unchanged : (i : F.Input) → (F.shown (f i)).kind ≡ refusal → f i ≡ F.refusing i (F.shown (f i)).number
    pub no_value : (i : F.Input) → (F.shown (f i)).kind ≡ refusal → (F.shown (f i)).values ≡ replicate (length (F.shown (f i)).values) (pos 0)
    pub number_0 : (i : F.Input) → (F.shown (f i)).kind ≢ refusal → (F.shown (f i)).number ≡ 0

  -- Demand 2 of a call: it does what its rules give, whole.
  pub record Answers (f : Implementation) : Type 0 where
    pub given : (i : F.Input) → Given F.Outcome
    pub by_rules : (i : F.Input) → Gives (F.rules i) (given i)
    pub done : (i : F.Input) → f i ≡ outcome i (given i)
