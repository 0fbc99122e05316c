-- Laws of the form: rules give one thing, so that demand 2 leaves one program for a call; a call that goes by a table of tests which says what its rules
-- say meets both demands; and so does a call around one that meets them.
use Rattle.ordered_tests.specs.Tests.{given, Tests, ◌if◌else◌, ◌when◌else◌, otherwise, kept_of}
use Prim.Native.Nat.{ℕ}
use mathlib.Core.Path.{◌≡◌, refl, sym, ap, subst, ◌∙◌}
use mathlib.Core.Logic.{◌≢◌, ◌⊎◌, inl, inr}
use mathlib.Core.List.{List}
use mathlib.Core.Bool.{Bool, true, false, not, ◌&&◌}
use native.Mathlib.Omega.{arith}
use lib.Dec.{T}
use lib.IntN.{pos}
use lib.ListN.{length, replicate, length-replicate}
use mir.Facts.{and_yes}
use Rattle.std.specs.Prelude.{Result, Ok, Err}
use Rattle.refusals.specs.declared.Refusal.{Refusal}
use Rattle.refusals.specs.Numbers.{number, listed}
use Rattle.refusals.specs.Given.{Given, refused, answered, numbered}
use Rattle.refusals.proofs.Laws.{each_listed}
use Rattle.ordered_tests.specs.Tests as tests
use Rattle.demands.specs.Common.{Written}
use Rattle.demands.specs.Form.{refusal, acceptance, kiss, Shown, refused_by, Rules, ◌unless◌then◌, ◌provided◌else◌, does, refuses, Gives, Form, Implementation, outcome, Refuses, Answers}
use Rattle.ordered_tests.proofs.Reflection.{WhereTrue, WhereFalse, contradiction}
use Rattle.demands.specs.Wrapper.{Wrapper, map_rules, rules_of, wrapped, over, through}

-- ---- rules give one thing

pub one : {O : Type 0} (r : Rules O) (g h : Given O) → Gives r g → Gives r h → g ≡ h
one (n unless P then rest) g h (inl (x, e)) (inl (y, d)) = e ∙ sym d
one (n unless P then rest) g h (inl (x, e)) (inr (p, q)) = absurd (x p)
one (n unless P then rest) g h (inr (p, q)) (inl (x, e)) = absurd (x p)
one (n unless P then rest) g h (inr (p, q)) (inr (p', s)) = one rest g h q s
one (o provided P else rest) g h (inl (p, e)) (inl (p', d)) = e ∙ sym d
one (o provided P else rest) g h (inl (p, e)) (inr (x, q)) = absurd (x p)
one (o provided P else rest) g h (inr (x, q)) (inl (p, e)) = absurd (x p)
one (o provided P else rest) g h (inr (x, q)) (inr (y, s)) = one rest g h q s
one (does o) g h e d = e ∙ sym d
one (refuses n) g h e d = e ∙ sym d

-- so what the rules are known to give is done
pub does_it : {F : Form} {f : Implementation F} → Answers F f → (i : F.Input) (g : Given F.Outcome) → Gives (F.rules i) g → f i ≡ outcome F i g
does_it {F} a i g p = a.done i ∙ ap (outcome F i) (one (F.rules i) (a.given i) g (a.by_rules i) p)

-- and two programs that do what the rules give do the same
pub unique : {F : Form} {f g : Implementation F} → Answers F f → Answers F g → (i : F.Input) → f i ≡ g i
unique a b i = does_it a i (b.given i) (b.by_rules i) ∙ sym (b.done i)

-- so one of which something else can be seen at some input does not
pub differs : {F : Form} {f g : Implementation F} → Answers F g → (i : F.Input) (see : F.Outcome → Bool) → T (see (f i)) → T (not (see (g i))) → Answers F f → ⊥
differs {F} {f} a i see seen other b = contradiction (see (f i)) seen (subst (λ o. T (not (see o))) (sym (unique b a i)) other)

-- ---- the facts on the way to an outcome

-- each fact before it holds, and no proviso before it does
abbrev pub Passes : {O : Type 0} → Rules O → O → Type 0
Passes (n unless P then rest) o = P × Passes rest o
Passes (a provided P else rest) o = (P × (a ≡ o)) ⊎ ((P → ⊥) × Passes rest o)
Passes (does a) o = a ≡ o
Passes (refuses n) o = ⊥

not_refused : {O : Type 0} {o : O} {n : ℕ} → answered o ≡ refused n → ⊥
not_refused e = let z : ◌≡◌ {A = ℕ} 0 1 = cc in omega arith

same_number : {O : Type 0} {m n : ℕ} → ◌≡◌ {A = Given O} (refused m) (refused n) → m ≡ n
same_number e = cc

same_answer : {O : Type 0} {a o : O} → answered a ≡ answered o → a ≡ o
same_answer e = cc

pub passed : {O : Type 0} (r : Rules O) (o : O) → Gives r (answered o) → Passes r o
passed (n unless P then rest) o (inl (x, e)) = absurd (not_refused e)
passed (n unless P then rest) o (inr (p, q)) = (p, passed rest o q)
passed (a provided P else rest) o (inl (p, e)) = inl (p, same_answer (sym e))
passed (a provided P else rest) o (inr (x, q)) = inr (x, passed rest o q)
passed (does a) o e = same_answer (sym e)
passed (refuses n) o e = not_refused e

pub passes : {O : Type 0} (r : Rules O) (o : O) → Passes r o → Gives r (answered o)
passes (n unless P then rest) o (p, q) = inr (p, passes rest o q)
passes (a provided P else rest) o (inl (p, e)) = inl (p, ap answered (sym e))
passes (a provided P else rest) o (inr (x, q)) = inr (x, passes rest o q)
passes (does a) o e = ap answered (sym e)
passes (refuses n) o p = absurd p

-- ---- what demand 1 asks of a program that meets demand 2: the rules' numbers are listed, a refusal shows its number, and no outcome of the rules is one

-- every outcome of the rules has the property
abbrev pub Each : {O : Type 0} → (O → Type 0) → Rules O → Type 0
Each Q (n unless P then rest) = Each Q rest
Each Q (o provided P else rest) = Q o × Each Q rest
Each Q (does o) = Q o
Each Q (refuses n) = Unit {0}

-- a refusal of the rules has a listed number
pub number_listed : {O : Type 0} (r : Rules O) (n : ℕ) → Gives r (refused n) → T (listed n)
number_listed (x unless P then rest) n (inl (y, e)) = subst (λ m. T (listed m)) (same_number (sym e)) (each_listed x)
number_listed (x unless P then rest) n (inr (p, g)) = number_listed rest n g
number_listed (o provided P else rest) n (inl (p, e)) = absurd (not_refused (sym e))
number_listed (o provided P else rest) n (inr (x, g)) = number_listed rest n g
number_listed (does o) n e = absurd (not_refused (sym e))
number_listed (refuses x) n e = subst (λ m. T (listed m)) (same_number (sym e)) (each_listed x)

-- every number of the rules has the property, and so has that of a refusal that they give
abbrev pub each_number : {O : Type 0} → (ℕ → Bool) → Rules O → Bool
each_number q (x unless P then rest) = q (number x) && each_number q rest
each_number q (o provided P else rest) = each_number q rest
each_number q (does o) = true
each_number q (refuses x) = q (number x)

pub number_in : {O : Type 0} (q : ℕ → Bool) (r : Rules O) (n : ℕ) → T (each_number q r) → Gives r (refused n) → T (q n)
number_in q (x unless P then rest) n l (inl (y, e)) = subst (λ m. T (q m)) (same_number (sym e)) (and_yes (q (number x)) (each_number q rest) l).0
number_in q (x unless P then rest) n l (inr (p, g)) = number_in q rest n (and_yes (q (number x)) (each_number q rest) l).1 g
number_in q (o provided P else rest) n l (inl (p, e)) = absurd (not_refused (sym e))
number_in q (o provided P else rest) n l (inr (x, g)) = number_in q rest n l g
number_in q (does o) n l e = absurd (not_refused (sym e))
number_in q (refuses x) n l e = subst (λ m. T (q m)) (same_number (sym e)) l

-- and an outcome of the rules has the property of each
pub outcome_in : {O : Type 0} (Q : O → Type 0) (r : Rules O) (o : O) → Each Q r → Passes r o → Q o
outcome_in Q (n unless P then rest) o all (p, q) = outcome_in Q rest o all q
outcome_in Q (a provided P else rest) o (first, others) (inl (p, e)) = subst Q e first
outcome_in Q (a provided P else rest) o (first, others) (inr (x, q)) = outcome_in Q rest o others q
outcome_in Q (does a) o first e = subst Q e first
outcome_in Q (refuses n) o all p = absurd p

-- an outcome that is no refusal, and has the number 0
abbrev pub Accepted : (F : Form) → F.Outcome → Type 0
Accepted F o = ((F.shown o).kind ≢ refusal) × ((F.shown o).number ≡ 0)

-- what the refusal by n shows
pub record ShownAs (n : ℕ) (s : Shown) : Type 0 where
  pub kind : s.kind ≡ refusal
  pub number : s.number ≡ n
  pub values : s.values ≡ replicate (length s.values) (pos 0)

pub by : (count n : ℕ) → ShownAs n (refused_by count n)
by count n = record { kind = refl; number = refl; values = rw length-replicate }

-- what any other answer shows
pub acceptance_shown : (acceptance ≢ refusal) × (◌≡◌ {A = ℕ} 0 0)
acceptance_shown = (λ e. let z : ◌≡◌ {A = ℕ} 0 1 = cc in omega arith, refl)

pub kiss_shown : (kiss ≢ refusal) × (◌≡◌ {A = ℕ} 0 0)
kiss_shown = (λ e. let z : ◌≡◌ {A = ℕ} 0 1 = cc in omega arith, refl)

pub record Proper (F : Form) : Type 0 where
  pub refusals : (i : F.Input) (n : ℕ) → T (listed n) → ShownAs n (F.shown (F.refusing i n))
  pub others : (i : F.Input) → Each (Accepted F) (F.rules i)

-- both demands of a call
pub record Meets (F : Form) (f : Implementation F) : Type 0 where
  pub proper : Proper F
  pub answers : Answers F f

module _ {F : Form} {f : Implementation F} (m : Meets F f) where
  -- what is true of every refusal by a listed number, and of every outcome that the rules may give, is true of what the call does
  pub either : (i : F.Input) (P : F.Outcome → Type 0) → ((n : ℕ) → T (listed n) → Gives (F.rules i) (refused n) → P (F.refusing i n))
      → ((o : F.Outcome) → Passes (F.rules i) o → P o) → P (f i)
  either i P refusals outcomes = subst P (sym (m.answers.done i)) (go (m.answers.given i) (m.answers.by_rules i))
    where
      go : (g : Given F.Outcome) → Gives (F.rules i) g → P (outcome F i g)
      go (refused n) p = refusals n (number_listed (F.rules i) n p) p
      go (answered o) p = outcomes o (passed (F.rules i) o p)

  accepted : (i : F.Input) (o : F.Outcome) → Passes (F.rules i) o → Accepted F o
  accepted i o = outcome_in (Accepted F) (F.rules i) o (m.proper.others i)

  -- demand 1 follows
  pub meets_refuses : Refuses F f
  meets_refuses = record {
    listed = λ i. either i (λ o. (F.shown o).kind ≡ refusal → T (listed (F.shown o).number))
        (λ n l p e. subst (λ x. T (listed x)) (sym (m.proper.refusals i n l).number) l)
        (λ o p e. absurd ((accepted i o p).0 e));
    unchanged = λ i. either i (λ o. (F.shown o).kind ≡ refusal → o ≡ F.refusing i (F.shown o).number)
        (λ n l p e. ap (F.refusing i) (sym (m.proper.refusals i n l).number))
        (λ o p e. absurd ((accepted i o p).0 e));
    no_value = λ i. either i (λ o. (F.shown o).kind ≡ refusal → (F.shown o).values ≡ replicate (length (F.shown o).values) (pos 0))
        (λ n l p e. (m.proper.refusals i n l).values)
        (λ o p e. absurd ((accepted i o p).0 e));
    number_0 = λ i. either i (λ o. (F.shown o).kind ≢ refusal → (F.shown o).number ≡ 0)
        (λ n l p x. absurd (x (m.proper.refusals i n l).kind))
        (λ o p x. (accepted i o p).1);
  }

  -- a call that is not of the kind refusal had its facts
  pub facts : (i : F.Input) → (F.shown (f i)).kind ≢ refusal → (o : F.Outcome) × Passes (F.rules i) o
  facts i = either i (λ x. (F.shown x).kind ≢ refusal → (o : F.Outcome) × Passes (F.rules i) o)
      (λ n l p x. absurd (x (m.proper.refusals i n l).kind))
      (λ o p x. (o, p))

  -- and one that has its facts is not refused
  pub done_so : (i : F.Input) (o : F.Outcome) → Passes (F.rules i) o → f i ≡ o
  done_so i o p = does_it m.answers i (answered o) (passes (F.rules i) o p)

-- ---- a call that goes by a table of tests

-- the table says row by row what the rules say; `say` is the outcome that an answer of the table makes
infixr 3 ◌and◌ ◌or_else◌and◌
pub data Reflects {A O : Type 0} (say : A → O) : Tests A → Rules O → Type 1 where
  ◌and◌ : {x : Refusal} {b : Bool} {P : Type 0} {t : Tests A} {r : Rules O} → WhereFalse P b → Reflects say t r → Reflects say (x if b else t) (x unless P then r)
  ◌or_else◌and◌ : {a : A} {o : O} {b : Bool} {P : Type 0} {t : Tests A} {r : Rules O} → WhereTrue P b → say a ≡ o → Reflects say t r
      → Reflects say (a when b else t) (o provided P else r)
  end : {a : A} {o : O} → say a ≡ o → Reflects say (otherwise a) (does o)

abbrev map_given : {A O : Type 0} → (A → O) → Given A → Given O
map_given say (refused n) = refused n
map_given say (answered a) = answered (say a)

-- so the rules give what the table gives
reflected : {A O : Type 0} {say : A → O} {t : Tests A} {r : Rules O} → Reflects say t r → Gives r (map_given say (numbered (tests.given t)))
reflected (◌and◌ {b = true} p rest) = inl (p.to, refl)
reflected (◌and◌ {b = false} p rest) = inr (p.from tt, reflected rest)
reflected (◌or_else◌and◌ {b = true} p e rest) = inl (p.from tt, ap answered e)
reflected (◌or_else◌and◌ {b = false} p e rest) = inr (p.to, reflected rest)
reflected (end e) = ap answered e

-- a call that makes its outcome of what its table gives meets its form
module _ {F : Form} {f : Implementation F} {A : F.Input → Type 0} (table : (i : F.Input) → Tests (A i)) (make : (i : F.Input) → Result (A i) Refusal → F.Outcome) where
  pub table_meets : ((i : F.Input) (n : ℕ) → T (listed n) → ShownAs n (F.shown (F.refusing i n))) → ((i : F.Input) → Each (Accepted F) (F.rules i))
      → ((i : F.Input) → f i ≡ make i (tests.given (table i))) → ((i : F.Input) (r : Refusal) → make i (Err r) ≡ F.refusing i (number r))
      → ((i : F.Input) → Reflects (λ a. make i (Ok a)) (table i) (F.rules i)) → Meets F f
  table_meets refusals others is refusing reflects = record {
    proper = record { refusals = refusals; others = others };
    answers = record {
      given = λ i. map_given (λ a. make i (Ok a)) (numbered (tests.given (table i)));
      by_rules = λ i. reflected (reflects i);
      done = λ i. is i ∙ made i (tests.given (table i));
    };
  }
    where
      made : (i : F.Input) (g : Result (A i) Refusal) → make i g ≡ outcome F i (map_given (λ a. make i (Ok a)) (numbered g))
      made i (Err r) = refusing i r
      made i (Ok a) = refl

-- so does one whose outcome is what its table gives
abbrev of_given : {I A : Type 0} → (Given A → Shown) → (I → Rules (Given A)) → Form
of_given {I} {A} shown rules = record { Input = I; Outcome = Given A; shown = shown; refusing = λ i. refused; rules = rules }

pub given_meets : {I A : Type 0} {shown : Given A → Shown} {rules : I → Rules (Given A)} {f : I → Given A} (table : I → Tests A) → ((n : ℕ) → ShownAs n (shown (refused n)))
    → ((i : I) → Each (Accepted (of_given shown rules)) (rules i)) → ((i : I) → f i ≡ numbered (tests.given (table i)))
    → ((i : I) → Reflects answered (table i) (rules i)) → Meets (of_given shown rules) f
given_meets table refusals others is reflects = table_meets table (λ i. numbered) (λ i n l. refusals n) others is (λ i r. refl) reflects

-- and one that answers what its table gives and, unless it refuses, leaves other octets in a buffer that it is lent
module _ {I A : Type 0} (buffer : I → List ℕ) where
  abbrev of_written : (Written (Given A) → Shown) → (I → Rules (Written (Given A))) → Form
  of_written shown rules = record { Input = I; Outcome = Written (Given A); shown = shown; refusing = λ i n. record { answer = refused n; octets = buffer i }; rules = rules }

  abbrev writes : (I → List ℕ) → I → Result A Refusal → Written (Given A)
  writes octets i g = record { answer = numbered g; octets = kept_of g (buffer i) (octets i) }

  pub written_meets : {shown : Written (Given A) → Shown} {rules : I → Rules (Written (Given A))} {f : I → Written (Given A)} (octets : I → List ℕ) (table : I → Tests A)
      → ((old : List ℕ) (n : ℕ) → ShownAs n (shown (record { answer = refused n; octets = old }))) → ((i : I) → Each (Accepted (of_written shown rules)) (rules i))
      → ((i : I) → f i ≡ writes octets i (tests.given (table i)))
      → ((i : I) → Reflects (λ a. record { answer = answered a; octets = octets i }) (table i) (rules i)) → Meets (of_written shown rules) f
  written_meets octets table refusals others is reflects = table_meets table (writes octets) (λ i n l. refusals (buffer i) n) others is (λ i r. refl) reflects

-- ---- a call around a call

mapped : {A B : Type 0} (h : A → B) (r : Rules A) (g : Given A) → Gives r g → Gives (map_rules h r) (map_given h g)
mapped h (n unless P then rest) g (inl (x, e)) = inl (x, ap (map_given h) e)
mapped h (n unless P then rest) g (inr (p, q)) = inr (p, mapped h rest g q)
mapped h (o provided P else rest) g (inl (p, e)) = inl (p, ap (map_given h) e)
mapped h (o provided P else rest) g (inr (x, q)) = inr (x, mapped h rest g q)
mapped h (does o) g e = ap (map_given h) e
mapped h (refuses n) g e = ap (map_given h) e

pub map_each : {A B : Type 0} (h : A → B) (Q : B → Type 0) (r : Rules A) → Each (λ a. Q (h a)) r → Each Q (map_rules h r)
map_each h Q (n unless P then rest) a = map_each h Q rest a
map_each h Q (o provided P else rest) (first, others) = (first, map_each h Q rest others)
map_each h Q (does o) a = a
map_each h Q (refuses n) a = a

-- what is given of what is read: a refusal, or what the inner call's rules give with something made of it
abbrev inner_given : {F : Form} {f : Implementation F} {O : Type 0} → Meets F f → (F.Outcome → O) → Result F.Input Refusal → Given O
inner_given m show (Err r) = refused (number r)
inner_given m show (Ok x) = map_given show (m.answers.given x)

module _ {F : Form} {f : Implementation F} (m : Meets F f) (W : Wrapper F) where
  pub record Wraps : Type 0 where
    pub refusing : (i : W.Input) (x : F.Input) (n : ℕ) → W.read i ≡ Ok x → W.show i (F.refusing x n) ≡ W.refusing i n
    pub refusals : (i : W.Input) (n : ℕ) → T (listed n) → ShownAs n (W.shown (W.refusing i n))
    pub others : (i : W.Input) (x : F.Input) → W.read i ≡ Ok x → Each (λ o. Accepted (wrapped F W) (W.show i o)) (F.rules x)

  module _ (w : Wraps) where
    by_rules_at : (i : W.Input) (g : Result F.Input Refusal) → Gives (rules_of F W i g) (inner_given m (W.show i) g)
    by_rules_at i (Err r) = refl
    by_rules_at i (Ok x) = mapped (W.show i) (F.rules x) (m.answers.given x) (m.answers.by_rules x)

    shown_at : (i : W.Input) (x : F.Input) → W.read i ≡ Ok x → (g : Given F.Outcome) → W.show i (outcome F x g) ≡ outcome (wrapped F W) i (map_given (W.show i) g)
    shown_at i x e (refused n) = w.refusing i x n e
    shown_at i x e (answered o) = refl

    done_at : (i : W.Input) (g : Result F.Input Refusal) → W.read i ≡ g → over F W f i g ≡ outcome (wrapped F W) i (inner_given m (W.show i) g)
    done_at i (Err r) e = refl
    done_at i (Ok x) e = ap (W.show i) (m.answers.done x) ∙ shown_at i x e (m.answers.given x)

    others_at : (i : W.Input) (g : Result F.Input Refusal) → W.read i ≡ g → Each (Accepted (wrapped F W)) (rules_of F W i g)
    others_at i (Err r) e = tt
    others_at i (Ok x) e = map_each (W.show i) (Accepted (wrapped F W)) (F.rules x) (w.others i x e)

    pub wrapped_meets : Meets (wrapped F W) (through F W f)
    wrapped_meets = record {
      proper = record {
        refusals = w.refusals;
        others = λ i. others_at i (W.read i) refl;
      };
      answers = record {
        given = λ i. inner_given m (W.show i) (W.read i);
        by_rules = λ i. by_rules_at i (W.read i);
        done = λ i. done_at i (W.read i) refl;
      };
    }

-- ---- a call around a call, with tests before it that the rules give in facts

-- the table says row by row what the rules say, and ends at the input x of the inner call
infixr 3 ◌before◌
pub data Leads (F : Form) {O : Type 0} (x : F.Input) (show : F.Outcome → O) : Tests F.Input → Rules O → Type 1 where
  ◌before◌ : {n : Refusal} {b : Bool} {P : Type 0} {t : Tests F.Input} {r : Rules O} → WhereFalse P b → Leads F x show t r → Leads F x show (n if b else t) (n unless P then r)
  inner : Leads F x show (otherwise x) (map_rules show (F.rules x))

-- an outcome of rules with something made of each is made of an outcome of the rules
pub unmapped : {A B : Type 0} (h : A → B) (r : Rules A) (o : B) → Passes (map_rules h r) o → (a : A) × Passes r a × (h a ≡ o)
unmapped h (n unless P then rest) o (p, q) = let (a, x, e) = unmapped h rest o q in (a, (p, x), e)
unmapped h (a provided P else rest) o (inl (p, e)) = (a, inl (p, refl), e)
unmapped h (x provided P else rest) o (inr (no-kiss, q)) = let (a, y, e) = unmapped h rest o q in (a, inr (no-kiss, y), e)
unmapped h (does a) o e = (a, refl, e)
unmapped h (refuses n) o p = absurd p

-- so the rules give what the table gives, with something made of what the inner call's rules give
module _ {F : Form} {f : Implementation F} (m : Meets F f) {O : Type 0} (show : F.Outcome → O) where
  led : {x : F.Input} {t : Tests F.Input} {r : Rules O} → Leads F x show t r → Gives r (inner_given m show (tests.given t))
  led (◌before◌ {b = true} p rest) = inl (p.to, refl)
  led (◌before◌ {b = false} p rest) = inr (p.from tt, led rest)
  led {x} inner = mapped show (F.rules x) (m.answers.given x) (m.answers.by_rules x)

led_each : {F : Form} {O : Type 0} {x : F.Input} {show : F.Outcome → O} {t : Tests F.Input} {r : Rules O} (Q : O → Type 0) → Leads F x show t r → Each (λ o. Q (show o)) (F.rules x) → Each Q r
led_each Q (p before rest) a = led_each Q rest a
led_each {F} {x = x} {show = show} Q inner a = map_each show Q (F.rules x) a

-- what a call of the form G does that refuses by a table, or else shows what the inner call does
abbrev pub around : (F G : Form) → Implementation F → (G.Input → F.Outcome → G.Outcome) → G.Input → Result F.Input Refusal → G.Outcome
around F G f show i (Err r) = G.refusing i (number r)
around F G f show i (Ok x) = show i (f x)

-- it meets its form if it shows an inner refusal as a refusal by the same number, and no other outcome as one
pub around_meets : {F G : Form} {f : Implementation F} {g : Implementation G} {table : G.Input → Tests F.Input} → Meets F f → (at : G.Input → F.Input) (show : G.Input → F.Outcome → G.Outcome)
    → ((i : G.Input) → Leads F (at i) (show i) (table i) (G.rules i)) → ((i : G.Input) → g i ≡ around F G f show i (tests.given (table i)))
    → ((i : G.Input) (n : ℕ) → show i (F.refusing (at i) n) ≡ G.refusing i n) → ((i : G.Input) (n : ℕ) → T (listed n) → ShownAs n (G.shown (G.refusing i n)))
    → ((i : G.Input) → Each (λ o. Accepted G (show i o)) (F.rules (at i))) → Meets G g
around_meets {F} {G} {f} {table = table} m at show leads is refusing refusals others = record {
  proper = record { refusals = refusals; others = λ i. led_each (Accepted G) (leads i) (others i) };
  answers = record { given = λ i. inner_given m (show i) (tests.given (table i)); by_rules = λ i. led m (show i) (leads i); done = λ i. is i ∙ done i (leads i) };
}
  where
    shown_so : (i : G.Input) (g : Given F.Outcome) → show i (outcome F (at i) g) ≡ outcome G i (map_given (show i) g)
    shown_so i (refused n) = refusing i n
    shown_so i (answered o) = refl

    done : (i : G.Input) {t : Tests F.Input} {r : Rules G.Outcome} → Leads F (at i) (show i) t r → around F G f show i (tests.given t) ≡ outcome G i (inner_given m (show i) (tests.given t))
    done i (◌before◌ {b = true} p rest) = refl
    done i (◌before◌ {b = false} p rest) = done i rest
    done i inner = ap (show i) (m.answers.done (at i)) ∙ shown_so i (m.answers.given (at i))

-- ---- what does the same meets the same

pub same_program : {F : Form} {f g : Implementation F} → ((i : F.Input) → f i ≡ g i) → Meets F g → Meets F f
same_program e m = record {
  proper = m.proper;
  answers = record { given = m.answers.given; by_rules = m.answers.by_rules; done = λ i. e i ∙ m.answers.done i };
}
