-- The calls on a list: what they give on the records that are lent, with 46 in place of 35 and 29 if the list is not legal, is what the rules say of the list.
use mathlib.Core.Path.{◌≡◌, refl, sym, ap, ◌∙◌}
use mathlib.Core.Bool.{Bool, true, false, not, cond, ◌&&◌}
use mathlib.Core.List.{List, []}
use Prim.Native.Nat.{ℕ, ◌≤◌, ◌<◌}
use native.Mathlib.Omega.{arith}
use borrow.Author.Tests.{leb-false, le-leb, lt-leb, eq-eqb}
use lib.Dec.{leb}
use lib.ListN.{length, set, take}
use lib.Seq.{get_or-set_same, get_or-take, ext_get_or, length-take-le}
use Rattle.arithmetic.specs.Octets.{AreOctets}
use Rattle.client.specs.declared.Client.{Client}
use Rattle.client.specs.Record.{fresh}
use Rattle.client.specs.declared.Called.{Called}
use Rattle.client.specs.Ask.{after_ask}
use Rattle.client.specs.GiveUp.{gave_up}
use Rattle.client.specs.Calls.{Told, said_call, said_arrival}
use Rattle.std.specs.Prelude.{Result, Ok, Err, min}
use Rattle.refusals.specs.declared.Refusal.{Refusal}
use Rattle.refusals.specs.declared.Refusal.TheVariants.{NotInList, RecordNotLegal, ImageNotLegal}
use Rattle.refusals.specs.Numbers as refusals
use Rattle.ordered_tests.specs.Tests.{Tests, ◌if◌else◌, otherwise, answer, kept, kept_of, pass}
use Rattle.ordered_tests.proofs.Reflection.{is_false}
use Rattle.reply_checks.specs.declared.ArrivalAnswer.{ArrivalAnswer}
use Rattle.timestamp.specs.Timestamp.{timestamp}
use Rattle.token.specs.Token as tokens
use Rattle.association_rules.specs.InUse.{outside}
use Rattle.association_rules.specs.Associations as associations
use Rattle.association_rules.specs.Associations.{any_illegal, association, list_tests, asked_for, list_after_ask, buffer_after_ask, gave_up_for, list_after_give_up, arrived_at, arrived_for, list_after_arrival}
use Rattle.association_rules.proofs.Lists.{few, listed}
use Rattle.refusals.specs.Given.{result_number}
use Rattle.firmware.specs.Numbers.{number_of}
use Rattle.firmware_layouts.specs.Answer.{answer_in, with_answer}
use Rattle.firmware_list.specs.Images.{count, is_list, list_has_values, records_in, images_of, HoldsFirst, lent_of, outer_answer, with_record}
use Rattle.firmware_list.specs.Calls.{LentCall, ask, arrival, give_up, inner, slices_fit, admitted, number, next_list, list_after, in_use_after, buffer_after, answer_after}
use Rattle.firmware_list.proofs.Records.{length_records, numbered, stored, legal_list, and_true}

-- more than eight records are refused by 35
many : (n at in_use : ℕ) → 8 < n → outside n at in_use ≡ true
many n at in_use h = go (outside n at in_use) refl
  where
    go : (b : Bool) → outside n at in_use ≡ b → outside n at in_use ≡ true
    go true e = e
    go false e = let short = few n at in_use ((is_false _).to e) in absurd (omega arith)

-- and so is none
empty : (at in_use : ℕ) → outside 0 at in_use ≡ true
unfolding outside
empty at in_use = refl

-- a legal list's refusals stay as they are
legal_answer : {A : Type 0} (a : Result A Refusal) → outer_answer true a ≡ a
legal_answer (Err r) = refl
legal_answer (Ok told) = refl

-- the number of a call that tells nothing but a refusal
number_call : (a : Result (Unit {0}) Refusal) → result_number (outer_answer true a) ≡ number_of (said_call a)
number_call (Err r) = refl
number_call (Ok u) = refl

-- the tests before the client's own
abbrev tests : {A : Type 0} → (b i : Bool) → Tests A → Tests A
tests b i rest =
    NotInList if b else
    RecordNotLegal if i else
    rest

module _ (list : List ℕ) where
  -- ---- the records that are lent

  module _ (records : List Client) (eight : length records ≡ 8) where
    pub all_lent : list_has_values list ≡ true → HoldsFirst records (count list) list → count list ≤ 8 → take (count list) records ≡ lent_of list
    all_lent values holds short =
        let n = length-take-le (count list) records (omega (arith, eight)) in
        rw (le-leb (count list) 8 short, values)
        (ext_get_or fresh (take (count list) records) (records_in list) (n ∙ sym (length_records (count list) list)) (λ k inside.
        let h : k < count list = omega (arith, n) in
        get_or-take (count list) records k fresh h ∙ holds k h (omega arith) ∙ sym (numbered (count list) k list h)))

  pub none_lent : 8 < count list → [] ≡ lent_of list
  none_lent more = rw (lt-leb (count list) 8 more)

  pub values_not_lent : list_has_values list ≡ false → [] ≡ lent_of list
  values_not_lent e = go (leb (count list) 8)
    where
      go : (b : Bool) → [] ≡ cond (b && list_has_values list) (records_in list) []
      go true = rw e
      go false = refl

  next_call : (a : Result (Unit {0}) Refusal) (cs : List Client) → kept_of a list (images_of cs) ≡ next_list list (said_call a) cs
  next_call (Err r) cs = refl
  next_call (Ok u) cs = refl

  next_arrival : (a : Result ArrivalAnswer Refusal) (cs : List Client) → kept_of a list (images_of cs) ≡ next_list list (said_arrival a) cs
  next_arrival (Err r) cs = refl
  next_arrival (Ok (ArrivalAnswer.Accepted m)) cs = refl
  next_arrival (Ok (ArrivalAnswer.Kiss code row)) cs = refl

  -- ---- what the inner call gives on the records that are lent

  legal_values : is_list list ≡ true → list_has_values list ≡ true
  legal_values e = (and_true (list_has_values list) _ (sym (legal_list list) ∙ e)).0

  illegal_record : is_list list ≡ false → list_has_values list ≡ true → any_illegal (records_in list) ≡ true
  illegal_record e v = go (any_illegal (records_in list)) (rw v at (sym (legal_list list) ∙ e))
    where
      go : (i : Bool) → not i ≡ false → i ≡ true
      go true h = refl
      go false h = sym h

  module _ (at in_use : ℕ) where
    -- of a legal list: its records, or there are too many of them and 35 is given of both
    of_legal : {B : Type 0} (g : List Client → B) → is_list list ≡ true
        → ((l m : List Client) → outside (length l) at in_use ≡ true → outside (length m) at in_use ≡ true → g l ≡ g m)
        → g (lent_of list) ≡ g (records_in list)
    of_legal {B} g is refused = go (leb (count list) 8) refl
      where
        go : (b : Bool) → leb (count list) 8 ≡ b → g (lent_of list) ≡ g (records_in list)
        go true e = rw (e, legal_values is)
        go false e =
            let long = leb-false (count list) 8 e in
            rw e (refused [] (records_in list) (empty at in_use) (rw (length_records (count list) list) (many (count list) at in_use (omega arith))))

    -- of a list that is not legal: none, which 35 refuses, or one of them is illegal, and 35 or 29 is given
    of_illegal : {B : Type 0} (g : List Client → B) (old : B) → is_list list ≡ false
        → ((l : List Client) → outside (length l) at in_use ≡ true → g l ≡ old)
        → ((l : List Client) → outside (length l) at in_use ≡ false → any_illegal l ≡ true → g l ≡ old)
        → g (lent_of list) ≡ old
    of_illegal {B} g old isnt by_35 by_29 = go (leb (count list) 8 && list_has_values list) refl
      where
        tested : (b : Bool) → outside (length (records_in list)) at in_use ≡ b → any_illegal (records_in list) ≡ true → g (records_in list) ≡ old
        tested true e i = by_35 (records_in list) e
        tested false e i = by_29 (records_in list) e i

        go : (b : Bool) → leb (count list) 8 && list_has_values list ≡ b → g (lent_of list) ≡ old
        go true e = rw e (tested _ refl (illegal_record isnt (and_true (leb (count list) 8) _ e).1))
        go false e = rw e (by_35 [] (empty at in_use))

    -- of both: a legal list gives what its records do, and any other what a refusal does
    module _ (x : LentCall) (fits : slices_fit x ≡ true) where
      same : {B : Type 0} (g : (is_legal : Bool) → List Client → B) (old new : B)
          → ((l m : List Client) → outside (length l) at in_use ≡ true → outside (length m) at in_use ≡ true → g true l ≡ g true m)
          → ((l : List Client) → outside (length l) at in_use ≡ true → g false l ≡ old)
          → ((l : List Client) → outside (length l) at in_use ≡ false → any_illegal l ≡ true → g false l ≡ old)
          → (is_list list ≡ true → g true (records_in list) ≡ new)
          → g (is_list list) (lent_of list) ≡ cond (admitted list x) new old
      same {B} g old new refused by_35 by_29 is_new = go (is_list list) refl
        where
          go : (b : Bool) → is_list list ≡ b → g (is_list list) (lent_of list) ≡ cond (admitted list x) new old
          go true e = rw (e, fits) (of_legal (g true) e refused ∙ is_new e)
          go false e = rw e (of_illegal (g false) old e by_35 by_29)

      -- ---- the list after a call f

      module _ (o : AreOctets list) where
        -- the record that is handed back is stored where the rules have it
        nexts : {A : Type 0} (b i : Bool) (a : Result A Refusal) (c : Client) → is_list list ≡ true → (b ≡ false → at < length (records_in list))
            → let told = answer Err (tests b i (otherwise a)) in let left = kept (tests b i pass) (records_in list) (set (records_in list) at c) in
            kept_of told list (with_record list at (association left at)) ≡ kept_of told list (images_of left)
        nexts true i a c is inside = refl
        nexts false true a c is inside = refl
        nexts false false (Err r) c is inside = refl
        nexts false false (Ok a) c is inside = rw (get_or-set_same (records_in list) at c fresh (inside refl)) (stored list is o at c)

        module _ {A : Type 0} (f : List Client → Called A) where
          abbrev answer_on : List Client → Result A Refusal
          answer_on l = answer Err (list_tests l at in_use (otherwise (f l).answer))

          abbrev list_on : List Client → List Client
          list_on l = associations.list_after l at in_use (f l).client

          abbrev stored_on : List Client → List ℕ
          stored_on l = kept_of (answer_on l) list (with_record list at (association (list_on l) at))

          same_list : (new : List ℕ) → kept_of (answer_on (records_in list)) list (images_of (list_on (records_in list))) ≡ new
              → stored_on (lent_of list) ≡ cond (admitted list x) new list
          same_list new is_new =
              let called = f (records_in list) in
              same (λ is_legal. stored_on) list new (λ l m a b. rw (a, b)) (λ l a. rw a) (λ l a b. rw (a, b)) (λ is.
              nexts (outside (length (records_in list)) at in_use) (any_illegal (records_in list)) called.answer called.client is
              (λ e. listed (length (records_in list)) at in_use ((is_false _).to e))
              ∙ is_new)

    given_number : (x : LentCall) → cond (admitted list x) (number_of (inner (records_in list) at in_use x).result) (refusals.number ImageNotLegal) ≡ number list at in_use x
    unfolding number
    given_number x = go (admitted list x) (number_of (inner (records_in list) at in_use x).result)
      where
        go : (b : Bool) (n : ℕ) → cond b n (refusals.number ImageNotLegal) ≡ answer refusals.number (ImageNotLegal if not b else otherwise n)
        go true n = refl
        go false n = refl

    -- ---- the three calls

    module _ (buffer : List ℕ) (version clock token uptime : ℕ) where
      abbrev asking : LentCall
      asking = ask buffer version clock token uptime

      abbrev asked : List Client → Result (Unit {0}) Refusal
      asked l = (asked_for l at in_use (length buffer) (min version 255) (timestamp clock) (tokens.token token) uptime).answer

      abbrev asked_records : List Client → List Client
      asked_records l = list_after_ask l at in_use (length buffer) (min version 255) (timestamp clock) (tokens.token token) uptime

      pub ask_number : result_number (outer_answer (is_list list) (asked (lent_of list))) ≡ number list at in_use asking
      unfolding asked_for
      ask_number =
          same asking refl (λ is_legal l. result_number (outer_answer is_legal (asked l))) _ _ (λ l m a b. rw (a, b)) (λ l a. rw a) (λ l a b. rw (a, b)) (λ is. number_call _)
          ∙ given_number asking

      pub ask_buffer : buffer_after_ask (lent_of list) at in_use buffer (min version 255) (timestamp clock) (tokens.token token) uptime ≡ buffer_after list at in_use asking
      unfolding buffer_after_ask buffer_after
      ask_buffer = same asking refl (λ is_legal l. buffer_after_ask l at in_use buffer (min version 255) (timestamp clock) (tokens.token token) uptime) _ _ (λ l m a b. rw (a, b)) (λ l a. rw a) (λ l a b. rw (a, b)) (λ is. refl)

      pub ask_list : AreOctets list → kept_of (asked (lent_of list)) list (with_record list at (association (asked_records (lent_of list)) at)) ≡ list_after list at in_use asking
      unfolding asked_for list_after_ask list_after
      ask_list o = same_list asking refl o (λ l. after_ask (association l at) (length buffer) (min version 255) (timestamp clock) (tokens.token token) uptime) _ (next_call _ _)

    module _ (slice : List ℕ) (t4 : ℕ) (packet : List ℕ) where
      abbrev arriving : LentCall
      arriving = arrival slice t4 packet

      abbrev arrived : List Client → Result ArrivalAnswer Refusal
      arrived l = (arrived_for l at in_use packet (timestamp t4)).answer

      abbrev told : (is_legal : Bool) → List Client → Told
      told is_legal l = said_arrival (outer_answer is_legal (arrived l))

      module _ (n : length slice ≡ 24) where
        fits : slices_fit arriving ≡ true
        fits = eq-eqb (length slice) 24 n

        pub arrival_number : number_of (told (is_list list) (lent_of list)) ≡ number list at in_use arriving
        unfolding arrived_for
        arrival_number =
            same arriving fits (λ is_legal l. number_of (told is_legal l)) _ _ (λ l m a b. rw (a, b)) (λ l a. rw a) (λ l a b. rw (a, b)) (λ is. ap (λ a. number_of (said_arrival a)) (legal_answer _))
            ∙ given_number arriving

        pub arrival_told : with_answer slice (told (is_list list) (lent_of list)) ≡ answer_after list at in_use arriving
        unfolding arrived_for answer_in answer_after
        arrival_told =
            same arriving fits (λ is_legal l. with_answer slice (told is_legal l)) _ _ (λ l m a b. rw (a, b)) (λ l a. rw (fits, a)) (λ l a b. rw (fits, a, b))
            (λ is. rw fits (ap (λ a. answer_in slice (said_arrival a)) (legal_answer _)))

        pub arrival_in_use : (arrived_for (lent_of list) at in_use packet (timestamp t4)).in_use ≡ in_use_after list at in_use arriving
        unfolding arrived_for in_use_after
        arrival_in_use = same arriving fits (λ is_legal l. (arrived_for l at in_use packet (timestamp t4)).in_use) _ _ (λ l m a b. rw (a, b)) (λ l a. rw a) (λ l a b. rw (a, b)) (λ is. refl)

        pub arrival_list : AreOctets list
            → kept_of (arrived (lent_of list)) list (with_record list at (association (list_after_arrival (lent_of list) at in_use packet (timestamp t4)) at)) ≡ list_after list at in_use arriving
        unfolding arrived_for list_after_arrival list_after
        arrival_list o = same_list arriving fits o (λ l. arrived_at l at packet (timestamp t4)) _ (next_arrival _ _)

    module _ (uptime : ℕ) where
      abbrev giving_up : LentCall
      giving_up = give_up uptime

      pub give_up_number : result_number (outer_answer (is_list list) (gave_up_for (lent_of list) at in_use uptime).answer) ≡ number list at in_use giving_up
      unfolding gave_up_for
      give_up_number =
          same giving_up refl (λ is_legal l. result_number (outer_answer is_legal (gave_up_for l at in_use uptime).answer)) _ _ (λ l m a b. rw (a, b)) (λ l a. rw a) (λ l a b. rw (a, b)) (λ is. number_call _)
          ∙ given_number giving_up

      pub give_up_list : AreOctets list
          → kept_of (gave_up_for (lent_of list) at in_use uptime).answer list (with_record list at (association (list_after_give_up (lent_of list) at in_use uptime) at)) ≡ list_after list at in_use giving_up
      unfolding gave_up_for list_after_give_up list_after
      give_up_list o = same_list giving_up refl o (λ l. gave_up (association l at) uptime) _ (next_call _ _)

-- what the calls for C use: what the library's calls give on the records that are lent is what the rules say of the list
pub ruleset on_lent = (ask_number, ask_buffer, ask_list, arrival_number, arrival_told, arrival_in_use, arrival_list, give_up_number, give_up_list)
