-- Lists of records and lists of images, and that each call agrees with the inner one. proofs/Laws.antt proves `Laws`.
use Rattle.std.specs.Prelude.{◌≡◌, true, false, List, [], ◌∷◌, ℕ}
use Rattle.arithmetic.specs.Octets.{AreOctets}
use Rattle.refusals.specs.declared.Refusal.TheVariants.{ImageNotLegal}
use Rattle.refusals.specs.Numbers as refusals
use Rattle.client.specs.declared.Client.{Client}
use Rattle.client.specs.Record.{illegal}
use Rattle.firmware_layouts.specs.Laws.{Typed}
use Rattle.firmware_layouts.specs.Answer.{answer_in}
use Rattle.firmware.specs.Numbers.{number_of}
use Rattle.firmware_list.specs.Images.{is_list, records_in, images_of}
use Rattle.firmware_list.specs.Calls.{LentCall, inner, admitted, number, next_list, list_after, in_use_after, lent_buffer, buffer_after, lent_answer, answer_after}

-- each record is legal, and its numbers are values of their types
abbrev pub EachLegal : List Client → Type 0
EachLegal [] = Unit {0}
EachLegal (c ∷ rest) = ((illegal c ≡ false) × Typed c) × EachLegal rest

-- the call does what the inner call does with the list's records
pub record Agrees (list : List ℕ) (at in_use : ℕ) (x : LentCall) : Type 0 where
  pub number_is : number list at in_use x ≡ number_of (inner (records_in list) at in_use x).result
  pub list_is : list_after list at in_use x ≡ next_list list (inner (records_in list) at in_use x).result (inner (records_in list) at in_use x).records
  pub in_use_is : in_use_after list at in_use x ≡ (inner (records_in list) at in_use x).in_use
  pub buffer_is : buffer_after list at in_use x ≡ (inner (records_in list) at in_use x).octets
  pub answer_is : answer_after list at in_use x ≡ answer_in (lent_answer x) (inner (records_in list) at in_use x).result

-- the call changes nothing, and gives 46
pub record Refuses (list : List ℕ) (at in_use : ℕ) (x : LentCall) : Type 0 where
  pub number_is : number list at in_use x ≡ refusals.number ImageNotLegal
  pub list_is : list_after list at in_use x ≡ list
  pub in_use_is : in_use_after list at in_use x ≡ in_use
  pub buffer_is : buffer_after list at in_use x ≡ lent_buffer x
  pub answer_is : answer_after list at in_use x ≡ lent_answer x

pub record Laws : Type 0 where
  -- the images of legal records are a list, and its records are these
  pub has_list : (records : List Client) → EachLegal records → (is_list (images_of records) ≡ true) × (records_in (images_of records) ≡ records)
  -- each list is the images of its records
  pub one_list : (list : List ℕ) → AreOctets list → is_list list ≡ true → images_of (records_in list) ≡ list
  -- where 46 is not given the call agrees with the inner one
  pub agrees : (list : List ℕ) (at in_use : ℕ) (x : LentCall) → admitted list x ≡ true → Agrees list at in_use x
  pub refuses : (list : List ℕ) (at in_use : ℕ) (x : LentCall) → admitted list x ≡ false → Refuses list at in_use x
