-- What reading an image says of it, and an answer slice after a refusal.
use Rattle.std.proofs.Common.{◌≡◌, refl, ℕ, Bool, true, false, cond, List, length}
use lib.Dec.{eqb}
use Rattle.std.specs.Prelude.{Some}
use Rattle.client.specs.declared.Client.{Client}
use Rattle.client.specs.Calls.{refused}
use Rattle.firmware_layouts.specs.Image.{is_image, record_in, image_read}
use Rattle.firmware_layouts.specs.Answer.{answer_in, with_answer}

module _ (image : List ℕ) where
  pub an_image : (c : Client) → image_read image ≡ Some c → (is_image image ≡ true) × (record_in image ≡ c)
  unfolding image_read
  an_image c q = go (is_image image) refl
    where
      go : (b : Bool) → is_image image ≡ b → (is_image image ≡ true) × (record_in image ≡ c)
      go true e = let r = rw e at q in (e, cc)
      go false e = absurd (cc (rw e at q))

either_way : (b : Bool) (x : List ℕ) → x ≡ cond b x x
either_way true x = refl
either_way false x = refl

pub kept : (slice : List ℕ) (n : ℕ) → slice ≡ with_answer slice (refused n)
unfolding answer_in
kept slice n = either_way (eqb (length slice) 24) slice
