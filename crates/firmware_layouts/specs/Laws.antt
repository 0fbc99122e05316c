-- Records and images: each legal record has one image, and each image is that of one legal record.
use Rattle.std.specs.Prelude.{◌≡◌, List, false, ℕ, ◌^◌, ◌<◌, replicate, Some}
use Rattle.arithmetic.specs.Octets.{AreOctets}
use Rattle.client.specs.declared.Client.{Client}
use Rattle.client.specs.Record.{fresh, illegal}
use Rattle.firmware_layouts.specs.Image.{image_of, image_read}

-- the record's 64-bit numbers are values of their types; what the others are is the legal record's
pub record Typed (c : Client) : Type 0 where
  pub t1 : c.t1.0 < 2 ^ 64
  pub token : c.token.0 < 2 ^ 64
  pub uptime : c.uptime < 2 ^ 64

-- the octets are an image, that of this record
abbrev pub IsImageOf : List ℕ → Client → Type 0
IsImageOf image c = image_read image ≡ Some c

pub record Laws : Type 0 where
  -- each legal record has an image
  pub has_image : (c : Client) → Typed c → illegal c ≡ false → IsImageOf (image_of c) c
  -- and no other
  pub one_image : (image : List ℕ) (c : Client) → AreOctets image → IsImageOf image c → image ≡ image_of c
  -- each image is that of a legal record
  pub is_legal : (image : List ℕ) (c : Client) → AreOctets image → IsImageOf image c → (illegal c ≡ false) × Typed c
  -- and of no other
  pub one_record : (image : List ℕ) (c d : Client) → IsImageOf image c → IsImageOf image d → c ≡ d
  -- 32 zero octets are the image of the client that has never asked
  pub fresh_zero : image_of fresh ≡ replicate 32 0
