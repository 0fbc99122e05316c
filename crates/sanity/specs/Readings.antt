-- Both root fields are 32 bits. Refusal 33 is given alike whether those of the root delay are read as a signed or as an unsigned number: the bits of a
-- negative one are 2^31 or more. Refusal 34 is not: a root dispersion of 2^31 or more, read as signed, would be negative, and pass.
use Rattle.std.specs.Prelude.{ℕ, ◌^◌, ◌≤◌, ◌<◌, ◌≡◌, true, false, pos}
use Rattle.std.specs.Int.Signed.{le_z}
use Rattle.arithmetic.specs.TwosComplement.{signed}
use Rattle.sanity.specs.Sanity.{is_root_delay_out_of_range, is_root_dispersion_too_large}

pub record Readings : Type 0 where
  pub delay_either : (n : ℕ) → n < 2 ^ 32 → is_root_delay_out_of_range (signed 32 n) ≡ is_root_dispersion_too_large n
  pub dispersion_unsigned : (n : ℕ) → 2 ^ 31 ≤ n → n < 2 ^ 32 → (is_root_dispersion_too_large n ≡ true) × (le_z (pos 65536) (signed 32 n) ≡ false)
