-- The sanity checks of a reply's own fields (docs/RULES.md, "The client"; RFC 4330, section 5). That the packet answers the request is tested before them,
-- and its four timestamps together after them.
use Rattle.std.specs.Prelude.{ℕ, Bool, ◌||◌, eqb, leb, ltb, ℤ, pos}
use Rattle.std.specs.Int.Signed.{le_z}
use Rattle.refusals.specs.declared.Refusal.TheVariants.{OwnClockZero, ServerUnsynchronised, StratumTooHigh, ServerTimestampZero, RootDelayOutOfRange, RootDispersionTooLarge}
use Rattle.ordered_tests.specs.Tests.{Tests, ◌if◌else◌}
use Rattle.timestamp.specs.declared.Timestamp.{Timestamp}
use Rattle.timestamp.specs.Timestamp.{is_zero, negative}
use Rattle.packet.specs.declared.Fields.{Fields}

-- the reply is of use; then the rest
abbrev pub header_tests : {A : Type 0} → Fields → Timestamp → Tests A → Tests A
header_tests f t4 rest =
    OwnClockZero if is_zero t4 else
    ServerUnsynchronised if eqb f.leap 3 else
    StratumTooHigh if ltb 15 f.stratum else
    ServerTimestampZero if is_zero f.receive || is_zero f.transmit else
    rest

-- a root delay, signed, and a root dispersion, unsigned, that are not at least 0 and below one second; they have 16 fraction bits, so that 65536 is one
-- second
abbrev pub is_root_delay_out_of_range : ℤ → Bool
is_root_delay_out_of_range delay = negative delay || le_z (pos 65536) delay

abbrev pub is_root_dispersion_too_large : ℕ → Bool
is_root_dispersion_too_large dispersion = leb 65536 dispersion

-- the server has not lost its own source (RFC 4330, section 5, check 5); then the rest
abbrev pub root_tests : {A : Type 0} → Fields → Tests A → Tests A
root_tests f rest =
    RootDelayOutOfRange if is_root_delay_out_of_range f.root_delay else
    RootDispersionTooLarge if is_root_dispersion_too_large f.root_dispersion else
    rest
