-- Uptimes in whole seconds, and the poll exponent (docs/RULES.md, "The client" and the numbers 6 and 20).
use Rattle.std.specs.Prelude.{ℕ, suc, min, ◌+◌, Bool, ltb}

-- the uptime is below an earlier one, or less than this number of seconds past it
unfoldable pub too_soon : ℕ → ℕ → ℕ → Bool
too_soon since seconds uptime = ltb uptime (since + seconds)

-- the exponent one more, at most 14
abbrev pub backed_off : ℕ → ℕ
backed_off exponent = min (suc exponent) 14
