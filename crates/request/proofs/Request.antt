-- The octets of a request are those of its fields.
use mathlib.Core.Path.{◌≡◌, ap, ◌∙◌}
use mathlib.Core.List.{◌++◌}
use Prim.Native.Nat.{ℕ}
use native.Mathlib.Nat.{zero-add}
use borrow.Author.Tests.{le-ltb}
use lib.ListN.{drop}
use Rattle.arithmetic.specs.Modulo.{◌modulo◌}
use Rattle.arithmetic.specs.TwosComplement.{bits}
use Rattle.arithmetic.specs.Octets.{octets}
use Rattle.token.specs.declared.Token.{Token}
use Rattle.packet.specs.Packet.{octets_of}
use Rattle.packet.proofs.Packet.{octets_written}
use Rattle.request.specs.Request.{request, request_fields, RequestOctets}

pub request_octets : (version : ℕ) (token : Token) → octets_of (request_fields version token) ≡ request version token
unfolding octets_of octets bits ◌modulo◌ request
request_octets version token = rw zero-add

pub request_written : RequestOctets
request_written b version token long small =
    octets_written b (request_fields version token) long (rw (le-ltb 7 version small)) ∙ ap (λ o. o ++ drop 48 b) (request_octets version token)
