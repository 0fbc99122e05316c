-- The numbers that a caller may see, as the rules' table has them. Each refusal of the code has one.
use Rattle.std.specs.Prelude.{ℕ, Bool, false, ◌||◌, List, [], ◌∷◌, eqb}
use Rattle.refusals.specs.declared.Refusal.{Refusal}
use Rattle.refusals.specs.declared.Refusal.TheVariants.{BufferTooShort, VersionUnsupported, OwnClockZero, ClientStopped, AlreadyWaiting, AskedTooSoon, PacketLengthWrong, NotWaiting, OriginateMismatch, ReplyModeWrong, VersionMismatch, ServerUnsynchronised, StratumTooHigh, ServerTimestampZero, ArrivedBeforeSent, ArrivedTooLate, AnsweredBeforeReceived, DelayNegative, FirstBelowSecond, GaveUpTooSoon, RequestModeWrong, RequestVersionUnsupported, SettingsOutOfRange, TimestampZero, NoSuchDate, OutsideWindow, FieldTooLarge, TickOutOfRange, RecordNotLegal, EntryTooLarge, DebtTooLarge, LimitOutOfRange, RootDelayOutOfRange, RootDispersionTooLarge, NotInList, BroadcastModeWrong, BroadcastVersionUnsupported, BroadcastUnsynchronised, BroadcastStratumWrong, BroadcastTransmitZero, PollOutOfRange, TokenZero, NoOrder, FieldNotAdded, TimeLengthWrong, ImageNotLegal, LineMalformed}

abbrev pub number : Refusal → ℕ
-- buffer under 48 octets
number BufferTooShort = 1
-- asked version not 1 to 4
number VersionUnsupported = 2
-- own clock reading zero
number OwnClockZero = 3
-- client stopped
number ClientStopped = 4
-- already waiting
number AlreadyWaiting = 5
-- asked before, and uptime is below that uptime or less than 2^exponent s past it
number AskedTooSoon = 6
-- packet shorter than 48 octets, longer than 1024, or with a tail that breaks the rules (docs/RULES.md, "Extension fields")
number PacketLengthWrong = 7
-- not waiting
number NotWaiting = 8
-- originate differs from the request's transmit
number OriginateMismatch = 9
-- mode not 4
number ReplyModeWrong = 10
-- version differs from the request's
number VersionMismatch = 11
-- LI 3
number ServerUnsynchronised = 12
-- stratum above 15
number StratumTooHigh = 13
-- receive or transmit zero
number ServerTimestampZero = 14
-- T4 - T1 negative
number ArrivedBeforeSent = 15
-- T4 - T1 above 2^36
number ArrivedTooLate = 16
-- T3 - T2 negative
number AnsweredBeforeReceived = 17
-- D negative
number DelayNegative = 18
-- P below Q
number FirstBelowSecond = 19
-- uptime below the request's, or under 16 s past it
number GaveUpTooSoon = 20
-- request mode not 3
number RequestModeWrong = 21
-- request version not 1 to 4
number RequestVersionUnsupported = 22
-- set LI not 0 to 2, or set precision not in -32 to 0
number SettingsOutOfRange = 23
-- timestamp zero, also one that a date or a Unix time would have
number TimestampZero = 24
-- no such date or time, or nanoseconds of 10^9 or more
number NoSuchDate = 25
-- outside 1968-01-20 03:14:08 to 2104-02-26 09:42:23, fractions included
number OutsideWindow = 26
-- field to write too large (LI over 3, VN or mode over 7; for C also a number that the 8, 16 or 32 bits of its field do not hold)
number FieldTooLarge = 27
-- tick zero or above 2^32
number TickOutOfRange = 28
-- record handed in not legal
number RecordNotLegal = 29
-- half not 0 or 1, or an entry of 2^41 half units or more in size
number EntryTooLarge = 30
-- the debt would reach 2^50 half units in size
number DebtTooLarge = 31
-- limit not 1 to 2^32 half units
number LimitOutOfRange = 32
-- root delay, signed, negative or 65536 or more
number RootDelayOutOfRange = 33
-- root dispersion, unsigned, 65536 or more
number RootDispersionTooLarge = 34
-- list of records empty or of more than eight, or a record number, the one in use included, not in it
number NotInList = 35
-- broadcast packet: mode not 5
number BroadcastModeWrong = 36
-- broadcast packet: VN not 1 to 4
number BroadcastVersionUnsupported = 37
-- broadcast packet: LI 3
number BroadcastUnsynchronised = 38
-- broadcast packet: stratum not 1 to 15
number BroadcastStratumWrong = 39
-- broadcast packet: transmit timestamp zero
number BroadcastTransmitZero = 40
-- set poll not 4 to 14
number PollOutOfRange = 41
-- token zero
number TokenZero = 42
-- two timestamps exactly 2^63 units apart: no order
number NoOrder = 43
-- extension field not added: an authenticator at the end of the packet, or no room in the buffer or in 1024 octets
number FieldNotAdded = 44
-- Time Protocol: a length to read other than 4, or a buffer under 4
number TimeLengthWrong = 45
-- C: an image that is not 32 octets or that no legal record has, also one of a list, or an answer slice that is not 24
number ImageNotLegal = 46
-- replay line malformed
number LineMalformed = 64

-- all of them
abbrev pub numbers : List ℕ
numbers =
    number BufferTooShort
    ∷ number VersionUnsupported
    ∷ number OwnClockZero
    ∷ number ClientStopped
    ∷ number AlreadyWaiting
    ∷ number AskedTooSoon
    ∷ number PacketLengthWrong
    ∷ number NotWaiting
    ∷ number OriginateMismatch
    ∷ number ReplyModeWrong
    ∷ number VersionMismatch
    ∷ number ServerUnsynchronised
    ∷ number StratumTooHigh
    ∷ number ServerTimestampZero
    ∷ number ArrivedBeforeSent
    ∷ number ArrivedTooLate
    ∷ number AnsweredBeforeReceived
    ∷ number DelayNegative
    ∷ number FirstBelowSecond
    ∷ number GaveUpTooSoon
    ∷ number RequestModeWrong
    ∷ number RequestVersionUnsupported
    ∷ number SettingsOutOfRange
    ∷ number TimestampZero
    ∷ number NoSuchDate
    ∷ number OutsideWindow
    ∷ number FieldTooLarge
    ∷ number TickOutOfRange
    ∷ number RecordNotLegal
    ∷ number EntryTooLarge
    ∷ number DebtTooLarge
    ∷ number LimitOutOfRange
    ∷ number RootDelayOutOfRange
    ∷ number RootDispersionTooLarge
    ∷ number NotInList
    ∷ number BroadcastModeWrong
    ∷ number BroadcastVersionUnsupported
    ∷ number BroadcastUnsynchronised
    ∷ number BroadcastStratumWrong
    ∷ number BroadcastTransmitZero
    ∷ number PollOutOfRange
    ∷ number TokenZero
    ∷ number NoOrder
    ∷ number FieldNotAdded
    ∷ number TimeLengthWrong
    ∷ number ImageNotLegal
    ∷ number LineMalformed
    ∷ []

-- n is one of them
abbrev pub member : ℕ → List ℕ → Bool
member n [] = false
member n (m ∷ ms) = eqb n m || member n ms

abbrev pub listed : ℕ → Bool
listed n = member n numbers
