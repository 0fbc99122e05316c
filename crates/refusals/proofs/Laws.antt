-- A refusal is the only one that has its number, and the number is listed: both follow from a search for it, a case each.
use mathlib.Core.Path.{◌≡◌, refl, sym, ap, subst, ◌∙◌}
use mathlib.Core.Bool.{Bool, true, false, ◌||◌, cond}
use mathlib.Core.List.{List, [], ◌∷◌}
use Prim.Native.Nat.{ℕ}
use lib.Dec.{T, eqb}
use Rattle.std.specs.Prelude.{Option, None, Some}
use Rattle.refusals.specs.declared.Refusal.{Refusal}
use Rattle.refusals.specs.declared.Refusal.TheVariants.{BufferTooShort, VersionUnsupported, OwnClockZero, ClientStopped, AlreadyWaiting, AskedTooSoon, PacketLengthWrong, NotWaiting, OriginateMismatch, ReplyModeWrong, VersionMismatch, ServerUnsynchronised, StratumTooHigh, ServerTimestampZero, ArrivedBeforeSent, ArrivedTooLate, AnsweredBeforeReceived, DelayNegative, FirstBelowSecond, GaveUpTooSoon, RequestModeWrong, RequestVersionUnsupported, SettingsOutOfRange, TimestampZero, NoSuchDate, OutsideWindow, FieldTooLarge, TickOutOfRange, RecordNotLegal, EntryTooLarge, DebtTooLarge, LimitOutOfRange, RootDelayOutOfRange, RootDispersionTooLarge, NotInList, BroadcastModeWrong, BroadcastVersionUnsupported, BroadcastUnsynchronised, BroadcastStratumWrong, BroadcastTransmitZero, PollOutOfRange, TokenZero, NoOrder, FieldNotAdded, TimeLengthWrong, ImageNotLegal, LineMalformed}
use Rattle.refusals.specs.Numbers.{number, member, listed}
use Rattle.refusals.specs.Laws.{Laws}

abbrev refusals : List Refusal
refusals = BufferTooShort ∷ VersionUnsupported ∷ OwnClockZero ∷ ClientStopped ∷ AlreadyWaiting ∷ AskedTooSoon ∷ PacketLengthWrong ∷ NotWaiting ∷ OriginateMismatch ∷ ReplyModeWrong ∷ VersionMismatch ∷ ServerUnsynchronised ∷ StratumTooHigh ∷ ServerTimestampZero ∷ ArrivedBeforeSent ∷ ArrivedTooLate ∷ AnsweredBeforeReceived ∷ DelayNegative ∷ FirstBelowSecond ∷ GaveUpTooSoon ∷ RequestModeWrong ∷ RequestVersionUnsupported ∷ SettingsOutOfRange ∷ TimestampZero ∷ NoSuchDate ∷ OutsideWindow ∷ FieldTooLarge ∷ TickOutOfRange ∷ RecordNotLegal ∷ EntryTooLarge ∷ DebtTooLarge ∷ LimitOutOfRange ∷ RootDelayOutOfRange ∷ RootDispersionTooLarge ∷ NotInList ∷ BroadcastModeWrong ∷ BroadcastVersionUnsupported ∷ BroadcastUnsynchronised ∷ BroadcastStratumWrong ∷ BroadcastTransmitZero ∷ PollOutOfRange ∷ TokenZero ∷ NoOrder ∷ FieldNotAdded ∷ TimeLengthWrong ∷ ImageNotLegal ∷ LineMalformed ∷ []

-- the first of them that has this number
abbrev first_with : ℕ → List Refusal → Option Refusal
first_with n [] = None
first_with n (r ∷ rest) = cond (eqb n (number r)) (Some r) (first_with n rest)

abbrev numbers_of : List Refusal → List ℕ
numbers_of [] = []
numbers_of (r ∷ rest) = number r ∷ numbers_of rest

found : (r : Refusal) → first_with (number r) refusals ≡ Some r
found BufferTooShort = refl
found VersionUnsupported = refl
found OwnClockZero = refl
found ClientStopped = refl
found AlreadyWaiting = refl
found AskedTooSoon = refl
found PacketLengthWrong = refl
found NotWaiting = refl
found OriginateMismatch = refl
found ReplyModeWrong = refl
found VersionMismatch = refl
found ServerUnsynchronised = refl
found StratumTooHigh = refl
found ServerTimestampZero = refl
found ArrivedBeforeSent = refl
found ArrivedTooLate = refl
found AnsweredBeforeReceived = refl
found DelayNegative = refl
found FirstBelowSecond = refl
found GaveUpTooSoon = refl
found RequestModeWrong = refl
found RequestVersionUnsupported = refl
found SettingsOutOfRange = refl
found TimestampZero = refl
found NoSuchDate = refl
found OutsideWindow = refl
found FieldTooLarge = refl
found TickOutOfRange = refl
found RecordNotLegal = refl
found EntryTooLarge = refl
found DebtTooLarge = refl
found LimitOutOfRange = refl
found RootDelayOutOfRange = refl
found RootDispersionTooLarge = refl
found NotInList = refl
found BroadcastModeWrong = refl
found BroadcastVersionUnsupported = refl
found BroadcastUnsynchronised = refl
found BroadcastStratumWrong = refl
found BroadcastTransmitZero = refl
found PollOutOfRange = refl
found TokenZero = refl
found NoOrder = refl
found FieldNotAdded = refl
found TimeLengthWrong = refl
found ImageNotLegal = refl
found LineMalformed = refl

listed_where_found : (n : ℕ) (rs : List Refusal) {r : Refusal} → first_with n rs ≡ Some r → member n (numbers_of rs) ≡ true
listed_where_found n [] e = cc
listed_where_found n (s ∷ rest) {r} e = go (eqb n (number s)) e (λ later. listed_where_found n rest later)
  where
    go : (b : Bool) → cond b (Some s) (first_with n rest) ≡ Some r → (first_with n rest ≡ Some r → member n (numbers_of rest) ≡ true)
        → b || member n (numbers_of rest) ≡ true
    go true e later = refl
    go false e later = later e

pub each_listed : (r : Refusal) → T (listed (number r))
each_listed r = subst T (sym (listed_where_found (number r) refusals (found r))) tt

pub each_own : (r s : Refusal) → number r ≡ number s → r ≡ s
each_own r s e = let same = sym (found r) ∙ ap (λ n. first_with n refusals) e ∙ found s in cc

pub laws : Laws
laws = record { each_listed = each_listed; each_own = each_own; in_order = refl }
