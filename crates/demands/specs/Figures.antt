-- The twelve figures that the rules mark to be proved, one table under one claim about the definitions.
use Rattle.refusals.specs.Given.{Given, refused, answered, numbered}
use Rattle.offset.specs.declared.Measurement.{Measurement}
use Rattle.std.specs.Prelude.{ℕ, ◌+◌, ◌-◌, ◌*◌, ◌^◌, ◌≡◌, false, List, [], ◌∷◌, ◌++◌, ℤ, pos, neg_ℤ, length, replicate, take}
use Rattle.timestamp.specs.Timestamp.{timestamp}
use Rattle.token.specs.Token.{token}
use Rattle.offset.specs.Offset.{measured}
use Rattle.calendar.specs.declared.Date.{Date}
use Rattle.calendar.specs.Dates.{date}
use Rattle.calendar.specs.Calendar.{date_of}
use Rattle.precision.specs.Precision.{precision_of}
use Rattle.client.specs.Record.{fresh}
use Rattle.client.specs.Calls.{ask, arrival, Told, accepted, step}
use Rattle.demands.specs.Form.{Shown, telling}
use Rattle.demands.specs.Measure.{shown}

-- a question, and the rules' answer
pub data Figure : Type 0 where
  gives : (t1 t2 t3 t4 : ℕ) → (offset : ℤ) (half : ℕ) (delay : ℤ) → Figure  -- four timestamps give offset, half and delay
  gives_half : (t1 t2 t3 t4 : ℕ) → (offset : ℤ) (half : ℕ) → Figure  -- and where the rules name no delay
  gives_offset : (t1 t2 t3 t4 : ℕ) → (offset : ℤ) → Figure  -- nor a half
  refused_by : (t1 t2 t3 t4 number : ℕ) → Figure
  after_ask : (clock : ℕ) (packet : List ℕ) (t4 : ℕ) → Told → Figure  -- an arrival after a fresh client's ask in version 4, whose token is the clock reading
  seconds_are : (seconds : ℕ) → Date → Figure  -- a timestamp with these seconds and no fraction
  ticks_give : (tick : ℕ) (precision : ℤ) (other : ℕ) (other-precision : ℤ) → Figure  -- two ticks in one row

abbrev measured_at : ℕ → ℕ → ℕ → ℕ → Given Measurement
measured_at t1 t2 t3 t4 = numbered (measured (timestamp t1) (timestamp t2) (timestamp t3) (timestamp t4))

-- not refused, and the first values shown are these
abbrev Begins : Shown → List ℤ → Type 0
Begins s values = record { kind = s.kind; number = s.number; values = take (length values) s.values } ≡ telling values

abbrev pub Right : Figure → Type 0
Right (gives t1 t2 t3 t4 offset half delay) = measured_at t1 t2 t3 t4 ≡ answered (record { offset = offset; half = half; delay = delay })
Right (gives_half t1 t2 t3 t4 offset half) = Begins (shown (measured_at t1 t2 t3 t4)) (offset ∷ pos half ∷ [])
Right (gives_offset t1 t2 t3 t4 offset) = Begins (shown (measured_at t1 t2 t3 t4)) (offset ∷ [])
Right (refused_by t1 t2 t3 t4 number) = measured_at t1 t2 t3 t4 ≡ refused number
Right (after_ask clock packet t4 result) =
    (step (step fresh (ask (record { buffer = replicate 48 0; version = 4; clock = timestamp clock; token = token clock; uptime = 0 }))).next (arrival (record { packet = packet; t4 = timestamp t4; alternate = false }))).result
    ≡ result
Right (seconds_are seconds d) = numbered (date_of (timestamp (seconds * 2 ^ 32))) ≡ answered d
Right (ticks_give tick p other q) =
    ◌≡◌ {A = (Given ℤ) × (Given ℤ)} (numbered (precision_of tick), numbered (precision_of other)) (answered p, answered q)

-- every figure of a table is right
infixr 3 ◌and◌
pub data AllRight : List Figure → Type 0 where
  done : AllRight []
  ◌and◌ : {f : Figure} {fs : List Figure} → Right f → AllRight fs → AllRight (f ∷ fs)

-- T1 = T2 = T3 = 2^32 units unless said
abbrev second : ℕ
second = 2 ^ 32

-- the packet of the replay's second line
abbrev pub replay_packet : List ℕ
replay_packet =
    0x24 ∷ 0x01 ∷ 0x00 ∷ 0xEC ∷ replicate 8 0
    ++ (0x47 ∷ 0x50 ∷ 0x53 ∷ 0x00 ∷ 0x00 ∷ 0x00 ∷ 0x00 ∷ 0x04 ∷ 0x00 ∷ 0x00 ∷ 0x00 ∷ 0x00 ∷ 0xFF ∷ 0xFF ∷ 0xFF ∷ 0xFA ∷ 0x00 ∷ 0x00 ∷ 0x00 ∷ 0x00 ∷ [])
    ++ (0x00 ∷ 0x00 ∷ 0x00 ∷ 0x04 ∷ 0x80 ∷ 0x00 ∷ 0x00 ∷ 0x00 ∷ 0x00 ∷ 0x00 ∷ 0x00 ∷ 0x05 ∷ 0x80 ∷ 0x00 ∷ 0x00 ∷ 0x00 ∷ [])

unfoldable pub figures : List Figure
figures =
    gives second second second second (pos 0) 0 (pos 0)
    ∷ gives second second second (second + 1) (neg_ℤ (pos 1)) 1 (pos 1)
    ∷ gives_half second second second (second + 2 ^ 36) (neg_ℤ (pos (2 ^ 35))) 0
    ∷ refused_by second second second (second + 2 ^ 36 + 1) 16
    ∷ refused_by second second second (second - 1) 15
    ∷ refused_by second second (second + 6) (second + 5) 18
    ∷ gives_offset second (second + 2 ^ 62 - 1) (second + 2 ^ 62 - 1) second (pos (2 ^ 62 - 1))
    ∷ gives_offset second (second + 2 ^ 62) (second + 2 ^ 62) second (pos (2 ^ 62))
    ∷ after_ask 0xFFFFFFFA00000000 replay_packet 0xFFFFFFFBC0000000 (accepted (pos 43486543872) 0 (pos 3221225472))
    ∷ seconds_are 2147483648 (date 1968 1 20 3 14 8 0)
    ∷ seconds_are 2021563904 (date 2100 3 1 0 0 0 0)
    ∷ ticks_give 4295 (neg_ℤ (pos 19)) 4096 (neg_ℤ (pos 20))
    ∷ []

abbrev pub Figures : Type 0
Figures = AllRight figures
