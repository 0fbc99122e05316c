-- Four timestamps: T1 sent, T2 received, T3 answered, T4 arrived.
use Rattle.std.specs.Prelude.{ℕ, ℤ, ◌+ℤ◌, ◌-ℤ◌}
use Rattle.timestamp.specs.declared.Timestamp.{Timestamp}
use Rattle.timestamp.specs.Timestamp.{◌since◌}
use Rattle.offset.specs.Offset.{floor_half, half_of}

pub record Four : Type 0 where
  pub t1 : Timestamp
  pub t2 : Timestamp
  pub t3 : Timestamp
  pub t4 : Timestamp

-- the rules' first difference P, second difference Q and delay d
abbrev pub P : Four → ℤ
P x = x.t2 since x.t1

abbrev pub Q : Four → ℤ
Q x = x.t3 since x.t4

abbrev pub d : Four → ℤ
d x = (x.t4 since x.t1) -ℤ (x.t3 since x.t2)

-- the offset is the greatest whole number not above (P + Q) / 2, and the half is what is left
abbrev pub offset : Four → ℤ
offset x = floor_half (P x +ℤ Q x)

abbrev pub half : Four → ℕ
half x = half_of (P x +ℤ Q x)
