-- What a signed number is after it went through its bits. Assumes nothing.
use Prim.Native.Nat.{◌<◌, ◌^◌}
use lib.IntN.{ℤ}
use lib.Signed.{mag}
use mir.Syntax.{w64}
use mir.Val.{to_z, of_z}
use mir.ValLaws.{to_z-of_z}

pub back : (P : ℤ → Type 0) (z : ℤ) → mag z < 2 ^ 63 → P z → P (to_z w64 (of_z w64 z))
back P z f m = rw (to_z-of_z w64 z (record { sfits = f })) m
