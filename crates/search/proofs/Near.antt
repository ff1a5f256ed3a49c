-- A place near an event: a corner of its own whose face has room. Assumes nothing.
use mathlib.Core.Path.{◌≡◌, sym, ap}
use mathlib.Core.List.{List}
use Prim.Native.Nat.{ℕ}
use native.Mathlib.Omega.{arith}
use Rattle.drawing.specs.Drawing.{Drawing}
use Rattle.words.specs.Tables.{nth}
use Rattle.placing.proofs.Moves.{Seat}
use Rattle.search.specs.Steps.{Sits}

pub sits_seat : {g : Drawing} {here L sp : List ℕ} {e c f : ℕ} → Sits g here L sp e c → f ≡ nth here c → Seat g here L sp e c f
sits_seat {sp = sp} S q = record { board = S.board; valid = S.valid; inside = S.inside; own = sym S.own; face = q; room = omega (arith, S.room, ap (nth sp) q) }
