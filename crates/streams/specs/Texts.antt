-- A listing as it is written out. Assumes nothing.
--   Shown s t            t is the listing of a run of the test on the chart s, and nothing else
--   Written s o o' r     o became o', with the listing of the chart s first; where o has too little room it stays, and the answer r says so
use Rattle.std.specs.Prelude.{◌≡◌, List, [], ℕ, ◌<◌, length, Option, Result, Err}
use Rattle.lines.specs.Printed.{listing_room}
use Rattle.printed.specs.Listed.{Told, Listed}
use Rattle.streams.specs.declared.WriteError.{WriteError}
use Rattle.streams.specs.declared.WriteError.TheVariants.{NoRoom}

abbrev pub Shown : List ℕ → List ℕ → Type 0
Shown s t = Told s [] t (length t)

pub record Written (s o o' : List ℕ) (r : Result (Unit {0}) WriteError) : Type 0 where
  pub size : Option ℕ
  pub listed : Listed s o o' size
  pub short : length o < listing_room → r ≡ Err NoRoom
