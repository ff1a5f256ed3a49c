-- How the listing program ends (document 01, "The listing"). Assumes nothing.
--   ending_of r            the ending where the writer answered r
--   Finished s o o' e      o became o' with the listing of the chart s first, and e is the ending for the writer's answer
--   Ended came s o o' e    that, for as many bytes of s as came and for nothing else; where a read failed, o stays and e says why
--   FromInput s o o' e     that, for some number of bytes that came into the room of the listing program, or a read that failed; o has room
use Rattle.std.specs.Prelude.{◌≡◌, List, ℕ, ◌≤◌, length, take, Result, Ok, Err}
use Rattle.std.specs.declared.io.Error.{Error}
use Rattle.rules.specs.Listing.{input_room}
use Rattle.lines.specs.Printed.{listing_room}
use Rattle.streams.specs.declared.WriteError.{WriteError}
use Rattle.streams.specs.declared.StreamError.{StreamError}
use Rattle.streams.specs.declared.StreamError.TheVariants.{NotRead, NotWritten}
use Rattle.streams.specs.Counted.{Within}
use Rattle.streams.specs.Texts.{Written}

abbrev pub ending_of : Result (Unit {0}) WriteError → Result (Unit {0}) StreamError
ending_of (Ok x) = Ok x
ending_of (Err w) = Err (NotWritten w)

pub record Finished (s o o' : List ℕ) (e : Result (Unit {0}) StreamError) : Type 0 where
  pub answer : Result (Unit {0}) WriteError
  pub written : Written s o o' answer
  pub ending : e ≡ ending_of answer

abbrev pub Ended : Result ℕ Error → List ℕ → List ℕ → List ℕ → Result (Unit {0}) StreamError → Type 0
Ended (Ok n) s o o' e = Finished (take n s) o o' e
Ended (Err x) s o o' e = (o' ≡ o) × (e ≡ Err (NotRead x))

pub record FromInput (s o o' : List ℕ) (e : Result (Unit {0}) StreamError) : Type 0 where
  pub came : Result ℕ Error
  pub within : Within 0 came input_room
  pub enough : listing_room ≤ length o
  pub ended : Ended came s o o' e
