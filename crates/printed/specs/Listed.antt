-- The listing of a chart, from its bytes to its text (document 01, "The listing"). Assumes nothing.
--   full_room            "a full report room": 6,152 bytes, all of them 0
--   Told s o o' k        o became o': k bytes of it are the listing of a run of the test on the chart s, the rest stays
--   Listed s o o' r      that, and r is the k; or where o has too little room nothing at all, and r is none
use Rattle.std.specs.Prelude.{◌≡◌, List, ◌++◌, ℕ, ◌≤◌, ◌<◌, Option, Some, None, length, drop, replicate}
use Rattle.rules.specs.Chart.{drawing}
use Rattle.rules.specs.Tests.{report_room}
use Rattle.rules.specs.Report.{Outcome}
use Rattle.rules.specs.Listing.{listing}
use Rattle.lines.specs.Printed.{listing_room}

abbrev pub full_room : List ℕ
full_room = replicate report_room 0

pub record Told (s o o' : List ℕ) (k : ℕ) : Type 0 where
  pub number : ℕ
  pub written : ℕ
  pub left : List ℕ
  pub outcome : Outcome s full_room number written left
  pub text : o' ≡ listing (drawing s) number outcome.entries ++ drop k o
  pub size : k ≡ length (listing (drawing s) number outcome.entries)

pub record Listed (s o o' : List ℕ) (r : Option ℕ) : Type 0 where
  pub short : length o < listing_room → (r ≡ None) × (o' ≡ o)
  pub full : listing_room ≤ length o → (k : ℕ) × (r ≡ Some k) × Told s o o' k
