-- What the listing is printed from, and what is printed. Assumes nothing.
--   listing_room              the room that a listing needs
--   Reported s n b            the test of the chart s gave the number n, and b is the stretch of the report that it wrote
--   Printed s n b o o' r      o became o', with the listing first, in r bytes
use Rattle.std.specs.Prelude.{◌≡◌, List, ◌++◌, ℕ, ◌≤◌, T, length, drop}
use Rattle.drawing.specs.Drawing.{darts}
use Rattle.drawing.specs.Conditions.{EventsKnown}
use Rattle.rules.specs.Chart.{drawing}
use Rattle.rules.specs.Tests.{report_room}
use Rattle.rules.specs.Report.{writes, report, Entries}
use Rattle.rules.specs.Listing.{listing}
use Rattle.chart.specs.Shape.{Shape}

-- 3,072 lines `arrow 3071` of 11 bytes and the line `result 13 circle` are 33,809 bytes; 1,024 lines `event 1023 corner 6143` of 23 bytes are fewer
abbrev pub listing_room : ℕ
listing_room = 36864

pub record Reported (s : List ℕ) (n : ℕ) (b : List ℕ) : Type 0 where
  pub entries : List ℕ
  pub stretch : b ≡ report n entries
  pub allowed : Entries (drawing s) n entries
  pub small : n ≤ 14
  pub room : length b ≤ report_room
  -- a result that writes a report has passed the tests 2 to 6
  pub shape : T (writes n) → Shape s (darts (drawing s))
  pub known : T (writes n) → EventsKnown (drawing s)

-- whatever the entries of the report are, it is their listing
pub record Printed (s : List ℕ) (n : ℕ) (b o o' : List ℕ) (r : ℕ) : Type 0 where
  pub text : (l : List ℕ) → b ≡ report n l → Entries (drawing s) n l → o' ≡ listing (drawing s) n l ++ drop r o
  pub size : (l : List ℕ) → b ≡ report n l → Entries (drawing s) n l → r ≡ length (listing (drawing s) n l)
