-- A run of the test in a full room, and the text printed from it, are a listing of the chart. Assumes nothing.
use mathlib.Core.Path.{◌≡◌, refl, ap}
use mathlib.Core.List.{List}
use Prim.Native.Nat.{ℕ, ◌≤◌}
use native.Mathlib.Omega.{arith}
use Rattle.std.specs.Prelude.{Some}
use lib.ListN.{length, take, length-append, length-drop, length-replicate}
use Rattle.rules.specs.Tests.{report_room}
use Rattle.rules.specs.Report.{report, Outcome}
use Rattle.lines.specs.Printed.{listing_room, Reported, Printed}
use Rattle.lines.proofs.Tested.{outcome_stretch, outcome_reported}
use Rattle.desk.proofs.Fits.{outcome_fits}
use Rattle.printed.specs.Listed.{full_room, Told, Listed}

module _ (s r' : List ℕ) (n w : ℕ) (O : Outcome s full_room n w r') where
  left_length : length r' ≡ report_room
  left_length = omega (arith, outcome_fits s full_room n w r' O, O.written, simp (length-append, length-drop, length-replicate) at (ap length O.left))

  pub part_reported : Reported s n (take w r')
  part_reported = outcome_reported s full_room n w r' O (omega (arith, left_length))

  pub listed_full : (o o' : List ℕ) (k : ℕ) → listing_room ≤ length o → Printed s n (take w r') o o' k → Listed s o o' (Some k)
  listed_full o o' k h P =
      let e : take w r' ≡ report n O.entries = outcome_stretch s full_room n w r' O in
      let told : Told s o o' k = record {
        number = n;
        written = w;
        left = r';
        outcome = O;
        text = P.text O.entries e O.allowed;
        size = P.size O.entries e O.allowed;
      } in record {
        short = λ g. absurd (omega arith);
        full = λ _. (k, refl, told);
      }
