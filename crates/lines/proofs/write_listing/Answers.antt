-- `lines::write_listing` meets its contract: the first line, and the lines of its kind, which tells the number. Assumes nothing.
use mathlib.Core.Path.{◌≡◌, refl}
use mathlib.Core.Logic.{◌⊎◌}
use Prim.Native.Nat.{◌+◌, ◌≤◌}
use lib.ListN.{length}
use native.Mathlib.Omega.{arith}
use borrow.Author.Rules.{rules}
use Rattle.rules.specs.Chart.{drawing}
use Rattle.lines.specs.Printed.{Printed}
use Rattle.lines.specs.Text.{heading}
use Rattle.lines.specs.Pages.{Put}
use Rattle.lines.specs.declared.Page.{Page}
use Rattle.rules.specs.Listing.{ascii}
use Rattle.lines.specs.declared.Kind.TheVariants.{Corners, Events, Arrows, Nothing}
use Rattle.lines.proofs.Pages.{put_length, put_then}
use Rattle.lines.proofs.Whole.{printed, heading_short, listing-corners, listing_events, listing-arrows, listing_alone, long_labels, long_numbers, labels_asked, events_asked, arrows_asked, writes_events, writes-arrows, follows}
use Rattle.lines.proofs.write_listing.Goals as goal
use Rattle.lines.proofs.write_listing.Goals.{Joined-put_head, in-Corners, in-Events, in-Arrows, in-Nothing, After-put_head, In-Arrows, In-Corners, In-Events}

-- in each arm the kind tells the number

corners : (c : In-Corners) → c.args.number ≡ 0
corners c = follows _ Corners c.args.number c.in-Corners.is c.put_head.ensures.1

events : (c : In-Events) → (c.args.number ≡ 12) ⊎ (c.args.number ≡ 14)
events c = follows _ Events c.args.number c.in-Events.is c.put_head.ensures.1

arrows : (c : In-Arrows) → c.args.number ≡ 13
arrows c = follows _ Arrows c.args.number c.in-Arrows.is c.put_head.ensures.1

-- and there is room after the first line

room : (c : After-put_head) → c.put_head.new.self.end + 33792 ≤ length c.put_head.new.self.out.now
room c =
    let w = c.put_head.ensures.0 in
    omega (arith, w.wrote.end, put_length w, heading_short c.args.number c.requires.0.small, c.requires.1)

pub slice_bounds-put_corners-count : goal.slice_bounds-put_corners-count
slice_bounds-put_corners-count c = omega (arith, long_labels _ _ _ c.requires.0 (corners (goal.at.slice_bounds-put_corners-count c).In-Corners))

pub slice_bounds-put_corners-start : goal.slice_bounds-put_corners-start
slice_bounds-put_corners-start c = omega (arith, long_labels _ _ _ c.requires.0 (corners (goal.at.slice_bounds-put_corners-start c).In-Corners))

pub put_corners-requires : goal.put_corners-requires
put_corners-requires c = labels_asked _ _ _ c.requires.0 (corners (goal.at.put_corners-requires c).In-Corners) _ _ (omega (arith, room (goal.at.put_corners-requires c).After-put_head))

pub slice_bounds-put_lines-count : goal.slice_bounds-put_lines-count
slice_bounds-put_lines-count c = long_numbers _ _ _ c.requires.0 (writes_events (events (goal.at.slice_bounds-put_lines-count c).In-Events))

pub slice_bounds-put_lines-start : goal.slice_bounds-put_lines-start
slice_bounds-put_lines-start c = long_numbers _ _ _ c.requires.0 (writes_events (events (goal.at.slice_bounds-put_lines-start c).In-Events))

pub put_lines-requires : goal.put_lines-requires
put_lines-requires c = events_asked _ _ _ c.requires.0 _ _ _ (omega arith) (room (goal.at.put_lines-requires c).After-put_head) (events (goal.at.put_lines-requires c).In-Events)

pub slice_bounds-put_lines-count-in-Arrows : goal.slice_bounds-put_lines-count-in-Arrows
slice_bounds-put_lines-count-in-Arrows c = long_numbers _ _ _ c.requires.0 (writes-arrows (arrows (goal.at.slice_bounds-put_lines-count-in-Arrows c).In-Arrows))

pub slice_bounds-put_lines-start-in-Arrows : goal.slice_bounds-put_lines-start-in-Arrows
slice_bounds-put_lines-start-in-Arrows c = long_numbers _ _ _ c.requires.0 (writes-arrows (arrows (goal.at.slice_bounds-put_lines-start-in-Arrows c).In-Arrows))

pub put_lines-requires-in-Arrows : goal.put_lines-requires-in-Arrows
put_lines-requires-in-Arrows c = arrows_asked _ _ _ c.requires.0 _ _ _ (omega arith) (room (goal.at.put_lines-requires-in-Arrows c).After-put_head) (arrows (goal.at.put_lines-requires-in-Arrows c).In-Arrows)

-- what is printed where the arms join, on the page p that was made of the bytes lent
whole : (c : Joined-put_head) {p : Page} → p.end ≡ 0 → Put p (heading c.args.number) c.put_head.new.self
    → Printed c.args.chart.now c.args.number c.args.report.now p.out.now c.match-put_head.page.out.now c.match-put_head.page.end
    × (c.match-put_head.page.out.ghost_name ≡ p.out.ghost_name)
unfolding ascii
whole c z P =
    let g = drawing c.args.chart.now in
    let n = c.args.number in
    let b = c.args.report.now in
    let F = c.put_head.ensures.1 in elim c.match-put_head.branch [
      | in-Corners w ↦ printed w.page-is z (put_then P w.put_corners.ensures) (λ l e. listing-corners g n b l e (follows _ Corners n w.in-Corners.is F))
      | in-Events w ↦ printed w.page-is z (put_then P w.put_lines.ensures) (λ l e. listing_events g n b l e (follows _ Events n w.in-Events.is F))
      | in-Arrows w ↦ printed w.page-is z (put_then P w.put_lines-in-Arrows.ensures) (λ l e. listing-arrows g n b l e (follows _ Arrows n w.in-Arrows.is F))
      | in-Nothing w ↦ printed w.page-is z P (λ l e. listing_alone g n l (follows _ Nothing n w.in-Nothing.is F))
    ]

pub returns : goal.returns
returns c = let k = whole (goal.at.returns c).Joined-put_head refl c.put_head.ensures.0 in search rules
