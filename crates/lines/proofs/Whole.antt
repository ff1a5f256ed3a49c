-- The whole listing: what its parts ask of a report, and that they make it up. Assumes nothing.
use mathlib.Core.Path.{◌≡◌, refl, sym, ap, subst, ◌∙◌}
use mathlib.Core.Logic.{◌⊎◌, inl, inr}
use mathlib.Core.List.{List, ◌++◌, append-nil}
use Prim.Native.Nat.{ℕ, ◌+◌, ◌≤◌, ◌<◌}
use native.Mathlib.Omega.{arith}
use borrow.Author.Tests.{ne_eqb}
use lib.Dec.{T}
use lib.ListN.{length}
use Rattle.finite.specs.Lists.{All}
use Rattle.drawing.specs.Drawing.{Drawing, darts}
use Rattle.drawing.specs.Conditions.{Labelling}
use Rattle.rules.specs.Chart.{drawing}
use Rattle.rules.specs.Report.{writes, report, Entries}
use Rattle.rules.specs.Listing.{ascii, decimal, saying, each, listing}
use Rattle.chart.specs.Shape.{Shape}
use Rattle.lines.specs.Text.{Wrote, heading, line}
use Rattle.lines.specs.Follow.{numbers, Lined, Labelled, corners}
use Rattle.lines.specs.declared.Kind.{Kind}
use Rattle.lines.specs.declared.Page.{Page}
use Rattle.lines.specs.Pages.{Put}
use Rattle.lines.specs.Kinds.{Follows}
use Rattle.lines.specs.Printed.{Reported, Printed}
use Rattle.lines.proofs.Text.{wrote_as, wrote_first}
use Rattle.lines.proofs.Decimal.{length_four, named_short}
use Rattle.lines.proofs.Said.{saying_short}
use Rattle.lines.proofs.Body.{body, long, body-length, body-labels, Sixteen, body-numbers, mixed_low, circle_low, cut_low}

pub heading_short : (n : ℕ) → n ≤ 14 → length (heading n) ≤ 26
unfolding ascii
heading_short n l =
    let w : List ℕ = ascii "result " ++ decimal n in
    omega (arith, length_four w (ascii " ") (saying n) (ascii "\n"), named_short (ascii "result ") n (omega arith), saying_short n (omega arith))

-- ---- the results of each kind

pub writes_events : {n : ℕ} → (n ≡ 12) ⊎ (n ≡ 14) → Sixteen n
writes_events (inl e) = subst Sixteen (sym e) (refl, refl)
writes_events (inr e) = subst Sixteen (sym e) (refl, refl)

pub writes-arrows : {n : ℕ} → n ≡ 13 → Sixteen n
writes-arrows e = subst Sixteen (sym e) (refl, refl)

-- the lines that follow, where their kind is known
pub follows : (k j : Kind) (n : ℕ) → k ≡ j → Follows k n → Follows j n
follows k j n e f = subst (λ (i : Kind). Follows i n) e f

-- ---- a listing is its first line and the lines of its kind, from the body of the report

module _ (g : Drawing) (n : ℕ) (b l : List ℕ) (e : b ≡ report n l) where
  at_number : (k : ℕ) (f : List ℕ → List ℕ) (t : List ℕ) → t ≡ l → n ≡ k → heading k ++ f l ≡ listing g k l → heading n ++ f t ≡ listing g n l
  at_number k f t same is h = ap (λ (x : List ℕ). heading n ++ f x) same ∙ subst (λ (i : ℕ). heading i ++ f l ≡ listing g i l) (sym is) h

  pub listing-corners : n ≡ 0 → heading n ++ corners g (body b) ≡ listing g n l
  unfolding listing
  listing-corners is = at_number 0 (corners g) (body b) (body-labels n b l is e) is refl

  pub listing_events : (n ≡ 12) ⊎ (n ≡ 14) → heading n ++ each (line (ascii "event ")) (numbers (body b)) ≡ listing g n l
  unfolding listing
  listing_events (inl is) = at_number 12 (each (line (ascii "event "))) (numbers (body b)) (body-numbers n b l (writes_events (inl is)) e) is refl
  listing_events (inr is) = at_number 14 (each (line (ascii "event "))) (numbers (body b)) (body-numbers n b l (writes_events (inr is)) e) is refl

  pub listing-arrows : n ≡ 13 → heading n ++ each (line (ascii "arrow ")) (numbers (body b)) ≡ listing g n l
  unfolding listing
  listing-arrows is = at_number 13 (each (line (ascii "arrow "))) (numbers (body b)) (body-numbers n b l (writes-arrows is) e) is refl

pub listing_alone : (g : Drawing) (n : ℕ) (l : List ℕ) → (1 ≤ n) × (n ≤ 11) → heading n ≡ listing g n l
unfolding listing
listing_alone g n l h =
    sym (append-nil (heading n))
    ∙ simp (ne_eqb n 0 (λ e. omega arith), ne_eqb n 12 (λ e. omega arith), ne_eqb n 13 (λ e. omega arith), ne_eqb n 14 (λ e. omega arith))

-- ---- what the parts ask

module _ (s : List ℕ) (n : ℕ) (b : List ℕ) (R : Reported s n b) where
  pub long_labels : n ≡ 0 → 8 ≤ length b
  long_labels e = long n b R.entries (ap writes e) R.stretch

  pub long_numbers : Sixteen n → 8 ≤ length b
  long_numbers h = long n b R.entries h.0 R.stretch

  shaped : T (writes n) → ((drawing s).events ≤ 1024) × (darts (drawing s) ≤ 6144)
  shaped t = let S = R.shape t in (S.events.1, S.few)

  pub labels_asked : n ≡ 0 → (o : List ℕ) (at : ℕ) → at + 23552 ≤ length o → Labelled o at s (body b)
  labels_asked e o at room =
      let t : T (writes n) = subst (λ (k : ℕ). T (writes k)) (sym e) tt in
      let L : Labelling (drawing s) R.entries = subst (λ (k : ℕ). Entries (drawing s) k R.entries) e R.allowed in
      let few = (shaped t).0 in
      subst (Labelled o at s) (sym (body-labels n b R.entries e R.stretch)) record {
        shape = subst (Shape s) (sym L.size) (R.shape t);
        known = R.known t;
        labelling = L;
        room = omega (arith, few);
      }

  numbers_asked : Sixteen n → All (λ x. x < 10000) R.entries → (o : List ℕ) (at : ℕ) (w : List ℕ) → length w ≤ 6 → at + 33792 ≤ length o → Lined o at w (body b)
  numbers_asked h low o at w short room = record {
    room = omega (arith, body-length b, R.room);
    word = short;
    low = subst (All (λ x. x < 10000)) (sym (body-numbers n b R.entries h R.stretch)) low;
  }

  module _ (o : List ℕ) (at : ℕ) (w : List ℕ) (short : length w ≤ 6) (room : at + 33792 ≤ length o) where
    asked : (k : ℕ) → n ≡ k → T (writes k) → Sixteen k
        → ((drawing s).events ≤ 1024 → darts (drawing s) ≤ 6144 → Entries (drawing s) k R.entries → All (λ x. x < 10000) R.entries) → Lined o at w (body b)
    asked k e t h low =
        let few = shaped (subst (λ (i : ℕ). T (writes i)) (sym e) t) in
        numbers_asked (subst Sixteen (sym e) h) (low few.0 few.1 (subst (λ (i : ℕ). Entries (drawing s) i R.entries) e R.allowed)) o at w short room

    pub events_asked : (n ≡ 12) ⊎ (n ≡ 14) → Lined o at w (body b)
    events_asked (inl e) = asked 12 e tt (refl, refl) (λ f h. mixed_low (drawing s) f h R.entries)
    events_asked (inr e) = asked 14 e tt (refl, refl) (λ f h. cut_low (drawing s) f h R.entries)

    pub arrows_asked : n ≡ 13 → Lined o at w (body b)
    arrows_asked e = asked 13 e tt (refl, refl) (λ f h. circle_low (drawing s) f h R.entries)

-- ---- what is printed

pub print : {s : List ℕ} {n : ℕ} {b o o' t : List ℕ} {r : ℕ} → Wrote o 0 t o' r → ((l : List ℕ) → b ≡ report n l → t ≡ listing (drawing s) n l) → Printed s n b o o' r
print w h = record {
  text = λ l e a. wrote_first (wrote_as w (h l e));
  size = λ l e a. omega (arith, (wrote_as w (h l e)).end);
}

-- and on a page of those bytes
pub printed : {s : List ℕ} {n : ℕ} {b t : List ℕ} {p q r : Page} → r ≡ q → p.end ≡ 0 → Put p t q → ((l : List ℕ) → b ≡ report n l → t ≡ listing (drawing s) n l)
    → Printed s n b p.out.now r.out.now r.end × (r.out.ghost_name ≡ p.out.ghost_name)
printed {t = t} {p = p} {q = q} e z P h = rw e (print (subst (λ (k : ℕ). Wrote p.out.now k t q.out.now q.end) z P.wrote) h, P.same)
