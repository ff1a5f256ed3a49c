-- Counting the large corners, and what the counts say of a labelling. Assumes nothing.
use mathlib.Core.Path.{◌≡◌, refl, ap, ◌∙◌}
use mathlib.Core.List.{List}
use Prim.Native.Nat.{ℕ, ◌+◌, ◌<◌, ◌≤◌}
use native.Mathlib.Omega.{arith}
use lib.ListN.{length, set, length-set, replicate, length-replicate, get_or-replicate}
use Rattle.finite.specs.Sums.{sum, δ, class}
use Rattle.finite.proofs.Sum.{δ-le}
use Rattle.finite.proofs.Tally.{tally_more, class_few}
use Rattle.drawing.specs.Drawing.{Drawing, darts, event, faces}
use Rattle.drawing.specs.Conditions.{EventsKnown, label}
use Rattle.words.specs.Tables.{nth}
use Rattle.labels.specs.Checks.{large, Counted}

module _ (g : Drawing) (here l e f : List ℕ) (c : ℕ) (K : Counted g here l e f c) (inside : c < darts g) where
  few : (k : ℕ → ℕ) (x : ℕ) → class c k (large l) x ≤ c
  few k x = class_few k (large l) x (λ i. δ-le (label l i) 2) c

  -- what is counted at a key of the tables may grow
  pub event_key : darts g ≤ 6144 → (k : ℕ) → k < g.events → (k < length e) × (nth e k < 65535)
  event_key small k l =
      let h : k < length e = omega (arith, K.size_e) in
      (h, omega (arith, K.by_event k h, few (event g) k))

  pub face_key : darts g ≤ 6144 → (k : ℕ) → k < faces g → (k < length f) × (nth f k < 65535)
  face_key small k l =
      let h : k < length f = omega (arith, K.size_f) in
      (h, omega (arith, K.by_face k h, few (nth here) k))

  pub counted_more : EventsKnown g → nth here c < faces g → (k j x : ℕ) (e' f' : List ℕ) → k ≡ event g c → j ≡ nth here c → x ≡ label l c
      → e' ≡ set e k (nth e k + δ x 2) → f' ≡ set f j (nth f j + δ x 2) → Counted g here l e' f' (c + 1)
  counted_more known face_in k j x e' f' ek fj lx p q = record {
    size_e = ap length p ∙ simp length-set K.size_e;
    size_f = ap length q ∙ simp length-set K.size_f;
    by_event = λ v h. rw (p, ek, lx) (tally_more (event g) (large l) c (nth e (event g c) + δ (label l c) 2) e (omega (arith, known c inside, K.size_e)) refl K.by_event v (omega (arith, ap length p ∙ length-set e k (nth e k + δ x 2))));
    by_face = λ y h. rw (q, fj, lx) (tally_more (nth here) (large l) c (nth f (nth here c) + δ (label l c) 2) f (omega (arith, face_in, K.size_f)) refl K.by_face y (omega (arith, ap length q ∙ length-set f j (nth f j + δ x 2))));
  }

pub counted_none : (g : Drawing) (here l e f : List ℕ) (m n : ℕ) → m ≡ g.events → n ≡ faces g → e ≡ replicate m 0 → f ≡ replicate n 0 → Counted g here l e f 0
unfolding class sum
counted_none g here l e f m n a b p q = record {
  size_e = ap length p ∙ length-replicate m 0 ∙ a;
  size_f = ap length q ∙ length-replicate n 0 ∙ b;
  by_event = λ v h. rw p (get_or-replicate m v 0 0 (omega (arith, ap length p ∙ length-replicate m 0)));
  by_face = λ x h. rw q (get_or-replicate n x 0 0 (omega (arith, ap length q ∙ length-replicate n 0)));
}
