-- The labels of corners: 1 where a corner is plain, then 2 more at each event's place. Assumes nothing.
use mathlib.Core.Path.{◌≡◌, sym, ap, ◌∙◌}
use mathlib.Core.Logic.{inl, inr}
use mathlib.Core.List.{List}
use Prim.Native.Nat.{ℕ, ◌+◌, ◌<◌, ◌≤◌}
use native.Mathlib.Decide.{ℕ_discrete}
use native.Mathlib.Omega.{arith}
use lib.ListN.{set, length-set}
use lib.Seq.{get_or-set_same, get_or-set_other}
use Rattle.finite.proofs.Sum.{δ-eq, δ_other}
use Rattle.drawing.specs.Drawing.{Drawing, darts, event, plain}
use Rattle.words.specs.Tables.{nth}
use Rattle.placing.specs.Board.{Own}
use Rattle.places.specs.Steps.{Raised}

module _ (g : Drawing) (L : List ℕ) where
  module _ (own : Own g L) (out : List ℕ) (v : ℕ) (M : Raised g L out v) (l : v < g.events) (c : ℕ) (got : c ≡ nth L v) where
    -- the event has no place: none of its corners is one
    pub raised_none : darts g ≤ c → Raised g L out (v + 1)
    raised_none far = record {
      size = M.size;
      done = λ d h k. elim (ℕ_discrete (event g d) v) [
        | yes e ↦ omega (arith, M.left d h (omega arith), δ_other (nth L (event g d)) d (λ q. omega (arith, q, got, ap (nth L) e)))
        | no e ↦ M.done d h (omega arith)
      ];
      left = λ d h k. M.left d h (omega arith);
    }

    module _ (near : c < darts g) where
      there : event g c ≡ v
      there = elim (own v l) [
        | inl h ↦ absurd (omega (arith, got))
        | inr h ↦ ap (event g) got ∙ h.1
      ]

      pub was_plain : nth out c ≡ plain g c
      was_plain = M.left c near (omega (arith, there))

      pub raised_place : (out' : List ℕ) → out' ≡ set out c (nth out c + 2) → Raised g L out' (v + 1)
      raised_place out' e = rw e record {
        size = length-set out c (nth out c + 2) ∙ M.size;
        done = λ d h k. elim (ℕ_discrete d c) [
          | yes q ↦ rw q (omega (
            arith,
            get_or-set_same out c (nth out c + 2) 0 (omega (arith, M.size)),
            was_plain,
            δ-eq (nth L (event g c)) c (ap (nth L) there ∙ sym got),
          ))
          | no q ↦ elim (ℕ_discrete (event g d) v) [
            | yes r ↦ omega (
              arith,
              get_or-set_other out c d (nth out c + 2) 0 q,
              M.left d h (omega arith),
              δ_other (nth L (event g d)) d (λ z. q (sym z ∙ ap (nth L) r ∙ sym got)),
            )
            | no r ↦ get_or-set_other out c d (nth out c + 2) 0 q ∙ M.done d h (omega arith)
          ]
        ];
        left = λ d h k. get_or-set_other out c d (nth out c + 2) 0 (λ q. omega (arith, there, ap (event g) q)) ∙ M.left d h (omega arith);
      }
