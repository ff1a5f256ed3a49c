-- The list of a set, written member by member; a crowd of sources and sinks, listed, is a cut. Assumes nothing.
use mathlib.Core.Path.{◌≡◌, refl, sym, ap, ◌∙◌}
use mathlib.Core.Logic.{◌≢◌}
use mathlib.Core.List.{List, [], ◌∷◌}
use Prim.Native.Nat.{ℕ, zero, suc, ◌+◌, ◌≤◌, ◌<◌, min}
use native.Mathlib.Nat.{le_of_suc-le-suc}
use native.Mathlib.Decide.{ℕ_discrete}
use native.Mathlib.Omega.{arith}
use native.Mathlib.Numerals.{add-one}
use lib.Dec.{T}
use lib.ListN.{length, take, set, length-take}
use lib.Seq.{get_or-set_same, get_or-set_other}
use Rattle.finite.specs.Sums.{sum}
use Rattle.finite.specs.Lists.{All, Ascending}
use Rattle.finite.proofs.Sum.{δ-eq, δ_other}
use Rattle.finite.proofs.Filled.{past}
use Rattle.drawing.specs.Drawing.{Drawing, darts, corner_face, room1, pole}
use Rattle.drawing.specs.Conditions.{Cut}
use Rattle.words.specs.Tables.{nth}
use Rattle.chart.proofs.Keys.{keyed_cut}
use Rattle.placing.specs.Board.{Board, Crowd}
use Rattle.placing.specs.Search.{member, Listing}
use Rattle.placing.proofs.Boards.{face_of_lem, face-none}

-- ---- writing

pub list_none : (S : ℕ → ℕ) (list : List ℕ) → Listing 0 S list 0
unfolding sum
list_none S list = record { count = refl; rising = λ i j a b. absurd (omega arith); each = λ i a. absurd (omega arith) }

pub list_same : {S : ℕ → ℕ} {list : List ℕ} {v k : ℕ} → Listing v S list k → S v ≡ 0 → Listing (v + 1) S list k
unfolding sum
list_same {v = v} L z = record {
  count = rw (add-one v) (omega (arith, L.count));
  rising = L.rising;
  each = λ i a. (omega (arith, (L.each i a).0), (L.each i a).1);
}

pub list_more : {S : ℕ → ℕ} {list : List ℕ} {v k : ℕ} → Listing v S list k → S v ≡ 1 → k < length list → Listing (v + 1) S (set list k v) (k + 1)
unfolding sum
list_more {list = list} {v} {k} L z l = record {
  count = rw (add-one v) (omega (arith, L.count));
  rising = λ i j a b. elim (ℕ_discrete j k) [
    | yes q ↦ omega (arith, ap (nth (set list k v)) q, there, other i (omega arith), (L.each i (omega arith)).0)
    | no q ↦ omega (arith, other i (omega arith), other j q, L.rising i j a (omega arith))
  ];
  each = λ i a. elim (ℕ_discrete i k) [
    | yes q ↦ rw (q, there) (omega arith, z)
    | no q ↦ rw (other i q) (omega (arith, (L.each i (omega arith)).0), (L.each i (omega arith)).1)
  ];
}
  where
    there : nth (set list k v) k ≡ v
    there = get_or-set_same list k v 0 l

    other : (i : ℕ) → i ≢ k → nth (set list k v) i ≡ nth list i
    other i d = get_or-set_other list k i v 0 d

-- one more entry is as it should be
pub stored : (f : ℕ → ℕ) (l : List ℕ) (c x : ℕ) → c < length l → x ≡ f c → ((k : ℕ) → k < c → nth l k ≡ f k) → (k : ℕ) → k < c + 1 → nth (set l c x) k ≡ f k
stored f l c x h e all k b = elim (ℕ_discrete k c) [
  | yes q ↦ ap (nth (set l c x)) q ∙ get_or-set_same l c x 0 h ∙ e ∙ ap f (sym q)
  | no q ↦ get_or-set_other l c k x 0 q ∙ all k (omega arith)
]

-- ---- who is in the crowd

module _ (here L rank : List ℕ) (u v : ℕ) (ranks : length rank ≤ length here) where
  pub member_self : u ≡ v → member here L rank u v ≡ 1
  member_self e = omega (arith, δ-eq u v e)

  pub member-none : u ≢ v → length here ≤ nth L v → member here L rank u v ≡ 0
  member-none d l = omega (arith, δ_other u v d, ap (nth rank) (face-none here (nth L v) l), past rank (length here) (omega arith))

  pub member-placed : u ≢ v → nth L v < length here → member here L rank u v ≡ min 1 (nth rank (nth here (nth L v)))
  member-placed d l = omega (arith, δ_other u v d, ap (nth rank) (face_of_lem here (nth L v) l))

-- ---- the list is a cut

all_take : (P : ℕ → Type 0) (l : List ℕ) (k : ℕ) → k ≤ length l → ((i : ℕ) → i < k → P (nth l i)) → All P (take k l)
all_take P l zero h p = tt
all_take P [] (suc k) h p = tt
all_take P (x ∷ l) (suc k) h p = (p 0 (omega arith), all_take P l k (le_of_suc-le-suc h) (λ i a. p (suc i) (omega arith)))

ascending_take : (l : List ℕ) (k : ℕ) → k ≤ length l → ((i j : ℕ) → i < j → j < k → nth l i < nth l j) → Ascending (take k l)
ascending_take l zero h p = tt
ascending_take [] (suc k) h p = tt
ascending_take (x ∷ l) (suc k) h p =
    (all_take (λ y. x < y) l k (le_of_suc-le-suc h) (λ i a. p 0 (suc i) (omega arith) (omega arith)), ascending_take l k (le_of_suc-le-suc h) (λ i j a b. p (suc i) (suc j) (omega arith) (omega arith)))

pub is_cut : {g : Drawing} {here : List ℕ} {room S : ℕ → ℕ} {list : List ℕ} {k : ℕ} → Board g here → Crowd g here room S → Listing g.events S list k → k ≤ length list
    → ((c : ℕ) → c < darts g → room (nth here c) + 1 ≡ room1 g (corner_face g c))
    → ((v : ℕ) → v < g.events → 1 ≤ S v → T (pole g v))
    → Cut g (take k list)
is_cut {g} {here} {room} {S} {list} {k} B C L h rooms poles =
    keyed_cut B.even B.rings B.keyed S C.t room (take k list) C.touch rooms C.over
    (ascending_take list k h L.rising)
    (all_take (λ v. (v < g.events) × T (pole g v)) list k h (λ i a. ((L.each i a).0, poles (nth list i) (L.each i a).0 (omega (arith, (L.each i a).1)))))
    (omega (arith, length-take k list, L.count))
    (all_take (λ v. S v ≡ 1) list k h (λ i a. (L.each i a).1))
