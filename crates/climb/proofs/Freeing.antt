-- An arrow taken away with no branch on its direction: the code reads the event e of dart c + 1 - c % 2, and its count k. Assumes nothing.
use mathlib.Core.Path.{◌≡◌, refl, ap, ◌∙◌}
use mathlib.Core.List.{List}
use Prim.Native.Nat.{ℕ, ◌+◌, ◌-◌, ◌*◌, ◌%◌, ◌<◌, ◌≤◌}
use native.Mathlib.Decide.{ℕ_discrete, dec_lt}
use native.Mathlib.Omega.{arith}
use lib.ListN.{length, set, length-set}
use lib.Seq.{set-get_or, get_or-set_other}
use Rattle.drawing.specs.Drawing.{Drawing, event, enters}
use Rattle.words.specs.Tables.{nth}
use Rattle.climb.specs.Peel.{Ready, Same, Freed, entered, fewer, last, Sourced, free, other}

-- a store at place t leaves the entries before it
pub set_same : (list : List ℕ) (t e : ℕ) → Same list t (set list t e)
set_same list t e = (length-set list t e, λ i l. get_or-set_other list t i e 0 (λ q. omega arith))

-- the event v, which k arrows enter, is stored at the list's end, which moves by r
pub sourced : (left list : List ℕ) (t v k r : ℕ) → k ≡ nth left v → (k < 1 → r ≡ 1) × (1 ≤ k → r ≡ 0) × (r < 2) → Sourced left list t v (set list t v) (t + r)
sourced left list t v k r q w = elim (dec_lt k 1) [
  | yes z ↦ let more : t + r ≡ t + 1 = omega (arith, w.0 z) in rw more (free (omega arith))
  | no z ↦ let stay : t + r ≡ t = omega (arith, w.1 (omega arith)) in rw stay (other (omega arith) (set_same list t v))
]

-- ---- the arrow of dart c is taken away, if it leaves its event

module _ (g : Drawing) (c : ℕ) (left list : List ℕ) (t e k : ℕ) (ready : enters c ≡ 0 → Ready g c left list t)
    (at : e ≡ event g (c + 1 - c % 2)) (read : k ≡ nth left e) where
  -- an arrow that leaves
  head : enters c ≡ 0 → e ≡ event g (c + 1)
  head q = at ∙ ap (event g) (omega arith)

  count : enters c ≡ 0 → k ≡ nth left (event g (c + 1))
  count q = read ∙ ap (nth left) (head q)

  -- the arrow is counted
  pub some : 1 ≤ k + c % 2
  some = elim (ℕ_discrete (c % 2) 0) [ yes q ↦ omega (arith, count q, (ready q).counted) | no q ↦ omega arith ]

  module _ (left' : List ℕ) (put : left' ≡ set left e (k + c % 2 - 1)) where
    lower : enters c ≡ 0 → left' ≡ set left (event g (c + 1)) (nth left (event g (c + 1)) - 1)
    lower q =
        let less : k + c % 2 - 1 ≡ nth left (event g (c + 1)) - 1 = omega (arith, count q) in
        put ∙ ap (λ (x : ℕ). set left x (k + c % 2 - 1)) (head q) ∙ ap (set left (event g (c + 1))) less

    as_was : enters c ≡ 1 → left' ≡ left
    as_was q =
        let same : k + c % 2 - 1 ≡ nth left e = omega (arith, read) in
        put ∙ ap (set left e) same ∙ set-get_or left e 0

    -- the list is full: it has the event already
    pub freed_full : length list ≤ t → Freed g c left list t left' list t
    freed_full full = elim (ℕ_discrete (c % 2) 0) [
      | yes q ↦ rw (lower q) (fewer q (more q) (refl, λ i l. refl))
      | no q ↦ rw (as_was (omega arith)) (entered (omega arith) (refl, λ i l. refl))
    ]
      where
        more : enters c ≡ 0 → 1 < nth left (event g (c + 1))
        more q = elim (dec_lt 1 (nth left (event g (c + 1)))) [ yes m ↦ m | no m ↦ absurd (omega (arith, (ready q).room (omega arith))) ]

    -- the event is stored at the list's end, which moves by r
    module _ (list' : List ℕ) (listed : list' ≡ set list t e) (r : ℕ) (ones : k + 2 * (c % 2) < 2 → r ≡ 1) (zeros : 2 ≤ k + 2 * (c % 2) → r ≡ 0) where
      same : Same list t list'
      same = rw listed (set_same list t e)

      pub freed_set : Freed g c left list t left' list' (t + r)
      freed_set = elim (ℕ_discrete (c % 2) 0) [
        | yes q ↦ elim (dec_lt 1 (nth left (event g (c + 1)))) [
          | yes m ↦
              let stay : t + r ≡ t = omega (arith, zeros (omega (arith, count q))) in
              rw (lower q, stay) (fewer q m same)
          | no m ↦
              let more : t + r ≡ t + 1 = omega (arith, ones (omega (arith, count q))) in
              rw (lower q, more, listed, head q) (last q (omega arith))
        ]
        | no q ↦
            let stay : t + r ≡ t = omega (arith, zeros (omega arith)) in
            rw (as_was (omega arith), stay) (entered (omega arith) same)
      ]
