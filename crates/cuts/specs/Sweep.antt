-- The room of the faces that marked events touch, taken out of a table of rooms corner by corner. Assumes nothing.
--   Taken g here q s c r s'   at corner c: if the table q marks its event with 2, the room r of its face is out of s, which leaves s'
--   Hit g here q c f          one of the first c corners lies in the face of key f, at an event that q marks
--   Swept g here q s₀ c x s   of the rooms s₀, those of the faces hit by the first c corners are out, x in all, which leaves s
use Rattle.std.specs.Prelude.{◌≡◌, ◌≢◌, ◌⊎◌, List, ℕ, ◌+◌, ◌*◌, ◌<◌, ◌≤◌, length, set}
use Rattle.finite.specs.Sums.{sum}
use Rattle.drawing.specs.Drawing.{Drawing, event, faces}
use Rattle.words.specs.Tables.{nth}

pub record Taken (g : Drawing) (here q s : List ℕ) (c r : ℕ) (s' : List ℕ) : Type 0 where
  pub small : r < 65536
  pub either :
      ((nth q (event g c) ≡ 2) × (r ≡ nth s (nth here c)) × (s' ≡ set s (nth here c) 0))
      ⊎ ((nth q (event g c) ≢ 2) × (r ≡ 0) × (s' ≡ s))

abbrev pub Hit : Drawing → List ℕ → List ℕ → ℕ → ℕ → Type 0
Hit g here q c f = (d : ℕ) × (d < c) × ((nth q (event g d) ≡ 2) × (nth here d ≡ f))

pub record Swept (g : Drawing) (here q s₀ : List ℕ) (c x : ℕ) (s : List ℕ) : Type 0 where
  pub size : length s ≡ faces g
  pub small : x ≤ 65535 * c
  pub out : (f : ℕ) → f < faces g → Hit g here q c f → nth s f ≡ 0
  pub kept : (f : ℕ) → f < faces g → ¬ Hit g here q c f → nth s f ≡ nth s₀ f
  pub whole : x + sum (faces g) (nth s) ≡ sum (faces g) (nth s₀)
