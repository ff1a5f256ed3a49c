-- What the checks of a report's labels ask. Assumes nothing.
--   Suits g l c            the label of corner c suits its kind
--   Counted g here l e f c   e and f hold the large corners below c of each event and of each key of a face
use Rattle.std.specs.Prelude.{◌≡◌, ◌⊎◌, List, ℕ, ◌<◌, length}
use Rattle.finite.specs.Sums.{δ, class}
use Rattle.drawing.specs.Drawing.{Drawing, event, faces, plain, switch}
use Rattle.drawing.specs.Conditions.{label}
use Rattle.words.specs.Tables.{nth}

-- "every plain corner has 1, every switch corner 0 or 2"
pub record Suits (g : Drawing) (l : List ℕ) (c : ℕ) : Type 0 where
  pub plains : plain g c ≡ 1 → label l c ≡ 1
  pub switches : switch g c ≡ 1 → (label l c ≡ 0) ⊎ (label l c ≡ 2)

-- 1 at a large corner
abbrev pub large : List ℕ → ℕ → ℕ
large l c = δ (label l c) 2

pub record Counted (g : Drawing) (here l e f : List ℕ) (c : ℕ) : Type 0 where
  pub size_e : length e ≡ g.events
  pub size_f : length f ≡ faces g
  pub by_event : (v : ℕ) → v < length e → nth e v ≡ class c (event g) (large l) v
  pub by_face : (x : ℕ) → x < length f → nth f x ≡ class c (nth here) (large l) x
