-- Being joined by arrows is symmetric and transitive, so that all events are joined from any of them or from none. Assumes nothing.
use mathlib.Core.Path.{◌≡◌, ap, subst}
use Prim.Native.Nat.{ℕ, ◌%◌, ◌<◌}
use Rattle.drawing.specs.Drawing.{Drawing, darts, event, twin}
use Rattle.drawing.specs.Conditions.{Reached, first, along as onward, Joined}
use Rattle.drawing.proofs.Twins.{twin_into, twin-twin}
use Rattle.rings.specs.Joining.{From, start, along}

module _ (g : Drawing) where
  from_trans : {u v w : ℕ} → From g u v → From g v w → From g u w
  from_trans a start = a
  from_trans a (along d l b) = along d l (from_trans a b)

  reached_from : {v : ℕ} → Reached g v → From g 0 v
  reached_from first = start
  reached_from (onward d l r) = along d l (reached_from r)

  from_reached : {v : ℕ} → From g 0 v → Reached g v
  from_reached start = first
  from_reached (along d l r) = onward d l (from_reached r)

  module _ (even : darts g % 2 ≡ 0) where
    from_sym : {u v : ℕ} → From g u v → From g v u
    from_sym start = start
    from_sym (along d l a) =
        from_trans
        (subst (From g (event g (twin d))) (ap (event g) (twin-twin d)) (along (twin d) (twin_into (darts g) even d l) start))
        (from_sym a)

    module _ (u : ℕ) (l : u < g.events) where
      pub joined_from : Joined g → (v : ℕ) → v < g.events → From g u v
      joined_from J v k = from_trans (from_sym (reached_from (J u l))) (reached_from (J v k))

      pub from_joined : 0 < g.events → ((v : ℕ) → v < g.events → From g u v) → Joined g
      from_joined z all v k = from_reached (from_trans (from_sym (all 0 z)) (all v k))
