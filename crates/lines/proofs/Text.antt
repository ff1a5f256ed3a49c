-- Laws of text put into bytes: what is put after it, and the length. Assumes nothing.
use mathlib.Core.Path.{◌≡◌, refl, sym, ap, ap₂, subst, ◌∙◌}
use mathlib.Core.List.{List, [], ◌++◌, append_assoc, append-nil}
use Prim.Native.Nat.{ℕ, ◌+◌, ◌≤◌}
use native.Mathlib.Nat.{add-zero}
use native.Mathlib.Omega.{arith}
use lib.ListN.{length, take, drop, length-append, length-drop, take-append-drop}
use lib.Seq.{length-take-le, take_at, drop-append-add, drop-drop, take-length}
use borrow.Rule.Slice.PartMut.{put_mid}
use Rattle.std.proofs.lemmas.Slice.{put_mid-paste}
use Rattle.lines.specs.Text.{over, Wrote}

module _ (s t : List ℕ) (at : ℕ) (room : at + length t ≤ length s) where
  head-length : length (take at s ++ t) ≡ at + length t
  head-length = omega (arith, length-append (take at s) t, length-take-le at s (omega arith))

  pub over-length : length (over s at t) ≡ length s
  unfolding over
  over-length =
      omega (arith, length-append (take at s ++ t) (drop (at + length t) s), head-length, length-drop (at + length t) s)

  over_then : (u : List ℕ) → over (over s at t) (at + length t) u ≡ over s at (t ++ u)
  unfolding over
  over_then u =
      let h : List ℕ = take at s ++ t in
      let r : List ℕ = drop (at + length t) s in
      let e : length h ≡ at + length t = head-length in
      let k : at + length t + length u ≡ at + length (t ++ u) = omega (arith, length-append t u) in
      let rest : drop (at + length t + length u) (h ++ r) ≡ drop (at + length (t ++ u)) s =
      ap (λ (k : ℕ). drop (k + length u) (h ++ r)) (sym e) ∙ drop-append-add h r (length u) ∙ drop-drop (length u) (at + length t) s
      ∙ ap (λ (k : ℕ). drop k s) k in
      ap₂ (λ (x y : List ℕ). x ++ u ++ y) (take_at h r (at + length t) e) rest
      ∙ ap (λ (x : List ℕ). x ++ drop (at + length (t ++ u)) s) (append_assoc (take at s) t u)

pub wrote_nothing : (s : List ℕ) (at : ℕ) → at ≤ length s → Wrote s at [] s at
unfolding over
wrote_nothing s at l = record {
  room = omega arith;
  left =
      sym (ap (λ (k : ℕ). take at s ++ [] ++ drop k s) (add-zero at) ∙ ap (λ (x : List ℕ). x ++ drop at s) (append-nil (take at s)) ∙ take-append-drop at s);
  end = omega arith;
}

-- a text copied whole, in the k bytes that are lent for it
pub wrote_copied : (s t u : List ℕ) (at k : ℕ) → at + length t ≤ length s → u ≡ t → length t ≡ k → Wrote s at t (put_mid at k s u) (at + length t)
unfolding over
wrote_copied s t u at k l e size = record {
  room = l;
  left = put_mid-paste at k s u t (length t) e size refl ∙ ap (λ (x : List ℕ). take at s ++ x ++ drop (at + length t) s) (take-length t);
  end = refl;
}

-- ---- what was written, in general

module _ {s t s' : List ℕ} {at r : ℕ} (a : Wrote s at t s' r) where
  pub wrote_length : length s' ≡ length s
  wrote_length = ap length a.left ∙ over-length s t at a.room

  -- the same text, by another name
  pub wrote_as : {u : List ℕ} → t ≡ u → Wrote s at u s' r
  wrote_as e = subst (λ (x : List ℕ). Wrote s at x s' r) e a

  -- another text after it
  pub wrote_then : {u s'' : List ℕ} {q : ℕ} → Wrote s' r u s'' q → Wrote s at (t ++ u) s'' q
  wrote_then {u} b = record {
    room = omega (arith, a.room, a.end, b.room, wrote_length, length-append t u);
    left = b.left ∙ ap₂ (λ (x : List ℕ) (k : ℕ). over x k u) a.left a.end ∙ over_then s t at a.room u;
    end = omega (arith, a.end, b.end, length-append t u);
  }

pub wrote_first : {s t s' : List ℕ} {r : ℕ} → Wrote s 0 t s' r → s' ≡ t ++ drop r s
unfolding over
wrote_first {s} {t} {r = r} a = a.left ∙ ap (λ (k : ℕ). t ++ drop k s) (sym a.end)
