-- A chart over the limit gets 1 to 5, by its first 11 bytes; so what the listing program does not read cannot matter. Assumes nothing.
--   longest          the bytes of the longest chart, 11 + 8A for 3,072 arrows
--   within           a chart with counts and length as they should be is no longer
--   overlong_five    so a longer one whose counts pass has a wrong length
--   overlong_given   and gets 5
--   overlong_number  a longer one gets one of 1 to 5 in any case
--   Alike s t        two charts over the limit with the same first 11 bytes
--   alike_given      they get the same number
--   read_whole       a chart of the right length is read whole
--   read_or_alike    every chart is, or is alike to what is read of it
--   one_over         what is read is at most one byte over the limit
--   cut_given        the number of a chart is the number of what is read of it
--   given_cut        and the other way round
use mathlib.Core.Path.{◌≡◌, refl, sym, ap, subst, ◌∙◌}
use mathlib.Core.Logic.{◌⊎◌, inl, inr, ⊎_elim}
use mathlib.Core.List.{List, [], ◌∷◌}
use Prim.Native.Nat.{ℕ, ◌+◌, ◌≤◌, ◌<◌}
use native.Mathlib.Decide.{dec_le}
use native.Mathlib.Omega.{arith}
use lib.ListN.{length, get_or, take, drop}
use lib.Seq.{get_or-take, take-take, take_all, length-take-le}
use Rattle.rules.specs.Words.{u16}
use Rattle.rules.specs.Tests.{Passes, Given, short, mark, version, counts, size, tests}
use Rattle.rules.specs.Listing.{input_room}
use Rattle.rules.proofs.Chain.{given_first, given_append, given_parts}

-- "Length is exactly 11 + 8A, at most 24,587."
abbrev pub longest : ℕ
longest = 24587

-- a chart of that length with counts in their ranges is not longer
pub within : (s : List ℕ) (r : ℕ) → Passes counts s r → Passes size s r → length s ≤ longest
within s r c e = omega (arith, c.3, e)

-- "so that an overlong chart gets 5": once its counts pass, its length does not
pub overlong_five : (s : List ℕ) (r : ℕ) → longest < length s → Passes counts s r → ¬ Passes size s r
overlong_five s r h c e = omega (arith, h, within s r c e)

pub overlong_given : (s : List ℕ) (r : ℕ) → longest < length s → Given (short ∷ mark ∷ version ∷ counts ∷ []) s r 0 → Given tests s r 5
overlong_given s r h g =
    let c = (given_parts (short ∷ mark ∷ version ∷ []) (counts ∷ []) s r g).1 in
    given_append (short ∷ mark ∷ version ∷ counts ∷ []) (drop 4 tests) s r 5 g
    (inl (overlong_five s r h (given_first counts [] s r c).0, refl))

-- it gets no number but 1 to 5
pub overlong_number : (s : List ℕ) (r n : ℕ) → longest < length s → Given tests s r n → (1 ≤ n) × (n ≤ 5)
overlong_number s r n h (inl x) = (omega (arith, x.1), omega (arith, x.1))
overlong_number s r n h (inr (_, inl x)) = (omega (arith, x.1), omega (arith, x.1))
overlong_number s r n h (inr (_, inr (_, inl x))) = (omega (arith, x.1), omega (arith, x.1))
overlong_number s r n h (inr (_, inr (_, inr (_, inl x)))) = (omega (arith, x.1), omega (arith, x.1))
overlong_number s r n h (inr (_, inr (_, inr (_, inr (c, inl x))))) = (omega (arith, x.1), omega (arith, x.1))
overlong_number s r n h (inr (_, inr (_, inr (_, inr (c, inr x))))) = absurd (overlong_five s r h c x.0)

-- ---- two charts over the limit

pub record Alike (s t : List ℕ) : Type 0 where
  pub long : longest < length s
  pub too : longest < length t
  pub front : take 11 s ≡ take 11 t

pub alike_turned : {s t : List ℕ} → Alike s t → Alike t s
alike_turned a = record { long = a.too; too = a.long; front = sym a.front }

module _ {s t : List ℕ} (a : Alike s t) where
  -- the bytes and the numbers in the first 11 bytes are the same
  same_byte : (i : ℕ) → i < 11 → get_or s i 0 ≡ get_or t i 0
  same_byte i h = sym (get_or-take 11 s i 0 h) ∙ ap (λ (l : List ℕ). get_or l i 0) a.front ∙ get_or-take 11 t i 0 h

  same_word : (i : ℕ) → i < 10 → u16 s i ≡ u16 t i
  unfolding u16
  same_word i h = omega (arith, same_byte i (omega arith), same_byte (i + 1) (omega arith))

  mark_alike : (r : ℕ) → Passes mark s r → Passes mark t r
  mark_alike r p = (omega (arith, a.too), sym (take-take 3 11 t (omega arith)) ∙ sym (ap (take 3) a.front) ∙ take-take 3 11 s (omega arith) ∙ p.1)

  version_alike : (r : ℕ) → Passes version s r → Passes version t r
  version_alike r p = sym (same_word 3 (omega arith)) ∙ p

  counts_alike : (r : ℕ) → Passes counts s r → Passes counts t r
  counts_alike r p =
      let v = same_word 5 (omega arith) in
      let w = same_word 7 (omega arith) in
      (omega (arith, v, p.0), omega (arith, v, p.1), omega (arith, w, p.2), omega (arith, w, p.3))

-- a test that two charts pass together, and what follows once they do
together : {P P' Q Q' : Type 0} {n k : ℕ} → (P → P') → (P' → P) → (P → Q → Q') → (¬ P × (n ≡ k)) ⊎ (P × Q) → (¬ P' × (n ≡ k)) ⊎ (P' × Q')
together f g h (inl x) = inl (λ p. x.0 (g p), x.1)
together f g h (inr x) = inr (f x.0, h x.0 x.1)

pub alike_given : (s t : List ℕ) (r n : ℕ) → Alike s t → Given tests s r n → Given tests t r n
alike_given s t r n a =
    let b = alike_turned a in
    together (λ p. p) (λ p. p) (λ _.
    together (mark_alike a r) (mark_alike b r) (λ _.
    together (version_alike a r) (version_alike b r) (λ _.
    together (counts_alike a r) (counts_alike b r) (λ c.
    ⊎_elim (λ x. inl (overlong_five t r a.too (counts_alike a r c), x.1)) (λ x. absurd (overlong_five s r a.long c x.0))))))

-- ---- what is read

-- a chart of the right length is read whole
pub read_whole : (s : List ℕ) (r : ℕ) → Passes counts s r → Passes size s r → take input_room s ≡ s
read_whole s r c e = take_all input_room s (omega (arith, within s r c e))

-- every chart is read whole, or both it and what is read are over the limit
pub read_or_alike : (s : List ℕ) → (take input_room s ≡ s) ⊎ Alike s (take input_room s)
read_or_alike s = elim (dec_le (length s) input_room) [
  | yes h ↦ inl (take_all input_room s h)
  | no h ↦ inr (record {
    long = omega (arith, h);
    too = omega (arith, h, length-take-le input_room s (omega (arith, h)));
    front = sym (take-take 11 input_room s (omega arith));
  })
]

-- what is read is "one over the limit"
pub one_over : input_room ≡ longest + 1
one_over = refl

-- so what is cut off does not matter: the number is the same
pub cut_given : (s : List ℕ) (r n : ℕ) → Given tests s r n → Given tests (take input_room s) r n
cut_given s r n g =
    ⊎_elim (λ e. subst (λ (l : List ℕ). Given tests l r n) (sym e) g) (λ a. alike_given s (take input_room s) r n a g) (read_or_alike s)

pub given_cut : (s : List ℕ) (r n : ℕ) → Given tests (take input_room s) r n → Given tests s r n
given_cut s r n g =
    ⊎_elim (λ e. subst (λ (l : List ℕ). Given tests l r n) e g) (λ a. alike_given (take input_room s) s r n (alike_turned a) g) (read_or_alike s)
