-- Lines for each entry of a list: one more entry, and how long a line is. Assumes nothing.
use mathlib.Core.Path.{◌≡◌, refl, sym, ap, ap₂, subst, ◌∙◌}
use mathlib.Core.Bool.{Bool, true, false, cond}
use mathlib.Core.List.{List, [], ◌∷◌, ◌++◌, append_assoc, append-nil}
use Prim.Native.Nat.{ℕ, zero, suc, ◌+◌, ◌*◌, ◌/◌, ◌≤◌, ◌<◌}
use native.Mathlib.Numerals.{add-one}
use native.Mathlib.Decide.{dec_lt}
use native.Mathlib.Omega.{arith}
use borrow.Author.Tests.{lt-ltb, le-ltb}
use lib.Dec.{T}
use lib.ListN.{length, get_or, length-append}
use lib.Seq.{get_or-append-add}
use Rattle.finite.specs.Sums.{below}
use Rattle.finite.specs.Lists.{All}
use Rattle.rules.specs.Words.{u16, words}
use Rattle.rules.specs.Listing.{ascii, decimal, each}
use Rattle.words.specs.Tables.{nth}
use Rattle.lines.specs.Text.{line, pair}
use Rattle.lines.specs.Follow.{numbers, Lined, entry, pairs, Table}
use Rattle.lines.proofs.Decimal.{length_four, decimal_short, named_short}

each_append : (f : ℕ → List ℕ) (l m : List ℕ) → each f (l ++ m) ≡ each f l ++ each f m
unfolding each
each_append f [] m = refl
each_append f (x ∷ l) m = ap (λ (t : List ℕ). f x ++ t) (each_append f l m) ∙ sym (append_assoc (f x) (each f l) (each f m))

-- ---- 16-bit numbers

pub line_short : (w : List ℕ) (x : ℕ) → x < 10000 → length (line w x) ≤ length w + 5
unfolding ascii
line_short w x l = omega (arith, length-append (w ++ decimal x) (ascii "\n"), named_short w x l)

u16_behind : (p s : List ℕ) (i : ℕ) → u16 (p ++ s) (length p + i) ≡ u16 s i
unfolding u16
u16_behind p s i =
    let e : length p + i + 1 ≡ length p + (i + 1) = omega arith in
    ap₂ (λ (x y : ℕ). x + 256 * y) (get_or-append-add p s i 0) (ap (λ (k : ℕ). get_or (p ++ s) k 0) e ∙ get_or-append-add p s (i + 1) 0)

words_behind : (p s : List ℕ) (i n : ℕ) → words (p ++ s) (length p + i) n ≡ words s i n
unfolding words
words_behind p s i zero = refl
words_behind p s i (suc n) =
    let e : length p + i + 2 ≡ length p + (i + 2) = omega arith in
    ap₂ ◌∷◌ (u16_behind p s i) (ap (λ (k : ℕ). words (p ++ s) k n) e ∙ words_behind p s (i + 2) n)

-- less than two bytes are no number, and have no line
pub lines_none : (f : ℕ → List ℕ) (done s : List ℕ) → length s < 2 → done ++ each f (numbers s) ≡ done
unfolding each words
lines_none f done s l =
    let none : length s / 2 ≡ 0 = omega arith in ap (λ (n : ℕ). done ++ each f (words s 0 n)) none ∙ append-nil done

-- the first number is in two bytes, and the others are in the rest
numbers_more : (p r : List ℕ) → length p ≡ 2 → numbers (p ++ r) ≡ u16 p 0 ∷ numbers r
unfolding words u16
numbers_more (a ∷ b ∷ []) r e =
    let half : length (a ∷ b ∷ r) / 2 ≡ suc (length r / 2) = omega arith in
    ap (words (a ∷ b ∷ r) 0) half ∙ ap (λ (t : List ℕ). (a + 256 * b) ∷ t) (words_behind (a ∷ b ∷ []) r 0 (length r / 2))
numbers_more [] r e = absurd (omega arith)
numbers_more (a ∷ []) r e = absurd (omega arith)
numbers_more (a ∷ b ∷ c ∷ p) r e = absurd (omega arith)

pub record First (s p r : List ℕ) : Type 0 where
  pub parts : s ≡ p ++ r
  pub two : length p ≡ 2

module _ {s p r : List ℕ} (F : First s p r) where
  first_number : numbers s ≡ u16 p 0 ∷ numbers r
  first_number = ap numbers F.parts ∙ numbers_more p r F.two

  -- the lines of the first number and of the others are those of all
  pub line_and_rest : (f : ℕ → List ℕ) (done whole : List ℕ) → done ++ each f (numbers s) ≡ whole → done ++ f (u16 p 0) ++ each f (numbers r) ≡ whole
  unfolding each
  line_and_rest f done whole e = append_assoc done (f (u16 p 0)) (each f (numbers r)) ∙ ap (λ (l : List ℕ). done ++ each f l) (sym first_number) ∙ e

  module _ {o w : List ℕ} {at : ℕ} (L : Lined o at w s) where
    first_low : All (λ x. x < 10000) (u16 p 0 ∷ numbers r)
    first_low = subst (All (λ x. x < 10000)) first_number L.low

    long : length s ≡ 2 + length r
    long = omega (arith, F.two, ap length F.parts, length-append p r)

    -- there is room for the line of the first number
    pub lined_first : (at + (length w + 5) ≤ length o) × (u16 p 0 < 10000)
    lined_first = (omega (arith, long, L.room, L.word), first_low.0)

    -- and behind it for those of the others
    pub lined_rest : {o' : List ℕ} {end : ℕ} → length o' ≡ length o → end ≡ at + length (line w (u16 p 0)) → Lined o' end w r
    lined_rest same e = record {
      room = omega (arith, long, L.room, L.word, line_short w (u16 p 0) first_low.0);
      word = L.word;
      low = first_low.1;
    }

-- ---- events and corners

each-cond : (f : ℕ → List ℕ) (n : ℕ) (b : Bool) → each f (cond b (n ∷ []) []) ≡ cond b (f n) []
unfolding each
each-cond f n true = append-nil (f n)
each-cond f n false = refl

each_below : (f : ℕ → List ℕ) (n : ℕ) (p : ℕ → Bool) → each f (below (suc n) p) ≡ each f (below n p) ++ cond (p n) (f n) []
unfolding below
each_below f n p = each_append f (below n p) (cond (p n) (n ∷ []) []) ∙ ap (λ (t : List ℕ). each f (below n p) ++ t) (each-cond f n (p n))

-- the same entries, with the same lines
pub each_cong : (f h : ℕ → List ℕ) (n : ℕ) (p q : ℕ → Bool) → ((v : ℕ) → v < n → (p v ≡ q v) × (T (q v) → f v ≡ h v)) → each f (below n p) ≡ each h (below n q)
unfolding below each
each_cong f h zero p q e = refl
each_cong f h (suc n) p q e =
    let l = e n (omega arith) in
    each_below f n p
    ∙ ap₂ ◌++◌ (each_cong f h n p q (λ v k. e v (omega arith))) (ap (λ (b : Bool). cond b (f n) []) l.0 ∙ go (q n) l.1)
    ∙ sym (each_below h n q)
  where
    go : (b : Bool) → (T b → f n ≡ h n) → cond b (f n) [] ≡ cond b (h n) []
    go true g = g tt
    go false g = refl

-- the line of the next event
pub pairs_more : (t : List ℕ) (v : ℕ) → pairs t v ++ entry t v ≡ pairs t (v + 1)
pairs_more t v = sym (ap (pairs t) (add-one v) ∙ each_below (λ u. pair u (nth t u)) v _)

pub entry-none : (t : List ℕ) (v : ℕ) → 65535 ≤ nth t v → entry t v ≡ []
entry-none t v l = rw (le-ltb (nth t v) 65535 l)

pub entry_some : (t : List ℕ) (v : ℕ) → nth t v < 65535 → entry t v ≡ pair v (nth t v)
entry_some t v l = rw (lt-ltb (nth t v) 65535 l)

pair_short : (v c : ℕ) → v < 10000 → c < 10000 → length (pair v c) ≤ 23
unfolding ascii
pair_short v c l k =
    let w : List ℕ = ascii "event " ++ decimal v in
    omega (arith, length_four w (ascii " corner ") (decimal c) (ascii "\n"), named_short (ascii "event ") v l, decimal_short c k)

pub entry_short : (t : List ℕ) (v : ℕ) → Table t → v < length t → length (entry t v) ≤ 23
entry_short t v T l =
    elim (dec_lt (nth t v) 65535) [
      | yes y ↦
          let c : nth t v < 10000 = omega (arith, T.low v l y) in
          omega (arith, ap length (entry_some t v y), pair_short v (nth t v) (omega (arith, T.size)) c)
      | no z ↦ omega (arith, ap length (entry-none t v (omega arith)))
    ]
