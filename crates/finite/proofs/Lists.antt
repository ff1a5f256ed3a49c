-- Lists of numbers: every entry, ascending, none twice. Assumes nothing.
--   all_at, all_of                a statement of every entry, and of the entry at each place
--   below_none                    the list of the numbers that pass a test, where none does
--   all_map, all_append, all_take, all-below     statements of every entry of related lists
--   ascending_at, ascending_of    a list ascends exactly if a later entry is always larger
--   distinct_few                  a list of numbers below m, none twice, has at most m entries
use mathlib.Core.Path.{◌≡◌, refl, sym, ap}
use mathlib.Core.Logic.{◌≢◌}
use mathlib.Core.Bool.{Bool, true, false, cond}
use mathlib.Core.List.{List, [], ◌∷◌, ◌++◌}
use Prim.Native.Nat.{ℕ, zero, suc, ◌≤◌, ◌<◌}
use native.Mathlib.Omega.{arith}
use lib.ListN.{length, get_or, take}
use Rattle.finite.specs.Sums.{below}
use Rattle.finite.specs.Steps.{Inj}
use Rattle.finite.specs.Lists.{All, Distinct, Ascending}
use Rattle.finite.proofs.Perm.{inj_le}

pub all_at : (P : ℕ → Type 0) (l : List ℕ) → All P l → (i : ℕ) → i < length l → P (get_or l i 0)
all_at P [] a i h = absurd (omega arith)
all_at P (x ∷ l) a zero h = a.0
all_at P (x ∷ l) a (suc i) h = all_at P l a.1 i (omega arith)

pub all_of : (P : ℕ → Type 0) (l : List ℕ) → ((i : ℕ) → i < length l → P (get_or l i 0)) → All P l
all_of P [] at = tt
all_of P (x ∷ l) at = (at 0 (omega arith), all_of P l (λ i h. at (suc i) (omega arith)))

pub ascending_at : (l : List ℕ) → Ascending l → (i j : ℕ) → i < j → j < length l → get_or l i 0 < get_or l j 0
ascending_at [] a i j k h = absurd (omega arith)
ascending_at (x ∷ l) a i zero k h = absurd (omega arith)
ascending_at (x ∷ l) a zero (suc j) k h = all_at (λ y. x < y) l a.0 j (omega arith)
ascending_at (x ∷ l) a (suc i) (suc j) k h = ascending_at l a.1 i j (omega arith) (omega arith)

pub ascending_of : (l : List ℕ) → ((i j : ℕ) → i < j → j < length l → get_or l i 0 < get_or l j 0) → Ascending l
ascending_of [] at = tt
ascending_of (x ∷ l) at = (
  all_of (λ y. x < y) l (λ j h. at 0 (suc j) (omega arith) (omega arith)),
  ascending_of l (λ i j k h. at (suc i) (suc j) (omega arith) (omega arith)),
)

pub all_map : {P Q : ℕ → Type 0} → ((x : ℕ) → P x → Q x) → (l : List ℕ) → All P l → All Q l
all_map f [] a = tt
all_map f (x ∷ l) a = (f x a.0, all_map f l a.1)

pub all_append : (P : ℕ → Type 0) (l m : List ℕ) → All P l → All P m → All P (l ++ m)
all_append P [] m a b = b
all_append P (x ∷ l) m a b = (a.0, all_append P l m a.1 b)

pub all_take : (P : ℕ → Type 0) (k : ℕ) (l : List ℕ) → All P l → All P (take k l)
all_take P zero l a = tt
all_take P (suc k) [] a = tt
all_take P (suc k) (x ∷ l) a = (a.0, all_take P k l a.1)

-- where no number passes the test
pub below_none : (n : ℕ) (p : ℕ → Bool) → ((i : ℕ) → i < n → p i ≡ false) → below n p ≡ []
unfolding below
below_none zero p h = refl
below_none (suc n) p h = rw (h n (omega arith), below_none n p (λ i l. h i (omega arith)))

pub all-below : (n : ℕ) (p : ℕ → Bool) → All (λ x. x < n) (below n p)
unfolding below
all-below zero p = tt
all-below (suc n) p = all_append (λ x. x < suc n) (below n p) (cond (p n) (n ∷ []) []) (all_map (λ x l. omega arith) (below n p) (all-below n p)) (go (p n))
  where
    go : (b : Bool) → All (λ x. x < suc n) (cond b (n ∷ []) [])
    go true = (omega arith, tt)
    go false = tt

distinct_inj : (l : List ℕ) → Distinct l → Inj (length l) (λ i. get_or l i 0)
distinct_inj [] d i j h k e = absurd (omega arith)
distinct_inj (x ∷ l) d zero zero h k e = refl
distinct_inj (x ∷ l) d zero (suc j) h k e = absurd (all_at (λ y. x ≢ y) l d.0 j (omega arith) e)
distinct_inj (x ∷ l) d (suc i) zero h k e = absurd (all_at (λ y. x ≢ y) l d.0 i (omega arith) (sym e))
distinct_inj (x ∷ l) d (suc i) (suc j) h k e = ap suc (distinct_inj l d.1 i j (omega arith) (omega arith) e)

pub distinct_few : (m : ℕ) (l : List ℕ) → Distinct l → All (λ x. x < m) l → length l ≤ m
distinct_few m l d a = inj_le (length l) m (λ i. get_or l i 0) (distinct_inj l d) (all_at (λ x. x < m) l a)

pub ascending_distinct : (l : List ℕ) → Ascending l → Distinct l
ascending_distinct [] a = tt
ascending_distinct (x ∷ l) a = (all_map (λ y h e. omega arith) l a.0, ascending_distinct l a.1)
