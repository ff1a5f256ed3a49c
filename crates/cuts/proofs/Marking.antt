-- The first i entries of a list ascend, the table p has 1 at each, and they are marked: the laws of the loop of `list_fits`. Assumes nothing.
--   Next, reads                 the entry to look at, and how it is read from bytes
--   step                        one entry more
--   done                        after the last entry
--   sinking, other              an entry that refuses the list: it does not ascend, or is no source or sink
--   says_there                  what the comparison of an entry of a table, if it has one, says
use mathlib.Core.Path.{◌≡◌, sym, ap, subst, ◌∙◌}
use mathlib.Core.Logic.{◌≢◌, ◌⊎◌, inl, inr}
use mathlib.Core.List.{List}
use Prim.Native.Nat.{ℕ, ◌+◌, ◌*◌, ◌<◌, ◌≤◌}
use native.Mathlib.Decide.{ℕ_discrete}
use native.Mathlib.Omega.{arith}
use borrow.Author.Count.{below_more}
use borrow.Author.Tests.{ltb-true, ltb-false}
use lib.Dec.{eqb, ltb}
use denote.Ref.{Bor}
use Rattle.std.proofs.Common.{Option, Some, None}
use Rattle.std.specs.Option.{is_some, IfSome, option_eq}
use Rattle.std.proofs.lemmas.List.{get_or_read}
use Rattle.finite.specs.Says.{Says}
use Rattle.finite.proofs.Yes.{says_as, says_equal}
use lib.ListN.{length, set, get_or, length-set}
use lib.Seq.{get_or-set_same, get_or-set_other}
use Rattle.rules.specs.Words.{u16, words}
use Rattle.rules.proofs.Bytes.{words-length, words_at_lem}
use Rattle.words.specs.Tables.{nth}
use Rattle.cuts.specs.Marks.{Fit, Marked}
use Rattle.finite.proofs.Lists.{all_at, all_of, ascending_at, ascending_of}

-- q is p with the first i entries of l marked, all below from
pub record Marking (p l : List ℕ) (q : List ℕ) (from i : ℕ) : Type 0 where
  pub size : length q ≡ length p
  pub upto : i ≤ length l
  pub ones : (j : ℕ) → j < i → (nth l j < length p) × (nth p (nth l j) ≡ 1)
  pub marks : (j : ℕ) → j < i → nth q (nth l j) ≡ 2
  pub only : (v : ℕ) → v < length p → nth q v ≡ 2 → (j : ℕ) × (j < i) × (nth l j ≡ v)
  pub ascends : (j k : ℕ) → j < k → k < i → nth l j < nth l k
  pub under : (j : ℕ) → j < i → nth l j < from
  pub last : (from ≡ 0) ⊎ ((j : ℕ) × (j < i) × (from ≡ nth l j + 1))
  pub above : (v : ℕ) → from ≤ v → nth q v ≡ nth p v

pub says_there : (o : Option (Bor ℕ)) (y : Bor ℕ) (q : List ℕ) (e : ℕ) → is_some o ≡ ltb e (length q) → IfSome o (λ x. x.now ≡ get_or q e x.now)
    → Says (option_eq (λ (x y : Bor ℕ). eqb x.now y.now) o (Some y)) ((e < length q) × (nth q e ≡ y.now))
says_there None y q e h r = λ t. omega (arith, ltb-false e (length q) (sym h), t.0)
says_there (Some x) y q e h r = says_as (eqb x.now y.now) (λ t. (ltb-true e (length q) (sym h), sym at ∙ t)) (λ t. at ∙ t.1) (says_equal x.now y.now)
  where
    at : x.now ≡ nth q e
    at = get_or_read q e x.now (ltb-true e (length q) (sym h)) r 0

-- e is the entry to look at
abbrev pub Next : List ℕ → ℕ → ℕ → Type 0
Next l i e = (i < length l) × (e ≡ nth l i)

pub reads : (s : List ℕ) (count i e : ℕ) → i < count → e ≡ u16 s (2 * i) → Next (words s 0 count) i e
reads s count i e h r = (omega (arith, words-length s 0 count), r ∙ ap (u16 s) (omega arith) ∙ sym (words_at_lem s 0 count i h))

module _ (p l : List ℕ) where
  module _ (q : List ℕ) (from i : ℕ) (m : Marking p l q from i) where
    pub done : length l ≤ i → Fit p l × Marked l q
    done h = (
      record {
        ascending = ascending_of l (λ j k a b. m.ascends j k a (omega arith));
        ones = all_of (λ v. (v < length p) × (nth p v ≡ 1)) l (λ j k. m.ones j (omega arith));
      },
      record {
        all = all_of (λ v. nth q v ≡ 2) l (λ j k. m.marks j (omega arith));
        only = λ v k e. let t = m.only v (omega (arith, m.size)) e in (t.0, omega (arith, t.1, m.upto), t.2);
      },
    )

    module _ (e : ℕ) (n : Next l i e) where
      pub sinking : e < from → Fit p l → ⊥
      sinking h f = go m.last
        where
          go : (from ≡ 0) ⊎ ((j : ℕ) × (j < i) × (from ≡ nth l j + 1)) → ⊥
          go (inl z) = omega arith
          go (inr t) = omega (arith, t.2, ascending_at l f.ascending t.0 i t.1 n.0, n.1)

      pub other : from ≤ e → ((e < length q) × (nth q e ≡ 1) → ⊥) → Fit p l → ⊥
      other h d f =
          let a = all_at (λ v. (v < length p) × (nth p v ≡ 1)) l f.ones i n.0 in
          d (omega (arith, a.0, n.1, m.size), m.above e h ∙ ap (nth p) n.1 ∙ a.1)

      module _ (next : from ≤ e) (there : (e < length q) × (nth q e ≡ 1)) where
        at_e : nth (set q e 2) e ≡ 2
        at_e = get_or-set_same q e 2 0 there.0

        off_e : (v : ℕ) → v ≢ e → nth (set q e 2) v ≡ nth q v
        off_e v d = get_or-set_other q e v 2 0 d

        stepped : Marking p l (set q e 2) (e + 1) (i + 1)
        stepped =
            record {
              size = length-set q e 2 ∙ m.size;
              upto = omega (arith, n.0);
              ones = below_more (λ j. (nth l j < length p) × (nth p (nth l j) ≡ 1)) i m.ones (omega (arith, n.1, m.size, there.0), ap (nth p) (sym n.1) ∙ sym (m.above e next) ∙ there.1);
              marks =
                  below_more (λ j. nth (set q e 2) (nth l j) ≡ 2) i
                  (λ j h. off_e (nth l j) (λ r. omega (arith, m.under j h)) ∙ m.marks j h)
                  (ap (nth (set q e 2)) (sym n.1) ∙ at_e);
              only =
                  λ v h r.
                  elim (ℕ_discrete v e) [
                    | yes a ↦ (i, omega arith, sym n.1 ∙ sym a)
                    | no d ↦ let t = m.only v h (sym (off_e v d) ∙ r) in (t.0, omega (arith, t.1), t.2)
                  ];
              ascends =
                  λ j k a b.
                  elim (ℕ_discrete k i) [
                    | yes r ↦ omega (arith, m.under j (omega arith), ap (nth l) r, n.1)
                    | no d ↦ m.ascends j k a (omega arith)
                  ];
              under = below_more (λ j. nth l j < e + 1) i (λ j h. omega (arith, m.under j h)) (omega (arith, n.1));
              last = inr (i, omega arith, ap (λ (x : ℕ). x + 1) n.1);
              above = λ v h. off_e v (λ r. omega arith) ∙ m.above v (omega arith);
            }

        pub step : (q' : List ℕ) → q' ≡ set q e 2 → Marking p l q' (e + 1) (i + 1)
        step q' r = subst (λ (z : List ℕ). Marking p l z (e + 1) (i + 1)) (sym r) stepped
