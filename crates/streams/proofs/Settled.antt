-- What the contracts of the public calls fix. How much read_all read is the system's answer. Assumes nothing.
--   ends_unique               chart_end has one answer
--   Once s o a b P            two listings of s are one where there is too little room, and then P; and where the number of s has one listing
--   written_unique            write_listing has one text, but for a labelling, a circle and a cut; its answer is the system's, but for too little room
--   OnceCame came s o a b P   the same for what came; a failed read has one text and one ending
--   ended_unique              list_came has one text and one ending in that sense
--   input_unique              list_input has, for the same bytes in its room and the same count of what came; its ending is one but for the cause of a failed
--                             read, and with the same cause it is one
--   unread_stays              where a read failed, list_input's text stays, and its ending has the cause
use mathlib.Core.Path.{◌≡◌, sym, ap, subst, ◌∙◌}
use mathlib.Core.Bool.{not}
use mathlib.Core.List.{List}
use Prim.Native.Nat.{ℕ, suc, ◌≤◌, ◌<◌}
use native.Mathlib.Decide.{dec_le}
use native.Mathlib.Omega.{arith}
use lib.Dec.{T}
use lib.ListN.{length, take}
use Rattle.rules.specs.Tests.{tests, Given}
use Rattle.rules.proofs.Unique.{free, given_unique}
use Rattle.lines.specs.Printed.{listing_room}
use Rattle.printed.specs.Listed.{full_room}
use Rattle.printed.proofs.Settled.{told_unique, short_unique}
use Rattle.std.specs.Prelude.{Option, None, Some, Result, Ok, Err}
use Rattle.std.specs.declared.io.Error.{Error}
use Rattle.streams.specs.declared.WriteError.{WriteError}
use Rattle.streams.specs.declared.StreamError.{StreamError}
use Rattle.streams.specs.declared.StreamError.TheVariants.{NotRead, CutShort, NotWritten}
use Rattle.streams.specs.Counted.{Ends}
use Rattle.streams.specs.Texts.{Written}
use Rattle.streams.specs.Endings.{ending_of, Ended, FromInput}

pub ends_unique : (s : List ℕ) (at : ℕ) (e f : Option ℕ) → Ends s at e → Ends s at f → e ≡ f
ends_unique s at e f p q = p.end ∙ sym q.end

abbrev pub Once : List ℕ → List ℕ → List ℕ → List ℕ → Type 0 → Type 0
Once s o a b P = (length o < listing_room → (a ≡ b) × P) × ((n : ℕ) → Given tests s (length full_room) n → T (not (free n)) → a ≡ b)

pub written_unique : (s o a b : List ℕ) (x y : Result (Unit {0}) WriteError) → Written s o a x → Written s o b y → Once s o a b (x ≡ y)
written_unique s o a b x y p q =
    (few, λ n g t. elim (dec_le listing_room (length o)) [ yes h ↦ many h n g t | no h ↦ (few (omega arith)).0 ])
  where
    few : length o < listing_room → (a ≡ b) × (x ≡ y)
    few h = ((short_unique s o a b p.size q.size h p.listed q.listed).1, p.short h ∙ sym (q.short h))

    many : listing_room ≤ length o → (n : ℕ) → Given tests s (length full_room) n → T (not (free n)) → a ≡ b
    many h n g t =
        let u = p.listed.full h in
        let v = q.listed.full h in
        let e : n ≡ u.2.number = given_unique tests s (length full_room) n u.2.number g u.2.outcome.given in
        ((told_unique s o a b u.0 v.0 u.2 v.2).1 (subst (λ (k : ℕ). T (not (free k))) e t)).1

abbrev pub OnceCame : Result ℕ Error → List ℕ → List ℕ → List ℕ → List ℕ → Type 0 → Type 0
OnceCame (Ok n) s o a b P = Once (take n s) o a b P
OnceCame (Err x) s o a b P = (a ≡ b) × P

pub ended_unique : (came : Result ℕ Error) (s o a b : List ℕ) (e f : Result (Unit {0}) StreamError) → Ended came s o a e → Ended came s o b f → OnceCame came s o a b (e ≡ f)
ended_unique (Ok n) s o a b e f p q =
    let w = written_unique (take n s) o a b p.answer q.answer p.written q.written in
    (λ h. ((w.0 h).0, p.ending ∙ ap ending_of (w.0 h).1 ∙ sym q.ending), w.1)
ended_unique (Err x) s o a b e f p q = (p.0 ∙ sym q.0, p.1 ∙ sym q.1)

-- how many came, and how a listing ended, without the cause
abbrev pub counted : Result ℕ Error → Option ℕ
counted (Ok n) = Some n
counted (Err x) = None

abbrev pub uncaused : Result (Unit {0}) StreamError → ℕ
uncaused (Ok x) = 0
uncaused (Err (NotRead x)) = 1
uncaused (Err CutShort) = 2
uncaused (Err (NotWritten w)) = 3

abbrev there : Option ℕ → ℕ
there None = 0
there (Some n) = suc n

-- the ending of a failed read
abbrev unread : Result ℕ Error → Result (Unit {0}) StreamError
unread (Ok n) = Err CutShort
unread (Err x) = Err (NotRead x)

pub input_unique : (s o a b : List ℕ) (e f : Result (Unit {0}) StreamError) (p : FromInput s o a e) (q : FromInput s o b f) → counted p.came ≡ counted q.came
    → OnceCame p.came s o a b ((uncaused e ≡ uncaused f) × (p.came ≡ q.came → e ≡ f))
input_unique s o a b e f p q h = once p.came q.came (ap there h) p.ended q.ended
  where
    once : (i j : Result ℕ Error) → there (counted i) ≡ there (counted j) → Ended i s o a e → Ended j s o b f
        → OnceCame i s o a b ((uncaused e ≡ uncaused f) × (i ≡ j → e ≡ f))
    once (Ok n) (Ok m) h u v =
        let l : m ≡ n = omega (arith, h) in
        let w = ended_unique (Ok n) s o a b e f u (subst (λ (k : ℕ). Ended (Ok k) s o b f) l v) in
        (λ t. let r = w.0 t in (r.0, (ap uncaused r.1, λ g. r.1)), w.1)
    once (Ok n) (Err y) h u v = absurd (omega (arith, h))
    once (Err x) (Ok m) h u v = absurd (omega (arith, h))
    once (Err x) (Err y) h u v = (u.0 ∙ sym v.0, (ap uncaused u.1 ∙ sym (ap uncaused v.1), λ g. u.1 ∙ ap unread g ∙ sym v.1))

pub unread_stays : (s o a : List ℕ) (e : Result (Unit {0}) StreamError) (x : Error) (p : FromInput s o a e) → p.came ≡ Err x → (a ≡ o) × (e ≡ Err (NotRead x))
unread_stays s o a e x p h = subst (λ (i : Result ℕ Error). Ended i s o a e) h p.ended
