-- Charts C1 to C11 of document 01, with rows for its slips and for every other number, as one table, shown by one computed test. Assumes nothing.
--   Row            what a row says:
--     lent           a chart's number with the entries of its report, by the report room lent; `test` is the same with just enough
--     barred         entries that a chart's report may not have
--     judge          a judge's verdict
--     has, rooms     the number of faces; their rooms, in number order
--     touching       the rooms of the faces that an event touches, in number order
--     together       the room of all faces that a list of events touches
--     spelt          the bytes of a chart or a report, or that there are none; the entries that are read
--     writes         how many bytes are written
--     reads          what the reader answers for a report, where its body starts, and its body
--     prints         the text of a listing
--   Holds          the statement that a row makes
--   shown          a row's proof, where computing finds it
--   table          the rows
--   table_holds    every row holds
use mathlib.Core.Path.{◌≡◌}
use mathlib.Core.Bool.{Bool, true, false, ◌&&◌}
use mathlib.Core.List.{List, [], ◌∷◌, ◌++◌, map}
use mathlib.Core.Option.{Option, none, some}
use Prim.Native.Nat.{ℕ}
use Prim.Native.String.{String}
use lib.Dec.{T}
use lib.ListN.{length, take, set}
use lib.IntN.{ℤ, pos, negsuc}
use Rattle.finite.specs.Sums.{sum, δ, class, below}
use Rattle.finite.specs.Steps.{iter, least, lowest}
use Rattle.finite.specs.Lists.{sumℤ}
use Rattle.finite.proofs.Decide.{is_yes, is_yes_lem, both_left, both_right, map?, ◌×?◌, ¬?, eq?, eqℤ?, same?, same_ℤ?}
use Rattle.drawing.specs.Drawing.{Drawing, darts, is_face, twin, face, face_list, faces, corners, switches, room}
use Rattle.drawing.specs.Drawing.{entering, leaving, changes, mixed_events, touches}
use Rattle.drawing.specs.Conditions.{larges, labels, room_of}
use Rattle.rules.specs.Words.{u16, words, bytes}
use Rattle.rules.specs.Chart.{drawing, charted}
use Rattle.rules.specs.Report.{Entries, report, Form, good, bad, is_well_formed, form, body_start, body, entries}
use Rattle.rules.specs.Judge.{Verdict, chart, J, fits, Judged}
use Rattle.rules.specs.Listing.{ascii, each, listing}
use Rattle.rules.proofs.Trying.{entries?, form?, Right, right, right_law, fair, fair_law}

-- the faces that the event v touches, in number order
unfoldable pub faces_of : Drawing → ℕ → List ℕ
faces_of g v = below (darts g) (λ f. is_face g f && touches g v f)

unfoldable pub made : ℕ → ℕ → List ℕ → List ℕ → List ℕ
unfolding charted bytes
made v o ends succ = charted (record { events = v; outer = o; at = ends; next = succ })

unfoldable pub c1 : List ℕ
unfolding made
c1 = made 2 0 (0 ∷ 1 ∷ []) (0 ∷ 1 ∷ [])

unfoldable pub c2 : ℕ → List ℕ
unfolding made
c2 o = made 2 o (0 ∷ 1 ∷ 0 ∷ 1 ∷ []) (2 ∷ 3 ∷ 0 ∷ 1 ∷ [])

unfoldable pub c3 : List ℕ → List ℕ
unfolding made
c3 next = made 2 0 (0 ∷ 1 ∷ 0 ∷ 1 ∷ 0 ∷ 1 ∷ []) next

unfoldable pub c5 : List ℕ → List ℕ
unfolding made
c5 next = made 5 0 (1 ∷ 0 ∷ 0 ∷ 2 ∷ 3 ∷ 0 ∷ 0 ∷ 4 ∷ []) next

unfoldable pub c7 : List ℕ
unfolding made
c7 = made 3 0 (0 ∷ 1 ∷ 1 ∷ 2 ∷ 2 ∷ 0 ∷ []) (5 ∷ 2 ∷ 1 ∷ 4 ∷ 3 ∷ 0 ∷ [])

unfoldable pub c8 : ℕ → List ℕ
unfolding made
c8 o = made 4 o (0 ∷ 1 ∷ 1 ∷ 2 ∷ 0 ∷ 2 ∷ 2 ∷ 3 ∷ []) (4 ∷ 2 ∷ 1 ∷ 5 ∷ 0 ∷ 6 ∷ 3 ∷ 7 ∷ [])

-- four arrows between events 0 and 1, in turn 0→1 and 1→0
unfoldable pub to_and_fro : List ℕ → List ℕ
unfolding made
to_and_fro next = made 2 0 (0 ∷ 1 ∷ 1 ∷ 0 ∷ 0 ∷ 1 ∷ 1 ∷ 0 ∷ []) next

-- the first 11 bytes of a chart with v events and a arrows
unfoldable pub opening : ℕ → ℕ → List ℕ
unfolding bytes
opening v a = 69 ∷ 86 ∷ 67 ∷ bytes (1 ∷ v ∷ a ∷ 0 ∷ [])

pub data Row : Type 0 where
  lent : (s : List ℕ) (r n : ℕ) (l : List ℕ) → Row
  barred : (s : List ℕ) (n : ℕ) (l : List ℕ) → Row
  judge : (s r : List ℕ) (v : Verdict) → Row
  has : (s : List ℕ) (k : ℕ) → Row
  rooms : (s : List ℕ) (z : List ℤ) → Row
  touching : (s : List ℕ) (v : ℕ) (z : List ℤ) → Row
  together : (s l : List ℕ) (z : ℤ) → Row
  spelt : (b l : List ℕ) → Row
  writes : (n : ℕ) (l : List ℕ) (w : ℕ) → Row
  reads : (r : List ℕ) (f : Form) (k : ℕ) (b : List ℕ) → Row
  prints : (s : List ℕ) (n : ℕ) (l : List ℕ) (text : String) → Row

-- with just the report room that the test asks for
abbrev pub test : List ℕ → ℕ → List ℕ → Row
test s n l = lent s 6152 n l

unfoldable pub table : List Row
unfolding c1 c2 c3 c5 c7 c8 to_and_fro opening report each
table =
    -- C1 and its 19 bytes, and with a byte less and a byte more; 10 bytes written
    test c1 0 (2 ∷ 2 ∷ [])
    ∷ spelt c1 (69 ∷ 86 ∷ 67 ∷ 1 ∷ 0 ∷ 2 ∷ 0 ∷ 1 ∷ 0 ∷ 0 ∷ 0 ∷ 0 ∷ 0 ∷ 1 ∷ 0 ∷ 0 ∷ 0 ∷ 1 ∷ 0 ∷ [])
    ∷ test (take 18 c1) 5 []
    ∷ test (c1 ++ (0 ∷ [])) 5 []
    ∷ writes 0 (2 ∷ 2 ∷ []) 10
    -- C2, and its bytes with outer dart 3
    ∷ test (c2 0) 0 (0 ∷ 2 ∷ 2 ∷ 0 ∷ [])
    ∷ spelt (c2 3)
    (69 ∷ 86 ∷ 67 ∷ 1 ∷ 0 ∷ 2 ∷ 0 ∷ 2 ∷ 0 ∷ 3 ∷ 0 ∷ 0 ∷ 0 ∷ 1 ∷ 0 ∷ 0 ∷ 0 ∷ 1 ∷ 0 ∷ 2 ∷ 0 ∷ 3 ∷ 0 ∷ 0 ∷ 0 ∷ 1 ∷ 0 ∷ [])
    -- C3, C4
    ∷ test (c3 (2 ∷ 3 ∷ 4 ∷ 5 ∷ 0 ∷ 1 ∷ [])) 11 []
    ∷ test (c3 (2 ∷ 5 ∷ 4 ∷ 1 ∷ 0 ∷ 3 ∷ [])) 0 (0 ∷ 2 ∷ 0 ∷ 0 ∷ 2 ∷ 0 ∷ [])
    ∷ has (c3 (2 ∷ 3 ∷ 4 ∷ 5 ∷ 0 ∷ 1 ∷ [])) 1
    ∷ has (c3 (2 ∷ 5 ∷ 4 ∷ 1 ∷ 0 ∷ 3 ∷ [])) 3
    -- C5, C6
    ∷ test (c5 (0 ∷ 2 ∷ 5 ∷ 3 ∷ 4 ∷ 6 ∷ 1 ∷ 7 ∷ [])) 12 (0 ∷ [])
    ∷ test (c5 (0 ∷ 5 ∷ 6 ∷ 3 ∷ 4 ∷ 2 ∷ 1 ∷ 7 ∷ [])) 0 (2 ∷ 0 ∷ 0 ∷ 2 ∷ 2 ∷ 1 ∷ 1 ∷ 2 ∷ [])
    -- C7, C8, C9, C10
    ∷ test c7 13 (0 ∷ 1 ∷ 2 ∷ [])
    ∷ test (c8 0) 14 (3 ∷ [])
    ∷ test (c8 1) 0 (2 ∷ 1 ∷ 1 ∷ 0 ∷ 0 ∷ 1 ∷ 1 ∷ 2 ∷ [])
    ∷ test (made 3 0 (0 ∷ 1 ∷ []) (0 ∷ 1 ∷ [])) 10 []
    ∷ rooms (c5 (0 ∷ 5 ∷ 6 ∷ 3 ∷ 4 ∷ 2 ∷ 1 ∷ 7 ∷ [])) (pos 4 ∷ [])
    ∷ rooms c7 (pos 1 ∷ negsuc 0 ∷ [])
    ∷ rooms (c8 0) (pos 2 ∷ pos 0 ∷ [])
    -- C8: event 3 touches only the face of room 0; event 0 touches both faces
    ∷ touching (c8 0) 3 (pos 0 ∷ [])
    ∷ touching (c8 0) 0 (pos 2 ∷ pos 0 ∷ [])
    -- C11, and the room that the lists 3 and 0 3 touch
    ∷ together (c8 0) (3 ∷ []) (pos 0)
    ∷ together (c8 0) (0 ∷ 3 ∷ []) (pos 2)
    ∷ judge (c8 0) (report 14 (3 ∷ [])) (J 1)
    ∷ judge (c8 0) (report 14 (0 ∷ 3 ∷ [])) (J 4)
    -- the other verdicts: labels that hold, labels of another outer face, a list that descends, a list of nobody, an event that is neither source nor sink,
    -- labels too few, a result that is no yes and no no (the list 3 is a cut: with 12 or 13 let through it would be J1), no report at all,
    -- and a chart's own fault
    ∷ judge (c8 1) (report 0 (2 ∷ 1 ∷ 1 ∷ 0 ∷ 0 ∷ 1 ∷ 1 ∷ 2 ∷ [])) (J 0)
    ∷ judge (c8 0) (report 0 (2 ∷ 1 ∷ 1 ∷ 0 ∷ 0 ∷ 1 ∷ 1 ∷ 2 ∷ [])) (J 3)
    ∷ judge (c8 0) (report 14 (3 ∷ 0 ∷ [])) (J 4)
    ∷ judge (c8 0) (report 14 []) (J 4)
    ∷ judge (c8 0) (report 14 (1 ∷ [])) (J 4)
    ∷ judge (c8 0) (report 0 (2 ∷ [])) (J 2)
    ∷ judge (c8 0) (report 12 (0 ∷ [])) (J 2)
    ∷ judge (c8 0) (report 12 (3 ∷ [])) (J 2)
    ∷ judge (c8 0) (report 13 (3 ∷ [])) (J 2)
    ∷ judge (c8 0) [] (J 2)
    ∷ judge (take 18 c1) (report 14 (3 ∷ [])) (chart 5)
    -- number 1: C1 with a byte of report room too few, and with just enough; it comes before everything, also for no chart at all
    ∷ lent c1 6151 1 []
    ∷ lent c1 6152 0 (2 ∷ 2 ∷ [])
    ∷ lent [] 6151 1 []
    -- the other numbers: C1 with one thing wrong
    ∷ test (take 10 c1) 2 []
    ∷ test (take 11 c1) 5 []
    ∷ test (set c1 0 68) 2 []
    ∷ test (set c1 1 68) 2 []
    ∷ test (set c1 2 68) 2 []
    ∷ test (set c1 3 2) 3 []
    ∷ test (set c1 4 1) 3 []
    ∷ test (made 1 0 (0 ∷ 1 ∷ []) (0 ∷ 1 ∷ [])) 4 []
    ∷ test (made 2 0 [] []) 4 []
    ∷ test (made 2 0 (0 ∷ 2 ∷ []) (0 ∷ 1 ∷ [])) 6 []
    ∷ test (made 2 0 (1 ∷ 1 ∷ []) (0 ∷ 1 ∷ [])) 7 []
    ∷ test (made 2 2 (0 ∷ 1 ∷ []) (0 ∷ 1 ∷ [])) 8 []
    ∷ test (made 2 0 (0 ∷ 1 ∷ []) (0 ∷ 2 ∷ [])) 9 []
    ∷ test (made 2 0 (0 ∷ 1 ∷ []) (1 ∷ 0 ∷ [])) 9 []
    -- C2 with each dart its own successor: two rings for an event
    ∷ test (made 2 0 (0 ∷ 1 ∷ 0 ∷ 1 ∷ []) (0 ∷ 1 ∷ 2 ∷ 3 ∷ [])) 9 []
    -- the order of the tests: a chart with two neighbouring faults gets the earlier. 1 and 2 is above; 10 and 11 is C10; 13 and 14 is C7
    ∷ test (set (set c1 2 68) 4 1) 2 []
    ∷ test (set (opening 1 1) 4 1) 3 []
    ∷ test (opening 1 1) 4 []
    ∷ test (made 2 0 (0 ∷ 2 ∷ []) (0 ∷ 1 ∷ []) ++ (0 ∷ [])) 5 []
    ∷ test (made 2 0 (2 ∷ 2 ∷ []) (0 ∷ 1 ∷ [])) 6 []
    ∷ test (made 2 2 (1 ∷ 1 ∷ []) (0 ∷ 1 ∷ [])) 7 []
    ∷ test (made 2 2 (0 ∷ 1 ∷ []) (1 ∷ 0 ∷ [])) 8 []
    ∷ test (made 3 0 (0 ∷ 1 ∷ []) (1 ∷ 0 ∷ [])) 9 []
    ∷ test (to_and_fro (3 ∷ 2 ∷ 5 ∷ 4 ∷ 7 ∷ 6 ∷ 1 ∷ 0 ∷ [])) 11 []
    ∷ test (to_and_fro (3 ∷ 6 ∷ 1 ∷ 4 ∷ 7 ∷ 2 ∷ 5 ∷ 0 ∷ [])) 12 (0 ∷ [])
    -- the ends of the ranges of V and A: inside them, the first 11 bytes alone have the wrong length
    ∷ test (opening 1 3072) 4 []
    ∷ test (opening 2 1) 5 []
    ∷ test (opening 1024 3072) 5 []
    ∷ test (opening 1025 3072) 4 []
    ∷ test (opening 1024 3073) 4 []
    ∷ test (opening 2 0) 4 []
    -- the last chart of the order has two mixed events, and its report the lowest alone
    ∷ barred (to_and_fro (3 ∷ 6 ∷ 1 ∷ 4 ∷ 7 ∷ 2 ∷ 5 ∷ 0 ∷ [])) 12 (1 ∷ [])
    ∷ barred (to_and_fro (3 ∷ 6 ∷ 1 ∷ 4 ∷ 7 ∷ 2 ∷ 5 ∷ 0 ∷ [])) 12 (0 ∷ 1 ∷ [])
    -- C7's circle from another arrow on, and not closed, and twice round
    ∷ barred c7 13 (1 ∷ 2 ∷ 0 ∷ [])
    ∷ barred c7 13 (0 ∷ 1 ∷ [])
    ∷ barred c7 13 (0 ∷ 1 ∷ 2 ∷ 0 ∷ 1 ∷ 2 ∷ [])
    ∷ barred c7 13 []
    -- the bytes of a report: numbers low byte first, the count in 16 bits; 1 to 11 write nothing
    ∷ spelt (report 0 (2 ∷ 2 ∷ [])) (69 ∷ 86 ∷ 82 ∷ 1 ∷ 0 ∷ 0 ∷ 2 ∷ 0 ∷ 2 ∷ 2 ∷ [])
    ∷ spelt (report 14 (3 ∷ 258 ∷ [])) (69 ∷ 86 ∷ 82 ∷ 1 ∷ 0 ∷ 14 ∷ 2 ∷ 0 ∷ 3 ∷ 0 ∷ 2 ∷ 1 ∷ [])
    ∷ spelt (each (λ n. report n []) (1 ∷ 2 ∷ 3 ∷ 4 ∷ 5 ∷ 6 ∷ 7 ∷ 8 ∷ 9 ∷ 10 ∷ 11 ∷ [])) []
    -- the reader: labels, and numbers of 16 bits, for each of the four results
    ∷ reads (report 0 (2 ∷ 2 ∷ [])) (good 0 2) 8 (2 ∷ 2 ∷ [])
    ∷ reads (report 12 (0 ∷ [])) (good 12 1) 8 (0 ∷ 0 ∷ [])
    ∷ reads (report 13 (0 ∷ 1 ∷ 258 ∷ [])) (good 13 3) 8 (0 ∷ 0 ∷ 1 ∷ 0 ∷ 2 ∷ 1 ∷ [])
    ∷ reads (report 14 []) (good 14 0) 8 []
    ∷ spelt (entries (report 14 (3 ∷ 258 ∷ []))) (3 ∷ 258 ∷ [])
    -- and what is bad form: no bytes, 7 bytes, each letter of the mark, each byte of the version, a result that writes nothing,
    -- a byte less, a byte more, and a count of 257
    ∷ reads [] bad 0 []
    ∷ reads (take 7 (report 14 [])) bad 0 []
    ∷ reads (set (report 14 (3 ∷ [])) 0 68) bad 0 []
    ∷ reads (set (report 14 (3 ∷ [])) 1 68) bad 0 []
    ∷ reads (set (report 14 (3 ∷ [])) 2 67) bad 0 []
    ∷ reads (set (report 14 (3 ∷ [])) 3 2) bad 0 []
    ∷ reads (set (report 14 (3 ∷ [])) 4 1) bad 0 []
    ∷ reads (set (report 14 (3 ∷ [])) 5 11) bad 0 []
    ∷ reads (take 9 (report 14 (3 ∷ []))) bad 0 []
    ∷ reads (report 14 (3 ∷ []) ++ (0 ∷ [])) bad 0 []
    ∷ reads (set (report 14 (3 ∷ [])) 7 1) bad 0 []
    -- the listings of C8 and C9
    ∷ prints (c8 0) 14 (3 ∷ []) "result 14 no room\nevent 3\n"
    ∷ prints (c8 1) 0 (2 ∷ 1 ∷ 1 ∷ 0 ∷ 0 ∷ 1 ∷ 1 ∷ 2 ∷ []) "result 0 drawable\nevent 0 corner 0\nevent 3 corner 7\n"
    -- the words of every other number, and the lines of 12 and 13; a number of four digits
    ∷ prints c1 1 [] "result 1 short report\n"
    ∷ prints c1 2 [] "result 2 mark\n"
    ∷ prints c1 3 [] "result 3 version\n"
    ∷ prints c1 4 [] "result 4 counts\n"
    ∷ prints c1 5 [] "result 5 length\n"
    ∷ prints c1 6 [] "result 6 unknown event\n"
    ∷ prints c1 7 [] "result 7 own arrow\n"
    ∷ prints c1 8 [] "result 8 outer dart\n"
    ∷ prints c1 9 [] "result 9 order\n"
    ∷ prints c1 10 [] "result 10 parted\n"
    ∷ prints c1 11 [] "result 11 crossing\n"
    ∷ prints c1 12 (1023 ∷ []) "result 12 mixed\nevent 1023\n"
    ∷ prints c7 13 (0 ∷ 1 ∷ 2 ∷ []) "result 13 circle\narrow 0\narrow 1\narrow 2\n"
    -- leaving, entering, leaving round event 0: two changes, so not mixed
    ∷ test (made 4 0 (0 ∷ 1 ∷ 2 ∷ 0 ∷ 0 ∷ 3 ∷ []) (3 ∷ 1 ∷ 2 ∷ 4 ∷ 0 ∷ 5 ∷ [])) 0 (1 ∷ 2 ∷ 2 ∷ 1 ∷ 0 ∷ 2 ∷ [])
    -- C8 with an arrow 1→4 in the inner face, whose room is 1 then: the cut 3 4 touches it twice
    ∷ test (made 5 0 (0 ∷ 1 ∷ 1 ∷ 2 ∷ 0 ∷ 2 ∷ 2 ∷ 3 ∷ 1 ∷ 4 ∷ []) (4 ∷ 2 ∷ 8 ∷ 5 ∷ 0 ∷ 6 ∷ 3 ∷ 7 ∷ 1 ∷ 9 ∷ [])) 14 (3 ∷ 4 ∷ [])
    ∷ []

abbrev pub Holds : Row → Type 0
Holds (lent s r n l) = Right s r n l
Holds (barred s n l) = ¬ Entries (drawing s) n l
Holds (judge s r v) = Judged s r v
Holds (has s k) = faces (drawing s) ≡ k
Holds (rooms s z) = map (room (drawing s)) (face_list (drawing s)) ≡ z
Holds (touching s v z) = map (room (drawing s)) (faces_of (drawing s) v) ≡ z
Holds (together s l z) = room_of (drawing s) l ≡ z
Holds (spelt b l) = b ≡ l
Holds (writes n l w) = length (report n l) ≡ w
Holds (reads r f k b) = (form r ≡ f) × (body_start r ≡ k) × (body r ≡ b)
Holds (prints s n l text) = listing (drawing s) n l ≡ ascii text

abbrev pub Hold : List Row → Type 0
Hold [] = Unit {0}
Hold (w ∷ ws) = Holds w × Hold ws

-- a test that shows A, and what it shows
abbrev by : {A : Type 0} (b : Bool) → (T b → A) → Option A
by true f = some (f tt)
by false f = none

abbrev decided : {A : Type 0} → Dec A → Option A
decided d = by (is_yes d) (is_yes_lem d)

shown : (w : Row) → Option (Holds w)
unfolding right fair entries? form? eq? same_ℤ? faces_of
shown (lent s r n l) = by (right s r n l) (right_law s r n l)
shown (barred s n l) = decided (¬? (entries? (drawing s) n l))
shown (judge s r v) = by (fair s r [] v) (fair_law s r [] v)
shown (has s k) = decided (eq? (faces (drawing s)) k)
shown (rooms s z) = decided (same_ℤ? (map (room (drawing s)) (face_list (drawing s))) z)
shown (touching s v z) = decided (same_ℤ? (map (room (drawing s)) (faces_of (drawing s) v)) z)
shown (together s l z) = decided (eqℤ? (room_of (drawing s) l) z)
shown (spelt b l) = decided (same? b l)
shown (writes n l w) = decided (eq? (length (report n l)) w)
shown (reads r f k b) =
    decided (map? (λ h. (h.0, h.1.0, h.1.1)) (λ h. (h.0, (h.1, h.2))) (form? (form r) f ×? eq? (body_start r) k ×? same? (body r) b))
shown (prints s n l text) = decided (same? (listing (drawing s) n l) (ascii text))

is_some : {A : Type 0} → Option A → Bool
is_some none = false
is_some (some a) = true

some_law : {A : Type 0} (o : Option A) → T (is_some o) → A
unfolding is_some
some_law none t = absurd t
some_law (some a) t = a

checks : List Row → Bool
unfolding shown is_some
checks [] = true
checks (w ∷ ws) = is_some (shown w) && checks ws

checks_law : (ws : List Row) → T (checks ws) → Hold ws
unfolding checks
checks_law [] t = tt
checks_law (w ∷ ws) t =
    (some_law (shown w) (both_left (is_some (shown w)) (checks ws) t), checks_law ws (both_right (is_some (shown w)) (checks ws) t))

-- the one computed test
passed : T (checks table)
unfolding checks table drawing u16 words sum δ class below iter least lowest twin face face_list faces corners switches room
    entering leaving changes mixed_events touches larges labels sumℤ room_of is_well_formed form body entries fits listing
passed = tt

pub table_holds : Hold table
table_holds = checks_law table passed
