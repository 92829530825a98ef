-- A hall is how many of its seats are taken, which is never more than there are.
use Rattle.std.proofs.Common.{Bool, true, false, [], ◌∷◌, ◌≡◌, ◌+◌, ◌≤◌, ◌++◌, Some, if◌then◌else◌, nat_lt, codes, decimal, refl, arith}
use Rattle.std.proofs.lemmas.Bool.Decides.{nat_tests}
use Rattle.onll_rows.specs.Sketch.{Coding, Sketch}
use Rattle.tests_library.specs.declared.hall.Hall.{Hall}
use Rattle.tests_library.specs.declared.hall.HallOp.{HallOp}
use Rattle.tests_library.specs.declared.hall.HallOp.TheVariants.{Take}
use Rattle.tests_library.specs.declared.hall.HallQuery.{HallQuery}
use Rattle.tests_library.specs.declared.hall.HallReply.{HallReply}
use Rattle.tests_library.specs.declared.hall.HallReply.TheVariants.{Full, Seat, Taken}

-- the next seat is taken, or none where all are
abbrev pub next : Hall → HallOp → Hall
next s Take = if nat_lt s.taken 3 then record { taken = s.taken + 1 } else s

abbrev pub reply : Hall → HallOp → HallReply
reply s Take = if nat_lt s.taken 3 then Seat (s.taken + 1) else Full

pub reads : (op : HallOp) → Some Take ≡ Some op
reads Take = refl

abbrev pub hall : Sketch Hall HallOp HallQuery HallReply
hall = let rows : Coding HallOp = record { words = λ op. 1 ∷ []; op_of = λ ws. Some Take; reads = reads } in
    record { next = next; reply = reply; answer = λ s q. Taken s.taken; rows = rows; text = λ s. codes "hall " ++ decimal s.taken }

-- no more seats are taken than there are
abbrev pub has_seats : Hall → Type 0
has_seats s = s.taken ≤ 3

-- a seat that is given is one that there is
abbrev pub is_seat : HallOp → HallReply → Type 0
is_seat op (Seat seat) = seat ≤ 3
is_seat op Full = Unit {0}
is_seat op (Taken seats) = Unit {0}

pub still_has : (s : Hall) (op : HallOp) → has_seats s → has_seats (next s op)
still_has s Take h = by (nat_lt s.taken 3) refl
  where
    by : (q : Bool) → q ≡ nat_lt s.taken 3 → has_seats (if q then record { taken = s.taken + 1 } else s)
    by true e = let low : s.taken + 1 ≤ 3 = grind (arith, nat_tests) in low
    by false e = h

pub gives_seat : (s : Hall) (op : HallOp) → has_seats s → is_seat op (reply s op)
gives_seat s Take h = by (nat_lt s.taken 3) refl
  where
    by : (q : Bool) → q ≡ nat_lt s.taken 3 → is_seat Take (if q then Seat (s.taken + 1) else Full)
    by true e = let low : s.taken + 1 ≤ 3 = grind (arith, nat_tests) in low
    by false e = tt
