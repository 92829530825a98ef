-- A stream is fed piece by piece.
use Rattle.std.proofs.Common.{◌≡◌, ℕ, zero, suc, ◌+◌, ◌≤◌, List, [], ◌∷◌, ◌++◌, length, take, drop, Some, refl, sym, ap, subst, ◌∙◌, arith}
use Rattle.std.proofs.lemmas.List.{take-append-drop}
use Rattle.onll_model.specs.Object.{Behaviour}
use Rattle.onll_log.specs.declared.head.LogHead.{LogHead}
use Rattle.onll_standby.specs.declared.fault.FeedFault.{FeedFault}
use Rattle.onll_standby.specs.Stream.{Course, course}
use Rattle.onll_standby.specs.Standby.{StandbyState, StopsInPiece}
use Rattle.onll_standby.proofs.Lasting.{course_stays}

-- a fault that a stream's bytes show
abbrev pub ShowsFault : {State Op Query Reply : Type 0} → Behaviour State Op Query Reply → List LogHead → List ℕ → FeedFault → Type 0
ShowsFault b heads bytes e = (lines : ℕ) × ((course b heads bytes).shown ≡ Some (record { fault = e; lines = lines }))

take_less : (a n : ℕ) (xs : List ℕ) → a ≤ n → take a (take n xs) ≡ take a xs
take_less zero n xs l = refl
take_less (suc a) zero xs l = absurd (omega arith)
take_less (suc a) (suc n) [] l = refl
take_less (suc a) (suc n) (x ∷ xs) l = ap (λ (z : List ℕ). x ∷ z) (take_less a n xs (omega arith))

first_then : (a n : ℕ) (xs : List ℕ) → xs ≡ (take a xs ++ take n (drop a xs)) ++ drop n (drop a xs)
first_then a n xs = sym (take-append-drop a xs) ∙ (ap (λ (z : List ℕ). take a xs ++ z) (sym (take-append-drop n (drop a xs))) ∙ sym (Rattle.std.proofs.Common.append_assoc (take a xs) (take n (drop a xs)) (drop n (drop a xs))))

-- a fault in a piece is one of all bytes
pub all_show : {State Op Query Reply : Type 0} (b : Behaviour State Op Query Reply) (start : State) (heads : List LogHead) (bytes : List ℕ) (a n : ℕ) (e : FeedFault)
    (s : StandbyState State Op Query Reply) → n ≤ length (drop a bytes) → length (take n (drop a bytes)) ≤ n
    → StopsInPiece b start heads (take a bytes) (take n (drop a bytes)) e s → ShowsFault b heads bytes e
all_show b start heads bytes a n e s low few stop =
    let k : ℕ = stop.count in
    let within : k ≤ n = (let w = stop.within in omega arith) in
    let cut : take k (take n (drop a bytes)) ≡ take k (drop a bytes) = take_less k n (drop a bytes) within in
    let front : List ℕ = take a bytes ++ take k (drop a bytes) in
    let shown = stop.fault.shown in
    let here = subst (λ (z : List ℕ). ShowsFault b heads (take a bytes ++ z) e) cut (_, shown) in
    let stays = course_stays b heads front (drop k (drop a bytes)) _ here.1 in
    (here.0, ap (λ (z : List ℕ). (course b heads z).shown) (first_then a k bytes) ∙ (ap (λ (c : Course). c.shown) stays ∙ here.1))
