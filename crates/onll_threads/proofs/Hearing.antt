-- The reply of a seat that heard a place, or none.
use Rattle.std.proofs.Common.{arith, ℕ, Bool, true, false, ◌<◌, ◌≤◌, ◌≡◌, Option, Some, None, if◌then◌else◌, nat_le, le-leb, sym, ap}
use Rattle.std.proofs.lemmas.Bool.{lt-leb}
use Rattle.onll_threads.specs.Seats.{reply_from}

-- the place is there
pub heard_there : {Reply : Type 0} (place said seen : ℕ) (reply : Reply) → said ≡ seen → place ≤ said → Some reply ≡ reply_from place seen reply
heard_there {Reply} place said seen reply is low =
    let q : nat_le place seen ≡ true = le-leb place seen (omega (arith, is, low)) in
    let give : Bool → Option Reply = λ t. if t then Some reply else None in
    ap give (sym q)

-- it is not there yet
pub not_there : {Reply : Type 0} (place said seen : ℕ) (reply : Reply) → said ≡ seen → said < place → None ≡ reply_from place seen reply
not_there {Reply} place said seen reply is low =
    let q : nat_le place seen ≡ false = lt-leb place seen (omega (arith, is, low)) in
    let give : Bool → Option Reply = λ t. if t then Some reply else None in
    ap give (sym q)
