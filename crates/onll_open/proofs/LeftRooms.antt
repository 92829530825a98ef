-- All the room that logs have left is room that they have.
use Rattle.std.proofs.Common.{ℕ, zero, suc, Bool, true, false, true≢false, List, [], ◌∷◌, ◌≡◌, ◌+◌, ◌-◌, ◌*◌, ◌/◌, ◌≤◌, ◌==◌, ◌||◌, max, cond, Option, Some, None, is_some, refl, sym, ap, ◌∙◌, subst, arith}
use Rattle.std.specs.Prelude.{count_by, nat_lt}
use Rattle.std.proofs.Math.Nat.{mul-div-le, mul-le-mul_left, min-le_left, min-le_right}
use Rattle.std.proofs.lemmas.Bool.{le-ltb}
use Rattle.onll_model.specs.Limits.{most_updates}
use Rattle.onll_model.specs.declared.node.Node.{Node}
use Rattle.onll_model.specs.Trace.{is_of_thread}
use Rattle.onll_merge.specs.declared.counts.LogCounts.{LogCounts}
use Rattle.onll_open.specs.Rooms.{most_lines, lines_with, is_too_many, first_full, room_left, rooms_left, first_empty}

some_of : (n : ℕ) → (n == 0) ≡ false → 1 ≤ n
some_of zero e = absurd (true≢false e)
some_of (suc n) e = omega arith

-- a log that has room left has not too many with it
left_fits : (threads nodes used : ℕ) → (room_left threads nodes used == 0) ≡ false → is_too_many threads nodes used (room_left threads nodes used) ≡ false
left_fits threads nodes used e =
    let room = room_left threads nodes used in
    let lines = most_lines - max 1 used in
    let some_room : 1 ≤ room = some_of room e in
    let of_nodes : room ≤ most_updates - nodes = min-le_left (most_updates - nodes) (lines / (threads + 1)) in
    let of_lines : room ≤ lines / (threads + 1) = min-le_right (most_updates - nodes) (lines / (threads + 1)) in
    let all : (threads + 1) * room ≤ (threads + 1) * (lines / (threads + 1)) = mul-le-mul_left (threads + 1) of_lines in
    let most : (threads + 1) * (lines / (threads + 1)) ≤ lines = mul-div-le lines (threads + 1) in
    let one : (threads + 1) * 1 ≤ (threads + 1) * room = mul-le-mul_left (threads + 1) some_room in
    let numbers : nodes + room ≤ most_updates = omega (arith, some_room, of_nodes) in
    let fits : lines_with threads used room ≤ most_lines = fit ((threads + 1) * room) all most one in
    ap (λ b. b || nat_lt most_lines (lines_with threads used room)) (le-ltb most_updates (nodes + room) numbers) ∙ le-ltb most_lines (lines_with threads used room) fits
  where
    fit : (taken : ℕ) → taken ≤ (threads + 1) * ((most_lines - max 1 used) / (threads + 1)) → (threads + 1) * ((most_lines - max 1 used) / (threads + 1)) ≤ most_lines - max 1 used → (threads + 1) * 1 ≤ taken → max 1 used + taken ≤ most_lines
    fit taken a b c = omega (arith, a, b, c)

none_of : (b : Bool) (t : ℕ) (rest : Option ℕ) → cond {A = Option ℕ} b (Some t) rest ≡ None → (b ≡ false) × (rest ≡ None)
none_of true t rest e = absurd (true≢false (ap is_some e))
none_of false t rest e = (refl, e)

all_fit : (threads : ℕ) (nodes : List Node) (t : ℕ) (logs : List LogCounts) → first_empty t (rooms_left threads nodes t logs) ≡ None → first_full threads nodes t logs (rooms_left threads nodes t logs) ≡ None
all_fit threads nodes t [] e = refl
all_fit threads nodes t (log ∷ logs) e =
    let count = count_by (is_of_thread t) nodes in
    let rest = rooms_left threads nodes (t + 1) logs in
    let both = none_of (room_left threads count log.lines == 0) t (first_empty (t + 1) rest) e in
    ap (λ b. cond {A = Option ℕ} b (Some t) (first_full threads nodes (t + 1) logs rest)) (left_fits threads count log.lines both.0) ∙ all_fit threads nodes (t + 1) logs both.1

-- where no log is without room, none has too many
pub left_is_room : (threads : ℕ) (nodes : List Node) (logs : List LogCounts) (rooms : List ℕ) → rooms ≡ rooms_left threads nodes 0 logs → first_empty 0 rooms ≡ None → first_full threads nodes 0 logs rooms ≡ None
left_is_room threads nodes logs rooms is none =
    subst (λ rs. first_full threads nodes 0 logs rs ≡ None) (sym is) (all_fit threads nodes 0 logs (subst (λ rs. first_empty 0 rs ≡ None) is none))
