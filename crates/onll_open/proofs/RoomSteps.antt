-- Rooms, one thread after the other.
use Rattle.std.proofs.Common.{ℕ, zero, suc, Bool, true, false, true≢false, List, [], ◌∷◌, ◌≡◌, ◌+◌, ◌<◌, ◌≤◌, ◌||◌, length, drop, get_or, cond, Option, Some, None, is_some, refl, sym, ap, ◌∙◌, subst, arith}
use Rattle.std.specs.Prelude.{count_by, nat_lt, if◌then◌else◌}
use Rattle.std.specs.List.{slice_get}
use Rattle.onll_model.proofs.Lists.{same_some, some_not_none}
use Rattle.onll_trace.specs.Plans.{HasRooms}
use Rattle.std.proofs.lemmas.List.{drop_more}
use borrow.Author.Tests.{ltb-false}
use Rattle.onll_model.specs.Limits.{most_updates}
use Rattle.onll_model.specs.declared.node.Node.{Node}
use Rattle.onll_model.specs.Trace.{is_of_thread}
use Rattle.onll_merge.specs.declared.counts.LogCounts.{LogCounts}
use Rattle.onll_open.specs.Rooms.{most_lines, lines_with, is_too_many, first_full}

-- the thread whose turn it is
pub full_step : (threads : ℕ) (nodes : List Node) (t : ℕ) (logs : List LogCounts) (rooms : List ℕ) (none : LogCounts) → t < length logs → t < length rooms
    → first_full threads nodes t (drop t logs) (drop t rooms)
    ≡ (if is_too_many threads (count_by (is_of_thread t) nodes) (get_or logs t none).lines (get_or rooms t 0) then Some t else first_full threads nodes (t + 1) (drop (t + 1) logs) (drop (t + 1) rooms))
full_step threads nodes t logs rooms none low less =
    ap (λ (ls : List LogCounts). first_full threads nodes t ls (drop t rooms)) (drop_more logs t none low)
    ∙ ap (λ (rs : List ℕ). first_full threads nodes t (get_or logs t none ∷ drop (t + 1) logs) rs) (drop_more rooms t 0 less)

none_by : (b : Bool) (t : ℕ) (rest : Option ℕ) → cond {A = Option ℕ} b (Some t) rest ≡ None → (b ≡ false) × (rest ≡ None)
none_by true t rest e = absurd (true≢false (ap is_some e))
none_by false t rest e = (refl, e)

or_false : (a b : Bool) → (a || b) ≡ false → (a ≡ false) × (b ≡ false)
or_false true b e = absurd (true≢false e)
or_false false b e = (refl, e)

-- a thread that has not too many
pub room_is : (threads nodes used room : ℕ) → is_too_many threads nodes used room ≡ false → (nodes + room ≤ most_updates) × (lines_with threads used room ≤ most_lines)
room_is threads nodes used room e =
    let both = or_false (nat_lt most_updates (nodes + room)) (nat_lt most_lines (lines_with threads used room)) e in
    (ltb-false most_updates (nodes + room) both.0, ltb-false most_lines (lines_with threads used room) both.1)

-- ---- no thread is full
-- each thread, the first of them thread t, has numbers and lines left
abbrev pub HaveRoom : ℕ → List Node → ℕ → List LogCounts → List ℕ → Type 0
HaveRoom threads nodes t (log ∷ logs) (room ∷ rooms) =
    (count_by (is_of_thread t) nodes + room ≤ most_updates) × (lines_with threads log.lines room ≤ most_lines) × HaveRoom threads nodes (t + 1) logs rooms
HaveRoom threads nodes t logs rooms = Unit {0}

pub have_room : (threads : ℕ) (nodes : List Node) (t : ℕ) (logs : List LogCounts) (rooms : List ℕ) → first_full threads nodes t logs rooms ≡ None → HaveRoom threads nodes t logs rooms
have_room threads nodes t [] rooms e = tt
have_room threads nodes t (log ∷ logs) [] e = tt
have_room threads nodes t (log ∷ logs) (room ∷ rooms) e =
    let b = none_by (is_too_many threads (count_by (is_of_thread t) nodes) log.lines room) t (first_full threads nodes (t + 1) logs rooms) e in
    let r = room_is threads (count_by (is_of_thread t) nodes) log.lines room b.0 in
    (r.0, r.1, have_room threads nodes (t + 1) logs rooms b.1)

rooms_from : (threads : ℕ) (nodes : List Node) (t : ℕ) (logs : List LogCounts) (rooms : List ℕ) → length logs ≡ length rooms → HaveRoom threads nodes t logs rooms
    → (i room : ℕ) → slice_get rooms i ≡ Some room → count_by (is_of_thread (t + i)) nodes + room ≤ most_updates
rooms_from threads nodes t [] [] many h i room at = some_not_none room (sym at)
rooms_from threads nodes t [] (r ∷ rooms) many h i room at = absurd (omega (arith, many))
rooms_from threads nodes t (log ∷ logs) [] many h i room at = absurd (omega (arith, many))
rooms_from threads nodes t (log ∷ logs) (r ∷ rooms) many h zero room at =
    let is : r ≡ room = same_some r room at in
    let here : t ≡ t + 0 = omega arith in
    subst (λ (z : ℕ × ℕ). count_by (is_of_thread z.0) nodes + z.1 ≤ most_updates) (λ j. (here j, is j)) h.0
rooms_from threads nodes t (log ∷ logs) (r ∷ rooms) many h (suc i) room at =
    let there : t + 1 + i ≡ t + suc i = omega arith in
    subst (λ k. count_by (is_of_thread k) nodes + room ≤ most_updates) there (rooms_from threads nodes (t + 1) logs rooms (omega (arith, many)) h.2 i room at)

-- each thread has numbers for its room
pub has_rooms : (threads : ℕ) (nodes : List Node) (logs : List LogCounts) (rooms : List ℕ) → length logs ≡ length rooms → first_full threads nodes 0 logs rooms ≡ None → HasRooms nodes rooms most_updates
has_rooms threads nodes logs rooms many e t room at =
    let here : 0 + t ≡ t = omega arith in
    subst (λ k. count_by (is_of_thread k) nodes + room ≤ most_updates) here (rooms_from threads nodes 0 logs rooms many (have_room threads nodes 0 logs rooms e) t room at)
