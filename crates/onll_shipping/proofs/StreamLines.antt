-- The lines of a stream are those of the logs, entry by entry.

use Rattle.std.proofs.Common.{ℕ, zero, suc, ◌+◌, ◌<◌, ◌≡◌, List, [], ◌∷◌, ◌++◌, length, take, drop, map, Option, Some, None, refl, sym, ap, ◌∙◌, arith, append_assoc, append-nil, ne_eqb, Bool, cond}
use Rattle.std.specs.List.{slice_get, flat_map}
use Rattle.std.proofs.lemmas.Grind.{flat_map-append}
use Rattle.std.proofs.lemmas.List.{take_at, drop_at, length-map, length-take-le}
use Rattle.std.proofs.lemmas.Option.{slice_get-map, slice_get_within}
use Rattle.onll_model.specs.Names.{words_of_node}
use Rattle.onll_model.specs.Segment.{Segment}
use Rattle.onll_log.specs.declared.head.LogHead.{LogHead}
use Rattle.onll_log.specs.Encoding.{entry_line, entry_lines, entries_lines, node_lines}
use Rattle.onll_standby.specs.Held.{HeldEntry, log_held}
use Rattle.onll_standby.specs.Shipped.{lines_of_entry, lines_of_entries}
use Rattle.onll_standby.proofs.Entries.{log_held-append}
use Rattle.onll_outside.specs.Views.{image_bytes}
use Rattle.onll_shipping.specs.ShipJob.{HeadedLog, entry_then, turn_from, turns_from, entries_in}
use Rattle.onll_shipping.specs.Turns.{first_entry, after_entry, put_in_turns}
use Rattle.onll_shipping.proofs.InTurns.{if_there, held_turn, drop_none, take_none, one_up}

-- ---- entry by entry
-- the lines of these entries, each in a list of its own
abbrev pub entry_lists : List LogHead → List HeldEntry → List HeldEntry → List (List (List ℕ))
entry_lists heads es [] = []
entry_lists heads es (e ∷ more) = lines_of_entry (slice_get heads e.thread) es e ∷ entry_lists heads (es ++ e ∷ []) more

entry_lists-append : (heads : List LogHead) (es ds more : List HeldEntry) → entry_lists heads es (ds ++ more) ≡ entry_lists heads es ds ++ entry_lists heads (es ++ ds) more
entry_lists-append heads es [] more = ap (λ (l : List HeldEntry). entry_lists heads l more) (sym (append-nil es))
entry_lists-append heads es (d ∷ ds) more =
    let first : List (List ℕ) = lines_of_entry (slice_get heads d.thread) es d in
    ap (λ (l : List (List (List ℕ))). first ∷ l) (entry_lists-append heads (es ++ d ∷ []) ds more
    ∙ ap (λ (l : List HeldEntry). entry_lists heads (es ++ d ∷ []) ds ++ entry_lists heads l more) (append_assoc es (d ∷ []) ds))

pub entry_lists-bytes : (heads : List LogHead) (es more : List HeldEntry) → flat_map image_bytes (entry_lists heads es more) ≡ image_bytes (lines_of_entries heads es more)
entry_lists-bytes heads es [] = refl
entry_lists-bytes heads es (e ∷ more) =
    let first : List (List ℕ) = lines_of_entry (slice_get heads e.thread) es e in
    ap (λ (l : List ℕ). image_bytes first ++ l) (entry_lists-bytes heads (es ++ e ∷ []) more)
    ∙ sym (flat_map-append Rattle.onll_words.specs.Lines.bytes_of_words first (lines_of_entries heads (es ++ e ∷ []) more))

pub entry_lists-many : (heads : List LogHead) (es more : List HeldEntry) → length (entry_lists heads es more) ≡ length more
entry_lists-many heads es [] = refl
entry_lists-many heads es (e ∷ more) = ap suc (entry_lists-many heads (es ++ e ∷ []) more)

-- ---- one log
-- its lines after the first k entries
abbrev pub lines_left : ℕ → HeadedLog → List (List ℕ)
lines_left k log = entries_lines log.head k (drop k log.entries)

abbrev lines_if_there : LogHead → ℕ → Option Segment → List (List (List ℕ))
lines_if_there head k None = []
lines_if_there head k (Some s) = entry_lines head k s ∷ []

first_of : (head : LogHead) (k : ℕ) (ss : List Segment) → first_entry (entries_lines head k ss) ≡ lines_if_there head k (slice_get ss 0)
first_of head k [] = refl
first_of head k (s ∷ ss) =
    let nodes : List (List ℕ) = node_lines s.nodes in let rest : List (List ℕ) = entries_lines head (suc k) ss in
    ap (λ (l : List (List ℕ)). (entry_line head k s ∷ l) ∷ []) (take_at nodes rest (length s.nodes) (length-map s.nodes words_of_node))

after_of : (head : LogHead) (k : ℕ) (ss : List Segment) → after_entry (entries_lines head k ss) ≡ entries_lines head (suc k) (drop 1 ss)
after_of head k [] = refl
after_of head k (s ∷ ss) = drop_at (node_lines s.nodes) (entries_lines head (suc k) ss) (length s.nodes) (length-map s.nodes words_of_node)

get_after : (k : ℕ) (ss : List Segment) → slice_get (drop k ss) 0 ≡ slice_get ss k
get_after zero ss = refl
get_after (suc k) [] = refl
get_after (suc k) (s ∷ ss) = get_after k ss

drop_one : (k : ℕ) (ss : List Segment) → drop 1 (drop k ss) ≡ drop (k + 1) ss
drop_one zero ss = refl
drop_one (suc k) [] = sym (drop_none (suc k + 1))
drop_one (suc k) (s ∷ ss) = drop_one k ss ∙ ap (λ (m : ℕ). drop m (s ∷ ss)) (sym (one_up k))

first_left : (k : ℕ) (log : HeadedLog) → first_entry (lines_left k log) ≡ lines_if_there log.head k (slice_get log.entries k)
first_left k log = first_of log.head k (drop k log.entries) ∙ ap (lines_if_there log.head k) (get_after k log.entries)

after_left : (k : ℕ) (logs : List HeadedLog) → map after_entry (map (lines_left k) logs) ≡ map (lines_left (k + 1)) logs
after_left k [] = refl
after_left k (log ∷ logs) =
    let up : suc k ≡ k + 1 = omega arith in
    let one : after_entry (lines_left k log) ≡ lines_left (k + 1) log = after_of log.head k (drop k log.entries) ∙ (λ i. entries_lines log.head (up i) (drop_one k log.entries i)) in
    let more = after_left k logs in
    λ i. one i ∷ more i

-- ---- turns
-- these are the heads of the logs from number t on
abbrev pub HaveHeads : List LogHead → ℕ → List HeadedLog → Type 0
HaveHeads heads t logs = (i : ℕ) (log : HeadedLog) → slice_get logs i ≡ Some log → slice_get heads (t + i) ≡ Some log.head

-- of each log from number t on the first k entries are among these
abbrev pub HaveFirst : List HeldEntry → ℕ → ℕ → List HeadedLog → Type 0
HaveFirst es k t logs = (i : ℕ) (log : HeadedLog) → slice_get logs i ≡ Some log → log_held (t + i) es ≡ take k log.entries

log_other : (t : ℕ) (es : List HeldEntry) (e : HeldEntry) → (e.thread ≡ t → ⊥) → log_held t (es ++ e ∷ []) ≡ log_held t es
log_other t es e n = log_held-append t es (e ∷ []) ∙ (ap (λ (b : Bool). log_held t es ++ (cond {A = List Segment} b (e.segment ∷ []) [] ++ [])) (ne_eqb e.thread t n) ∙ append-nil (log_held t es))

next_log : (t i : ℕ) → t + suc i ≡ t + 1 + i
next_log t i = omega arith

heads_after : (heads : List LogHead) (t : ℕ) (log : HeadedLog) (logs : List HeadedLog) → HaveHeads heads t (log ∷ logs) → HaveHeads heads (t + 1) logs
heads_after heads t log logs hs i l at = ap (slice_get heads) (sym (next_log t i)) ∙ hs (suc i) l at

first_after : (es : List HeldEntry) (k t : ℕ) (log : HeadedLog) (logs : List HeadedLog) → HaveFirst es k t (log ∷ logs) → HaveFirst es k (t + 1) logs
first_after es k t log logs have i l at = ap (λ (u : ℕ). log_held u es) (sym (next_log t i)) ∙ have (suc i) l at

-- an entry of log t more
with_own : (es : List HeldEntry) (k t : ℕ) (s : Segment) (logs : List HeadedLog) → HaveFirst es k (t + 1) logs → HaveFirst (es ++ record { thread = t; segment = s } ∷ []) k (t + 1) logs
with_own es k t s logs have i l at = log_other (t + 1 + i) es (record { thread = t; segment = s }) (λ same. omega (arith, same)) ∙ have i l at

own_lines : (heads : List LogHead) (es : List HeldEntry) (k t : ℕ) (log : HeadedLog) (logs : List HeadedLog) (s : Segment) → HaveHeads heads t (log ∷ logs) → HaveFirst es k t (log ∷ logs) → slice_get log.entries k ≡ Some s
    → lines_of_entry (slice_get heads t) es (record { thread = t; segment = s }) ≡ entry_lines log.head k s
own_lines heads es k t log logs s hs have is =
    let e : HeldEntry = record { thread = t; segment = s } in
    let z : t + 0 ≡ t = omega arith in
    let head : slice_get heads t ≡ Some log.head = ap (slice_get heads) (sym z) ∙ hs 0 log refl in
    let low : k < length log.entries = slice_get_within log.entries k s is in
    let before : length (log_held t es) ≡ k = ap (λ (u : ℕ). length (log_held u es)) (sym z) ∙ (ap (λ (l : List Segment). length l) (have 0 log refl) ∙ length-take-le k log.entries (omega (arith, low))) in
    ap (λ (o : Option LogHead). lines_of_entry o es e) head ∙ ap (λ (n : ℕ). entry_lines log.head n s) before

turn_lists : (heads : List LogHead) (es : List HeldEntry) (k t : ℕ) (logs : List HeadedLog) → HaveHeads heads t logs → HaveFirst es k t logs
    → flat_map first_entry (map (lines_left k) logs) ≡ entry_lists heads es (turn_from k t (entries_in logs))
turn_lists heads es k t [] hs have = refl
turn_lists heads es k t (log ∷ logs) hs have =
    let hs_more = heads_after heads t log logs hs in let have_more = first_after es k t log logs have in
    ap (λ (l : List (List (List ℕ))). l ++ flat_map first_entry (map (lines_left k) logs)) (first_left k log)
    ∙ by_entry (slice_get log.entries k) refl (turn_lists heads es k (t + 1) logs hs_more have_more)
    (λ s. turn_lists heads (es ++ record { thread = t; segment = s } ∷ []) k (t + 1) logs hs_more (with_own es k t s logs have_more))
  where
    by_entry : (o : Option Segment) → slice_get log.entries k ≡ o → flat_map first_entry (map (lines_left k) logs) ≡ entry_lists heads es (turn_from k (t + 1) (entries_in logs))
        → ((s : Segment) → flat_map first_entry (map (lines_left k) logs) ≡ entry_lists heads (es ++ record { thread = t; segment = s } ∷ []) (turn_from k (t + 1) (entries_in logs)))
        → lines_if_there log.head k o ++ flat_map first_entry (map (lines_left k) logs) ≡ entry_lists heads es (entry_then t o (turn_from k (t + 1) (entries_in logs)))
    by_entry None is more others = more
    by_entry (Some s) is more others = let first = own_lines heads es k t log logs s hs have is in let after = others s in λ i. sym first i ∷ after i

next_taken : (k : ℕ) (ss : List Segment) → take k ss ++ if_there (slice_get ss k) ≡ take (k + 1) ss
next_taken zero [] = refl
next_taken (suc k) [] = sym (take_none (suc k + 1))
next_taken zero (s ∷ ss) = refl
next_taken (suc k) (s ∷ ss) = ap (λ (l : List Segment). s ∷ l) (next_taken k ss) ∙ ap (λ (m : ℕ). take m (s ∷ ss)) (sym (one_up k))

more_first : (es : List HeldEntry) (k : ℕ) (logs : List HeadedLog) → HaveFirst es k 0 logs → HaveFirst (es ++ turn_from k 0 (entries_in logs)) (k + 1) 0 logs
more_first es k logs have i log at =
    let turn : List HeldEntry = turn_from k 0 (entries_in logs) in
    let entries : slice_get (entries_in logs) i ≡ Some log.entries = slice_get-map (λ (l : HeadedLog). l.entries) logs i ∙ ap (Rattle.std.specs.Option.option_map (λ (l : HeadedLog). l.entries)) at in
    log_held-append (0 + i) es turn
    ∙ (ap (λ (l : List Segment). l ++ log_held (0 + i) turn) (have i log at)
    ∙ (ap (λ (l : List Segment). take k log.entries ++ l) (held_turn k 0 i (entries_in logs) log.entries entries) ∙ next_taken k log.entries))

pub turns_lists : (heads : List LogHead) (es : List HeldEntry) (k n : ℕ) (logs : List HeadedLog) → HaveHeads heads 0 logs → HaveFirst es k 0 logs
    → put_in_turns n (map (lines_left k) logs) ≡ entry_lists heads es (turns_from k n (entries_in logs))
turns_lists heads es k zero logs hs have = refl
turns_lists heads es k (suc n) logs hs have =
    let turn : List HeldEntry = turn_from k 0 (entries_in logs) in
    ap (λ (l : List (List (List ℕ))). l ++ put_in_turns n (map after_entry (map (lines_left k) logs))) (turn_lists heads es k 0 logs hs have)
    ∙ (ap (λ (l : List (List (List ℕ))). entry_lists heads es turn ++ put_in_turns n l) (after_left k logs)
    ∙ (ap (λ (l : List (List (List ℕ))). entry_lists heads es turn ++ l) (turns_lists heads (es ++ turn) (k + 1) n logs hs (more_first es k logs have))
    ∙ sym (entry_lists-append heads es turn (turns_from (k + 1) n (entries_in logs)))))
