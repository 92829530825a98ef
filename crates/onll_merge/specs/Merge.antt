use Rattle.std.specs.Prelude.{ℕ, zero, suc, ◌+◌, ◌==◌, ◌&&◌, max, if◌then◌else◌, Bool, true, List, [], ◌∷◌, ◌++◌, length, map, count_by, Option, Some, None, Result, Ok, Err}
use Rattle.std.specs.List.{AllByRecursion}
use Rattle.std.specs.Option.{option_or, option_map, option_map_or, option_to_list}
use Rattle.onll_model.specs.declared.node.Node.{Node}
use Rattle.onll_model.specs.Segment.{Segment, Rises}
use Rattle.onll_model.specs.Trace.{is_of_thread}
use Rattle.onll_log.specs.declared.head.LogHead.{LogHead}
use Rattle.onll_log.specs.declared.decoded.Decoded.{Decoded}
use Rattle.onll_log.specs.Grammar.{Content, same_words}
use Rattle.onll_log.specs.Decoded.{content_in}
use Rattle.onll_log.specs.Survey.{top_in_log, disorder_from}
use Rattle.onll_merge.specs.declared.fault.RecoverFault.{RecoverFault}
use Rattle.onll_merge.specs.declared.fault.RecoverFault.TheVariants.{NotThisRun, Disorder, Clash, Gap, Stray}

-- What recovery makes of the logs of one run. It asks place by place what all of them hold, from place 1 to the
-- greatest last place of any entry. A log is its head and its segments, as its image holds them.

abbrev pub contents_in : List Decoded → List Content
contents_in logs = map content_in logs

-- ---- which node stands at a place
-- among nodes that follow each other, the last of them at the place `last`: each stands as far below it as nodes
-- follow. These are whole numbers, so nodes may stand at 0 and below, which are no places.
abbrev pub node_among : ℕ → List Node → ℕ → Option Node
node_among last [] p = None
node_among last (x ∷ xs) p = if p + length xs == last then Some x else node_among last xs p

abbrev pub node_in_segment : Segment → ℕ → Option Node
node_in_segment s p = node_among s.place s.nodes p

-- in a log; where its segments rise, no two of them hold a place
abbrev pub node_in_log : List Segment → ℕ → Option Node
node_in_log [] p = None
node_in_log (s ∷ ss) p = option_or (node_in_segment s p) (node_in_log ss p)

-- in the first log that holds the place
abbrev pub node_in_logs : List Content → ℕ → Option Node
node_in_logs [] p = None
node_in_logs (c ∷ cs) p = option_or (node_in_log c.entries p) (node_in_logs cs p)

-- the nodes of the places 1 to k
abbrev pub nodes_to : List Content → ℕ → List Node
nodes_to logs zero = []
nodes_to logs (suc k) = nodes_to logs k ++ option_to_list (node_in_logs logs (suc k))

-- the greatest last place, 0 where there is no entry
abbrev pub top_of : List Content → ℕ
top_of [] = 0
top_of (c ∷ cs) = max (top_in_log c.entries) (top_of cs)

-- ---- a log of another run
abbrev pub same_head : LogHead → LogHead → Bool
same_head x y = (x.thread == y.thread) &&
    ((x.threads == y.threads) && ((x.object == y.object) && (same_words x.digest y.digest && (x.format == y.format))))

-- a log without a head fits each run
abbrev pub fits_run : Option LogHead → LogHead → Bool
fits_run None expected = true
fits_run (Some head) expected = same_head head expected

-- the first of these logs whose head is not the expected one; they are numbered from i
abbrev pub foreign : ℕ → List Content → List LogHead → Option RecoverFault
foreign i [] heads = None
foreign i (c ∷ cs) [] = None
foreign i (c ∷ cs) (h ∷ hs) = if fits_run c.head h then foreign (suc i) cs hs else Some (NotThisRun i)

-- ---- entries that do not rise
-- the first entry of log i whose first place is not above the last place of the one before it
abbrev pub disorder_in : ℕ → List Segment → Option RecoverFault
disorder_in i ss = option_map (Disorder i) (disorder_from 0 0 ss)

-- in the first of these logs that has one; they are numbered from i
abbrev pub disorder : ℕ → List Content → Option RecoverFault
disorder i [] = None
disorder i (c ∷ cs) = option_or (disorder_in i c.entries) (disorder (suc i) cs)

-- each log's entries rise, so that its places are 1 and above and each is held once
abbrev pub AllRise : List Content → Type 0
AllRise logs = AllByRecursion (λ c. Rises 0 c.entries) logs

-- ---- what is asked at each place
-- the first answer at the places 1 to k
abbrev pub first_to : (ℕ → Option RecoverFault) → ℕ → Option RecoverFault
first_to f zero = None
first_to f (suc k) = option_or (first_to f k) (f (suc k))

abbrev pub same_node : Node → Node → Bool
same_node x y = (x.thread == y.thread) && ((x.number == y.number) && same_words x.row.w y.row.w)

-- whether a log holds no other node than x at the place p
abbrev pub agrees_at : List Segment → ℕ → Node → Bool
agrees_at ss p x = option_map_or (same_node x) (node_in_log ss p) true

-- the first of these logs that holds another node than x, which log i holds, at the place p; they are numbered from j
abbrev pub differs : ℕ → ℕ → ℕ → Node → List Content → Option RecoverFault
differs p i j x [] = None
differs p i j x (c ∷ cs) = if agrees_at c.entries p x then differs p i (suc j) x cs else Some (Clash p i j)

-- the first of these logs that holds the place p, and the first that differs from it; they are numbered from i
abbrev pub clash_from : ℕ → List Content → ℕ → Option RecoverFault
clash_from i [] p = None
clash_from i (c ∷ cs) p = option_map_or (λ x. differs p i (suc i) x cs) (node_in_log c.entries p) (clash_from (suc i) cs p)

abbrev pub clash_at : List Content → ℕ → Option RecoverFault
clash_at logs p = clash_from 0 logs p

-- the place p is in no log
abbrev pub gap_at : List Content → ℕ → Option RecoverFault
gap_at logs p = option_map_or (λ x. None) (node_in_logs logs p) (Some (Gap p))

-- two logs hold different nodes for a place up to k; where none do, such a place is in no log
abbrev pub unlike : List Content → ℕ → Option RecoverFault
unlike logs k = option_or (first_to (clash_at logs) k) (first_to (gap_at logs) k)

-- ---- numbers
-- the first node whose number is not one more than the count of lower nodes of its thread, where these are below
abbrev pub stray_above : List Node → List Node → Option RecoverFault
stray_above below [] = None
stray_above below (x ∷ xs) =
    if x.number == count_by (is_of_thread x.thread) below + 1
    then stray_above (below ++ x ∷ []) xs
    else Some (Stray (length below + 1) x.thread x.number (count_by (is_of_thread x.thread) below + 1))

-- ---- the merge
-- the first refusal of logs, in the order in which they are looked for
abbrev pub refusal : List LogHead → List Content → Option RecoverFault
refusal heads logs =
    option_or (foreign 0 logs heads)
    (option_or (disorder 0 logs)
    (option_or (unlike logs (top_of logs))
    (stray_above [] (nodes_to logs (top_of logs)))))

abbrev pub unless : {A E : Type 0} → Option E → A → Result A E
unless None value = Ok value
unless (Some e) value = Err e

-- the nodes of the places 1 to the greatest, or the first refusal
abbrev pub merge : List LogHead → List Content → Result (List Node) RecoverFault
merge heads logs = unless (refusal heads logs) (nodes_to logs (top_of logs))
