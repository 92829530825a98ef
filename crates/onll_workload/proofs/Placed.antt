-- Where no fence fails each update has a place: so many fences are made, and so many nodes stand in the trace.

use Rattle.std.proofs.Common.{ℕ, zero, suc, ◌≡◌, ◌+◌, ◌<◌, ◌≤◌, Bool, true, false, if◌then◌else◌, List, [], ◌∷◌, ◌++◌, length, Some, None, refl, ap, ◌∙◌, arith, sum_by}
use Rattle.std.specs.List.{AllByRecursion}
use Rattle.std.proofs.lemmas.Bool.Decides.{nat_tests}
use Rattle.std.proofs.lemmas.List.Sums.{sum_by-cons}
use Rattle.onll_model.specs.declared.node.Node.{Node}
use Rattle.onll_model.specs.declared.call.Call.{Call}
use Rattle.onll_model.specs.declared.call.Call.TheVariants.{Update, Ask}
use Rattle.onll_model.specs.declared.call.CallEnd.{CallEnd}
use Rattle.onll_model.specs.declared.call.CallEnd.TheVariants.{Answered, Running, Ordered, FenceFailed, Broken}
use Rattle.onll_model.specs.Object.{Behaviour}
use Rattle.onll_model.specs.Calls.{updates_in}
use Rattle.onll_model.specs.Trace.{is_of_thread}
use Rattle.onll_model.specs.Legal.{placed_updates, placed_rows, BrokenAfterFailure, IsOver, AreLegalThreads}
use Rattle.onll_log.specs.declared.head.LogHead.{LogHead}
use Rattle.onll_log.specs.Grammar.{Content}
use Rattle.onll_run.specs.Outcomes.{failed_in}
use Rattle.onll_run.specs.Left.{LogLeft, LogsTell, AllOver}

-- ---- the nodes of each thread
abbrev one_if : Bool → ℕ
one_if q = if q then 1 else 0

-- how many nodes are of this thread
abbrev own : ℕ → List Node → ℕ
own t [] = 0
own t (n ∷ nodes) = one_if (is_of_thread t n) + own t nodes

-- how many are of so many threads, the first of them thread u
abbrev own_all : ℕ → ℕ → List Node → ℕ
own_all u zero nodes = 0
own_all u (suc k) nodes = own u nodes + own_all (u + 1) k nodes

-- of how many of these threads one node is
abbrev hits : ℕ → ℕ → Node → ℕ
hits u zero n = 0
hits u (suc k) n = one_if (is_of_thread u n) + hits (u + 1) k n

no_hit : (u k : ℕ) (n : Node) → n.thread < u → hits u k n ≡ 0
no_hit u zero n low = refl
no_hit u (suc k) n low =
    let other : is_of_thread u n ≡ false = grind (arith, nat_tests) in
    ap (λ q. one_if q + hits (u + 1) k n) other ∙ (let rest = no_hit (u + 1) k n (omega arith) in omega (arith, rest))

one_hit : (u k : ℕ) (n : Node) → u ≤ n.thread → n.thread < u + k → hits u k n ≡ 1
one_hit u zero n from below = absurd (omega arith)
one_hit u (suc k) n from below =
    by (is_of_thread u n) refl (λ e. let same : n.thread ≡ u = grind (arith, nat_tests) in no_hit (u + 1) k n (omega arith))
    (λ e. let above : u + 1 ≤ n.thread = grind (arith, nat_tests) in one_hit (u + 1) k n above (omega arith))
  where
    by : (q : Bool) → is_of_thread u n ≡ q → (is_of_thread u n ≡ true → hits (u + 1) k n ≡ 0) → (is_of_thread u n ≡ false → hits (u + 1) k n ≡ 1) → one_if q + hits (u + 1) k n ≡ 1
    by true e none one = let rest = none e in omega (arith, rest)
    by false e none one = let rest = one e in omega (arith, rest)

own_all_none : (u k : ℕ) → own_all u k [] ≡ 0
own_all_none u zero = refl
own_all_none u (suc k) = let rest = own_all_none (u + 1) k in omega (arith, rest)

own_all_more : (u k : ℕ) (n : Node) (nodes : List Node) → own_all u k (n ∷ nodes) ≡ hits u k n + own_all u k nodes
own_all_more u zero n nodes = omega arith
own_all_more u (suc k) n nodes = let rest = own_all_more (u + 1) k n nodes in omega (arith, rest)

-- each node is one of a thread's
pub own_all_are : (threads : ℕ) (nodes : List Node) → AllByRecursion (λ n. n.thread < threads) nodes → own_all 0 threads nodes ≡ length nodes
own_all_are threads [] h = own_all_none 0 threads
own_all_are threads (n ∷ nodes) h =
    let more = own_all_more 0 threads n nodes in
    let one = one_hit 0 threads n (omega arith) (let low = h.0 in omega (arith, low)) in
    let rest = own_all_are threads nodes h.1 in
    omega (arith, more, one, rest)

rows_own : (t below : ℕ) (nodes : List Node) → length (placed_rows t below nodes) ≡ own t nodes
rows_own t below [] = refl
rows_own t below (n ∷ nodes) = by (is_of_thread t n) (rows_own t (below + 1) nodes)
  where
    by : (q : Bool) → length (placed_rows t (below + 1) nodes) ≡ own t nodes → length ((if q then (n.row, below + 1) ∷ [] else []) ++ placed_rows t (below + 1) nodes) ≡ one_if q + own t nodes
    by true e = omega (arith, e)
    by false e = omega (arith, e)

module _ {State Op Query Reply : Type 0} (b : Behaviour State Op Query Reply) where
  -- no fence of this thread failed
  abbrev pub NoneFailed : List (CallEnd State Op Query Reply) → Type 0
  NoneFailed ends = failed_in ends ≡ None

  none_some : {A : Type 0} (x : A) → Some x ≡ None → ⊥
  none_some x e = cc e

  -- then each of its updates has a place
  all_placed : (calls : List (Call State Op Query Reply)) (ends : List (CallEnd State Op Query Reply)) → NoneFailed ends → length ends ≡ length calls → AllByRecursion IsOver ends → BrokenAfterFailure None calls ends
      → length (placed_updates b calls ends) ≡ updates_in calls
  all_placed [] ends f n o h = refl
  all_placed (c ∷ calls) [] f n o h = absurd (omega (arith, n))
  all_placed (Update op ∷ calls) (Answered reply place ∷ ends) f n o h = ap suc (all_placed calls ends f (omega (arith, n)) o.1 h)
  all_placed (Update op ∷ calls) (Running ∷ ends) f n o h = absurd o.0
  all_placed (Update op ∷ calls) (Ordered place ∷ ends) f n o h = absurd o.0
  all_placed (Update op ∷ calls) (FenceFailed place ∷ ends) f n o h = absurd (none_some place f)
  all_placed (Update op ∷ calls) (Broken place ∷ ends) f n o h = absurd h
  all_placed (Ask query ∷ calls) (Answered reply place ∷ ends) f n o h = all_placed calls ends f (omega (arith, n)) o.1 h
  all_placed (Ask query ∷ calls) (Running ∷ ends) f n o h = absurd o.0
  all_placed (Ask query ∷ calls) (Ordered place ∷ ends) f n o h = absurd o.0
  all_placed (Ask query ∷ calls) (FenceFailed place ∷ ends) f n o h = absurd h
  all_placed (Ask query ∷ calls) (Broken place ∷ ends) f n o h = absurd h

  -- how many updates of all threads have a place
  abbrev pub placed_in : List (List (Call State Op Query Reply)) → List (List (CallEnd State Op Query Reply)) → ℕ
  placed_in [] ends = 0
  placed_in (calls ∷ scripts) [] = 0
  placed_in (calls ∷ scripts) (es ∷ ends) = length (placed_updates b calls es) + placed_in scripts ends

  pub placed_all : (s : State) (base : ℕ) (trace : List Node) (t : ℕ) (scripts : List (List (Call State Op Query Reply))) (ends : List (List (CallEnd State Op Query Reply)))
      → AreLegalThreads b s base trace t scripts ends → AllOver scripts ends → AllByRecursion NoneFailed ends → placed_in scripts ends ≡ sum_by updates_in scripts
  placed_all s base trace t [] [] h o f = refl
  placed_all s base trace t [] (es ∷ ends) h o f = absurd h
  placed_all s base trace t (calls ∷ scripts) [] h o f = absurd h
  placed_all s base trace t (calls ∷ scripts) (es ∷ ends) h o f =
      let here = all_placed calls es f.0 o.0 o.1 h.0.broken in
      let rest = placed_all s base trace (t + 1) scripts ends h.1 o.2 f.1 in
      omega (arith, here, rest, sum_by-cons updates_in calls scripts)

  -- and has a fence
  pub fences_placed : (heads : List LogHead) (base : List Content) (scripts : List (List (Call State Op Query Reply))) (ends : List (List (CallEnd State Op Query Reply))) (logs : List LogLeft)
      → LogsTell b heads base scripts ends logs → sum_by (λ (log : LogLeft). log.fences) logs ≡ placed_in scripts ends
  fences_placed [] [] [] [] [] h = refl
  fences_placed [] [] [] [] (log ∷ logs) h = absurd h
  fences_placed [] [] [] (es ∷ ends) logs h = absurd h
  fences_placed [] [] (calls ∷ scripts) ends logs h = absurd h
  fences_placed [] (c ∷ base) scripts ends logs h = absurd h
  fences_placed (head ∷ heads) [] scripts ends logs h = absurd h
  fences_placed (head ∷ heads) (c ∷ base) [] ends logs h = absurd h
  fences_placed (head ∷ heads) (c ∷ base) (calls ∷ scripts) [] logs h = absurd h
  fences_placed (head ∷ heads) (c ∷ base) (calls ∷ scripts) (es ∷ ends) [] h = absurd h
  fences_placed (head ∷ heads) (c ∷ base) (calls ∷ scripts) (es ∷ ends) (log ∷ logs) h =
      let here = h.0.fences in
      let rest = fences_placed heads base scripts ends logs h.1 in
      omega (arith, here, rest, sum_by-cons (λ (log : LogLeft). log.fences) log logs)

  -- and a node
  pub nodes_placed : (s : State) (trace : List Node) (u : ℕ) (scripts : List (List (Call State Op Query Reply))) (ends : List (List (CallEnd State Op Query Reply)))
      → AreLegalThreads b s 0 trace u scripts ends → placed_in scripts ends ≡ own_all u (length scripts) trace
  nodes_placed s trace u [] [] h = refl
  nodes_placed s trace u [] (es ∷ ends) h = absurd h
  nodes_placed s trace u (calls ∷ scripts) [] h = absurd h
  nodes_placed s trace u (calls ∷ scripts) (es ∷ ends) h =
      let here = ap length h.0.places ∙ rows_own u 0 trace in
      let rest = nodes_placed s trace (u + 1) scripts ends h.1 in
      omega (arith, here, rest)
