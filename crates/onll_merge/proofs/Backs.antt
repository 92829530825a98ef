-- Logs that merge hold the trace that the merge gives.
use Rattle.std.proofs.Common.{◌≡◌, ℕ, zero, suc, ◌+◌, ◌-◌, ◌<◌, ◌≤◌, ◌==◌, inl, inr, ⊎_elim, Bool, true, false, List, [], ◌∷◌, ◌++◌, length, get_or, take, drop, sym, refl, ap, subst, ◌∙◌, arith, Option, Some, None, Ok, option_to_list, eqb-true, cond}
use Rattle.std.specs.Prelude.{IfSome, count_by}
use Rattle.std.specs.List.{AllByRecursion}
use Rattle.std.specs.Option.{option_or, option_map, option_map_or}
use mathlib.Core.Option.{some, some-injective, some-ne-none}
use mathlib.Core.Logic.{dite}
use native.Mathlib.Decide.{ℕ_discrete, dec_le}
use lib.ListN.{get_elem?}
use Rattle.onll_model.specs.declared.node.Node.{Node}
use Rattle.onll_model.specs.Segment.{Segment, Agrees, Within, LiesIn, Rises}
use Rattle.onll_model.specs.Trace.{is_of_thread, NumberedAbove}
use Rattle.onll_log.specs.declared.head.LogHead.{LogHead}
use Rattle.onll_log.specs.Grammar.{Content, same_words}
use Rattle.onll_merge.specs.declared.fault.RecoverFault.{RecoverFault}
use Rattle.onll_merge.specs.declared.fault.RecoverFault.TheVariants.{NotThisRun, Disorder, Clash, Gap, Stray}
use Rattle.onll_log.specs.Survey.{top_in_log, disorder_from}
use Rattle.onll_log.proofs.Surveys.{rises_from}
use Rattle.onll_merge.specs.Merge.{node_in_segment, node_in_log, node_in_logs, nodes_to, top_of, same_head, fits_run, foreign, disorder_in, disorder, AllRise, first_to, same_node, agrees_at, differs, clash_from, clash_at, gap_at, unlike, stray_above, refusal, unless, merge}
use Rattle.onll_merge.specs.Laws.{all_segments, EachSegment, HeadsFit, HoldMerged}
use Rattle.onll_merge.proofs.Places.{node_among-at, node_among-above, node_in_log-low}
use Rattle.onll_merge.proofs.Asked.{by_option, both, same_words-eq}
use Rattle.onll_merge.proofs.Fronts.{Is, Has, inside, either_some, node_among-is, top_in_log-lies}

-- ---- what an answer of none says
pub none_both : {A : Type 0} (a b : Option A) → option_or a b ≡ None → (a ≡ None) × (b ≡ None)
none_both None b e = (refl, e)
none_both (Some x) b e = absurd (cc)

-- a test that refuses nothing was passed
passed : {A : Type 0} (b : Bool) (o : Option A) (x : A) → cond {A = Option A} b o (Some x) ≡ None → (b ≡ true) × (o ≡ None)
passed true o x e = (refl, e)
passed false o x e = absurd (cc)

same_head-eq : (x y : LogHead) → same_head x y ≡ true → x ≡ y
same_head-eq x y e = let a = both (x.thread == y.thread) _ e in let b = both (x.threads == y.threads) _ a.1 in let c = both (x.object == y.object) _ b.1 in let d = both (same_words x.digest y.digest) _ c.1 in
    let t = eqb-true x.thread y.thread a.0 in let n = eqb-true x.threads y.threads b.0 in let o = eqb-true x.object y.object c.0 in let g = same_words-eq x.digest y.digest d.0 in let f = eqb-true x.format y.format d.1 in
    λ i. record { thread = t i; threads = n i; object = o i; digest = g i; format = f i }

same_node-eq : (x y : Node) → same_node x y ≡ true → x ≡ y
same_node-eq x y e = let a = both (x.thread == y.thread) _ e in let b = both (x.number == y.number) _ a.1 in let t = eqb-true x.thread y.thread a.0 in let n = eqb-true x.number y.number b.0 in let w = same_words-eq x.row.w y.row.w b.1 in
    λ i. record { thread = t i; number = n i; row = record { w = w i } }

fits_run-eq : (o : Option LogHead) (h : LogHead) → fits_run o h ≡ true → IfSome o (λ head. head ≡ h)
fits_run-eq None h e = tt
fits_run-eq (Some head) h e = same_head-eq head h e

heads_fit : (i : ℕ) (cs : List Content) (hs : List LogHead) → foreign i cs hs ≡ None → HeadsFit cs hs
heads_fit i [] hs e = tt
heads_fit i (c ∷ cs) [] e = tt
heads_fit i (c ∷ cs) (h ∷ hs) e = let p = passed (fits_run c.head h) (foreign (suc i) cs hs) (NotThisRun i) e in (fits_run-eq c.head h p.0, heads_fit (suc i) cs hs p.1)

none_mapped : {A B : Type 0} (f : A → B) (o : Option A) → option_map f o ≡ None → o ≡ None
none_mapped f None e = refl
none_mapped f (Some x) e = absurd (cc)

all_rise : (i : ℕ) (cs : List Content) → disorder i cs ≡ None → AllRise cs
all_rise i [] h = tt
all_rise i (c ∷ cs) h = let e = none_both (disorder_in i c.entries) (disorder (suc i) cs) h in (rises_from 0 0 c.entries (none_mapped (Disorder i) (disorder_from 0 0 c.entries) e.0), all_rise (suc i) cs e.1)

pub none_at : (f : ℕ → Option RecoverFault) (k : ℕ) → first_to f k ≡ None → (p : ℕ) → 1 ≤ p → p ≤ k → f p ≡ None
none_at f zero h p a b = absurd (omega arith)
none_at f (suc k) h p a b = let e = none_both (first_to f k) (f (suc k)) h in dite (ℕ_discrete p (suc k)) (λ is. ap f is ∙ e.1) (λ not. none_at f k e.0 p a (omega arith))

pub has_all : (cs : List Content) (p : ℕ) → gap_at cs p ≡ None → Has cs p
has_all cs p h = let P : Option Node → Type 0 = λ o. option_map_or (λ x. None) o (Some (Gap p)) ≡ None → (x : Node) × (o ≡ Some x) in by_option P (node_in_logs cs p) (λ _ k. absurd (cc)) (λ x _ k. (x, refl)) h

numbered : (below xs : List Node) → stray_above below xs ≡ None → NumberedAbove below xs
numbered below [] h = tt
numbered below (x ∷ xs) h = let p = passed (x.number == count_by (is_of_thread x.thread) below + 1) (stray_above (below ++ x ∷ []) xs) (Stray (length below + 1) x.thread x.number (count_by (is_of_thread x.thread) below + 1)) h in
    (eqb-true x.number (count_by (is_of_thread x.thread) below + 1) p.0, numbered (below ++ x ∷ []) xs p.1)

-- ---- two logs that hold a place
agrees_at-eq : (ss : List Segment) (p : ℕ) (x y : Node) → agrees_at ss p x ≡ true → node_in_log ss p ≡ Some y → x ≡ y
agrees_at-eq ss p x y a e = same_node-eq x y (ap (λ (o : Option Node). option_map_or (same_node x) o true) (sym e) ∙ a)

same_later : (p i j : ℕ) (x : Node) (cs : List Content) → differs p i j x cs ≡ None → (u : ℕ) (c : Content) (y : Node) → get_elem? cs u ≡ some c → node_in_log c.entries p ≡ Some y → x ≡ y
same_later p i j x [] h u c y e is = absurd (some-ne-none c (sym e))
same_later p i j x (z ∷ cs) h zero c y e is = let d = passed (agrees_at z.entries p x) (differs p i (suc j) x cs) (Clash p i j) h in agrees_at-eq z.entries p x y d.0 (ap (λ (q : Content). node_in_log q.entries p) (some-injective z c e) ∙ is)
same_later p i j x (z ∷ cs) h (suc u) c y e is = let d = passed (agrees_at z.entries p x) (differs p i (suc j) x cs) (Clash p i j) h in same_later p i (suc j) x cs d.1 u c y e is

-- what one log holds at a place is the merge's
log_in_all : (p i : ℕ) (cs : List Content) → clash_from i cs p ≡ None → (u : ℕ) (c : Content) (y : Node) → get_elem? cs u ≡ some c → node_in_log c.entries p ≡ Some y → node_in_logs cs p ≡ Some y
log_in_all p i [] h u c y e is = absurd (some-ne-none c (sym e))
log_in_all p i (z ∷ cs) h zero c y e is = ap (λ (o : Option Node). option_or o (node_in_logs cs p)) (ap (λ (q : Content). node_in_log q.entries p) (some-injective z c e) ∙ is)
log_in_all p i (z ∷ cs) h (suc u) c y e is = let P : Option Node → Type 0 = λ o. option_map_or (λ x. differs p i (suc i) x cs) o (clash_from (suc i) cs p) ≡ None → option_or o (node_in_logs cs p) ≡ Some y in
    by_option P (node_in_log z.entries p) (λ _ k. log_in_all p (suc i) cs k u c y e is) (λ x _ k. ap Some (same_later p i (suc i) x cs k u c y e is)) h

-- ---- the nodes that are given
snoc_at : (xs : List Node) (x : Node) (q : ℕ) → q ≡ length xs → get_elem? (xs ++ x ∷ []) q ≡ some x
snoc_at [] x zero e = refl
snoc_at [] x (suc q) e = absurd (omega arith)
snoc_at (y ∷ xs) x zero e = absurd (omega arith)
snoc_at (y ∷ xs) x (suc q) e = snoc_at xs x q (omega arith)

snoc_before : (xs : List Node) (x y : Node) (q : ℕ) → get_elem? xs q ≡ some y → get_elem? (xs ++ x ∷ []) q ≡ some y
snoc_before [] x y q e = absurd (some-ne-none y (sym e))
snoc_before (z ∷ xs) x y zero e = e
snoc_before (z ∷ xs) x y (suc q) e = snoc_before xs x y q e

snoc_length : (xs : List Node) (x : Node) → length (xs ++ x ∷ []) ≡ suc (length xs)
snoc_length [] x = refl
snoc_length (y ∷ xs) x = ap suc (snoc_length xs x)

nodes_to-length : (cs : List Content) (k : ℕ) → ((p : ℕ) → 1 ≤ p → p ≤ k → Has cs p) → length (nodes_to cs k) ≡ k
nodes_to-length cs zero h = refl
nodes_to-length cs (suc k) h = let here = h (suc k) (omega arith) (omega arith) in
    ap (λ (o : Option Node). length (nodes_to cs k ++ option_to_list o)) here.1 ∙ (snoc_length (nodes_to cs k) here.0 ∙ ap suc (nodes_to-length cs k (λ p a b. h p a (omega arith))))

nodes_to-at : (cs : List Content) (k : ℕ) → ((p : ℕ) → 1 ≤ p → p ≤ k → Has cs p) → (q : ℕ) (x : Node) → q < k → node_in_logs cs (suc q) ≡ Some x → get_elem? (nodes_to cs k) q ≡ some x
nodes_to-at cs zero h q x l e = absurd (omega arith)
nodes_to-at cs (suc k) h q x l e = let here = h (suc k) (omega arith) (omega arith) in let below : (p : ℕ) → 1 ≤ p → p ≤ k → Has cs p = (λ p a b. h p a (omega arith)) in
    let shape : nodes_to cs (suc k) ≡ nodes_to cs k ++ here.0 ∷ [] = ap (λ (o : Option Node). nodes_to cs k ++ option_to_list o) here.1 in
    ap (λ (l : List Node). get_elem? l q) shape ∙ dite (ℕ_discrete q k)
    (λ is. let long = nodes_to-length cs k below in let both : Some here.0 ≡ Some x = sym here.1 ∙ (ap (λ (n : ℕ). node_in_logs cs (suc n)) (sym is) ∙ e) in let same : here.0 ≡ x = (cc) in snoc_at (nodes_to cs k) here.0 q (is ∙ sym long) ∙ ap some same)
    (λ not. snoc_before (nodes_to cs k) here.0 x q (nodes_to-at cs k below q x (omega arith) e))

-- ---- segments of a log that rises
pub node_among-lies : (s : Segment) (p : ℕ) (x : Node) → node_in_segment s p ≡ Some x → Within p s
node_among-lies s p x e = let h = node_among-is s.place s.nodes p x e in let i = inside s.nodes h.0 x h.2 in let k = h.1 in (omega arith, omega arith)

pub node_in_log-lies : (ss : List Segment) (p : ℕ) (x : Node) → node_in_log ss p ≡ Some x → LiesIn p ss
node_in_log-lies [] p x e = absurd (cc)
node_in_log-lies (s ∷ ss) p x e = ⊎_elim (λ (h : node_in_segment s p ≡ Some x). inl (node_among-lies s p x h)) (λ (h : node_in_log ss p ≡ Some x). inr (node_in_log-lies ss p x h)) (either_some (node_in_segment s p) (node_in_log ss p) x e)

LiesIn-front : (p : ℕ) (xs ys : List Segment) → LiesIn p xs → LiesIn p (xs ++ ys)
LiesIn-front p [] ys h = absurd h
LiesIn-front p (x ∷ xs) ys (inl h) = inl h
LiesIn-front p (x ∷ xs) ys (inr h) = inr (LiesIn-front p xs ys h)

LiesIn-rest : (p : ℕ) (xs ys : List Segment) → LiesIn p ys → LiesIn p (xs ++ ys)
LiesIn-rest p [] ys h = h
LiesIn-rest p (x ∷ xs) ys h = inr (LiesIn-rest p xs ys h)

pub node_in_logs-lies : (cs : List Content) (p : ℕ) (x : Node) → node_in_logs cs p ≡ Some x → LiesIn p (all_segments cs)
node_in_logs-lies [] p x e = absurd (cc)
node_in_logs-lies (c ∷ cs) p x e = ⊎_elim (λ (h : node_in_log c.entries p ≡ Some x). LiesIn-front p c.entries (all_segments cs) (node_in_log-lies c.entries p x h)) (λ (h : node_in_logs cs p ≡ Some x). LiesIn-rest p c.entries (all_segments cs) (node_in_logs-lies cs p x h))
    (either_some (node_in_log c.entries p) (node_in_logs cs p) x e)

-- what later segments hold stands above the earlier ones
held_later : (last : ℕ) (s : Segment) (ss : List Segment) (p : ℕ) (x : Node) → Rises last (s ∷ ss) → node_in_log ss p ≡ Some x → node_in_log (s ∷ ss) p ≡ Some x
held_later last s ss p x r e = dite (dec_le p s.place)
    (λ low. let bad : None ≡ Some x = sym (node_in_log-low s.place ss p r.1 low) ∙ e in absurd (cc))
    (λ high. ap (λ (o : Option Node). option_or o (node_in_log ss p)) (node_among-above s.place s.nodes p (omega arith)) ∙ e)

pub held_once : (last : ℕ) (ss : List Segment) (i p : ℕ) (x : Node) (d : Segment) → Rises last ss → i < length ss → node_in_segment (get_or ss i d) p ≡ Some x → node_in_log ss p ≡ Some x
held_once last [] i p x d r l e = absurd (omega arith)
held_once last (s ∷ ss) zero p x d r l e = ap (λ (o : Option Node). option_or o (node_in_log ss p)) e
held_once last (s ∷ ss) (suc i) p x d r l e = held_later last s ss p x r (held_once s.place ss i p x d r.1 (omega arith) e)

-- the node i, from 1
pub stands_at : (s : Segment) (i p : ℕ) (d : Node) → 1 ≤ i → i ≤ length s.nodes → p + length s.nodes ≡ s.place + i → node_in_segment s p ≡ Some (get_or s.nodes (i - 1) d)
stands_at s i p d a b e = node_among-at s.place s.nodes p (i - 1) d (omega arith) (omega arith)

-- ---- a segment whose nodes are those of the trace at its places agrees with it
same_list : (xs ys : List Node) → length xs ≡ length ys → ((i : ℕ) (x : Node) → get_elem? xs i ≡ some x → get_elem? ys i ≡ some x) → xs ≡ ys
same_list [] [] l h = refl
same_list [] (y ∷ ys) l h = absurd (omega arith)
same_list (x ∷ xs) [] l h = absurd (omega arith)
same_list (x ∷ xs) (y ∷ ys) l h = let a = some-injective y x (h 0 x refl) in let b = same_list xs ys (omega arith) (λ i z e. h (suc i) z e) in λ i. sym a i ∷ b i

length_window : (xs : List Node) (d p : ℕ) → d ≤ p → p ≤ length xs → length (drop d (take p xs)) ≡ p - d
length_window xs zero zero a b = omega arith
length_window [] zero (suc p) a b = absurd (omega arith)
length_window (x ∷ xs) zero (suc p) a b = let h = length_window xs zero p (omega arith) (omega arith) in omega arith
length_window xs (suc d) zero a b = absurd (omega arith)
length_window [] (suc d) (suc p) a b = absurd (omega arith)
length_window (x ∷ xs) (suc d) (suc p) a b = let h = length_window xs d p (omega arith) (omega arith) in omega arith

window_get : (xs : List Node) (d p i : ℕ) (x : Node) → d + i < p → get_elem? xs (d + i) ≡ some x → get_elem? (drop d (take p xs)) i ≡ some x
window_get xs zero zero i x l e = absurd (omega arith)
window_get [] zero (suc p) i x l e = absurd (some-ne-none x (sym e))
window_get (y ∷ xs) zero (suc p) zero x l e = let z : 0 + 0 ≡ 0 = omega arith in sym (ap (get_elem? (y ∷ xs)) z) ∙ e
window_get (y ∷ xs) zero (suc p) (suc i) x l e = let z : 0 + suc i ≡ suc (0 + i) = omega arith in window_get xs zero p i x (omega arith) (sym (ap (get_elem? (y ∷ xs)) z) ∙ e)
window_get xs (suc d) zero i x l e = absurd (omega arith)
window_get [] (suc d) (suc p) i x l e = absurd (some-ne-none x (sym e))
window_get (y ∷ xs) (suc d) (suc p) i x l e = let z : suc d + i ≡ suc (d + i) = omega arith in window_get xs d p i x (omega arith) (sym (ap (get_elem? (y ∷ xs)) z) ∙ e)

get_elem-get_or : (xs : List Node) (i : ℕ) (x : Node) → get_elem? xs i ≡ some x → get_or xs i x ≡ x
get_elem-get_or [] i x e = refl
get_elem-get_or (y ∷ xs) zero x e = some-injective y x e
get_elem-get_or (y ∷ xs) (suc i) x e = get_elem-get_or xs i x e

-- each node of a segment stands in the segment
segment_holds : (s : Segment) (i : ℕ) (x : Node) → length s.nodes ≤ s.place → get_elem? s.nodes i ≡ some x → node_in_segment s (suc ((s.place - length s.nodes) + i)) ≡ Some x
segment_holds s i x l e = let n = inside s.nodes i x e in node_among-at s.place s.nodes (suc ((s.place - length s.nodes) + i)) i x n (omega arith) ∙ ap Some (get_elem-get_or s.nodes i x e)

last_node : (xs : List Node) → 1 ≤ length xs → (x : Node) × (get_elem? xs (length xs - 1) ≡ some x)
last_node [] l = absurd (omega arith)
last_node (x ∷ []) l = (x, refl)
last_node (x ∷ y ∷ xs) l = let h = last_node (y ∷ xs) (omega arith) in let z : length (x ∷ y ∷ xs) - 1 ≡ suc (length (y ∷ xs) - 1) = omega arith in (h.0, ap (get_elem? (x ∷ y ∷ xs)) z ∙ h.1)

segment_agrees : (trace : List Node) (last : ℕ) (s : Segment) → last + length s.nodes ≤ s.place → ((p : ℕ) (x : Node) → node_in_segment s p ≡ Some x → Is trace p x) → 1 ≤ length s.nodes → Agrees trace s
segment_agrees trace last s r h one = let d : ℕ = s.place - length s.nodes in
    let is : (i : ℕ) (x : Node) → get_elem? s.nodes i ≡ some x → get_elem? trace (d + i) ≡ some x = (λ i x e. let k = h (suc (d + i)) x (segment_holds s i x (omega arith) e) in let q = k.1 in let z : d + i ≡ k.0 = omega arith in ap (get_elem? trace) z ∙ k.2) in
    let end = last_node s.nodes one in let low : d + (length s.nodes - 1) < length trace = inside trace (d + (length s.nodes - 1)) end.0 (is (length s.nodes - 1) end.0 end.1) in record {
      some_nodes = one;
      from_one = omega arith;
      in_trace = omega arith;
      nodes = same_list s.nodes (drop d (take s.place trace)) (let w = length_window trace d s.place (omega arith) (omega arith) in omega arith) (λ i x e. let n = inside s.nodes i x e in window_get trace d s.place i x (omega arith) (is i x e));
    }

log_agrees : (trace : List Node) (last : ℕ) (ss : List Segment) → Rises last ss → ((p : ℕ) (x : Node) → node_in_log ss p ≡ Some x → Is trace p x) → AllByRecursion (λ s. 1 ≤ length s.nodes → Agrees trace s) ss
log_agrees trace last [] r h = tt
log_agrees trace last (s ∷ ss) r h = (segment_agrees trace last s r.0 (λ p x e. h p x (ap (λ (o : Option Node). option_or o (node_in_log ss p)) e)), log_agrees trace s.place ss r.1 (λ p x e. h p x (held_later last s ss p x r e)))

logs_agree : (trace : List Node) (cs : List Content) → AllRise cs → ((u : ℕ) (c : Content) (p : ℕ) (x : Node) → get_elem? cs u ≡ some c → node_in_log c.entries p ≡ Some x → Is trace p x) → EachSegment (λ s. 1 ≤ length s.nodes → Agrees trace s) cs
logs_agree trace [] r h = tt
logs_agree trace (c ∷ cs) r h = (log_agrees trace 0 c.entries r.0 (λ p x e. h 0 c p x refl e), logs_agree trace cs r.1 (λ u z p x k e. h (suc u) z p x k e))

top_in_logs : (cs : List Content) (u : ℕ) (c : Content) (p : ℕ) → get_elem? cs u ≡ some c → p ≤ top_in_log c.entries → p ≤ top_of cs
top_in_logs [] u c p e l = absurd (some-ne-none c (sym e))
top_in_logs (z ∷ cs) zero c p e l = let k = ap (λ (q : Content). top_in_log q.entries) (some-injective z c e) in omega arith
top_in_logs (z ∷ cs) (suc u) c p e l = let k = top_in_logs cs u c p e l in omega arith

rise_at : (cs : List Content) (u : ℕ) (c : Content) → get_elem? cs u ≡ some c → AllRise cs → Rises 0 c.entries
rise_at [] u c e r = absurd (some-ne-none c (sym e))
rise_at (z ∷ cs) zero c e r = let P : Content → Type 0 = λ q. Rises 0 q.entries in subst P (some-injective z c e) r.0
rise_at (z ∷ cs) (suc u) c e r = rise_at cs u c e r.1

from_one : (ss : List Segment) (p : ℕ) (x : Node) → Rises 0 ss → node_in_log ss p ≡ Some x → 1 ≤ p
from_one ss zero x r e = let bad : None ≡ Some x = sym (node_in_log-low 0 ss 0 r (omega arith)) ∙ e in absurd (cc)
from_one ss (suc p) x r e = omega arith

pub accepted : (o : Option RecoverFault) (xs nodes : List Node) → unless o xs ≡ Ok nodes → (o ≡ None) × (xs ≡ nodes)
accepted None xs nodes e = (refl, (cc))
accepted (Some fault) xs nodes e = absurd (cc)

module _ (cs : List Content) (r : AllRise cs) (clash : first_to (clash_at cs) (top_of cs) ≡ None) (gap : first_to (gap_at cs) (top_of cs) ≡ None) where
  has : (p : ℕ) → 1 ≤ p → p ≤ top_of cs → Has cs p
  has p a b = has_all cs p (none_at (gap_at cs) (top_of cs) gap p a b)

  is_at : (u : ℕ) (c : Content) (p : ℕ) (x : Node) → get_elem? cs u ≡ some c → node_in_log c.entries p ≡ Some x → Is (nodes_to cs (top_of cs)) p x
  is_at u c p x k e = let one = from_one c.entries p x (rise_at cs u c k r) e in let low = top_in_logs cs u c p k (top_in_log-lies c.entries p (node_in_log-lies c.entries p x e)) in
      let all = log_in_all p 0 cs (none_at (clash_at cs) (top_of cs) clash p one low) u c x k e in let z : suc (p - 1) ≡ p = omega arith in
      (p - 1, omega arith, nodes_to-at cs (top_of cs) has (p - 1) x (omega arith) (ap (node_in_logs cs) z ∙ all))

  merged : (heads : List LogHead) → HeadsFit cs heads → stray_above [] (nodes_to cs (top_of cs)) ≡ None → HoldMerged (nodes_to cs (top_of cs)) heads cs
  merged heads f stray = record {
    heads_fit = f;
    agree = logs_agree (nodes_to cs (top_of cs)) cs r is_at;
    rise = r;
    cover = λ q a b. (let h = has q a b in node_in_logs-lies cs q h.0 h.1);
    numbered = numbered [] (nodes_to cs (top_of cs)) stray;
    whole = nodes_to-length cs (top_of cs) has;
  }

pub merge-back : (nodes : List Node) (heads : List LogHead) (cs : List Content) → merge heads cs ≡ Ok nodes → HoldMerged nodes heads cs
merge-back nodes heads cs h = let a = accepted (refusal heads cs) (nodes_to cs (top_of cs)) nodes h in let e0 = none_both (foreign 0 cs heads) _ a.0 in let e1 = none_both (disorder 0 cs) _ e0.1 in let e2 = none_both (unlike cs (top_of cs)) _ e1.1 in let e3 = none_both (first_to (clash_at cs) (top_of cs)) _ e2.0 in
    let P : List Node → Type 0 = λ ns. HoldMerged ns heads cs in subst P a.1 (merged cs (all_rise 0 cs e1.0) e3.0 e3.1 heads (heads_fit 0 cs heads e0.0) e2.1)
