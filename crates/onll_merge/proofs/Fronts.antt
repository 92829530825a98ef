-- Logs that hold one trace merge to its front.
use Rattle.std.proofs.Common.{◌≡◌, ℕ, zero, suc, ◌+◌, ◌-◌, ◌<◌, ◌≤◌, ◌==◌, ◌⊎◌, inl, inr, ⊎_elim, Bool, true, List, [], ◌∷◌, ◌++◌, length, take, drop, sym, refl, ap, ◌∙◌, arith, Option, Some, None, Ok, option_to_list, eq-eqb, cond}
use Rattle.std.specs.Prelude.{◌&&◌, IfSome, count_by}
use Rattle.std.specs.List.{AllByRecursion}
use Rattle.std.specs.Option.{option_or, option_map, option_map_or}
use mathlib.Core.Option.{some, some-injective, some-ne-none}
use mathlib.Core.Logic.{dite}
use native.Mathlib.Decide.{ℕ_discrete}
use lib.ListN.{get_elem?}
use Rattle.onll_model.specs.declared.node.Node.{Node}
use Rattle.onll_model.specs.Segment.{Segment, Agrees, LiesIn}
use Rattle.onll_model.specs.Trace.{is_of_thread, NumberedAbove}
use Rattle.onll_log.specs.declared.head.LogHead.{LogHead}
use Rattle.onll_log.specs.Grammar.{Content, same_words}
use Rattle.onll_merge.specs.declared.fault.RecoverFault.{RecoverFault}
use Rattle.onll_merge.specs.declared.fault.RecoverFault.TheVariants.{NotThisRun, Disorder, Clash, Gap, Stray}
use Rattle.onll_log.specs.Survey.{top_in_log}
use Rattle.onll_log.proofs.Surveys.{in_order}
use Rattle.onll_merge.specs.Merge.{node_among, node_in_segment, node_in_log, node_in_logs, nodes_to, top_of, same_head, fits_run, foreign, disorder, AllRise, first_to, same_node, agrees_at, differs, clash_from, clash_at, gap_at, unlike, stray_above, refusal, unless, merge}
use Rattle.onll_merge.specs.Laws.{all_segments, EachSegment, HeadsFit, HoldOne}
use Rattle.onll_merge.proofs.Places.{node_among-skip, node_among-first}
use Rattle.onll_merge.proofs.Asked.{by_option, same_words-self, first_to-more}

-- ---- lists read by place
pub at_window : {A : Type 0} (xs : List A) (d p i : ℕ) (x : A) → get_elem? (drop d (take p xs)) i ≡ some x → get_elem? xs (d + i) ≡ some x
at_window xs zero zero i x e = absurd (some-ne-none x (sym e))
at_window [] zero (suc p) i x e = absurd (some-ne-none x (sym e))
at_window (y ∷ xs) zero (suc p) zero x e = let k : 0 + 0 ≡ 0 = omega arith in ap (get_elem? (y ∷ xs)) k ∙ e
at_window (y ∷ xs) zero (suc p) (suc i) x e = let k : 0 + suc i ≡ suc (0 + i) = omega arith in ap (get_elem? (y ∷ xs)) k ∙ at_window xs zero p i x e
at_window xs (suc d) zero i x e = absurd (some-ne-none x (sym e))
at_window [] (suc d) (suc p) i x e = absurd (some-ne-none x (sym e))
at_window (y ∷ xs) (suc d) (suc p) i x e = let k : suc d + i ≡ suc (d + i) = omega arith in ap (get_elem? (y ∷ xs)) k ∙ at_window xs d p i x e

pub inside : {A : Type 0} (xs : List A) (p : ℕ) (x : A) → get_elem? xs p ≡ some x → p < length xs
inside [] p x e = absurd (some-ne-none x (sym e))
inside (y ∷ xs) zero x e = omega arith
inside (y ∷ xs) (suc p) x e = let h = inside xs p x e in omega arith

take_next : (xs : List Node) (k : ℕ) (x : Node) → get_elem? xs k ≡ some x → take (suc k) xs ≡ take k xs ++ x ∷ []
take_next [] k x e = absurd (some-ne-none x (sym e))
take_next (y ∷ xs) zero x e = ap (λ (z : Node). z ∷ []) (some-injective y x e)
take_next (y ∷ xs) (suc k) x e = ap (λ (l : List Node). y ∷ l) (take_next xs k x e)

-- the node of a place of a trace
abbrev pub Is : List Node → ℕ → Node → Type 0
Is trace p x = (q : ℕ) × (p ≡ suc q) × (get_elem? trace q ≡ some x)

same_is : (trace : List Node) (p : ℕ) (x y : Node) → Is trace p x → Is trace p y → x ≡ y
same_is trace p x y a b = let e = a.1 in let f = b.1 in let k : a.0 ≡ b.0 = omega arith in some-injective x y (sym a.2 ∙ (ap (get_elem? trace) k ∙ b.2))

-- ---- the node of a place
pub node_among-is : (last : ℕ) (xs : List Node) (p : ℕ) (x : Node) → node_among last xs p ≡ Some x → (i : ℕ) × (p + length xs ≡ last + suc i) × (get_elem? xs i ≡ some x)
node_among-is last [] p x e = absurd (cc)
node_among-is last (y ∷ xs) p x e = dite (ℕ_discrete (p + length xs) last)
    (λ is. let both : Some y ≡ Some x = sym (node_among-first last y xs p is) ∙ e in let yx : y ≡ x = (cc) in (0, omega arith, ap some yx))
    (λ not. let h = node_among-is last xs p x (sym (node_among-skip last y xs p not) ∙ e) in let k = h.1 in (suc h.0, omega arith, h.2))

pub node_among-has : (last : ℕ) (xs : List Node) (p : ℕ) → p ≤ last → last < p + length xs → (x : Node) × (node_among last xs p ≡ Some x)
node_among-has last [] p a b = absurd (omega arith)
node_among-has last (y ∷ xs) p a b = dite (ℕ_discrete (p + length xs) last) (λ is. (y, node_among-first last y xs p is))
    (λ not. let h = node_among-has last xs p a (omega arith) in (h.0, node_among-skip last y xs p not ∙ h.1))

pub either_some : {A : Type 0} (a b : Option A) (x : A) → option_or a b ≡ Some x → (a ≡ Some x) ⊎ (b ≡ Some x)
either_some None b x e = inr e
either_some (Some y) b x e = inl e

node_in_segment-is : (trace : List Node) (s : Segment) (p : ℕ) (x : Node) → Agrees trace s → node_in_segment s p ≡ Some x → Is trace p x
node_in_segment-is trace s p x a e = let h = node_among-is s.place s.nodes p x e in let d : ℕ = s.place - length s.nodes in let k = h.1 in let l = a.from_one in
    (d + h.0, omega arith, at_window trace d s.place h.0 x (ap (λ (l : List Node). get_elem? l h.0) (sym a.nodes) ∙ h.2))

node_in_log-is : (trace : List Node) (ss : List Segment) (p : ℕ) (x : Node) → AllByRecursion (Agrees trace) ss → node_in_log ss p ≡ Some x → Is trace p x
node_in_log-is trace [] p x a e = absurd (cc)
node_in_log-is trace (s ∷ ss) p x a e = ⊎_elim (λ (h : node_in_segment s p ≡ Some x). node_in_segment-is trace s p x a.0 h) (λ (h : node_in_log ss p ≡ Some x). node_in_log-is trace ss p x a.1 h) (either_some (node_in_segment s p) (node_in_log ss p) x e)

node_in_logs-is : (trace : List Node) (cs : List Content) (p : ℕ) (x : Node) → EachSegment (Agrees trace) cs → node_in_logs cs p ≡ Some x → Is trace p x
node_in_logs-is trace [] p x a e = absurd (cc)
node_in_logs-is trace (c ∷ cs) p x a e = ⊎_elim (λ (h : node_in_log c.entries p ≡ Some x). node_in_log-is trace c.entries p x a.0 h) (λ (h : node_in_logs cs p ≡ Some x). node_in_logs-is trace cs p x a.1 h) (either_some (node_in_log c.entries p) (node_in_logs cs p) x e)

-- ---- a place that lies in a segment
abbrev pub Has : List Content → ℕ → Type 0
Has cs p = (x : Node) × (node_in_logs cs p ≡ Some x)

pub LiesIn-append : (p : ℕ) (xs ys : List Segment) → LiesIn p (xs ++ ys) → LiesIn p xs ⊎ LiesIn p ys
LiesIn-append p [] ys h = inr h
LiesIn-append p (x ∷ xs) ys (inl h) = inl (inl h)
LiesIn-append p (x ∷ xs) ys (inr h) = ⊎_elim (λ (k : LiesIn p xs). inl (inr k)) (λ (k : LiesIn p ys). inr k) (LiesIn-append p xs ys h)

node_in_log-has : (ss : List Segment) (p : ℕ) → LiesIn p ss → (x : Node) × (node_in_log ss p ≡ Some x)
node_in_log-has [] p h = absurd h
node_in_log-has (s ∷ ss) p (inl h) = let a = h.0 in let b = h.1 in let r = node_among-has s.place s.nodes p a b in (r.0, ap (λ (o : Option Node). option_or o (node_in_log ss p)) r.1)
node_in_log-has (s ∷ ss) p (inr h) = let r = node_in_log-has ss p h in let P : Option Node → Type 0 = λ o. (x : Node) × (option_or o (node_in_log ss p) ≡ Some x) in by_option P (node_in_segment s p) (λ _. r) (λ x _. (x, refl))

pub Has-lies : (cs : List Content) (p : ℕ) → LiesIn p (all_segments cs) → Has cs p
Has-lies [] p h = absurd h
Has-lies (c ∷ cs) p h = let P : Option Node → Type 0 = λ o. (x : Node) × (option_or o (node_in_logs cs p) ≡ Some x) in ⊎_elim
    (λ (k : LiesIn p c.entries). let r = node_in_log-has c.entries p k in (r.0, ap (λ (o : Option Node). option_or o (node_in_logs cs p)) r.1))
    (λ (k : LiesIn p (all_segments cs)). let r = Has-lies cs p k in by_option P (node_in_log c.entries p) (λ _. r) (λ x _. (x, refl)))
    (LiesIn-append p c.entries (all_segments cs) h)

-- ---- no refusal
pub same_head-self : (h : LogHead) → same_head h h ≡ true
same_head-self h = ap (λ (b : Bool). b && ((h.threads == h.threads) && ((h.object == h.object) && (same_words h.digest h.digest && (h.format == h.format))))) (eq-eqb h.thread h.thread refl)
    ∙ (ap (λ (b : Bool). b && ((h.object == h.object) && (same_words h.digest h.digest && (h.format == h.format)))) (eq-eqb h.threads h.threads refl)
    ∙ (ap (λ (b : Bool). b && (same_words h.digest h.digest && (h.format == h.format))) (eq-eqb h.object h.object refl)
    ∙ (ap (λ (b : Bool). b && (h.format == h.format)) (same_words-self h.digest) ∙ eq-eqb h.format h.format refl)))

fits_run-same : (o : Option LogHead) (h : LogHead) → IfSome o (λ head. head ≡ h) → fits_run o h ≡ true
fits_run-same None h e = refl
fits_run-same (Some head) h e = ap (λ (z : LogHead). same_head z h) e ∙ same_head-self h

pub no_foreign : (i : ℕ) (cs : List Content) (hs : List LogHead) → HeadsFit cs hs → foreign i cs hs ≡ None
no_foreign i [] hs f = refl
no_foreign i (c ∷ cs) [] f = refl
no_foreign i (c ∷ cs) (h ∷ hs) f = ap (λ (b : Bool). cond {A = Option RecoverFault} b (foreign (suc i) cs hs) (Some (NotThisRun i))) (fits_run-same c.head h f.0) ∙ no_foreign (suc i) cs hs f.1

no_disorder : (i : ℕ) (cs : List Content) → AllRise cs → disorder i cs ≡ None
no_disorder i [] r = refl
no_disorder i (c ∷ cs) r = ap (λ (o : Option RecoverFault). option_or o (disorder (suc i) cs)) (ap (option_map (Disorder i)) (in_order 0 0 c.entries r.0)) ∙ no_disorder (suc i) cs r.1

same_node-self : (x : Node) → same_node x x ≡ true
same_node-self x = ap (λ (b : Bool). b && ((x.number == x.number) && same_words x.row.w x.row.w)) (eq-eqb x.thread x.thread refl) ∙ (ap (λ (b : Bool). b && same_words x.row.w x.row.w) (eq-eqb x.number x.number refl) ∙ same_words-self x.row.w)

agrees_at-is : (trace : List Node) (ss : List Segment) (p : ℕ) (x : Node) → Is trace p x → AllByRecursion (Agrees trace) ss → agrees_at ss p x ≡ true
agrees_at-is trace ss p x is a = let P : Option Node → Type 0 = λ o. option_map_or (same_node x) o true ≡ true in
    by_option P (node_in_log ss p) (λ _. refl) (λ y e. ap (same_node x) (sym (same_is trace p x y is (node_in_log-is trace ss p y a e))) ∙ same_node-self x)

no_difference : (trace : List Node) (p i j : ℕ) (x : Node) (cs : List Content) → Is trace p x → EachSegment (Agrees trace) cs → differs p i j x cs ≡ None
no_difference trace p i j x [] is a = refl
no_difference trace p i j x (c ∷ cs) is a = ap (λ (b : Bool). cond {A = Option RecoverFault} b (differs p i (suc j) x cs) (Some (Clash p i j))) (agrees_at-is trace c.entries p x is a.0) ∙ no_difference trace p i (suc j) x cs is a.1

no_clash : (trace : List Node) (p i : ℕ) (cs : List Content) → EachSegment (Agrees trace) cs → clash_from i cs p ≡ None
no_clash trace p i [] a = refl
no_clash trace p i (c ∷ cs) a = let P : Option Node → Type 0 = λ o. option_map_or (λ x. differs p i (suc i) x cs) o (clash_from (suc i) cs p) ≡ None in
    by_option P (node_in_log c.entries p) (λ _. no_clash trace p (suc i) cs a.1) (λ x e. no_difference trace p i (suc i) x cs (node_in_log-is trace c.entries p x a.0 e) a.1)

nodes_to-front : (trace : List Node) (cs : List Content) (k : ℕ) → EachSegment (Agrees trace) cs → ((p : ℕ) → 1 ≤ p → p ≤ k → Has cs p) → nodes_to cs k ≡ take k trace
nodes_to-front trace cs zero a h = refl
nodes_to-front trace cs (suc k) a h = let here = h (suc k) (omega arith) (omega arith) in let is = node_in_logs-is trace cs (suc k) here.0 a here.1 in
    let q : is.0 ≡ k = (let e = is.1 in omega arith) in let at : get_elem? trace k ≡ some here.0 = sym (ap (get_elem? trace) q) ∙ is.2 in
    let rest = nodes_to-front trace cs k a (λ p x y. h p x (omega arith)) in
    ap (λ (o : Option Node). nodes_to cs k ++ option_to_list o) here.1 ∙ (ap (λ (l : List Node). l ++ here.0 ∷ []) rest ∙ sym (take_next trace k here.0 at))

no_stray : (below xs : List Node) → NumberedAbove below xs → stray_above below xs ≡ None
no_stray below [] n = refl
no_stray below (x ∷ xs) n = ap (λ (b : Bool). cond {A = Option RecoverFault} b (stray_above (below ++ x ∷ []) xs) (Some (Stray (length below + 1) x.thread x.number (count_by (is_of_thread x.thread) below + 1)))) (eq-eqb x.number (count_by (is_of_thread x.thread) below + 1) n.0) ∙ no_stray (below ++ x ∷ []) xs n.1

numbered_take : (below xs : List Node) (k : ℕ) → NumberedAbove below xs → NumberedAbove below (take k xs)
numbered_take below xs zero n = tt
numbered_take below [] (suc k) n = tt
numbered_take below (x ∷ xs) (suc k) n = (n.0, numbered_take (below ++ x ∷ []) xs k n.1)

none_or : {A : Type 0} (a b : Option A) → a ≡ None → b ≡ None → option_or a b ≡ None
none_or a b e f = ap (λ (o : Option _). option_or o b) e ∙ f

none_to : (f : ℕ → Option RecoverFault) (k : ℕ) → ((p : ℕ) → 1 ≤ p → p ≤ k → f p ≡ None) → first_to f k ≡ None
none_to f k h = first_to-more f 0 k refl (omega arith) (λ q a b. h q (omega arith) b)

pub merge-front : (trace : List Node) (heads : List LogHead) (cs : List Content) → HoldOne trace heads cs → merge heads cs ≡ Ok (take (top_of cs) trace)
merge-front trace heads cs m = let top : ℕ = top_of cs in let has : (p : ℕ) → 1 ≤ p → p ≤ top → Has cs p = (λ p a b. Has-lies cs p (m.cover p a b)) in
    let nodes : nodes_to cs top ≡ take top trace = nodes_to-front trace cs top m.agree has in
    let gap : first_to (gap_at cs) top ≡ None = none_to (gap_at cs) top (λ p a b. ap (λ (o : Option Node). option_map_or (λ x. None) o (Some (Gap p))) (has p a b).1) in
    let clash : first_to (clash_at cs) top ≡ None = none_to (clash_at cs) top (λ p a b. no_clash trace p 0 cs m.agree) in
    let stray : stray_above [] (nodes_to cs top) ≡ None = ap (stray_above []) nodes ∙ no_stray [] (take top trace) (numbered_take [] trace top m.numbered) in
    let all : refusal heads cs ≡ None = none_or (foreign 0 cs heads) _ (no_foreign 0 cs heads m.heads_fit) (none_or (disorder 0 cs) _ (no_disorder 0 cs m.rise) (none_or (unlike cs top) _ (none_or (first_to (clash_at cs) top) _ clash gap) stray)) in
    ap (λ (o : Option RecoverFault). unless o (nodes_to cs top)) all ∙ ap Ok nodes

-- ---- the greatest place
pub top_in_log-lies : (ss : List Segment) (p : ℕ) → LiesIn p ss → p ≤ top_in_log ss
top_in_log-lies [] p h = absurd h
top_in_log-lies (s ∷ ss) p (inl h) = let a = h.0 in omega arith
top_in_log-lies (s ∷ ss) p (inr h) = let r = top_in_log-lies ss p h in omega arith

pub top_of-lies : (cs : List Content) (p : ℕ) → LiesIn p (all_segments cs) → p ≤ top_of cs
top_of-lies [] p h = absurd h
top_of-lies (c ∷ cs) p h = ⊎_elim (λ (k : LiesIn p c.entries). let r = top_in_log-lies c.entries p k in omega arith) (λ (k : LiesIn p (all_segments cs)). let r = top_of-lies cs p k in omega arith) (LiesIn-append p c.entries (all_segments cs) h)
