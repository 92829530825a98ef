-- What comes of an entry whose lines are there.
use Rattle.std.proofs.Common.{◌≡◌, ℕ, zero, suc, ◌+◌, ◌*◌, ◌<◌, ◌≤◌, true, false, List, [], ◌∷◌, ◌++◌, length, get_or, take, sym, refl, ap, subst, ◌∙◌, arith, Option, Some, None, append-nil, eqb-true, true≢false}
use Rattle.std.specs.Prelude.{nat_le, map, Result, Ok, Err}
use Rattle.std.specs.List.{slice_get}
use Rattle.std.proofs.lemmas.Bool.{leb-true, le-leb}
use Rattle.std.proofs.lemmas.List.{take_all}
use Rattle.onll_model.specs.declared.node.Node.{Node}
use Rattle.onll_model.specs.Object.{Behaviour}
use Rattle.onll_model.specs.Limits.{most_threads}
use Rattle.onll_model.proofs.Lists.{inside}
use Rattle.onll_log.specs.declared.head.LogHead.{LogHead}
use Rattle.onll_log.specs.Head.{word}
use Rattle.onll_log.specs.Grammar.{all_named, is_entry, node_of_line}
use Rattle.onll_log.proofs.Accepted.{both_true, Accepted-if}
use Rattle.onll_log.proofs.Decoding.{all_named-le}
use Rattle.onll_merge.proofs.Asked.{by_option}
use Rattle.onll_standby.specs.declared.fault.FeedFault.{FeedFault}
use Rattle.onll_standby.specs.declared.fault.FeedFault.TheVariants.{Refused}
use Rattle.onll_standby.specs.declared.holdings.LogTail.{LogTail}
use Rattle.onll_standby.specs.declared.holdings.Holdings.{Holdings}
use Rattle.onll_standby.specs.Held.{HeldEntry, covered, nodes_followed, node_fault, entry_fault}
use Rattle.onll_standby.specs.Applied.{StandsAfter}
use Rattle.onll_standby.specs.Holdings.{KeepsEntries, HasAdmitted}
use Rattle.onll_standby.specs.Stream.{AreStreamHeads, Course, opens, is_whole, head_named, before_it, entry_of, byte_at, waits, entries_course}
use Rattle.onll_standby.specs.Entry.{EntryBegins, FollowsCourse, StopsAtCourse, TookEntry}
use Rattle.onll_standby.proofs.Cut.{stepped}
use Rattle.onll_standby.proofs.Entries.{head_at, skipped}
use Rattle.onll_standby.proofs.OneMore.{followed-all}

get_of : {A : Type 0} (xs : List A) (i : ℕ) (x d : A) → slice_get xs i ≡ Some x → get_or xs i d ≡ x
get_of [] i x d e = absurd (cc)
get_of (y ∷ ys) zero x d e = (cc)
get_of (y ∷ ys) (suc i) x d e = get_of ys i x d e

-- what a header line says that can begin an entry
pub record Header (heads : List LogHead) (logs : List LogTail) (line : List ℕ) : Type 0 where
  pub head : LogHead
  pub named : slice_get heads (word line 1) ≡ Some head
  pub threads : head.threads ≡ length heads
  pub thread : word line 1 < length heads
  pub few_threads : length heads ≤ most_threads
  pub next : (d : LogTail) → word line 2 ≡ (get_or logs (word line 1) d).entries + 1
  pub some_nodes : 1 ≤ word line 4
  pub few_nodes : word line 4 ≤ length heads
  pub from_one : word line 4 ≤ word line 3
  pub place : word line 3 ≤ 4096 * length heads

pub header_by : (heads : List LogHead) (logs : List LogTail) (line : List ℕ) → AreStreamHeads heads → ((d : LogTail) → opens (head_named heads line) (get_or logs (word line 1) d).entries line ≡ true) → Header heads logs line
header_by heads logs line are opened =
    let P : Option LogHead → Type 0 = λ o. ((d : LogTail) → opens o (get_or logs (word line 1) d).entries line ≡ true) → slice_get heads (word line 1) ≡ o → Header heads logs line in
    by_option P (slice_get heads (word line 1))
    (λ _ test is. let z : LogTail = record { entries = 0; last = 0 } in absurd (true≢false (sym (test z))))
    (λ head _ test is.
    let z : LogTail = record { entries = 0; last = 0 } in
    let n = head_at 0 (length heads) heads (word line 1) head are.numbered is in
    let l = inside heads (word line 1) head is in
    let a = both_true _ _ (test z) in let b = both_true _ _ a.1 in let c = both_true _ _ b.1 in let e = both_true _ _ c.1 in let f = both_true _ _ e.1 in
    let some : 1 ≤ word line 4 = leb-true _ _ c.0 in
    let few : word line 4 ≤ head.threads = leb-true _ _ e.0 in
    let from : word line 4 ≤ word line 3 = leb-true _ _ f.0 in
    let place : word line 3 ≤ 4096 * head.threads = leb-true _ _ f.1 in
    let t : head.threads ≡ length heads = n.1 in
    record {
      head = head;
      named = is;
      threads = t;
      thread = l;
      few_threads = are.few_heads;
      next = λ d. eqb-true _ _ (both_true _ _ (both_true _ _ (test d)).1).0;
      some_nodes = some;
      few_nodes = subst (λ (m : ℕ). word line 4 ≤ m) t few;
      from_one = from;
      place = subst (λ (m : ℕ). word line 3 ≤ 4096 * m) t place;
    })
    opened refl

-- the head that the code reads
pub head_read : (heads : List LogHead) (logs : List LogTail) (line : List ℕ) (h : Header heads logs line) (d : LogHead) → get_or heads (word line 1) d ≡ h.head
head_read heads logs line h d = get_of heads (word line 1) h.head d h.named

-- an accepted entry's node lines are named
pub named_of : (heads : List LogHead) (logs : List LogTail) (line : List ℕ) (ns : List (List ℕ)) (h : Header heads logs line) (before : ℕ) → length ns ≡ word line 4 → is_entry h.head before line ns ≡ true → all_named 65536 ns ≡ true
named_of heads logs line ns h before n e =
    let a = Accepted-if h.head before line ns e in let few = h.few_threads in let t = h.threads in
    let all : take (word line 4) ns ≡ ns = take_all (word line 4) ns (omega arith) in
    all_named-le (4096 * h.head.threads) 65536 ns (omega arith) (subst (λ (l : List (List ℕ)). all_named (4096 * h.head.threads) l ≡ true) all a.named)

module _ {State Op Query Reply : Type 0} (b : Behaviour State Op Query Reply) (start : State) (heads : List LogHead) (es : List HeldEntry) (at : ℕ)
    (old : Holdings State Op Query Reply) (line : List ℕ) (ns : List (List ℕ)) (are : AreStreamHeads heads) (begun : EntryBegins heads old.logs line) (whole : length ns ≡ word line 4)
    (keeps : KeepsEntries b start (length heads) es old) where
  abbrev e : HeldEntry
  e = entry_of line ns

  opened : opens (head_named heads line) (before_it es line) line ≡ true
  opened = let h = header_by heads old.logs line are begun in let d : LogTail = record { entries = 0; last = 0 } in let l = h.thread in let m = h.few_threads in
      let n : (get_or old.logs (word line 1) d).entries ≡ before_it es line = ap (λ (t : LogTail). t.entries) (keeps.logs (word line 1) d (omega arith)) in
      subst (λ (k : ℕ). opens (head_named heads line) k line ≡ true) n (begun d)

  -- the course is one step
  course_is : entries_course b heads es at 0 (line ∷ ns) ≡ stepped b heads true true (is_whole (head_named heads line) (before_it es line) line ns) es e at (at + suc (word line 4))
      (entry_fault es (byte_at at) e) (node_fault b (length heads) (es ++ e ∷ [])) (line ∷ ns) (waits b heads (es ++ e ∷ []) [])
  course_is =
      let o = opened in
      let w : nat_le (word line 4) (length ns) ≡ true = le-leb (word line 4) (length ns) (omega arith) in
      let next : entries_course b heads (es ++ e ∷ []) (at + suc (word line 4)) (word line 4) ns ≡ waits b heads (es ++ e ∷ []) [] =
      ap (entries_course b heads (es ++ e ∷ []) (at + suc (word line 4)) (word line 4)) (sym (append-nil ns)) ∙ skipped b heads (es ++ e ∷ []) (at + suc (word line 4)) (word line 4) ns [] (sym whole) in
      λ i. stepped b heads (o i) (w i) (is_whole (head_named heads line) (before_it es line) line ns) es e at (at + suc (word line 4))
      (entry_fault es (byte_at at) e) (node_fault b (length heads) (es ++ e ∷ [])) (line ∷ ns) (next i)

  applied_before : StandsAfter b start (nodes_followed b (length heads) es) old.applied
  applied_before = subst (λ (l : List Node). StandsAfter b start l old.applied) (sym (followed-all b [] (covered (length heads) es) keeps.clean)) keeps.applied

  ends : at + suc (word line 4) ≡ at + suc (length ns)
  ends = omega arith

  -- the test that the code makes
  whole_test : (d : LogHead) (z : LogTail) → is_entry (get_or heads (word line 1) d) (get_or old.logs (word line 1) z).entries line ns ≡ is_whole (head_named heads line) (before_it es line) line ns
  whole_test d z = let h = header_by heads old.logs line are begun in let l = h.thread in let m = h.few_threads in
      let n : (get_or old.logs (word line 1) z).entries ≡ before_it es line = ap (λ (t : LogTail). t.entries) (keeps.logs (word line 1) z (omega arith)) in
      let r = head_read heads old.logs line h d in
      (λ i. is_entry (r i) (n i) line ns) ∙ ap (λ (o : Option LogHead). is_whole o (before_it es line) line ns) (sym h.named)

  -- it is no entry
  pub not_whole : (d : LogHead) (z : LogTail) (begins : ℕ) → byte_at at ≡ begins → is_entry (get_or heads (word line 1) d) (get_or old.logs (word line 1) z).entries line ns ≡ false
      → StopsAtCourse b start (at + suc (length ns)) (entries_course b heads es at 0 (line ∷ ns)) (Refused begins) old
  not_whole d z begins is test =
      let k : is_whole (head_named heads line) (before_it es line) line ns ≡ false = sym (whole_test d z) ∙ test in
      let c : entries_course b heads es at 0 (line ∷ ns) ≡ record { entries = es; nodes = nodes_followed b (length heads) es; shown = Some (record { fault = Refused begins; lines = at + suc (length ns) }); rest = [] } =
      course_is ∙ (λ i. stepped b heads true true (k i) es e at (ends i) (entry_fault es (is i) e) (node_fault b (length heads) (es ++ e ∷ [])) (line ∷ ns) (waits b heads (es ++ e ∷ []) []))
      ∙ (λ i. record { entries = es; nodes = nodes_followed b (length heads) es; shown = Some (record { fault = Refused (is i); lines = at + suc (length ns) }); rest = [] }) in
      subst (λ (z : Course). StopsAtCourse b start (at + suc (length ns)) z (Refused begins) old) (sym c) record { shown = refl; held = keeps.held; applied = applied_before }

  -- the nodes that the code reads
  module _ (nodes : List Node) (read : nodes ≡ map node_of_line ns) where
    abbrev taken : HeldEntry
    taken = record { thread = word line 1; segment = record { place = word line 3; nodes = nodes } }

    same : taken ≡ e
    same = let all : take (word line 4) ns ≡ ns = take_all (word line 4) ns (omega arith) in
        let p : nodes ≡ map node_of_line (take (word line 4) ns) = read ∙ ap (λ (l : List (List ℕ)). map node_of_line l) (sym all) in
        λ i. record { thread = word line 1; segment = record { place = word line 3; nodes = p i } }

    -- it has a fault against what is held
    pub has_fault : (d : LogHead) (z : LogTail) (begins : ℕ) (f : FeedFault) → byte_at at ≡ begins → is_entry (get_or heads (word line 1) d) (get_or old.logs (word line 1) z).entries line ns ≡ true
        → entry_fault es begins taken ≡ Some f → StopsAtCourse b start (at + suc (length ns)) (entries_course b heads es at 0 (line ∷ ns)) f old
    has_fault d z begins f is test fault =
        let k : is_whole (head_named heads line) (before_it es line) line ns ≡ true = sym (whole_test d z) ∙ test in
        let g : entry_fault es (byte_at at) e ≡ Some f = (λ i. entry_fault es (is i) (sym same i)) ∙ fault in
        let c : entries_course b heads es at 0 (line ∷ ns) ≡ record { entries = es; nodes = nodes_followed b (length heads) es; shown = Some (record { fault = f; lines = at + suc (length ns) }); rest = [] } =
        course_is ∙ (λ i. stepped b heads true true (k i) es e at (ends i) (g i) (node_fault b (length heads) (es ++ e ∷ [])) (line ∷ ns) (waits b heads (es ++ e ∷ []) [])) in
        subst (λ (z : Course). StopsAtCourse b start (at + suc (length ns)) z f old) (sym c) record { shown = refl; held = keeps.held; applied = applied_before }

    -- it has none
    pub has_none : (d : LogHead) (z : LogTail) (begins : ℕ) (result : Result (Unit {0}) FeedFault) (new : Holdings State Op Query Reply) → byte_at at ≡ begins
        → is_entry (get_or heads (word line 1) d) (get_or old.logs (word line 1) z).entries line ns ≡ true
        → entry_fault es begins taken ≡ None → HasAdmitted b start (length heads) es taken result new
        → TookEntry b start heads at (line ∷ ns) (entries_course b heads es at 0 (line ∷ ns)) result new
    has_none d z begins result new is test fault admits = ends_so result (subst (λ (z : HeldEntry). HasAdmitted b start (length heads) es z result new) same admits)
      where
        k : is_whole (head_named heads line) (before_it es line) line ns ≡ true
        k = sym (whole_test d z) ∙ test

        none : entry_fault es (byte_at at) e ≡ None
        none = (λ i. entry_fault es (is i) (sym same i)) ∙ fault

        ends_so : (r : Result (Unit {0}) FeedFault) → HasAdmitted b start (length heads) es e r new → TookEntry b start heads at (line ∷ ns) (entries_course b heads es at 0 (line ∷ ns)) r new
        ends_so (Ok u) a =
            let g = a.clean in
            let c : entries_course b heads es at 0 (line ∷ ns) ≡ waits b heads (es ++ e ∷ []) [] =
            course_is ∙ (λ i. stepped b heads true true (k i) es e at (at + suc (word line 4)) (none i) (g i) (line ∷ ns) (waits b heads (es ++ e ∷ []) [])) in
            subst (λ (z : Course). FollowsCourse b start heads z new × (z.rest ≡ [])) (sym c) (record { shown = refl; nodes = refl; keeps = a }, refl)
        ends_so (Err f) a =
            let g = a.fault in
            let c : entries_course b heads es at 0 (line ∷ ns) ≡ record { entries = es; nodes = nodes_followed b (length heads) (es ++ e ∷ []); shown = Some (record { fault = f; lines = at + suc (length ns) }); rest = [] } =
            course_is ∙ (λ i. stepped b heads true true (k i) es e at (ends i) (none i) (g i) (line ∷ ns) (waits b heads (es ++ e ∷ []) [])) in
            subst (λ (z : Course). StopsAtCourse b start (at + suc (length ns)) z f new) (sym c) record { shown = refl; held = a.held; applied = a.applied }

-- ---- the test that the code makes of a header line
get_same : {A : Type 0} (xs : List A) (i : ℕ) (d e : A) → i < length xs → get_or xs i d ≡ get_or xs i e
get_same [] i d e l = absurd (omega arith)
get_same (x ∷ xs) zero d e l = refl
get_same (x ∷ xs) (suc i) d e l = get_same xs i d e (omega arith)

pub threads_of : (heads : List LogHead) (i : ℕ) (h : LogHead) → AreStreamHeads heads → slice_get heads i ≡ Some h → h.threads ≤ most_threads
threads_of heads i h are e = let n = (head_at 0 (length heads) heads i h are.numbered e).1 in let f = are.few_heads in omega arith

pub opens_some : (heads : List LogHead) (logs : List LogTail) (line : List ℕ) (h : LogHead) (z d : LogTail) → AreStreamHeads heads → length logs ≡ most_threads → slice_get heads (word line 1) ≡ Some h
    → Rattle.onll_standby.specs.Stream.is_header h (get_or logs (word line 1) z).entries line ≡ opens (head_named heads line) (get_or logs (word line 1) d).entries line
opens_some heads logs line h z d are many e =
    let l = inside heads (word line 1) h e in let f = are.few_heads in
    ap (λ (t : LogTail). opens (Some h) t.entries line) (get_same logs (word line 1) z d (omega arith)) ∙ ap (λ (o : Option LogHead). opens o (get_or logs (word line 1) d).entries line) (sym e)

pub opens_none : (heads : List LogHead) (logs : List LogTail) (line : List ℕ) (d : LogTail) → slice_get heads (word line 1) ≡ None → false ≡ opens (head_named heads line) (get_or logs (word line 1) d).entries line
opens_none heads logs line d e = ap (λ (o : Option LogHead). opens o (get_or logs (word line 1) d).entries line) (sym e)

-- the object stands after the nodes that are followed
pub stands_after : {State Op Query Reply : Type 0} (b : Behaviour State Op Query Reply) (start : State) (heads : List LogHead) (c : Course) (h : Holdings State Op Query Reply) → FollowsCourse b start heads c h → StandsAfter b start c.nodes h.applied
stands_after b start heads c h held = subst (λ (ns : List Node). StandsAfter b start ns h.applied) (sym (held.nodes ∙ followed-all b [] (covered (length heads) c.entries) held.keeps.clean)) held.keeps.applied
