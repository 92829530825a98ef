-- A follower after one line more.
use Rattle.std.proofs.Common.{◌≡◌, ℕ, zero, suc, ◌+◌, ◌-◌, ◌*◌, ◌<◌, ◌≤◌, ◌==◌, Bool, true, false, List, [], ◌∷◌, ◌++◌, length, get_or, sym, refl, ap, subst, ◌∙◌, arith, Option, Some, None, length-append, eq-eqb, eqb-true, true≢false}
use Rattle.std.specs.Prelude.{Result, Ok, Err, MatchResult, OnOk, IfErr}
use Rattle.std.specs.List.{slice_get}
use Rattle.onll_words.specs.declared.line.Line.{Line}
use Rattle.onll_pmem.specs.Pmem.{words_of}
use Rattle.onll_model.specs.declared.node.Node.{Node}
use Rattle.onll_model.specs.Object.{Behaviour}
use Rattle.onll_model.proofs.Lists.{inside}
use Rattle.onll_log.specs.declared.head.LogHead.{LogHead}
use Rattle.onll_log.specs.Head.{word, head_line}
use Rattle.onll_log.specs.Grammar.{same_words}
use Rattle.onll_standby.specs.declared.fault.FeedFault.{FeedFault}
use Rattle.onll_standby.specs.declared.fault.FeedFault.TheVariants.{NotThisRun, Refused}
use Rattle.onll_standby.specs.declared.holdings.LogTail.{LogTail}
use Rattle.onll_standby.specs.declared.holdings.Holdings.{Holdings}
use Rattle.onll_standby.specs.declared.follower.Follower.{Follower}
use Rattle.onll_standby.specs.Held.{HeldEntry, node_held, nodes_from, greatest_place, covered, nodes_followed}
use Rattle.onll_standby.specs.Applied.{StandsAfter}
use Rattle.onll_standby.specs.Holdings.{KeepsEntries}
use Rattle.onll_standby.specs.Stream.{AreStreamHeads, Course, opens, head_named, before_it, byte_at, waits, shows, entries_course, lines_course}
use Rattle.onll_standby.specs.Entry.{EntryBegins, FollowsCourse, StopsAtCourse, TookEntry}
use Rattle.onll_standby.specs.Follower.{EntryHasBegun, IsWholeEntry, IsFollower, FollowsLines, LineUncounted}
use Rattle.onll_standby.proofs.Lining.{heads_course, head_more, head_foreign, line_more, opened_course, refused_course, unfinished_course}
use Rattle.onll_standby.proofs.OneMore.{followed-all}
use Rattle.onll_standby.proofs.Taking.{header_by}

pub empty_nodes : (k : ℕ) → nodes_from (node_held []) k 1 ≡ []
empty_nodes zero = refl
empty_nodes (suc k) = refl

-- before the first line
pub begins_at : {State Op Query Reply : Type 0} (b : Behaviour State Op Query Reply) (start : State) (heads : List LogHead) (f : Follower State Op Query Reply) → AreStreamHeads heads → f.heads.items ≡ heads
    → f.lines ≡ 0 → f.entry ≡ [] → f.fault ≡ None → KeepsEntries b start (length heads) [] f.holdings → FollowsLines b start heads [] f
begins_at b start heads f are same none empty clean keeps =
    let c : lines_course b heads [] ≡ waits b heads [] [] = first heads in
    record {
      same = same;
      lines = none;
      held = subst (λ (z : Course). FollowsCourse b start heads z f.holdings) (sym c) record { shown = refl; nodes = refl; keeps = keeps };
      entry = empty ∙ ap (λ (z : Course). z.rest) (sym c);
      begins = λ x r q. absurd (let k = sym empty ∙ q in (cc));
      within = (let k = ap (λ (z : List (List ℕ)). length z) empty in omega arith);
      fault = clean;
    }
  where
    first : (hs : List LogHead) → lines_course b hs [] ≡ waits b hs [] []
    first [] = refl
    first (h ∷ hs) = refl

module _ {State Op Query Reply : Type 0} (b : Behaviour State Op Query Reply) (start : State) (heads : List LogHead) (ls : List (List ℕ)) (l : List ℕ)
    (old : Follower State Op Query Reply) (is : FollowsLines b start heads ls old) where
  abbrev now : Course
  now = lines_course b heads ls

  abbrev all : List (List ℕ)
  all = ls ++ l ∷ []

  one_more : length all ≡ length ls + 1
  one_more = length-append ls (l ∷ [])

  -- ---- header lines of logs
  pub head_taken : (d : LogHead) → length ls < length heads → same_words l (head_line (get_or heads (length ls) d)) ≡ true → FollowsLines b start heads all (record old { lines = old.lines + 1 })
  head_taken d few same =
      let h = heads_course b heads ls l is.held.shown (omega arith) in
      let c = head_more b heads ls l is.held.shown d few same in
      let n = is.lines in let m = one_more in
      let e : old.entry ≡ [] = is.entry ∙ ap (λ (z : Course). z.rest) h in
      record {
        same = is.same;
        lines = omega arith;
        held = subst (λ (z : Course). FollowsCourse b start heads z old.holdings) (h ∙ sym c) is.held;
        entry = e ∙ ap (λ (z : Course). z.rest) (sym c);
        begins = λ x r q. absurd (let k = sym e ∙ q in (cc));
        within = (let w = is.within in omega arith);
        fault = is.fault;
      }

  pub head_refused : (d : LogHead) → length ls < length heads → same_words l (head_line (get_or heads (length ls) d)) ≡ false → StopsAtCourse b start (length all) (lines_course b heads all) (NotThisRun old.lines) old.holdings
  head_refused d few other =
      let h = heads_course b heads ls l is.held.shown (omega arith) in
      let c = head_foreign b heads ls l is.held.shown d few other in
      let n = is.lines in let m = one_more in
      let keeps : KeepsEntries b start (length heads) [] old.holdings = subst (λ (z : Course). KeepsEntries b start (length heads) z.entries old.holdings) h is.held.keeps in
      subst (λ (z : Course). StopsAtCourse b start (length all) z (NotThisRun old.lines) old.holdings) (sym c) record {
        shown = λ i. Some (record { fault = NotThisRun (sym n i); lines = sym m i });
        held = keeps.held;
        applied = subst (λ (ns : List Node). StandsAfter b start ns old.holdings.applied) (empty_nodes (greatest_place (length heads))) keeps.applied;
      }

  -- ---- entries
  module _ (enough : length heads ≤ length ls) where
    abbrev es : List HeldEntry
    es = now.entries

    abbrev at : ℕ
    at = length ls - length old.entry

    -- the course of all lines is that of the unfinished entry with the line
    goes : lines_course b heads all ≡ entries_course b heads es at 0 (old.entry ++ l ∷ [])
    goes = line_more b heads ls l is.held.shown enough ∙ ap (λ (r : List (List ℕ)). entries_course b heads es (length ls - length r) 0 (r ++ l ∷ [])) (sym is.entry)

    -- a line begins an entry
    pub header_taken : old.entry ≡ [] → 1 ≤ word l 4 → opens (head_named heads l) (before_it es l) l ≡ true → FollowsLines b start heads all (record old { lines = old.lines + 1; entry = l ∷ []; begins = 64 * old.lines })
    header_taken empty some o =
        let at_is : at ≡ length ls = (let k = ap (λ (r : List (List ℕ)). length r) empty in omega arith) in
        let c : lines_course b heads all ≡ waits b heads es (l ∷ []) = goes ∙ (ap (λ (r : List (List ℕ)). entries_course b heads es at 0 (r ++ l ∷ [])) empty ∙ opened_course b heads es at l some o) in
        let n = is.lines in let m = one_more in
        record {
          same = is.same;
          lines = omega arith;
          held = subst (λ (z : Course). FollowsCourse b start heads z old.holdings) (sym c) record { shown = refl; nodes = refl; keeps = is.held.keeps };
          entry = ap (λ (z : Course). z.rest) (sym c);
          begins = λ x r q. let k : length ls ≡ length all - 1 = omega arith in ap (λ (j : ℕ). 64 * j) (n ∙ k);
          within = omega arith;
          fault = is.fault;
        }

    applied_before : StandsAfter b start (nodes_followed b (length heads) es) old.holdings.applied
    applied_before = subst (λ (ns : List Node). StandsAfter b start ns old.holdings.applied) (sym (followed-all b [] (covered (length heads) es) is.held.keeps.clean)) is.held.keeps.applied

    pub header_refused : old.entry ≡ [] → opens (head_named heads l) (before_it es l) l ≡ false → StopsAtCourse b start (length all) (lines_course b heads all) (Refused (64 * old.lines)) old.holdings
    header_refused empty o =
        let at_is : at ≡ old.lines = (let k = ap (λ (r : List (List ℕ)). length r) empty in let n = is.lines in omega arith) in
        let ends : at + 1 ≡ length all = (let n = is.lines in let m = one_more in omega arith) in
        let c : lines_course b heads all ≡ shows b heads es (nodes_followed b (length heads) es) (Refused (64 * at)) (at + 1) = goes ∙ (ap (λ (r : List (List ℕ)). entries_course b heads es at 0 (r ++ l ∷ [])) empty ∙ refused_course b heads es at l o) in
        subst (λ (z : Course). StopsAtCourse b start (length all) z (Refused (64 * old.lines)) old.holdings) (sym c) record {
          shown = λ i. Some (record { fault = Refused (64 * at_is i); lines = ends i });
          held = is.held.keeps.held;
          applied = applied_before;
        }

    -- a line goes on with an entry, which is not whole yet
    pub node_taken : (h : List ℕ) (r : List (List ℕ)) → old.entry ≡ h ∷ r → length r + 1 < word h 4 → opens (head_named heads h) (before_it es h) h ≡ true
        → FollowsLines b start heads all (record old { lines = old.lines + 1; entry = old.entry ++ l ∷ [] })
    node_taken h r begun few o =
        let k : length (r ++ l ∷ []) < word h 4 = (let j = length-append r (l ∷ []) in omega arith) in
        let c : lines_course b heads all ≡ waits b heads es (h ∷ (r ++ l ∷ [])) = goes ∙ (ap (λ (z : List (List ℕ)). entries_course b heads es at 0 (z ++ l ∷ [])) begun ∙ unfinished_course b heads es at h (r ++ l ∷ []) k o) in
        let n = is.lines in let m = one_more in let j = length-append old.entry (l ∷ []) in
        record {
          same = is.same;
          lines = omega arith;
          held = subst (λ (z : Course). FollowsCourse b start heads z old.holdings) (sym c) record { shown = refl; nodes = refl; keeps = is.held.keeps };
          entry = ap (λ (z : List (List ℕ)). z ++ l ∷ []) begun ∙ ap (λ (z : Course). z.rest) (sym c);
          begins = λ x y q. let k : length ls - length old.entry ≡ length all - length (old.entry ++ l ∷ []) = omega arith in is.begins h r begun ∙ ap (λ (p : ℕ). 64 * p) k;
          within = (let w = is.within in omega arith);
          fault = is.fault;
        }

    -- a line makes an entry whole
    pub entry_taken : (h : List ℕ) (r : List (List ℕ)) → old.entry ≡ h ∷ r → (result : Result (Unit {0}) FeedFault) (new : Holdings State Op Query Reply)
        → TookEntry b start heads at (h ∷ (r ++ l ∷ [])) (entries_course b heads es at 0 (h ∷ (r ++ l ∷ []))) result new
        → MatchResult result (λ _. FollowsLines b start heads all (record old { lines = old.lines + 1; entry = []; holdings = new })) (λ f. StopsAtCourse b start (length all) (lines_course b heads all) f new)
    entry_taken h r begun result new took = so result took
      where
        c : lines_course b heads all ≡ entries_course b heads es at 0 (h ∷ (r ++ l ∷ []))
        c = goes ∙ ap (λ (z : List (List ℕ)). entries_course b heads es at 0 (z ++ l ∷ [])) begun

        ends : at + length (h ∷ (r ++ l ∷ [])) ≡ length all
        ends = let k = ap (λ (z : List (List ℕ)). length z) begun in let j = length-append r (l ∷ []) in let m = one_more in let w = is.within in omega arith

        so : (x : Result (Unit {0}) FeedFault) → TookEntry b start heads at (h ∷ (r ++ l ∷ [])) (entries_course b heads es at 0 (h ∷ (r ++ l ∷ []))) x new
            → MatchResult x (λ _. FollowsLines b start heads all (record old { lines = old.lines + 1; entry = []; holdings = new })) (λ f. StopsAtCourse b start (length all) (lines_course b heads all) f new)
        so (Ok u) t = let n = is.lines in let m = one_more in record {
          same = is.same;
          lines = omega arith;
          held = subst (λ (z : Course). FollowsCourse b start heads z new) (sym c) t.0;
          entry = sym t.1 ∙ ap (λ (z : Course). z.rest) (sym c);
          begins = λ x y q. absurd (cc);
          within = omega arith;
          fault = is.fault;
        }
        so (Err f) t = subst (λ (k : ℕ). StopsAtCourse b start k (lines_course b heads all) f new) ends
            (subst (λ (z : Course). StopsAtCourse b start (at + length (h ∷ (r ++ l ∷ []))) z f new) (sym c) t)

-- the header line of an unfinished entry can begin it, by what is held
pub opened_by : {State Op Query Reply : Type 0} (b : Behaviour State Op Query Reply) (start : State) (heads : List LogHead) (es : List HeldEntry) (h : Holdings State Op Query Reply) (line : List ℕ) → AreStreamHeads heads
    → EntryBegins heads h.logs line → KeepsEntries b start (length heads) es h → opens (head_named heads line) (before_it es line) line ≡ true
opened_by b start heads es h line are begun keeps =
    let d : LogTail = record { entries = 0; last = 0 } in
    let k = header_by heads h.logs line are begun in let l = k.thread in let m = k.few_threads in
    let n : (get_or h.logs (word line 1) d).entries ≡ before_it es line = ap (λ (t : LogTail). t.entries) (keeps.logs (word line 1) d (omega arith)) in
    subst (λ (j : ℕ). opens (head_named heads line) j line ≡ true) n (begun d)

-- ---- the line of an unfinished entry
-- whether it makes the entry whole
eq_false : (m n : ℕ) → false ≡ (m == n) → m ≡ n → ⊥
eq_false m n e q = true≢false (sym (eq-eqb m n q) ∙ sym e)

module _ {State Op Query Reply : Type 0} (old : Follower State Op Query Reply) (l : List ℕ) (ready : IsFollower old) (some : 1 ≤ length old.entry) (last : Bool)
    (tells : (h : List ℕ) (r : List (List ℕ)) → old.entry ≡ h ∷ r → last ≡ (length r + 1 == word h 4)) where
  abbrev Begun : List (List ℕ) → Type 0
  Begun entry = EntryHasBegun old.heads.items old.holdings.logs entry

  pub few_lines : length old.entry < 17
  few_lines = by_entry old.entry refl some
    where
      by_entry : (entry : List (List ℕ)) → old.entry ≡ entry → 1 ≤ length old.entry → length old.entry < 17
      by_entry [] is many = absurd (let n = ap (λ (z : List (List ℕ)). length z) is in let f : ⊥ = omega arith in f)
      by_entry (h ∷ r) is many = let b = subst Begun is ready.entry in let n = ap (λ (z : List (List ℕ)). length z) is in
          let k = header_by old.heads.items old.holdings.logs h ready.heads b.0 in let w = b.1 in let f = k.few_nodes in let t = k.few_threads in omega arith

  pub still_begun : last ≡ false → EntryHasBegun old.heads.items old.holdings.logs (old.entry ++ l ∷ [])
  still_begun e = by_entry old.entry refl ready.entry some
    where
      by_entry : (entry : List (List ℕ)) → old.entry ≡ entry → Begun old.entry → 1 ≤ length old.entry → Begun (old.entry ++ l ∷ [])
      by_entry [] is are many = absurd (let n = ap (λ (z : List (List ℕ)). length z) is in let f : ⊥ = omega arith in f)
      by_entry (h ∷ r) is are many = let b = subst Begun is are in let n = eq_false (length r + 1) (word h 4) (sym e ∙ tells h r is) in let w = b.1 in let k = length-append r (l ∷ []) in
          subst (λ (z : List (List ℕ)). Begun (z ++ l ∷ [])) (sym is) (b.0, omega arith)

  pub whole_then : last ≡ true → IsWholeEntry old.heads.items old.holdings.logs (old.entry ++ l ∷ [])
  whole_then e = by_entry old.entry refl ready.entry some
    where
      by_entry : (entry : List (List ℕ)) → old.entry ≡ entry → Begun old.entry → 1 ≤ length old.entry → IsWholeEntry old.heads.items old.holdings.logs (old.entry ++ l ∷ [])
      by_entry [] is are many = absurd (let n = ap (λ (z : List (List ℕ)). length z) is in let f : ⊥ = omega arith in f)
      by_entry (h ∷ r) is are many = let b = subst Begun is are in let n = eqb-true (length r + 1) (word h 4) (sym (tells h r is) ∙ e) in let k = length-append r (l ∷ []) in
          subst (λ (z : List (List ℕ)). IsWholeEntry old.heads.items old.holdings.logs (z ++ l ∷ [])) (sym is) (b.0, omega arith)

  module _ (b : Behaviour State Op Query Reply) (start : State) (heads : List LogHead) (ls : List (List ℕ)) (is : FollowsLines b start heads ls old) (enough : length heads ≤ length ls) where
    opened : (h : List ℕ) (r : List (List ℕ)) → old.entry ≡ h ∷ r → opens (head_named heads h) (before_it (lines_course b heads ls).entries h) h ≡ true
    opened h r e =
        let begun : EntryBegins old.heads.items old.holdings.logs h = (subst Begun e ready.entry).0 in
        opened_by b start heads (lines_course b heads ls).entries old.holdings h (subst AreStreamHeads is.same ready.heads)
        (subst (λ (hs : List LogHead). EntryBegins hs old.holdings.logs h) is.same begun) is.held.keeps

    pub node_more : last ≡ false → FollowsLines b start heads (ls ++ l ∷ []) (record old { lines = old.lines + 1; entry = old.entry ++ l ∷ [] })
    node_more e = by_entry old.entry refl
      where
        by_entry : (entry : List (List ℕ)) → old.entry ≡ entry → FollowsLines b start heads (ls ++ l ∷ []) (record old { lines = old.lines + 1; entry = old.entry ++ l ∷ [] })
        by_entry [] k = absurd (let n = ap (λ (z : List (List ℕ)). length z) k in let f : ⊥ = omega arith in f)
        by_entry (h ∷ r) k = let few = (subst Begun k ready.entry).1 in let n = eq_false (length r + 1) (word h 4) (sym e ∙ tells h r k) in
            node_taken b start heads ls l old is enough h r k (omega arith) (opened h r k)

    pub node_last : (result : Result (Unit {0}) FeedFault) (new : Holdings State Op Query Reply)
        → ((es : List HeldEntry) (at : ℕ) → byte_at at ≡ old.begins → KeepsEntries b start (length old.heads.items) es old.holdings
        → TookEntry b start old.heads.items at (old.entry ++ l ∷ []) (entries_course b old.heads.items es at 0 (old.entry ++ l ∷ [])) result new)
        → LineUncounted b start heads (ls ++ l ∷ []) result (record old { entry = []; holdings = new })
    node_last result new took = by_entry old.entry refl
      where
        at : ℕ
        at = length ls - length old.entry

        by_entry : (entry : List (List ℕ)) → old.entry ≡ entry → LineUncounted b start heads (ls ++ l ∷ []) result (record old { entry = []; holdings = new })
        by_entry [] k = absurd (let n = ap (λ (z : List (List ℕ)). length z) k in let f : ⊥ = omega arith in f)
        by_entry (h ∷ r) k =
            let es : List HeldEntry = (lines_course b heads ls).entries in
            let keeps : KeepsEntries b start (length old.heads.items) es old.holdings = subst (λ (hs : List LogHead). KeepsEntries b start (length hs) es old.holdings) (sym is.same) is.held.keeps in
            let t = took es at (sym (is.begins h r k)) keeps in
            let u : TookEntry b start heads at (old.entry ++ l ∷ []) (entries_course b heads es at 0 (old.entry ++ l ∷ [])) result new =
            subst (λ (hs : List LogHead). TookEntry b start hs at (old.entry ++ l ∷ []) (entries_course b hs es at 0 (old.entry ++ l ∷ [])) result new) is.same t in
            let v : TookEntry b start heads at (h ∷ (r ++ l ∷ [])) (entries_course b heads es at 0 (h ∷ (r ++ l ∷ []))) result new =
            subst (λ (z : List (List ℕ)). TookEntry b start heads at (z ++ l ∷ []) (entries_course b heads es at 0 (z ++ l ∷ [])) result new) k u in
            entry_taken b start heads ls l old is enough h r k result new v

-- ---- one line
module _ {State Op Query Reply : Type 0} (b : Behaviour State Op Query Reply) (start : State) (heads : List LogHead) (ls : List (List ℕ)) (l : List ℕ)
    (old : Follower State Op Query Reply) (is : FollowsLines b start heads ls old) where
  heads_many : length old.heads.items ≡ length heads
  heads_many = ap (λ (z : List LogHead). length z) is.same

  asked : (d : LogHead) → same_words l (head_line (get_or old.heads.items old.lines d)) ≡ same_words l (head_line (get_or heads (length ls) d))
  asked d = let n = is.lines in λ i. same_words l (head_line (get_or (is.same i) (n i) d))

  -- the header line of a log
  pub takes_head : (d : LogHead) → old.lines < length old.heads.items → (result : Result (Unit {0}) FeedFault) → OnOk result (same_words l (head_line (get_or old.heads.items old.lines d)) ≡ true)
      → IfErr result (λ e. (e ≡ NotThisRun old.lines) × (same_words l (head_line (get_or old.heads.items old.lines d)) ≡ false)) → LineUncounted b start heads (ls ++ l ∷ []) result old
  takes_head d low (Ok u) opened no_ = let n = is.lines in let m = heads_many in head_taken b start heads ls l old is d (omega arith) (sym (asked d) ∙ opened)
  takes_head d low (Err e) opened no_ = let n = is.lines in let m = heads_many in
      subst (λ (z : FeedFault). StopsAtCourse b start (length (ls ++ l ∷ [])) (lines_course b heads (ls ++ l ∷ [])) z old.holdings) (sym no_.0) (head_refused b start heads ls l old is d (omega arith) (sym (asked d) ∙ no_.1))

  -- the header line of an entry
  module _ (ready : IsFollower old) (empty : old.entry ≡ []) (enough : length old.heads.items ≤ old.lines) where
    tail : (h : LogHead) → slice_get heads (word l 1) ≡ Some h → (d : LogTail) → (get_or old.holdings.logs (word l 1) d).entries ≡ before_it (lines_course b heads ls).entries l
    tail h e d = let n = inside heads (word l 1) h e in let f = ready.heads.few_heads in let m = heads_many in ap (λ (t : LogTail). t.entries) (is.held.keeps.logs (word l 1) d (omega arith))

    -- the test that the code makes is that of the course
    opens_is : (d : LogTail) → opens (head_named old.heads.items l) (get_or old.holdings.logs (word l 1) d).entries l ≡ opens (head_named heads l) (before_it (lines_course b heads ls).entries l) l
    opens_is d = ap (λ (hs : List LogHead). opens (head_named hs l) (get_or old.holdings.logs (word l 1) d).entries l) is.same ∙ by_named (slice_get heads (word l 1)) refl
      where
        by_named : (o : Option LogHead) → slice_get heads (word l 1) ≡ o → opens (head_named heads l) (get_or old.holdings.logs (word l 1) d).entries l ≡ opens (head_named heads l) (before_it (lines_course b heads ls).entries l) l
        by_named None e = ap (λ (o : Option LogHead). opens o (get_or old.holdings.logs (word l 1) d).entries l) e ∙ sym (ap (λ (o : Option LogHead). opens o (before_it (lines_course b heads ls).entries l) l) e)
        by_named (Some h) e = ap (λ (k : ℕ). opens (head_named heads l) k l) (tail h e d)

    pub takes_header : (result : Result (Unit {0}) FeedFault) (new : Follower State Op Query Reply) → ((d : LogTail) → OnOk result (opens (head_named old.heads.items l) (get_or old.holdings.logs (word l 1) d).entries l ≡ true))
        → OnOk result (new ≡ record old { entry = l ∷ []; begins = 64 * old.lines })
        → ((d : LogTail) → IfErr result (λ e. (e ≡ Refused (64 * old.lines)) × (opens (head_named old.heads.items l) (get_or old.holdings.logs (word l 1) d).entries l ≡ false)))
        → IfErr result (λ _. new ≡ old) → LineUncounted b start heads (ls ++ l ∷ []) result new
    takes_header (Ok u) new opened begun no_ stays =
        let z : LogTail = record { entries = 0; last = 0 } in
        let n = is.lines in let m = heads_many in
        let some = (header_by old.heads.items old.holdings.logs l ready.heads opened).some_nodes in
        subst (λ (f : Follower State Op Query Reply). FollowsLines b start heads (ls ++ l ∷ []) (record f { lines = f.lines + 1 })) (sym begun)
        (header_taken b start heads ls l old is (omega arith) empty some (sym (opens_is z) ∙ opened z))
    takes_header (Err e) new opened begun no_ stays =
        let z : LogTail = record { entries = 0; last = 0 } in
        let n = is.lines in let m = heads_many in
        subst (λ (f : Follower State Op Query Reply). StopsAtCourse b start (length (ls ++ l ∷ [])) (lines_course b heads (ls ++ l ∷ [])) e f.holdings) (sym stays)
        (subst (λ (x : FeedFault). StopsAtCourse b start (length (ls ++ l ∷ [])) (lines_course b heads (ls ++ l ∷ [])) x old.holdings) (sym (no_ z).0)
        (header_refused b start heads ls l old is (omega arith) empty (sym (opens_is z) ∙ (no_ z).1)))

-- a line that begins an entry leaves a ready follower
module _ {State Op Query Reply : Type 0} (old : Follower State Op Query Reply) (l : List ℕ) (ready : IsFollower old) (empty : old.entry ≡ []) (enough : length old.heads.items ≤ old.lines) where
  pub header_ready : (result : Result (Unit {0}) FeedFault) (new : Follower State Op Query Reply) → ((d : LogTail) → OnOk result (opens (head_named old.heads.items l) (get_or old.holdings.logs (word l 1) d).entries l ≡ true))
      → OnOk result (new ≡ record old { entry = l ∷ []; begins = 64 * old.lines }) → IfErr result (λ _. new ≡ old) → IsFollower (record new { lines = new.lines + 1 })
  header_ready (Ok u) new opened begun stays =
      let some = (header_by old.heads.items old.holdings.logs l ready.heads opened).some_nodes in let f = ready.few in
      subst (λ (z : Follower State Op Query Reply). IsFollower (record z { lines = z.lines + 1 })) (sym begun)
      record { heads = ready.heads; entry = (opened, omega arith); few = omega arith; room = ready.room }
  header_ready (Err e) new opened begun stays = let f = ready.few in
      subst (λ (z : Follower State Op Query Reply). IsFollower (record z { lines = z.lines + 1 })) (sym stays) record { heads = ready.heads; entry = ready.entry; few = omega arith; room = ready.room }

pub no_lines : (ls : List Line) (entry : List (List ℕ)) → words_of ls ≡ entry → length ls ≡ 0 → entry ≡ []
no_lines [] entry e n = sym e
no_lines (x ∷ ls) entry e n = absurd (omega arith)
