use Rattle.std.proofs.Common.{ℕ, List, length, arith, rules, ap, sym, subst, ◌≡◌, ◌+◌, ◌∙◌}
use Rattle.std.proofs.lemmas.List.Elements.{All-cons}
use Rattle.std.proofs.lemmas.List.{length-drop, append-nil}
use Rattle.std.specs.List.{All, AllByRecursion}
use Rattle.onll_model.specs.Segment.{Segment}
use Rattle.onll_log.specs.Grammar.{Content, used_by, used_with}
use Rattle.onll_log.specs.Cursor.{CursorState, entries_left, lines_passed, first_nodes}
use Rattle.onll_log.proofs.Cursors.{viewed, not_viewed, gone_on, all_gone}
use Rattle.onll_text.specs.Bytes.{with_lines}
use Rattle.onll_jobs.specs.ShowJob.{entries_lines, entry_lines, EntryReads, IsPlacedEntry}
use Rattle.onll_jobs.proofs.ShowWords.{entry_lines_more, segment_same}
use Rattle.onll_jobs.proofs.show.put_entries.Goals as goal

pub put_entry-requires-clause-count : goal.put_entry-requires-clause-count
put_entry-requires-clause-count c =
    let cur = c.loop-entry.cursor in
    let v = viewed (lines_passed cur) (entries_left cur) c.in-Some.entry (sym c.in-Some.is ∙ c.peek.ensures) in
    v.count ∙ ap (λ (ss : List Segment). length (first_nodes ss)) (sym v.split)

pub put_entry-requires-clause-placed : goal.put_entry-requires-clause-placed
put_entry-requires-clause-placed c =
    let cur = c.loop-entry.cursor in
    let v = viewed (lines_passed cur) (entries_left cur) c.in-Some.entry (sym c.in-Some.is ∙ c.peek.ensures) in
    let placed = (subst (AllByRecursion IsPlacedEntry) v.split c.loop-entry.invariant.placed).0 in
    omega (arith, v.place, v.count, placed)

pub loop-entry-preserved : goal.loop-entry-preserved
loop-entry-preserved c =
    let all = c.args.cursor.now.content.entries in
    let cur = c.loop-entry.cursor in
    let n = cur.passed in
    let out = c.loop-entry.out in
    let new = c.put_entry.new.out in
    let e = c.in-Some.entry in
    let v = viewed (lines_passed cur) (entries_left cur) e (sym c.in-Some.is ∙ c.peek.ensures) in
    let same = c.loop-entry.invariant.same in
    let g = gone_on cur.content.entries n v.s v.more v.split in
    let shown : Segment = record { place = e.place; nodes = first_nodes (entries_left cur) } in
    let is : shown ≡ v.s = segment_same shown v.s v.place (ap first_nodes v.split) in
    let left : entries_left c.advance.new.self ≡ v.more = ap entries_left c.advance.ensures ∙ g.left in
    let passed : c.advance.new.self.passed ≡ n + 1 = ap (λ (x : CursorState). x.passed) c.advance.ensures in
    let there = g.there in
    let number : c.passed.result + 1 ≡ n + 1 = ap (λ (k : ℕ). k + 1) c.passed.ensures.count in
    let line = c.in_ok-put_entry.ensures.lines ∙ (ap (λ (k : ℕ). with_lines out (entry_lines k shown)) number ∙ ap (λ (s : Segment). with_lines out (entry_lines (n + 1) s)) is) in
    record {
      most = omega (arith, passed, there, ap (λ (x : Content). length x.entries) same);
      same = ap (λ (x : CursorState). x.content) c.advance.ensures ∙ same;
      lines = ap (λ (k : ℕ). with_lines new (entries_lines k (entries_left c.advance.new.self))) passed
          ∙ (ap (λ (ss : List Segment). with_lines new (entries_lines (n + 1) ss)) left
          ∙ (entry_lines_more out new n v.s v.more line
          ∙ (ap (λ (ss : List Segment). with_lines out (entries_lines n ss)) (sym v.split) ∙ c.loop-entry.invariant.lines)));
      begins = c.in_ok-put_entry.ensures.begins;
      placed = subst (AllByRecursion IsPlacedEntry) (sym left) (subst (AllByRecursion IsPlacedEntry) v.split c.loop-entry.invariant.placed).1;
      reads = λ rest. c.loop-entry.invariant.reads (subst (All EntryReads) (sym v.split)
          (All-cons EntryReads v.s v.more (subst EntryReads is c.in_ok-put_entry.ensures.reads) (subst (All EntryReads) left rest)));
    }

pub returns-clause-passed : goal.returns-clause-passed
returns-clause-passed c =
    let cur = c.loop-entry.cursor in
    let none = not_viewed (lines_passed cur) (entries_left cur) (sym c.in_default.is ∙ c.peek.ensures) in
    let most = c.loop-entry.invariant.most in
    omega (arith, length-drop cur.passed cur.content.entries, ap length none, ap (λ (x : Content). length x.entries) c.loop-entry.invariant.same, most)

pub returns-clause-used : goal.returns-clause-used
returns-clause-used c =
    let cur = c.loop-entry.cursor in
    let none = not_viewed (lines_passed cur) (entries_left cur) (sym c.in_default.is ∙ c.peek.ensures) in
    ap (used_with cur.content.head) (all_gone cur.content.entries cur.passed none) ∙ ap used_by c.loop-entry.invariant.same

pub returns-clause-lines : goal.returns-clause-lines
returns-clause-lines c =
    let cur = c.loop-entry.cursor in
    let none = not_viewed (lines_passed cur) (entries_left cur) (sym c.in_default.is ∙ c.peek.ensures) in
    sym (append-nil c.loop-entry.out)
    ∙ (ap (λ (ss : List Segment). with_lines c.loop-entry.out (entries_lines cur.passed ss)) (sym none) ∙ c.loop-entry.invariant.lines)

pub returns-clause-reads : goal.returns-clause-reads
returns-clause-reads c =
    let cur = c.loop-entry.cursor in
    let none = not_viewed (lines_passed cur) (entries_left cur) (sym c.in_default.is ∙ c.peek.ensures) in
    c.loop-entry.invariant.reads (subst (All EntryReads) (sym none) (search rules))
