use Rattle.std.proofs.Common.{◌≡◌, ◌≤◌, ◌-◌, length, true}
use Rattle.std.specs.List.{All, AllByRecursion}
use Rattle.onll_log.specs.Cursor.{entries_left}
use Rattle.onll_text.specs.Bytes.{begins_line, with_lines}
use Rattle.onll_jobs.specs.ShowJob.{entries_lines, EntryReads, IsPlacedEntry}
use Rattle.onll_jobs.proofs.show.put_entries.Given as goal

-- the entries that are left make the lines that all make
abbrev pub invariant-loop-entry : goal.invariant-loop-entry
invariant-loop-entry l =
    let rest = entries_left l.cursor in
    let all = l.fn.cursor.content.entries in
    record {
      most : l.cursor.passed ≤ length all;
      same : l.cursor.content ≡ l.fn.cursor.content;
      lines : with_lines l.out (entries_lines l.cursor.passed rest) ≡ with_lines l.fn.out (entries_lines 0 all);
      begins : begins_line l.out ≡ true;
      placed : AllByRecursion IsPlacedEntry rest;
      reads : All EntryReads rest → All EntryReads all;
    }

abbrev pub decreases-loop-entry : goal.decreases-loop-entry
decreases-loop-entry l = length l.cursor.content.entries - l.cursor.passed
