use Rattle.std.proofs.Common.{◌≡◌, ◌+◌, drop, true}
use Rattle.std.specs.List.{All}
use Rattle.onll_log.specs.Cursor.{entries_left, first_nodes}
use Rattle.onll_text.specs.Bytes.{begins_line, with_lines}
use Rattle.onll_jobs.specs.ShowJob.{row_lines, RowReads}
use Rattle.onll_jobs.proofs.show.put_rows.Given as goal

-- the nodes that are left make the lines that all make
abbrev pub invariant-loop-i : goal.invariant-loop-i
invariant-loop-i l =
    let nodes = first_nodes (entries_left l.cursor) in
    record {
      lines : with_lines l.out (row_lines (l.below + l.i) (drop l.i nodes)) ≡ with_lines l.fn.out (row_lines l.below nodes);
      begins : begins_line l.out ≡ true;
      reads : All RowReads (drop l.i nodes) → All RowReads nodes;
    }
