use Rattle.std.proofs.Common.{◌≡◌, ◌≤◌, ◌++◌, drop, length, true}
use Rattle.std.specs.List.{All}
use Rattle.onll_model.specs.Fold.{fold_trace, fold_ends, fold_state}
use Rattle.onll_text.specs.Bytes.{begins_line, with_lines}
use Rattle.onll_text.specs.Lines.{call_lines}
use Rattle.onll_text.specs.Reports.{EndReads}
use Rattle.onll_jobs.proofs.fold.put_calls.Given as goal

-- what is done and what the calls that are left make is what all calls make
abbrev pub invariant-loop-call : goal.invariant-loop-call
invariant-loop-call g l =
    let b = g.O.Object.means in
    let w = g.O.Texted.wording in
    let rest = drop l.call-index l.script in
    record {
      state : fold_state b l.object rest ≡ fold_state b l.fn.object l.script;
      nodes : l.trace.items ++ fold_trace b (length l.trace.items) rest ≡ fold_trace b 0 l.script;
      lines : with_lines l.out (call_lines w 0 l.number rest (fold_ends b l.object (length l.trace.items) rest)) ≡ with_lines l.fn.out (call_lines w 0 0 l.script (fold_ends b l.fn.object 0 l.script));
      ends_read : All (EndReads w) (fold_ends b l.object (length l.trace.items) rest) → All (EndReads w) (fold_ends b l.fn.object 0 l.script);
      begins : begins_line l.out ≡ true;
      number : l.number ≡ l.call-index;
      count : length l.trace.items ≤ l.call-index;
    }
