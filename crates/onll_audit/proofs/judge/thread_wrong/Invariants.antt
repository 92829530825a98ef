use Rattle.std.proofs.Common.{◌≡◌, ◌≤◌, ◌+◌, ◌++◌, length, map, drop, take}
use Rattle.onll_model.specs.Trace.{state_after}
use Rattle.onll_audit.specs.Verdict.{no_past, thread_wrong, rows_said}
use Rattle.onll_audit.proofs.judge.thread_wrong.Given as goal

abbrev pub invariant-loop-i : goal.invariant-loop-i
invariant-loop-i g l =
    let b = g.O.Object.means in
    let e = l.evidence in
    let lines = map (λ x. x.line.now) l.lines in
    let wrong = thread_wrong b g.O.Texted.wording e.first.now e.nodes.now e.thread e.places.now in
    record {
      whole : wrong l.number no_past l.script lines ≡ wrong (l.number + l.i) l.past (drop l.i l.script) (drop l.i lines);
      rows : l.rows.items ++ rows_said b g.O.Texted.wording e.thread l.i (drop l.i l.script) (drop l.i lines)
          ≡ rows_said b g.O.Texted.wording e.thread 0 l.script lines;
      calls : l.past.calls ≡ l.i;
      placed : l.past.placed ≤ l.i;
      at : l.replica.at ≤ length e.nodes.now;
      object : l.replica.object ≡ state_after b e.first.now (take l.replica.at e.nodes.now);
    }
