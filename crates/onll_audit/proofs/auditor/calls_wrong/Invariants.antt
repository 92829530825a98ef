use Rattle.std.proofs.Common.{◌≡◌, ◌+◌, ◌++◌, drop, map}
use Rattle.onll_audit.specs.Values.{as_groups}
use Rattle.onll_audit.specs.Verdict.{calls_wrong, all_rows, total_lines}
use Rattle.onll_audit.proofs.auditor.calls_wrong.Given as goal

abbrev pub invariant-loop-i : goal.invariant-loop-i
invariant-loop-i g l =
    let b = g.O.Object.means in
    let w = g.O.Texted.wording in
    let scripts = map (λ x. x.items) l.scripts in
    let groups = as_groups l.form.calls.items in
    let nodes = l.form.nodes.items in
    record {
      rest : calls_wrong b w l.first nodes l.i l.number (drop l.i scripts) (drop l.i groups) ≡ calls_wrong b w l.first nodes 0 1 scripts groups;
      rows : map (λ x. x.items) l.rows.items ++ all_rows b w l.i (drop l.i scripts) (drop l.i groups) ≡ all_rows b w 0 scripts groups;
      lines : l.number + total_lines (drop l.i groups) ≡ 1 + total_lines groups;
    }
