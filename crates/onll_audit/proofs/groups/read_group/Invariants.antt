use Rattle.std.proofs.Common.{◌≡◌, ◌≤◌, ◌+◌, length, map}
use Rattle.onll_audit.specs.Form.{is_call_line, lines_while}
use Rattle.onll_audit.specs.Values.{as_left, AreReadWith}
use Rattle.onll_audit.proofs.Running.{onto_lines}
use Rattle.onll_audit.proofs.groups.read_group.Given as goal

abbrev pub invariant-loop-next : goal.invariant-loop-next
invariant-loop-next g l =
    let p = is_call_line g.O.Texted.wording l.thread in
    let all = as_left l.lines in
    let left = as_left l.left in
    record {
      whole : onto_lines (map (λ x. x.line.now) l.group.items) (lines_while p left.number left.parts) ≡ lines_while p all.number all.parts;
      read : AreReadWith g.O.Texted.wording l.thread l.script l.group.items;
      within : l.left.number + length l.left.rest.now ≤ l.lines.number + length l.lines.rest.now;
    }

abbrev pub decreases-loop-next : goal.decreases-loop-next
decreases-loop-next g l = length l.left.rest.now
