use Rattle.std.proofs.Common.{◌≡◌, ◌≤◌, ◌+◌, ◌-◌, length, map}
use Rattle.onll_audit.specs.Form.{call_groups}
use Rattle.onll_audit.specs.Values.{as_left, as_groups, EachReadWith}
use Rattle.onll_audit.proofs.Running.{onto_groups}
use Rattle.onll_audit.proofs.read.read_groups.Given as goal

abbrev pub invariant-loop-i : goal.invariant-loop-i
invariant-loop-i g l = record {
  whole : call_groups g.O.Texted.wording 0 (length l.scripts) (as_left l.lines)
      ≡ onto_groups (as_groups l.calls.items) (call_groups g.O.Texted.wording l.i (length l.scripts - l.i) (as_left l.left));
  read : EachReadWith g.O.Texted.wording (map (λ s. s.items) l.scripts) (map (λ own. own.items) l.calls.items);
  many : length l.calls.items ≡ l.i;
  within : l.left.number + length l.left.rest.now ≤ l.lines.number + length l.lines.rest.now;
}
