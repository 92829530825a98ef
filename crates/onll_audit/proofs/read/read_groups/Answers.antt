use Rattle.std.proofs.Common.{◌∙◌, ◌+◌, ◌-◌, length, arith, sym, ap, List, ℕ}
use Rattle.onll_audit.specs.Form.{call_groups}
use Rattle.onll_audit.specs.Values.{as_left, as_lines, as_groups}
use Rattle.onll_audit.proofs.Running.{onto_groups, groups_more, groups_pushed, groups_read, many_pushed}
use Rattle.onll_audit.proofs.read.read_groups.Goals as goal

pub loop-i-preserved : goal.loop-i-preserved
loop-i-preserved g c =
    let w = g.O.Texted.wording in
    let t = c.loop-i.i in
    let threads = length c.args.scripts.now in
    let old = c.loop-i.calls.items in
    let group = c.in_ok-group.group in
    let rest = call_groups w (t + 1) (threads - (t + 1)) (as_left group.after) in
    record {
      whole = c.loop-i.invariant.whole
          ∙ groups_more w t threads (as_groups old) (as_left c.loop-i.left) (as_lines group.lines) (as_left group.after) (omega arith) c.in_ok-group.ensures.group
          ∙ ap (λ (gs : List (List (List ℕ))). onto_groups gs rest)
          (sym (groups_pushed c.loop-i.calls c.push.new.self group.lines c.in_ok-push.ensures.items));
      read = groups_read w _ _ c.args.scripts.now old c.push.new.self.items group.lines c.script_at.result.now t c.loop-i.invariant.many c.loop-i.invariant.read
          c.script_at.ensures.there c.in_ok-group.ensures.read c.in_ok-push.ensures.items;
      many = ap length c.in_ok-push.ensures.items ∙ many_pushed old group.lines ∙ ap (λ (n : ℕ). n + 1) c.loop-i.invariant.many;
      within = omega (arith, c.in_ok-group.ensures.within);
    }
