use Rattle.std.proofs.Common.{List, length, subst, sym, ap, ◌∙◌}
use Rattle.onll_model.specs.declared.node.Node.{Node}
use Rattle.onll_model.specs.declared.mark.Mark.{Mark}
use Rattle.onll_model.specs.Limits.{most_updates}
use Rattle.onll_trace.specs.Plans.{HasRooms, CanResume}
use Rattle.onll_shared.specs.Starts.{AreLogs}
use Rattle.onll_shared.proofs.onll.Onll.go_on.Goals as goal

pub base_of-requires-clause-logs : goal.base_of-requires-clause-logs
base_of-requires-clause-logs g c = subst AreLogs (sym c.deref.ensures.value) c.requires.logs

pub resume_marked-requires-clause-resume : goal.resume_marked-requires-clause-resume
resume_marked-requires-clause-resume g c κs within =
    let rooms = subst (λ (ns : List Node). HasRooms ns c.args.rooms.now most_updates) c.deref-2.ensures.value c.in_default.ensures in
    let can = c.in_ok-base.ensures.resumable c.args.rooms.now (c.requires.rooms ∙ sym (ap length c.deref.ensures.value)) rooms in
    subst (λ (z : List Node × List Mark). CanResume z.0 z.1 c.args.rooms.now) (λ i. (sym c.deref-3.ensures.value i, sym c.deref-4.ensures.value i)) can
