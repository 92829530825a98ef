use Rattle.std.proofs.Common.{◌≤◌, length, map, sym, ap, ◌∙◌, subst, arith}
use Rattle.std.specs.Prelude.{All}
use Rattle.std.proofs.lemmas.List.{length-map}
use Rattle.onll_model.specs.Calls.{updates_in}
use Rattle.onll_model.specs.Limits.{most_updates}
use Rattle.onll_merge.specs.Merge.{contents_in}
use Rattle.onll_trace.specs.Plans.{HasRooms}
use Rattle.onll_run.proofs.Leaving.{can_open, few_updates, logs_long, logs_are, logs_merge, rooms_long, rooms_fit, passes_long, passes_ready}
use Rattle.onll_run.proofs.run.do_scripts.Goals as goal

pub rooms_for-requires-after_bounds : goal.rooms_for-requires-after_bounds
rooms_for-requires-after_bounds g c κs within = subst (All (λ script. updates_in script.items ≤ most_updates)) (sym c.deref.ensures.value)
    (few_updates g.P.Pmem.means (λ script. script.items) c.args.start.now.heads.now (contents_in c.args.start.now.held.now) c.args.scripts.items c.args.devices.items c.requires.can)

pub open_logs-requires : goal.open_logs-requires
open_logs-requires g c = can_open g.P.Pmem.means c.args.start.now.heads.now (contents_in c.args.start.now.held.now) (map (λ script. script.items) c.args.scripts.items) c.args.devices.items c.requires.can

pub resume-requires-clause-many : goal.resume-requires-clause-many
resume-requires-clause-many g c κs within =
    let n = logs_long g.P.Pmem.means c.args.start.now.heads.now (contents_in c.args.start.now.held.now) (map (λ script. script.items) c.args.scripts.items) c.args.devices.items c.in_ok-logs.logs.items c.requires.can c.in_ok-logs.ensures.open in
    let m = length-map c.args.scripts.items (λ script. script.items) in
    let some = c.requires.can.some_thread in
    let few = c.requires.can.few in
    (omega (arith, n, some), omega (arith, n, few))

pub resume-requires-clause-logs : goal.resume-requires-clause-logs
resume-requires-clause-logs g c κs within = logs_are g.P.Pmem.means c.args.start.now.heads.now (contents_in c.args.start.now.held.now) (map (λ script. script.items) c.args.scripts.items) c.args.devices.items c.in_ok-logs.logs.items c.requires.can c.in_ok-logs.ensures.open

pub resume-requires-clause-merged : goal.resume-requires-clause-merged
resume-requires-clause-merged g c κs within = logs_merge g.P.Pmem.means c.args.start.now.heads.now (contents_in c.args.start.now.held.now) (map (λ script. script.items) c.args.scripts.items) c.args.devices.items c.in_ok-logs.logs.items c.requires.can c.in_ok-logs.ensures.open c.args.start.now.nodes.now c.requires.merged

pub resume-requires-clause-count : goal.resume-requires-clause-count
resume-requires-clause-count g c κs within = ap length (c.deref-2.ensures.value ∙ (c.in_ok-rooms.ensures ∙ ap (λ ss. map updates_in (map (λ script. script.items) ss)) c.deref.ensures.value)) ∙ rooms_long g.P.Pmem.means c.args.start.now.heads.now (contents_in c.args.start.now.held.now) (map (λ script. script.items) c.args.scripts.items) c.args.devices.items c.in_ok-logs.logs.items c.requires.can c.in_ok-logs.ensures.open

pub resume-requires-clause-rooms : goal.resume-requires-clause-rooms
resume-requires-clause-rooms g c κs within =
    subst (λ rooms. HasRooms c.args.start.now.nodes.now rooms most_updates) (sym (c.deref-2.ensures.value ∙ (c.in_ok-rooms.ensures ∙ ap (λ ss. map updates_in (map (λ script. script.items) ss)) c.deref.ensures.value)))
    (rooms_fit g.P.Pmem.means c.args.start.now.heads.now (contents_in c.args.start.now.held.now) (map (λ script. script.items) c.args.scripts.items) c.args.devices.items c.in_ok-logs.logs.items c.requires.can c.in_ok-logs.ensures.open c.args.start.now.nodes.now c.requires.merged)

pub run_passes-requires-clause-many : goal.run_passes-requires-clause-many
run_passes-requires-clause-many g c κs within = sym (length-map c.args.scripts.items (λ script. script.items))
    ∙ passes_long g.O.Object.means g.P.Pmem.means c.in_ok-onll.onll c.args.start.now.heads.now (contents_in c.args.start.now.held.now) _ c.args.devices.items c.in_ok-logs.logs.items _ c.in_ok-onll.passes.items c.requires.can c.in_ok-logs.ensures.open c.in_ok-onll.ensures.passes

pub run_passes-requires-clause-ready : goal.run_passes-requires-clause-ready
run_passes-requires-clause-ready g c κs within =
    passes_ready g.O.Object.means g.P.Pmem.means c.in_ok-onll.onll c.args.start.now.heads.now (contents_in c.args.start.now.held.now) _ c.args.devices.items c.in_ok-logs.logs.items _ c.in_ok-onll.passes.items c.requires.can c.in_ok-logs.ensures.open c.in_ok-onll.ensures.passes
    (c.deref-2.ensures.value ∙ (c.in_ok-rooms.ensures ∙ ap (λ ss. map updates_in (map (λ script. script.items) ss)) c.deref.ensures.value))

pub returns-clause-done : goal.returns-clause-done
returns-clause-done g c = record {
  logs = c.in_ok-logs.logs.items;
  rooms = _;
  passes = c.in_ok-onll.passes.items;
  first = c.in_ok-onll.ensures.object.0;
  base = c.in_ok-onll.ensures.object.1;
  open_on = c.in_ok-logs.ensures.open;
  held = c.requires.merged;
  begun = c.in_ok-onll.ensures.passes;
  done = c.in_ok-all.ensures;
}
