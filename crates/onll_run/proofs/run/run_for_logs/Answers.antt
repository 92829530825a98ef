use Rattle.std.proofs.Common.{List, [], ◌++◌, map, length, refl, sym, ap, ◌∙◌, subst}
use Rattle.onll_log.specs.Grammar.{Content}
use Rattle.onll_trace.specs.declared.trace.Ended.{Ended}
use Rattle.onll_run.specs.Ran.{AreKeptLogs, CanRun, available, ends_in, left_by}
use Rattle.onll_merge.specs.Merge.{contents_in, merge}
use Rattle.onll_run.proofs.Anew.{new_merge, ran_anew}
use Rattle.onll_run.proofs.Leaving.{done_ended, scripts_were, done_leaves}
use Rattle.onll_run.proofs.run.run_for_logs.Goals as goal

pub finish_logs-requires-clause-all : goal.finish_logs-requires-clause-all
finish_logs-requires-clause-all g c κs within =
    let can = subst (λ (bs : List Content). CanRun g.P.Pmem.means c.args.heads.now bs (map (λ script. script.items) c.args.scripts.items) c.args.devices.items) (sym (ap contents_in c.deref.ensures.value ∙ c.in_ok-held.ensures)) c.requires in
    (done_ended g.O.Object.means g.P.Pmem.means _ _ _ _ _ _ _ _ can c.in_ok-done.ensures.done).all_there

pub finish_logs-requires-clause-tied : goal.finish_logs-requires-clause-tied
finish_logs-requires-clause-tied g c κs within =
    let can = subst (λ (bs : List Content). CanRun g.P.Pmem.means c.args.heads.now bs (map (λ script. script.items) c.args.scripts.items) c.args.devices.items) (sym (ap contents_in c.deref.ensures.value ∙ c.in_ok-held.ensures)) c.requires in
    (done_ended g.O.Object.means g.P.Pmem.means _ _ _ _ _ _ _ _ can c.in_ok-done.ensures.done).tied

pub returns-clause-scripts : goal.returns-clause-scripts
returns-clause-scripts g c =
    let can = subst (λ (bs : List Content). CanRun g.P.Pmem.means c.args.heads.now bs (map (λ script. script.items) c.args.scripts.items) c.args.devices.items) (sym (ap contents_in c.deref.ensures.value ∙ c.in_ok-held.ensures)) c.requires in
    c.in_ok-finish_logs.ensures.scripts ∙ scripts_were g.O.Object.means g.P.Pmem.means _ _ _ _ _ _ _ _ can c.in_ok-done.ensures.done

pub returns-clause-run : goal.returns-clause-run
returns-clause-run g c =
    let is = ap contents_in c.deref.ensures.value ∙ c.in_ok-held.ensures in
    let can = subst (λ (bs : List Content). CanRun g.P.Pmem.means c.args.heads.now bs (map (λ script. script.items) c.args.scripts.items) c.args.devices.items) (sym is) c.requires in
    let closed = c.in_ok-finish_logs.ensures.closed in
    let trace : List Ended = available [] ++ closed.0 in
    let leaves = done_leaves g.O.Object.means g.P.Pmem.means _ _ _ _ _ _ _ _ can c.in_ok-done.ensures.done
    (map ends_in c.in_ok-finish_logs.field-0.threads.items) trace c.in_ok-finish_logs.field-0.logs.items c.in_ok-finish_logs.ensures.ends c.in_ok-finish_logs.ensures.logs (closed.0, refl, closed.1) in (
      trace,
      ran_anew g.O.Object.means c.args.object c.args.heads.now (map (λ script. script.items) c.args.scripts.items)
          (left_by g.P.Pmem.means c.in_ok-finish_logs.field-0.threads.items trace c.in_ok-finish_logs.field-0.logs.items) (contents_in c.deref.result.now) is (leaves.run [] (ap (merge c.args.heads.now) is ∙ new_merge c.args.heads.now (length c.args.heads.now))),
    )

pub returns-clause-kept : goal.returns-clause-kept
returns-clause-kept g c =
    let is = ap contents_in c.deref.ensures.value ∙ c.in_ok-held.ensures in
    let can = subst (λ (bs : List Content). CanRun g.P.Pmem.means c.args.heads.now bs (map (λ script. script.items) c.args.scripts.items) c.args.devices.items) (sym is) c.requires in
    let closed = c.in_ok-finish_logs.ensures.closed in
    let trace : List Ended = available [] ++ closed.0 in
    let leaves = done_leaves g.O.Object.means g.P.Pmem.means _ _ _ _ _ _ _ _ can c.in_ok-done.ensures.done
    (map ends_in c.in_ok-finish_logs.field-0.threads.items) trace c.in_ok-finish_logs.field-0.logs.items c.in_ok-finish_logs.ensures.ends c.in_ok-finish_logs.ensures.logs (closed.0, refl, closed.1) in
    subst (λ (bs : List Content). AreKeptLogs g.P.Pmem.means bs (map ends_in c.in_ok-finish_logs.field-0.threads.items) c.args.devices.items c.in_ok-finish_logs.field-0.logs.items) is leaves.kept

pub do_scripts-requires-clause-merged : goal.do_scripts-requires-clause-merged
do_scripts-requires-clause-merged g c κs within = ap (merge c.args.heads.now) (ap contents_in c.deref.ensures.value ∙ c.in_ok-held.ensures) ∙ new_merge c.args.heads.now (length c.args.heads.now)
