use Rattle.std.proofs.Common.{length, map, ap, ◌∙◌}
use Rattle.std.proofs.lemmas.Result.{IfOk-weaker}
use Rattle.onll_merge.specs.Merge.{contents_in, merge}
use Rattle.onll_run.specs.Ran.{left_in}
use Rattle.onll_run.proofs.Anew.{new_merge, ran_anew}
use Rattle.onll_run.proofs.run.run_scripts.Goals as goal

pub resume_scripts-requires-clause-merged : goal.resume_scripts-requires-clause-merged
resume_scripts-requires-clause-merged g c κs within = ap (merge c.args.heads.now) (ap contents_in c.deref.ensures.value ∙ c.in_ok-held.ensures) ∙ new_merge c.args.heads.now (length c.args.heads.now)

pub returns-clause-run : goal.returns-clause-run
returns-clause-run g c = IfOk-weaker c.resume_scripts.result _ _
    (λ ran run. ran_anew g.O.Object.means c.args.object c.args.heads.now (map (λ script. script.items) c.args.scripts.items) (left_in g.P.Pmem.means ran) (contents_in c.deref.result.now)
    (ap contents_in c.deref.ensures.value ∙ c.in_ok-held.ensures) run)
    c.resume_scripts.ensures.run
