use Rattle.std.proofs.Common.{ap, sym, ◌∙◌, subst}
use Rattle.std.proofs.lemmas.Result.{IfOk-weaker}
use Rattle.std.specs.Prelude.{vec_capacity, slice_index_or}
use Rattle.onll_run.specs.declared.worker.Worker.{Worker}
use Rattle.onll_run.specs.Workers.{CanWork, HasWorked}
use denote.Param.Send.{sendable}
use Rattle.onll_run.proofs.worker.run_all.Goals as goal

pub map_vec-requires-after_bounds : goal.map_vec-requires-after_bounds
map_vec-requires-after_bounds g c κs within = let b = c.type_bounds in λ i x low is. (
  subst (λ (w : Worker _ _ _ _ _ _ _). CanWork g.O.Object.means g.P.Pmem.means w.onll.now w.script.items w.pass w.ends.items (vec_capacity w.ends)) (sym is) (c.requires i x low),
  search (sendable, b),
)

pub returns-clause-scripts : goal.returns-clause-scripts
returns-clause-scripts g c = IfOk-weaker c.map_vec.result _ _ (λ all each t d e l. let x = (each t d l).1 in x.call.met.0 ∙ ap (λ (w : Worker _ _ _ _ _ _ _). w.script) (sym (x.job_is e))) c.map_vec.ensures.each

pub returns-clause-worked : goal.returns-clause-worked
returns-clause-worked g c = IfOk-weaker c.map_vec.result _ _ (λ all each t d e l. let x = (each t d l).1 in
    subst (λ (w : Worker _ _ _ _ _ _ _). HasWorked g.O.Object.means g.P.Pmem.means w.onll.now w.script.items (slice_index_or all.items t d).ends.items w.pass (slice_index_or all.items t d).pass) (sym (x.job_is e)) x.call.met.1) c.map_vec.ensures.each
