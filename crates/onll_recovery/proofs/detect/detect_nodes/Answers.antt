use Rattle.std.proofs.Common.{[], ◌≤◌, map, sym, subst, ◌∙◌}
use Rattle.std.proofs.lemmas.List.{length-map}
use Rattle.onll_task.specs.Doing.{Fulfils}
use Rattle.onll_recovery.specs.DetectJob.{nodes_task}
use Rattle.onll_recovery.proofs.Detects.{threads_few}
use Rattle.onll_recovery.proofs.detect.detect_nodes.Goals as goal

pub tell-requires-clause-threads : goal.tell-requires-clause-threads
tell-requires-clause-threads g c κs within =
    let calls = map (λ script. script.items) c.args.scripts.now in
    let many = length-map c.args.scripts.now (λ script. script.items) in
    threads_few g.O.Object.means calls c.args.nodes.now (subst (λ n. n ≤ 16) (sym many) c.requires.few) (sym c.in_ok-place.ensures ∙ c.in-None.is)

pub returns-in-None : goal.returns-in-None
returns-in-None g c store =
    let calls = map (λ script. script.items) c.args.scripts.now in
    subst (λ place. Fulfils [] store store (nodes_task g.O.Object.means g.O.Texted.wording c.args.object calls c.args.nodes.now place) c.tell.result)
    (sym (sym c.in_ok-place.ensures ∙ c.in-None.is)) (c.tell.ensures store)
