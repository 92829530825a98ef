use Rattle.std.proofs.Common.{length, map, sym, ap, ◌∙◌, refl}
use Rattle.std.proofs.lemmas.List.{map-id}
use Rattle.std.proofs.lemmas.Result.{IfOk-weaker}
use Rattle.onll_log.specs.Grammar.{content_of}
use Rattle.onll_task.proofs.RunRecovers.{logs_many, logs_recover}
use Rattle.onll_task.proofs.recovered.recover_logs.Goals as goal

pub apply_images-requires-clause-heads : goal.apply_images-requires-clause-heads
apply_images-requires-clause-heads g c κs within =
    logs_many g.O.Object.means g.P.Pmem.means c.args.object.now c.args.heads.now c.requires.0 c.args.logs.now c.requires.1
    ∙ sym c.in_ok-images.ensures.count ∙ sym (ap length c.deref.ensures.value)

pub apply_images-requires-clause-known : goal.apply_images-requires-clause-known
apply_images-requires-clause-known g c κs within =
    let images = c.deref.result.now in
    let held = ap (map content_of) c.deref.ensures.value ∙ c.in_ok-images.ensures.contents in
    let given = logs_recover g.O.Object.means g.P.Pmem.means c.args.object.now c.args.heads.now c.requires.0 c.args.logs.now c.requires.1 images held in
    rw (map-id images, given) refl

pub returns-clause-logs : goal.returns-clause-logs
returns-clause-logs g c =
    let images = c.deref.result.now in
    let held = ap (map content_of) c.deref.ensures.value ∙ c.in_ok-images.ensures.contents in
    let given = logs_recover g.O.Object.means g.P.Pmem.means c.args.object.now c.args.heads.now c.requires.0 c.args.logs.now c.requires.1 images held in
    rw (map-id images, given) at c.apply_images.ensures.logs

pub returns-clause-nodes : goal.returns-clause-nodes
returns-clause-nodes g c =
    let images = c.deref.result.now in
    let held = ap (map content_of) c.deref.ensures.value ∙ c.in_ok-images.ensures.contents in
    IfOk-weaker c.apply_images.result _ _ (λ a is nodes of_run. (
    let given = logs_recover g.O.Object.means g.P.Pmem.means c.args.object.now c.args.heads.now nodes c.args.logs.now of_run images held in
    rw (map-id images, given) at is)) c.apply_images.ensures.nodes

pub returns-clause-state : goal.returns-clause-state
returns-clause-state g c =
    let images = c.deref.result.now in
    let held = ap (map content_of) c.deref.ensures.value ∙ c.in_ok-images.ensures.contents in
    IfOk-weaker c.apply_images.result _ _ (λ a is nodes of_run. (
    let given = logs_recover g.O.Object.means g.P.Pmem.means c.args.object.now c.args.heads.now nodes c.args.logs.now of_run images held in
    rw (map-id images, given) at is)) c.apply_images.ensures.state
