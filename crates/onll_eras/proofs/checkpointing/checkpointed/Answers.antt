use Rattle.std.proofs.Common.{ℕ, Bool, ◌+◌, sym, subst}
use Rattle.onll_checkpoint.specs.Checkpoint.{CheckpointState}
use Rattle.onll_text.specs.EraText.{era_text}
use Rattle.onll_text.specs.Kinds.{kind_by}
use Rattle.onll_task.specs.declared.ending.Ending.TheVariants.{BadLog}
use Rattle.onll_task.specs.Doing.{Fulfils, say_task}
use Rattle.onll_eras.specs.EraCall.{era_found}
use Rattle.onll_eras.specs.EraJob.{begun_task, checkpoint_after, checkpoint_work, either_task}
use Rattle.onll_eras.specs.EraReports.{at_end_text}
use Rattle.onll_eras.specs.Names.{names_of}
use Rattle.onll_eras.proofs.checkpointing.checkpointed.Goals as goal

pub returns-in-Some : goal.returns-in-Some
returns-in-Some g c =
    let k = kind_by g.O.Object.means g.O.Texted.wording g.O.Object.CODE in
    let w = (checkpoint_work (names_of c.args.call.files) c.args.call.threads).writes in
    let store = g.S.Store.seen c.args.store.now in
    let after = g.S.Store.seen c.begin_next.new.store in
    let ckpt = c.args.call.files.ckpt.now in
    let threads = c.args.call.threads in
    let s = c.args.object.now in
    let era = era_found c.args.era in
    let lines = k.wording.state_lines s in
    let next = c.in-Some.next in
    let place : ℕ = era.place + c.args.nodes in
    let placed = subst (λ (p : ℕ). let made : CheckpointState = record { number = next.number; place = p; text = era_text next.number p lines } in
    Fulfils w store after (begun_task ckpt threads k s made) c.begin_next.result) c.in-Some.ensures.2 c.begin_next.ensures in
    let numbered = subst (λ (n : ℕ). let made : CheckpointState = record { number = n; place = place; text = era_text n place lines } in
    Fulfils w store after (begun_task ckpt threads k s made) c.begin_next.result) c.in-Some.ensures.1 placed in
    subst (λ (q : Bool). Fulfils w store after (either_task q (begun_task ckpt threads k s (checkpoint_after era c.args.nodes lines)) (say_task BadLog at_end_text)) c.begin_next.result)
    (sym c.in-Some.ensures.0) numbered
