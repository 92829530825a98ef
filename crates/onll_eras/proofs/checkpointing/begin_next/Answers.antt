use Rattle.std.proofs.Common.{ℕ, List, ◌≡◌, ◌∙◌, Ok, Err, ap, subst}
use Rattle.std.specs.List.{flat_map}
use Rattle.onll_words.specs.Texts.{line_text}
use Rattle.onll_checkpoint.specs.Checkpoint.{CheckpointState}
use Rattle.onll_text.specs.EraText.{era_text}
use Rattle.onll_text.specs.Reports.{SaysOnly}
use Rattle.onll_task.specs.Doing.{Task, DoesStage, after_stage, report_task}
use Rattle.onll_task.proofs.Sequences.{assured_does}
use Rattle.onll_task.proofs.Stages.{wrote_does, stop_does, report_does}
use Rattle.onll_eras.specs.EraJob.{area_of, begun_stage}
use Rattle.onll_eras.specs.EraReports.{CheckpointData, CheckpointReads, checkpoint_lines}
use Rattle.onll_eras.specs.Names.{area_files}
use Rattle.onll_eras.proofs.Asking.{area_named, begins_wider}
use Rattle.onll_eras.proofs.EraSays.{checkpoint_says}
use Rattle.onll_eras.proofs.checkpointing.begin_next.Goals as goal

pub returns-in-Ok : goal.returns-in-Ok
returns-in-Ok g c =
    let w = g.O.Texted.wording in
    let store = g.S.Store.seen c.args.store.now in
    let after = g.S.Store.seen c.begin_era.new.store in
    let ckpt = c.args.call.files.ckpt.now in
    let threads = c.args.call.threads in
    let n = c.args.next.number in
    let p = c.args.next.place in
    let s = c.args.object.now in
    let made : CheckpointState = record { number = n; place = p; text = era_text n p (w.state_lines s) } in
    let said : CheckpointData _ = record { number = n; place = p; state = s } in
    let report = c.in_ok-report.report in
    let says = checkpoint_says w said report.items c.in_ok-report.ensures.report c.in_ok-report.ensures.reads in
    let last : Task = report_task (flat_map line_text (checkpoint_lines w said)) (λ (t : List ℕ). SaysOnly (checkpoint_lines w) (CheckpointReads w) t said) in
    let same : c.of-checkpoint.result ≡ made = c.of-checkpoint.ensures ∙ ap (λ (t : List ℕ). let x : CheckpointState = record { number = n; place = p; text = t } in x) c.in_ok-text.ensures.text in
    let begun = subst (λ (x : CheckpointState). DoesStage (area_files ckpt (area_of x) threads) store after (begun_stage ckpt g.O.Object.CODE threads x) (λ done. done) (Ok tt)) same
    (rw c.CODE.ensures at c.in-Ok.ensures) in
    assured_does (λ _. after_stage (begun_stage ckpt g.O.Object.CODE threads made) (λ _. last)) c.in_ok-text.ensures.back
    (wrote_does (λ _. last) (begins_wider (area_named ckpt threads n) begun) (λ any. report_does any report says.printed says))

pub returns-in-Err : goal.returns-in-Err
returns-in-Err g c =
    let w = g.O.Texted.wording in
    let store = g.S.Store.seen c.args.store.now in
    let after = g.S.Store.seen c.begin_era.new.store in
    let ckpt = c.args.call.files.ckpt.now in
    let threads = c.args.call.threads in
    let n = c.args.next.number in
    let p = c.args.next.place in
    let s = c.args.object.now in
    let made : CheckpointState = record { number = n; place = p; text = era_text n p (w.state_lines s) } in
    let said : CheckpointData _ = record { number = n; place = p; state = s } in
    let last : Task = report_task (flat_map line_text (checkpoint_lines w said)) (λ (t : List ℕ). SaysOnly (checkpoint_lines w) (CheckpointReads w) t said) in
    let same : c.of-checkpoint.result ≡ made = c.of-checkpoint.ensures ∙ ap (λ (t : List ℕ). let x : CheckpointState = record { number = n; place = p; text = t } in x) c.in_ok-text.ensures.text in
    let begun = subst (λ (x : CheckpointState). DoesStage (area_files ckpt (area_of x) threads) store after (begun_stage ckpt g.O.Object.CODE threads x) (λ done. done) (Err c.in-Err.stop)) same
    (rw c.CODE.ensures at c.in-Err.ensures) in
    assured_does (λ _. after_stage (begun_stage ckpt g.O.Object.CODE threads made) (λ _. last)) c.in_ok-text.ensures.back
    (stop_does (λ _. last) (begins_wider (area_named ckpt threads n) begun))
