use Rattle.std.proofs.Common.{rules, ℕ, ◌≡◌, length, sym, subst}
use Rattle.onll_merge.specs.Recovered.{recovered_in}
use Rattle.onll_text.specs.Kinds.{kind_by}
use Rattle.onll_task.specs.Doing.{Fulfils}
use Rattle.onll_eras.specs.declared.era.Asked.{Asked}
use Rattle.onll_eras.specs.EraCall.{asked_work, era_found, with_recovered}
use Rattle.onll_eras.specs.EraJob.{checkpoint_with, checkpoint_work}
use Rattle.onll_eras.specs.Names.{names_of}
use Rattle.onll_eras.proofs.walk.over_recovery.Goals as goal

pub returns-in-Restore : goal.returns-in-Restore
returns-in-Restore g c =
    let k = kind_by g.O.Object.means g.O.Texted.wording g.O.Object.CODE in
    let store = g.S.Store.seen c.args.store.now in
    let names = names_of c.args.call.files in
    let threads = c.args.call.threads in
    subst (λ (a : Asked). Fulfils (asked_work a names threads).writes store store (with_recovered a names threads c.args.era k c.args.object.now (recovered_in c.args.recovery.now)) c.restored.result)
    (sym c.in-Restore.is) (c.restored.ensures store)

pub returns-in-Checkpoint : goal.returns-in-Checkpoint
returns-in-Checkpoint g c =
    let k = kind_by g.O.Object.means g.O.Texted.wording g.O.Object.CODE in
    let store = g.S.Store.seen c.args.store.now in
    let after = g.S.Store.seen c.checkpointed.new.store in
    let names = names_of c.args.call.files in
    let threads = c.args.call.threads in
    let r = recovered_in c.args.recovery.now in
    let many : c.len.result ≡ length r.nodes = search rules in
    let done = subst (λ (n : ℕ). Fulfils (checkpoint_work names threads).writes store after (checkpoint_with names.ckpt threads (era_found c.args.era) k c.args.object.now n) c.checkpointed.result) many
    c.checkpointed.ensures in
    subst (λ (a : Asked). Fulfils (asked_work a names threads).writes store after (with_recovered a names threads c.args.era k c.args.object.now r) c.checkpointed.result) (sym c.in-Checkpoint.is) done
