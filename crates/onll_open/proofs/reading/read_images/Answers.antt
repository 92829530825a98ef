use Rattle.std.proofs.Common.{ap, ◌+◌, ◌++◌, ◌∷◌, [], ◌≡◌, ◌∙◌, subst, length, length-append, rules, Err, refl, sym, arith}
use Rattle.onll_outside.specs.Views.{FaultsOf}
use Rattle.onll_outside.specs.declared.store.FaultKind.TheVariants as kinds
use Rattle.onll_open.specs.Files.{IsRead, LogFaults}
use Rattle.onll_open.proofs.Handing.{faults_more, devices_more, files_more}
use Rattle.onll_open.proofs.Kept.{failed_at}
use Rattle.onll_open.proofs.ReadImages.{read_more}
use Rattle.onll_open.proofs.reading.read_images.Goals as goal

pub loop-thread-preserved : goal.loop-thread-preserved
loop-thread-preserved g c =
    let old = g.S.Store.seen c.args.store.now in
    let mid = g.S.Store.seen c.loop-thread.store in
    let new = g.S.Store.seen c.read_image.new.store in
    let image = c.in-Ok-read_image.image in
    let pushed : c.push.new.self.items ≡ c.loop-thread.images.items ++ image ∷ [] = search rules in
    let there = subst (λ name. IsRead mid name image) (c.deref.ensures ∙ c.in-Ok.ensures) c.in-Ok-read_image.ensures.read in
    record {
      read = read_more c.args.logs.now c.loop-thread.thread c.loop-thread.images.items c.push.new.self.items image old mid c.loop-thread.invariant.count c.loop-thread.invariant.files c.loop-thread.invariant.read there pushed;
      count = ap length pushed ∙ length-append c.loop-thread.images.items (image ∷ []) ∙ ap (λ n. n + 1) c.loop-thread.invariant.count;
      files = files_more old mid new c.loop-thread.invariant.files c.in-Ok-read_image.ensures.same;
      faults = faults_more old mid new c.loop-thread.invariant.faults c.in-Ok-read_image.ensures.faults;
      devices = devices_more old mid new c.loop-thread.invariant.devices c.in-Ok-read_image.ensures.devices;
    }

pub returns-in-Err-clause-faults : goal.returns-in-Err-clause-faults
returns-in-Err-clause-faults g c =
    let old = g.S.Store.seen c.args.store.now in
    let mid = g.S.Store.seen c.loop-thread.store in
    let new = g.S.Store.seen c.read_image.new.store in
    let name = c.deref.ensures ∙ c.in-Ok.ensures in
    let failed = subst (λ n. FaultsOf {T = Unit {0}} (record { kind = kinds.Read; name = n }) mid new (Err c.in-Err.fault)) name c.in-Err.ensures.faults in
    subst (λ f. LogFaults {T = Unit {0}} kinds.Read c.args.logs.now c.args.threads old new (Err f)) (sym c.fault_at.ensures)
    (failed_at kinds.Read c.args.logs.now c.args.threads c.loop-thread.thread old mid new new c.in-Err.fault (omega arith) c.loop-thread.invariant.faults (refl, refl) failed)
