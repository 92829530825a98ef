use Rattle.std.proofs.Common.{ℕ, List, ◌≡◌, ◌∙◌, false, sym, subst, arith}
use Rattle.std.specs.Prelude.{Err}
use Rattle.onll_model.specs.Limits.{most_threads}
use Rattle.onll_outside.specs.Views.{SameOthers}
use Rattle.onll_open.specs.Files.{FileIsMade}
use Rattle.onll_open.specs.Names.{log_name}
use Rattle.onll_open.proofs.Handing.{devices_more, faults_more, others_on}
use Rattle.onll_live.specs.declared.fault.NextFault.{NextFault}
use Rattle.onll_live.specs.Beginning.{ClearFaults, ClearFileFaults}
use Rattle.onll_live.proofs.Cleared.{cleared_next, log_failed}
use Rattle.onll_live.proofs.beginning.clear_logs.Goals as goal

pub returns-in-Err-clause-others : goal.returns-in-Err-clause-others
returns-in-Err-clause-others g c =
    let old = g.S.Store.seen c.args.store.now in let mid = g.S.Store.seen c.loop-thread.store in let new = g.S.Store.seen c.clear_file.new.store in
    let t = c.loop-thread.thread in
    let name : c.deref.result.now ≡ log_name c.args.logs.now t = c.deref.ensures ∙ c.in_ok-file.ensures in
    others_on old mid new c.args.logs.now most_threads t (omega arith) c.loop-thread.invariant.2
    (subst (λ (n : List ℕ). SameOthers n mid new) name c.clear_file.ensures.others)

pub returns-in-Err-clause-faults : goal.returns-in-Err-clause-faults
returns-in-Err-clause-faults g c =
    let old = g.S.Store.seen c.args.store.now in let mid = g.S.Store.seen c.loop-thread.store in let new = g.S.Store.seen c.clear_file.new.store in
    let t = c.loop-thread.thread in
    let name : c.deref.result.now ≡ log_name c.args.logs.now t = c.deref.ensures ∙ c.in_ok-file.ensures in
    subst (λ (f : NextFault). ClearFaults c.args.logs.now old new (Err f)) (sym c.not_cleared.ensures)
    (log_failed c.args.logs.now t old mid new c.in-Err.fault (omega arith) c.loop-thread.invariant.1
    (subst (λ (n : List ℕ). ClearFileFaults n mid new (Err c.in-Err.fault)) name c.in-Err.ensures.faults))

pub loop-thread-preserved : goal.loop-thread-preserved
loop-thread-preserved g c =
    let old = g.S.Store.seen c.args.store.now in let mid = g.S.Store.seen c.loop-thread.store in let new = g.S.Store.seen c.clear_file.new.store in
    let t = c.loop-thread.thread in
    let name : c.deref.result.now ≡ log_name c.args.logs.now t = c.deref.ensures ∙ c.in_ok-file.ensures in
    let others = subst (λ (n : List ℕ). SameOthers n mid new) name c.clear_file.ensures.others in (
      cleared_next mid new c.args.logs.now t (omega arith) c.loop-thread.invariant.0 (subst (λ (n : List ℕ). FileIsMade new n false) name c.in_default.ensures.cleared) others,
      faults_more old mid new c.loop-thread.invariant.1 c.in_default.ensures.faults,
      others_on old mid new c.args.logs.now most_threads t (omega arith) c.loop-thread.invariant.2 others,
      devices_more old mid new c.loop-thread.invariant.3 c.clear_file.ensures.devices,
    )
