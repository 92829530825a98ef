use Rattle.std.proofs.Common.{ℕ, List, ◌≡◌, ◌∙◌, subst, inl}
use Rattle.std.specs.Prelude.{Ok, Err}
use Rattle.onll_model.specs.Limits.{most_threads}
use Rattle.onll_open.specs.Files.{SameBut}
use Rattle.onll_open.specs.Names.{log_names}
use Rattle.onll_live.specs.Beginning.{AreCleared}
use Rattle.onll_live.specs.Eras.{era_logs}
use Rattle.onll_live.proofs.Begins.{area_stays, none_since, not_saved, others_of, still_empty}
use Rattle.onll_live.proofs.Causes.{clear_fences, cleared_files, fences_since, saved_files}
use Rattle.onll_live.proofs.beginning.begin.Goals as goal

pub returns-in-Err-clause-begun : goal.returns-in-Err-clause-begun
returns-in-Err-clause-begun g c =
    let name = c.args.name.now in let number = c.args.era.now.number in let old = g.S.Store.seen c.args.store.now in let new = g.S.Store.seen c.clear_logs.new.store in
    let logs : c.deref.result.now ≡ era_logs name number = c.deref.ensures ∙ c.in_ok-logs.ensures in
    inl (area_stays name number old old new (subst (λ (n : List ℕ). SameBut (log_names n 0 most_threads) old new) logs c.clear_logs.ensures.others))

pub returns-in-Ok-clause-others : goal.returns-in-Ok-clause-others
returns-in-Ok-clause-others g c =
    let name = c.args.name.now in let number = c.args.era.now.number in let old = g.S.Store.seen c.args.store.now in let mid = g.S.Store.seen c.clear_logs.new.store in
    let logs : c.deref.result.now ≡ era_logs name number = c.deref.ensures ∙ c.in_ok-logs.ensures in
    others_of name number old mid (g.S.Store.seen c.save_era.new.store)
    (subst (λ (n : List ℕ). SameBut (log_names n 0 most_threads) old mid) logs c.clear_logs.ensures.others) c.save_era.ensures.others

pub returns-in-Ok-clause-begun : goal.returns-in-Ok-clause-begun
returns-in-Ok-clause-begun g c =
    let name = c.args.name.now in let number = c.args.era.now.number in let old = g.S.Store.seen c.args.store.now in let mid = g.S.Store.seen c.clear_logs.new.store in
    let logs : c.deref.result.now ≡ era_logs name number = c.deref.ensures ∙ c.in_ok-logs.ensures in
    (c.in-Ok.ensures.saved, still_empty name number old mid (g.S.Store.seen c.save_era.new.store) (subst (λ (n : List ℕ). AreCleared mid n) logs c.in_default.ensures.cleared) c.save_era.ensures.others)

pub returns-clause-begun : goal.returns-clause-begun
returns-clause-begun g c =
    let name = c.args.name.now in let number = c.args.era.now.number in let old = g.S.Store.seen c.args.store.now in let mid = g.S.Store.seen c.clear_logs.new.store in
    let logs : c.deref.result.now ≡ era_logs name number = c.deref.ensures ∙ c.in_ok-logs.ensures in
    not_saved g.O.Saved.read_of name c.args.era.now old mid (g.S.Store.seen c.save_era.new.store)
    (subst (λ (n : List ℕ). SameBut (log_names n 0 most_threads) old mid) logs c.clear_logs.ensures.others)
    (subst (λ (n : List ℕ). AreCleared mid n) logs c.in_default.ensures.cleared) c.save_era.ensures.others c.in-Err-save_era.ensures.saved

pub returns-in-Err-clause-unsaved : goal.returns-in-Err-clause-unsaved
returns-in-Err-clause-unsaved g c stands =
    let name = c.args.name.now in let number = c.args.era.now.number in let old = g.S.Store.seen c.args.store.now in let new = g.S.Store.seen c.clear_logs.new.store in
    let logs : c.deref.result.now ≡ era_logs name number = c.deref.ensures ∙ c.in_ok-logs.ensures in
    inl (area_stays name number old old new (subst (λ (n : List ℕ). SameBut (log_names n 0 most_threads) old new) logs c.clear_logs.ensures.others))

pub returns-clause-unsaved : goal.returns-clause-unsaved
returns-clause-unsaved g c stands =
    let name = c.args.name.now in let number = c.args.era.now.number in let old = g.S.Store.seen c.args.store.now in let mid = g.S.Store.seen c.clear_logs.new.store in
    let logs : c.deref.result.now ≡ era_logs name number = c.deref.ensures ∙ c.in_ok-logs.ensures in
    none_since name number old mid (g.S.Store.seen c.save_era.new.store)
    (subst (λ (n : List ℕ). SameBut (log_names n 0 most_threads) old mid) logs c.clear_logs.ensures.others) (c.in-Err-save_era.ensures.unsaved stands)

pub returns-in-Err-clause-fences : goal.returns-in-Err-clause-fences
returns-in-Err-clause-fences g c =
    let old = g.S.Store.seen c.args.store.now in let new = g.S.Store.seen c.clear_logs.new.store in
    clear_fences c.in-Err.fault c.deref.result.now old new c.in-Err.ensures.faults c.clear_logs.ensures.devices

pub returns-in-Ok-clause-fences : goal.returns-in-Ok-clause-fences
returns-in-Ok-clause-fences g c =
    let old = g.S.Store.seen c.args.store.now in let mid = g.S.Store.seen c.clear_logs.new.store in let new = g.S.Store.seen c.save_era.new.store in
    fences_since old.device_faults mid.device_faults new.device_faults (Ok tt) c.clear_logs.ensures.devices.0 c.in-Ok.ensures.fences

pub returns-clause-fences : goal.returns-clause-fences
returns-clause-fences g c =
    let old = g.S.Store.seen c.args.store.now in let mid = g.S.Store.seen c.clear_logs.new.store in let new = g.S.Store.seen c.save_era.new.store in
    fences_since old.device_faults mid.device_faults new.device_faults (Err c.in-Err-save_era.fault) c.clear_logs.ensures.devices.0 c.in-Err-save_era.ensures.fences

pub returns-in-Err-clause-files : goal.returns-in-Err-clause-files
returns-in-Err-clause-files g c =
    let name = c.args.name.now in let number = c.args.era.now.number in let old = g.S.Store.seen c.args.store.now in let new = g.S.Store.seen c.clear_logs.new.store in
    let logs : c.deref.result.now ≡ era_logs name number = c.deref.ensures ∙ c.in_ok-logs.ensures in
    cleared_files name number old old new (subst (λ (n : List ℕ). SameBut (log_names n 0 most_threads) old new) logs c.clear_logs.ensures.others)

pub returns-in-Ok-clause-files : goal.returns-in-Ok-clause-files
returns-in-Ok-clause-files g c =
    let name = c.args.name.now in let number = c.args.era.now.number in let old = g.S.Store.seen c.args.store.now in let mid = g.S.Store.seen c.clear_logs.new.store in
    let logs : c.deref.result.now ≡ era_logs name number = c.deref.ensures ∙ c.in_ok-logs.ensures in
    saved_files name number old mid (g.S.Store.seen c.save_era.new.store)
    (subst (λ (n : List ℕ). SameBut (log_names n 0 most_threads) old mid) logs c.clear_logs.ensures.others) c.save_era.ensures.alone

pub returns-clause-files : goal.returns-clause-files
returns-clause-files g c =
    let name = c.args.name.now in let number = c.args.era.now.number in let old = g.S.Store.seen c.args.store.now in let mid = g.S.Store.seen c.clear_logs.new.store in
    let logs : c.deref.result.now ≡ era_logs name number = c.deref.ensures ∙ c.in_ok-logs.ensures in
    saved_files name number old mid (g.S.Store.seen c.save_era.new.store)
    (subst (λ (n : List ℕ). SameBut (log_names n 0 most_threads) old mid) logs c.clear_logs.ensures.others) c.save_era.ensures.alone
