use Rattle.std.proofs.Common.{ℕ, List, ◌≡◌, ◌%◌, ◌∙◌, sym, subst, length}
use Rattle.std.specs.Prelude.{Err}
use Rattle.onll_checkpoint.specs.Checkpoint.{FitsCheckpoint}
use Rattle.onll_checkpoint.specs.Grammar.{checkpoint_image}
use Rattle.onll_checkpoint.specs.Text.{lines_for}
use Rattle.onll_areas.specs.Keeping.{HasKeptLines, KeepEnds}
use Rattle.onll_live.specs.declared.fault.NextFault.{NextFault}
use Rattle.onll_live.specs.Beginning.{EraStands, NoneSaved, SaveFaults}
use Rattle.onll_live.specs.Causes.{NextFences}
use Rattle.onll_live.specs.Eras.{era_logs}
use Rattle.onll_live.proofs.Causes.{keep_fences}
use Rattle.onll_live.proofs.Saves.{left_by, none_by, save_faults, saves_so}
use Rattle.onll_live.proofs.beginning.save_era.Goals as goal

pub returns-in-Ok-clause-saved : goal.returns-in-Ok-clause-saved
returns-in-Ok-clause-saved g c =
    let h = c.in-Ok.ensures.ends in
    let name : c.deref.result.now ≡ era_logs c.args.name.now c.args.era.now.number = c.deref.ensures ∙ c.in_ok-file.ensures in
    let fits = subst FitsCheckpoint c.checkpoint.view_is c.checkpoint.invariant in
    let this = c.of-checkpoint.result in
    saves_so g.O.Saved.read_of c.args.name.now c.args.era.now (g.S.Store.seen c.args.store.now) (g.S.Store.seen c.keep_checkpoint.new.store)
    c.in-Ok.ensures.others.tells this c.in_ok-text.text.items c.in_ok-text.ensures.reads_back c.of-checkpoint.ensures fits c.area_laws.ensures.whole
    (subst (λ (n : List ℕ). HasKeptLines (g.S.Store.seen c.args.store.now) (g.S.Store.seen c.keep_checkpoint.new.store) n (checkpoint_image this (lines_for (length this.text))) 2) name h).file

pub returns-clause-saved : goal.returns-clause-saved
returns-clause-saved g c =
    let name : c.deref.result.now ≡ era_logs c.args.name.now c.args.era.now.number = c.deref.ensures ∙ c.in_ok-file.ensures in
    let fits = subst FitsCheckpoint c.checkpoint.view_is c.checkpoint.invariant in
    let this = c.of-checkpoint.result in let old = g.S.Store.seen c.args.store.now in let new = g.S.Store.seen c.keep_checkpoint.new.store in
    left_by g.O.Saved.read_of c.args.name.now c.args.era.now old new c.in-Err.ensures.others.tells this c.in_ok-text.text.items
    c.in_ok-text.ensures.reads_back c.of-checkpoint.ensures fits c.in-Err.fault c.area_laws.ensures.blank c.area_laws.ensures.whole
    (subst (λ (n : List ℕ). KeepEnds old new n (checkpoint_image this (lines_for (length this.text))) 2 (Err c.in-Err.fault)) name c.in-Err.ensures.ends)

pub returns-clause-unsaved : goal.returns-clause-unsaved
returns-clause-unsaved g c =
    let name : c.deref.result.now ≡ era_logs c.args.name.now c.args.era.now.number = c.deref.ensures ∙ c.in_ok-file.ensures in
    let fits = subst FitsCheckpoint c.checkpoint.view_is c.checkpoint.invariant in
    let this = c.of-checkpoint.result in let old = g.S.Store.seen c.args.store.now in let new = g.S.Store.seen c.keep_checkpoint.new.store in
    subst (λ (f : NextFault). EraStands f → NoneSaved old new (era_logs c.args.name.now c.args.era.now.number)) (sym c.not_kept.ensures)
    (none_by g.O.Saved.read_of c.args.name.now c.args.era.now old new c.in-Err.ensures.others.tells this c.in_ok-text.text.items
    c.in_ok-text.ensures.reads_back c.of-checkpoint.ensures fits c.in-Err.fault c.area_laws.ensures.blank
    (subst (λ (n : List ℕ). KeepEnds old new n (checkpoint_image this (lines_for (length this.text))) 2 (Err c.in-Err.fault)) name c.in-Err.ensures.ends))

pub returns-clause-faults : goal.returns-clause-faults
returns-clause-faults g c =
    let old = g.S.Store.seen c.args.store.now in let new = g.S.Store.seen c.keep_checkpoint.new.store in
    let area = c.args.era.now.number % 2 in
    subst (λ (f : NextFault). SaveFaults c.args.name.now area old new (Err f)) (sym c.not_kept.ensures)
    (save_faults c.in-Err.fault c.args.name.now c.deref.result.now area _ old new (c.deref.ensures ∙ c.in_ok-file.ensures) c.in-Err.ensures.ends)

pub returns-clause-fences : goal.returns-clause-fences
returns-clause-fences g c =
    let old = g.S.Store.seen c.args.store.now in let new = g.S.Store.seen c.keep_checkpoint.new.store in
    subst (λ (f : NextFault). NextFences {T = Unit {0}} old.device_faults new.device_faults (Err f)) (sym c.not_kept.ensures)
    (keep_fences c.in-Err.fault (c.args.era.now.number % 2) c.deref.result.now _ old new c.in-Err.ensures.ends)
