use Rattle.std.proofs.Common.{ℕ, List, [], ◌∷◌, ◌≡◌, ◌∙◌, ap, subst, inl}
use Rattle.onll_open.specs.Files.{SameBut}
use Rattle.onll_open.specs.Names.{log_lock_name}
use Rattle.onll_open.specs.Locking.{AreFree}
use Rattle.std.specs.Prelude.{Ok}
use Rattle.std.proofs.lemmas.Result.{err_from_is_err_and}
use Rattle.onll_merge.specs.Recovered.{recovered_in}
use Rattle.onll_open.specs.Opening.{FilesGive}
use Rattle.onll_live.specs.declared.era.Era.{Era}
use Rattle.onll_live.specs.Eras.{era_heads, era_logs}
use Rattle.onll_live.proofs.Begins.{has_begun, locked_stays, none_saved, stays_or_begins, whatever, whatever_stands}
use Rattle.onll_live.proofs.Causes.{and_then_files, begun_changed, fences_since, lock_changed, next_fits, none_after, not_begun, not_given}
use Rattle.onll_live.proofs.Follows.{begun_so, next_so, refused_so}
use Rattle.onll_live.proofs.beginning.begin_next.Goals as goal

pub returns-in_err-object-clause-refused : goal.returns-in_err-object-clause-refused
returns-in_err-object-clause-refused g c =
    let name = c.args.name.now in let era = c.args.era in let old = g.S.Store.seen c.args.store.now in let new = g.S.Store.seen c.recover.new.store in
    let logs : c.deref.result.now ≡ era_logs name era.number = c.deref.ensures ∙ c.in_ok-logs.ensures in
    let locked = subst (λ (n : List ℕ). SameBut (log_lock_name n ∷ []) old new) logs c.recover.ensures.others in
    whatever c.from_residual-in_err-object.result _ (λ first i. inl (locked_stays g.O.Saved.read_of first name era old new locked i))

pub returns-in_err-next-clause-refused : goal.returns-in_err-next-clause-refused
returns-in_err-next-clause-refused g c =
    let name = c.args.name.now in let era = c.args.era in let old = g.S.Store.seen c.args.store.now in let new = g.S.Store.seen c.recover.new.store in
    let logs : c.deref.result.now ≡ era_logs name era.number = c.deref.ensures ∙ c.in_ok-logs.ensures in
    let locked = subst (λ (n : List ℕ). SameBut (log_lock_name n ∷ []) old new) logs c.recover.ensures.others in
    whatever c.from_residual-in_err-next.result _ (λ first i. inl (locked_stays g.O.Saved.read_of first name era old new locked i))

pub returns-clause-refused : goal.returns-clause-refused
returns-clause-refused g c first i =
    let name = c.args.name.now in let era = c.args.era in let next = c.in_ok-next.next in
    let old = g.S.Store.seen c.args.store.now in let mid = g.S.Store.seen c.recover.new.store in let new = g.S.Store.seen c.begin.new.store in
    let logs : c.deref.result.now ≡ era_logs name era.number = c.deref.ensures ∙ c.in_ok-logs.ensures in
    let locked = subst (λ (n : List ℕ). SameBut (log_lock_name n ∷ []) old mid) logs c.recover.ensures.others in
    let after = ap (λ (e : Era _). e.number) c.in_ok-next.ensures.next in
    let means = g.O.Object.means in let found = recovered_in c.in_ok-object.field-0.recovery in
    let heads = era_heads g.O.Object.CODE g.O.Described.description c.args.threads era.state in
    let given = subst (λ (n : List ℕ). FilesGive means old n heads (Ok found)) logs c.in_ok-object.ensures.found in
    let next_is = next_so means era next found.nodes c.updates_in.result _ c.in_ok-next.ensures.next c.updates_in.ensures c.in_ok-object.ensures.state in
    refused_so means g.O.Object.CODE g.O.Described.description g.O.Saved.read_of first name c.args.threads old new era next found given next_is
    (c.begin.ensures.others.tells ∙ c.recover.ensures.others.tells) c.requires.few
    (stays_or_begins g.O.Saved.read_of first name old mid new era next after locked c.begin.ensures.others i c.in-Err.ensures.begun)

pub returns-in-Ok-clause-begun : goal.returns-in-Ok-clause-begun
returns-in-Ok-clause-begun g c first i =
    let name = c.args.name.now in let era = c.args.era in let next = c.in_ok-next.next in
    let old = g.S.Store.seen c.args.store.now in let mid = g.S.Store.seen c.recover.new.store in let new = g.S.Store.seen c.begin.new.store in
    let logs : c.deref.result.now ≡ era_logs name era.number = c.deref.ensures ∙ c.in_ok-logs.ensures in
    let locked = subst (λ (n : List ℕ). SameBut (log_lock_name n ∷ []) old mid) logs c.recover.ensures.others in
    let after = ap (λ (e : Era _). e.number) c.in_ok-next.ensures.next in
    let means = g.O.Object.means in let found = recovered_in c.in_ok-object.field-0.recovery in
    let heads = era_heads g.O.Object.CODE g.O.Described.description c.args.threads era.state in
    let given = subst (λ (n : List ℕ). FilesGive means old n heads (Ok found)) logs c.in_ok-object.ensures.found in
    let next_is = next_so means era next found.nodes c.updates_in.result _ c.in_ok-next.ensures.next c.updates_in.ensures c.in_ok-object.ensures.state in
    begun_so means g.O.Object.CODE g.O.Described.description g.O.Saved.read_of first name c.args.threads old new era next found given next_is
    (c.begin.ensures.others.tells ∙ c.recover.ensures.others.tells) c.requires.few
    (has_begun g.O.Saved.read_of first name old mid new era next after locked c.begin.ensures.others i c.in-Ok.ensures.begun.0)
    c.in-Ok.ensures.begun.1

pub returns-in_err-object-clause-cause : goal.returns-in_err-object-clause-cause
returns-in_err-object-clause-cause g c =
    let name = c.args.name.now in let era = c.args.era in let old = g.S.Store.seen c.args.store.now in let new = g.S.Store.seen c.recover.new.store in
    let logs : c.deref.result.now ≡ era_logs name era.number = c.deref.ensures ∙ c.in_ok-logs.ensures in
    let locked = g.S.Directory.locked c.args.store.now in let after = g.S.Directory.locked c.recover.new.store in
    let means = g.O.Object.means in let code = g.O.Object.CODE in let description = g.O.Described.description in
    let p = err_from_is_err_and c.from_residual-in_err-object.result c.from_residual-in_err-object.ensures.1 in let r = c.in_err-object.ensures in
    rw (p.1, p.2) (not_given means code description name c.args.threads old new era locked after c.deref.result.now c.in_err-object.field-0.0 logs r.refused r.faults r.locks r.devices).0

pub returns-in_err-object-clause-faults : goal.returns-in_err-object-clause-faults
returns-in_err-object-clause-faults g c =
    let name = c.args.name.now in let era = c.args.era in let old = g.S.Store.seen c.args.store.now in let new = g.S.Store.seen c.recover.new.store in
    let logs : c.deref.result.now ≡ era_logs name era.number = c.deref.ensures ∙ c.in_ok-logs.ensures in
    let locked = g.S.Directory.locked c.args.store.now in let after = g.S.Directory.locked c.recover.new.store in
    let means = g.O.Object.means in let code = g.O.Object.CODE in let description = g.O.Described.description in
    let p = err_from_is_err_and c.from_residual-in_err-object.result c.from_residual-in_err-object.ensures.1 in let r = c.in_err-object.ensures in
    rw (p.1, p.2) (not_given means code description name c.args.threads old new era locked after c.deref.result.now c.in_err-object.field-0.0 logs r.refused r.faults r.locks r.devices).1

pub returns-in_err-object-clause-fences : goal.returns-in_err-object-clause-fences
returns-in_err-object-clause-fences g c =
    let name = c.args.name.now in let era = c.args.era in let old = g.S.Store.seen c.args.store.now in let new = g.S.Store.seen c.recover.new.store in
    let logs : c.deref.result.now ≡ era_logs name era.number = c.deref.ensures ∙ c.in_ok-logs.ensures in
    let locked = g.S.Directory.locked c.args.store.now in let after = g.S.Directory.locked c.recover.new.store in
    let means = g.O.Object.means in let code = g.O.Object.CODE in let description = g.O.Described.description in
    let p = err_from_is_err_and c.from_residual-in_err-object.result c.from_residual-in_err-object.ensures.1 in let r = c.in_err-object.ensures in
    rw (p.1, p.2) (not_given means code description name c.args.threads old new era locked after c.deref.result.now c.in_err-object.field-0.0 logs r.refused r.faults r.locks r.devices).2

pub returns-in_err-object-clause-locks : goal.returns-in_err-object-clause-locks
returns-in_err-object-clause-locks g c =
    let name = c.args.name.now in let era = c.args.era in let old = g.S.Store.seen c.args.store.now in let new = g.S.Store.seen c.recover.new.store in
    let logs : c.deref.result.now ≡ era_logs name era.number = c.deref.ensures ∙ c.in_ok-logs.ensures in
    let locked = g.S.Directory.locked c.args.store.now in let after = g.S.Directory.locked c.recover.new.store in
    let means = g.O.Object.means in let code = g.O.Object.CODE in let description = g.O.Described.description in
    let p = err_from_is_err_and c.from_residual-in_err-object.result c.from_residual-in_err-object.ensures.1 in let r = c.in_err-object.ensures in
    rw (p.1, p.2) (not_given means code description name c.args.threads old new era locked after c.deref.result.now c.in_err-object.field-0.0 logs r.refused r.faults r.locks r.devices).3

pub returns-in_err-next-clause-cause : goal.returns-in_err-next-clause-cause
returns-in_err-next-clause-cause g c =
    let name = c.args.name.now in let era = c.args.era in let old = g.S.Store.seen c.args.store.now in let new = g.S.Store.seen c.recover.new.store in
    let logs : c.deref.result.now ≡ era_logs name era.number = c.deref.ensures ∙ c.in_ok-logs.ensures in
    let locked = g.S.Directory.locked c.args.store.now in let after = g.S.Directory.locked c.recover.new.store in
    let means = g.O.Object.means in let code = g.O.Object.CODE in let description = g.O.Described.description in
    let found = recovered_in c.in_ok-object.field-0.recovery in let heads = era_heads code description c.args.threads era.state in
    let given = subst (λ (n : List ℕ). FilesGive means old n heads (Ok found)) logs c.in_ok-object.ensures.found in
    let p = err_from_is_err_and c.from_residual-in_err-next.result c.from_residual-in_err-next.ensures.1 in let r = c.in_ok-object.ensures in
    rw (p.1, p.2 ∙ c.in_err-next.ensures.refused.0) (none_after means code description name c.args.threads old new era locked after found c.updates_in.result given c.updates_in.ensures
    c.in_err-next.ensures.refused.1 r.faults r.devices (subst (λ (n : List ℕ). AreFree old n locked × AreFree old n after) logs r.locks)).0

pub returns-in_err-next-clause-faults : goal.returns-in_err-next-clause-faults
returns-in_err-next-clause-faults g c =
    let name = c.args.name.now in let era = c.args.era in let old = g.S.Store.seen c.args.store.now in let new = g.S.Store.seen c.recover.new.store in
    let logs : c.deref.result.now ≡ era_logs name era.number = c.deref.ensures ∙ c.in_ok-logs.ensures in
    let locked = g.S.Directory.locked c.args.store.now in let after = g.S.Directory.locked c.recover.new.store in
    let means = g.O.Object.means in let code = g.O.Object.CODE in let description = g.O.Described.description in
    let found = recovered_in c.in_ok-object.field-0.recovery in let heads = era_heads code description c.args.threads era.state in
    let given = subst (λ (n : List ℕ). FilesGive means old n heads (Ok found)) logs c.in_ok-object.ensures.found in
    let p = err_from_is_err_and c.from_residual-in_err-next.result c.from_residual-in_err-next.ensures.1 in let r = c.in_ok-object.ensures in
    rw (p.1, p.2 ∙ c.in_err-next.ensures.refused.0) (none_after means code description name c.args.threads old new era locked after found c.updates_in.result given c.updates_in.ensures
    c.in_err-next.ensures.refused.1 r.faults r.devices (subst (λ (n : List ℕ). AreFree old n locked × AreFree old n after) logs r.locks)).1

pub returns-in_err-next-clause-fences : goal.returns-in_err-next-clause-fences
returns-in_err-next-clause-fences g c =
    let name = c.args.name.now in let era = c.args.era in let old = g.S.Store.seen c.args.store.now in let new = g.S.Store.seen c.recover.new.store in
    let logs : c.deref.result.now ≡ era_logs name era.number = c.deref.ensures ∙ c.in_ok-logs.ensures in
    let locked = g.S.Directory.locked c.args.store.now in let after = g.S.Directory.locked c.recover.new.store in
    let means = g.O.Object.means in let code = g.O.Object.CODE in let description = g.O.Described.description in
    let found = recovered_in c.in_ok-object.field-0.recovery in let heads = era_heads code description c.args.threads era.state in
    let given = subst (λ (n : List ℕ). FilesGive means old n heads (Ok found)) logs c.in_ok-object.ensures.found in
    let p = err_from_is_err_and c.from_residual-in_err-next.result c.from_residual-in_err-next.ensures.1 in let r = c.in_ok-object.ensures in
    rw (p.1, p.2 ∙ c.in_err-next.ensures.refused.0) (none_after means code description name c.args.threads old new era locked after found c.updates_in.result given c.updates_in.ensures
    c.in_err-next.ensures.refused.1 r.faults r.devices (subst (λ (n : List ℕ). AreFree old n locked × AreFree old n after) logs r.locks)).2

pub returns-in_err-next-clause-locks : goal.returns-in_err-next-clause-locks
returns-in_err-next-clause-locks g c =
    let name = c.args.name.now in let era = c.args.era in let old = g.S.Store.seen c.args.store.now in let new = g.S.Store.seen c.recover.new.store in
    let logs : c.deref.result.now ≡ era_logs name era.number = c.deref.ensures ∙ c.in_ok-logs.ensures in
    let locked = g.S.Directory.locked c.args.store.now in let after = g.S.Directory.locked c.recover.new.store in
    let means = g.O.Object.means in let code = g.O.Object.CODE in let description = g.O.Described.description in
    let found = recovered_in c.in_ok-object.field-0.recovery in let heads = era_heads code description c.args.threads era.state in
    let given = subst (λ (n : List ℕ). FilesGive means old n heads (Ok found)) logs c.in_ok-object.ensures.found in
    let p = err_from_is_err_and c.from_residual-in_err-next.result c.from_residual-in_err-next.ensures.1 in let r = c.in_ok-object.ensures in
    rw (p.1, p.2 ∙ c.in_err-next.ensures.refused.0) (none_after means code description name c.args.threads old new era locked after found c.updates_in.result given c.updates_in.ensures
    c.in_err-next.ensures.refused.1 r.faults r.devices (subst (λ (n : List ℕ). AreFree old n locked × AreFree old n after) logs r.locks)).3

pub returns-in_err-object-clause-others : goal.returns-in_err-object-clause-others
returns-in_err-object-clause-others g c =
    let name = c.args.name.now in let era = c.args.era in let old = g.S.Store.seen c.args.store.now in let new = g.S.Store.seen c.recover.new.store in
    let logs : c.deref.result.now ≡ era_logs name era.number = c.deref.ensures ∙ c.in_ok-logs.ensures in
    let p = err_from_is_err_and c.from_residual-in_err-object.result c.from_residual-in_err-object.ensures.1 in
    rw (p.1, p.2) (lock_changed name era.number old old new c.in_err-object.field-0.0 (subst (λ (n : List ℕ). SameBut (log_lock_name n ∷ []) old new) logs c.recover.ensures.others))

pub returns-in_err-next-clause-others : goal.returns-in_err-next-clause-others
returns-in_err-next-clause-others g c =
    let name = c.args.name.now in let era = c.args.era in let old = g.S.Store.seen c.args.store.now in let new = g.S.Store.seen c.recover.new.store in
    let logs : c.deref.result.now ≡ era_logs name era.number = c.deref.ensures ∙ c.in_ok-logs.ensures in
    let p = err_from_is_err_and c.from_residual-in_err-next.result c.from_residual-in_err-next.ensures.1 in
    rw (p.1, p.2 ∙ c.in_err-next.ensures.refused.0) (subst (λ (n : List ℕ). SameBut (log_lock_name n ∷ []) old new) logs c.recover.ensures.others)

pub returns-in_err-object-clause-stands : goal.returns-in_err-object-clause-stands
returns-in_err-object-clause-stands g c =
    let name = c.args.name.now in let era = c.args.era in let old = g.S.Store.seen c.args.store.now in let new = g.S.Store.seen c.recover.new.store in
    let logs : c.deref.result.now ≡ era_logs name era.number = c.deref.ensures ∙ c.in_ok-logs.ensures in
    let locked = subst (λ (n : List ℕ). SameBut (log_lock_name n ∷ []) old new) logs c.recover.ensures.others in
    whatever_stands c.from_residual-in_err-object.result _ (λ first i. locked_stays g.O.Saved.read_of first name era old new locked i)

pub returns-in_err-next-clause-stands : goal.returns-in_err-next-clause-stands
returns-in_err-next-clause-stands g c =
    let name = c.args.name.now in let era = c.args.era in let old = g.S.Store.seen c.args.store.now in let new = g.S.Store.seen c.recover.new.store in
    let logs : c.deref.result.now ≡ era_logs name era.number = c.deref.ensures ∙ c.in_ok-logs.ensures in
    let locked = subst (λ (n : List ℕ). SameBut (log_lock_name n ∷ []) old new) logs c.recover.ensures.others in
    whatever_stands c.from_residual-in_err-next.result _ (λ first i. locked_stays g.O.Saved.read_of first name era old new locked i)

pub returns-clause-stands : goal.returns-clause-stands
returns-clause-stands g c stands first i =
    let name = c.args.name.now in let era = c.args.era in let next = c.in_ok-next.next in
    let old = g.S.Store.seen c.args.store.now in let mid = g.S.Store.seen c.recover.new.store in let new = g.S.Store.seen c.begin.new.store in
    let logs : c.deref.result.now ≡ era_logs name era.number = c.deref.ensures ∙ c.in_ok-logs.ensures in
    let locked = subst (λ (n : List ℕ). SameBut (log_lock_name n ∷ []) old mid) logs c.recover.ensures.others in
    let after = ap (λ (e : Era _). e.number) c.in_ok-next.ensures.next in
    none_saved g.O.Saved.read_of first name old mid new era next after locked c.begin.ensures.others (c.in-Err.ensures.unsaved stands) i

pub returns-in-Ok-clause-cause : goal.returns-in-Ok-clause-cause
returns-in-Ok-clause-cause g c =
    let name = c.args.name.now in let era = c.args.era in let old = g.S.Store.seen c.args.store.now in let mid = g.S.Store.seen c.recover.new.store in
    let new = g.S.Store.seen c.begin.new.store in
    let logs : c.deref.result.now ≡ era_logs name era.number = c.deref.ensures ∙ c.in_ok-logs.ensures in
    let locked = g.S.Directory.locked c.args.store.now in let after = g.S.Directory.locked c.begin.new.store in
    let means = g.O.Object.means in let code = g.O.Object.CODE in let description = g.O.Described.description in
    let found = recovered_in c.in_ok-object.field-0.recovery in let heads = era_heads code description c.args.threads era.state in
    let given = subst (λ (n : List ℕ). FilesGive means old n heads (Ok found)) logs c.in_ok-object.ensures.found in
    let fits = next_fits means code description name c.args.threads old new era locked after found c.updates_in.result given c.updates_in.ensures c.in_ok-next.ensures.fits in
    fits

pub returns-clause-cause : goal.returns-clause-cause
returns-clause-cause g c =
    let name = c.args.name.now in let era = c.args.era in let old = g.S.Store.seen c.args.store.now in let mid = g.S.Store.seen c.recover.new.store in
    let new = g.S.Store.seen c.begin.new.store in
    let logs : c.deref.result.now ≡ era_logs name era.number = c.deref.ensures ∙ c.in_ok-logs.ensures in
    let locked = g.S.Directory.locked c.args.store.now in let after = g.S.Directory.locked c.begin.new.store in
    let means = g.O.Object.means in let code = g.O.Object.CODE in let description = g.O.Described.description in
    let found = recovered_in c.in_ok-object.field-0.recovery in let heads = era_heads code description c.args.threads era.state in
    let given = subst (λ (n : List ℕ). FilesGive means old n heads (Ok found)) logs c.in_ok-object.ensures.found in
    let fits = next_fits means code description name c.args.threads old new era locked after found c.updates_in.result given c.updates_in.ensures c.in_ok-next.ensures.fits in
    let is = ap (λ (e : Era _). e.number) c.in_ok-next.ensures.next in let r = c.in_ok-object.ensures in let h = c.in-Err.ensures in
    (not_begun means code description name c.args.threads old new era locked after c.in-Err.fault mid c.in_ok-next.next.number is fits r.faults r.devices c.deref.result.now logs
    r.locks.0 h.faults h.fences).0

pub returns-clause-faults : goal.returns-clause-faults
returns-clause-faults g c =
    let name = c.args.name.now in let era = c.args.era in let old = g.S.Store.seen c.args.store.now in let mid = g.S.Store.seen c.recover.new.store in
    let new = g.S.Store.seen c.begin.new.store in
    let logs : c.deref.result.now ≡ era_logs name era.number = c.deref.ensures ∙ c.in_ok-logs.ensures in
    let locked = g.S.Directory.locked c.args.store.now in let after = g.S.Directory.locked c.begin.new.store in
    let means = g.O.Object.means in let code = g.O.Object.CODE in let description = g.O.Described.description in
    let found = recovered_in c.in_ok-object.field-0.recovery in let heads = era_heads code description c.args.threads era.state in
    let given = subst (λ (n : List ℕ). FilesGive means old n heads (Ok found)) logs c.in_ok-object.ensures.found in
    let fits = next_fits means code description name c.args.threads old new era locked after found c.updates_in.result given c.updates_in.ensures c.in_ok-next.ensures.fits in
    let is = ap (λ (e : Era _). e.number) c.in_ok-next.ensures.next in let r = c.in_ok-object.ensures in let h = c.in-Err.ensures in
    (not_begun means code description name c.args.threads old new era locked after c.in-Err.fault mid c.in_ok-next.next.number is fits r.faults r.devices c.deref.result.now logs
    r.locks.0 h.faults h.fences).1

pub returns-clause-fences : goal.returns-clause-fences
returns-clause-fences g c =
    let name = c.args.name.now in let era = c.args.era in let old = g.S.Store.seen c.args.store.now in let mid = g.S.Store.seen c.recover.new.store in
    let new = g.S.Store.seen c.begin.new.store in
    let logs : c.deref.result.now ≡ era_logs name era.number = c.deref.ensures ∙ c.in_ok-logs.ensures in
    let locked = g.S.Directory.locked c.args.store.now in let after = g.S.Directory.locked c.begin.new.store in
    let means = g.O.Object.means in let code = g.O.Object.CODE in let description = g.O.Described.description in
    let found = recovered_in c.in_ok-object.field-0.recovery in let heads = era_heads code description c.args.threads era.state in
    let given = subst (λ (n : List ℕ). FilesGive means old n heads (Ok found)) logs c.in_ok-object.ensures.found in
    let fits = next_fits means code description name c.args.threads old new era locked after found c.updates_in.result given c.updates_in.ensures c.in_ok-next.ensures.fits in
    let is = ap (λ (e : Era _). e.number) c.in_ok-next.ensures.next in let r = c.in_ok-object.ensures in let h = c.in-Err.ensures in
    (not_begun means code description name c.args.threads old new era locked after c.in-Err.fault mid c.in_ok-next.next.number is fits r.faults r.devices c.deref.result.now logs
    r.locks.0 h.faults h.fences).2

pub returns-clause-locks : goal.returns-clause-locks
returns-clause-locks g c =
    let name = c.args.name.now in let era = c.args.era in let old = g.S.Store.seen c.args.store.now in let mid = g.S.Store.seen c.recover.new.store in
    let new = g.S.Store.seen c.begin.new.store in
    let logs : c.deref.result.now ≡ era_logs name era.number = c.deref.ensures ∙ c.in_ok-logs.ensures in
    let locked = g.S.Directory.locked c.args.store.now in let after = g.S.Directory.locked c.begin.new.store in
    let means = g.O.Object.means in let code = g.O.Object.CODE in let description = g.O.Described.description in
    let found = recovered_in c.in_ok-object.field-0.recovery in let heads = era_heads code description c.args.threads era.state in
    let given = subst (λ (n : List ℕ). FilesGive means old n heads (Ok found)) logs c.in_ok-object.ensures.found in
    let fits = next_fits means code description name c.args.threads old new era locked after found c.updates_in.result given c.updates_in.ensures c.in_ok-next.ensures.fits in
    let is = ap (λ (e : Era _). e.number) c.in_ok-next.ensures.next in let r = c.in_ok-object.ensures in let h = c.in-Err.ensures in
    (not_begun means code description name c.args.threads old new era locked after c.in-Err.fault mid c.in_ok-next.next.number is fits r.faults r.devices c.deref.result.now logs
    r.locks.0 h.faults h.fences).3

pub returns-in-Ok-clause-others : goal.returns-in-Ok-clause-others
returns-in-Ok-clause-others g c =
    let name = c.args.name.now in let era = c.args.era in let old = g.S.Store.seen c.args.store.now in let mid = g.S.Store.seen c.recover.new.store in
    let logs : c.deref.result.now ≡ era_logs name era.number = c.deref.ensures ∙ c.in_ok-logs.ensures in
    let is = ap (λ (e : Era _). e.number) c.in_ok-next.ensures.next in
    and_then_files name era.number old mid (g.S.Store.seen c.begin.new.store) c.in_ok-next.next.number is
    (subst (λ (n : List ℕ). SameBut (log_lock_name n ∷ []) old mid) logs c.recover.ensures.others) c.begin.ensures.files

pub returns-clause-others : goal.returns-clause-others
returns-clause-others g c =
    let name = c.args.name.now in let era = c.args.era in let old = g.S.Store.seen c.args.store.now in let mid = g.S.Store.seen c.recover.new.store in
    let new = g.S.Store.seen c.begin.new.store in
    let logs : c.deref.result.now ≡ era_logs name era.number = c.deref.ensures ∙ c.in_ok-logs.ensures in
    let is = ap (λ (e : Era _). e.number) c.in_ok-next.ensures.next in
    begun_changed c.in-Err.fault name era.number c.in_ok-next.next.number mid new c.in-Err.ensures.faults old
    (and_then_files name era.number old mid new c.in_ok-next.next.number is (subst (λ (n : List ℕ). SameBut (log_lock_name n ∷ []) old mid) logs c.recover.ensures.others)
    c.begin.ensures.files)

pub returns-in-Ok-clause-fences : goal.returns-in-Ok-clause-fences
returns-in-Ok-clause-fences g c =
    let old = g.S.Store.seen c.args.store.now in let mid = g.S.Store.seen c.recover.new.store in let new = g.S.Store.seen c.begin.new.store in
    fences_since old.device_faults mid.device_faults new.device_faults (Ok tt) c.recover.ensures.devices.0 c.in-Ok.ensures.fences

pub returns-in-Ok-clause-locks : goal.returns-in-Ok-clause-locks
returns-in-Ok-clause-locks g c =
    let old = g.S.Store.seen c.args.store.now in
    let logs : c.deref.result.now ≡ era_logs c.args.name.now c.args.era.number = c.deref.ensures ∙ c.in_ok-logs.ensures in
    subst (λ (n : List ℕ). AreFree old n (g.S.Directory.locked c.args.store.now)) logs c.in_ok-object.ensures.locks.0
