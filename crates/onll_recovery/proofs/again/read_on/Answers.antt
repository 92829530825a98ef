use Rattle.std.proofs.Common.{◌≡◌, ℕ, List, Result, length, map, string_bytes, sym, ◌∙◌, subst, rules}
use Rattle.std.proofs.lemmas.List.{length-map}
use Rattle.onll_start.specs.declared.fault.ResumeFault.{ResumeFault}
use Rattle.onll_core.specs.Core.{CoreState}
use Rattle.onll_core.specs.Resume.{resumed}
use Rattle.onll_open.specs.Names.{log_names}
use Rattle.onll_task.specs.Doing.{Fulfils}
use Rattle.onll_recovery.specs.AgainJob.{resumed_task}
use Rattle.onll_recovery.proofs.Resumes.{resumed_stands}
use Rattle.onll_task.proofs.Stages.{read_does, unread_does, none_does, by_given, by_begins, by_stops}
use Rattle.onll_recovery.proofs.again.read_on.Goals as goal

pub returns-in_ok-images-in-Ok : goal.returns-in_ok-images-in-Ok
returns-in_ok-images-in-Ok g c =
    let b = g.O.Object.means in
    let w = g.O.Texted.wording in
    let code = g.O.Object.CODE in
    let init = c.args.texts.now.init.now in
    let names = map string_bytes c.args.texts.now.scripts.now in
    let scripts = map (λ script. script.items) c.args.play.scripts.items in
    let plan = c.args.play.plan in
    let count : c.len.result ≡ length c.args.play.scripts.items = search rules in
    let begins = rw (count ∙ sym (length-map c.args.play.scripts.items (λ script. script.items))) at c.in-Ok.ensures.begins in
    let given = by_given begins in
    let same = resumed_stands b code init c.args.object scripts c.in-Ok.kept.images.items given.value given.fits.stand in
    let does : Result (CoreState _ _ _ _) ResumeFault → Type 0 = λ found. Fulfils (log_names c.args.texts.now.logs.now 0 (length c.args.play.scripts.items)) (g.S.Store.seen c.read_images.new.store) (g.S.Store.seen c.resume_core.new.store)
    (resumed_task b w c.args.texts.now.logs.now names scripts plan found) c.resume_core.result in
    read_does (λ (images : List (List (List ℕ))). resumed_task b w c.args.texts.now.logs.now names scripts plan (resumed b code init c.args.object images scripts)) (by_begins begins)
    (subst does same (rw c.in_ok-images-in-Ok.ensures at (rw c.deref.ensures.value at c.resume_core.ensures)))

pub returns-in_err-images-in-Ok : goal.returns-in_err-images-in-Ok
returns-in_err-images-in-Ok g c =
    let b = g.O.Object.means in
    let w = g.O.Texted.wording in
    let code = g.O.Object.CODE in
    let init = c.args.texts.now.init.now in
    let names = map string_bytes c.args.texts.now.scripts.now in
    let scripts = map (λ script. script.items) c.args.play.scripts.items in
    let plan = c.args.play.plan in
    let count : c.len.result ≡ length c.args.play.scripts.items = search rules in
    read_does (λ (images : List (List (List ℕ))). resumed_task b w c.args.texts.now.logs.now names scripts plan (resumed b code init c.args.object images scripts))
    (by_begins (rw (count ∙ sym (length-map c.args.play.scripts.items (λ script. script.items))) at c.in-Ok.ensures.begins))
    (none_does (log_names c.args.texts.now.logs.now 0 (length c.args.play.scripts.items)) (g.S.Store.seen c.read_images.new.store) _ c.from_residual.ensures.1)

pub returns-in-Err : goal.returns-in-Err
returns-in-Err g c =
    let b = g.O.Object.means in
    let w = g.O.Texted.wording in
    let code = g.O.Object.CODE in
    let init = c.args.texts.now.init.now in
    let names = map string_bytes c.args.texts.now.scripts.now in
    let scripts = map (λ script. script.items) c.args.play.scripts.items in
    let plan = c.args.play.plan in
    let count : c.len.result ≡ length c.args.play.scripts.items = search rules in
    unread_does _ (λ (images : List (List (List ℕ))). resumed_task b w c.args.texts.now.logs.now names scripts plan (resumed b code init c.args.object images scripts))
    (by_stops {value = λ (images : List (List (List ℕ))). images} (rw (count ∙ sym (length-map c.args.play.scripts.items (λ script. script.items))) at c.in-Err.ensures.begins))
