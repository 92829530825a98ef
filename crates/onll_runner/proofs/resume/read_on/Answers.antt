use Rattle.std.proofs.Common.{◌≡◌, ℕ, List, Result, length, map, string_bytes, sym, ◌∙◌, subst, rules}
use Rattle.std.proofs.lemmas.List.{length-map}
use Rattle.onll_start.specs.declared.fault.ResumeFault.{ResumeFault}
use Rattle.onll_start.specs.Heads.{created_heads}
use Rattle.onll_start.specs.Start.{Found, base_in}
use Rattle.onll_text.specs.Kinds.{kind_by}
use Rattle.onll_open.specs.Names.{log_names}
use Rattle.onll_task.specs.Doing.{Fulfils}
use Rattle.onll_task.proofs.Stages.{read_does, unread_does, by_given, by_begins, by_stops}
use Rattle.onll_runner.specs.ResumeJob.{based_task}
use Rattle.onll_runner.proofs.Based.{used_all, long_all, base_stands}
use Rattle.onll_runner.proofs.resume.read_on.Goals as goal

pub based_on-requires-clause-images : goal.based_on-requires-clause-images
based_on-requires-clause-images g c κs within =
    let count : c.len.result ≡ length c.args.scripts.items = search rules in
    let given = by_given c.in-Ok.ensures.begins in
    let new = g.S.Store.seen c.read_images.new.store in
    record {
      many = c.in-Ok.ensures.count ∙ count;
      counted = c.in-Ok.ensures.many ∙ count;
      used = used_all c.in-Ok.kept.images.items given.value given.fits.stand;
      few = c.in-Ok.ensures.few;
      long = long_all c.args.from.now.logs.now 0 c.len.result given.value c.in-Ok.kept.counts.items new given.fits.many
          (given.gives new (record { tells = sym c.in-Ok.ensures.begins.files.tells; file = λ on name. sym (c.in-Ok.ensures.begins.files.file name tt) }));
      begins = c.in-Ok.ensures.fronts;
    }

pub returns-in-Ok : goal.returns-in-Ok
returns-in-Ok g c = λ threads stands.
    let k = kind_by g.O.Object.means g.O.Texted.wording g.O.Object.CODE in
    let b = g.O.Object.means in
    let init = c.args.from.now.init.now in
    let names = map string_bytes c.args.from.now.names.now in
    let scripts = map (λ script. script.items) c.args.scripts.items in
    let heads = created_heads g.O.Object.CODE init scripts in
    let count : c.len.result ≡ length c.args.scripts.items = search rules in
    let begins = rw (count ∙ sym (length-map c.args.scripts.items (λ script. script.items))) at c.in-Ok.ensures.begins in
    let given = by_given begins in
    let same = base_stands b heads scripts c.in-Ok.kept.images.items given.value given.fits.stand in
    let does : Result Found ResumeFault → Type 0 = λ found. Fulfils (log_names c.args.from.now.logs.now 0 (length c.args.scripts.items)) (g.S.Store.seen c.read_images.new.store) (g.S.Store.seen c.based_on.new.store)
    (based_task k threads init c.args.from.now.logs.now names c.args.object scripts found) c.based_on.result in
    read_does (λ (images : List (List (List ℕ))). based_task k threads init c.args.from.now.logs.now names c.args.object scripts (base_in b heads scripts images)) (by_begins begins)
    (subst does same (c.based_on.ensures threads stands))

pub returns-in-Err : goal.returns-in-Err
returns-in-Err g c = λ threads stands.
    let k = kind_by g.O.Object.means g.O.Texted.wording g.O.Object.CODE in
    let b = g.O.Object.means in
    let init = c.args.from.now.init.now in
    let names = map string_bytes c.args.from.now.names.now in
    let scripts = map (λ script. script.items) c.args.scripts.items in
    let heads = created_heads g.O.Object.CODE init scripts in
    let count : c.len.result ≡ length c.args.scripts.items = search rules in
    unread_does _ (λ (images : List (List (List ℕ))). based_task k threads init c.args.from.now.logs.now names c.args.object scripts (base_in b heads scripts images))
    (by_stops {value = λ (images : List (List (List ℕ))). images} (rw (count ∙ sym (length-map c.args.scripts.items (λ script. script.items))) at c.in-Err.ensures.begins))
