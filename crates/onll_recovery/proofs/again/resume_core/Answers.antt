use Rattle.std.proofs.Common.{Vec, Global, ◌≡◌, ◌<◌, ◌≤◌, length, map, string_bytes, refl, sym, ap, ◌∙◌, subst, slice_index_or}
use Rattle.std.proofs.lemmas.List.{length-map}
use Rattle.onll_words.specs.declared.line.Line.{Line}
use Rattle.onll_pmem.specs.Pmem.{words_of}
use Rattle.onll_start.specs.Heads.{created_heads}
use Rattle.onll_core.specs.Step.{steps_of}
use Rattle.onll_core.specs.Turns.{turns_of}
use Rattle.onll_task.specs.Images.{images_in}
use Rattle.onll_recovery.proofs.Resumes.{resumed_on, on_operations, on_threads, resumed_does}
use Rattle.onll_task.proofs.Stages.{none_does}
use Rattle.onll_recovery.proofs.again.resume_core.Goals as goal

pub play-requires-clause-there : goal.play-requires-clause-there
play-requires-clause-there g c κs within = λ k d h.
    let b = g.O.Object.means in
    let scripts = map (λ script. script.items) c.args.play.scripts.items in
    let many : length (images_in c.args.images.now) ≡ length scripts = length-map c.args.images.now (λ (image : Vec Line Global). words_of image.items) ∙ c.requires.images ∙ sym (length-map c.args.play.scripts.items (λ script. script.items)) in
    let on = resumed_on b g.O.Object.CODE c.args.texts.now.init.now c.args.object scripts (images_in c.args.images.now) c.in-Ok.core many c.in-Ok.ensures in
    let threads : length c.in-Ok.core.threads ≡ length c.args.play.scripts.items = on_threads b (created_heads g.O.Object.CODE c.args.texts.now.init.now scripts) scripts c.in-Ok.core on ∙ length-map c.args.play.scripts.items (λ script. script.items) in
    let turn = c.requires.playable.turns k d (subst (λ turns. k < length turns) c.as_slice.ensures h) in
    subst (λ n. (slice_index_or c.as_slice.result.now k d).thread < n) (sym threads)
    (subst (λ turns. (slice_index_or turns k d).thread < length c.args.play.scripts.items) (sym c.as_slice.ensures) turn.thread)

pub crash-requires-clause-operations : goal.crash-requires-clause-operations
crash-requires-clause-operations g c κs within =
    let b = g.O.Object.means in
    let scripts = map (λ script. script.items) c.args.play.scripts.items in
    let many : length (images_in c.args.images.now) ≡ length scripts = length-map c.args.images.now (λ (image : Vec Line Global). words_of image.items) ∙ c.requires.images ∙ sym (length-map c.args.play.scripts.items (λ script. script.items)) in
    let on = resumed_on b g.O.Object.CODE c.args.texts.now.init.now c.args.object scripts (images_in c.args.images.now) c.in-Ok.core many c.in-Ok.ensures in
    on_operations b (created_heads g.O.Object.CODE c.args.texts.now.init.now scripts) scripts c.in-Ok.core on c.play.new.self c.as_slice.result.now c.play.ensures.steps

pub crash-requires-clause-threads : goal.crash-requires-clause-threads
crash-requires-clause-threads g c κs within =
    let b = g.O.Object.means in
    let scripts = map (λ script. script.items) c.args.play.scripts.items in
    let many : length (images_in c.args.images.now) ≡ length scripts = length-map c.args.images.now (λ (image : Vec Line Global). words_of image.items) ∙ c.requires.images ∙ sym (length-map c.args.play.scripts.items (λ script. script.items)) in
    let on = resumed_on b g.O.Object.CODE c.args.texts.now.init.now c.args.object scripts (images_in c.args.images.now) c.in-Ok.core many c.in-Ok.ensures in
    let threads : length c.play.new.self.threads ≡ length c.args.play.scripts.items = c.play.ensures.threads ∙ on_threads b (created_heads g.O.Object.CODE c.args.texts.now.init.now scripts) scripts c.in-Ok.core on ∙ length-map c.args.play.scripts.items (λ script. script.items) in
    subst (λ n. (1 ≤ n) × (n ≤ 16)) (sym threads) c.requires.few

pub returns-in-Ok : goal.returns-in-Ok
returns-in-Ok g c =
    let b = g.O.Object.means in
    let scripts = map (λ script. script.items) c.args.play.scripts.items in
    let many : length (images_in c.args.images.now) ≡ length scripts = length-map c.args.images.now (λ (image : Vec Line Global). words_of image.items) ∙ c.requires.images ∙ sym (length-map c.args.play.scripts.items (λ script. script.items)) in
    let on = resumed_on b g.O.Object.CODE c.args.texts.now.init.now c.args.object scripts (images_in c.args.images.now) c.in-Ok.core many c.in-Ok.ensures in
    let heads = created_heads g.O.Object.CODE c.args.texts.now.init.now scripts in
    let threads : length c.play.new.self.threads ≡ length c.args.play.scripts.items = c.play.ensures.threads ∙ on_threads b heads scripts c.in-Ok.core on ∙ length-map c.args.play.scripts.items (λ script. script.items) in
    resumed_does b heads scripts c.in-Ok.core on g.O.Texted.wording c.args.texts.now.logs.now (map string_bytes c.args.texts.now.scripts.now) c.args.play.plan (length c.args.play.scripts.items) c.play.new.self c.base-base.result c.crash.result
    c.in-Ok.ensures (c.play.ensures.steps ∙ ap (λ turns. steps_of b c.in-Ok.core (turns_of turns)) c.as_slice.ensures) c.base-base.ensures threads c.crash.ensures

pub returns-in-Err-NoMemory : goal.returns-in-Err-NoMemory
returns-in-Err-NoMemory g c = none_does _ (g.S.Store.seen c.args.store.now) _ refl
