use Rattle.std.proofs.Common.{ℕ, ◌≡◌, ◌+◌, ◌∷◌, ◌∙◌, List, [], false, length, map, get_or, ap, sym, subst, arith, rules}
use Rattle.std.proofs.lemmas.List.{length-map, length_push}
use Rattle.std.specs.Vec.{vec_len}
use Rattle.std.specs.Vec.Iter.{into_iter_items}
use Rattle.onll_pmem.specs.Pmem.{words_of}
use Rattle.onll_core.specs.Found.{found_thread, HasLogRoom}
use Rattle.onll_core.proofs.FoundWorkers.{roomy_at, image_at, all_found}
use Rattle.onll_core.proofs.step_core.resume.found_workers.Goals as goal

pub bounds-images-thread : goal.bounds-images-thread
bounds-images-thread g c =
    let i = c.loop-script.invariant in
    let roomy = i.roomy in
    let split : into_iter_items c.loop-script.script-iterator ≡ c.in-Some.script ∷ into_iter_items c.next.new.self = c.in-Some.ensures.steps.0 in
    let r = roomy_at c.args.heads.now (map (λ image. words_of image.items) c.args.images.now) c.args.logs.now c.loop-script.thread (record { thread = 0; threads = 0; object = 0; digest = []; format = 0 }) (record { head = false; entries = 0; lines = 0 }) c.in-Some.script.items (map (λ script. script.items) (into_iter_items c.next.new.self))
    (rw split at roomy) in
    let images_long = length-map c.args.images.now (λ image. words_of image.items) in
    let low = r.low_image in
    omega arith

pub bounds-logs-thread : goal.bounds-logs-thread
bounds-logs-thread g c =
    let i = c.loop-script.invariant in
    let roomy = i.roomy in
    let split : into_iter_items c.loop-script.script-iterator ≡ c.in-Some.script ∷ into_iter_items c.next.new.self = c.in-Some.ensures.steps.0 in
    let r = roomy_at c.args.heads.now (map (λ image. words_of image.items) c.args.images.now) c.args.logs.now c.loop-script.thread (record { thread = 0; threads = 0; object = 0; digest = []; format = 0 }) (record { head = false; entries = 0; lines = 0 }) c.in-Some.script.items (map (λ script. script.items) (into_iter_items c.next.new.self))
    (rw split at roomy) in
    let images_long = length-map c.args.images.now (λ image. words_of image.items) in
    let low = r.low_image in
    r.low_log

pub resume-requires-after_bounds : goal.resume-requires-after_bounds
resume-requires-after_bounds g c κs within =
    let i = c.loop-script.invariant in
    let roomy = i.roomy in
    let split : into_iter_items c.loop-script.script-iterator ≡ c.in-Some.script ∷ into_iter_items c.next.new.self = c.in-Some.ensures.steps.0 in
    let r = roomy_at c.args.heads.now (map (λ image. words_of image.items) c.args.images.now) c.args.logs.now c.loop-script.thread (record { thread = 0; threads = 0; object = 0; digest = []; format = 0 }) (record { head = false; entries = 0; lines = 0 }) c.in-Some.script.items (map (λ script. script.items) (into_iter_items c.next.new.self))
    (rw split at roomy) in
    let images_long = length-map c.args.images.now (λ image. words_of image.items) in
    let low = r.low_image in
    let image : get_or (map (λ image. words_of image.items) c.args.images.now) c.loop-script.thread [] ≡ words_of c.deref.result.now
    = image_at (λ image. words_of image.items) c.args.images.now c.loop-script.thread c.index-images-thread.result (omega arith) c.index-images-thread.is ∙ ap words_of (sym c.deref.ensures.value) in
    subst (λ (ls : List (List ℕ)). HasLogRoom (get_or c.args.heads.now c.loop-script.thread (record { thread = 0; threads = 0; object = 0; digest = []; format = 0 })) ls (get_or c.args.logs.now c.loop-script.thread (record { head = false; entries = 0; lines = 0 })) c.in-Some.script.items) image r.here

pub push_reserved-requires : goal.push_reserved-requires
push_reserved-requires g c =
    let i = c.loop-script.invariant in
    let split : into_iter_items c.loop-script.script-iterator ≡ c.in-Some.script ∷ into_iter_items c.next.new.self = c.in-Some.ensures.steps.0 in
    let longer : length (into_iter_items c.loop-script.script-iterator) ≡ length (into_iter_items c.next.new.self) + 1 = (let e = ap length split in omega arith) in
    let count = i.count in
    let made = i.made in
    let room = i.room in
    let len : vec_len c.loop-script.workers ≡ length c.loop-script.workers.items = search rules in
    omega arith

pub loop-script-preserved : goal.loop-script-preserved
loop-script-preserved g c =
    let i = c.loop-script.invariant in
    let roomy = i.roomy in
    let split : into_iter_items c.loop-script.script-iterator ≡ c.in-Some.script ∷ into_iter_items c.next.new.self = c.in-Some.ensures.steps.0 in
    let r = roomy_at c.args.heads.now (map (λ image. words_of image.items) c.args.images.now) c.args.logs.now c.loop-script.thread (record { thread = 0; threads = 0; object = 0; digest = []; format = 0 }) (record { head = false; entries = 0; lines = 0 }) c.in-Some.script.items (map (λ script. script.items) (into_iter_items c.next.new.self))
    (rw split at roomy) in
    let images_long = length-map c.args.images.now (λ image. words_of image.items) in
    let low = r.low_image in
    let image : get_or (map (λ image. words_of image.items) c.args.images.now) c.loop-script.thread [] ≡ words_of c.deref.result.now
    = image_at (λ image. words_of image.items) c.args.images.now c.loop-script.thread c.index-images-thread.result (omega arith) c.index-images-thread.is ∙ ap words_of (sym c.deref.ensures.value) in
    let longer : length (into_iter_items c.loop-script.script-iterator) ≡ length (into_iter_items c.next.new.self) + 1 = (let e = ap length split in omega arith) in
    let count = i.count in
    record {
      all = r.more c.loop-script.workers.items c.push_reserved.new.self.items c.in_ok-worker.worker
          (c.in_ok-worker.ensures ∙ ap (λ (ls : List (List ℕ)). found_thread (get_or c.args.heads.now c.loop-script.thread (record { thread = 0; threads = 0; object = 0; digest = []; format = 0 })) ls (get_or c.args.logs.now c.loop-script.thread (record { head = false; entries = 0; lines = 0 })) c.in-Some.script.items) (sym image)) c.push_reserved.ensures.items
          ∙ (rw split at i.all);
      roomy = r.rest;
      count = omega arith;
      made = (let e : length c.push_reserved.new.self.items ≡ length c.loop-script.workers.items + 1 = ap length c.push_reserved.ensures.items ∙ length_push c.loop-script.workers.items c.in_ok-worker.worker in let m = i.made in omega arith);
      room = c.push_reserved.ensures.capacity ∙ i.room;
    }

pub returns : goal.returns
returns g c =
    let none : length (into_iter_items c.loop-script.script-iterator) ≡ 0 = sym c.loop-script.script-iterator.rest.ok.0 ∙ c.in-None.ensures.steps.0 in
    all_found (λ script. script.items) _ _ _ (into_iter_items c.loop-script.script-iterator) c.loop-script.workers.items _ c.loop-script.invariant.all none
