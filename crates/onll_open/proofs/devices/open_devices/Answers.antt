use Rattle.std.proofs.Common.{List, ℕ, false, ◌≡◌, [], length, get_or, refl, sym, ap, ◌∙◌, subst, arith}
use Rattle.std.proofs.lemmas.List.{drop_all, length-map}
use Rattle.onll_words.specs.declared.line.Line.{Line}
use Rattle.onll_pmem.specs.Pmem.{words_of}
use Rattle.onll_merge.specs.declared.counts.LogCounts.{LogCounts}
use Rattle.onll_open.specs.Files.{BeginsAs, KeepsFront}
use Rattle.onll_open.specs.Names.{log_name, log_names}
use Rattle.onll_open.specs.Devices.{IsDeviceAt, front_by, fronts_by}
use Rattle.onll_open.proofs.Handing.{counts_more, none_counted, others_on, same_after}
use Rattle.onll_open.proofs.Kept.{device_failed}
use Rattle.onll_open.proofs.Reopening.{device_of_head, keep_none, keep_next, keep_same, front_at, fronts_many, within_many, within_at, begins_at, begins_next, reopened_start, reopened_next, reopened_end, here_at}
use Rattle.onll_open.proofs.devices.open_devices.Goals as goal

pub returns-in_err-devices-clause-files : goal.returns-in_err-devices-clause-files
returns-in_err-devices-clause-files g c =
    let store = g.S.Store.seen c.args.store.now in
    keep_none c.args.logs.now 0 (fronts_by c.args.held.now c.args.images.now) store c.requires.begins

pub loop-thread-init : goal.loop-thread-init
loop-thread-init g c =
    let store = g.S.Store.seen c.args.store.now in
    let fronts = fronts_by c.args.held.now c.args.images.now in
    let begins = c.requires.begins in
    record {
      so = reopened_start g.S.Dev.Pmem.means fronts c.args.lines.now c.in_ok-devices.devices.items c.in_ok-devices.ensures.items;
      counts = ((refl, refl), (refl, refl));
      left = begins;
      files = keep_none c.args.logs.now 0 fronts store begins;
      others = record { tells = refl; file = λ other differs. refl };
      room = c.in_ok-devices.ensures.capacity;
    }

pub bounds-lines-thread : goal.bounds-lines-thread
bounds-lines-thread g c =
    let many = within_many c.args.images.now c.args.lines.now c.requires.room in
    omega (arith, many)

pub open_device-requires-clause-front : goal.open_device-requires-clause-front
open_device-requires-clause-front g c κs bounds =
    let images = c.args.images.now in
    let t = c.loop-thread.thread in
    let within = within_at images c.args.lines.now t c.requires.room (omega arith) in
    let here = here_at images t c.index-images-thread.result [] (omega arith) c.index-images-thread.is in
    let count = ap length here in
    let value = ap length c.as_slice.ensures in
    let mapped = length-map c.as_slice.result.now (λ (line : Line). line.w) in
    let few = c.front_of-front.ensures.few in
    omega (arith, within, count, value, mapped, few)

pub open_device-requires-clause-begins : goal.open_device-requires-clause-begins
open_device-requires-clause-begins g c κs bounds =
    let images = c.args.images.now in
    let fronts = fronts_by c.args.held.now images in
    let none : LogCounts = record { head = false; entries = 0; lines = 0 } in
    let t = c.loop-thread.thread in
    let fs = fronts_many c.args.held.now images c.requires.many in
    let mid = g.S.Store.seen c.loop-thread.store in
    let front : words_of c.front_of-front.result.now ≡ get_or fronts t [] =
    c.front_of-front.ensures.words ∙ ap (front_by (get_or c.args.held.now t none).head) c.as_slice.ensures
    ∙ ap (front_by (get_or c.args.held.now t none).head) (sym (here_at images t c.index-images-thread.result [] (omega arith) c.index-images-thread.is))
    ∙ sym (front_at c.args.held.now images t none c.requires.many (omega arith)) in
    subst (BeginsAs mid (log_name c.args.logs.now t)) (sym front) (begins_at c.args.logs.now t t fronts mid (omega (arith, fs)) c.loop-thread.invariant.left)

pub returns-in-Err-clause-files : goal.returns-in-Err-clause-files
returns-in-Err-clause-files g c =
    let images = c.args.images.now in
    let fronts = fronts_by c.args.held.now images in
    let none : LogCounts = record { head = false; entries = 0; lines = 0 } in
    let t = c.loop-thread.thread in
    let few = c.requires.few in
    let fs = fronts_many c.args.held.now images c.requires.many in
    let old = g.S.Store.seen c.args.store.now in
    let mid = g.S.Store.seen c.loop-thread.store in
    let new = g.S.Store.seen c.open_device.new.store in
    let front : words_of c.front_of-front.result.now ≡ get_or fronts t [] =
    c.front_of-front.ensures.words ∙ ap (front_by (get_or c.args.held.now t none).head) c.as_slice.ensures
    ∙ ap (front_by (get_or c.args.held.now t none).head) (sym (here_at images t c.index-images-thread.result [] (omega arith) c.index-images-thread.is))
    ∙ sym (front_at c.args.held.now images t none c.requires.many (omega arith)) in
    keep_same c.args.logs.now 0 fronts old new (g.S.Store.seen c.give_up_all.new.store) c.give_up_all.ensures.files
    (keep_next c.args.logs.now 0 t t fronts old mid new (omega arith) (omega (arith, fs)) (omega (arith, fs, few)) c.loop-thread.invariant.others.tells
    (subst (λ (f : List (List ℕ)). KeepsFront (log_name c.args.logs.now t) f mid new) front c.in-Err.ensures.file) c.in-Err.ensures.others c.loop-thread.invariant.files)

pub returns-in-Err-clause-others : goal.returns-in-Err-clause-others
returns-in-Err-clause-others g c =
    same_after (log_names c.args.logs.now 0 (length c.args.images.now)) (g.S.Store.seen c.args.store.now) (g.S.Store.seen c.open_device.new.store) (g.S.Store.seen c.give_up_all.new.store)
    (others_on (g.S.Store.seen c.args.store.now) (g.S.Store.seen c.loop-thread.store) (g.S.Store.seen c.open_device.new.store) c.args.logs.now (length c.args.images.now) c.loop-thread.thread (omega arith) c.loop-thread.invariant.others c.in-Err.ensures.others)
    c.give_up_all.ensures.files

pub loop-thread-preserved : goal.loop-thread-preserved
loop-thread-preserved g c =
    let images = c.args.images.now in
    let fronts = fronts_by c.args.held.now images in
    let none : LogCounts = record { head = false; entries = 0; lines = 0 } in
    let t = c.loop-thread.thread in
    let few = c.requires.few in
    let fs = fronts_many c.args.held.now images c.requires.many in
    let within = within_many images c.args.lines.now c.requires.room in
    let old = g.S.Store.seen c.args.store.now in
    let mid = g.S.Store.seen c.loop-thread.store in
    let new = g.S.Store.seen c.open_device.new.store in
    let front : words_of c.front_of-front.result.now ≡ get_or fronts t [] =
    c.front_of-front.ensures.words ∙ ap (front_by (get_or c.args.held.now t none).head) c.as_slice.ensures
    ∙ ap (front_by (get_or c.args.held.now t none).head) (sym (here_at images t c.index-images-thread.result [] (omega arith) c.index-images-thread.is))
    ∙ sym (front_at c.args.held.now images t none c.requires.many (omega arith)) in
    record {
      so = reopened_next g.S.Dev.Pmem.means fronts c.args.lines.now c.loop-thread.devices.items c.push_reserved.new.self.items c.in-Ok.device t (get_or c.args.lines.now t 0) (words_of c.front_of-front.result.now)
          (omega (arith, fs)) (omega (arith, within)) refl front c.push_reserved.ensures.items c.loop-thread.invariant.so c.in-Ok.ensures.made;
      counts = counts_more old mid new c.loop-thread.invariant.counts c.in-Ok.ensures.counts;
      left = begins_next c.args.logs.now t fronts mid new (omega (arith, fs)) (omega (arith, fs, few)) c.in-Ok.ensures.others c.loop-thread.invariant.left;
      files = keep_next c.args.logs.now 0 t t fronts old mid new (omega arith) (omega (arith, fs)) (omega (arith, fs, few)) c.loop-thread.invariant.others.tells
          (subst (λ (f : List (List ℕ)). KeepsFront (log_name c.args.logs.now t) f mid new) front c.in-Ok.ensures.file) c.in-Ok.ensures.others c.loop-thread.invariant.files;
      others = others_on old mid new c.args.logs.now (length c.args.images.now) t (omega arith) c.loop-thread.invariant.others c.in-Ok.ensures.others;
      room = let room = c.loop-thread.invariant.room in let same = c.push_reserved.ensures.capacity in omega (arith, room, same);
    }

pub returns-clause-made : goal.returns-clause-made
returns-clause-made g c =
    let fronts = fronts_by c.args.held.now c.args.images.now in
    let fs = fronts_many c.args.held.now c.args.images.now c.requires.many in
    let within = within_many c.args.images.now c.args.lines.now c.requires.room in
    reopened_end g.S.Dev.Pmem.means fronts c.args.lines.now c.loop-thread.devices.items c.loop-thread.thread (drop_all c.loop-thread.thread fronts (omega (arith, fs)))
    (drop_all c.loop-thread.thread c.args.lines.now (omega (arith, within))) c.loop-thread.invariant.so

pub returns-in-Err-clause-faults : goal.returns-in-Err-clause-faults
returns-in-Err-clause-faults g c =
    device_failed c.args.logs.now (length c.args.images.now) c.loop-thread.thread (g.S.Store.seen c.args.store.now) (g.S.Store.seen c.loop-thread.store) (g.S.Store.seen c.open_device.new.store) (g.S.Store.seen c.give_up_all.new.store) c.in-Err.fault
    (omega arith) c.loop-thread.invariant.counts.0 c.give_up_all.ensures.faults c.in-Err.ensures.faults

pub returns-in-Err-clause-none : goal.returns-in-Err-clause-none
returns-in-Err-clause-none g c =
    none_counted g.S.Dev.Pmem.means c.loop-thread.devices.items (g.S.Store.seen c.args.store.now) (g.S.Store.seen c.loop-thread.store) (g.S.Store.seen c.open_device.new.store) (g.S.Store.seen c.give_up_all.new.store)
    c.loop-thread.invariant.so.unused c.loop-thread.invariant.counts.1 c.in-Err.ensures.devices c.give_up_all.ensures.devices

pub returns-in-Err-clause-which : goal.returns-in-Err-clause-which
returns-in-Err-clause-which g c =
    let images = c.args.images.now in
    let none : LogCounts = record { head = false; entries = 0; lines = 0 } in
    let t = c.loop-thread.thread in
    let front : words_of c.front_of-front.result.now ≡ get_or (fronts_by c.args.held.now images) t [] =
    c.front_of-front.ensures.words ∙ ap (front_by (get_or c.args.held.now t none).head) c.as_slice.ensures
    ∙ ap (front_by (get_or c.args.held.now t none).head) (sym (here_at images t c.index-images-thread.result [] (omega arith) c.index-images-thread.is))
    ∙ sym (front_at c.args.held.now images t none c.requires.many (omega arith)) in
    device_of_head c.args.held.now images t c.in-Err.fault c.requires.many (omega arith) c.requires.heads (subst (λ (f : List (List ℕ)). IsDeviceAt f t c.in-Err.fault) front c.in-Err.ensures.which)
