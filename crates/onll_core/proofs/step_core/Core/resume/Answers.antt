use Rattle.std.proofs.Common.{ℕ, ◌≡◌, ◌*◌, ◌≤◌, ◌∙◌, inr, None, length, map, ap, sym, arith}
use Rattle.std.proofs.lemmas.List.{length-map}
use Rattle.std.specs.Vec.{vec_capacity}
use Rattle.onll_model.specs.Trace.{state_after}
use Rattle.onll_pmem.specs.Pmem.{words_of}
use Rattle.onll_merge.specs.Recovered.{recovered_in}
use Rattle.onll_start.specs.Heads.{created_heads}
use Rattle.onll_log.specs.Head.{heads_from}
use Rattle.onll_start.specs.Start.{found_in, too_many}
use Rattle.onll_start.specs.Found.{IsFound}
use Rattle.onll_start.proofs.Heads.{length-heads_from}
use Rattle.onll_core.proofs.Firsts.{within_limits}
use Rattle.onll_core.proofs.FoundCores.{logs_many, refused, made_roomy, made_keeps, made_is}
use Rattle.onll_core.proofs.step_core.Core.resume.Goals as goal

pub find-requires-after_bounds : goal.find-requires-after_bounds
find-requires-after_bounds g c κs within =
    ap length c.deref.ensures.value ∙ (ap length c.in_ok-heads.ensures.heads ∙ (length-heads_from c.len-threads.result c.CODE.result c.args.init.now 0 c.len-threads.result ∙ (c.len-threads.ensures ∙ (c.args.scripts.ok.0 ∙ sym c.requires.images))))

pub check_room-requires-clause-logs : goal.check_room-requires-clause-logs
check_room-requires-clause-logs g c κs bounds =
    let S = map (λ script. script.items) c.args.scripts.items in
    let I = map (λ image. words_of image.items) c.args.images.now in
    let many : length S ≡ length c.args.scripts.items = length-map c.args.scripts.items (λ script. script.items) in
    let threads : c.len-threads.result ≡ length c.args.scripts.items = c.len-threads.ensures ∙ c.args.scripts.ok.0 in
    let heads : c.in_ok-heads.heads.items ≡ created_heads g.O.Object.CODE c.args.init.now S = (rw c.CODE.ensures at c.in_ok-heads.ensures.heads) ∙ ap (λ (n : ℕ). heads_from n g.O.Object.CODE c.args.init.now 0 n) (threads ∙ sym many) in
    let within = within_limits (λ script. script.items) g.O.Object.CODE c.args.scripts.items g.met.O.Object.code_in_range c.requires.few c.requires.updates in
    let as_many : length I ≡ length S = length-map c.args.images.now (λ image. words_of image.items) ∙ (c.requires.images ∙ sym many) in
    let found : IsFound (found_in g.O.Object.means c.in_ok-heads.heads.items I) (recovered_in c.in_ok-found.found) = rw c.deref.ensures.value at c.in_ok-found.ensures.found in
    ap length c.deref-3.ensures.value ∙ (logs_many g.O.Object.means g.O.Object.CODE c.args.init.now c.args.object S within I c.told_lines.ensures as_many c.in_ok-heads.heads.items heads (recovered_in c.in_ok-found.found) found ∙ (many ∙ ap length (sym c.deref-4.ensures.value)))

pub returns-in-Err : goal.returns-in-Err
returns-in-Err g c =
    let S = map (λ script. script.items) c.args.scripts.items in
    let I = map (λ image. words_of image.items) c.args.images.now in
    let many : length S ≡ length c.args.scripts.items = length-map c.args.scripts.items (λ script. script.items) in
    let threads : c.len-threads.result ≡ length c.args.scripts.items = c.len-threads.ensures ∙ c.args.scripts.ok.0 in
    let heads : c.in_ok-heads.heads.items ≡ created_heads g.O.Object.CODE c.args.init.now S = (rw c.CODE.ensures at c.in_ok-heads.ensures.heads) ∙ ap (λ (n : ℕ). heads_from n g.O.Object.CODE c.args.init.now 0 n) (threads ∙ sym many) in
    let within = within_limits (λ script. script.items) g.O.Object.CODE c.args.scripts.items g.met.O.Object.code_in_range c.requires.few c.requires.updates in
    let as_many : length I ≡ length S = length-map c.args.images.now (λ image. words_of image.items) ∙ (c.requires.images ∙ sym many) in
    let found : IsFound (found_in g.O.Object.means c.in_ok-heads.heads.items I) (recovered_in c.in_ok-found.found) = rw c.deref.ensures.value at c.in_ok-found.ensures.found in
    inr (refused g.O.Object.means g.O.Object.CODE c.args.init.now c.args.object S within I c.told_lines.ensures as_many c.in_ok-heads.heads.items heads (recovered_in c.in_ok-found.found) found (length c.args.scripts.items) c.in-Err.fault (sym many) (rw (c.deref-2.ensures.value, c.deref-3.ensures.value, c.deref-4.ensures.value) at c.in-Err.ensures.room))

pub found_workers-requires-after_bounds : goal.found_workers-requires-after_bounds
found_workers-requires-after_bounds g c κs bounds =
    let S = map (λ script. script.items) c.args.scripts.items in
    let I = map (λ image. words_of image.items) c.args.images.now in
    let many : length S ≡ length c.args.scripts.items = length-map c.args.scripts.items (λ script. script.items) in
    let threads : c.len-threads.result ≡ length c.args.scripts.items = c.len-threads.ensures ∙ c.args.scripts.ok.0 in
    let heads : c.in_ok-heads.heads.items ≡ created_heads g.O.Object.CODE c.args.init.now S = (rw c.CODE.ensures at c.in_ok-heads.ensures.heads) ∙ ap (λ (n : ℕ). heads_from n g.O.Object.CODE c.args.init.now 0 n) (threads ∙ sym many) in
    let within = within_limits (λ script. script.items) g.O.Object.CODE c.args.scripts.items g.met.O.Object.code_in_range c.requires.few c.requires.updates in
    let as_many : length I ≡ length S = length-map c.args.images.now (λ image. words_of image.items) ∙ (c.requires.images ∙ sym many) in
    let found : IsFound (found_in g.O.Object.means c.in_ok-heads.heads.items I) (recovered_in c.in_ok-found.found) = rw c.deref.ensures.value at c.in_ok-found.ensures.found in
    let none : too_many (length c.args.scripts.items) c.in_ok-found.found.nodes.items 0 c.in_ok-found.found.logs.items S ≡ None = rw (c.deref-2.ensures.value, c.deref-3.ensures.value, c.deref-4.ensures.value) at c.in_default.ensures.room in
    rw (c.deref-7.ensures.value, c.deref-8.ensures.value) (made_roomy g.O.Object.means g.O.Object.CODE c.args.init.now c.args.object S within I c.told_lines.ensures as_many c.in_ok-heads.heads.items heads (recovered_in c.in_ok-found.found) found (length c.args.scripts.items) (sym many) none)

pub invariant_of-result : goal.invariant_of-result
invariant_of-result g c =
    let S = map (λ script. script.items) c.args.scripts.items in
    let I = map (λ image. words_of image.items) c.args.images.now in
    let many : length S ≡ length c.args.scripts.items = length-map c.args.scripts.items (λ script. script.items) in
    let threads : c.len-threads.result ≡ length c.args.scripts.items = c.len-threads.ensures ∙ c.args.scripts.ok.0 in
    let heads : c.in_ok-heads.heads.items ≡ created_heads g.O.Object.CODE c.args.init.now S = (rw c.CODE.ensures at c.in_ok-heads.ensures.heads) ∙ ap (λ (n : ℕ). heads_from n g.O.Object.CODE c.args.init.now 0 n) (threads ∙ sym many) in
    let within = within_limits (λ script. script.items) g.O.Object.CODE c.args.scripts.items g.met.O.Object.code_in_range c.requires.few c.requires.updates in
    let as_many : length I ≡ length S = length-map c.args.images.now (λ image. words_of image.items) ∙ (c.requires.images ∙ sym many) in
    let found : IsFound (found_in g.O.Object.means c.in_ok-heads.heads.items I) (recovered_in c.in_ok-found.found) = rw c.deref.ensures.value at c.in_ok-found.ensures.found in
    let none : too_many (length c.args.scripts.items) c.in_ok-found.found.nodes.items 0 c.in_ok-found.found.logs.items S ≡ None = rw (c.deref-2.ensures.value, c.deref-3.ensures.value, c.deref-4.ensures.value) at c.in_default.ensures.room in
    let after : c.find.new.object ≡ state_after g.O.Object.means c.args.object c.in_ok-found.found.nodes.items = c.in_ok-found.ensures.state ∙ ap (λ (s : _). state_after g.O.Object.means s c.in_ok-found.found.nodes.items) c.in_ok-after.ensures in
    let base : c.len-base.result ≡ length c.in_ok-found.found.nodes.items = c.len-base.ensures ∙ c.in_ok-found.found.nodes.ok.0 in
    let t : 4096 * length c.args.scripts.items ≤ vec_capacity c.in_ok-trace.trace = (let k = c.in_ok-trace.ensures.1 in omega arith) in
    let f : 4096 * length c.args.scripts.items ≤ vec_capacity c.in_ok-flags.flags = (let k = c.in_ok-flags.ensures.1 in omega arith) in
    let workers = rw (c.deref-7.ensures.value, c.deref-8.ensures.value) at c.in_ok-workers.ensures in
    let locals = (rw (c.deref-6.ensures.value, threads) at c.in_ok-locals.ensures) in
    made_keeps g.O.Object.means g.O.Object.CODE c.args.init.now c.args.object S within I c.told_lines.ensures as_many c.in_ok-heads.heads.items heads (recovered_in c.in_ok-found.found) found (length c.args.scripts.items) (sym many) none c.find.new.object after c.len-base.result (vec_capacity c.in_ok-trace.trace) (vec_capacity c.in_ok-flags.flags) c.in_ok-trace.trace.items c.in_ok-flags.flags.items c.in_ok-workers.workers.items c.in_ok-locals.locals.items base (c.in_ok-trace.ensures.0 ∙ c.deref-5.ensures.value, t) (c.in_ok-flags.ensures.0, f) workers locals

pub returns : goal.returns
returns g c =
    let S = map (λ script. script.items) c.args.scripts.items in
    let I = map (λ image. words_of image.items) c.args.images.now in
    let many : length S ≡ length c.args.scripts.items = length-map c.args.scripts.items (λ script. script.items) in
    let threads : c.len-threads.result ≡ length c.args.scripts.items = c.len-threads.ensures ∙ c.args.scripts.ok.0 in
    let heads : c.in_ok-heads.heads.items ≡ created_heads g.O.Object.CODE c.args.init.now S = (rw c.CODE.ensures at c.in_ok-heads.ensures.heads) ∙ ap (λ (n : ℕ). heads_from n g.O.Object.CODE c.args.init.now 0 n) (threads ∙ sym many) in
    let within = within_limits (λ script. script.items) g.O.Object.CODE c.args.scripts.items g.met.O.Object.code_in_range c.requires.few c.requires.updates in
    let as_many : length I ≡ length S = length-map c.args.images.now (λ image. words_of image.items) ∙ (c.requires.images ∙ sym many) in
    let found : IsFound (found_in g.O.Object.means c.in_ok-heads.heads.items I) (recovered_in c.in_ok-found.found) = rw c.deref.ensures.value at c.in_ok-found.ensures.found in
    let none : too_many (length c.args.scripts.items) c.in_ok-found.found.nodes.items 0 c.in_ok-found.found.logs.items S ≡ None = rw (c.deref-2.ensures.value, c.deref-3.ensures.value, c.deref-4.ensures.value) at c.in_default.ensures.room in
    let after : c.find.new.object ≡ state_after g.O.Object.means c.args.object c.in_ok-found.found.nodes.items = c.in_ok-found.ensures.state ∙ ap (λ (s : _). state_after g.O.Object.means s c.in_ok-found.found.nodes.items) c.in_ok-after.ensures in
    let base : c.len-base.result ≡ length c.in_ok-found.found.nodes.items = c.len-base.ensures ∙ c.in_ok-found.found.nodes.ok.0 in
    let t : 4096 * length c.args.scripts.items ≤ vec_capacity c.in_ok-trace.trace = (let k = c.in_ok-trace.ensures.1 in omega arith) in
    let f : 4096 * length c.args.scripts.items ≤ vec_capacity c.in_ok-flags.flags = (let k = c.in_ok-flags.ensures.1 in omega arith) in
    let workers = rw (c.deref-7.ensures.value, c.deref-8.ensures.value) at c.in_ok-workers.ensures in
    let locals = (rw (c.deref-6.ensures.value, threads) at c.in_ok-locals.ensures) in
    made_is g.O.Object.means g.O.Object.CODE c.args.init.now c.args.object S within I c.told_lines.ensures as_many c.in_ok-heads.heads.items heads (recovered_in c.in_ok-found.found) found (length c.args.scripts.items) (sym many) none c.find.new.object after c.len-base.result (vec_capacity c.in_ok-trace.trace) (vec_capacity c.in_ok-flags.flags) c.in_ok-trace.trace.items c.in_ok-flags.flags.items c.in_ok-workers.workers.items c.in_ok-locals.locals.items base (c.in_ok-trace.ensures.0 ∙ c.deref-5.ensures.value, t) (c.in_ok-flags.ensures.0, f) workers locals
