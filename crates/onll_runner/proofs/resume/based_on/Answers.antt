use Rattle.std.proofs.Common.{rules, ◌≡◌, Err, length, map, string_bytes, sym, ap, ◌∙◌, subst}
use Rattle.std.proofs.lemmas.List.{length-map, map-id}
use Rattle.onll_merge.specs.Recovered.{recovered_in}
use Rattle.onll_log.specs.Head.{AreHeads}
use Rattle.onll_start.specs.Start.{base_in}
use Rattle.onll_open.specs.Names.{log_names}
use Rattle.onll_text.specs.Kinds.{kind_by}
use Rattle.onll_runner.specs.ResumeJob.{AreKeptImages}
use Rattle.onll_runner.proofs.RunSteps.{made_heads}
use Rattle.onll_runner.proofs.Based.{found_does, refused_does, sized_again}
use Rattle.onll_runner.proofs.NewGrounds.{found_ground}
use Rattle.onll_runner.proofs.resume.based_on.Goals as goal

pub find_start-requires-clause-heads : goal.find_start-requires-clause-heads
find_start-requires-clause-heads g c κs within =
    let count : c.len.result ≡ length c.args.scripts.items = search rules in
    ap length c.deref.ensures.value ∙ c.in_ok-heads.ensures.count ∙ count ∙ sym (ap length c.deref-3.ensures.value)

pub run_over-requires-clause-ground : goal.run_over-requires-clause-ground
run_over-requires-clause-ground g c κs within =
    let k = kind_by g.O.Object.means g.O.Texted.wording g.O.Object.CODE in
    let scripts = c.args.scripts.items in
    let calls = map (λ script. script.items) scripts in
    let count : c.len.result ≡ length scripts = search rules in
    let same = sym (length-map scripts (λ script. script.items)) in
    let found = rw (c.deref.ensures.value, c.deref-3.ensures.value, c.deref-2.ensures.value, map-id c.args.kept.images.items) at c.in-Ok.ensures.base in
    found_ground k.means c.args.from.now.logs.now c.in_ok-heads.heads.items (recovered_in c.in-Ok.recovery) c.args.kept.images.items c.args.kept.counts.items calls (g.S.Store.seen c.args.store.now)
    (c.in_ok-heads.ensures.count ∙ count ∙ same) (subst (λ n. AreHeads n 0 c.in_ok-heads.heads.items) (count ∙ same) c.in_ok-heads.ensures.fit)
    (subst (λ n. AreKeptImages c.args.from.now.logs.now n c.args.kept.images.items c.args.kept.counts.items (g.S.Store.seen c.args.store.now)) same c.requires.images) found

pub returns-in-Ok : goal.returns-in-Ok
returns-in-Ok g c = λ threads stands.
    let k = kind_by g.O.Object.means g.O.Texted.wording g.O.Object.CODE in
    let scripts = c.args.scripts.items in
    let calls = map (λ script. script.items) scripts in
    let images = c.args.kept.images.items in
    let count : c.len.result ≡ length scripts = search rules in
    let same = sym (length-map scripts (λ script. script.items)) in
    let heads = c.in_ok-heads.heads.items in
    let created = made_heads (λ script. script.items) scripts c.args.from.now.init.now c.len.result c.CODE.result g.O.Object.CODE heads count c.in_ok-heads.ensures.heads c.CODE.ensures in
    let found = rw (c.deref.ensures.value, c.deref-3.ensures.value, c.deref-2.ensures.value, map-id images) at c.in-Ok.ensures.base in
    let store = g.S.Store.seen c.args.store.now in
    found_does {k = k} threads c.args.from.now.init.now c.args.from.now.logs.now (map string_bytes c.args.from.now.names.now) c.args.object (log_names c.args.from.now.logs.now 0 (length scripts)) heads calls images created
    store (g.S.Store.seen c.run_over.new.store) c.run_over.result found.all found.is
    (sized_again k (λ script. script.items) c.args.from.now.logs.now heads scripts images c.args.kept.counts.items store (recovered_in c.in-Ok.recovery) found c.args.object threads
    (subst (λ n. AreKeptImages c.args.from.now.logs.now n images c.args.kept.counts.items store) same c.requires.images) (g.S.Store.seen c.run_over.new.store) c.run_over.result (c.run_over.ensures threads stands))

pub returns : goal.returns
returns g c = λ threads stands.
    let k = kind_by g.O.Object.means g.O.Texted.wording g.O.Object.CODE in
    let scripts = c.args.scripts.items in
    let calls = map (λ script. script.items) scripts in
    let images = c.args.kept.images.items in
    let count : c.len.result ≡ length scripts = search rules in
    let heads = c.in_ok-heads.heads.items in
    let created = made_heads (λ script. script.items) scripts c.args.from.now.init.now c.len.result c.CODE.result g.O.Object.CODE heads count c.in_ok-heads.ensures.heads c.CODE.ensures in
    let refused : base_in k.means c.deref.result.now (map (λ script. script.items) c.deref-3.result.now) (map (λ i. i) c.deref-2.result.now) ≡ Err c.in-Err.fault = search rules in
    let is = rw (c.deref.ensures.value, c.deref-3.ensures.value, c.deref-2.ensures.value, map-id images) at refused in
    refused_does {k = k} threads c.args.from.now.init.now c.args.from.now.logs.now (map string_bytes c.args.from.now.names.now) c.args.object (log_names c.args.from.now.logs.now 0 (length scripts)) heads calls images created
    (g.S.Store.seen c.args.store.now) c.not_resumed.result c.in-Err.fault is c.not_resumed.ensures
