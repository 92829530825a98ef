use Rattle.std.proofs.Common.{rules, ◌≡◌, ◌≤◌, length, map, replicate, sym, ap, ◌∙◌, subst}
use Rattle.std.proofs.lemmas.List.{length-map}
use Rattle.onll_model.specs.Limits.{most_threads}
use Rattle.onll_pmem.specs.Device.{zero_lines}
use Rattle.onll_merge.specs.Recovered.{recovered_in}
use Rattle.onll_log.specs.Head.{AreHeads}
use Rattle.onll_open.specs.Devices.{no_counts}
use Rattle.onll_text.specs.Kinds.{kind_by}
use Rattle.onll_runner.proofs.RunSteps.{all_updates, made_heads}
use Rattle.onll_runner.proofs.NewGrounds.{new_ground, runs_anew}
use Rattle.onll_runner.proofs.run.run_calls.Goals as goal

pub run_over-requires-clause-ground : goal.run_over-requires-clause-ground
run_over-requires-clause-ground g c κs within =
    let scripts = c.args.scripts.items in
    let calls = map (λ script. script.items) scripts in
    let count : c.len.result ≡ length scripts = search rules in
    let count_2 : c.len-2.result ≡ length scripts = search rules in
    let same = sym (length-map scripts (λ script. script.items)) in
    let as_many = c.in_ok-heads.ensures.count ∙ count ∙ same in
    let found = c.in_ok-found.found in
    let many = ap length c.in_ok-found.ensures.heads ∙ as_many in
    let images = c.in_ok-found.ensures.images ∙ ap (λ n. replicate n (zero_lines 1)) as_many in
    let counts = c.in_ok-counts.ensures ∙ ap (λ n. replicate n 0) (count_2 ∙ same) in
    let logs = c.in_ok-found.ensures.counts ∙ ap (λ n. replicate n no_counts) as_many in
    new_ground g.O.Object.means c.args.logs.now found.heads.items (recovered_in found.recovery) found.images.items c.in_ok-counts.counts.items calls (g.S.Store.seen c.args.store.now)
    (subst (λ n. n ≤ most_threads) same c.requires.few.1) (all_updates (λ script. script.items) scripts c.requires.updates) many
    (subst (AreHeads (length calls) 0) (sym c.in_ok-found.ensures.heads) (subst (λ n. AreHeads n 0 c.in_ok-heads.heads.items) (count ∙ same) c.in_ok-heads.ensures.fit)) images counts logs c.in_ok-found.ensures.nodes

pub returns : goal.returns
returns g c = λ threads stands.
    let scripts = c.args.scripts.items in
    let calls = map (λ script. script.items) scripts in
    let count : c.len.result ≡ length scripts = search rules in
    let count_2 : c.len-2.result ≡ length scripts = search rules in
    let same = sym (length-map scripts (λ script. script.items)) in
    let as_many = c.in_ok-heads.ensures.count ∙ count ∙ same in
    let found = c.in_ok-found.found in
    let many = ap length c.in_ok-found.ensures.heads ∙ as_many in
    let images = c.in_ok-found.ensures.images ∙ ap (λ n. replicate n (zero_lines 1)) as_many in
    let counts = c.in_ok-counts.ensures ∙ ap (λ n. replicate n 0) (count_2 ∙ same) in
    let logs = c.in_ok-found.ensures.counts ∙ ap (λ n. replicate n no_counts) as_many in
    let k = kind_by g.O.Object.means g.O.Texted.wording g.O.Object.CODE in
    let created = c.in_ok-found.ensures.heads ∙ made_heads (λ script. script.items) scripts c.args.init.now c.len.result c.CODE.result g.O.Object.CODE c.in_ok-heads.heads.items count c.in_ok-heads.ensures.heads c.CODE.ensures in
    runs_anew k (λ script. script.items) c.args.init.now c.args.logs.now c.args.object scripts found.heads.items (recovered_in found.recovery) found.images.items c.in_ok-counts.counts.items threads
    (g.S.Store.seen c.args.store.now) (g.S.Store.seen c.run_over.new.store) c.run_over.result created many images counts logs c.in_ok-found.ensures.nodes (c.run_over.ensures threads stands)
