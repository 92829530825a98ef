use Rattle.std.proofs.Common.{ℕ, ◌≡◌, ◌∙◌, sym, ap, length, map}
use Rattle.std.proofs.lemmas.List.{length-map}
use Rattle.onll_core.specs.First.{first_threads}
use Rattle.onll_log.specs.Head.{heads_from}
use Rattle.onll_core.proofs.Firsts.{created_keeps, within_limits}
use Rattle.onll_core.proofs.step_core.Core.create.Goals as goal

pub invariant_of-result : goal.invariant_of-result
invariant_of-result g c =
    let size : c.len-threads.result ≡ length c.args.scripts.items = c.len-threads.ensures ∙ c.args.scripts.ok.0 in
    created_keeps g.O.Object.means c.args.object g.O.Object.CODE c.args.init.now (map (λ script. script.items) c.args.scripts.items)
    (within_limits (λ script. script.items) g.O.Object.CODE c.args.scripts.items g.met.O.Object.code_in_range c.requires.few c.requires.updates)
    c.len-threads.result (size ∙ sym (length-map c.args.scripts.items (λ script. script.items))) _ _ c.in_ok-trace.trace.items c.in_ok-flags.flags.items c.in_ok-workers.workers.items c.in_ok-locals.locals.items
    c.in_ok-trace.ensures c.in_ok-flags.ensures
    (c.in_ok-workers.ensures ∙ ap (λ (n : ℕ). first_threads (heads_from n g.O.Object.CODE c.args.init.now 0 n) (map (λ script. script.items) c.args.scripts.items)) (sym size))
    c.in_ok-locals.ensures
