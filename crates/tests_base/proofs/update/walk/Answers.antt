use Rattle.std.proofs.Common.{rules, ◌≡◌, ◌∙◌, Bool, ap, sym, subst}
use mathlib.Core.Logic.{◌↔◌}
use Rattle.onll_trace.specs.Hands.{after_flag}
use Rattle.onll_trace.specs.Spots.{SpotView, IsOf, HasMet, base_of, becoming}
use Rattle.tests_base.proofs.Ordering.{walk_above, walk_next, walk_on}
use Rattle.tests_base.proofs.update.walk.Goals as goal

pub loop-post-init : goal.loop-post-init
loop-post-init c = c.requires

pub flag-requires-clause-met : goal.flag-requires-clause-met
flag-requires-clause-met c = search (rules, walk_above)

pub flag-requires-clause-next : goal.flag-requires-clause-next
flag-requires-clause-next c = search (rules, walk_next)

pub before-post-requires-clause-met : goal.before-post-requires-clause-met
before-post-requires-clause-met c = search (rules, walk_above)

pub loop-post-preserved : goal.loop-post-preserved
loop-post-preserved c =
    let s : SpotView = c.loop-post.spot in
    let same : c.flag.new.spot ≡ c.before-post.new.spot = sym c.before-post.ensures.same in
    let unset = c.before-post.ensures.same ∙ (c.flag.ensures.flagged ∙ ap (λ (q : Bool). becoming s s.known (after_flag (base_of s) s.known s.me q)) c.if-flag.false) in
    walk_on c.args.trace.now c.args.spot.now.me.thread s c.before-post.new.spot c.loop-post.post c.loop-post.invariant c.loop-post-test.true c.before-post.result
    (subst (IsOf c.args.trace.now) same c.flag.ensures.of) unset c.before-post.ensures.place
    (subst (λ (p : SpotView). HasMet p c.before-post.result.name c.before-post.result.place) same c.before-post.ensures.met)
    (subst (λ (p : SpotView). (c.before-post.result.name ≡ 0) ↔ (c.before-post.result.place ≡ base_of p)) same c.before-post.ensures.base)
