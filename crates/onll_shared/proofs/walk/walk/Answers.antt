use Rattle.std.proofs.Common.{◌≡◌, Some, Bool, sym, ap, ◌∙◌, subst}
use Rattle.onll_model.specs.Trace.{node_at}
use Rattle.onll_trace.specs.Hands.{after_flag}
use Rattle.onll_trace.specs.Spots.{SpotView, IsOf, IsLawful, base_of, becoming}
use Rattle.onll_shared.specs.Walks.{Met}
use Rattle.onll_shared.proofs.Walking.{WalksOn, walk_starts, walk_goes_on}
use Rattle.onll_shared.proofs.walk.walk.Goals as goal

pub loop-post-init : goal.loop-post-init
loop-post-init c = record { of = c.requires.of; on = walk_starts c.args.spot.now c.args.front c.args.window.now.items c.requires.begins }

pub loop-post-preserved : goal.loop-post-preserved
loop-post-preserved c =
    let same : c.before-post.new.spot ≡ c.flag.new.spot = c.before-post.ensures.same ∙ c.node.ensures.same in
    let s : SpotView = c.loop-post.spot in
    let e = c.flag.ensures.flagged ∙ ap (λ (q : Bool). becoming s s.known (after_flag (base_of s) s.known s.me q)) c.if-flag.false in
    let at = subst (λ (v : SpotView). node_at v.known c.loop-post.post.place ≡ Some c.node.result) (sym same) c.node.ensures.node in
    let met = subst (λ (v : SpotView). Met v c.before-post.result) (sym c.before-post.ensures.same) c.before-post.ensures.met in
    let on = walk_goes_on c.args.spot.now c.args.front.place s c.loop-post.post c.loop-post.window.items c.before-post.new.spot c.node.result c.before-post.result
    c.loop-post.invariant.on c.loop-post-test.true (same ∙ e) (subst IsLawful (sym same) c.flag.ensures.lawful) at c.before-post.ensures.place met in
    record {
      of = subst (IsOf c.args.trace.now) (sym same) c.flag.ensures.of;
      on = subst (WalksOn c.args.spot.now c.args.front.place c.before-post.new.spot c.before-post.result) (sym c.push.ensures.items) on;
    }
