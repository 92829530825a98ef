use Rattle.std.proofs.Common.{rules, ◌≡◌, ◌∷◌, ◌++◌, [], List, ◌∙◌, ap, sym, subst}
use Rattle.std.specs.Prelude.{reverse}
use Rattle.std.specs.List.{AllByRecursion}
use Rattle.onll_model.specs.Trace.{state_after}
use Rattle.onll_model.proofs.Lists.{all_left}
use Rattle.onll_trace.specs.declared.trace.Post.{Post}
use Rattle.onll_shared.specs.Walks.{MetAbove, nodes_at}
use Rattle.onll_shared.proofs.Between.{applied_post}
use Rattle.onll_shared.proofs.walk.apply_listed.Goals as goal

pub loop-post-preserved : goal.loop-post-preserved
loop-post-preserved g c =
    let last : c.loop-post.list.items ≡ c.pop.new.self.items ++ c.in-Some.post ∷ [] = search rules in
    let all = subst (λ (posts : List Post). AllByRecursion (λ (post : Post). MetAbove c.args.spot.now post) posts) last c.loop-post.invariant.met in
    record {
      spot = search rules;
      met = all_left (λ (post : Post). MetAbove c.args.spot.now post) c.pop.new.self.items (c.in-Some.post ∷ []) all;
      object =
          ap (λ s. state_after g.O.Object.means s (reverse (nodes_at c.args.spot.now.known c.pop.new.self.items))) c.apply_row.ensures
          ∙ sym (applied_post g.O.Object.means c.loop-post.object c.args.spot.now.known c.loop-post.list.items c.pop.new.self.items c.in-Some.post c.node.result
          last (search rules))
          ∙ c.loop-post.invariant.object;
      room = search rules;
    }
