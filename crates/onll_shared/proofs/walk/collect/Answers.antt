use Rattle.std.proofs.Common.{rules, ◌∷◌, [], ◌∙◌, List, ℕ, ap, sym, subst}
use Rattle.std.specs.Prelude.{reverse}
use Rattle.std.specs.List.{AllByRecursion}
use Rattle.onll_model.specs.Segment.{nodes_between}
use Rattle.onll_trace.specs.declared.trace.Post.{Post}
use Rattle.onll_shared.specs.Walks.{MetAbove, nodes_at}
use Rattle.onll_model.proofs.Lists.{all_append}
use Rattle.onll_shared.proofs.Between.{posts_down}
use Rattle.onll_shared.proofs.walk.collect.Goals as goal

pub loop-post-preserved : goal.loop-post-preserved
loop-post-preserved c = record {
  spot = search rules;
  met = search rules;
  above = search rules;
  below = search rules;
  posts =
      subst (λ (posts : List Post). AllByRecursion (λ (post : Post). MetAbove c.args.spot.now post) posts) (sym c.push_reserved.ensures.items)
      (all_append (λ (post : Post). MetAbove c.args.spot.now post) c.loop-post.list.items (c.loop-post.post ∷ []) c.loop-post.invariant.posts
      (record { met = search rules }, tt));
  nodes =
      ap (λ (posts : List Post). reverse (nodes_at c.args.spot.now.known posts)) c.push_reserved.ensures.items
      ∙ posts_down c.args.spot.now.known c.args.to.place c.loop-post.list.items c.loop-post.post (search rules) (search rules) (search rules) c.loop-post.invariant.nodes
      ∙ ap (λ (n : ℕ). nodes_between c.args.spot.now.known n c.args.to.place) (sym c.before-post.ensures.place);
  many = search rules;
  room = search rules;
}
