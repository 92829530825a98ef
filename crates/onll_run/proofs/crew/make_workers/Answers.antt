use Rattle.std.proofs.Common.{rules, ◌≤◌, ◌∷◌, [], length, map, refl, sym, ap, ◌∙◌, subst, arith, vec_capacity}
use Rattle.std.proofs.lemmas.List.{map-append, length-map}
use Rattle.onll_run.proofs.Crewing.{IsMaking, making_none, making_one, making_all}
use Rattle.onll_run.proofs.crew.make_workers.Goals as goal

pub loop-pass-preserved : goal.loop-pass-preserved
loop-pass-preserved g c = let many : length c.in-Some-pop.script.items ≤ vec_capacity c.in_ok-ends.ends = search (rules, arith) in making_one _ _ _ _ _ _ c.loop-pass.invariant _ _ _ _ _
    (ap (map (λ script. script.items)) c.in-Some-pop.ensures.items ∙ map-append (λ script. script.items) c.pop-in-Some.new.self.items (c.in-Some-pop.script ∷ []))
    c.in-Some.ensures.items refl refl (record { onll_is = refl; empty = c.in_ok-ends.ensures.items; many = many }) _ c.in_ok-push.ensures.items

pub loop-pass-init : goal.loop-pass-init
loop-pass-init g c = subst (λ ws. IsMaking c.args.onll.now (map (λ script. script.items) c.args.scripts.items) c.args.passes.items (map (λ script. script.items) c.args.scripts.items) c.args.passes.items ws)
    (sym c.in_ok-workers.ensures.items) (making_none _ _ _ (length-map c.args.scripts.items (λ script. script.items) ∙ c.requires))

pub returns : goal.returns
returns g c = making_all _ _ _ _ _ _ c.loop-pass.invariant _ (search rules) c.reverse.ensures.items
