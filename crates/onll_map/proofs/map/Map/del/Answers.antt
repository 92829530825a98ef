use Rattle.std.proofs.Common.{subst}
use Rattle.onll_map.specs.Map.{IsMap}
use Rattle.onll_map.specs.declared.operation.MapOp.TheVariants.{Del}
use Rattle.onll_map.proofs.Sets.{del_sets}
use Rattle.onll_map.proofs.Steps.{del-place, del_reply-place, del-gap, del_reply-gap, still_map}
use Rattle.onll_map.proofs.map.Map.del.Goals as goal

pub returns-in-Ok-clause-next : goal.returns-in-Ok-clause-next
returns-in-Ok-clause-next c = del-place _ _ c.self.view_is c.args.k c.in-Ok.at c.remove.new.self.items c.in-Ok.ensures.found c.remove.ensures.items

pub returns-in-Ok-clause-reply : goal.returns-in-Ok-clause-reply
returns-in-Ok-clause-reply c = del_reply-place _ _ c.self.view_is c.args.k c.in-Ok.at c.remove.result c.in-Ok.ensures.found c.remove.ensures.value

pub invariant_of-self : goal.invariant_of-self
invariant_of-self c =
    let step = del-place _ _ c.self.view_is c.args.k c.in-Ok.at c.remove.new.self.items c.in-Ok.ensures.found c.remove.ensures.items in
    (still_map _ _ _ (Del c.args.k) c.self.view_is c.self.invariant.0 step, rw c.remove.ensures.capacity c.self.invariant.1)

pub returns-in-Err-clause-next : goal.returns-in-Err-clause-next
returns-in-Err-clause-next c = del-gap c.args.self.now c.args.k c.in-Err.field-0 c.in-Err.ensures.absent

pub returns-in-Err-clause-reply : goal.returns-in-Err-clause-reply
returns-in-Err-clause-reply c = del_reply-gap c.args.self.now c.args.k c.in-Err.field-0 c.in-Err.ensures.absent

pub returns-in-Ok-clause-sets : goal.returns-in-Ok-clause-sets
returns-in-Ok-clause-sets c = del_sets c.args.self.now _ c.args.k (subst IsMap c.self.view_is c.self.invariant.0) (returns-in-Ok-clause-next c)

pub returns-in-Err-clause-sets : goal.returns-in-Err-clause-sets
returns-in-Err-clause-sets c = del_sets c.args.self.now _ c.args.k (subst IsMap c.self.view_is c.self.invariant.0) (returns-in-Err-clause-next c)
