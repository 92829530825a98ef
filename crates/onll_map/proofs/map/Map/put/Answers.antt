use Rattle.std.proofs.Common.{◌≡◌, ◌<◌, length, arith}
use Rattle.onll_map.specs.declared.operation.MapOp.TheVariants.{Put}
use Rattle.onll_map.proofs.Sets.{put_sets}
use Rattle.onll_map.proofs.Steps.{put-place, put_reply-place, put-gap, put_reply-gap, put-full, put_reply-full, still_map}
use Rattle.onll_map.proofs.map.Map.put.Goals as goal

-- the key is at its place

pub returns-in-Ok-clause-next : goal.returns-in-Ok-clause-next
returns-in-Ok-clause-next c = put-place _ _ c.self.view_is c.args.k c.in-Ok.at c.args.v c.index_mut.result.now c.in-Ok.ensures.found c.index_mut.ensures.value

pub returns-in-Ok-clause-reply : goal.returns-in-Ok-clause-reply
returns-in-Ok-clause-reply c = put_reply-place _ _ c.self.view_is c.args.k c.in-Ok.at c.args.v c.index.result.now c.in-Ok.ensures.found c.index.ensures

pub invariant_of-self : goal.invariant_of-self
invariant_of-self c =
    let step = put-place _ _ c.self.view_is c.args.k c.in-Ok.at c.args.v c.index_mut.result.now c.in-Ok.ensures.found c.index_mut.ensures.value in
    (still_map _ _ _ (Put c.args.k c.args.v) c.self.view_is c.self.invariant.0 step, c.self.invariant.1)

-- it would go to a gap, and there is no room

pub returns-then-len-self-clause-next : goal.returns-then-len-self-clause-next
returns-then-len-self-clause-next c =
    let full : length c.self.inside.pairs.items ≡ c.self.inside.room = omega arith in
    put-full _ _ c.self.view_is c.args.k c.in-Err.at c.args.v c.in-Err.ensures.absent full

pub returns-then-len-self-clause-reply : goal.returns-then-len-self-clause-reply
returns-then-len-self-clause-reply c =
    let full : length c.self.inside.pairs.items ≡ c.self.inside.room = omega arith in
    put_reply-full _ _ c.self.view_is c.args.k c.in-Err.at c.args.v c.in-Err.ensures.absent full

-- there is

pub returns-in-Ok-insert-clause-next : goal.returns-in-Ok-insert-clause-next
returns-in-Ok-insert-clause-next c =
    let fits : length c.self.inside.pairs.items < c.self.inside.room = omega (arith, c.self.invariant.0.fits) in
    put-gap _ _ c.self.view_is c.args.k c.in-Err.at c.args.v c.insert.new.self.items c.in-Err.ensures.absent fits c.in-Ok-insert.ensures.items

pub returns-in-Ok-insert-clause-reply : goal.returns-in-Ok-insert-clause-reply
returns-in-Ok-insert-clause-reply c =
    let fits : length c.self.inside.pairs.items < c.self.inside.room = omega (arith, c.self.invariant.0.fits) in
    put_reply-gap _ _ c.self.view_is c.args.k c.in-Err.at c.args.v c.in-Err.ensures.absent fits

pub invariant_of-self-in-Err : goal.invariant_of-self-in-Err
invariant_of-self-in-Err c =
    let fits : length c.self.inside.pairs.items < c.self.inside.room = omega (arith, c.self.invariant.0.fits) in
    let step = put-gap _ _ c.self.view_is c.args.k c.in-Err.at c.args.v c.insert.new.self.items c.in-Err.ensures.absent fits c.in-Ok-insert.ensures.items in
    (still_map _ _ _ (Put c.args.k c.args.v) c.self.view_is c.self.invariant.0 step, omega (arith, c.self.invariant.1, c.in-Ok-insert.ensures.capacity))

-- what each key has then

pub returns-in-Ok-clause-sets : goal.returns-in-Ok-clause-sets
returns-in-Ok-clause-sets c = put_sets c.args.self.now _ c.args.k c.args.v _ (returns-in-Ok-clause-next c) (returns-in-Ok-clause-reply c)

pub returns-in-Ok-insert-clause-sets : goal.returns-in-Ok-insert-clause-sets
returns-in-Ok-insert-clause-sets c = put_sets c.args.self.now _ c.args.k c.args.v _ (returns-in-Ok-insert-clause-next c) (returns-in-Ok-insert-clause-reply c)
