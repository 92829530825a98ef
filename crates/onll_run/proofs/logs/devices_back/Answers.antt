use Rattle.std.proofs.Common.{rules, ◌≡◌, ◌∷◌, ◌++◌, [], List, length, map, sym, ap, ◌∙◌, arith, length-append}
use Rattle.std.specs.Prelude.{reverse}
use Rattle.std.proofs.lemmas.List.{reverse-append}
use Rattle.onll_run.specs.Making.{device_of}
use Rattle.onll_shared.proofs.Taken.{back_one}
use Rattle.onll_run.proofs.logs.devices_back.Goals as goal

pub loop-log-init : goal.loop-log-init
loop-log-init g c = record {
  devices = ap (λ (ds : List _). map device_of c.args.logs.items ++ ds) (ap reverse c.push_reserved.ensures.items ∙ reverse-append c.args.left.items (c.args.failed ∷ []));
  room = let a = ap length c.push_reserved.ensures.items in let k = c.push_reserved.ensures.capacity in let r = c.requires in omega (arith, length-append c.args.left.items (c.args.failed ∷ []));
}

pub loop-log-preserved : goal.loop-log-preserved
loop-log-preserved g c = record {
  devices = back_one device_of _ _ _ _ _ _ c.loop-log.invariant.devices c.in-Some.ensures.items (c.push_reserved-in-Some.ensures.items ∙ ap (λ d. c.loop-log.left.items ++ d ∷ []) c.into_device.ensures.device);
  room = let a = ap length c.in-Some.ensures.items in let b = ap length c.push_reserved-in-Some.ensures.items in let r = c.loop-log.invariant.room in let k = c.push_reserved-in-Some.ensures.capacity in
      omega (arith, length-append c.pop.new.self.items (c.in-Some.log ∷ []), length-append c.loop-log.left.items (c.into_device.result ∷ []));
}

pub returns : goal.returns
returns g c =
    let none : c.loop-log.logs.items ≡ [] = search (rules, arith) in
    c.reverse.ensures.items ∙ (ap (λ (ls : List _). map device_of ls ++ reverse c.loop-log.left.items) (sym none) ∙ c.loop-log.invariant.devices)
