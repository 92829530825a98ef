use Rattle.std.proofs.Common.{[], ◌≡◌, ℕ, ◌+◌, Bool, true, drop, get_or, sym, ap, ◌∙◌, arith, cond, Option, Some}
use Rattle.std.proofs.lemmas.List.{drop_more}
use Rattle.onll_model.specs.declared.node.Node.{Node}
use Rattle.onll_standby.specs.Held.{is_alike, clash_among}
use Rattle.onll_standby.specs.Places.{held_at}
use Rattle.onll_standby.proofs.places.Places.clash.Goals as goal

pub loop-node-preserved : goal.loop-node-preserved
loop-node-preserved c =
    let none : Node = record { thread = 0; number = 0; row = record { w = [] } } in
    let at = c.loop-node.invariant.at in
    let p : ℕ = c.loop-node.place + 1 in
    let i : ℕ = c.loop-node.node-index in
    let slots = c.args.self.now in
    let d = drop_more c.args.nodes.now i none c.loop-node-test.true in
    let alike : is_alike (held_at slots p) (get_or c.args.nodes.now i none) ≡ true = ap (λ (o : Option Node). is_alike o (get_or c.args.nodes.now i none)) (sym c.above.ensures.node) ∙ sym c.if-not-is_alike.ensures in
    record {
      at = omega arith;
      rest = sym (ap (clash_among (held_at slots) p) d
          ∙ ap (λ (t : Bool). cond {A = Option ℕ} t (clash_among (held_at slots) (p + 1) (drop (i + 1) c.args.nodes.now)) (Some p)) alike) ∙ c.loop-node.invariant.rest;
    }
