use Rattle.std.proofs.Common.{ℕ, ◌≡◌, ◌+◌, List, ◌++◌, length, sym, ap, subst, arith}
use Rattle.onll_standby.specs.Standby.{StandbyState, IsFed}
use Rattle.onll_standby.proofs.Feeding.{part_fed}
use Rattle.onll_standby.proofs.standby.Standby.add.Goals as goal

pub returns-clause-took : goal.returns-clause-took
returns-clause-took g c start heads bytes fed =
    let b = g.O.Object.means in
    let V : StandbyState _ _ _ _ = record { follower = c.self.inside.follower; part = c.self.inside.part; taken = c.self.inside.taken } in
    let seen : IsFed b start heads bytes V = subst (IsFed b start heads bytes) (sym c.self.view_is) fed in
    let parts : length c.self.inside.part ≡ length c.args.self.now.part = ap (λ (s : StandbyState _ _ _ _). length s.part) c.self.view_is in
    let short = c.requires.short in
    let t = part_fed b start heads bytes V seen c.args.rest.now (omega arith) (c.self.inside.taken + length c.args.rest.now) (omega arith) in
    subst (λ (p : List ℕ). IsFed b start heads (bytes ++ c.args.rest.now) (record { follower = c.self.inside.follower; part = p; taken = c.self.inside.taken + length c.args.rest.now })) (sym c.add.ensures) t
