use Rattle.std.proofs.Common.{ℕ, ◌≡◌, ◌+◌, ◌-◌, List, [], ◌∷◌, ◌++◌, length, take, sym, ap, subst, arith}
use Rattle.std.proofs.lemmas.List.{length-take-le}
use Rattle.std.proofs.lemmas.Result.{err_from_is_err_and}
use Rattle.onll_log.specs.ImageFile.{whole_lines}
use Rattle.onll_standby.specs.Follower.{FollowsLines, StopsAtLine}
use Rattle.onll_standby.specs.Standby.{StandbyState, IsFed, HasFault}
use Rattle.onll_standby.proofs.Feeding.{line_fed, line_shown}
use Rattle.onll_standby.proofs.standby.Standby.take_line.Goals as goal

pub returns-in_err-take_line-clause-took : goal.returns-in_err-take_line-clause-took
returns-in_err-take_line-clause-took g c start heads bytes fed =
    let b = g.O.Object.means in
    let V : StandbyState _ _ _ _ = record { follower = c.self.inside.follower; part = c.self.inside.part; taken = c.self.inside.taken } in
    let seen : IsFed b start heads bytes V = subst (IsFed b start heads bytes) (sym c.self.view_is) fed in
    let parts : length c.self.inside.part ≡ length c.args.self.now.part = ap (λ (s : StandbyState _ _ _ _). length s.part) c.self.view_is in
    let m = c.missing-missing.ensures.count in let enough = c.requires.enough in
    let first : List ℕ = take c.missing-missing.result c.args.rest.now in
    let n : length first ≡ c.missing-missing.result = length-take-le c.missing-missing.result c.args.rest.now (omega arith) in
    let same : c.missing-missing.result ≡ 64 - length c.args.self.now.part = omega arith in
    let shown = subst (λ (w : List ℕ). StopsAtLine b start heads (whole_lines bytes ++ w ∷ []) c.in_err-take_line.field-0.0 c.take_line.new.self) c.completed-line.ensures (c.in_err-take_line.ensures.took start heads (whole_lines bytes) seen.lines) in
    let t = line_shown b start heads bytes V seen first (omega arith) c.take_line.new.self (c.self.inside.taken + c.missing-missing.result) c.in_err-take_line.field-0.0 (omega arith) shown in
    let u = subst (λ (p : List ℕ). HasFault b start heads (bytes ++ first) c.in_err-take_line.field-0.0 (record { follower = c.take_line.new.self; part = p; taken = c.self.inside.taken + c.missing-missing.result })) (sym c.clear.ensures) t in
    let v = subst (λ (k : ℕ). HasFault b start heads (bytes ++ take k c.args.rest.now) c.in_err-take_line.field-0.0 (record { follower = c.take_line.new.self; part = c.clear.new.self; taken = c.self.inside.taken + c.missing-missing.result })) same u in
    let p = err_from_is_err_and c.from_residual.result c.from_residual.ensures.1 in
    rw (p.1, p.2) v

pub returns-clause-took : goal.returns-clause-took
returns-clause-took g c start heads bytes fed =
    let b = g.O.Object.means in
    let V : StandbyState _ _ _ _ = record { follower = c.self.inside.follower; part = c.self.inside.part; taken = c.self.inside.taken } in
    let seen : IsFed b start heads bytes V = subst (IsFed b start heads bytes) (sym c.self.view_is) fed in
    let parts : length c.self.inside.part ≡ length c.args.self.now.part = ap (λ (s : StandbyState _ _ _ _). length s.part) c.self.view_is in
    let m = c.missing-missing.ensures.count in let enough = c.requires.enough in
    let first : List ℕ = take c.missing-missing.result c.args.rest.now in
    let n : length first ≡ c.missing-missing.result = length-take-le c.missing-missing.result c.args.rest.now (omega arith) in
    let same : c.missing-missing.result ≡ 64 - length c.args.self.now.part = omega arith in
    let at = subst (λ (w : List ℕ). FollowsLines b start heads (whole_lines bytes ++ w ∷ []) c.take_line.new.self) c.completed-line.ensures (c.in_ok-take_line.ensures.took start heads (whole_lines bytes) seen.lines) in
    let t = line_fed b start heads bytes V seen first (omega arith) c.take_line.new.self (c.self.inside.taken + c.missing-missing.result) (omega arith) at in
    let u = subst (λ (p : List ℕ). IsFed b start heads (bytes ++ first) (record { follower = c.take_line.new.self; part = p; taken = c.self.inside.taken + c.missing-missing.result })) (sym c.clear.ensures) t in
    subst (λ (k : ℕ). IsFed b start heads (bytes ++ take k c.args.rest.now) (record { follower = c.take_line.new.self; part = c.clear.new.self; taken = c.self.inside.taken + c.missing-missing.result })) same u
