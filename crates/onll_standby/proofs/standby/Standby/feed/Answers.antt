use Rattle.std.proofs.Common.{ℕ, ◌≡◌, ◌+◌, ◌-◌, List, ◌++◌, length, take, ap, subst, arith}
use Rattle.std.proofs.lemmas.Result.{err_from_is_err_and}
use Rattle.onll_standby.specs.Standby.{StandbyState, IsFed, HasFault}
use Rattle.onll_standby.proofs.Feeding.{piece_more, piece_stop}
use Rattle.onll_standby.proofs.standby.Standby.feed.Goals as goal

pub returns-in_err-at-clause-took : goal.returns-in_err-at-clause-took
returns-in_err-at-clause-took g c start heads bytes fed =
    let b = g.O.Object.means in
    let i = c.loop-at.invariant.fed start heads bytes fed in
    let w = c.loop-at.invariant.within in
    let a : ℕ = c.loop-at.at in
    let n : ℕ = 64 - length c.loop-at.self.part in
    let parts : length c.self-in-loop-at.inside.part ≡ length c.loop-at.self.part = ap (λ (s : StandbyState _ _ _ _). length s.part) c.self-in-loop-at.view_is in
    let m = c.missing.ensures.count in let t = c.loop-at-test.true in
    let k = subst (λ (r : List ℕ). HasFault b start heads ((bytes ++ take a c.args.piece.now) ++ take n r) c.in_err-at.field-0.0 c.take_line.new.self)
    c.rest_from.ensures (c.in_err-at.ensures.took start heads (bytes ++ take a c.args.piece.now) i) in
    let p = err_from_is_err_and c.from_residual.result c.from_residual.ensures.1 in
    rw (p.1, p.2) (piece_stop b start heads bytes c.args.piece.now c.take_line.new.self a n c.in_err-at.field-0.0 (omega arith) k)

pub loop-at-preserved : goal.loop-at-preserved
loop-at-preserved g c =
    let b = g.O.Object.means in
    let w = c.loop-at.invariant.within in let u = c.loop-at.invariant.taken in
    let a : ℕ = c.loop-at.at in
    let parts : length c.self-in-loop-at.inside.part ≡ length c.loop-at.self.part = ap (λ (s : StandbyState _ _ _ _). length s.part) c.self-in-loop-at.view_is in
    let m = c.missing.ensures.count in let t = c.loop-at-test.true in
    let q = c.in_ok-at.ensures.count in let v = c.in_ok-at.ensures.taken in
    let same : 64 - length c.loop-at.self.part ≡ c.in_ok-at.field-0 = omega arith in
    record {
      within = omega arith;
      clean = c.in_ok-at.ensures.fault;
      taken = omega arith;
      fed = λ start heads bytes fed.
          let k = subst (λ (r : List ℕ). IsFed b start heads ((bytes ++ take a c.args.piece.now) ++ take (64 - length c.loop-at.self.part) r) c.take_line.new.self)
          c.rest_from.ensures (c.in_ok-at.ensures.took start heads (bytes ++ take a c.args.piece.now) (c.loop-at.invariant.fed start heads bytes fed)) in
          subst (λ (n : ℕ). IsFed b start heads (bytes ++ take (a + n) c.args.piece.now) c.take_line.new.self) same (piece_more b start heads bytes c.args.piece.now c.take_line.new.self a (64 - length c.loop-at.self.part) k);
    }
