use Rattle.std.proofs.Common.{ℕ, ◌≡◌, List, [], ◌++◌, length, take, drop, ap, subst, ◌∙◌, arith}
use Rattle.std.proofs.lemmas.Result.{err_from_is_err_and}
use Rattle.onll_standby.specs.Standby.{IsFed, StopsInPiece}
use Rattle.onll_standby.proofs.Feeding.{piece_more}
use Rattle.onll_shipping.proofs.Pieces.{all_show}
use Rattle.onll_shipping.proofs.follow.feed_all.Goals as goal

pub returns-in_err-feed : goal.returns-in_err-feed
returns-in_err-feed g c start heads first =
    let b = g.O.Object.means in
    let bytes : List ℕ = c.args.bytes.now in let at : ℕ = c.loop-at.at in
    let n : ℕ = length c.split_at-in-loop-at.result.0.now in
    let back : c.split_at.result.1.now ≡ drop at bytes = c.split_at.ensures.back in
    let m = c.min.ensures in let l = c.split_at-in-loop-at.ensures.front_len in let r = ap (λ (z : List ℕ). length z) back in
    let same : c.min.result ≡ n = omega arith in
    let next : c.split_at-in-loop-at.result.0.now ≡ take n (drop at bytes) = c.split_at-in-loop-at.ensures.front ∙ (λ i. take (same i) (back i)) in
    let stop = subst (λ (z : List ℕ). StopsInPiece b start heads (take at bytes) z c.in_err-feed.field-0.0 c.feed.new.self) next (c.in_err-feed.ensures.took start heads (take at bytes) (c.loop-at.invariant.fed start heads first)) in
    let long = ap (λ (z : List ℕ). length z) next in
    let p = err_from_is_err_and c.from_residual.result c.from_residual.ensures.1 in
    rw (p.1, p.2) (all_show b start heads bytes at n c.in_err-feed.field-0.0 c.feed.new.self (omega arith) (omega arith) stop)

pub loop-at-preserved : goal.loop-at-preserved
loop-at-preserved g c =
    let b = g.O.Object.means in
    let bytes : List ℕ = c.args.bytes.now in let at : ℕ = c.loop-at.at in
    let n : ℕ = length c.split_at-in-loop-at.result.0.now in
    let back : c.split_at.result.1.now ≡ drop at bytes = c.split_at.ensures.back in
    let m = c.min.ensures in let l = c.split_at-in-loop-at.ensures.front_len in let r = ap (λ (z : List ℕ). length z) back in
    let k = c.split_at.ensures.back_len in let w = c.loop-at.invariant.within in let u = c.loop-at.invariant.taken in let v = c.in_ok-feed.ensures.taken in
    let same : c.min.result ≡ n = omega arith in
    let next : c.split_at-in-loop-at.result.0.now ≡ take n (drop at bytes) = c.split_at-in-loop-at.ensures.front ∙ (λ i. take (same i) (back i)) in
    record {
      within = omega arith;
      taken = omega arith;
      fed = λ start heads first.
          piece_more b start heads [] bytes c.feed.new.self at n
          (subst (λ (z : List ℕ). IsFed b start heads (take at bytes ++ z) c.feed.new.self) next (c.in_ok-feed.ensures.took start heads (take at bytes) (c.loop-at.invariant.fed start heads first)));
    }
