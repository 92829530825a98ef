use Rattle.std.proofs.Common.{refl, arith}
use Rattle.onll_keeps.proofs.Tallying.{says_tally}
use Rattle.onll_tickets.proofs.buyer.BuyerWorkPlainTickets.work.Goals as goal

pub returns-in-Err : goal.returns-in-Err
returns-in-Err g c =
    let n = c.loop-drawn.drawn in says_tally (λ b. b.drawn) _ (omega arith) (c.in-Err.ensures n c.loop-drawn.invariant)

pub returns-then-is_err : goal.returns-then-is_err
returns-then-is_err g c =
    let n = c.loop-drawn.drawn in says_tally (λ b. b.drawn) _ refl (c.in_default.ensures n c.loop-drawn.invariant)
