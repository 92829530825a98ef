use Rattle.std.proofs.lemmas.Result.{on_ok_weaker}
use Rattle.onll_recovery.proofs.Detects.{lost_parts}
use Rattle.onll_recovery.proofs.detect.put_lost.Goals as goal

pub returns : goal.returns
returns g c = on_ok_weaker c.end_line.result
    (λ d. lost_parts g.O.Texted.wording c.args.thread c.args.number c.args.op _ _ _ _ _ c.requires c.in_ok-words.ensures.ok c.in_ok-put_op.ensures.ok c.in_ok-words-2.ensures.ok d)
    c.end_line.ensures.ok
