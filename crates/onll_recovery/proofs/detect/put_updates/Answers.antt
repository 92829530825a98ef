use Rattle.std.proofs.Common.{◌∙◌, arith}
use Rattle.onll_recovery.proofs.Detects.{lines_more, count_most}
use Rattle.onll_recovery.proofs.detect.put_updates.Goals as goal

pub loop-calls-preserved : goal.loop-calls-preserved
loop-calls-preserved g c =
    let call = c.index-script-calls.result in
    record {
      lines = lines_more g.O.Texted.wording c.args.outcomes.now c.loop-calls.out c.put_call.new.out c.args.thread c.loop-calls.calls c.loop-calls.updates c.in_ok-updates.updates
          call c.args.script.now (omega arith) c.index-script-calls.is c.in_ok-updates.ensures.count c.in_ok-updates.ensures.lines
          ∙ c.loop-calls.invariant.lines;
      begins = c.in_ok-updates.ensures.begins;
      few = count_most call c.loop-calls.updates c.loop-calls.calls c.in_ok-updates.updates c.loop-calls.invariant.few c.in_ok-updates.ensures.count;
    }
