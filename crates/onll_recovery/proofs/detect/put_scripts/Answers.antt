use Rattle.std.proofs.Common.{ap, ◌∙◌, arith}
use Rattle.onll_text.specs.Bytes.{with_lines}
use Rattle.onll_recovery.specs.DetectJob.{update_lines}
use Rattle.onll_recovery.proofs.Detects.{scripts_more}
use Rattle.onll_recovery.proofs.detect.put_scripts.Goals as goal

pub loop-thread-preserved : goal.loop-thread-preserved
loop-thread-preserved g c =
    let w = g.O.Texted.wording in
    let i = c.loop-thread.thread in
    let table = c.args.outcomes.now in
    record {
      lines = scripts_more w table c.loop-thread.out c.put_updates.new.out i c.index-scripts-thread.result c.args.scripts.now (omega arith) c.index-scripts-thread.is
          (c.in_ok-put_updates.ensures.lines ∙ ap (λ script. with_lines c.loop-thread.out (update_lines w table i 0 0 script)) c.deref.ensures.value)
          ∙ c.loop-thread.invariant.lines;
      begins = c.in_ok-put_updates.ensures.begins;
    }
