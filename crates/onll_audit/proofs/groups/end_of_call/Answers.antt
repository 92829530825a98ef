use Rattle.std.proofs.Common.{◌≡◌, rules, arith}
use Rattle.onll_audit.specs.Values.{as_end}
use Rattle.onll_audit.specs.Verdict.{end_of_call}
use Rattle.onll_audit.proofs.PrintedLines.{end_is, end_is_line}
use Rattle.onll_audit.proofs.groups.end_of_call.Goals as goal

pub returns-clause-read : goal.returns-clause-read
returns-clause-read g c =
    let w = g.O.Texted.wording in
    let is : as_end c.end_after.result ≡ end_of_call w c.args.thread c.args.number c.args.call.now c.args.line.now = search (rules, end_is) in
    end_is_line w c.args.thread c.args.number c.args.call.now c.args.line.now c.end_after.result (omega arith) c.call_reads_back.ensures is
