use Rattle.std.proofs.Common.{ℕ, ◌+◌, ◌∙◌, Some, ap, sym}
use Rattle.onll_log.specs.Survey.{survey_of}
use Rattle.onll_log.proofs.Kept.{HasHeader-written, entries_read-HasHeader, KeepsLog-made, ToldSettled-fenced, ToldBacked-fenced}
use Rattle.onll_log.proofs.log.ThreadLog.begin.Goals as goal

pub invariant_of-result : goal.invariant_of-result
invariant_of-result g c =
    let f = c.in-Ok.ensures in let old = g.P.Pmem.means c.args.device in let mid = g.P.Pmem.means c.put.new.device in let new = g.P.Pmem.means c.fence.new.self in
    let header = HasHeader-written old mid new c.args.head c.line.result.w c.requires.clean c.line.ensures c.put.ensures f.read f.fences in
    record {
      keeps = KeepsLog-made old new c.args.head c.requires.head c.requires.few c.requires.lines
          (record { header = header; faults = f.ok ∙ c.put.ensures.faults; settled = ToldSettled-fenced mid new (c.put.ensures.backed c.requires.backed) f.read f.durable })
          (ToldBacked-fenced mid new (c.put.ensures.backed c.requires.backed) f.read f.durable);
      surveyed = ap (λ ss. survey_of (record { head = Some c.args.head; entries = ss })) (sym (entries_read-HasHeader old new c.args.head header));
    }

pub returns-in-Ok-clause-entries : goal.returns-in-Ok-clause-entries
returns-in-Ok-clause-entries g c =
    let f = c.in-Ok.ensures in let old = g.P.Pmem.means c.args.device in let mid = g.P.Pmem.means c.put.new.device in let new = g.P.Pmem.means c.fence.new.self in
    entries_read-HasHeader old new c.args.head (HasHeader-written old mid new c.args.head c.line.result.w c.requires.clean c.line.ensures c.put.ensures f.read f.fences)

pub returns-in-Ok-clause-made : goal.returns-in-Ok-clause-made
returns-in-Ok-clause-made g c =
    let f = c.in-Ok.ensures in let old = g.P.Pmem.means c.args.device in let mid = g.P.Pmem.means c.put.new.device in let new = g.P.Pmem.means c.fence.new.self in
    record {
      header = HasHeader-written old mid new c.args.head c.line.result.w c.requires.clean c.line.ensures c.put.ensures f.read f.fences;
      faults = f.ok ∙ c.put.ensures.faults;
      settled = ToldSettled-fenced mid new (c.put.ensures.backed c.requires.backed) f.read f.durable;
    }

pub returns-in-Err-clause-refused : goal.returns-in-Err-clause-refused
returns-in-Err-clause-refused g c =
    let f = c.in-Err.ensures in let old = g.P.Pmem.means c.args.device in let mid = g.P.Pmem.means c.put.new.device in let new = g.P.Pmem.means c.fence.new.self in
    record {
      header = HasHeader-written old mid new c.args.head c.line.result.w c.requires.clean c.line.ensures c.put.ensures f.read f.fences;
      faults = f.failed ∙ ap (λ (n : ℕ). n + 1) c.put.ensures.faults;
      pending = λ t e. c.put.ensures.fenced old.read c.requires.settled t (sym f.kept ∙ e);
    }
