use Rattle.std.proofs.Common.{◌+◌}
use Rattle.std.proofs.lemmas.Result.{IfOk-weaker}
use Rattle.onll_outside.specs.Views.{Gives}
use Rattle.onll_text.specs.Script.{longest_text}
use Rattle.onll_task.specs.Reading.{IsCutText}
use Rattle.onll_task.proofs.Cuts.{cut_of}
use Rattle.onll_task.proofs.texts.read_text.Goals as goal

pub returns-clause-text : goal.returns-clause-text
returns-clause-text g c =
    let s = g.S.Store.seen c.args.store.now in
    IfOk-weaker c.read_bytes.result (λ text. Gives s c.args.name.now (longest_text + 1) text.items) (λ text. IsCutText s c.args.name.now text.items)
    (λ text h. cut_of s c.args.name.now text.items h) c.read_bytes.ensures.bytes
