use Rattle.std.proofs.Common.{rules}
use Rattle.onll_outside.proofs.WholeLines.{words_all}
use Rattle.onll_outside.proofs.gather.line_of.Goals as goal

pub returns-clause-whole : goal.returns-clause-whole
returns-clause-whole c = record { eight = search rules; words = words_all c.line_of_bytes.result.w (λ i. search rules) }
