use Rattle.std.proofs.Common.{subst, sym}
use Rattle.onll_words.specs.Texts.{IsWord}
use Rattle.onll_text.proofs.EachKind.{IsWord-object_name}
use Rattle.onll_jobs.proofs.ShowWords.{head_line_in_words}
use Rattle.onll_jobs.proofs.show.put_head.Goals as goal

pub line-requires-clause-words : goal.line-requires-clause-words
line-requires-clause-words c =
    let all = head_line_in_words c.args.thread c.args.threads c.args.object in
    (all.0, (all.1.0, (all.1.1.0, (all.1.1.1.0, (all.1.1.1.1.0, (all.1.1.1.1.1.0, (subst IsWord (sym c.object_name-name.ensures) (IsWord-object_name c.args.object), tt)))))))
