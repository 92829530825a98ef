use Rattle.std.proofs.Common.{sym, subst}
use Rattle.onll_text.specs.Bytes.{with_words, IsFront}
use Rattle.onll_text.specs.LeaseText.{lease_reply_words}
use Rattle.onll_text.proofs.lease.LeaseTexted.put_reply.Goals as goal

pub returns-in-NoResource-clause-within : goal.returns-in-NoResource-clause-within
returns-in-NoResource-clause-within c = subst (λ reply. IsFront c.word.new.self (with_words c.args.out.now (lease_reply_words reply))) (sym c.in-NoResource.is) c.word.ensures.within
