use Rattle.std.proofs.Common.{◌∷◌, [], codes, sym, subst}
use Rattle.onll_text.specs.Bytes.{with_words, IsFront}
use Rattle.onll_text.specs.Lines.{at_words, end_words}
use Rattle.onll_text.proofs.Keeping.{more_words_front}
use Rattle.onll_text.proofs.lines.put_end.Goals as goal

pub returns-in_err-put_reply-in-Answered-clause-within : goal.returns-in_err-put_reply-in-Answered-clause-within
returns-in_err-put_reply-in-Answered-clause-within g c =
    let w = g.O.Texted.wording in
    subst (λ end. IsFront c.put_reply.new.out (with_words c.args.out.now (end_words w end))) (sym c.in-Answered.is)
    (more_words_front c.args.out.now _ (w.reply_words c.in-Answered.reply) (at_words c.in-Answered.place) c.put_reply.ensures.within)

pub returns-in_err-word-in-Ordered-clause-within : goal.returns-in_err-word-in-Ordered-clause-within
returns-in_err-word-in-Ordered-clause-within g c =
    subst (λ end. IsFront c.word-in-Ordered.new.self (with_words c.args.out.now (end_words g.O.Texted.wording end))) (sym c.in-Ordered.is)
    (more_words_front c.args.out.now _ (codes "ordered" ∷ []) (at_words c.in-Ordered.place) c.word-in-Ordered.ensures.within)

pub returns-in_err-words-in-FenceFailed-clause-within : goal.returns-in_err-words-in-FenceFailed-clause-within
returns-in_err-words-in-FenceFailed-clause-within g c =
    subst (λ end. IsFront c.words.new.self (with_words c.args.out.now (end_words g.O.Texted.wording end))) (sym c.in-FenceFailed.is)
    (more_words_front c.args.out.now _ (codes "fence" ∷ codes "failed" ∷ []) (at_words c.in-FenceFailed.place) c.words.ensures.within)

pub returns-in_err-word-in-Broken-clause-within : goal.returns-in_err-word-in-Broken-clause-within
returns-in_err-word-in-Broken-clause-within g c =
    subst (λ end. IsFront c.word-in-Broken.new.self (with_words c.args.out.now (end_words g.O.Texted.wording end))) (sym c.in-Broken.is)
    (more_words_front c.args.out.now _ (codes "broken" ∷ []) (at_words c.in-Broken.place) c.word-in-Broken.ensures.within)
