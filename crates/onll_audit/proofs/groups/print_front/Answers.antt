use Rattle.std.proofs.Common.{ap, ◌∙◌, ◌∷◌, [], List, ℕ, codes, decimal}
use Rattle.std.proofs.lemmas.Result.{on_ok_weaker}
use Rattle.onll_text.specs.Bytes.{with_word, with_words}
use Rattle.onll_text.specs.Lines.{call_words}
use Rattle.onll_audit.proofs.Printing.{front_call}
use Rattle.onll_audit.proofs.groups.print_front.Goals as goal

pub returns : goal.returns
returns g c =
    let w = g.O.Texted.wording in
    let front : List (List ℕ) = codes "call" ∷ decimal c.args.thread ∷ decimal c.args.number ∷ [] in
    let words = call_words w c.args.call.now in
    on_ok_weaker c.word.result
    (λ d. d ∙ ap (λ (b : List ℕ). with_word b (codes "->"))
    (c.in_ok-put_call.ensures
    ∙ ap (λ (b : List ℕ). with_words b words) (c.in_ok-words.ensures.ok ∙ ap (λ (b : List ℕ). with_words b front) c.clear.ensures))
    ∙ front_call w c.args.thread c.args.number c.args.call.now) c.word.ensures.ok
