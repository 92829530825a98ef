use Rattle.std.proofs.Common.{ap, sym, ◌∙◌, get_or, Some}
use Rattle.onll_words.specs.Short.{ShortText}
use Rattle.onll_map.specs.Map.{Entries}
use Rattle.onll_map.proofs.Steps.{value_at-place, value_at-gap}
use Rattle.onll_map.proofs.map.Map.value.Goals as goal

pub returns-in-Ok : goal.returns-in-Ok
returns-in-Ok c =
    let e = c.index.result.now in
    ap (λ (x : ShortText × ShortText). Some x.1) c.index.ensures ∙ ap (λ (s : Entries). Some (get_or s.pairs c.in-Ok.at e).1) c.self.view_is
    ∙ sym (value_at-place c.args.self.now.pairs c.args.key c.in-Ok.at e c.in-Ok.ensures.found)

pub returns-in-Err : goal.returns-in-Err
returns-in-Err c = sym (value_at-gap c.args.self.now.pairs c.args.key c.in-Err.field-0 c.in-Err.ensures.absent)
