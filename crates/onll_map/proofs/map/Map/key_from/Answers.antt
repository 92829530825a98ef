use Rattle.std.proofs.Common.{ap, sym, ◌∙◌, ◌≡◌, ◌<◌, ◌≤◌, length, get_or, Some, None, arith}
use Rattle.onll_words.specs.Short.{ShortText}
use Rattle.onll_map.specs.Map.{Entries, key_from}
use Rattle.onll_map.proofs.Least.{key_from_says}
use Rattle.onll_map.proofs.Steps.{key_from-place, key_from-gap, key_from-past}
use Rattle.onll_map.proofs.map.Map.key_from.Goals as goal

pub returns-in-Ok : goal.returns-in-Ok
returns-in-Ok c =
    let e = c.index.result.now in
    let key : Some e.0 ≡ key_from c.args.self.now.pairs c.args.key =
    ap (λ (x : ShortText × ShortText). Some x.0) c.index.ensures ∙ ap (λ (s : Entries). Some (get_or s.pairs c.in-Ok.at e).0) c.self.view_is
    ∙ sym (key_from-place c.args.self.now.pairs c.args.key c.in-Ok.at e c.in-Ok.ensures.found) in
    record { key = key; least = key_from_says _ _ c.args.key (Some e.0) c.self.view_is c.self.invariant.0 key }

pub returns-in-Err : goal.returns-in-Err
returns-in-Err c =
    let e = c.index-in-Err.result.now in
    let inside : c.in-Err.at < length c.args.self.now.pairs = omega (arith, ap (λ (s : Entries). length s.pairs) c.self.view_is) in
    let key : Some e.0 ≡ key_from c.args.self.now.pairs c.args.key =
    ap (λ (x : ShortText × ShortText). Some x.0) c.index-in-Err.ensures ∙ ap (λ (s : Entries). Some (get_or s.pairs c.in-Err.at e).0) c.self.view_is
    ∙ sym (key_from-gap c.args.self.now.pairs c.args.key c.in-Err.at e c.in-Err.ensures.absent inside) in
    record { key = key; least = key_from_says _ _ c.args.key (Some e.0) c.self.view_is c.self.invariant.0 key }

pub returns-in-Err-2 : goal.returns-in-Err-2
returns-in-Err-2 c =
    let past : length c.args.self.now.pairs ≤ c.in-Err.at = omega (arith, ap (λ (s : Entries). length s.pairs) c.self.view_is) in
    let key : None ≡ key_from c.args.self.now.pairs c.args.key = sym (key_from-past c.args.self.now.pairs c.args.key c.in-Err.at c.in-Err.ensures.absent past) in
    record { key = key; least = key_from_says _ _ c.args.key None c.self.view_is c.self.invariant.0 key }
