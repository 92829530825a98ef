use Rattle.std.proofs.Common.{◌<◌, length, rules, sym, ◌∙◌, subst, arith}
use Rattle.std.proofs.lemmas.List.{length-map}
use Rattle.onll_words.specs.declared.line.Line.{Line}
use Rattle.onll_pmem.specs.Pmem.{words_of}
use Rattle.onll_outside.specs.Views.{BeginsWith, image_bytes}
use Rattle.onll_open.specs.Names.{log_name}
use Rattle.onll_open.proofs.Reopening.{begins_some}
use Rattle.onll_open.proofs.devices.open_device.Goals as goal

pub reopen-requires-clause-begins : goal.reopen-requires-clause-begins
reopen-requires-clause-begins g c =
    let store = g.S.Store.seen c.args.store.now in
    let front = words_of c.args.front.now in
    let name = c.deref-else-is_empty.ensures ∙ c.in_ok-name.ensures in
    let mapped = length-map c.args.front.now (λ (line : Line). line.w) in
    let some : 0 < length c.args.front.now = search rules in
    subst (λ n. BeginsWith store n (image_bytes front)) (sym name) (begins_some store (log_name c.args.logs.now c.args.thread) front (omega (arith, mapped, some)) c.requires.begins)
