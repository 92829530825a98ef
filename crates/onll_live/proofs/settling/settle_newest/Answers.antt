use Rattle.std.proofs.Common.{Some, sym, ◌∙◌, ap, subst}
use Rattle.onll_pmem.specs.Pmem.{words_of}
use Rattle.onll_live.specs.Eras.{area_name}
use Rattle.onll_live.specs.Faults.{IsSettleFault}
use Rattle.onll_live.proofs.FaultSteps.{unkept_settles, unread_settles}
use Rattle.onll_live.proofs.Areas.{same_keeps}
use Rattle.onll_live.proofs.Settled.{lines_alone, lines_keep, read_begins}
use Rattle.onll_live.proofs.settling.settle_newest.Goals as goal

pub returns-in-Err-clause-kept : goal.returns-in-Err-clause-kept
returns-in-Err-clause-kept g c this = same_keeps (g.S.Store.seen c.args.store.now) (g.S.Store.seen c.read_lines.new.self) (area_name c.args.name.now c.args.area) c.in-Err.ensures.same (Some this)

pub returns-in_err-lines-clause-kept : goal.returns-in_err-lines-clause-kept
returns-in_err-lines-clause-kept g c this = same_keeps (g.S.Store.seen c.args.store.now) (g.S.Store.seen c.read_lines.new.self) (area_name c.args.name.now c.args.area) c.in-Ok.ensures.same (Some this)

pub rewrite-requires-clause-begins : goal.rewrite-requires-clause-begins
rewrite-requires-clause-begins g c κs within =
    let seen = g.S.Store.seen in let r = c.in-Ok.ensures in
    read_begins (seen c.args.store.now) (seen c.read_lines.new.self) r.same (area_name c.args.name.now c.args.area) c.deref.result.now c.deref-2.result.now
    (c.deref.ensures ∙ c.in_ok-file.ensures) (c.deref-2.ensures ∙ c.in_ok-file.ensures) (words_of c.in-Ok.read.front.items) (words_of c.deref-3.result.now) c.in-Ok.read.count
    (ap words_of c.deref-3.ensures.value ∙ c.in_ok-lines.ensures.lines) r.lines

pub returns-in-Ok-rewrite-clause-kept : goal.returns-in-Ok-rewrite-clause-kept
returns-in-Ok-rewrite-clause-kept g c =
    let seen = g.S.Store.seen in let r = c.in-Ok.ensures in let w = c.in-Ok-rewrite.ensures in
    lines_keep (seen c.args.store.now) (seen c.read_lines.new.self) r.same (area_name c.args.name.now c.args.area) c.deref.result.now c.deref-2.result.now
    (c.deref.ensures ∙ c.in_ok-file.ensures) (c.deref-2.ensures ∙ c.in_ok-file.ensures) (words_of c.in-Ok.read.front.items) (words_of c.deref-3.result.now) c.in-Ok.read.count
    (ap words_of c.deref-3.ensures.value ∙ c.in_ok-lines.ensures.lines) r.lines r.front r.few (seen c.rewrite.new.store) w.others w.begins

pub returns-clause-kept : goal.returns-clause-kept
returns-clause-kept g c =
    let seen = g.S.Store.seen in let r = c.in-Ok.ensures in let w = c.in-Err-rewrite.ensures in
    lines_keep (seen c.args.store.now) (seen c.read_lines.new.self) r.same (area_name c.args.name.now c.args.area) c.deref.result.now c.deref-2.result.now
    (c.deref.ensures ∙ c.in_ok-file.ensures) (c.deref-2.ensures ∙ c.in_ok-file.ensures) (words_of c.in-Ok.read.front.items) (words_of c.deref-3.result.now) c.in-Ok.read.count
    (ap words_of c.deref-3.ensures.value ∙ c.in_ok-lines.ensures.lines) r.lines r.front r.few (seen c.rewrite.new.store) w.others w.begins

pub returns-in-Ok-rewrite-clause-rewritten : goal.returns-in-Ok-rewrite-clause-rewritten
returns-in-Ok-rewrite-clause-rewritten g c =
    let seen = g.S.Store.seen in let r = c.in-Ok.ensures in let w = c.in-Ok-rewrite.ensures in
    lines_alone (seen c.args.store.now) (seen c.read_lines.new.self) r.same (area_name c.args.name.now c.args.area) c.deref.result.now c.deref-2.result.now
    (c.deref.ensures ∙ c.in_ok-file.ensures) (c.deref-2.ensures ∙ c.in_ok-file.ensures) (words_of c.in-Ok.read.front.items) (words_of c.deref-3.result.now) c.in-Ok.read.count
    (ap words_of c.deref-3.ensures.value ∙ c.in_ok-lines.ensures.lines) r.lines r.front r.few (seen c.rewrite.new.store) w.others w.begins w.alone

pub returns-in-Err-clause-refused : goal.returns-in-Err-clause-refused
returns-in-Err-clause-refused g c = subst IsSettleFault (sym c.not_read.ensures) (unread_settles c.args.area c.in-Err.fault)

pub returns-clause-refused : goal.returns-clause-refused
returns-clause-refused g c = subst IsSettleFault (sym c.not_settled.ensures) (unkept_settles c.args.area c.in-Err-rewrite.fault)
