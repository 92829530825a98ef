use Rattle.std.proofs.Common.{rules, inl, inr}
use Rattle.onll_live.proofs.Settled.{empty_whole, found_whole}
use Rattle.onll_open.proofs.Handing.{files_more}
use Rattle.onll_live.proofs.settling.is_torn.Goals as goal

pub returns-in_default-clause-untorn : goal.returns-in_default-clause-untorn
returns-in_default-clause-untorn g c is =
    empty_whole (g.S.Store.seen c.args.store.now) c.args.file.now c.in_ok-size.field-0 c.in_ok-size.ensures.size (inl (search rules))

pub returns-then-size-eq0-clause-untorn : goal.returns-then-size-eq0-clause-untorn
returns-then-size-eq0-clause-untorn g c is =
    empty_whole (g.S.Store.seen c.args.store.now) c.args.file.now c.in_ok-size.field-0 c.in_ok-size.ensures.size (inr (search rules))

pub returns-in-Ok-clause-untorn : goal.returns-in-Ok-clause-untorn
returns-in-Ok-clause-untorn g c =
    found_whole (g.S.Store.seen c.args.store.now) (g.S.Store.seen c.size.new.self) c.args.file.now c.in-Ok.found c.is_none.result c.in_ok-size.ensures.same c.in-Ok.ensures.found c.is_none.ensures

pub returns-in-Ok-clause-same : goal.returns-in-Ok-clause-same
returns-in-Ok-clause-same g c =
    files_more (g.S.Store.seen c.args.store.now) (g.S.Store.seen c.size.new.self) (g.S.Store.seen c.read_area.new.store) c.in_ok-size.ensures.same c.in-Ok.ensures.same
