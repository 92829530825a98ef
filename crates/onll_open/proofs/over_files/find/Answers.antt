use Rattle.std.proofs.Common.{length, sym, ap, ◌∙◌}
use Rattle.std.proofs.lemmas.Result.{err_from_is_err_and}
use Rattle.onll_open.specs.Heads.{heads_of}
use Rattle.onll_open.proofs.GivenLogs.{refused_by}
use Rattle.onll_open.proofs.over_files.find.Goals as goal

pub returns-in_err-recovery-clause-refused : goal.returns-in_err-recovery-clause-refused
returns-in_err-recovery-clause-refused g c =
    let p = err_from_is_err_and c.from_residual-in_err-recovery.result c.from_residual-in_err-recovery.ensures.1 in
    let heads = c.deref-2.ensures.value ∙ (c.in_ok-heads.ensures.heads ∙ ap (λ k. heads_of k c.deref.result.now c.args.threads) c.CODE.ensures ∙ ap (λ d. heads_of g.O.Object.CODE d c.args.threads) (c.deref.ensures.value ∙ c.in_ok-description.ensures)) in
    let many = c.in_ok-images.ensures.many ∙ (sym c.in_ok-heads.ensures.count ∙ ap length (sym c.deref-2.ensures.value)) in
    rw (p.1, p.2) (refused_by g.O.Object.means (g.S.Store.seen c.args.store.now) c.args.logs.now (heads_of g.O.Object.CODE (g.O.Described.description c.args.object.now) c.args.threads) c.deref-2.result.now c.in_ok-images.images.items
    c.deref-3.result.now heads c.deref-3.ensures.value c.in_ok-images.ensures.read many c.in_err-recovery.field-0.0 c.in_err-recovery.ensures.recovered)
