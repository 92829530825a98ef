use Rattle.std.proofs.Common.{ℕ, List, ◌≡◌, ◌∙◌, refl, sym, subst, length}
use Rattle.std.specs.Prelude.{Err}
use Rattle.onll_open.specs.Files.{SameBut}
use Rattle.onll_open.specs.Names.{held_names}
use Rattle.onll_live.specs.Beginning.{IsNextEra, StaysOrBegins}
use Rattle.onll_live.specs.Causes.{NextCause, NextFaults}
use Rattle.onll_live.specs.Eras.{era_logs}
use Rattle.onll_live.specs.declared.era.Era.{Era}
use Rattle.onll_live.proofs.Serves.{is_service, served_era, was_kept}
use Rattle.onll_live.proofs.living.serve_era.Goals as goal

pub returns-in-Ok-begin_next-clause-turns : goal.returns-in-Ok-begin_next-clause-turns
returns-in-Ok-begin_next-clause-turns g c first i =
    let name = c.args.name.now in let era = c.args.era in let works = c.args.works.items in
    let old = g.S.Store.seen c.args.store.now in let after = g.S.Store.seen c.serve.new.store in let new = g.S.Store.seen c.begin_next.new.store in
    let logs : c.deref.result.now ≡ era_logs name era.number = c.deref.ensures ∙ c.in-Ok.ensures in
    let others = subst (λ (n : List ℕ). SameBut (held_names n (length works)) old after) logs c.serve.ensures.others in
    let here = served_era g.O.Saved.read_of first name era (length works) old after others i in
    let on = sym c.wants_next.ensures ∙ c.if-not-wants_next.false in (
      after,
      c.in-Ok-serve.served,
      is_service g.O.Object.means g.S.Dev.Pmem.means g.W.Work.promise g.O.Object.CODE g.O.Described.description g.O.Saved.read_of first name era works old after
          c.in-Ok-serve.served c.deref.result.now c.in-Ok-copy.state logs c.in-Ok-copy.ensures i c.serve.ensures.others.tells c.in-Ok-serve.ensures.served,
      subst (λ (n : ℕ). IsNextEra g.O.Object.means g.O.Object.CODE g.O.Described.description g.O.Saved.read_of first name n after new era c.in-Ok-begin_next.era)
          c.count_of-threads.ensures (c.in-Ok-begin_next.ensures.begun first here),
      refl,
      was_kept c.in-Ok-serve.served.spent c.in-Ok-serve.served.kept on,
      on,
    )

pub returns-clause-turns : goal.returns-clause-turns
returns-clause-turns g c first i =
    let name = c.args.name.now in let era = c.args.era in let works = c.args.works.items in
    let old = g.S.Store.seen c.args.store.now in let after = g.S.Store.seen c.serve.new.store in let new = g.S.Store.seen c.begin_next.new.store in
    let logs : c.deref.result.now ≡ era_logs name era.number = c.deref.ensures ∙ c.in-Ok.ensures in
    let others = subst (λ (n : List ℕ). SameBut (held_names n (length works)) old after) logs c.serve.ensures.others in
    let here = served_era g.O.Saved.read_of first name era (length works) old after others i in (
      after,
      is_service g.O.Object.means g.S.Dev.Pmem.means g.W.Work.promise g.O.Object.CODE g.O.Described.description g.O.Saved.read_of first name era works old after
          c.in-Ok-serve.served c.deref.result.now c.in-Ok-copy.state logs c.in-Ok-copy.ensures i c.serve.ensures.others.tells c.in-Ok-serve.ensures.served,
      refl,
      refl,
      record {
        on = sym c.wants_next.ensures ∙ c.if-not-wants_next.false;
        left = subst (λ (n : ℕ). StaysOrBegins g.O.Object.means g.O.Object.CODE g.O.Described.description g.O.Saved.read_of first name n after new era)
            c.count_of-threads.ensures (c.in-Err-begin_next.ensures.refused first here);
        stands = λ stands. c.in-Err-begin_next.ensures.stands stands first here;
        cause = subst (λ (n : ℕ). NextCause g.O.Object.means g.O.Object.CODE g.O.Described.description name n {T = Era g.row.O.Denot} after era (Err c.in-Err-begin_next.fault))
            c.count_of-threads.ensures c.in-Err-begin_next.ensures.cause;
        faults = subst (λ (n : ℕ). NextFaults {T = Era g.row.O.Denot} name era.number n after new (Err c.in-Err-begin_next.fault))
            c.count_of-threads.ensures c.in-Err-begin_next.ensures.faults;
        fences = c.in-Err-begin_next.ensures.fences;
      },
    )
