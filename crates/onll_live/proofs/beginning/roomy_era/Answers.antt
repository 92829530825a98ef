use Rattle.std.proofs.Common.{ℕ, refl, inl, inr, subst}
use Rattle.std.specs.Prelude.{Option}
use Rattle.onll_live.specs.Beginning.{EndsBy}
use Rattle.onll_live.proofs.Locks.{era_of_files}
use Rattle.onll_live.proofs.beginning.roomy_era.Goals as goal

pub returns-in-Ok-begin_next-clause-entered : goal.returns-in-Ok-begin_next-clause-entered
returns-in-Ok-begin_next-clause-entered g c first i =
    let old = g.S.Store.seen c.args.store.now in let mid = g.S.Store.seen c.logs_that_end.new.store in
    let here = era_of_files g.O.Saved.read_of first c.args.name.now old mid c.args.era c.logs_that_end.ensures.same i in
    let ends = subst (λ (o : Option ℕ). EndsBy g.O.Object.means g.O.Object.CODE g.O.Described.description c.args.name.now c.args.threads old mid c.args.era o) c.in-Some.is c.in-Ok.ensures.ends in
    (mid, c.logs_that_end.ensures.same, inr (c.in-Some.were, ends.0, c.in-Ok-begin_next.ensures.begun first here))

pub returns-in_default-clause-refused : goal.returns-in_default-clause-refused
returns-in_default-clause-refused g c first i =
    let old = g.S.Store.seen c.args.store.now in let mid = g.S.Store.seen c.logs_that_end.new.store in
    let here = era_of_files g.O.Saved.read_of first c.args.name.now old mid c.args.era c.logs_that_end.ensures.same i in
    (mid, c.logs_that_end.ensures.same, (0, inl (here, (refl, λ t thread. refl))))

pub returns-in-Err-clause-refused : goal.returns-in-Err-clause-refused
returns-in-Err-clause-refused g c first i =
    let old = g.S.Store.seen c.args.store.now in let mid = g.S.Store.seen c.logs_that_end.new.store in
    let here = era_of_files g.O.Saved.read_of first c.args.name.now old mid c.args.era c.logs_that_end.ensures.same i in
    (mid, c.logs_that_end.ensures.same, (c.in-Some.were, c.in-Err.ensures.refused first here))

pub returns-in-Err-clause-cause : goal.returns-in-Err-clause-cause
returns-in-Err-clause-cause g c =
    let old = g.S.Store.seen c.args.store.now in let mid = g.S.Store.seen c.logs_that_end.new.store in
    let ends = subst (λ (o : Option ℕ). EndsBy g.O.Object.means g.O.Object.CODE g.O.Described.description c.args.name.now c.args.threads old mid c.args.era o) c.in-Some.is c.in-Ok.ensures.ends in
    record {
      were = c.in-Some.were;
      ends = inr ends.0;
      start = mid;
      same = record { files = c.logs_that_end.ensures.same; counts = ends.2 };
      cause = c.in-Err.ensures.cause;
      faults = c.in-Err.ensures.faults;
      fences = c.in-Err.ensures.fences;
    }
