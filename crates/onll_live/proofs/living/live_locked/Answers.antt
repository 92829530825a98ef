use Rattle.std.proofs.Common.{ℕ, ◌≡◌, refl, sym, subst, inl, length}
use Rattle.std.proofs.lemmas.Result.{IfOk-weaker, IfErr-weaker}
use Rattle.onll_outside.specs.Views.{SameFiles}
use Rattle.onll_live.specs.Beginning.{EntersEra, MissesEra}
use Rattle.onll_open.proofs.Handing.{faults_more}
use Rattle.onll_live.specs.declared.fault.LiveFault.{LiveFault}
use Rattle.onll_live.specs.LiveCauses.{CannotFollow, HeldCause}
use Rattle.onll_live.specs.Living.{CannotLiveBy}
use Rattle.onll_live.proofs.FaultSteps.{era_fault_since}
use Rattle.onll_live.proofs.LiveCauses.{stops_cause}
use Rattle.onll_live.proofs.Locks.{entered_in, settled_in, stops_by, with_lock}
use Rattle.onll_live.proofs.living.live_locked.Goals as goal

pub returns-in-Ok-roomy_era-clause-lived : goal.returns-in-Ok-roomy_era-clause-lived
returns-in-Ok-roomy_era-clause-lived g c =
    let old = g.S.Store.seen c.args.store.now in let mid = g.S.Store.seen c.find_era.new.store in
    let start = g.S.Store.seen c.settle.new.store in let begin = g.S.Store.seen c.roomy_era.new.store in
    let name = c.args.name.now in let era = c.in-Ok.era in let works = c.args.works.items in
    let in_era = settled_in g.O.Saved.read_of c.args.object name old mid start era c.in-Ok.ensures.same c.settle.ensures.kept c.in-Ok.ensures.found in
    let end = g.S.Store.seen c.serve_eras.new.store in let next = c.in-Ok-roomy_era.era in
    let enters = subst (λ (n : ℕ). EntersEra g.O.Object.means g.O.Object.CODE g.O.Described.description g.O.Saved.read_of c.args.object name n start begin era next) c.count_of-threads.ensures (c.in-Ok-roomy_era.ensures.entered c.args.object in_era) in
    let begun = entered_in g.O.Object.means g.O.Object.CODE g.O.Described.description g.O.Saved.read_of c.args.object name (length works) start begin era next enters in_era in
    let same : SameFiles end end = record { tells = refl; file = λ file. refl } in
    IfOk-weaker c.serve_eras.result _ _
    (λ lived h. record {
      era = era;
      found = c.in-Ok.ensures.found;
      start = start;
      others = with_lock name old mid start c.in-Ok.ensures.same c.settle.ensures.others;
      in_era = in_era;
      begin = begin;
      first_era = next;
      enters = enters;
      end = end;
      served = h c.args.object begun;
      same = same;
    })
    c.serve_eras.ensures.served

pub returns-in-Ok-roomy_era-clause-refused : goal.returns-in-Ok-roomy_era-clause-refused
returns-in-Ok-roomy_era-clause-refused g c =
    let old = g.S.Store.seen c.args.store.now in let mid = g.S.Store.seen c.find_era.new.store in
    let start = g.S.Store.seen c.settle.new.store in let begin = g.S.Store.seen c.roomy_era.new.store in
    let name = c.args.name.now in let era = c.in-Ok.era in let works = c.args.works.items in
    let in_era = settled_in g.O.Saved.read_of c.args.object name old mid start era c.in-Ok.ensures.same c.settle.ensures.kept c.in-Ok.ensures.found in
    let end = g.S.Store.seen c.serve_eras.new.store in let next = c.in-Ok-roomy_era.era in
    let enters = subst (λ (n : ℕ). EntersEra g.O.Object.means g.O.Object.CODE g.O.Described.description g.O.Saved.read_of c.args.object name n start begin era next) c.count_of-threads.ensures (c.in-Ok-roomy_era.ensures.entered c.args.object in_era) in
    let begun = entered_in g.O.Object.means g.O.Object.CODE g.O.Described.description g.O.Saved.read_of c.args.object name (length works) start begin era next enters in_era in
    let same : SameFiles end end = record { tells = refl; file = λ file. refl } in
    IfErr-weaker c.serve_eras.result _ _
    (λ e h.
    (let back = h c.args.object begun in
    stops_by g.O.Object.means g.S.Dev.Pmem.means g.W.Work.promise g.O.Object.CODE g.O.Described.description g.O.Saved.read_of c.args.object c.args.name.now old end works e.fault e back.now end back.next e.works.items back.cause (record {
      era = era;
      found = c.in-Ok.ensures.found;
      start = start;
      others = with_lock name old mid start c.in-Ok.ensures.same c.settle.ensures.others;
      in_era = in_era;
      begin = begin;
      first_era = next;
      enters = enters;
      end = end;
      back = back;
      same = same;
    })))
    c.serve_eras.ensures.refused

pub returns-in-Err-roomy_era-clause-refused : goal.returns-in-Err-roomy_era-clause-refused
returns-in-Err-roomy_era-clause-refused g c =
    let old = g.S.Store.seen c.args.store.now in let mid = g.S.Store.seen c.find_era.new.store in
    let start = g.S.Store.seen c.settle.new.store in let begin = g.S.Store.seen c.roomy_era.new.store in
    let name = c.args.name.now in let era = c.in-Ok.era in let works = c.args.works.items in
    let in_era = settled_in g.O.Saved.read_of c.args.object name old mid start era c.in-Ok.ensures.same c.settle.ensures.kept c.in-Ok.ensures.found in
    let left = subst (λ (n : ℕ). MissesEra g.O.Object.means g.O.Object.CODE g.O.Described.description g.O.Saved.read_of c.args.object name n start begin era) c.count_of-threads.ensures (c.in-Err-roomy_era.ensures.refused c.args.object in_era) in
    let same : SameFiles begin begin = record { tells = refl; file = λ file. refl } in
    inl (record {
      era = era;
      found = c.in-Ok.ensures.found;
      start = start;
      others = with_lock name old mid start c.in-Ok.ensures.same c.settle.ensures.others;
      in_era = in_era;
      end = begin;
      left = left;
      same = same;
      works_are = refl;
      eras_are = refl;
    })

pub returns-in-Err-clause-cause : goal.returns-in-Err-clause-cause
returns-in-Err-clause-cause g c =
    let old = g.S.Store.seen c.args.store.now in let new = g.S.Store.seen c.find_era.new.store in
    subst (λ (f : LiveFault). HeldCause g.O.Object.means g.O.Object.CODE g.O.Described.description c.args.name.now (length c.args.works.items) g.O.Saved.read_of c.args.object old new f c.of.result.eras)
    (sym c.of.ensures.2) c.in-Err.ensures.faults

pub returns-in-Err-settle-clause-cause : goal.returns-in-Err-settle-clause-cause
returns-in-Err-settle-clause-cause g c =
    let old = g.S.Store.seen c.args.store.now in let mid = g.S.Store.seen c.find_era.new.store in let new = g.S.Store.seen c.settle.new.store in
    subst (λ (f : LiveFault). HeldCause g.O.Object.means g.O.Object.CODE g.O.Described.description c.args.name.now (length c.args.works.items) g.O.Saved.read_of c.args.object old new f c.of-in-Err-settle.result.eras)
    (sym c.of-in-Err-settle.ensures.2) (c.in-Err-settle.ensures.refused, era_fault_since (Unit {0}) c.args.name.now old mid new c.in-Err-settle.fault c.in-Ok.ensures.faults c.in-Err-settle.ensures.faults)

pub returns-in-Err-settle-clause-refused : goal.returns-in-Err-settle-clause-refused
returns-in-Err-settle-clause-refused g c =
    let old = g.S.Store.seen c.args.store.now in let mid = g.S.Store.seen c.find_era.new.store in let new = g.S.Store.seen c.settle.new.store in
    let name = c.args.name.now in let era = c.in-Ok.era in let e = c.of-in-Err-settle.result in
    let in_era = settled_in g.O.Saved.read_of c.args.object name old mid new era c.in-Ok.ensures.same c.settle.ensures.kept c.in-Ok.ensures.found in
    let same : e.works.items ≡ c.args.works.items = (let is = c.of-in-Err-settle.ensures.0 in (cc)) in
    subst (λ (f : LiveFault). CannotLiveBy g.O.Object.means g.S.Dev.Pmem.means g.W.Work.promise g.O.Object.CODE g.O.Described.description g.O.Saved.read_of c.args.object name f old new c.args.works.items e)
    (sym c.of-in-Err-settle.ensures.2)
    ((with_lock name old mid new c.in-Ok.ensures.same c.settle.ensures.others, same, c.of-in-Err-settle.ensures.1), (era, c.in-Ok.ensures.found, in_era))

pub returns-in-Ok-roomy_era-clause-cause : goal.returns-in-Ok-roomy_era-clause-cause
returns-in-Ok-roomy_era-clause-cause g c =
    let old = g.S.Store.seen c.args.store.now in let new = g.S.Store.seen c.serve_eras.new.store in
    IfErr-weaker c.serve_eras.result _ _
    (λ e h. stops_cause g.O.Object.means g.O.Object.CODE g.O.Described.description c.args.name.now (length c.args.works.items) g.O.Saved.read_of c.args.object old new e.fault e.eras h)
    c.serve_eras.ensures.stops

pub returns-in-Err-roomy_era-clause-cause : goal.returns-in-Err-roomy_era-clause-cause
returns-in-Err-roomy_era-clause-cause g c =
    let old = g.S.Store.seen c.args.store.now in let mid = g.S.Store.seen c.find_era.new.store in
    let start = g.S.Store.seen c.settle.new.store in let end = g.S.Store.seen c.roomy_era.new.store in
    let name = c.args.name.now in let era = c.in-Ok.era in let works = c.args.works.items in
    let follow = subst (λ (n : ℕ). CannotFollow g.O.Object.means g.O.Object.CODE g.O.Described.description name n start end era c.in-Err-roomy_era.fault) c.count_of-threads.ensures c.in-Err-roomy_era.ensures.cause in
    inl (
      refl,
      record {
        era = era;
        found = c.in-Ok.ensures.found;
        start = start;
        others = with_lock name old mid start c.in-Ok.ensures.same c.settle.ensures.others;
        calls = faults_more old mid start c.in-Ok.ensures.faults c.in_default.ensures.faults;
        end = end;
        follow = follow;
        same = record { files = record { tells = refl; file = λ file. refl }; counts = ((refl, refl), (refl, refl)) };
      },
    )
