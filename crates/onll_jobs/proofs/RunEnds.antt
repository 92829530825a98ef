-- How a run ends, which begins anew or goes on, where each file is read and no text is refused: what its threads did is kept and reported,
-- a header's fence failed, or a device.

use Rattle.std.proofs.Common.{ℕ, zero, suc, List, [], ◌∷◌, ◌≡◌, ◌≤◌, ◌⊎◌, inl, inr, Option, Some, None, refl, sym, ap, ◌∙◌, subst, arith}
use Rattle.onll_model.specs.declared.call.Call.{Call}
use Rattle.onll_model.specs.declared.call.CallEnd.{CallEnd}
use Rattle.onll_start.specs.Start.{Found}
use Rattle.onll_run.specs.Outcomes.{failed_in}
use Rattle.onll_run.specs.Left.{LogLeft}
use Rattle.onll_text.specs.declared.any_object.Kind.{Kind}
use Rattle.onll_text.specs.Init.{init_of}
use Rattle.onll_text.specs.Kinds.{ObjectKind, kind_at}
use Rattle.onll_text.proofs.EachKind.{kind_goes, each_kind}
use Rattle.onll_outside.specs.Views.{StoreView, counted}
use Rattle.onll_task.specs.declared.ending.Ending.{Ending}
use Rattle.onll_task.specs.declared.ending.Ending.TheVariants.{Done, Usage, Refused, BadLog, ReadFault, WriteFault, Faulty, Judged}
use Rattle.onll_task.specs.Doing.{Task}
use Rattle.onll_open.specs.Names.{log_name}
use Rattle.onll_task.specs.Job.{Threads, JobEnds}
use Rattle.onll_task.specs.Running.{RunPlan, RunLeft, FileHoldsLog, HoldsLogs, HasKept, HeaderFault, DeviceFault, RunStops, broken_threads}
use Rattle.onll_task.specs.Writing.{FilesStay}
use Rattle.onll_open.specs.Files.{SameCounts}
use Rattle.onll_task.specs.Scripts.{ReadScripts}
use Rattle.onll_runner.specs.RunJob.{run_plan, run_task, calls_task, said_task}
use Rattle.onll_runner.specs.RunReport.{plan_report}
use Rattle.onll_runner.proofs.FaultLines.{length-fault_lines}
use Rattle.onll_jobs.specs.Command.{OverInit, Run, form_of, OverForm, RunOver, over_task, object_task}
use Rattle.onll_jobs.specs.RunPromises.{fault_count, plan_from, BeginsFrom, HasReported, HasNoHeader, HasNoDevice, RanWhole, RanBroken, OfText, RunPut}
use Rattle.onll_jobs.specs.Says.{job_of, PutWhole}
use Rattle.onll_jobs.specs.Seen.{Seen}
use Rattle.onll_jobs.proofs.SaidEnds.{IsRead, WholeEnds, many_scripts, whole_ends, scripts_end}

-- ---- what is kept stays kept where no file changes
holds_after : (kept after : StoreView) (name : List ℕ) (log : LogLeft) (failed : Option ℕ) → FilesStay kept after → FileHoldsLog kept name log failed → FileHoldsLog after name log failed
holds_after kept after name log None stay h = λ told. let tells = sym stay.tells ∙ told in stay.file tells name ∙ h tells
holds_after kept after name log (Some place) stay h =
    λ told. let tells = sym stay.tells ∙ told in let image = h tells in (image.0, image.1, stay.file tells name ∙ image.2)

logs_after : {State Op Query Reply : Type 0} (kept after : StoreView) (logs : List ℕ) (t : ℕ) (left : List LogLeft) (ends : List (List (CallEnd State Op Query Reply)))
    → FilesStay kept after → HoldsLogs kept logs t left ends → HoldsLogs after logs t left ends
logs_after kept after logs t [] [] stay h = tt
logs_after kept after logs t [] (e ∷ ends) stay h = absurd h
logs_after kept after logs t (log ∷ left) [] stay h = absurd h
logs_after kept after logs t (log ∷ left) (e ∷ ends) stay h =
    (holds_after kept after (log_name logs t) log (failed_in e) stay h.0, logs_after kept after logs (suc t) left ends stay h.1)

kept_after : {k : ObjectKind} (plan : RunPlan k) (left : RunLeft k) (store kept after : StoreView) → HasKept plan left store kept → FilesStay kept after → SameCounts kept after
    → HasKept plan left store after
kept_after plan left store kept after h stay same = record {
  calls = (same.0.0 ∙ h.calls.0, same.0.1 ∙ h.calls.1);
  faults = same.1.0 ∙ h.faults;
  fences = same.1.1 ∙ h.fences;
  files = logs_after kept after plan.logs 0 left.logs left.ends stay h.files;
  fit = h.fit;
  sizes = h.sizes;
  others = record {
    tells = stay.tells ∙ h.others.tells;
    file = λ told name other. stay.file (h.others.tells ∙ told) name ∙ h.others.file told name other;
  };
}

-- ---- how it ends
-- a header's fence failed, or a device
abbrev Stopped : {k : ObjectKind} → RunPlan k → StoreView → StoreView → Ending → List ℕ → Type 0
Stopped plan store after ending text = ((ending ≡ Faulty) × HeaderFault plan store after text) ⊎ ((ending ≡ WriteFault) × DeviceFault plan store after text)

run_stops : {k : ObjectKind} (plan : RunPlan k) (store after : StoreView) (ending : Ending) (text : List ℕ) → RunStops plan store after ending text → Stopped plan store after ending text
run_stops plan store after Done text h = absurd h
run_stops plan store after Usage text h = absurd h
run_stops plan store after Refused text h = absurd h
run_stops plan store after BadLog text h = absurd h
run_stops plan store after ReadFault text h = absurd h
run_stops plan store after WriteFault text h = inr (refl, h)
run_stops plan store after Faulty text h = inl (refl, h)
run_stops plan store after Judged text h = absurd h

-- the ending of a report, by how many fault lines it has
abbrev pub ended_by : ℕ → Ending
ended_by zero = Done
ended_by (suc more) = Faulty

said_ends : (k : ObjectKind) (plan : RunPlan k) (left : RunLeft k) (kept after : StoreView) (ending : Ending) (text : List ℕ) (broken : ℕ) → JobEnds kept after (said_task k plan left broken).job ending text
    → (ending ≡ ended_by broken) × (text ≡ plan_report plan left) × FilesStay kept after × SameCounts kept after
said_ends k plan left kept after ending text zero h = h
said_ends k plan left kept after ending text (suc more) h = h

none_broken : (n : ℕ) → Done ≡ ended_by n → n ≡ 0
none_broken zero e = refl
none_broken (suc n) e = cc e

some_broken : (n : ℕ) → Faulty ≡ ended_by n → 1 ≤ n
some_broken zero e = cc e
some_broken (suc n) e = omega arith

-- how a run of scripts ended: reported, at a header, or at a device
abbrev pub RunEnded : (from : Option Found) (after : StoreView) (ending : Ending) (text : List ℕ) (k : ObjectKind) → List ℕ → k.State → StoreView → List ℕ → List (List ℕ) → Type 0
RunEnded from after ending text k init s store logs names =
    ((r : HasReported from k init s store after logs names text) × (ending ≡ ended_by (fault_count r.left.ends)))
    ⊎ ((ending ≡ Faulty) × HasNoHeader from k init s store after logs names text)
    ⊎ ((ending ≡ WriteFault) × HasNoDevice from k init s store after logs names text)

module _ (from : Option Found) (after : StoreView) (ending : Ending) (text : List ℕ) (kind : Kind) (init : List ℕ) (s : (kind_at kind).State) (store : StoreView) (logs : List ℕ) (names : List (List ℕ))
    (scripts : List (List (Call (kind_at kind).State (kind_at kind).Op (kind_at kind).Query (kind_at kind).Reply))) (read : ReadScripts (kind_at kind).wording store names scripts)
    (begins : BeginsFrom from (kind_at kind) init store logs scripts) where
  stopped : Stopped (plan_from from (kind_at kind) init logs s scripts) store after ending text → RunEnded from after ending text (kind_at kind) init s store logs names
  stopped (inl h) = inr (inl (h.0, record { scripts = scripts; read = read; begins = begins; fault = h.1 }))
  stopped (inr h) = inr (inr (h.0, record { scripts = scripts; read = read; begins = begins; fault = h.1 }))

  pub calls_end : JobEnds store after (calls_task (kind_at kind) (Threads kind) (plan_from from (kind_at kind) init logs s scripts)).job ending text
      → RunEnded from after ending text (kind_at kind) init s store logs names
  calls_end (inl stops) = stopped (run_stops (plan_from from (kind_at kind) init logs s scripts) store after ending text stops)
  calls_end (inr ran) =
      let plan = plan_from from (kind_at kind) init logs s scripts in
      let end = said_ends (kind_at kind) plan ran.left ran.kept after ending text (broken_threads ran.left.ends) ran.next in
      let kept = kept_after plan ran.left store ran.kept after ran.keeps end.2 end.3 in
      let lines = length-fault_lines 0 ran.left.ends in
      let reported : HasReported from (kind_at kind) init s store after logs names text = record {
        scripts = scripts;
        many = many_scripts (kind_at kind).wording store names scripts read;
        read = read;
        begins = begins;
        left = ran.left;
        run = ran.run;
        reads = ran.reads;
        kept = kept;
        printed = end.1;
        rose = kept.faults ∙ ap (counted store.device_faults) (sym lines);
      } in
      inl (reported, end.0 ∙ ap ended_by (sym lines))

-- what its ending says
module _ (from : Option Found) (k : ObjectKind) (init : List ℕ) (s : k.State) (store after : StoreView) (logs : List ℕ) (names : List (List ℕ)) (text : List ℕ) where
  pub whole_of : RunEnded from after Done text k init s store logs names → RanWhole from k init s store after logs names text
  whole_of (inl r) = (r.0, none_broken (fault_count r.0.left.ends) r.1)
  whole_of (inr (inl f)) = absurd (let e = f.0 in cc)
  whole_of (inr (inr d)) = absurd (let e = d.0 in cc)

  pub broken_of : RunEnded from after Faulty text k init s store logs names → RanBroken from k init s store after logs names text
  broken_of (inl r) = inl (r.0, some_broken (fault_count r.0.left.ends) r.1)
  broken_of (inr (inl f)) = inr f.1
  broken_of (inr (inr d)) = absurd (let e = d.0 in cc)

  no_device : (n : ℕ) → WriteFault ≡ ended_by n → ⊥
  no_device zero e = cc e
  no_device (suc n) e = cc e

  pub device_of : RunEnded from after WriteFault text k init s store logs names → HasNoDevice from k init s store after logs names text
  device_of (inl r) = absurd (no_device (fault_count r.0.left.ends) r.1)
  device_of (inr (inl f)) = absurd (let e = f.0 in cc)
  device_of (inr (inr d)) = d.1

  pub never_of : (ending : Ending) → (ending ≡ Done → ⊥) → (ending ≡ Faulty → ⊥) → (ending ≡ WriteFault → ⊥) → RunEnded from after ending text k init s store logs names → ⊥
  never_of ending done faulty fault (inl r) = by (fault_count r.0.left.ends) r.1
    where
      by : (n : ℕ) → ending ≡ ended_by n → ⊥
      by zero e = done e
      by (suc n) e = faulty e
  never_of ending done faulty fault (inr (inl f)) = faulty f.0
  never_of ending done faulty fault (inr (inr d)) = fault d.0

-- ---- the call of a command over an object
module _ (seen : Seen) (init logs : List ℕ) (names : List (List ℕ)) (over : OverForm) (form : form_of seen.words ≡ Some (OverInit init over)) where
  pub over_ends : (ending : Ending) (h : PutWhole seen ending) → JobEnds seen.store seen.store_after (job_of (Some (OverInit init over))) ending h.text
  over_ends ending h = subst (λ form. JobEnds seen.store seen.store_after (job_of form) ending h.text) form h.allowed

  pub init_read : (ending : Ending) → IsRead ending → (h : PutWhole seen ending)
      → WholeEnds seen.store seen.store_after init init_of (λ bytes object. (object_task over bytes object).job) ending h.text
  init_read ending was h =
      whole_ends seen.store_after ending h.text was seen.store init init_of (λ bytes object. (object_task over bytes object).job) (over_ends ending h)

  -- what was put says what the job did over the initial state that was read
  pub over_read_put : (ending : Ending) (h : PutWhole seen ending)
      → (Ran : OfText)
      → ((kind : Kind) (bytes : List ℕ) (s : (kind_at kind).State) → JobEnds seen.store seen.store_after (over_task over (kind_at kind) (Threads kind) bytes s).job ending h.text
      → Ran (kind_at kind) bytes s seen.store seen.store_after logs names h.text)
      → WholeEnds seen.store seen.store_after init init_of (λ bytes object. (object_task over bytes object).job) ending h.text
      → RunPut seen init logs names Ran
  over_read_put ending h Ran f read = record {
    bytes = read.bytes;
    object = read.value;
    read = read.read;
    text = h.text;
    says =
        kind_goes {A = Task} (λ kind s. over_task over (kind_at kind) (Threads kind) read.bytes s) (λ task. JobEnds seen.store seen.store_after task.job ending h.text)
        (λ k s. Ran k read.bytes s seen.store seen.store_after logs names h.text) (λ says. says)
        (λ kind s known e. f kind read.bytes s e) read.value read.ends;
    put = h.put;
  }

  pub over_put : (ending : Ending) → IsRead ending → (h : PutWhole seen ending)
      → (Ran : OfText)
      → ((kind : Kind) (bytes : List ℕ) (s : (kind_at kind).State) → JobEnds seen.store seen.store_after (over_task over (kind_at kind) (Threads kind) bytes s).job ending h.text
      → Ran (kind_at kind) bytes s seen.store seen.store_after logs names h.text)
      → RunPut seen init logs names Ran
  over_put ending was h Ran f = over_read_put ending h Ran f (init_read ending was h)

  -- it never ends so
  pub over_never : (ending : Ending) → IsRead ending → (h : PutWhole seen ending)
      → ((kind : Kind) (bytes : List ℕ) (s : (kind_at kind).State) → JobEnds seen.store seen.store_after (over_task over (kind_at kind) (Threads kind) bytes s).job ending h.text → ⊥) → ⊥
  over_never ending was h f =
      let read = init_read ending was h in
      each_kind {A = Task} (λ kind s. over_task over (kind_at kind) (Threads kind) read.bytes s) (λ task. JobEnds seen.store seen.store_after task.job ending h.text → ⊥)
      (λ kind s e. f kind read.bytes s e) read.value read.ends

-- ---- a run that begins anew
module _ (after : StoreView) (ending : Ending) (text : List ℕ) (was : IsRead ending) (kind : Kind) (init : List ℕ) (s : (kind_at kind).State) (store : StoreView) (logs : List ℕ)
    (names : List (List ℕ)) where
  run_ends : JobEnds store after (run_task (kind_at kind) (Threads kind) init logs names s).job ending text → RunEnded None after ending text (kind_at kind) init s store logs names
  run_ends h =
      let k = kind_at kind in
      let read = scripts_end after ending text was k.wording store names (λ scripts. (calls_task k (Threads kind) (run_plan k init logs s scripts)).job) h in
      calls_end None after ending text kind init s store logs names read.scripts read.read tt read.ends

module _ (seen : Seen) (init logs : List ℕ) (names : List (List ℕ)) (form : form_of seen.words ≡ Some (Run init logs names)) where
  pub run_put : (ending : Ending) → IsRead ending → (h : PutWhole seen ending)
      → (Ran : OfText)
      → ((k : ObjectKind) (bytes : List ℕ) (s : k.State) → RunEnded None seen.store_after ending h.text k bytes s seen.store logs names → Ran k bytes s seen.store seen.store_after logs names h.text)
      → RunPut seen init logs names Ran
  run_put ending was h Ran f =
      over_put seen init logs names (RunOver logs names) form ending was h Ran
      (λ kind bytes s e. f (kind_at kind) bytes s (run_ends seen.store_after ending h.text was kind bytes s seen.store logs names e))

  pub run_whole : PutWhole seen Done → RunPut seen init logs names (RanWhole None)
  run_whole h = run_put Done (tt, λ e. cc e) h (RanWhole None) (λ k bytes s e. whole_of None k bytes s seen.store seen.store_after logs names h.text e)

  pub run_broken : PutWhole seen Faulty → RunPut seen init logs names (RanBroken None)
  run_broken h = run_put Faulty (tt, λ e. cc e) h (RanBroken None) (λ k bytes s e. broken_of None k bytes s seen.store seen.store_after logs names h.text e)

  pub run_no_device : PutWhole seen WriteFault → RunPut seen init logs names (HasNoDevice None)
  run_no_device h = run_put WriteFault (tt, λ e. cc e) h (HasNoDevice None) (λ k bytes s e. device_of None k bytes s seen.store seen.store_after logs names h.text e)

  -- a run never ends otherwise
  run_never : (ending : Ending) → IsRead ending → (ending ≡ Done → ⊥) → (ending ≡ Faulty → ⊥) → (ending ≡ WriteFault → ⊥) → PutWhole seen ending → ⊥
  run_never ending was done faulty fault h =
      over_never seen init logs names (RunOver logs names) form ending was h
      (λ kind bytes s e. never_of None (kind_at kind) bytes s seen.store seen.store_after logs names h.text ending done faulty fault
      (run_ends seen.store_after ending h.text was kind bytes s seen.store logs names e))

  pub run_not_usage : PutWhole seen Usage → ⊥
  run_not_usage h = run_never Usage (tt, λ e. cc e) (λ e. cc e) (λ e. cc e) (λ e. cc e) h

  pub run_not_judged : PutWhole seen Judged → ⊥
  run_not_judged h = run_never Judged (tt, λ e. cc e) (λ e. cc e) (λ e. cc e) (λ e. cc e) h

  pub run_not_bad : PutWhole seen BadLog → ⊥
  run_not_bad h = run_never BadLog (tt, λ e. cc e) (λ e. cc e) (λ e. cc e) (λ e. cc e) h
