-- A run whose texts are told and accepted is run to its end where no call of the store failed.

use Rattle.std.proofs.Common.{ℕ, zero, suc, List, ◌≡◌, ◌<◌, ◌≤◌, ◌^◌, inl, inr, Option, Some, None, Ok, refl, ap, arith}
use Rattle.std.specs.List.{AllByRecursion}
use Rattle.onll_model.specs.declared.call.Call.{Call}
use Rattle.onll_start.specs.Start.{Found}
use Rattle.onll_text.specs.declared.any_object.AnyObject.{AnyObject}
use Rattle.onll_text.specs.Script.{script_of}
use Rattle.onll_text.specs.Init.{init_of}
use Rattle.onll_text.specs.Kinds.{ObjectKind, kind_at}
use Rattle.onll_text.proofs.EachKind.{kind_goes}
use Rattle.onll_outside.specs.Views.{Puts, WentUp, counted}
use Rattle.onll_task.specs.declared.ending.Ending.{Ending}
use Rattle.onll_task.specs.declared.ending.Exit.{Exit}
use Rattle.onll_task.specs.declared.ending.Exit.TheVariants as exits
use Rattle.onll_task.specs.Doing.{Task}
use Rattle.onll_task.specs.Job.{Job, Threads, JobEnds}
use Rattle.onll_task.specs.Printed.{status_of, exit_status}
use Rattle.onll_task.specs.Reading.{FileIsTold}
use Rattle.onll_runner.specs.RunJob.{run_plan, run_task, calls_task}
use Rattle.onll_jobs.specs.Command.{OverInit, Run, form_of, OverForm, RunOver, over_task, object_task}
use Rattle.onll_jobs.specs.RunPromises.{fault_count, HasReported, TellsText, TellsTexts, SaysRan, IsRun}
use Rattle.onll_jobs.specs.Says.{ExitSays, NoneRose}
use Rattle.onll_jobs.specs.Seen.{Seen}
use Rattle.onll_jobs.proofs.RunEnds.{RunEnded, ended_by, calls_end, over_ends}
use Rattle.onll_jobs.proofs.Told.{told_read, tell_scripts, told_ends, scripts_told}

-- ---- what a call did where nothing failed
-- the job ended with a text that was put whole; or memory could not be had
abbrev pub DidJob : Seen → Exit → Job → Type 0
DidJob seen (exits.Said ending) job = (text : List ℕ) × JobEnds seen.store seen.store_after job ending text × Puts seen.sink seen.sink_after text
DidJob seen exits.SinkFault job = ⊥
DidJob seen exits.NoMemory job = Unit {0}

module _ (seen : Seen) (none : NoneRose seen) where
  -- it goes on with the rest of the job
  pub did_rest : (job rest : Job) → ((ending : Ending) (text : List ℕ) → JobEnds seen.store seen.store_after job ending text → JobEnds seen.store seen.store_after rest ending text)
      → (x : Exit) → DidJob seen x job → DidJob seen x rest
  did_rest job rest f (exits.Said ending) did = (did.0, f ending did.0 did.1, did.2)
  did_rest job rest f exits.SinkFault did = did
  did_rest job rest f exits.NoMemory did = did

  -- over the initial state that is told
  pub did_over : (init bytes logs : List ℕ) (names : List (List ℕ)) (object : AnyObject) (over : OverForm) → form_of seen.words ≡ Some (OverInit init over) → FileIsTold seen.store init bytes → init_of bytes ≡ Ok object
      → (x : Exit) → ExitSays seen x → DidJob seen x (object_task over bytes object).job
  did_over init bytes logs names object over form told accepted (exits.Said ending) h =
      (h.text, told_ends seen.store_after ending h.text seen.store none.store init init_of (λ bytes object. (object_task over bytes object).job) bytes object told accepted (over_ends seen init logs names over form ending h), h.put)
  did_over init bytes logs names object over form told accepted exits.SinkFault h = absurd (none.sink h.rose)
  did_over init bytes logs names object over form told accepted exits.NoMemory h = tt

counted_rose : (n m now : ℕ) → 1 ≤ m → now ≡ counted n m → n < 2 ^ 64 → WentUp n now
counted_rose n m now some is low = (omega (arith, some, is, low), omega (arith, some, is, low))

-- ---- what it says of a run
module _ (seen : Seen) (none : NoneRose seen) (k : ObjectKind) (init : List ℕ) (s : k.State) (logs : List ℕ) (names : List (List ℕ)) (from : Option Found) where
  module _ (ending : Ending) (text : List ℕ) (put : Puts seen.sink seen.sink_after text) where
    reported_says : (r : HasReported from k init s seen.store seen.store_after logs names text) (n : ℕ) → fault_count r.left.ends ≡ n → ending ≡ ended_by n → SaysRan k init s seen (status_of ending) logs names from
    reported_says r zero count e = inl (ap status_of e, record { text = text; ran = (r, count); put = put })
    reported_says r (suc more) count e =
        let some : 1 ≤ fault_count r.left.ends = omega (arith, count) in
        inr (inl (ap status_of e, record { text = text; ran = inl (r, some); put = put }, counted_rose seen.store.device_faults (fault_count r.left.ends) seen.store_after.device_faults some r.rose))

    pub ran_says : RunEnded from seen.store_after ending text k init s seen.store logs names → SaysRan k init s seen (status_of ending) logs names from
    ran_says (inl r) = reported_says r.0 (fault_count r.0.left.ends) refl r.1
    ran_says (inr (inl f)) = inr (inl (ap status_of f.0, record { text = text; ran = inr f.1; put = put }, counted_rose seen.store.device_faults 1 seen.store_after.device_faults (omega arith) f.1.fault.faults))
    ran_says (inr (inr d)) = absurd (none.store d.1.fault.rose)

  pub did_say : (job : Job) → ((ending : Ending) (text : List ℕ) → JobEnds seen.store seen.store_after job ending text → RunEnded from seen.store_after ending text k init s seen.store logs names)
      → (x : Exit) → DidJob seen x job → SaysRan k init s seen (exit_status x) logs names from
  did_say job f (exits.Said ending) did = ran_says ending did.0 did.2 (f ending did.0 did.1)
  did_say job f exits.SinkFault did = absurd did
  did_say job f exits.NoMemory did = inr (inr refl)

is_run : (k : ObjectKind) (init : List ℕ) (s : k.State) (seen : Seen) (status : ℕ) (logs : List ℕ) (names : List (List ℕ)) → SaysRan k init s seen status logs names None → IsRun seen status
is_run k init s seen status logs names (inl h) = inl h.0
is_run k init s seen status logs names (inr (inl h)) = inr (inl (h.0, h.2))
is_run k init s seen status logs names (inr (inr h)) = inr (inr h)

-- ---- the call
pub run_done : (seen : Seen) (x : Exit) (init logs : List ℕ) (names : List (List ℕ)) → form_of seen.words ≡ Some (Run init logs names) → TellsTexts seen.store init names → NoneRose seen
    → ExitSays seen x → IsRun seen (exit_status x)
run_done seen x init logs names form tells none says =
    let state = tells.state in
    kind_goes {A = Task} (λ kind s. over_task (RunOver logs names) (kind_at kind) (Threads kind) state.bytes s) (λ task. DidJob seen x task.job)
    (λ k s. AllByRecursion (TellsText seen.store (script_of k.wording)) names) (λ texts. texts → IsRun seen (exit_status x))
    (λ kind s known did texts.
    let k = kind_at kind in
    let told = tell_scripts k.wording seen.store names texts in
    let scripts = told.0 in
    let next : List (List (Call k.State k.Op k.Query k.Reply)) → Job = λ scripts. (calls_task k (Threads kind) (run_plan k state.bytes logs s scripts)).job in
    is_run k state.bytes s seen (exit_status x) logs names
    (did_say seen none k state.bytes s logs names None (run_task k (Threads kind) state.bytes logs names s).job
    (λ ending text h.
    calls_end None seen.store_after ending text kind state.bytes s seen.store logs names scripts (told_read k.wording seen.store names scripts told.1) tt
    (scripts_told seen.store_after ending text seen.store none.store k.wording names scripts next told.1 h)) x did))
    state.value (did_over seen none init state.bytes logs names state.value (RunOver logs names) form state.told state.accepted x says) tells.scripts
