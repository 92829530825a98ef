-- What an exit says by its status, and how calls never end: only words of no form get the usage text, only a run, anew or
-- going on, and a checkpoint a fault line, and only an audit a wrong line.

use Rattle.std.proofs.Common.{ℕ, zero, suc, List, ◌≡◌, ◌⊎◌, inl, inr, Option, Some, None, refl, sym, ap, ◌∙◌, subst, arith}
use Rattle.onll_outside.specs.Views.{Puts}
use Rattle.onll_model.specs.declared.call.Call.{Call}
use Rattle.onll_model.specs.Object.{Behaviour}
use Rattle.onll_text.specs.Wording.{Wording}
use Rattle.onll_text.specs.Script.{script_of}
use Rattle.onll_text.specs.Init.{init_of}
use Rattle.onll_text.specs.declared.any_object.Kind.{Kind}
use Rattle.onll_text.specs.Kinds.{kind_at}
use Rattle.onll_jobs.specs.Fold.{fold_report}
use Rattle.onll_task.specs.declared.ending.Ending.{Ending}
use Rattle.onll_task.specs.declared.ending.Ending.TheVariants.{Done, Usage, Refused, BadLog, ReadFault, WriteFault, Faulty, Judged}
use Rattle.onll_task.specs.declared.ending.Exit.{Exit}
use Rattle.onll_task.specs.declared.ending.Exit.TheVariants.{Said, SinkFault, NoMemory}
use Rattle.onll_jobs.specs.Seen.{Seen}
use Rattle.onll_jobs.specs.Command.{Form, OverInit, Show, Make, Areas, Restore, Checkpoint, Ship, form_of, usage_text, OverForm, FoldOver, RecoverOver, ReplayOver, AgainOver, ResumeOver, RunOver, DetectOver, FollowOver, AuditOver, over_task, object_task, over_work}
use Rattle.onll_task.specs.Printed.{status_of, exit_status}
use Rattle.onll_task.specs.Job.{Say, Threads, JobEnds, Decides}
use Rattle.onll_log.specs.Grammar.{Content, content_of}
use Rattle.onll_log.specs.ImageFile.{image_lines}
use Rattle.onll_jobs.specs.ShowJob.{shown_task}
use Rattle.onll_recovery.specs.RecoverJob.{recovered_task}
use Rattle.onll_jobs.specs.FoldJob.{script_task}
use Rattle.onll_jobs.specs.Exits.{PutExits}
use Rattle.onll_jobs.specs.Says.{job_of, AllowsEnding, PutWhole, OutOfMemory, SinkFailed, ExitSays, NothingFailed, NoneRose, SaysThis}
use Rattle.onll_task.specs.Doing.{Task}
use Rattle.onll_task.proofs.Onwards.{ends_cut}
use Rattle.onll_task.proofs.Jobs.{Never, TellsFault, nothing_failed, decided, IsRare, never_says, reading_never, reading_whole_never}
use Rattle.onll_task.proofs.Recovering.{recovery_never}
use Rattle.onll_text.proofs.EachKind.{each_kind}
use Rattle.onll_jobs.proofs.AgainEnds.{again_not_usage, again_not_faulty, again_not_judged}
use Rattle.onll_jobs.proofs.AuditEnds.{audit_not_usage, audit_not_faulty}
use Rattle.onll_jobs.proofs.DetectEnds.{detect_not_usage, detect_not_faulty, detect_not_judged}
use Rattle.onll_jobs.proofs.ReplayEnds.{replay_not_usage, replay_not_faulty, replay_not_judged}
use Rattle.onll_jobs.proofs.ResumeEnds.{resume_not_usage, resume_not_judged}
use Rattle.onll_jobs.proofs.RunEnds.{run_not_usage, run_not_judged}
use Rattle.onll_eras.proofs.EraEndings.{areas_never, restore_never, checkpoint_never}
use Rattle.onll_shipping.proofs.Endings.{follow_never}
use Rattle.onll_shipping.proofs.Shipping.{ship_never}
use Rattle.onll_jobs.specs.AuditPromises.{IsOfAudit}
use Rattle.onll_jobs.specs.RunPromises.{AreRunWords, IsOfCheckpoint}

ending_at : ℕ → Ending
ending_at zero = Done
ending_at (suc (suc zero)) = Usage
ending_at (suc (suc (suc zero))) = Refused
ending_at (suc (suc (suc (suc zero)))) = BadLog
ending_at (suc (suc (suc (suc (suc zero))))) = ReadFault
ending_at (suc (suc (suc (suc (suc (suc (suc zero))))))) = Faulty
ending_at (suc (suc (suc (suc (suc (suc (suc (suc zero)))))))) = Judged
ending_at _ = WriteFault

ending_at_status : (e : Ending) → ending_at (status_of e) ≡ e
unfolding ending_at
ending_at_status Done = refl
ending_at_status Usage = refl
ending_at_status Refused = refl
ending_at_status BadLog = refl
ending_at_status ReadFault = refl
ending_at_status WriteFault = refl
ending_at_status Faulty = refl
ending_at_status Judged = refl

same_ending : (d e : Ending) → status_of d ≡ status_of e → d ≡ e
same_ending d e h = sym (ending_at_status d) ∙ (ap ending_at h ∙ ending_at_status e)

not_nine : (e : Ending) → status_of e ≡ 9 → ⊥
not_nine Done h = omega arith
not_nine Usage h = omega arith
not_nine Refused h = omega arith
not_nine BadLog h = omega arith
not_nine ReadFault h = omega arith
not_nine WriteFault h = omega arith
not_nine Faulty h = omega arith
not_nine Judged h = omega arith

-- what a put of a text that is allowed says by its exit
pub put_says : (w : Seen) (ending : Ending) (text : List ℕ) (x : Exit) → AllowsEnding w ending text → PutExits w.sink w.sink_after ending text x → ExitSays w x
put_says w ending text (Said said) h p = record { text = text; allowed = subst (λ e. AllowsEnding w e text) (sym p.0) h; put = p.1; count = p.2 }
put_says w ending text SinkFault h p = record { some = record { ending = ending; text = text; allowed = h; put = p.0 }; rose = p.1 }
put_says w ending text NoMemory h p = record {
  taken = inl (record { ending = ending; text = text; allowed = h; put = p.0 });
  files = ends_cut w.store w.store_after (job_of (form_of w.words)) ending text h;
  count = p.1;
}

-- the status of an ending says that its text was put, but for the status that a sink's fault has as well
pub said_of : (w : Seen) (x : Exit) (e : Ending) → (status_of e ≡ 6 → ⊥) → exit_status x ≡ status_of e → ExitSays w x → PutWhole w e
said_of w (Said d) e own h s = subst (PutWhole w) (same_ending d e h) s
said_of w SinkFault e own h s = absurd (own (sym h))
said_of w NoMemory e own h s = absurd (not_nine e (sym h))

-- it says that the sink failed, or that a file could not be written
pub failed_of : (w : Seen) (x : Exit) → exit_status x ≡ 6 → ExitSays w x → SinkFailed w ⊎ PutWhole w WriteFault
failed_of w (Said e) h s = inr (subst (PutWhole w) (same_ending e WriteFault h) s)
failed_of w SinkFault h s = inl s
failed_of w NoMemory h s = absurd (omega arith)

pub no_memory_of : (w : Seen) (x : Exit) → exit_status x ≡ 9 → ExitSays w x → OutOfMemory w
no_memory_of w (Said e) h s = absurd (not_nine e h)
no_memory_of w SinkFault h s = absurd (omega arith)
no_memory_of w NoMemory h s = s

-- ---- endings that few words give: the usage text, a wrong line, a fault line
module _ (ending : Ending) (rare : IsRare ending) where
  report_never : {State Op Query Reply : Type 0} (b : Behaviour State Op Query Reply) (w : Wording State Op Query Reply) (s : State) (script : List ℕ) → Never ending (script_task b w s script).job
  report_never {State} {Op} {Query} {Reply} b w s script =
      let never : (calls : List (Call State Op Query Reply)) → Done ≡ ending → ⊥ = (λ calls e. subst IsRare (sym e) rare) in
      reading_never ending rare script (script_of w) (λ calls. Say Done (fold_report b w s calls)) never

  content_never : (content : Option Content) → Never ending (shown_task content).job
  content_never None = λ e. subst IsRare (sym e) rare
  content_never (Some content) = λ e. subst IsRare (sym e) rare

  -- what never ends so over any object never ends so
  over_never : (init : List ℕ) (over : OverForm) → ((kind : Kind) (bytes : List ℕ) (s : (kind_at kind).State) → Never ending (over_task over (kind_at kind) (Threads kind) bytes s).job)
      → Never ending (over_work init over).task.job
  over_never init over never =
      reading_whole_never ending rare init init_of (λ bytes object. (object_task over bytes object).job)
      (λ bytes object. each_kind {A = Task} (λ kind s. over_task over (kind_at kind) (Threads kind) bytes s) (λ task. Never ending task.job) (λ kind s. never kind bytes s) object)

  module _ (w : Seen) (h : PutWhole w ending) where
    never_put : (form : Form) → form_of w.words ≡ Some form → Never ending (job_of (Some form)) → ⊥
    never_put form e never =
        never_says ending rare w.store w.store_after (job_of (Some form)) h.text never (subst (λ f. JobEnds w.store w.store_after (job_of f) ending h.text) e h.allowed)

-- how a call with the words of a form ends: never with the usage text; with a wrong line where it is an audit; with a fault line where it
-- is a run, anew or going on, or a checkpoint
record EndsSo (w : Seen) : Type 0 where
  usage : PutWhole w Usage → ⊥
  judged : PutWhole w Judged → IsOfAudit w
  faulty : PutWhole w Faulty → AreRunWords w ⊎ IsOfCheckpoint w

module _ (w : Seen) where
  -- a call whose job ends in none of these ways
  plain_ends : (form : Form) → form_of w.words ≡ Some form → ((ending : Ending) → IsRare ending → Never ending (job_of (Some form))) → EndsSo w
  plain_ends form e never = record {
    usage = λ h. never_put Usage tt w h form e (never Usage tt);
    judged = λ h. absurd (never_put Judged tt w h form e (never Judged tt));
    faulty = λ h. absurd (never_put Faulty tt w h form e (never Faulty tt));
  }

  plain_over : (init : List ℕ) (over : OverForm) → form_of w.words ≡ Some (OverInit init over)
      → ((ending : Ending) → IsRare ending → (kind : Kind) (bytes : List ℕ) (s : (kind_at kind).State) → Never ending (over_task over (kind_at kind) (Threads kind) bytes s).job) → EndsSo w
  plain_over init over e never = plain_ends (OverInit init over) e (λ ending rare. over_never ending rare init over (never ending rare))

  form_ends : (form : Form) → form_of w.words ≡ Some form → EndsSo w
  form_ends (OverInit init (FoldOver script)) e = plain_over init (FoldOver script) e
      (λ ending rare kind bytes s. report_never ending rare (kind_at kind).means (kind_at kind).wording s script)
  form_ends (Show image) e = plain_ends (Show image) e (λ ending rare bytes. content_never ending rare (content_of (image_lines bytes)))
  form_ends (OverInit init (RecoverOver logs threads)) e = plain_over init (RecoverOver logs threads) e
      (λ ending rare kind bytes s. recovery_never (λ r. (recovered_task (kind_at kind) s r).job) ending rare (kind_at kind) bytes logs threads (λ r e. subst IsRare (sym e) rare))
  form_ends (OverInit init (ReplayOver schedule logs scripts)) e = record {
    usage = replay_not_usage w init schedule logs scripts e;
    judged = λ h. absurd (replay_not_judged w init schedule logs scripts e h);
    faulty = λ h. absurd (replay_not_faulty w init schedule logs scripts e h);
  }
  form_ends (OverInit init (AgainOver schedule logs scripts)) e = record {
    usage = again_not_usage w init schedule logs scripts e;
    judged = λ h. absurd (again_not_judged w init schedule logs scripts e h);
    faulty = λ h. absurd (again_not_faulty w init schedule logs scripts e h);
  }
  form_ends (OverInit init (ResumeOver logs names)) e = record {
    usage = resume_not_usage w init logs names e;
    judged = λ h. absurd (resume_not_judged w init logs names e h);
    faulty = λ h. inl (record { init = init; logs = logs; names = names; form = inr e });
  }
  form_ends (OverInit init (RunOver logs names)) e = record {
    usage = run_not_usage w init logs names e;
    judged = λ h. absurd (run_not_judged w init logs names e h);
    faulty = λ h. inl (record { init = init; logs = logs; names = names; form = inl e });
  }
  form_ends (OverInit init (DetectOver logs names)) e = record {
    usage = detect_not_usage w init logs names e;
    judged = λ h. absurd (detect_not_judged w init logs names e h);
    faulty = λ h. absurd (detect_not_faulty w init logs names e h);
  }
  form_ends (OverInit init (FollowOver threads stream piece)) e = plain_over init (FollowOver threads stream piece) e
      (λ ending rare kind bytes s. follow_never ending rare (kind_at kind) bytes stream threads s)
  form_ends (OverInit init (AuditOver report names)) e = record {
    usage = audit_not_usage w init report names e;
    judged = λ h. record { init = init; report = report; names = names; form = e };
    faulty = λ h. absurd (audit_not_faulty w init report names e h);
  }
  form_ends (Make workload) e = plain_ends (Make workload) e (λ ending rare d. subst IsRare (sym d) rare)
  form_ends (Areas ckpt) e = plain_ends (Areas ckpt) e (λ ending rare. areas_never ending rare ckpt)
  form_ends (Restore names threads) e = plain_ends (Restore names threads) e (λ ending rare. restore_never ending rare names threads)
  form_ends (Checkpoint names threads) e = record {
    usage = λ h. never_put Usage tt w h (Checkpoint names threads) e (checkpoint_never Usage tt (λ d. cc d) names threads);
    judged = λ h. absurd (never_put Judged tt w h (Checkpoint names threads) e (checkpoint_never Judged tt (λ d. cc d) names threads));
    faulty = λ h. inr (record { names = names; threads = threads; form = e });
  }
  form_ends (Ship logs threads out) e = plain_ends (Ship logs threads out) e (λ ending rare. ship_never ending rare logs threads out)

-- words of a form never get the usage text
form_not_usage : (w : Seen) (form : Form) → form_of w.words ≡ Some form → PutWhole w Usage → ⊥
form_not_usage w form e h = (form_ends w form e).usage h

usage_put : (w : Seen) (form : Option Form) → form_of w.words ≡ form → PutWhole w Usage → (form ≡ None) × Puts w.sink w.sink_after usage_text
usage_put w None e h = (refl, subst (Puts w.sink w.sink_after) (subst (λ f. JobEnds w.store w.store_after (job_of f) Usage h.text) e h.allowed).1 h.put)
usage_put w (Some form) e h = absurd (form_not_usage w form e h)

pub usage_of : (w : Seen) (x : Exit) → exit_status x ≡ 2 → ExitSays w x → (form_of w.words ≡ None) × Puts w.sink w.sink_after usage_text
usage_of w x h s = usage_put w (form_of w.words) refl (said_of w x Usage (λ e. omega arith) h s)

-- a call that ends with a wrong line is an audit
judged_put : (w : Seen) (form : Option Form) → form_of w.words ≡ form → PutWhole w Judged → IsOfAudit w
judged_put w None e h = absurd (let same = (subst (λ f. JobEnds w.store w.store_after (job_of f) Judged h.text) e h.allowed).0 in cc)
judged_put w (Some form) e h = (form_ends w form e).judged h

pub judged_audit : (w : Seen) → PutWhole w Judged → IsOfAudit w
judged_audit w h = judged_put w (form_of w.words) refl h

-- one that ends with a fault line is a run, or a checkpoint
faulty_put : (w : Seen) (form : Option Form) → form_of w.words ≡ form → PutWhole w Faulty → AreRunWords w ⊎ IsOfCheckpoint w
faulty_put w None e h = absurd (let same = (subst (λ f. JobEnds w.store w.store_after (job_of f) Faulty h.text) e h.allowed).0 in cc)
faulty_put w (Some form) e h = (form_ends w form e).faulty h

pub faulty_run : (w : Seen) → PutWhole w Faulty → AreRunWords w ⊎ IsOfCheckpoint w
faulty_run w h = faulty_put w (form_of w.words) refl h

-- the statuses that say that nothing failed
abbrev IsSound : ℕ → Type 0
IsSound n = (n ≡ 0) ⊎ (n ≡ 2) ⊎ (n ≡ 3) ⊎ (n ≡ 4) ⊎ (n ≡ 7) ⊎ (n ≡ 8)

sound_not : (n : ℕ) → IsSound n → (n ≡ 5 → ⊥) × (n ≡ 6 → ⊥) × (n ≡ 9 → ⊥)
sound_not n (inl h) = (λ e. omega arith, λ e. omega arith, λ e. omega arith)
sound_not n (inr (inl h)) = (λ e. omega arith, λ e. omega arith, λ e. omega arith)
sound_not n (inr (inr (inl h))) = (λ e. omega arith, λ e. omega arith, λ e. omega arith)
sound_not n (inr (inr (inr (inl h)))) = (λ e. omega arith, λ e. omega arith, λ e. omega arith)
sound_not n (inr (inr (inr (inr (inl h))))) = (λ e. omega arith, λ e. omega arith, λ e. omega arith)
sound_not n (inr (inr (inr (inr (inr h))))) = (λ e. omega arith, λ e. omega arith, λ e. omega arith)

tells_none : (e : Ending) → IsSound (status_of e) → TellsFault e → ⊥
tells_none Done h t = t
tells_none Usage h t = t
tells_none Refused h t = t
tells_none BadLog h t = t
tells_none ReadFault h t = (sound_not 5 h).0 refl
tells_none WriteFault h t = (sound_not 6 h).1 refl
tells_none Faulty h t = t
tells_none Judged h t = t

-- such a status says so
pub none_failed_of : (w : Seen) (x : Exit) (status : ℕ) → status ≡ exit_status x → IsSound status → ExitSays w x → NothingFailed w
none_failed_of w (Said e) status is good h =
    record { store = nothing_failed w.store w.store_after (job_of (form_of w.words)) e h.text (tells_none e (subst IsSound is good)) h.allowed; sink = h.count }
none_failed_of w SinkFault status is good h = absurd ((sound_not status good).1 is)
none_failed_of w NoMemory status is good h = absurd ((sound_not status good).2 is)

-- the sink's count stays but where the status says that the sink failed
pub count_of : (w : Seen) (x : Exit) → ExitSays w x → (exit_status x ≡ 6) ⊎ (w.sink_after.faults ≡ w.sink.faults)
count_of w (Said e) h = inr h.count
count_of w SinkFault h = inl refl
count_of w NoMemory h = inr h.count

-- where no count rose, the words and the told files decide the status and the text, but for memory
pub decided_exactly : (w : Seen) (x : Exit) (ending : Ending) (text : List ℕ) → Decides w.store (job_of (form_of w.words)) ending text → NoneRose w → ExitSays w x → SaysThis w (exit_status x) ending text
decided_exactly w (Said e) ending text d none h =
    let said = decided w.store w.store_after (job_of (form_of w.words)) ending e text h.text none.store d h.allowed in
    inl (ap status_of said.0, subst (Puts w.sink w.sink_after) said.1 h.put)
decided_exactly w SinkFault ending text d none h = absurd (none.sink h.rose)
decided_exactly w NoMemory ending text d none h = inr refl
