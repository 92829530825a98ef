-- How jobs over eras end: never with the usage text or a verdict, a restoration never with a fault, and a checkpoint with one as it says.

use Rattle.std.proofs.Common.{ℕ, zero, suc, ◌≡◌, ◌≤◌, ◌+◌, inl, inr, Bool, true, false, List, [], ◌∷◌, Option, Result, Ok, Err, refl, sym, ap, ◌∙◌, subst, length, arith}
use Rattle.std.specs.Prelude.{◌^◌, nat_lt}
use Rattle.std.specs.List.{flat_map}
use Rattle.onll_words.specs.Texts.{line_text}
use Rattle.onll_log.specs.Head.{head_line, head_for}
use Rattle.onll_log.specs.ImageFile.{image_lines}
use Rattle.onll_checkpoint.specs.Grammar.{checkpoint_image}
use Rattle.onll_checkpoint.specs.Text.{lines_for}
use Rattle.onll_merge.specs.declared.fault.StateFault.{StateFault}
use Rattle.onll_merge.specs.Recovered.{Recovered}
use Rattle.onll_model.specs.Trace.{state_after}
use Rattle.onll_text.specs.declared.any_object.AnyObject.{AnyObject}
use Rattle.onll_text.specs.declared.any_object.Kind.{Kind}
use Rattle.onll_text.specs.Init.{on_kind, init_of}
use Rattle.onll_text.specs.Kinds.{kind_at}
use Rattle.onll_text.specs.PrintsBack.{prints_back}
use Rattle.onll_text.specs.Refusal.{Refusal}
use Rattle.onll_text.specs.Reports.{SaysOnly}
use Rattle.onll_text.proofs.EachKind.{each_kind}
use Rattle.onll_outside.specs.Views.{StoreView, SameFaults, Rose, counted}
use Rattle.onll_outside.specs.declared.store.FaultKind.TheVariants as kinds
use Rattle.onll_task.specs.RecoverySaid.{data_with}
use Rattle.onll_task.specs.Writing.{written}
use Rattle.onll_areas.specs.Newest.{newest}
use Rattle.onll_checkpoint.specs.Checkpoint.{CheckpointState}
use Rattle.onll_task.specs.declared.ending.Ending.{Ending}
use Rattle.onll_task.specs.declared.ending.Ending.TheVariants.{Done, Refused, BadLog, WriteFault, Faulty}
use Rattle.onll_task.specs.Doing.{Task, after_stage, report_task, say_task, assured_stage, lines_stage, each_job}
use Rattle.onll_open.specs.Names.{log_name, log_names}
use Rattle.onll_task.specs.Recovering.{recovery_of}
use Rattle.onll_task.specs.Job.{Job, Say, Read, Write, Keep, JobEnds, on_value}
use Rattle.onll_task.specs.Keeps.{KeepStops}
use Rattle.onll_task.specs.Reading.{CannotRead}
use Rattle.onll_task.proofs.Jobs.{Never, IsRare, reading_whole_never}
use Rattle.onll_task.proofs.Recovering.{recovery_never}
use Rattle.onll_eras.specs.EraJob.{EraNext, areas_work, era_task, on_started, started, with_newest, either_task, restored_task, restore_work, checkpoint_task, checkpoint_work, keeping_headers, begun_stage, header_said, area_said, has_next, checkpoint_after, area_of}
use Rattle.onll_eras.specs.EraReports.{at_end_text, RestoreData, RestoreReads, newest_in, restore_lines, CheckpointData, CheckpointReads, checkpoint_lines}
use Rattle.onll_eras.specs.EndingLaws.{HasFenceFault, FenceFaultLaw, HasFileFault, FileFaultLaw}
use Rattle.onll_eras.specs.Eras.{Era, era_of}
use Rattle.onll_eras.specs.Names.{EraNames, area_name, text_name}
use Rattle.onll_eras.proofs.EraReads.{Given, Onward, OnObject}

-- ---- endings that no file gives
-- one task or the other
either_says : (P : Task → Type 0) (b : Bool) (task other : Task) → P task → P other → P (either_task b task other)
either_says P true task other p q = p
either_says P false task other p q = q

module _ (ending : Ending) (rare : IsRare ending) where
  -- what goes on with what an era's logs give never ends so
  abbrev NextNever : EraNext → Type 0
  NextNever next = (from : Option CheckpointState) (era : Era) (kind : Kind) (s : (kind_at kind).State)
      (r : Recovered) → Never ending (next from era (kind_at kind) s r).job

  logs_never : (next : EraNext) → NextNever next → (from : Option CheckpointState) (era : Era) (threads : ℕ) (object : AnyObject)
      → Never ending (on_kind (λ kind s. OnObject next threads from era (kind_at kind) s) object).job
  logs_never next never from era threads object =
      each_kind {A = Task} (λ kind s. OnObject next threads from era (kind_at kind) s) (λ task. Never ending task.job)
      (λ kind s. recovery_never (λ r. (next from era (kind_at kind) s r).job) ending rare (kind_at kind) era.text era.logs threads (never from era kind s)) object

  started_never : (next : EraNext) → NextNever next → (from : Option CheckpointState) (era : Era) (threads : ℕ) (r : Result AnyObject Refusal)
      → Never ending (on_started era r (λ k s. OnObject next threads from era k s)).job
  started_never next never from era threads (Ok object) = logs_never next never from era threads object
  started_never next never from era threads (Err refusal) = λ e. subst IsRare (sym e) rare

  newest_never : (names : EraNames) (threads : ℕ) (next : EraNext) → NextNever next → Never ending (with_newest names threads next).job
  newest_never names threads next never =
      reading_whole_never ending rare names.init init_of (λ bytes first. Read (area_name names.ckpt 0) (λ even. Read (area_name names.ckpt 1)
      (λ odd. (era_task names bytes threads first (newest even odd) next).job)))
      (λ bytes first even odd. let from = newest even odd in
      started_never next never from (era_of names bytes from) threads (started first from))

  pub areas_never : (ckpt : List ℕ) → Never ending (areas_work ckpt).task.job
  areas_never ckpt = λ e. subst IsRare (sym e) rare

  restored_never : NextNever restored_task
  restored_never from era kind s r = let k = kind_at kind in
      let said : RestoreData k.State = record { from = newest_in from; logs = data_with r (state_after k.means s r.nodes) } in
      either_says (λ task. Never ending task.job) (nat_lt (era.place + length r.nodes) (2 ^ 64))
      (report_task (flat_map line_text (restore_lines k.means k.wording said))
      (λ text. SaysOnly (restore_lines k.means k.wording) (RestoreReads k.means k.wording) text said))
      (say_task BadLog at_end_text) (λ e. subst IsRare (sym e) rare) (λ e. subst IsRare (sym e) rare)

  pub restore_never : (names : EraNames) (threads : ℕ) → Never ending (restore_work names threads).task.job
  restore_never names threads = newest_never names threads restored_task restored_never

  headers_never : (ending ≡ Faulty → ⊥) → (logs : List ℕ) (code : ℕ) (text : List ℕ) (threads t n : ℕ) (next : Job) → Never ending next
      → Never ending (keeping_headers logs code text threads t n next)
  headers_never other logs code text threads t zero next never = never
  headers_never other logs code text threads t (suc n) next never = (other, headers_never other logs code text threads (suc t) n next never)

  checkpoint_next_never : (ending ≡ Faulty → ⊥) → (ckpt : List ℕ) (threads : ℕ) → NextNever (checkpoint_task ckpt threads)
  checkpoint_next_never other ckpt threads from era kind s r = let k = kind_at kind in
      let state = state_after k.means s r.nodes in
      let lines = k.wording.state_lines state in
      let c = checkpoint_after era (length r.nodes) lines in
      let said : CheckpointData k.State = record { number = era.number + 1; place = era.place + length r.nodes; state = state } in
      let last = report_task (flat_map line_text (checkpoint_lines k.wording said))
      (λ text. SaysOnly (checkpoint_lines k.wording) (CheckpointReads k.wording) text said) in
      either_says (λ task. Never ending task.job) (has_next era (length r.nodes))
      (after_stage (assured_stage (prints_back k.wording (flat_map line_text lines))) (λ _. after_stage (begun_stage ckpt k.code threads c) (λ _. last)))
      (say_task BadLog at_end_text)
      (headers_never other (area_name ckpt (area_of c)) k.code c.text threads 0 threads
      (Write (text_name ckpt (area_of c)) c.text (Keep (area_name ckpt (area_of c)) (checkpoint_image c (lines_for (length c.text))) 2 (area_said (area_of c)) last.job))
      (other, λ e. subst IsRare (sym e) rare)) (λ e. subst IsRare (sym e) rare)

  -- but with the fault of a fence
  pub checkpoint_never : (ending ≡ Faulty → ⊥) → (names : EraNames) (threads : ℕ) → Never ending (checkpoint_work names threads).task.job
  checkpoint_never other names threads = newest_never names threads (checkpoint_task names.ckpt threads) (checkpoint_next_never other names.ckpt threads)

-- ---- endings that no file which is read gives
module _ (store after : StoreView) (ending : Ending) (text : List ℕ)
    (read : (name : List ℕ) → CannotRead store after name ending text → ⊥) (accepted : ending ≡ Refused → ⊥) (good : ending ≡ BadLog → ⊥) where
  -- a job over an era that ends so went on with what the logs of some era gave
  record AtNext (next : EraNext) : Type 0 where
    from : Option CheckpointState
    era : Era
    kind : Kind
    s : (kind_at kind).State
    r : Recovered
    ends : JobEnds store after (next from era (kind_at kind) s r).job ending text

  at_images : {A : Type 0} (names : List (List ℕ)) (next : List (List (List ℕ)) → Job)
      → ((images : List (List (List ℕ))) → JobEnds store after (next images) ending text → A)
      → JobEnds store after (each_job lines_stage names next) ending text → A
  at_images [] next f h = f [] h
  at_images (name ∷ names) next f (inl h) = absurd (read name h.0)
  at_images (name ∷ names) next f (inr h) =
      at_images names (λ images. next (image_lines h.0 ∷ images)) (λ images. f (image_lines h.0 ∷ images)) h.1.1

  given_reach : (next : EraNext) (from : Option CheckpointState) (era : Era) (kind : Kind) (s : (kind_at kind).State) (given : Result Recovered StateFault)
      → JobEnds store after (Given next from era (kind_at kind) s given) ending text → AtNext next
  given_reach next from era kind s (Ok r) h = record { from = from; era = era; kind = kind; s = s; r = r; ends = h }
  given_reach next from era kind s (Err fault) h = absurd (good h.0)

  logs_reach : (next : EraNext) (from : Option CheckpointState) (era : Era) (threads : ℕ) (object : AnyObject)
      → JobEnds store after (on_kind (λ kind s. OnObject next threads from era (kind_at kind) s) object).job ending text → AtNext next
  logs_reach next from era threads object =
      each_kind {A = Task} (λ kind s. OnObject next threads from era (kind_at kind) s) (λ task. JobEnds store after task.job ending text → AtNext next)
      (λ kind s. at_images (log_names era.logs 0 threads) (λ images. Onward next from era (kind_at kind) s images)
      (λ images. given_reach next from era kind s (recovery_of (kind_at kind) era.text images))) object

  started_reach : (next : EraNext) (from : Option CheckpointState) (era : Era) (threads : ℕ) (r : Result AnyObject Refusal)
      → JobEnds store after (on_started era r (λ k s. OnObject next threads from era k s)).job ending text → AtNext next
  started_reach next from era threads (Ok object) h = logs_reach next from era threads object h
  started_reach next from era threads (Err refusal) h = absurd (accepted h.0)

  newest_reach : (names : EraNames) (threads : ℕ) (next : EraNext) → JobEnds store after (with_newest names threads next).job ending text → AtNext next
  newest_reach names threads next (inl h) = absurd (read names.init h.0)
  newest_reach names threads next (inr h) = by (init_of h.0) h.1.1
    where
      areas : (first : AnyObject) → JobEnds store after (Read (area_name names.ckpt 0) (λ even. Read (area_name names.ckpt 1)
          (λ odd. (era_task names h.0 threads first (newest even odd) next).job))) ending text → AtNext next
      areas first (inl d) = absurd (read (area_name names.ckpt 0) d.0)
      areas first (inr d) = odds d.1.1
        where
          odds : JobEnds store after (Read (area_name names.ckpt 1) (λ odd. (era_task names h.0 threads first (newest d.0 odd) next).job)) ending text → AtNext next
          odds (inl g) = absurd (read (area_name names.ckpt 1) g.0)
          odds (inr g) = let from = newest d.0 g.0 in started_reach next from (era_of names h.0 from) threads (started first from) g.1.1

      by : (r : Result AnyObject Refusal) → JobEnds store after (on_value names.init (λ first. Read (area_name names.ckpt 0) (λ even. Read (area_name names.ckpt 1)
          (λ odd. (era_task names h.0 threads first (newest even odd) next).job))) r) ending text → AtNext next
      by (Ok first) d = areas first d
      by (Err refusal) d = absurd (accepted d.0)

-- ---- what a checkpoint says of a fence, and of a file
counted-again : (n more : ℕ) → more ≤ 1 → counted (counted n 0) more ≡ counted n more
counted-again n more few = omega arith

-- from a store with the same counts of faults, whose devices had none
fence_from : (store kept after : StoreView) (threads : ℕ) (said : List ℕ) → SameFaults store kept
    → kept.device_faults ≡ counted store.device_faults 0 → HasFenceFault kept after threads said → HasFenceFault store after threads said
fence_from store kept after threads said calls faults h = record {
  line = h.line;
  calls = (h.calls.0 ∙ calls.0, h.calls.1 ∙ calls.1);
  faults = h.faults ∙ (ap (λ n. counted n 1) faults ∙ counted-again store.device_faults 1 (omega arith));
}

file_from : (store kept after : StoreView) (said : List ℕ) → SameFaults store kept → HasFileFault kept after said → HasFileFault store after said
file_from store kept after said calls h =
    record { kind = h.kind; name = h.name; makes = h.makes; line = h.line; rose = subst (λ n. Rose n after.faults) calls.0 h.rose; last = h.last }

-- a device that was not made, or not kept, says so of its file
not_kept : (store after : StoreView) (name : List ℕ) (lines : List (List ℕ)) (fences : ℕ) (line said : List ℕ)
    → KeepStops store after name lines fences line WriteFault said → HasFileFault store after said
not_kept store after name lines fences line said (e, inl h) =
    record { kind = kinds.Device; name = name; makes = inl refl; line = e; rose = h.rose; last = h.last }
not_kept store after name lines fences line said (e, inr h) =
    record { kind = kinds.Keep; name = name; makes = inr (inl refl); line = e; rose = h.rose; last = h.last }

module _ (after : StoreView) (said : List ℕ) (logs : List ℕ) (code : ℕ) (text : List ℕ) (threads : ℕ) (next : Job) where
  headers_fence : (store : StoreView) (t n : ℕ) → t + n ≤ threads
      → ((mid : StoreView) → JobEnds mid after next Faulty said → HasFenceFault mid after threads said)
      → JobEnds store after (keeping_headers logs code text threads t n next) Faulty said → HasFenceFault store after threads said
  headers_fence store t zero within last h = last store h
  headers_fence store t (suc n) within last (inl h) =
      record { line = inl (t, omega arith, h.0); calls = h.1.calls; faults = h.1.faults }
  headers_fence store t (suc n) within last (inr h) =
      fence_from store h.0 after threads said h.1.calls h.1.faults (headers_fence h.0 (suc t) n (omega arith) last h.2)

  headers_file : (store : StoreView) (t n : ℕ)
      → ((mid : StoreView) → JobEnds mid after next WriteFault said → HasFileFault mid after said)
      → JobEnds store after (keeping_headers logs code text threads t n next) WriteFault said → HasFileFault store after said
  headers_file store t zero last h = last store h
  headers_file store t (suc n) last (inl h) =
      not_kept store after (log_name logs t) (head_line (head_for 2 t threads code text) ∷ []) 1 (header_said t) said h
  headers_file store t (suc n) last (inr h) = file_from store h.0 after said h.1.calls (headers_file h.0 (suc t) n last h.2)

-- what is done once the next era's checkpoint is known
module _ (store after : StoreView) (said : List ℕ) (ckpt : List ℕ) (code threads : ℕ) (c : CheckpointState) (report : List ℕ) where
  abbrev last : Job
  last = Write (text_name ckpt (area_of c)) c.text
      (Keep (area_name ckpt (area_of c)) (checkpoint_image c (lines_for (length c.text))) 2 (area_said (area_of c)) (Say Done report))

  area_fence : (mid : StoreView) → JobEnds mid after last Faulty said → HasFenceFault mid after threads said
  area_fence mid (inl h) = absurd h
  area_fence mid (inr (inl h)) = record { line = inr (area_of c, omega arith, h.0); calls = h.1.calls; faults = h.1.faults }
  area_fence mid (inr (inr h)) = absurd (let e = h.2.0 in cc)

  area_file : (mid : StoreView) → JobEnds mid after last WriteFault said → HasFileFault mid after said
  area_file mid (inl h) = record {
    kind = kinds.Write;
    name = text_name ckpt (area_of c);
    makes = inr (inr refl);
    line = h.line;
    rose = h.failed.rose;
    last = h.failed.last;
  }
  area_file mid (inr (inl h)) = subst_counts h
    where
      subst_counts : KeepStops (written mid (text_name ckpt (area_of c)) c.text) after (area_name ckpt (area_of c)) (checkpoint_image c (lines_for (length c.text))) 2 (area_said (area_of c)) WriteFault said
          → HasFileFault mid after said
      subst_counts k = file_from mid (written mid (text_name ckpt (area_of c)) c.text) after said (refl, refl)
          (not_kept (written mid (text_name ckpt (area_of c)) c.text) after (area_name ckpt (area_of c)) (checkpoint_image c (lines_for (length c.text))) 2 (area_said (area_of c)) said k)
  area_file mid (inr (inr h)) = absurd (let e = h.2.0 in cc)

  begun_fence : JobEnds store after ((begun_stage ckpt code threads c).job (λ _. Say Done report)) Faulty said → HasFenceFault store after threads said
  begun_fence = headers_fence after said (area_name ckpt (area_of c)) code c.text threads last store 0 threads (omega arith) area_fence

  begun_file : JobEnds store after ((begun_stage ckpt code threads c).job (λ _. Say Done report)) WriteFault said → HasFileFault store after said
  begun_file = headers_file after said (area_name ckpt (area_of c)) code c.text threads last store 0 threads area_file

module _ (store after : StoreView) (ckpt : List ℕ) (threads : ℕ) (said : List ℕ) (from : Option CheckpointState) (era : Era) (kind : Kind) (s : (kind_at kind).State) where
  at_next : (ending : Ending) (A : Type 0) → (ending ≡ BadLog → ⊥) → (r : Recovered)
      → ((c : CheckpointState) (report : List ℕ) → JobEnds store after ((begun_stage ckpt (kind_at kind).code threads c).job (λ _. Say Done report)) ending said → A)
      → JobEnds store after (checkpoint_task ckpt threads from era (kind_at kind) s r).job ending said → A
  at_next ending A good r f = let k = kind_at kind in
      let state = state_after k.means s r.nodes in
      let lines = k.wording.state_lines state in
      let c = checkpoint_after era (length r.nodes) lines in
      let said_data : CheckpointData k.State = record { number = era.number + 1; place = era.place + length r.nodes; state = state } in
      let report = flat_map line_text (checkpoint_lines k.wording said_data) in
      either_says (λ task. JobEnds store after task.job ending said → A) (has_next era (length r.nodes))
      (after_stage (assured_stage (prints_back k.wording (flat_map line_text lines))) (λ _. after_stage (begun_stage ckpt k.code threads c)
      (λ _. report_task report (λ text. SaysOnly (checkpoint_lines k.wording) (CheckpointReads k.wording) text said_data))))
      (say_task BadLog at_end_text) (λ h. f c report h.1) (λ h. absurd (good h.0))

pub fence_fault : FenceFaultLaw
fence_fault store after names threads said h =
    let at = newest_reach store after Faulty said (λ name d. d) (λ e. cc e) (λ e. cc e) names threads (checkpoint_task names.ckpt threads) h in
    at_next store after names.ckpt threads said at.from at.era at.kind at.s Faulty (HasFenceFault store after threads said) (λ e. cc e) at.r
    (λ c report. begun_fence store after said names.ckpt (kind_at at.kind).code threads c report) at.ends

pub file_fault : FileFaultLaw
file_fault store after names threads said h =
    let at = newest_reach store after WriteFault said (λ name d. d) (λ e. cc e) (λ e. cc e) names threads (checkpoint_task names.ckpt threads) h in
    at_next store after names.ckpt threads said at.from at.era at.kind at.s WriteFault (HasFileFault store after said) (λ e. cc e) at.r
    (λ c report. begun_file store after said names.ckpt (kind_at at.kind).code threads c report) at.ends
