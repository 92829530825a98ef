-- A run that goes on from images is durable where it is done; and that logs are bad is said of the images that it read.

use Rattle.std.proofs.Common.{ℕ, ◌∙◌, List, ◌≡◌, ◌≤◌, ◌⊎◌, inl, inr, length, Some, Result, Ok, Err, refl, sym, ap, subst}
use Rattle.onll_model.specs.declared.call.Call.{Call}
use Rattle.std.specs.List.{AllByRecursion}
use Rattle.onll_log.specs.Torn.{AreLines}
use Rattle.onll_start.specs.declared.fault.ResumeFault.{ResumeFault}
use Rattle.onll_start.specs.declared.fault.ResumeFault.TheVariants.{Images, OldFormat, NotOp, TooMany, NoMemory}
use Rattle.onll_start.specs.Heads.{created_heads}
use Rattle.onll_core.specs.Core.{CoreState}
use Rattle.onll_core.specs.Turns.{turns_of}
use Rattle.onll_core.specs.Step.{steps_of}
use Rattle.onll_core.specs.Created.{IsWithinLimits}
use Rattle.onll_core.specs.Crash.{images_of}
use Rattle.onll_core.specs.Durable.{CoreBegins}
use Rattle.onll_core.specs.Resume.{resumed}
use Rattle.onll_core.proofs.Kept.{steps_consistent}
use Rattle.onll_core.proofs.Crashed.{picked_images}
use Rattle.onll_core.proofs.Durable.{begun_starts, always_durable}
use Rattle.onll_core.proofs.ReachedCores.{reached_consistent}
use Rattle.onll_text.specs.declared.schedule.Schedule.{Schedule}
use Rattle.onll_text.specs.Kinds.{ObjectKind}
use Rattle.onll_text.proofs.EachKind.{IsKnown}
use Rattle.onll_outside.specs.Views.{StoreView}
use Rattle.onll_task.specs.declared.ending.Ending.{Ending}
use Rattle.onll_task.specs.declared.ending.Ending.TheVariants.{Done, BadLog}
use Rattle.onll_task.specs.Job.{JobEnds}
use Rattle.onll_merge.specs.Recovered.{recovered_with}
use Rattle.onll_recovery.specs.AgainJob.{resumed_task}
use Rattle.onll_task.specs.NotResumed.{resume_ending}
use Rattle.onll_recovery.specs.ReplayJob.{replay_report}
use Rattle.onll_recovery.proofs.Resumes.{resumed_on, on_recovered}
use Rattle.onll_jobs.specs.AgainPromises.{HasReadFiles, IsResumedReport, HasBadLogs}
use Rattle.onll_jobs.specs.Command.{form_of, Again}
use Rattle.onll_jobs.specs.Says.{PutWhole, PutOverInit}
use Rattle.onll_jobs.specs.Seen.{Seen}
use Rattle.onll_jobs.proofs.Forms.{few-scripts-again}
use Rattle.onll_jobs.proofs.ReplayEnds.{crash_ends}
use Rattle.onll_jobs.proofs.SaidEnds.{IsSaid, many_scripts, few_updates}
use Rattle.onll_jobs.proofs.AgainEnds.{AgainRead, again_put}

-- what is said of images from which none goes on, but for a script with too many updates, which is refused
bad_ending : (fault : ResumeFault) → IsSaid (resume_ending fault) → resume_ending fault ≡ BadLog
bad_ending (TooMany thread) h = absurd h
bad_ending (Images fault) h = refl
bad_ending (OldFormat log) h = refl
bad_ending (NotOp place) h = refl
bad_ending NoMemory h = refl

-- how it ended
abbrev EndsSo : (k : ObjectKind) → List ℕ → k.State → StoreView → StoreView → (schedule logs : List ℕ) → List (List ℕ) → Ending → List ℕ → Type 0
EndsSo k init s store after schedule logs names ending text =
    ((ending ≡ Done) × IsResumedReport k init s store schedule logs names after text) ⊎ ((ending ≡ BadLog) × HasBadLogs k init s store schedule logs names after text)

module _ (after : StoreView) (ending : Ending) (text : List ℕ) (said : IsSaid ending) (k : ObjectKind) (is : IsKnown k) (init : List ℕ) (s : k.State) (store : StoreView) (schedule logs : List ℕ) (names : List (List ℕ)) (few : length names ≤ 16)
    (scripts : List (List (Call k.State k.Op k.Query k.Reply))) (plan : Schedule) (images : List (List (List ℕ))) (files_read : HasReadFiles k init s store schedule logs names scripts plan images)
    (many : length images ≡ length scripts) (eight : AllByRecursion AreLines images) where
  within : IsWithinLimits k.code scripts
  within = record {
    code = is;
    few = subst (λ (n : ℕ). n ≤ 16) (sym (many_scripts k.wording store names scripts files_read.read)) few;
    updates = few_updates k.wording store names scripts files_read.read;
  }

  -- a core goes on, or the images are bad
  found_ends : (found : Result (CoreState k.State k.Op k.Query k.Reply) ResumeFault) → resumed k.means k.code init s images scripts ≡ found
      → JobEnds store after (resumed_task k.means k.wording logs names scripts plan found).job ending text → EndsSo k init s store after schedule logs names ending text
  found_ends (Ok begun) e h =
      let b = k.means in
      let count = length scripts in
      let ts = turns_of plan.turns in
      let core = steps_of b begun ts in
      let taken = images_of plan.keep core.threads in
      let on = resumed_on b k.code init s scripts images begun many e in
      let begins : CoreBegins b k.code init s scripts begun = inr (record { images = images; lines = eight; as_many = many; resumed = e }) in
      let starts = begun_starts b k.code init s scripts within begun begins in
      let durable = always_durable b k.code init s scripts begun within begins in
      let left = picked_images count core plan.keep (steps_consistent b count begun ts (reached_consistent b count begun starts.reached)) in
      let crash = (durable ts).crash taken left in
      let end = crash_ends after ending text said b k.wording store logs (Some begun.base) scripts core plan.keep (recovered_with crash.recovers.logs crash.recovers.nodes) (on_recovered b (created_heads k.code init scripts) scripts begun on ts taken crash.recovers) h in
      inl (
        end.0,
        record {
          scripts = scripts;
          plan = plan;
          images = images;
          files_read = files_read;
          begun = begun;
          goes_on = e;
          durable = durable;
          core = core;
          run = refl;
          crash = crash;
          printed = end.1 ∙ ap (λ n. replay_report b k.wording (Some n) core plan.keep (recovered_with crash.recovers.logs crash.recovers.nodes)) starts.base_is;
          files = end.2;
        },
      )
  found_ends (Err fault) e h =
      let bad = bad_ending fault (subst IsSaid h.0 said) in
      inr (h.0 ∙ bad, record { scripts = scripts; plan = plan; images = images; files_read = files_read; fault = fault; refused = e; bad = bad; said = h.1 })

-- ---- the call
module _ (k : ObjectKind) (bytes : List ℕ) (s : k.State) (store after : StoreView) (schedule logs : List ℕ) (names : List (List ℕ)) (text : List ℕ) where
  is_done : EndsSo k bytes s store after schedule logs names Done text → IsResumedReport k bytes s store schedule logs names after text
  is_done (inl h) = h.1
  is_done (inr h) = absurd (let e = h.0 in cc)

  is_bad : EndsSo k bytes s store after schedule logs names BadLog text → HasBadLogs k bytes s store schedule logs names after text
  is_bad (inl h) = absurd (let e = h.0 in cc)
  is_bad (inr h) = h.1

module _ (seen : Seen) (init schedule logs : List ℕ) (names : List (List ℕ)) (form : form_of seen.words ≡ Some (Again init schedule logs names)) where
  ends : (ending : Ending) → IsSaid ending → (h : PutWhole seen ending) (k : ObjectKind) (bytes : List ℕ) (s : k.State) → IsKnown k → AgainRead k bytes s seen.store seen.store_after schedule logs names ending h.text
      → EndsSo k bytes s seen.store seen.store_after schedule logs names ending h.text
  ends ending said h k bytes s known read =
      found_ends seen.store_after ending h.text said k known bytes s seen.store schedule logs names (few-scripts-again seen.words init schedule logs names form)
      read.scripts read.plan read.images read.files_read read.many read.eight (resumed k.means k.code bytes s read.images read.scripts) refl read.ends

  -- what is done is durable
  pub again_durable : PutWhole seen Done → PutOverInit seen init (λ k bytes s store after text. IsResumedReport k bytes s store schedule logs names after text)
  again_durable h =
      let r = again_put seen init schedule logs names form (λ k bytes s. IsResumedReport k bytes s seen.store schedule logs names seen.store_after h.text) (λ says. says) Done tt h
      (λ k bytes s known read. is_done k bytes s seen.store seen.store_after schedule logs names h.text (ends Done tt h k bytes s known read)) in
      record { bytes = r.bytes; object = r.object; read = r.read; text = h.text; says = r.ends; put = h.put }

  -- that logs are bad is said of those that were read
  pub again_bad : PutWhole seen BadLog → PutOverInit seen init (λ k bytes s store after text. HasBadLogs k bytes s store schedule logs names after text)
  again_bad h =
      let r = again_put seen init schedule logs names form (λ k bytes s. HasBadLogs k bytes s seen.store schedule logs names seen.store_after h.text) (λ says. says) BadLog tt h
      (λ k bytes s known read. is_bad k bytes s seen.store seen.store_after schedule logs names h.text (ends BadLog tt h k bytes s known read)) in
      record { bytes = r.bytes; object = r.object; read = r.read; text = h.text; says = r.ends; put = h.put }
