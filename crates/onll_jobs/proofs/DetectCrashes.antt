-- What `detect` says of the files that a crash left.

use Rattle.std.proofs.Common.{ℕ, List, [], ◌∷◌, ◌≡◌, ◌+◌, ◌≤◌, length, map, Option, Some, None, Result, Ok, refl, sym, ap, ◌∙◌, subst}
use Rattle.std.proofs.lemmas.List.{length-map}
use Rattle.std.proofs.lemmas.List.Elements.{Contains-append_left}
use Rattle.std.specs.List.{Contains, flat_map}
use Rattle.onll_words.specs.Texts.{line_text}
use Rattle.onll_model.specs.declared.call.Call.{Call}
use Rattle.onll_model.specs.declared.call.Call.TheVariants.{Update}
use Rattle.onll_model.specs.declared.call.CallEnd.TheVariants.{Answered}
use Rattle.onll_model.specs.declared.node.Node.{Node}
use Rattle.onll_model.specs.Legal.{IsLegal}
use Rattle.onll_merge.specs.Merge.{top_of}
use Rattle.onll_merge.specs.Recovered.{Recovered, recovered_with}
use Rattle.onll_merge.proofs.Backs.{merge-back}
use Rattle.onll_start.specs.Heads.{created_heads}
use Rattle.onll_core.specs.Core.{CoreState}
use Rattle.onll_core.specs.Outcomes.{ends_of, script_of}
use Rattle.onll_core.specs.Step.{steps_of}
use Rattle.onll_core.proofs.Crashed.{steps_scripts}
use Rattle.onll_core.proofs.Durable.{begun_starts, always_durable}
use Rattle.onll_core.proofs.Stays.{steps_stay}
use Rattle.onll_detect.specs.Outcomes.{Table, table_of}
use Rattle.onll_text.specs.declared.any_object.AnyObject.{AnyObject}
use Rattle.onll_text.specs.Init.{init_of}
use Rattle.onll_text.specs.Kinds.{ObjectKind, kind_at}
use Rattle.onll_text.specs.Lines.{call_line, recovered_line}
use Rattle.onll_text.specs.Refusal.{Refusal}
use Rattle.onll_text.proofs.EachKind.{kind_goes}
use Rattle.onll_outside.specs.Views.{StoreView}
use Rattle.onll_task.specs.declared.ending.Ending.TheVariants.{Done}
use Rattle.onll_task.specs.declared.ending.Exit.{Exit}
use Rattle.onll_task.specs.Doing.{Task, lines_stage, each_job}
use Rattle.onll_open.specs.Names.{log_names}
use Rattle.onll_task.specs.Job.{Job, Threads, Decides, on_value}
use Rattle.onll_task.specs.Printed.{exit_status}
use Rattle.onll_task.specs.Reading.{FileIsTold}
use Rattle.onll_task.specs.Recovering.{on_recovery, recovery_of}
use Rattle.onll_task.proofs.Recovering.{recovery_decides}
use Rattle.onll_recovery.specs.DetectJob.{scripts_lines, detect_lines, stranger_to, nodes_task, detected_task, detect_logs_task, detect_task}
use Rattle.onll_jobs.specs.Command.{Detect, form_of, DetectOver, over_task, object_task, over_work}
use Rattle.onll_jobs.specs.DetectPromises.{IsLeftByFirst, TellsLeft, TellsCrashes}
use Rattle.onll_jobs.specs.Says.{job_of, ExitSays, NoneRose, SaysThis}
use Rattle.onll_jobs.specs.Seen.{Seen}
use Rattle.onll_jobs.proofs.AgainDone.{decides_scripts}
use Rattle.onll_jobs.proofs.CrashLeft.{left_many, left_images}
use Rattle.onll_jobs.proofs.DetectedCrash.{IsKept, none_strange, returned_told}
use Rattle.onll_jobs.proofs.DetectedNodes.{front_all}
use Rattle.onll_jobs.proofs.ExitCauses.{decided_exactly}
use Rattle.onll_jobs.proofs.RecoverCrashes.{decides_images}

-- how `detect` goes on with these images
abbrev detect_over : (k : ObjectKind) → List ℕ → k.State → List (List (Call k.State k.Op k.Query k.Reply)) → List (List (List ℕ)) → Job
detect_over k init s scripts images = on_recovery (λ r. (detected_task k s scripts r).job) (recovery_of k init images)

images_tell : (k : ObjectKind) (init : List ℕ) (store : StoreView) (s : k.State) (scripts : List (List (Call k.State k.Op k.Query k.Reply))) (images : List (List (List ℕ))) (r : Recovered)
    → recovery_of k init images ≡ Ok r → stranger_to k.means scripts r.nodes ≡ None
    → Decides store (detect_over k init s scripts images) Done (flat_map line_text (detect_lines k.wording (table_of k.means s r.nodes) scripts (length r.nodes)))
images_tell k init store s scripts images r e none =
    let text = flat_map line_text (detect_lines k.wording (table_of k.means s r.nodes) scripts (length r.nodes)) in
    recovery_decides (λ r. (detected_task k s scripts r).job) store (recovery_of k init images) r Done text e
    (subst (λ (x : Option ℕ). Decides store (nodes_task k.means k.wording s scripts r.nodes x).job Done text) (sym none) (refl, refl))

-- the call says what the told files decide
module _ (seen : Seen) (x : Exit) (says : ExitSays seen x) (init logs bytes : List ℕ) (names : List (List ℕ)) (object : AnyObject)
    (form : form_of seen.words ≡ Some (Detect init logs names)) (told : FileIsTold seen.store init bytes) (accepted : init_of bytes ≡ Ok object) (none : NoneRose seen) where
  object_says : (text : List ℕ) → Decides seen.store (object_task (DetectOver logs names) bytes object).job Done text
      → SaysThis seen (exit_status x) Done text
  object_says text d =
      let on : Result AnyObject Refusal → Job = λ r. on_value init (λ o. (object_task (DetectOver logs names) bytes o).job) r in
      let job : Decides seen.store (over_work init (DetectOver logs names)).task.job Done text =
      (bytes, (told, subst (λ (r : Result AnyObject Refusal). Decides seen.store (on r) Done text) (sym accepted) d)) in
      decided_exactly seen x Done text (subst (λ f. Decides seen.store (job_of f) Done text) (sym form) job) none says

  module _ (k : ObjectKind) (s : k.State) (scripts : List (List (Call k.State k.Op k.Query k.Reply))) (first : IsLeftByFirst k bytes s seen logs names scripts) where
    abbrev core : CoreState k.State k.Op k.Query k.Reply
    core = steps_of k.means first.left.first first.left.steps

    -- the core's scripts are those of the files
    same_scripts : map script_of core.threads ≡ first.left.scripts
    same_scripts =
        steps_scripts k.means first.left.first first.left.steps
        ∙ (begun_starts k.means k.code bytes s first.left.scripts first.left.within first.left.first first.left.begins).scripts_are

    legal : IsLegal k.means s [] (map script_of core.threads) core.trace (map ends_of core.threads)
    legal =
        let durable = always_durable k.means k.code bytes s first.left.scripts first.left.first first.left.within first.left.begins first.left.steps in
        subst (λ (base : List Node). IsLegal k.means s base (map script_of core.threads) core.trace (map ends_of core.threads))
        (ap (λ (c : CoreState k.State k.Op k.Query k.Reply). c.trace) (sym first.anew))
        (subst (λ (calls : List (List (Call k.State k.Op k.Query k.Reply))). IsLegal k.means s first.left.first.trace calls core.trace (map ends_of core.threads))
        (sym same_scripts) durable.legal)

    kept_nodes : IsKept k.means s core (left_images k bytes s seen.store logs (length names) first.left).leaves.all.recovers.nodes
    kept_nodes =
        let held = left_images k bytes s seen.store logs (length names) first.left in
        let recovers = held.leaves.all.recovers in
        record {
          legal = legal;
          few = subst (λ (n : ℕ). n ≤ 16) (sym (sym (length-map core.threads script_of) ∙ ap length same_scripts)) first.left.within.few;
          initial = (steps_stay k.means first.left.first first.left.steps).initial
              ∙ (begun_starts k.means k.code bytes s first.left.scripts first.left.within first.left.first first.left.begins).initial_is;
          long = top_of recovers.logs;
          front = recovers.front;
          numbered = (merge-back recovers.nodes (created_heads k.code bytes first.left.scripts) recovers.logs recovers.recovered).numbered;
          operations = front_all k.means recovers.nodes held.operations;
          calls = held.leaves.all.calls;
        }

    left_tells : ((text : List ℕ) → Decides seen.store (detect_task k bytes logs names s).job Done text → SaysThis seen (exit_status x) Done text)
        → TellsLeft k bytes s seen logs names (exit_status x) scripts first
    left_tells say =
        let b = k.means in
        let w = k.wording in
        let left = first.left in
        let held = left_images k bytes s seen.store logs (length names) left in
        let nodes = held.leaves.all.recovers.nodes in
        let table : Table k.Reply = table_of b s nodes in
        let r : Recovered = recovered_with held.leaves.all.recovers.logs nodes in
        let lines = detect_lines w table scripts (length nodes) in
        let text = flat_map line_text lines in
        let ran : map script_of core.threads ≡ scripts = same_scripts ∙ first.ran in
        let strange : stranger_to b scripts nodes ≡ None =
        subst (λ (calls : List (List (Call k.State k.Op k.Query k.Reply))). stranger_to b calls nodes ≡ None) ran (none_strange b s core nodes kept_nodes) in
        let goes : List (List (List ℕ)) → Job = detect_over k bytes s scripts in
        let many : length left.images ≡ length scripts =
        left_many k bytes s seen.store logs (length names) left ∙ (sym left.many ∙ ap length first.ran) in
        let recovered = images_tell k bytes seen.store s scripts left.images r held.recovered strange in
        let read = subst (λ (n : ℕ). Decides seen.store (each_job lines_stage (log_names logs 0 n) goes) Done text) many
        (decides_images seen.store logs 0 left.images goes Done text left.files recovered) in
        record {
          leaves = held.leaves;
          lines = lines;
          lines_are = refl;
          returned = λ t th at i op q call is.
              let line = call_line w t (i + 1) (let c : Call k.State k.Op k.Query k.Reply = Update op in c) (Answered q.reply q.place) in
              Contains-append_left (scripts_lines w table 0 scripts) (recovered_line (length nodes) ∷ []) line
              (subst (λ (calls : List (List (Call k.State k.Op k.Query k.Reply))). Contains (scripts_lines w table 0 calls) line) ran
              (returned_told b s core nodes kept_nodes t th at i op q call is w));
          says = say text
              (decides_scripts Done text w seen.store names scripts (λ scripts. (detect_logs_task k bytes s logs scripts).job) first.tell read);
        }

pub tells_crashes : (seen : Seen) (x : Exit) → ExitSays seen x → TellsCrashes seen (exit_status x)
tells_crashes seen x says init logs bytes names object form told accepted none =
    kind_goes {A = Task} (λ kind s. over_task (DetectOver logs names) (kind_at kind) (Threads kind) bytes s)
    (λ task. (text : List ℕ) → Decides seen.store task.job Done text → SaysThis seen (exit_status x) Done text)
    (λ k s. (scripts : List (List (Call k.State k.Op k.Query k.Reply))) (first : IsLeftByFirst k bytes s seen logs names scripts)
    → TellsLeft k bytes s seen logs names (exit_status x) scripts first)
    (λ says. says)
    (λ kind s known say scripts first. left_tells seen x says init logs bytes names object form told accepted none (kind_at kind) s scripts first say)
    object (object_says seen x says init logs bytes names object form told accepted none)
