-- What a run kept in told files is recovered, also one that went on.

use Rattle.std.proofs.Common.{ℕ, suc, true, List, [], ◌∷◌, ◌≡◌, ⊎_elim, length, map, Result, Ok, Option, Some, None, refl, sym, ap, ◌∙◌, subst, arith}
use Rattle.std.specs.List.{AllByRecursion}
use Rattle.std.proofs.lemmas.List.Sums.{sum_by-cons}
use Rattle.onll_model.specs.declared.node.Node.{Node}
use Rattle.onll_model.specs.declared.call.Call.{Call}
use Rattle.onll_model.specs.declared.call.CallEnd.{CallEnd}
use Rattle.onll_model.specs.Object.{Behaviour}
use Rattle.onll_pmem.specs.Device.{word_at, Mixed}
use Rattle.onll_pmem.proofs.Mixes.{Mixed-self, Mixed-same, Mixed-word_at}
use Rattle.onll_log.specs.declared.head.LogHead.{LogHead}
use Rattle.onll_log.specs.Head.{word, heads_from}
use Rattle.onll_log.specs.Grammar.{Content, content_of, format_in}
use Rattle.onll_merge.specs.declared.fault.RecoverFault.{RecoverFault}
use Rattle.onll_merge.specs.Merge.{merge}
use Rattle.onll_merge.specs.Recovered.{Recovered, recovered_with, expected_heads, state_recovered}
use Rattle.onll_merge.proofs.Images.{their_contents}
use Rattle.onll_start.specs.Heads.{created_heads}
use Rattle.onll_start.proofs.Based.{base_is}
use Rattle.onll_start.proofs.Heads.{length-heads_from}
use Rattle.onll_start.specs.Start.{Found, found_in}
use Rattle.onll_core.proofs.Operations.{AllOperations}
use Rattle.onll_run.specs.Outcomes.{failed_in, fault_in}
use Rattle.onll_run.specs.Left.{LogLeft, LogsTell, AreLeftImages, ImagesRecover, content_in, fenced_in}
use Rattle.onll_text.specs.Kinds.{ObjectKind, kind_at}
use Rattle.onll_outside.specs.Views.{StoreView, image_bytes}
use Rattle.onll_task.specs.declared.ending.Ending.TheVariants.{Done}
use Rattle.onll_task.specs.declared.ending.Exit.{Exit}
use Rattle.onll_task.specs.Doing.{Task, lines_stage, each_job}
use Rattle.onll_task.specs.FileLines.{FitFile}
use Rattle.onll_open.specs.Names.{log_name, log_names}
use Rattle.onll_task.specs.Job.{Threads, Decides}
use Rattle.onll_task.specs.Printed.{exit_status}
use Rattle.onll_task.specs.Running.{RunPlan, FileHoldsLog, HoldsLogs, broken_threads}
use Rattle.onll_task.proofs.FileLines.{image_lines-image_bytes, mixed_fit, fenced_fit}
use Rattle.onll_recovery.specs.RecoverJob.{recover_report}
use Rattle.onll_recovery.proofs.Resumes.{found_is}
use Rattle.onll_recovery.proofs.Crashes.{format_by, format_tested, HaveFormat2, AreFormat2, format_is, heads_have_format, heads_expected, take_operations}
use Rattle.onll_task.proofs.OperationRows.{recovered_is}
use Rattle.onll_runner.proofs.FaultLines.{length-fault_lines}
use Rattle.onll_task.proofs.RunRecovers.{AreTold, run_told, run_operations}
use Rattle.onll_eras.specs.Restored.{TellsLines, TellLogs}
use Rattle.onll_jobs.specs.Command.{RecoverOver, over_task}
use Rattle.onll_jobs.specs.RunPromises.{fault_count, plan_from, BeginsFrom}
use Rattle.onll_jobs.specs.RunRecovers.{IsLeftByRun, RecoversRun, RecoversRuns}
use Rattle.onll_jobs.specs.Says.{ExitSays, SaysThis}
use Rattle.onll_jobs.specs.Seen.{Seen}
use Rattle.onll_jobs.proofs.SaidEnds.{known_many}
use Rattle.onll_text.proofs.EachKind.{kind_goes}
use Rattle.onll_jobs.proofs.RecoverCrashes.{decides_images, images_decide, object_says, recover_over}

-- ---- the format of an image
word_of_format : (image : List (List ℕ)) → format_in image ≡ 2 → word_at image 0 1 ≡ 2
word_of_format [] e = absurd (omega arith)
word_of_format (line ∷ lines) e = format_tested (word line 1) e

format_of_word : (image : List (List ℕ)) → word_at image 0 1 ≡ 2 → format_in image ≡ 2
format_of_word [] e = absurd (omega arith)
format_of_word (line ∷ lines) e = ap format_by e

mixed_format : (xs ys zs : List (List ℕ)) → Mixed xs ys zs → format_in xs ≡ 2 → format_in ys ≡ 2 → format_in zs ≡ 2
mixed_format xs ys zs m f g = ⊎_elim
    (λ (e : word_at zs 0 1 ≡ word_at xs 0 1). format_of_word zs (e ∙ word_of_format xs f))
    (λ (e : word_at zs 0 1 ≡ word_at ys 0 1). format_of_word zs (e ∙ word_of_format ys g))
    (Mixed-word_at xs ys zs 0 1 m)

fenced_format : (log : LogLeft) (failed : Option ℕ) → log.head.format ≡ 2 → format_in log.read ≡ 2 → format_in (fenced_in log failed) ≡ 2
fenced_format log None head read = read
fenced_format log (Some place) head read = ap format_by head

-- ---- the file of one log
-- an image of the log, which its told file holds
record OneLeft (store : StoreView) (name : List ℕ) (log : LogLeft) (failed : Option ℕ) : Type 0 where
  image : List (List ℕ)
  mixed : Mixed (fenced_in log failed) log.read image
  tells : TellsLines store name image
  format : format_in image ≡ 2

tells_image : (store : StoreView) (name : List ℕ) (image : List (List ℕ)) → store.tells ≡ true → store.file name ≡ Some (image_bytes image) → FitFile image → TellsLines store name image
tells_image store name image tells file fit =
    record { bytes = image_bytes image; told = record { tells = tells; file = file }; image = sym (image_lines-image_bytes image fit) }

one_left : (store after : StoreView) (name : List ℕ) (log : LogLeft) (failed : Option ℕ) → store.tells ≡ true → after.tells ≡ true → store.file name ≡ after.file name
    → FileHoldsLog after name log failed → FitFile log.read → content_of log.read ≡ Some (content_in log) → log.head.format ≡ 2 → OneLeft store name log failed
one_left store after name log None tells told same h fit holds format = record {
  image = log.read;
  mixed = Mixed-self log.read;
  tells = tells_image store name log.read tells (same ∙ h told) fit;
  format = format_is log.read (content_in log) log.head holds refl format;
}
one_left store after name log (Some place) tells told same h fit holds format =
    let held = h told in
    let read = format_is log.read (content_in log) log.head holds refl format in
    record {
      image = held.0;
      mixed = held.1;
      tells = tells_image store name held.0 tells (same ∙ held.2) (mixed_fit (fenced_in log (Some place)) log.read held.0 held.1 (fenced_fit log (Some place) holds fit) fit);
      format = mixed_format (fenced_in log (Some place)) log.read held.0 held.1 (fenced_format log (Some place) format read) read;
    }

-- ---- the files of all logs
record FilesLeft {State Op Query Reply : Type 0} (store : StoreView) (logs : List ℕ) (t : ℕ) (left : List LogLeft) (ends : List (List (CallEnd State Op Query Reply))) : Type 0 where
  images : List (List (List ℕ))
  are_left : AreLeftImages left ends images
  tell : TellLogs store logs t images
  formats : AreFormat2 images
  many : length images ≡ length left

abbrev SameNames : StoreView → StoreView → List (List ℕ) → Type 0
SameNames store after names = AllByRecursion (λ name. store.file name ≡ after.file name) names

module _ {State Op Query Reply : Type 0} (b : Behaviour State Op Query Reply) (store after : StoreView) (tells : store.tells ≡ true) (told : after.tells ≡ true) (logs : List ℕ) where
  files_left : (t : ℕ) (heads : List LogHead) (base : List Content) (scripts : List (List (Call State Op Query Reply))) (ends : List (List (CallEnd State Op Query Reply))) (left : List LogLeft)
      → LogsTell b heads base scripts ends left → HaveFormat2 heads → HoldsLogs after logs t left ends → AllByRecursion (λ (log : LogLeft). FitFile log.read) left
      → SameNames store after (log_names logs t (length scripts)) → FilesLeft store logs t left ends
  files_left t [] [] [] [] [] h format holds fit same = record { images = []; are_left = tt; tell = tt; formats = tt; many = refl }
  files_left t (head ∷ heads) (c ∷ base) (calls ∷ scripts) (es ∷ ends) (log ∷ left) h format holds fit same =
      let first = one_left store after (log_name logs t) log (failed_in es) tells told same.0 holds.0 fit.0 h.0.holds (ap (λ (x : LogHead). x.format) h.0.head_is ∙ format.0) in
      let rest = files_left (suc t) heads base scripts ends left h.1 format.1 holds.1 fit.1 same.1 in
      record {
        images = first.image ∷ rest.images;
        are_left = (first.mixed, rest.are_left);
        tell = (first.tells, rest.tell);
        formats = (first.format, rest.formats);
        many = ap suc rest.many;
      }
  files_left t [] [] [] [] (log ∷ left) h format holds fit same = absurd h
  files_left t [] [] [] (es ∷ ends) left h format holds fit same = absurd h
  files_left t [] [] (calls ∷ scripts) ends left h format holds fit same = absurd h
  files_left t [] (c ∷ base) scripts ends left h format holds fit same = absurd h
  files_left t (head ∷ heads) [] scripts ends left h format holds fit same = absurd h
  files_left t (head ∷ heads) (c ∷ base) [] ends left h format holds fit same = absurd h
  files_left t (head ∷ heads) (c ∷ base) (calls ∷ scripts) [] left h format holds fit same = absurd h
  files_left t (head ∷ heads) (c ∷ base) (calls ∷ scripts) (es ∷ ends) [] h format holds fit same = absurd h

-- where no fence failed they are the logs as read
abbrev read_in : LogLeft → List (List ℕ)
read_in log = log.read

not_failed : (failed : Option ℕ) → fault_in failed ≡ 0 → failed ≡ None
not_failed None e = refl
not_failed (Some place) e = absurd (omega arith)

whole_images : {State Op Query Reply : Type 0} (left : List LogLeft) (ends : List (List (CallEnd State Op Query Reply))) (images : List (List (List ℕ))) → AreLeftImages left ends images → broken_threads ends ≡ 0 → images ≡ map read_in left
whole_images [] [] [] h none = refl
whole_images {State} {Op} {Query} {Reply} (log ∷ left) (es ∷ ends) (image ∷ images) h none =
    let all = sum_by-cons (λ (e : List (CallEnd State Op Query Reply)). fault_in (failed_in e)) es ends in
    let here = not_failed (failed_in es) (omega (arith, all, none)) in
    let same = Mixed-same log.read image (subst (λ failed. Mixed (fenced_in log failed) log.read image) here h.0) in
    let rest = whole_images left ends images h.1 (omega (arith, all, none)) in
    λ i. same i ∷ rest i
whole_images [] [] (image ∷ images) h none = absurd h
whole_images [] (es ∷ ends) images h none = absurd h
whole_images (log ∷ left) [] images h none = absurd h
whole_images (log ∷ left) (es ∷ ends) [] h none = absurd h

same_lists : {A : Type 0} (xs ys : List A) → map Some xs ≡ map Some ys → xs ≡ ys
same_lists [] [] e = refl
same_lists [] (y ∷ ys) e = absurd (cc)
same_lists (x ∷ xs) [] e = absurd (cc)
same_lists (x ∷ xs) (y ∷ ys) e =
    let here : x ≡ y = (cc) in
    let tails : map Some xs ≡ map Some ys = (cc) in
    let rest = same_lists xs ys tails in
    λ i. here i ∷ rest i

same_nodes : (v : Result (List Node) RecoverFault) (x y : List Node) → v ≡ Ok x → v ≡ Ok y → x ≡ y
same_nodes v x y g h = (cc)

-- ---- what was gone on from
-- what the files give is operations
begun_operations : (from : Option Found) (k : ObjectKind) (init : List ℕ) (s : k.State) (store : StoreView) (logs : List ℕ) (scripts : List (List (Call k.State k.Op k.Query k.Reply))) → BeginsFrom from k init store logs scripts
    → AllOperations k.means (plan_from from k init logs s scripts).run.base.nodes
begun_operations None k init s store logs scripts h = tt
begun_operations (Some found) k init s store logs scripts h =
    (base_is k.means (created_heads k.code init scripts) scripts h.images found (known_many store logs 0 (length scripts) h.images h.held) h.gives).operations

-- the plan's scripts and heads are these
plan_heads : (from : Option Found) (k : ObjectKind) (init logs : List ℕ) (s : k.State) (scripts : List (List (Call k.State k.Op k.Query k.Reply))) → (plan_from from k init logs s scripts).run.heads ≡ created_heads k.code init scripts
plan_heads None k init logs s scripts = refl
plan_heads (Some found) k init logs s scripts = refl

plan_scripts : (from : Option Found) (k : ObjectKind) (init logs : List ℕ) (s : k.State) (scripts : List (List (Call k.State k.Op k.Query k.Reply))) → (plan_from from k init logs s scripts).run.scripts ≡ scripts
plan_scripts None k init logs s scripts = refl
plan_scripts (Some found) k init logs s scripts = refl

plan_logs : (from : Option Found) (k : ObjectKind) (init logs : List ℕ) (s : k.State) (scripts : List (List (Call k.State k.Op k.Query k.Reply))) → (plan_from from k init logs s scripts).logs ≡ logs
plan_logs None k init logs s scripts = refl
plan_logs (Some found) k init logs s scripts = refl

-- ---- what the files hold
module _ (seen : Seen) (init logs : List ℕ) (threads : ℕ) (k : ObjectKind) (s : k.State) (tells : seen.store.tells ≡ true) (left : IsLeftByRun k init s seen.store logs threads) where
  abbrev plan : RunPlan k
  plan = plan_from left.from k init logs s left.reported.scripts

  many : length left.reported.scripts ≡ threads
  many = left.reported.many ∙ left.many

  plan_many : length plan.run.scripts ≡ threads
  plan_many = ap length (plan_scripts left.from k init logs s left.reported.scripts) ∙ many

  heads_are : plan.run.heads ≡ heads_from threads k.code init 0 threads
  heads_are = plan_heads left.from k init logs s left.reported.scripts ∙ ap (λ n. heads_from n k.code init 0 n) many

  told : AreTold plan.run.heads left.reported.left.logs
  told = run_told k.means plan.run left.reported.left left.reported.run

  all_operations : AllOperations k.means left.reported.left.nodes
  all_operations = run_operations k.means plan.run left.reported.left left.reported.run (begun_operations left.from k init s left.before logs left.reported.scripts left.reported.begins)

  files : FilesLeft seen.store logs 0 left.reported.left.logs left.reported.left.ends
  files =
      files_left k.means seen.store left.after tells left.tells logs 0 plan.run.heads plan.run.base.logs plan.run.scripts left.reported.left.ends left.reported.left.logs left.reported.run.logs
      (subst HaveFormat2 (sym heads_are) (heads_have_format threads k.code init 0 threads))
      (subst (λ (name : List ℕ). HoldsLogs left.after name 0 left.reported.left.logs left.reported.left.ends) (plan_logs left.from k init logs s left.reported.scripts) left.reported.kept.files) left.reported.kept.fit
      (subst (λ n. SameNames seen.store left.after (log_names logs 0 n)) (sym plan_many) left.same)

  recovers : ImagesRecover k.means plan.run left.reported.left files.images
  recovers = left.reported.run.crash files.images files.are_left

  images_many : length files.images ≡ threads
  images_many = files.many ∙ sym told.many ∙ ap length heads_are ∙ length-heads_from threads k.code init 0 threads

  operations : AllOperations k.means recovers.nodes
  operations = subst (AllOperations k.means) recovers.front (take_operations k.means (length recovers.nodes) left.reported.left.nodes all_operations)

  is_recovered : state_recovered k.means (expected_heads k.code init files.images) files.images ≡ Ok (recovered_with recovers.logs recovers.nodes)
  is_recovered =
      let expected : expected_heads k.code init files.images ≡ plan.run.heads = heads_expected (length files.images) k.code init 0 files.images files.formats ∙ ap (λ n. heads_from n k.code init 0 n) images_many ∙ sym heads_are in
      ap (λ hs. state_recovered k.means hs files.images) expected
      ∙ recovered_is k.means files.images plan.run.heads recovers.logs recovers.nodes (their_contents 0 files.images recovers.logs recovers.contents) recovers.recovered operations

  whole : fault_count left.reported.left.ends ≡ 0 → (recovers.logs ≡ map content_in left.reported.left.logs) × (recovers.nodes ≡ left.reported.left.nodes)
  whole none =
      let images = whole_images left.reported.left.logs left.reported.left.ends files.images files.are_left (sym (length-fault_lines 0 left.reported.left.ends) ∙ none) in
      let contents = same_lists recovers.logs (map content_in left.reported.left.logs) (sym recovers.contents ∙ ap (map content_of) images ∙ told.contents) in
      (contents, same_nodes (merge plan.run.heads recovers.logs) recovers.nodes left.reported.left.nodes recovers.recovered (ap (merge plan.run.heads) contents ∙ left.reported.run.merged))

  -- images of that run's logs, and what they give to as many scripts
  pub record RunImages : Type 0 where
    pub images : List (List (List ℕ))
    pub files : TellLogs seen.store logs 0 images
    pub many : length images ≡ threads
    pub recovers : ImagesRecover k.means plan.run left.reported.left images
    pub gives : found_in k.means (heads_from threads k.code init 0 threads) images ≡ Ok (record { logs = recovers.logs; nodes = recovers.nodes })

  pub run_images : RunImages
  run_images = record {
    images = files.images;
    files = files.tell;
    many = images_many;
    recovers = recovers;
    gives = ap (λ (heads : List LogHead). found_in k.means heads files.images) (sym heads_are)
        ∙ found_is k.means plan.run.heads files.images recovers.logs recovers.nodes recovers.contents files.formats recovers.recovered operations;
  }

  -- ---- the call
  run_recovers : (x : Exit)
      → ((text : List ℕ) → Decides seen.store (each_job lines_stage (log_names logs 0 threads) (recover_over k init s)) Done text → SaysThis seen (exit_status x) Done text)
      → RecoversRun k init s seen (exit_status x) logs threads left
  run_recovers x say =
      let r : Recovered = recovered_with recovers.logs recovers.nodes in
      let recovered = images_decide k init seen.store s files.images r is_recovered in
      record {
        images = files.images;
        files = files.tell;
        recovers = recovers;
        whole = whole;
        says = say (recover_report k.means k.wording s r)
            (subst (λ (n : ℕ). Decides seen.store (each_job lines_stage (log_names logs 0 n) (recover_over k init s)) Done (recover_report k.means k.wording s r)) images_many
            (decides_images seen.store logs 0 files.images (recover_over k init s) Done (recover_report k.means k.wording s r) files.tell recovered));
      }

pub recovers_runs : (seen : Seen) (x : Exit) → ExitSays seen x → RecoversRuns seen (exit_status x)
recovers_runs seen x says init logs bytes threads object form told accepted none =
    kind_goes {A = Task} (λ kind s. over_task (RecoverOver logs threads) (kind_at kind) (Threads kind) bytes s)
    (λ task. (text : List ℕ) → Decides seen.store task.job Done text → SaysThis seen (exit_status x) Done text)
    (λ k s. (left : IsLeftByRun k bytes s seen.store logs threads) → RecoversRun k bytes s seen (exit_status x) logs threads left)
    (λ says. says)
    (λ kind s known say left. run_recovers seen bytes logs threads (kind_at kind) s told.tells left x say)
    object (object_says seen x says init logs bytes threads object form told accepted none)
