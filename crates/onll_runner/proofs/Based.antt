-- How scripts go on from the images of logs that are read, or why they don't.

use Rattle.std.proofs.Common.{Vec, ℕ, zero, suc, true, List, [], ◌∷◌, ◌≡◌, ◌≤◌, length, map, Some, Result, Ok, Err, sym, ap, ◌∙◌, subst, arith}
use Rattle.std.specs.List.{AllByRecursion}
use Rattle.onll_model.specs.declared.call.Call.{Call}
use Rattle.onll_model.specs.Object.{Behaviour}
use Rattle.onll_log.specs.declared.head.LogHead.{LogHead}
use Rattle.onll_log.specs.Grammar.{Content, content_of}
use Rattle.onll_merge.specs.declared.counts.LogCounts.{LogCounts}
use Rattle.onll_merge.specs.Recovered.{Recovered, log_counts}
use Rattle.onll_model.specs.declared.node.Node.{Node}
use Rattle.onll_start.specs.Found.{IsFound}
use Rattle.onll_start.proofs.Based.{base_is}
use Rattle.onll_run.specs.Left.{LogLeft}
use Rattle.onll_run.specs.Ran.{going_on}
use Rattle.std.proofs.lemmas.List.{length-map}
use Rattle.onll_log.specs.ImageFile.{image_lines}
use Rattle.onll_log.specs.Tested.{used_in}
use Rattle.onll_start.specs.declared.fault.ResumeFault.{ResumeFault}
use Rattle.onll_start.specs.declared.fault.ResumeFault.TheVariants.{Images, OldFormat, NotOp, TooMany, NoMemory}
use Rattle.onll_start.specs.Heads.{created_heads}
use Rattle.onll_start.specs.Start.{Found, found_logs, with_room, base_in}
use Rattle.onll_outside.specs.Views.{StoreView}
use Rattle.onll_text.specs.Kinds.{ObjectKind}
use Rattle.onll_task.specs.declared.ending.Ending.TheVariants.{Done}
use Rattle.onll_task.specs.declared.answer.Stop.{Stop}
use Rattle.onll_task.specs.Job.{Job}
use Rattle.onll_task.specs.Doing.{Fulfils, AreKnown, lines_stage}
use Rattle.onll_open.specs.Names.{log_name, log_names}
use Rattle.onll_task.specs.Images.{AllDecide}
use Rattle.onll_task.specs.Running.{RunPlan, RunLeft, AreSized}
use Rattle.onll_task.specs.Stop.{StopSays}
use Rattle.onll_task.proofs.Stages.{wider, says_does}
use Rattle.onll_task.specs.NotResumed.{resume_ending, resume_text}
use Rattle.onll_task.proofs.Standing.{contents_stand}
use Rattle.onll_runner.specs.RunJob.{calls_task}
use Rattle.onll_runner.specs.Ground.{lines_over}
use Rattle.onll_runner.specs.ResumeJob.{AreLong, AreKeptImages, plan_over, based_task}
use Rattle.onll_runner.specs.RunEnds.{lines_left}
use Rattle.onll_runner.proofs.Lines.{sizes_again}

-- lines that stand for images are no more than decide what they hold
pub used_all : (lines images : List (List (List ℕ))) → AllDecide lines images → AllByRecursion (λ image. length image ≤ used_in (content_of image)) lines
used_all [] [] s = tt
used_all [] (image ∷ images) s = absurd s
used_all (l ∷ lines) [] s = absurd s
used_all (l ∷ lines) (image ∷ images) s = (subst (λ c. length l ≤ used_in c) (sym s.0.content) s.0.few, used_all lines images s.1)

-- the images that were read are as long as they are said to be
pub long_all : (logs : List ℕ) (t n : ℕ) (images : List (List (List ℕ))) (counts : List ℕ) (store : StoreView) → counts ≡ map length images → AreKnown lines_stage (log_names logs t n) store images → AreLong logs t counts store
long_all logs t zero [] [] store e known = tt
long_all logs t zero [] (count ∷ counts) store e known = absurd (omega (arith, ap length e))
long_all logs t zero (image ∷ images) counts store e known = absurd known
long_all logs t (suc n) [] counts store e known = absurd known
long_all logs t (suc n) (image ∷ images) [] store e known = absurd (omega (arith, ap length e))
long_all logs t (suc n) (image ∷ images) (count ∷ counts) store e known =
    let here : count ≡ length image = (cc) in
    let rest : counts ≡ map length images = (cc) in
    let long : store.tells ≡ true → (bytes : List ℕ) → store.file (log_name logs t) ≡ Some bytes → length (image_lines bytes) ≡ count = λ on bytes is.
    (let held = known.0.held on in let same : known.0.bytes ≡ bytes = (cc) in ap (λ b. length (image_lines b)) (sym same) ∙ sym (ap length known.0.image) ∙ sym here) in
    (long, long_all logs (suc t) n images counts store rest known.1)

-- they give what the images give
pub base_stands : {State Op Query Reply : Type 0} (b : Behaviour State Op Query Reply) (heads : List LogHead) (scripts : List (List (Call State Op Query Reply))) (lines images : List (List (List ℕ))) → AllDecide lines images
    → base_in b heads scripts lines ≡ base_in b heads scripts images
base_stands b heads scripts lines images s = ap (λ contents. with_room b heads scripts (found_logs b heads contents)) (contents_stand 0 lines images s)

-- no refusal is a good ending
not_done : (fault : ResumeFault) → resume_ending fault ≡ Done → ⊥
not_done (TooMany thread) e = cc e
not_done (Images fault) e = cc e
not_done (OldFormat log) e = cc e
not_done (NotOp place) e = cc e
not_done NoMemory e = cc e

module _ {k : ObjectKind} (threads : RunPlan k → (RunLeft k → Job) → Job) (init logs : List ℕ) (names : List (List ℕ)) (s : k.State) (files : List (List ℕ)) (heads : List LogHead)
    (scripts : List (List (Call k.State k.Op k.Query k.Reply))) (images : List (List (List ℕ))) (heads_are : heads ≡ created_heads k.code init scripts) where
  -- scripts go on from what was found
  pub found_does : {A : Type 0} (old new : StoreView) (r : Result (Vec ℕ A) Stop) (all : Found) → base_in k.means heads scripts images ≡ Ok all → Fulfils files old new (calls_task k threads (plan_over k logs s heads scripts all)) r
      → Fulfils files old new (based_task k threads init logs names s scripts (base_in k.means (created_heads k.code init scripts) scripts images)) r
  found_does old new r all is does =
      let here : base_in k.means (created_heads k.code init scripts) scripts images ≡ Ok all = ap (λ (hs : List LogHead). base_in k.means hs scripts images) (sym heads_are) ∙ is in
      subst (λ x. Fulfils files old new (based_task k threads init logs names s scripts x) r) (sym here)
      (subst (λ (hs : List LogHead). Fulfils files old new (calls_task k threads (plan_over k logs s hs scripts all)) r) heads_are does)

  -- or it is said why they don't
  pub refused_does : {A : Type 0} (store : StoreView) (stop : Stop) (fault : ResumeFault) → base_in k.means heads scripts images ≡ Err fault
      → StopSays stop (λ end said. (end ≡ resume_ending fault) × (said ≡ resume_text names fault))
      → Fulfils {A = A} files store store (based_task k threads init logs names s scripts (base_in k.means (created_heads k.code init scripts) scripts images)) (Err stop)
  refused_does {A} store stop fault is says =
      let here : base_in k.means (created_heads k.code init scripts) scripts images ≡ Err fault = ap (λ (hs : List LogHead). base_in k.means hs scripts images) (sym heads_are) ∙ is in
      let does = says_does {A = A} store (resume_ending fault) (resume_text names fault) stop (not_done fault) says in
      subst (λ x. Fulfils {A = A} files store store (based_task k threads init logs names s scripts x) (Err stop)) (sym here)
      (record { done = tt; reports = tt; stops = does.stops; files = wider files store store does.files })

-- what was run over the logs of these images has its sizes
pub sized_again : {A : Type 0} (k : ObjectKind) {V : Type 0} (items : V → List (Call k.State k.Op k.Query k.Reply)) (logs : List ℕ) (heads : List LogHead) (scripts : List V) (images : List (List (List ℕ))) (counts : List ℕ) (store : StoreView)
    (r : Recovered) (found : IsFound (base_in k.means heads (map items scripts) images) r) (state : k.State) (threads : RunPlan k → (RunLeft k → Job) → Job) → AreKeptImages logs (length (map items scripts)) images counts store → (new : StoreView) (res : Result (Vec ℕ A) Stop)
    → ((held : List Content) → map content_of images ≡ map Some held
    → ((left : List LogLeft) → map lines_left left ≡ lines_over (length (map items scripts)) r.logs counts (map items scripts)
    → AreSized {k = k} (record { logs = logs; reopens = true; run = going_on state heads r.nodes held (map items scripts) }) left store)
    → Fulfils (log_names logs 0 (length scripts)) store new (calls_task k threads (record { logs = logs; reopens = true; run = going_on state heads r.nodes held (map items scripts) })) res)
    → Fulfils (log_names logs 0 (length scripts)) store new (calls_task k threads (plan_over k logs state heads (map items scripts) found.all)) res
sized_again k items logs heads scripts images counts store r found state threads read new res does =
    let calls = map items scripts in
    let based = base_is k.means heads calls images found.all read.many found.is in
    let counts_are : r.logs ≡ map log_counts found.all.logs = ap (λ (x : Recovered). x.logs) found.told in
    let nodes_are : r.nodes ≡ found.all.nodes = ap (λ (x : Recovered). x.nodes) found.told in
    let many : length found.all.logs ≡ length calls = sym (length-map found.all.logs Some) ∙ sym (ap length based.contents) ∙ length-map images content_of ∙ read.many in
    let sizes = λ (left : List LogLeft) (e : map lines_left left ≡ lines_over (length calls) r.logs counts calls).
    sizes_again (length calls) store logs 0 found.all.logs counts calls left (e ∙ ap (λ (ls : List LogCounts). lines_over (length calls) ls counts calls) counts_are) read.long (read.counted ∙ sym many) (sym many) in
    subst (λ (ns : List Node). Fulfils (log_names logs 0 (length scripts)) store new (calls_task k threads (record { logs = logs; reopens = true; run = going_on state heads ns found.all.logs calls })) res) nodes_are
    (does found.all.logs based.contents sizes)
