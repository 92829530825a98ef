-- What `recover` says of the logs that a run kept, which began anew or went on.

use Rattle.std.specs.Prelude.{ℕ, ◌≡◌, List, true, length, map, Option, Some, Ok}
use Rattle.std.specs.List.{AllByRecursion}
use Rattle.onll_start.specs.Start.{Found}
use Rattle.onll_run.specs.Left.{ImagesRecover, content_in}
use Rattle.onll_merge.specs.Recovered.{recovered_with}
use Rattle.onll_text.specs.declared.any_object.AnyObject.{AnyObject}
use Rattle.onll_text.specs.Init.{init_of}
use Rattle.onll_text.specs.Kinds.{ObjectKind, on_object}
use Rattle.onll_outside.specs.Views.{StoreView}
use Rattle.onll_task.specs.declared.ending.Ending.TheVariants.{Done}
use Rattle.onll_open.specs.Names.{log_names}
use Rattle.onll_task.specs.Reading.{FileIsTold}
use Rattle.onll_recovery.specs.RecoverJob.{recover_report}
use Rattle.onll_jobs.specs.Command.{Recover, form_of}
use Rattle.onll_eras.specs.Restored.{TellLogs}
use Rattle.onll_jobs.specs.RunPromises.{HasReported, plan_from, fault_count}
use Rattle.onll_jobs.specs.Says.{NoneRose, SaysThis}
use Rattle.onll_jobs.specs.Seen.{Seen}

-- the files of these threads' logs are as in the other store
abbrev pub SameLogFiles : StoreView → StoreView → List ℕ → ℕ → Type 0
SameLogFiles store other logs threads = AllByRecursion (λ name. store.file name ≡ other.file name) (log_names logs 0 threads)

module _ (k : ObjectKind) (init : List ℕ) (s : k.State) where
  -- A run left the files of the logs: so many scripts were run from this initial state, anew or going on from what files gave, and
  -- reported, and a store that tells its files keeps the logs of that run. The files are as they were there.
  pub record IsLeftByRun (store : StoreView) (logs : List ℕ) (threads : ℕ) : Type 0 where
    pub before : StoreView
    pub after : StoreView
    pub names : List (List ℕ)
    pub text : List ℕ
    pub from : Option Found
    pub reported : HasReported from k init s before after logs names text
    pub many : length names ≡ threads
    pub tells : after.tells ≡ true
    pub same : SameLogFiles store after logs threads

  -- The files are images of that run's logs, and what is printed is the front of its trace that they recover to, with all that it went
  -- on from, every answered update and the place of every answered read, and the state after it; or memory could not be had. Where the
  -- run's report has no fault line, that is the whole trace, from the whole logs.
  pub record RecoversRun (seen : Seen) (status : ℕ) (logs : List ℕ) (threads : ℕ)
      (left : IsLeftByRun seen.store logs threads) : Type 0 where
    pub images : List (List (List ℕ))
    pub files : TellLogs seen.store logs 0 images
    pub recovers : ImagesRecover k.means (plan_from left.from k init logs s left.reported.scripts).run left.reported.left images
    pub whole : fault_count left.reported.left.ends ≡ 0
        → (recovers.logs ≡ map content_in left.reported.left.logs) × (recovers.nodes ≡ left.reported.left.nodes)
    pub says : SaysThis seen status Done (recover_report k.means k.wording s (recovered_with recovers.logs recovers.nodes))

-- a recovery over the initial state that a file tells, where no call of the store or of the sink failed
abbrev pub RecoversRuns : Seen → ℕ → Type 0
RecoversRuns seen status = (init logs bytes : List ℕ) (threads : ℕ) (object : AnyObject)
    → form_of seen.words ≡ Some (Recover init logs threads)
    → FileIsTold seen.store init bytes → init_of bytes ≡ Ok object → NoneRose seen
    → on_object (λ k s. (left : IsLeftByRun k bytes s seen.store logs threads) → RecoversRun k bytes s seen status logs threads left) object
