-- What `detect` says of the files that a crash left.

use Rattle.std.specs.Prelude.{ℕ, ◌≡◌, ◌+◌, List, length, Some, Ok, slice_get}
use Rattle.std.specs.List.{Contains, flat_map}
use Rattle.onll_words.specs.Texts.{line_text}
use Rattle.onll_model.specs.declared.call.Call.{Call}
use Rattle.onll_model.specs.declared.call.Call.TheVariants.{Update}
use Rattle.onll_model.specs.declared.call.CallEnd.TheVariants.{Answered}
use Rattle.onll_core.specs.declared.returned.Returned.{Returned}
use Rattle.onll_core.specs.Consistent.{EachCoreThread}
use Rattle.onll_core.specs.Core.{CoreState}
use Rattle.onll_core.specs.Created.{created_core}
use Rattle.onll_core.specs.Step.{steps_of}
use Rattle.onll_detect.specs.Outcomes.{table_of}
use Rattle.onll_text.specs.declared.any_object.AnyObject.{AnyObject}
use Rattle.onll_text.specs.Init.{init_of}
use Rattle.onll_text.specs.Kinds.{ObjectKind, on_object}
use Rattle.onll_text.specs.Lines.{call_line}
use Rattle.onll_text.specs.Wording.{Wording}
use Rattle.onll_task.specs.declared.ending.Ending.TheVariants.{Done}
use Rattle.onll_task.specs.Reading.{FileIsTold}
use Rattle.onll_recovery.specs.DetectJob.{detect_lines}
use Rattle.onll_jobs.specs.AgainPromises.{TellScripts}
use Rattle.onll_jobs.specs.Command.{Detect, form_of}
use Rattle.onll_jobs.specs.Durable.{AreLeftFiles, FilesLeaveAll}
use Rattle.onll_jobs.specs.Says.{NoneRose, SaysThis}
use Rattle.onll_jobs.specs.Seen.{Seen}

-- each update of this core that returned has its line here, with its reply and its place, as a replay prints it
abbrev pub HaveReturned : {State Op Query Reply : Type 0} → Wording State Op Query Reply → CoreState State Op Query Reply
    → List (List (List ℕ)) → Type 0
HaveReturned {State} {Op} {Query} {Reply} w c lines =
    EachCoreThread c (λ t th. (i : ℕ) (op : Op) (r : Returned State Op Query Reply)
    → slice_get th.script i ≡ Some (Update op) → slice_get th.returned i ≡ Some r
    → Contains lines (call_line w t (i + 1) (let call : Call State Op Query Reply = Update op in call) (Answered r.reply r.place)))

module _ (k : ObjectKind) (init : List ℕ) (s : k.State) (seen : Seen) (logs : List ℕ) (names : List (List ℕ)) where
  -- A crash left the files of the logs, and the core ran the very scripts that the other files hold, from the initial state on.
  pub record IsLeftByFirst (scripts : List (List (Call k.State k.Op k.Query k.Reply))) : Type 0 where
    pub tell : TellScripts k.wording seen.store names scripts
    pub left : AreLeftFiles k init s seen.store logs (length names)
    pub ran : left.scripts ≡ scripts
    pub anew : created_core s k.code init scripts ≡ left.first

  -- Nothing is refused, and what is printed are the outcomes by the nodes that the images recover to: of each returned update its reply
  -- and its place; or memory could not be had.
  pub record TellsLeft (status : ℕ) (scripts : List (List (Call k.State k.Op k.Query k.Reply)))
      (first : IsLeftByFirst scripts) : Type 0 where
    pub leaves : FilesLeaveAll k init s seen.store logs (length names) first.left
    pub lines : List (List (List ℕ))
    pub lines_are : lines
        ≡ detect_lines k.wording (table_of k.means s leaves.all.recovers.nodes) scripts (length leaves.all.recovers.nodes)
    pub returned : HaveReturned k.wording (steps_of k.means first.left.first first.left.steps) lines
    pub says : SaysThis seen status Done (flat_map line_text lines)

-- over the initial state that a file tells, where no call of the store or of the sink failed
abbrev pub TellsCrashes : Seen → ℕ → Type 0
TellsCrashes seen status = (init logs bytes : List ℕ) (names : List (List ℕ)) (object : AnyObject)
    → form_of seen.words ≡ Some (Detect init logs names)
    → FileIsTold seen.store init bytes → init_of bytes ≡ Ok object → NoneRose seen
    → on_object (λ k s. (scripts : List (List (Call k.State k.Op k.Query k.Reply)))
    (first : IsLeftByFirst k bytes s seen logs names scripts)
    → TellsLeft k bytes s seen logs names status scripts first) object

-- What `detect` promises beside.
pub record DetectPromises (seen : Seen) (status : ℕ) : Type 0 where
  pub crashes : TellsCrashes seen status
