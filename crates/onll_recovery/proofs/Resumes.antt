-- What holds of a core that goes on from images, and how it is played and crashes.

use Rattle.std.proofs.Common.{Vec, ℕ, suc, ◌≡◌, ◌==◌, Bool, true, false, if◌then◌else◌, ◌+◌, List, [], ◌∷◌, IsSome, length, count_by, map, Option, Some, None, Result, Ok, Err, refl, sym, ap, ◌∙◌, subst, arith}
use Rattle.std.proofs.lemmas.Bool.Decides.{nat_tests}
use Rattle.std.proofs.lemmas.List.{length-map}
use Rattle.onll_model.specs.declared.node.Node.{Node}
use Rattle.onll_model.specs.declared.call.Call.{Call}
use Rattle.onll_model.specs.declared.turn.Turn.{Turn}
use Rattle.onll_model.specs.Calls.{updates_in}
use Rattle.onll_model.specs.Object.{Behaviour}
use Rattle.onll_model.specs.Trace.{is_of_thread}
use Rattle.onll_model.specs.Recovered.{operations_front, where_some}
use Rattle.onll_model.specs.Segment.{Segment}
use Rattle.onll_log.specs.declared.head.LogHead.{LogHead}
use Rattle.onll_log.specs.Grammar.{Content, content_of, format_in}
use Rattle.onll_merge.specs.declared.counts.LogCounts.{LogCounts}
use Rattle.onll_merge.specs.declared.fault.ImagesFault.{ImagesFault}
use Rattle.onll_merge.specs.declared.fault.RecoverFault.{RecoverFault}
use Rattle.onll_merge.specs.Merge.{merge, unless}
use Rattle.onll_merge.specs.Recovered.{content_before, contents_from, log_counts, recovered_with, state_recovered}
use Rattle.onll_merge.specs.Resumed.{entries_of}
use Rattle.onll_start.specs.declared.fault.ResumeFault.{ResumeFault}
use Rattle.onll_start.specs.declared.fault.ResumeFault.TheVariants.{OldFormat, NotOp, TooMany}
use Rattle.onll_start.specs.Heads.{created_heads}
use Rattle.onll_start.specs.Start.{Found, is_old, old_format, is_too_many, found_operations, found_merged, found_newer, found_logs, found_in, too_many}
use Rattle.onll_start.proofs.Heads.{length-heads_from}
use Rattle.onll_core.specs.Core.{CoreState}
use Rattle.onll_core.specs.Crash.{heads_of, Recovers}
use Rattle.onll_core.specs.Outcomes.{script_of}
use Rattle.onll_core.specs.Resumed.{resumed_core, resumed_core_threads}
use Rattle.onll_core.specs.Resume.{going_on, resumed}
use Rattle.onll_core.specs.Step.{steps_of}
use Rattle.onll_core.specs.Turns.{turns_of}
use Rattle.onll_core.proofs.Crashed.{steps_heads, steps_scripts}
use Rattle.onll_core.proofs.Operations.{AllOperations, steps_operations}
use Rattle.onll_text.specs.declared.schedule.Schedule.{Schedule}
use Rattle.onll_text.specs.Wording.{Wording}
use Rattle.onll_outside.specs.Views.{StoreView}
use Rattle.onll_task.specs.declared.answer.Stop.{Stop}
use Rattle.onll_open.specs.Names.{log_names}
use Rattle.onll_task.specs.Images.{AllDecide}
use Rattle.onll_task.specs.Doing.{Fulfils}
use Rattle.onll_recovery.specs.ReplayJob.{crash_task}
use Rattle.onll_recovery.specs.AgainJob.{resumed_task}
use Rattle.onll_recovery.proofs.Crashes.{AreFormat2, head_format, contents_are, images_recover}
use Rattle.onll_task.proofs.OperationRows.{front_is}
use Rattle.onll_task.proofs.Standing.{contents_stand}

-- ---- what a core that goes on has
-- as many logs as images
abbrev ManyAs : ℕ → Result (List Content) ImagesFault → Type 0
ManyAs n (Ok logs) = length logs ≡ n
ManyAs n (Err fault) = Unit {0}

before_many : (i n : ℕ) (c : Option Content) (rest : Result (List Content) ImagesFault) → ManyAs n rest → ManyAs (suc n) (content_before i c rest)
before_many i n None rest h = tt
before_many i n (Some c) (Ok logs) h = ap suc h
before_many i n (Some c) (Err fault) h = tt

contents_many : (i : ℕ) (images : List (List (List ℕ))) → ManyAs (length images) (contents_from i images)
contents_many i [] = refl
contents_many i (image ∷ images) = before_many i (length images) (content_of image) (contents_from (i + 1) images) (contents_many (i + 1) images)

-- its threads are those of the scripts
made_scripts : {State Op Query Reply : Type 0} (heads : List LogHead) (logs : List (List Segment)) (scripts : List (List (Call State Op Query Reply)))
    → length heads ≡ length scripts → length logs ≡ length scripts → map script_of (resumed_core_threads heads logs scripts) ≡ scripts
made_scripts [] [] [] h k = refl
made_scripts (head ∷ heads) (log ∷ logs) (script ∷ scripts) h k = ap (λ l. script ∷ l) (made_scripts heads logs scripts (omega (arith, h)) (omega (arith, k)))
made_scripts [] (log ∷ logs) [] h k = absurd (omega (arith, k))
made_scripts [] logs (script ∷ scripts) h k = absurd (omega (arith, h))
made_scripts (head ∷ heads) logs [] h k = absurd (omega (arith, h))
made_scripts (head ∷ heads) [] (script ∷ scripts) h k = absurd (omega (arith, k))

-- and its logs have these heads
made_heads : {State Op Query Reply : Type 0} (heads : List LogHead) (logs : List (List Segment)) (scripts : List (List (Call State Op Query Reply)))
    → length heads ≡ length scripts → length logs ≡ length scripts → heads_of (resumed_core_threads heads logs scripts) ≡ heads
made_heads [] [] [] h k = refl
made_heads (head ∷ heads) (log ∷ logs) (script ∷ scripts) h k = ap (λ (l : List LogHead). head ∷ l) (made_heads heads logs scripts (omega (arith, h)) (omega (arith, k)))
made_heads [] (log ∷ logs) [] h k = absurd (omega (arith, k))
made_heads [] logs (script ∷ scripts) h k = absurd (omega (arith, h))
made_heads (head ∷ heads) logs [] h k = absurd (omega (arith, h))
made_heads (head ∷ heads) [] (script ∷ scripts) h k = absurd (omega (arith, k))

-- its rows are operations
row_there : {A : Type 0} (o : Option A) (n : Node) (front : List Node) (k : ℕ) → length (where_some o (n ∷ front)) ≡ suc k → IsSome o × (length front ≡ k)
row_there None n front k e = absurd (omega (arith, e))
row_there (Some x) n front k e = (refl, omega (arith, e))

rows_there : {State Op Query Reply : Type 0} (b : Behaviour State Op Query Reply) (nodes : List Node) → length (operations_front b nodes) ≡ length nodes → AllOperations b nodes
rows_there b [] e = tt
rows_there b (n ∷ nodes) e = let here = row_there (b.op_at n.row) n (operations_front b nodes) (length nodes) e in (here.0, rows_there b nodes here.1)

equal_numbers : (m n : ℕ) → (m == n) ≡ true → m ≡ n
equal_numbers m n e = grind (arith, nat_tests)

-- a core of these scripts, with logs of these heads, none of whose threads has begun, over nodes that are operations
pub record IsOn {State Op Query Reply : Type 0} (b : Behaviour State Op Query Reply) (heads : List LogHead) (scripts : List (List (Call State Op Query Reply))) (c : CoreState State Op Query Reply) : Type 0 where
  pub heads_are : heads_of c.threads ≡ heads
  pub scripts_are : map script_of c.threads ≡ scripts
  pub operations : AllOperations b c.trace
  pub clock : c.clock ≡ 0

module _ {State Op Query Reply : Type 0} (b : Behaviour State Op Query Reply) (heads : List LogHead) (count : ℕ) where
  abbrev IfFound : Result Found ResumeFault → Type 0
  IfFound (Ok found) = (length found.logs ≡ count) × AllOperations b found.nodes
  IfFound (Err fault) = Unit {0}

  operations_there : (logs : List Content) (nodes : List Node) → length logs ≡ count → IfFound (found_operations b heads logs nodes)
  operations_there logs nodes many = by_rows (length (operations_front b nodes) == length nodes) refl
    where
      by_rows : (q : Bool) → (length (operations_front b nodes) == length nodes) ≡ q → IfFound (if q then Ok (record { logs = logs; nodes = nodes }) else Err (NotOp (length (operations_front b nodes) + 1)))
      by_rows true e = (many, rows_there b nodes (equal_numbers (length (operations_front b nodes)) (length nodes) e))
      by_rows false e = tt

  merged_there : (logs : List Content) (nodes : Result (List Node) RecoverFault) → length logs ≡ count → IfFound (found_merged b heads logs nodes)
  merged_there logs (Ok nodes) many = operations_there logs nodes many
  merged_there logs (Err fault) many = tt

  newer_there : (logs : List Content) (old : Option ResumeFault) → length logs ≡ count → IfFound (found_newer b heads logs old)
  newer_there logs None many = merged_there logs (merge heads logs) many
  newer_there logs (Some fault) many = tt

  logs_there : (contents : Result (List Content) ImagesFault) → ManyAs count contents → IfFound (found_logs b heads contents)
  logs_there (Ok logs) many = newer_there logs (old_format 0 logs) many
  logs_there (Err fault) many = tt

module _ {State Op Query Reply : Type 0} (b : Behaviour State Op Query Reply) (initial : State) (heads : List LogHead) (scripts : List (List (Call State Op Query Reply)))
    (same : length heads ≡ length scripts) where
  abbrev IfOn : Result (CoreState State Op Query Reply) ResumeFault → Type 0
  IfOn (Ok c) = IsOn b heads scripts c
  IfOn (Err fault) = Unit {0}

  with_room : (found : Found) (few : Option ResumeFault) → (length found.logs ≡ length scripts) × AllOperations b found.nodes → IfOn (unless few (resumed_core initial found.nodes heads (entries_of found.logs) scripts))
  with_room found None h = record {
    heads_are = made_heads heads (entries_of found.logs) scripts same (length-map found.logs (λ (c : Content). c.entries) ∙ h.0);
    scripts_are = made_scripts heads (entries_of found.logs) scripts same (length-map found.logs (λ (c : Content). c.entries) ∙ h.0);
    operations = h.1;
    clock = refl;
  }
  with_room found (Some fault) h = tt

  core_on : (found : Result Found ResumeFault) → IfFound b heads (length scripts) found → IfOn (going_on initial heads scripts found)
  core_on (Ok found) h = with_room found (too_many (length heads) found.nodes 0 (map log_counts found.logs) scripts) h
  core_on (Err fault) h = tt

module _ {State Op Query Reply : Type 0} (b : Behaviour State Op Query Reply) (code : ℕ) (init : List ℕ) (s : State) (scripts : List (List (Call State Op Query Reply))) where
  pub resumed_on : (images : List (List (List ℕ))) (c : CoreState State Op Query Reply) → length images ≡ length scripts → resumed b code init s images scripts ≡ Ok c → IsOn b (created_heads code init scripts) scripts c
  resumed_on images c many e =
      let heads = created_heads code init scripts in
      let count : length heads ≡ length scripts = length-heads_from (length scripts) code init 0 (length scripts) in
      subst (IfOn b s heads scripts count) e
      (core_on b s heads scripts count (found_in b heads images) (logs_there b heads (length scripts) (contents_from 0 images) (subst (λ n. ManyAs n (contents_from 0 images)) many (contents_many 0 images))))

  -- of lines that stand for images it is the same
  pub resumed_stands : (lines images : List (List (List ℕ))) → AllDecide lines images → resumed b code init s lines scripts ≡ resumed b code init s images scripts
  resumed_stands lines images stand =
      let heads = created_heads code init scripts in ap (λ contents. going_on s heads scripts (found_logs b heads contents)) (contents_stand 0 lines images stand)

-- ---- how it is played
module _ {State Op Query Reply : Type 0} (b : Behaviour State Op Query Reply) (heads : List LogHead) (scripts : List (List (Call State Op Query Reply))) (c : CoreState State Op Query Reply) (on : IsOn b heads scripts c) where
  -- its threads
  pub on_threads : length c.threads ≡ length scripts
  on_threads = sym (length-map c.threads script_of) ∙ ap length on.scripts_are

  -- after steps each row is an operation's
  pub on_operations : (core : CoreState State Op Query Reply) (turns : List Turn) → core ≡ steps_of b c (turns_of turns) → AllOperations b core.trace
  on_operations core turns steps = subst (λ (k : CoreState State Op Query Reply). AllOperations b k.trace) (sym steps) (steps_operations b c (turns_of turns) on.operations)

  -- images that recover with its heads are recovered to operations
  pub on_recovered : (ts : List ℕ) (images : List (List (List ℕ))) → (r : Recovers heads (steps_of b c ts) images)
      → state_recovered b (heads_of (steps_of b c ts).threads) images ≡ Ok (recovered_with r.logs r.nodes)
  on_recovered ts images r =
      ap (λ hs. state_recovered b hs images) (steps_heads b c ts ∙ on.heads_are)
      ∙ images_recover b heads (steps_of b c ts) images (steps_operations b c ts on.operations) r

  -- it played the schedule, and crashes
  pub resumed_does : {A : Type 0} (w : Wording State Op Query Reply) (logs : List ℕ) (names : List (List ℕ)) (plan : Schedule) (n : ℕ) (core : CoreState State Op Query Reply) (base : ℕ)
      {found : Result (CoreState State Op Query Reply) ResumeFault} {store after : StoreView} (r : Result (Vec ℕ A) Stop)
      → found ≡ Ok c → core ≡ steps_of b c (turns_of plan.turns) → base ≡ c.base → length core.threads ≡ n
      → Fulfils (log_names logs 0 (length core.threads)) store after (crash_task b w logs (Some base) (map script_of core.threads) core plan.keep) r
      → Fulfils (log_names logs 0 n) store after (resumed_task b w logs names scripts plan found) r
  resumed_does w logs names plan n core base {found} {store} {after} r e steps at many does =
      let run : CoreState State Op Query Reply = steps_of b c (turns_of plan.turns) in
      let by : ℕ → List (List (Call State Op Query Reply)) → CoreState State Op Query Reply → Type 0 =
      λ base scripts core. Fulfils (log_names logs 0 n) store after (crash_task b w logs (Some base) scripts core plan.keep) r in
      subst (λ (x : Result (CoreState State Op Query Reply) ResumeFault). Fulfils (log_names logs 0 n) store after (resumed_task b w logs names scripts plan x) r) (sym e)
      (subst (λ base. by base scripts run) at
      (subst (λ scripts. by base scripts run) (steps_scripts b c (turns_of plan.turns) ∙ on.scripts_are)
      (subst (λ (core : CoreState State Op Query Reply). by base (map script_of core.threads) core) steps
      (subst (λ m. Fulfils (log_names logs 0 m) store after (crash_task b w logs (Some base) (map script_of core.threads) core plan.keep) r) many does))))

-- ---- what images of format 2 give
two_not_one : (n : ℕ) → n ≡ 2 → (n == 1) ≡ false
two_not_one n e = ap (λ (m : ℕ). m == 1) e

-- a log whose image is read by format 2 is of no old one
newer_head : (head : Option LogHead) → ((found : LogHead) → head ≡ Some found → found.format ≡ 2) → is_old head ≡ false
newer_head None f = refl
newer_head (Some head) f = two_not_one head.format (f head refl)

newer_log : (image : List (List ℕ)) (log : Content) → content_of image ≡ Some log → format_in image ≡ 2 → is_old log.head ≡ false
newer_log image log e f = newer_head log.head (λ head same. head_format image log head e same f)

all_newer : (i : ℕ) (images : List (List (List ℕ))) (logs : List Content) → map content_of images ≡ map Some logs → AreFormat2 images → old_format i logs ≡ None
all_newer i [] [] e f = refl
all_newer i [] (log ∷ logs) e f = absurd (cc)
all_newer i (image ∷ images) [] e f = absurd (cc)
all_newer i (image ∷ images) (log ∷ logs) e f =
    let here : content_of image ≡ Some log = (cc) in
    let rest : map content_of images ≡ map Some logs = (cc) in
    by_test (is_old log.head) (newer_log image log here f.0) (all_newer (i + 1) images logs rest f.1)
  where
    by_test : (q : Bool) → q ≡ false → old_format (i + 1) logs ≡ None → (if q then Some (OldFormat i) else old_format (i + 1) logs) ≡ None
    by_test true e h = absurd (cc)
    by_test false e h = h

-- what logs give where the rows are tested so
abbrev tested : List Content → List Node → Bool → ℕ → Result Found ResumeFault
tested logs nodes q place = if q then Ok (record { logs = logs; nodes = nodes }) else Err (NotOp place)

all_tested : (logs : List Content) (nodes : List Node) (m n : ℕ) → m ≡ n → tested logs nodes (m == n) (m + 1) ≡ Ok (record { logs = logs; nodes = nodes })
all_tested logs nodes m n e = let same : (m == n) ≡ true = grind (arith, nat_tests) in ap (λ (q : Bool). tested logs nodes q (m + 1)) same

module _ {State Op Query Reply : Type 0} (b : Behaviour State Op Query Reply) (heads : List LogHead) where
  pub found_is : (images : List (List (List ℕ))) (logs : List Content) (nodes : List Node) → map content_of images ≡ map Some logs → AreFormat2 images → merge heads logs ≡ Ok nodes → AllOperations b nodes
      → found_in b heads images ≡ Ok (record { logs = logs; nodes = nodes })
  found_is images logs nodes c f m o =
      ap (found_logs b heads) (contents_are 0 images logs c)
      ∙ ap (found_newer b heads logs) (all_newer 0 images logs c f)
      ∙ ap (found_merged b heads logs) m
      ∙ all_tested logs nodes (length (operations_front b nodes)) (length nodes) (ap length (front_is b nodes o))

-- a core goes on, or a script has too many updates
abbrev pub GoesOrMany : {State Op Query Reply : Type 0} → Result (CoreState State Op Query Reply) ResumeFault → Type 0
GoesOrMany (Ok begun) = Unit {0}
GoesOrMany (Err (TooMany thread)) = Unit {0}
GoesOrMany (Err fault) = ⊥

module _ {State Op Query Reply : Type 0} (b : Behaviour State Op Query Reply) (code : ℕ) (init : List ℕ) (s : State) (scripts : List (List (Call State Op Query Reply))) where
  by_test : (q : Bool) (t : ℕ) (rest : Option ResumeFault) (core : CoreState State Op Query Reply) → GoesOrMany (unless rest core) → GoesOrMany (unless (if q then Some (TooMany t) else rest) core)
  by_test true t rest core h = tt
  by_test false t rest core h = h

  few_or_many : (threads : ℕ) (nodes : List Node) (t : ℕ) (logs : List LogCounts) (left : List (List (Call State Op Query Reply))) (core : CoreState State Op Query Reply) → GoesOrMany (unless (too_many threads nodes t logs left) core)
  few_or_many threads nodes t [] left core = tt
  few_or_many threads nodes t (log ∷ logs) [] core = tt
  few_or_many threads nodes t (log ∷ logs) (script ∷ left) core =
      by_test (is_too_many threads (count_by (is_of_thread t) nodes) log.lines (updates_in script)) t (too_many threads nodes (t + 1) logs left) core
      (few_or_many threads nodes (t + 1) logs left core)

  pub goes_or_many : (images : List (List (List ℕ))) (found : Found) → found_in b (created_heads code init scripts) images ≡ Ok found → GoesOrMany (resumed b code init s images scripts)
  goes_or_many images found e =
      let heads = created_heads code init scripts in
      subst (λ (r : Result Found ResumeFault). GoesOrMany (going_on s heads scripts r)) (sym e)
      (few_or_many (length heads) found.nodes 0 (map log_counts found.logs) scripts (resumed_core s found.nodes heads (entries_of found.logs) scripts))
