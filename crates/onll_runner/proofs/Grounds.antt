-- What scripts are run over: devices of it can be run over, and what was run over them has done its task.

use Rattle.std.proofs.Common.{Vec, ℕ, Bool, List, [], ◌∷◌, ◌≡◌, ◌*◌, ◌≤◌, length, map, IsSome, Some, Result, Ok, Err, refl, sym, ap, ◌∙◌, subst, arith}
use Rattle.std.specs.List.{AllByRecursion, All}
use Rattle.std.proofs.lemmas.List.{length-map}
use Rattle.std.proofs.lemmas.List.Elements.{All-from_recursion, recursion_from_All}
use Rattle.onll_model.specs.Limits.{most_threads}
use Rattle.onll_model.specs.declared.call.Call.{Call}
use Rattle.onll_pmem.specs.Pmem.{DeviceView}
use Rattle.onll_log.specs.declared.head.LogHead.{LogHead}
use Rattle.onll_log.specs.Grammar.{Content, content_of}
use Rattle.onll_log.specs.ImageFile.{longest_image}
use Rattle.onll_merge.specs.declared.counts.LogCounts.{LogCounts}
use Rattle.onll_merge.specs.Merge.{merge}
use Rattle.onll_merge.specs.Recovered.{Recovered, log_counts}
use Rattle.onll_merge.proofs.Backs.{merge-back}
use Rattle.onll_outside.specs.Views.{StoreView}
use Rattle.onll_run.specs.Left.{LogLeft}
use Rattle.onll_run.specs.Ran.{CanRun, going_on}
use Rattle.onll_open.specs.declared.fault.DeviceFault.{DeviceFault}
use Rattle.onll_open.specs.Devices.{AreReopened, AreHeld, AreWithin, HaveHeadLines, IsDeviceOf, NoneCounted, fronts_by}
use Rattle.onll_open.specs.Files.{DeviceFaults, KeepFronts, SameBut, SameCounts}
use Rattle.onll_open.specs.Names.{log_names}
use Rattle.onll_open.proofs.GivenLogs.{all_logs, held_same}
use Rattle.onll_open.proofs.Reopening.{AreSound, are_sound, head_lines}
use Rattle.onll_text.specs.Kinds.{ObjectKind}
use Rattle.onll_task.specs.declared.answer.Stop.{Stop}
use Rattle.onll_task.specs.Job.{Job}
use Rattle.onll_task.specs.Doing.{Fulfils}
use Rattle.onll_task.specs.Running.{RunPlan, RunLeft, AreSized, FileStands, AllStand, FilesStand, log_files}
use Rattle.onll_task.specs.Standing.{StandsForRuns}
use Rattle.onll_runner.specs.Devices.{SaysDevice}
use Rattle.onll_runner.specs.Ground.{IsGround, lines_over}
use Rattle.onll_runner.specs.RunEnds.{lines_left}
use Rattle.onll_runner.specs.RunJob.{calls_task}
use Rattle.onll_runner.proofs.Lines.{logs_stay, are_within, lines_small, roomy_again, small_again, fronts_within, lines_reopened}
use Rattle.onll_runner.proofs.RunSteps.{HasGone, gone_does, unmade_does, thread_fails}

-- the same of all is the same of each
each_some : (xs ys : List Content) → map Some xs ≡ map Some ys → xs ≡ ys
each_some [] [] e = refl
each_some [] (y ∷ ys) e = absurd (omega (arith, ap length e))
each_some (x ∷ xs) [] e = absurd (omega (arith, ap length e))
each_some (x ∷ xs) (y ∷ ys) e =
    let here : x ≡ y = (cc) in
    let rest : map Some xs ≡ map Some ys = (cc) in
    ap (λ (c : Content). c ∷ xs) here ∙ ap (λ (cs : List Content). y ∷ cs) (each_some xs ys rest)

module _ (k : ObjectKind) {V : Type 0} (items : V → List (Call k.State k.Op k.Query k.Reply)) (heads : List LogHead) (scripts : List V) (images : List (List (List ℕ))) (counts : List ℕ) (name : List ℕ) (store : StoreView) (r : Recovered)
    (h : IsGround k.means name heads r images counts (map items scripts) store) where
  abbrev calls : List (List (Call k.State k.Op k.Query k.Reply))
  calls = map items scripts

  same_many : length calls ≡ length scripts
  same_many = length-map scripts items

  pub are_logs : AllByRecursion (λ image. IsSome (content_of image)) images
  are_logs = all_logs images h.held h.contents

  logs_many : length h.held ≡ length calls
  logs_many = sym (length-map h.held Some) ∙ sym (ap length h.contents) ∙ length-map images content_of ∙ h.as_many

  pub held_many : length r.logs ≡ length scripts
  held_many = ap length h.counts_are ∙ length-map h.held log_counts ∙ logs_many ∙ same_many

  pub images_many : length images ≡ length scripts
  images_many = h.as_many ∙ same_many

  -- ---- the lines of devices
  small_lines : (lines : List ℕ) → lines ≡ lines_over (length calls) r.logs counts calls → AllByRecursion (λ n. 64 * n ≤ longest_image) lines
  small_lines lines is = subst (AllByRecursion (λ n. 64 * n ≤ longest_image)) (sym is)
      (lines_small (length calls) r.logs counts calls h.fitting (recursion_from_All (λ n. 64 * n ≤ longest_image) counts h.few))

  pub short : (lines : List ℕ) → lines ≡ lines_over (length calls) r.logs counts calls → All (λ n. n ≤ 1000000) lines
  short lines is = λ i d low. let small = All-from_recursion (λ n. 64 * n ≤ longest_image) lines (small_lines lines is) i d low in omega (arith, small)

  -- ---- with what images hold
  module _ (base : List Content) (is : AreHeld images base) where
    same_logs : base ≡ h.held
    same_logs = held_same images base h.held is h.contents

    base_many : length base ≡ length calls
    base_many = ap length same_logs ∙ logs_many

    base_counts : r.logs ≡ map log_counts base
    base_counts = h.counts_are ∙ ap (map log_counts) (sym same_logs)

    pub merged : merge heads base ≡ Ok r.nodes
    merged = ap (merge heads) same_logs ∙ h.merged

    sound : AreSound base images
    sound = are_sound (length calls) 0 heads base images (h.many ∙ sym base_many) h.heads_are (merge-back r.nodes heads base merged).heads_fit h.used is

    pub have_lines : HaveHeadLines r.logs images
    have_lines = subst (λ (ls : List LogCounts). HaveHeadLines ls images) (sym base_counts) (head_lines base images sound)

    module _ (lines : List ℕ) (lines_are : lines ≡ lines_over (length calls) r.logs counts calls) where
      over_base : lines ≡ lines_over (length calls) (map log_counts base) counts calls
      over_base = lines_are ∙ ap (λ (ls : List LogCounts). lines_over (length calls) ls counts calls) base_counts

      pub within : AreWithin images lines
      within = subst (AreWithin images) (sym over_base) (are_within (length calls) base images counts calls sound (h.counted ∙ sym base_many) (sym base_many))

      module _ {Device : Type 0} (means : Device → DeviceView) (devices : List Device) (reopened : AreReopened means (fronts_by r.logs images) lines devices) where
        pub can_go_on : 1 ≤ length scripts → length scripts ≤ most_threads → CanRun means heads base calls devices
        can_go_on some low =
            let same = same_many in
            let here : AreReopened means (fronts_by (map log_counts base) images) (lines_over (length calls) (map log_counts base) counts calls) devices =
            subst (λ l. AreReopened means (fronts_by (map log_counts base) images) l devices) over_base (subst (λ (ls : List LogCounts). AreReopened means (fronts_by ls images) lines devices) base_counts reopened) in
            record {
              some_thread = omega (arith, same, some);
              few = omega (arith, same, low);
              many = h.many;
              heads_are = h.heads_are;
              base = record { nodes = r.nodes; merged = merged; numbers = h.numbers };
              devices_are = roomy_again means (length calls) base images counts calls devices sound (sym base_many) here;
            }

        begin_within : AreWithin (fronts_by r.logs images) lines
        begin_within = fronts_within r.logs images lines (held_many ∙ sym images_many) within

        pub small_devices : All (λ (d : Device). 64 * length (means d).read ≤ longest_image) devices
        small_devices = All-from_recursion (λ (d : Device). 64 * length (means d).read ≤ longest_image) devices
            (small_again means (fronts_by r.logs images) lines devices begin_within (small_lines lines lines_are) reopened)

        pub device_lines : map (λ (d : Device). length (means d).read) devices ≡ lines_over (length calls) r.logs counts calls
        device_lines = lines_reopened means (fronts_by r.logs images) lines devices begin_within reopened ∙ lines_are

    -- ---- the whole
    module _ (state : k.State) (reopens : Bool) (threads : RunPlan k → (RunLeft k → Job) → Job) (stands : StandsForRuns k threads) (held : List Content) (held_is : map content_of images ≡ map Some held) (old mid : StoreView)
        (files : SameBut (log_names name 0 (length images)) old mid) (kept : KeepFronts name 0 (fronts_by r.logs images) old mid) where
      abbrev plan_here : RunPlan k
      plan_here = record { logs = name; reopens = reopens; run = going_on state heads r.nodes held calls }

      base_same : base ≡ held
      base_same = same_logs ∙ each_some h.held held (sym h.contents ∙ held_is)

      files_here : SameBut (log_files plan_here) old mid
      files_here = subst (λ n. SameBut (log_names name 0 n) old mid) h.as_many files

      stay_here : FilesStand plan_here old mid
      stay_here =
          let stay = logs_stay name 0 base images old mid sound (subst (λ (ls : List LogCounts). KeepFronts name 0 (fronts_by ls images) old mid) base_counts kept) in
          subst (λ n. AllStand (FileStands old mid) (log_names name 0 n) held) base_many (subst (λ (ls : List Content). AllStand (FileStands old mid) (log_names name 0 (length base)) ls) base_same stay)

      named : {A : Type 0} (new : StoreView) (res : Result (Vec ℕ A) Stop) → Fulfils (log_files plan_here) old new (calls_task k threads plan_here) res → Fulfils (log_names name 0 (length scripts)) old new (calls_task k threads plan_here) res
      named new res = subst (λ n. Fulfils (log_names name 0 n) old new (calls_task k threads plan_here) res) same_many

      -- what was run over the devices has gone so
      pub goes_over : {A : Type 0} (long : List ℕ) (new : StoreView) (res : Result (Vec ℕ A) Stop) → SameCounts old mid → long ≡ lines_over (length calls) r.logs counts calls
          → ((left : List LogLeft) → map lines_left left ≡ lines_over (length calls) r.logs counts calls → AreSized plan_here left old)
          → HasGone {k = k} (record { logs = name; reopens = reopens; run = going_on state heads r.nodes base calls }) long mid new res
          → Fulfils (log_names name 0 (length scripts)) old new (calls_task k threads plan_here) res
      goes_over long new res counted long_is sized gone =
          named new res (gone_does threads stands plan_here old mid new long res counted files_here stay_here (λ left e. sized left (e ∙ long_is))
          (subst (λ (ls : List Content). HasGone {k = k} (record { logs = name; reopens = reopens; run = going_on state heads r.nodes ls calls }) long mid new res) base_same gone))

      -- a device was not had
      pub not_had : {A : Type 0} (T : Type 0) (n : ℕ) (fault : DeviceFault) (s : Stop) → n ≡ length images → SaysDevice name fault s → DeviceFaults {T = T} name n old mid (Err fault) → IsDeviceOf r.logs fault → NoneCounted old mid
          → Fulfils {A = A} (log_names name 0 (length scripts)) old mid (calls_task k threads plan_here) (Err s)
      not_had {A} T n fault s many says failed which none =
          let counts_held : r.logs ≡ map log_counts held = base_counts ∙ ap (map log_counts) base_same in
          named mid (Err s) (unmade_does threads stands plan_here old mid s
          (thread_fails T name held (length calls) old mid fault s says (subst (λ m. DeviceFaults {T = T} name m old mid (Err fault)) (many ∙ h.as_many) failed) (subst (λ (ls : List LogCounts). IsDeviceOf ls fault) counts_held which))
          files_here stay_here none)
