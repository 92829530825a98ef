-- What a run leaves, from what each thread made.
use Rattle.std.proofs.Common.{◌≡◌, ℕ, zero, suc, ◌+◌, ◌-◌, ◌<◌, ◌≤◌, ◌↔◌, Bool, true, false, if◌then◌else◌, List, [], ◌∷◌, ◌++◌, length, map, take, Option, Some, None, Ok, refl, sym, ap, ◌∙◌, subst, arith}
use Rattle.std.specs.Prelude.{is_some, slice_index_or, drop, max, count_by, All}
use Rattle.std.specs.List.{AllByRecursion, slice_get}
use Rattle.std.proofs.lemmas.List.{drop_at, length-map}
use Rattle.std.proofs.lemmas.List.Elements.{All-from_recursion}
use mathlib.Core.List.{IsPrefix}
use Rattle.onll_model.specs.Limits.{most_updates}
use Rattle.onll_model.specs.declared.node.Node.{Node}
use Rattle.onll_model.specs.declared.call.Call.{Call}
use Rattle.onll_model.specs.declared.call.CallEnd.{CallEnd}
use Rattle.onll_model.specs.Object.{Behaviour}
use Rattle.onll_model.specs.Calls.{updates_in}
use Rattle.onll_model.specs.Trace.{is_of_thread}
use Rattle.onll_model.specs.Segment.{Segment}
use Rattle.onll_model.specs.Frames.{is_available}
use Rattle.onll_model.specs.Legal.{placed_updates}
use Rattle.onll_model.proofs.Lists.{same_some, some_not_none}
use Rattle.onll_pmem.specs.Device.{zero_lines}
use Rattle.onll_pmem.specs.Pmem.{DeviceView, ToldSettled}
use Rattle.onll_log.specs.declared.head.LogHead.{LogHead}
use Rattle.onll_log.specs.Encoding.{log_lines}
use Rattle.onll_log.specs.Grammar.{Content, content_of, are_zero_lines, lines_in, used_with}
use Rattle.onll_log.specs.Log.{LogState, free_of}
use Rattle.onll_log.proofs.Encoded.{content_of-log_lines, length-log_lines}
use Rattle.onll_merge.specs.Merge.{merge}
use Rattle.onll_merge.specs.Laws.{HeadsFit}
use Rattle.onll_merge.proofs.Backs.{merge-back}
use Rattle.onll_trace.specs.declared.trace.Ended.{Ended}
use Rattle.onll_trace.specs.Closing.{ends_of as ended_of}
use Rattle.onll_trace.specs.Plans.{HasRooms, base_place}
use Rattle.onll_shared.specs.Passes.{OnllView, PassView, log_of, spot_of}
use Rattle.onll_shared.specs.Starts.{AreLogs, IsWholeLogOf, IsNewcomer, HasBegun}
use Rattle.onll_shared.specs.Found.{content_held, head_held}
use Rattle.onll_shared.specs.Crash.{head_of}
use Rattle.onll_shared.specs.Ends.{HasClosed, content_in as content_of_pass}
use Rattle.onll_run.specs.Outcomes.{failed_in, fault_in}
use Rattle.onll_run.specs.Workers.{HasWorked}
use Rattle.onll_run.specs.Left.{Base, ScriptPlan, AfterRun, LogLeft, LogTells, LogsTell, HasRun, content_in, failed_at, fenced_in, flags_by}
use Rattle.onll_run.specs.Ended.{ThreadRun, script_of, ends_of, after_of, log_left, HaveRun, plan_of, left_of, IsWholeRun}
use Rattle.onll_run.specs.declared.worker.WorkerEnd.{WorkerEnd}
use Rattle.onll_run.specs.Crew.{AreFit, AreReadyPasses, AreDone, runs_of, pass_done, script_done, ends_done, CanEnd}
use Rattle.onll_run.specs.Done.{HaveDone}
use Rattle.onll_log.specs.Head.{AreHeads}
use Rattle.onll_run.specs.Making.{StandsBy, CanOpen, AllCanOpen, IsOpen, AreOpen}
use Rattle.onll_run.specs.Ran.{AreRoomy, HaveNumbers, CanRun, IsKeptLog, AreKeptLogs, going_on, available, node_in, flag_in}
use Rattle.onll_run.proofs.Beginning.{ready_all}
use Rattle.onll_run.proofs.Ending.{passes_end}
use Rattle.onll_run.proofs.Whole.{run_whole}
use Rattle.onll_run.proofs.Merging.{SameEntries, merge_filled}
use Rattle.onll_run.proofs.Headers.{open_fences, opened_faults, opened_lines}

-- the heads and the tails of equal lists
same_cons : {A : Type 0} (x y : A) (xs ys : List A) → x ∷ xs ≡ y ∷ ys → (x ≡ y) × (xs ≡ ys)
same_cons x y xs ys e = (cc, cc)

zeros_are : (n : ℕ) → are_zero_lines (zero_lines n) ≡ true
zeros_are zero = refl
zeros_are (suc n) = zeros_are n

-- ---- what scripts, heads, logs and devices that fit give
abbrev pub before_of : {State Op Query Reply Device : Type 0} → ThreadRun State Op Query Reply Device → PassView State Device
before_of r = r.before

module _ {State Op Query Reply Device : Type 0} (means : Device → DeviceView) where
  -- each log can be opened on the device at its place
  can_each : (count t threads : ℕ) (heads : List LogHead) (befores : List Content) (scripts : List (List (Call State Op Query Reply))) (devices : List Device) → length heads ≡ length scripts → AreHeads count t heads
      → HeadsFit befores heads → AreRoomy means threads befores scripts devices → AllCanOpen means heads befores devices
  can_each count t threads [] [] [] [] many h f r = tt
  can_each count t threads [] [] [] (d ∷ devices) many h f r = absurd r
  can_each count t threads [] [] (s ∷ scripts) devices many h f r = absurd r
  can_each count t threads [] (b ∷ befores) [] devices many h f r = absurd r
  can_each count t threads [] (b ∷ befores) (s ∷ scripts) devices many h f r = absurd (omega arith)
  can_each count t threads (k ∷ heads) befores [] devices many h f r = absurd (omega arith)
  can_each count t threads (k ∷ heads) [] (s ∷ scripts) devices many h f r = absurd r
  can_each count t threads (k ∷ heads) (b ∷ befores) (s ∷ scripts) [] many h f r = absurd r
  can_each count t threads (k ∷ heads) (b ∷ befores) (s ∷ scripts) (d ∷ devices) many h f r = (
    record { fits = h.0.fits; head_is = f.0; fences = r.0.fences; faults = r.0.faults; settled = r.0.settled; stands = r.0.stands },
    can_each count (t + 1) threads heads befores scripts devices (omega arith) h.1 f.1 r.1,
  )

  pub can_open : (heads : List LogHead) (befores : List Content) (scripts : List (List (Call State Op Query Reply))) (devices : List Device) → CanRun means heads befores scripts devices → AllCanOpen means heads befores devices
  can_open heads befores scripts devices c =
      can_each (length scripts) 0 (length scripts) heads befores scripts devices c.many c.heads_are (merge-back c.base.nodes heads befores c.base.merged).heads_fit c.devices_are

-- each script has few updates, since its thread has numbers for them
few_each : {State Op Query Reply : Type 0} {V : Type 0} (items : V → List (Call State Op Query Reply)) (nodes : List Node) (t : ℕ) (scripts : List V) → HaveNumbers nodes t (map items scripts)
    → AllByRecursion (λ (s : V). updates_in (items s) ≤ most_updates) scripts
few_each items nodes t [] h = tt
few_each items nodes t (s ∷ scripts) h = (let n = h.0 in omega arith, few_each items nodes (t + 1) scripts h.1)

pub few_updates : {State Op Query Reply Device : Type 0} {V : Type 0} (means : Device → DeviceView) (items : V → List (Call State Op Query Reply)) (heads : List LogHead) (befores : List Content) (scripts : List V) (devices : List Device)
    → CanRun means heads befores (map items scripts) devices → All (λ (s : V). updates_in (items s) ≤ most_updates) scripts
few_updates {State} {Op} {Query} {Reply} {Device} {V} means items heads befores scripts devices c =
    All-from_recursion (λ (s : V). updates_in (items s) ≤ most_updates) scripts (few_each items c.base.nodes 0 scripts c.base.numbers)

-- the rooms of threads that have numbers for their scripts
rooms_each : {State Op Query Reply : Type 0} (nodes : List Node) (t : ℕ) (scripts : List (List (Call State Op Query Reply))) → HaveNumbers nodes t scripts
    → (i room : ℕ) → slice_get (map updates_in scripts) i ≡ Some room → count_by (is_of_thread (t + i)) nodes + room ≤ most_updates
rooms_each nodes t [] h i room e = some_not_none room (sym e)
rooms_each nodes t (s ∷ scripts) h zero room e =
    let same : updates_in s ≡ room = same_some (updates_in s) room e in
    let n : t + 0 ≡ t = omega arith in
    let k = ap (λ (m : ℕ). count_by (is_of_thread m) nodes) n in
    let low = h.0 in omega arith
rooms_each nodes t (s ∷ scripts) h (suc i) room e =
    let n : t + 1 + i ≡ t + suc i = omega arith in
    subst (λ (m : ℕ). count_by (is_of_thread m) nodes + room ≤ most_updates) n (rooms_each nodes (t + 1) scripts h.1 i room e)

module _ {Device : Type 0} (means : Device → DeviceView) where
  -- ---- what logs that are open give
  open_long : (heads : List LogHead) (befores : List Content) (devices : List Device) (logs : List (LogState Device)) → AreOpen means heads befores devices logs → length logs ≡ length heads
  open_long [] [] [] [] a = refl
  open_long [] [] [] (l ∷ logs) a = absurd a
  open_long [] [] (d ∷ devices) logs a = absurd a
  open_long [] (b ∷ befores) devices logs a = absurd a
  open_long (h ∷ heads) [] devices logs a = absurd a
  open_long (h ∷ heads) (b ∷ befores) [] logs a = absurd a
  open_long (h ∷ heads) (b ∷ befores) (d ∷ devices) [] a = absurd a
  open_long (h ∷ heads) (b ∷ befores) (d ∷ devices) (l ∷ logs) a = ap suc (open_long heads befores devices logs a.1)

  log_each : (count t : ℕ) (heads : List LogHead) (befores : List Content) (devices : List Device) (logs : List (LogState Device)) → AreHeads count t heads → AreOpen means heads befores devices logs
      → (i : ℕ) (log : LogState Device) → slice_get logs i ≡ Some log → IsWholeLogOf count (t + i) log
  log_each count t [] [] [] [] h a i log e = some_not_none log (sym e)
  log_each count t [] [] [] (l ∷ logs) h a i log e = absurd a
  log_each count t [] [] (d ∷ devices) logs h a i log e = absurd a
  log_each count t [] (b ∷ befores) devices logs h a i log e = absurd a
  log_each count t (k ∷ heads) [] devices logs h a i log e = absurd a
  log_each count t (k ∷ heads) (b ∷ befores) [] logs h a i log e = absurd a
  log_each count t (k ∷ heads) (b ∷ befores) (d ∷ devices) [] h a i log e = absurd a
  log_each count t (k ∷ heads) (b ∷ befores) (d ∷ devices) (l ∷ logs) h a zero log e =
      let is : l ≡ log = same_some l log e in
      subst (λ (z : LogState Device). IsWholeLogOf count (t + 0) z) is (record {
        thread = ap (λ (x : LogHead). x.thread) a.0.head_is ∙ (let n = h.0.thread in omega arith);
        threads = ap (λ (x : LogHead). x.threads) a.0.head_is ∙ h.0.threads;
        format = ap (λ (x : LogHead). x.format) a.0.head_is ∙ h.0.format;
        whole = a.0.whole;
      })
  log_each count t (k ∷ heads) (b ∷ befores) (d ∷ devices) (l ∷ logs) h a (suc i) log e =
      let n : t + 1 + i ≡ t + suc i = omega arith in
      subst (λ (z : ℕ). IsWholeLogOf count z log) n (log_each count (t + 1) heads befores devices logs h.1 a.1 i log e)

  -- their heads and entries
  heads_open : (heads : List LogHead) (befores : List Content) (devices : List Device) (logs : List (LogState Device)) → AreOpen means heads befores devices logs → map head_held logs ≡ heads
  heads_open [] [] [] [] a = refl
  heads_open [] [] [] (l ∷ logs) a = absurd a
  heads_open [] [] (d ∷ devices) logs a = absurd a
  heads_open [] (b ∷ befores) devices logs a = absurd a
  heads_open (h ∷ heads) [] devices logs a = absurd a
  heads_open (h ∷ heads) (b ∷ befores) [] logs a = absurd a
  heads_open (h ∷ heads) (b ∷ befores) (d ∷ devices) [] a = absurd a
  heads_open (h ∷ heads) (b ∷ befores) (d ∷ devices) (l ∷ logs) a = λ i. a.0.head_is i ∷ heads_open heads befores devices logs a.1 i

  entries_open : (heads : List LogHead) (befores : List Content) (devices : List Device) (logs : List (LogState Device)) → AreOpen means heads befores devices logs
      → SameEntries befores (map content_held logs) × HeadsFit (map content_held logs) heads
  entries_open [] [] [] [] a = (tt, tt)
  entries_open [] [] [] (l ∷ logs) a = absurd a
  entries_open [] [] (d ∷ devices) logs a = absurd a
  entries_open [] (b ∷ befores) devices logs a = absurd a
  entries_open (h ∷ heads) [] devices logs a = absurd a
  entries_open (h ∷ heads) (b ∷ befores) [] logs a = absurd a
  entries_open (h ∷ heads) (b ∷ befores) (d ∷ devices) [] a = absurd a
  entries_open (h ∷ heads) (b ∷ befores) (d ∷ devices) (l ∷ logs) a =
      let r = entries_open heads befores devices logs a.1 in ((a.0.entries, r.0), (a.0.head_is, r.1))

  -- how many lines a log uses, its header's among them
  used_max : (o : Option LogHead) (before : Content) (read : List (List ℕ)) → StandsBy o before read → max 1 (used_with o before.entries) ≡ 1 + lines_in before.entries
  used_max None before read s = let e = ap lines_in s.0 in omega arith
  used_max (Some head) before read s = omega arith

  fits : {State Op Query Reply : Type 0} (threads : ℕ) (heads : List LogHead) (befores : List Content) (scripts : List (List (Call State Op Query Reply))) (devices : List Device) (logs : List (LogState Device))
      → AreRoomy means threads befores scripts devices → AreOpen means heads befores devices logs → AreFit means threads scripts (map updates_in scripts) logs
  fits threads [] [] [] [] [] r a = tt
  fits threads [] [] [] [] (l ∷ logs) r a = absurd a
  fits threads [] [] [] (d ∷ devices) logs r a = absurd r
  fits threads [] [] (s ∷ scripts) devices logs r a = absurd r
  fits threads [] (b ∷ befores) scripts devices logs r a = absurd a
  fits threads (h ∷ heads) [] scripts devices logs r a = absurd a
  fits threads (h ∷ heads) (b ∷ befores) [] devices logs r a = absurd r
  fits threads (h ∷ heads) (b ∷ befores) (s ∷ scripts) [] logs r a = absurd r
  fits threads (h ∷ heads) (b ∷ befores) (s ∷ scripts) (d ∷ devices) [] r a = absurd a
  fits threads (h ∷ heads) (b ∷ befores) (s ∷ scripts) (d ∷ devices) (l ∷ logs) r a =
      let used = used_max b.head b (means d).read r.0.stands in
      let lines = opened_lines means b.head h d l.device a.0.on in
      let free : free_of (length (means l.device).read) l.entries ≡ length (means d).read - (1 + lines_in b.entries) =
      λ i. free_of (lines i) (a.0.entries i) in (
        omega arith,
        (let k = r.0.lines in omega arith),
        fits threads heads befores scripts devices logs r.1 a.1,
      )

  module _ {State Op Query Reply : Type 0} (heads : List LogHead) (befores : List Content) (scripts : List (List (Call State Op Query Reply))) (devices : List Device) (logs : List (LogState Device))
      (c : CanRun means heads befores scripts devices) (a : AreOpen means heads befores devices logs) where
    pub logs_long : length logs ≡ length scripts
    logs_long = open_long heads befores devices logs a ∙ c.many

    pub logs_are : AreLogs logs
    logs_are = λ i log e. let n : 0 + i ≡ i = omega arith in
        subst (λ (z : ℕ × ℕ). IsWholeLogOf z.0 z.1 log) (λ j. (sym logs_long j, n j)) (log_each (length scripts) 0 heads befores devices logs c.heads_are a i log e)

    -- they hold the nodes that they held before
    pub logs_merge : (nodes : List Node) → merge heads befores ≡ Ok nodes → merge (map head_held logs) (map content_held logs) ≡ Ok nodes
    logs_merge nodes merged =
        let e = entries_open heads befores devices logs a in
        ap (λ (hs : List LogHead). merge hs (map content_held logs)) (heads_open heads befores devices logs a)
        ∙ merge_filled heads befores (map content_held logs) nodes e.0 e.1 merged

    pub logs_fit : (threads : ℕ) → threads ≡ length logs → AreFit means threads scripts (map updates_in scripts) logs
    logs_fit threads is =
        subst (λ (n : ℕ). AreFit means n scripts (map updates_in scripts) logs) (sym logs_long ∙ sym is) (fits (length scripts) heads befores scripts devices logs c.devices_are a)

    -- each has a room, and the nodes that they hold leave it numbers
    pub rooms_long : length (map updates_in scripts) ≡ length logs
    rooms_long = length-map scripts updates_in ∙ sym logs_long

    pub rooms_fit : (nodes : List Node) → merge heads befores ≡ Ok nodes → HasRooms nodes (map updates_in scripts) most_updates
    rooms_fit nodes merged i room e =
        let both : Ok nodes ≡ Ok c.base.nodes = sym merged ∙ c.base.merged in
        let same : nodes ≡ c.base.nodes = (cc) in
        let n : 0 + i ≡ i = omega arith in
        subst (λ (z : ℕ × List Node). count_by (is_of_thread z.0) z.1 + room ≤ most_updates) (λ j. (n j, sym same j)) (rooms_each c.base.nodes 0 scripts c.base.numbers i room e)

-- ---- flags
-- each flag by itself
flags_each : {State Op Query Reply : Type 0} (ends : List (List (CallEnd State Op Query Reply))) (p : ℕ) (nodes : List Node) (flags : List Bool) → length flags ≡ length nodes
    → ((i : ℕ) → i < length nodes → (slice_index_or flags i false ≡ false) ↔ (failed_at ends (p + i + 1) ≡ true)) → flags ≡ flags_by ends p nodes
flags_each ends p [] [] l h = refl
flags_each ends p [] (f ∷ flags) l h = absurd (omega arith)
flags_each ends p (n ∷ nodes) [] l h = absurd (omega arith)
flags_each {State} {Op} {Query} {Reply} ends p (n ∷ nodes) (f ∷ flags) l h = λ i. (
    first f (failed_at ends (p + 1)) (subst (λ (k : ℕ). (f ≡ false) ↔ (failed_at ends k ≡ true)) here (h 0 (omega arith))) i
    ) ∷ flags_each ends (p + 1) nodes flags (omega arith) (λ j low. subst (λ (k : ℕ). (slice_index_or flags j false ≡ false) ↔ (failed_at ends k ≡ true)) (next j) (h (suc j) (omega arith))) i
  where
    here : p + 0 + 1 ≡ p + 1
    here = omega arith

    next : (j : ℕ) → p + suc j + 1 ≡ p + 1 + j + 1
    next j = omega arith

    first : (x y : Bool) → (x ≡ false) ↔ (y ≡ true) → x ≡ (if y then false else true)
    first true true e = absurd (let k : true ≡ false = e.1 refl in cc)
    first true false e = refl
    first false true e = refl
    first false false e = absurd (let k : false ≡ true = e.0 refl in cc)

pub flags_are : {State Op Query Reply : Type 0} (ends : List (List (CallEnd State Op Query Reply))) (nodes : List Node) (flags : List Bool) → length flags ≡ length nodes
    → ((p : ℕ) → 1 ≤ p → p ≤ length nodes → (is_available flags p ≡ false) ↔ (failed_at ends p ≡ true)) → flags ≡ flags_by ends 0 nodes
flags_are ends nodes flags l h = flags_each ends 0 nodes flags l (λ i low. subst (λ (k : ℕ). (slice_index_or flags i false ≡ false) ↔ (failed_at ends k ≡ true)) (let e : suc i ≡ 0 + i + 1 = omega arith in e) (h (suc i) (omega arith) (omega arith)))

-- ---- logs
module _ {State Op Query Reply Device : Type 0} (b : Behaviour State Op Query Reply) (means : Device → DeviceView) (onll : OnllView State) where
  abbrev before_log : ThreadRun State Op Query Reply Device → LogState Device
  before_log r = r.before.log

  abbrev after_left : ThreadRun State Op Query Reply Device → LogLeft
  after_left r = log_left means r.after.log

  heads_are : (t : ℕ) (heads : List LogHead) (befores : List Content) (devices : List Device) (runs : List (ThreadRun State Op Query Reply Device)) → AreOpen means heads befores devices (map before_log runs)
      → HaveRun b means onll t runs → map head_of (map after_of runs) ≡ heads
  heads_are t [] [] [] [] a w = refl
  heads_are t [] [] [] (r ∷ rs) a w = absurd a
  heads_are t [] [] (d ∷ devices) runs a w = absurd a
  heads_are t [] (k ∷ befores) devices runs a w = absurd a
  heads_are t (h ∷ heads) [] devices runs a w = absurd a
  heads_are t (h ∷ heads) (k ∷ befores) [] runs a w = absurd a
  heads_are t (h ∷ heads) (k ∷ befores) (d ∷ devices) [] a w = absurd a
  heads_are t (h ∷ heads) (k ∷ befores) (d ∷ devices) (r ∷ rs) a w = λ i. (w.1.gone_on.same.head ∙ a.0.head_is) i ∷ heads_are (t + 1) heads befores devices rs a.1 w.2 i

  -- how many nodes a thread has linked
  own_many : (script : List (Call State Op Query Reply)) (ends : List (CallEnd State Op Query Reply)) (old new : PassView State Device) → HasWorked b means onll script ends old new
      → length new.spot.me.own ≡ length (placed_updates b script ends)
  own_many script ends old new w = ap length (w.tied.lawful.told.own ∙ sym w.runs.legal.places)

  log_tells : (h : LogHead) (before : Content) (d : Device) (r : ThreadRun State Op Query Reply Device) → IsOpen means h before d r.before.log → IsNewcomer r.before → HasWorked b means onll r.script r.ends r.before r.after
      → LogTells h before (length (placed_updates b r.script r.ends)) (log_left means r.after.log)
  log_tells h before d r a n w =
      let holds = w.tied.holds in
      let own = own_many r.script r.ends r.before r.after w in
      let own0 = ap length n.own in
      let entries0 = ap length a.entries in
      let fences0 = a.fences in
      let entries1 = w.gone_on.entries in
      let fences1 = w.gone_on.fences in
      record {
        head_is = w.gone_on.same.head ∙ a.head_is;
        holds = ap content_of holds.read ∙ content_of-log_lines r.after.log.head r.after.log.entries (free_of (length (means r.after.log.device).read) r.after.log.entries) holds.fits holds.fit;
        zeros = ap (λ ls. are_zero_lines (drop (1 + lines_in r.after.log.entries) ls)) holds.read
            ∙ (ap are_zero_lines (drop_at (log_lines r.after.log.head r.after.log.entries) (zero_lines (free_of (length (means r.after.log.device).read) r.after.log.entries)) (1 + lines_in r.after.log.entries) (length-log_lines r.after.log.head r.after.log.entries))
            ∙ zeros_are (free_of (length (means r.after.log.device).read) r.after.log.entries));
        goes_on = subst (λ (ss : List Segment). IsPrefix ss r.after.log.entries) a.entries w.gone_on.goes_on;
        entries = omega arith;
        fences = omega arith;
      }

  logs_tell : (t : ℕ) (heads : List LogHead) (befores : List Content) (devices : List Device) (runs : List (ThreadRun State Op Query Reply Device)) → AreOpen means heads befores devices (map before_log runs)
      → AllByRecursion IsNewcomer (map before_of runs) → HaveRun b means onll t runs
      → LogsTell b heads befores (map script_of runs) (map ends_of runs) (map after_left runs)
  logs_tell t [] [] [] [] a n w = tt
  logs_tell t [] [] [] (r ∷ rs) a n w = absurd a
  logs_tell t [] [] (d ∷ devices) runs a n w = absurd a
  logs_tell t [] (k ∷ befores) devices runs a n w = absurd a
  logs_tell t (h ∷ heads) [] devices runs a n w = absurd a
  logs_tell t (h ∷ heads) (k ∷ befores) [] runs a n w = absurd a
  logs_tell t (h ∷ heads) (k ∷ befores) (d ∷ devices) [] a n w = absurd a
  logs_tell t (h ∷ heads) (k ∷ befores) (d ∷ devices) (r ∷ rs) a n w = (log_tells h k d r a.0 n.0 w.1, logs_tell (t + 1) heads befores devices rs a.1 n.1 w.2)

  -- the words of a device that are fenced
  fenced_are : (k : Option ℕ) (log : LogState Device) (script : List (Call State Op Query Reply)) (ends : List (CallEnd State Op Query Reply)) (old new : PassView State Device) → HasWorked b means onll script ends old new
      → k ≡ new.broken → ToldSettled (means new.log.device).told (fenced_in (log_left means new.log) k)
  fenced_are None log script ends old new w e = w.tied.holds.settled (w.tied.broken ∙ ap is_some (sym e))
  fenced_are (Some p) log script ends old new w e = w.tied.holds.pending (w.tied.broken ∙ ap is_some (sym e))

  log_kept : (h : LogHead) (before : Content) (d : Device) (r : ThreadRun State Op Query Reply Device) → CanOpen means h before d → IsOpen means h before d r.before.log → IsNewcomer r.before → HasWorked b means onll r.script r.ends r.before r.after
      → IsKeptLog means before r.ends d r.after.log
  log_kept h before d r can a n w =
      let own0 = ap length n.own in
      let fences0 = a.fences in
      let fences1 = w.gone_on.fences in
      let count0 = open_fences means h before d r.before.log can.fences a in
      let count1 = w.gone_on.count in
      let faults0 = can.faults in
      let faults1 = opened_faults means before.head h d r.before.log.device a.on in
      let faults2 = w.gone_on.faults in
      let whole : fault_in r.before.broken ≡ 0 = ap fault_in n.whole in
      let failed : fault_in (failed_in r.ends) ≡ fault_in r.after.broken = ap fault_in w.runs.failed in
      record {
        fenced = fenced_are (failed_in r.ends) r.after.log r.script r.ends r.before r.after w w.runs.failed;
        broken = w.tied.broken ∙ ap is_some (sym w.runs.failed);
        fences = omega arith;
        faults = omega arith;
        lines = w.gone_on.lines ∙ opened_lines means before.head h d r.before.log.device a.on;
      }

  logs_kept : (t : ℕ) (heads : List LogHead) (befores : List Content) (devices : List Device) (runs : List (ThreadRun State Op Query Reply Device)) → AllCanOpen means heads befores devices → AreOpen means heads befores devices (map before_log runs)
      → AllByRecursion IsNewcomer (map before_of runs) → HaveRun b means onll t runs → AreKeptLogs means befores (map ends_of runs) devices (map log_of (map after_of runs))
  logs_kept t [] [] [] [] can a n w = tt
  logs_kept t [] [] [] (r ∷ rs) can a n w = absurd a
  logs_kept t [] [] (d ∷ devices) runs can a n w = absurd a
  logs_kept t [] (k ∷ befores) devices runs can a n w = absurd a
  logs_kept t (h ∷ heads) [] devices runs can a n w = absurd a
  logs_kept t (h ∷ heads) (k ∷ befores) [] runs can a n w = absurd a
  logs_kept t (h ∷ heads) (k ∷ befores) (d ∷ devices) [] can a n w = absurd a
  logs_kept t (h ∷ heads) (k ∷ befores) (d ∷ devices) (r ∷ rs) can a n w = (log_kept h k d r can.0 a.0 n.0 w.1, logs_kept (t + 1) heads befores devices rs can.1 a.1 n.1 w.2)

  contents_are : (runs : List (ThreadRun State Op Query Reply Device)) → map content_in (map after_left runs) ≡ map content_of_pass (map after_of runs)
  contents_are [] = refl
  contents_are (r ∷ rs) = ap (λ (l : List Content). content_of_pass r.after ∷ l) (contents_are rs)

  lefts_are : (runs : List (ThreadRun State Op Query Reply Device)) → map after_left runs ≡ map (log_left means) (map log_of (map after_of runs))
  lefts_are [] = refl
  lefts_are (r ∷ rs) = ap (λ (l : List LogLeft). log_left means r.after.log ∷ l) (lefts_are rs)

  befores_are : (runs : List (ThreadRun State Op Query Reply Device)) → map before_log runs ≡ map log_of (map before_of runs)
  befores_are [] = refl
  befores_are (r ∷ rs) = ap (λ (l : List (LogState Device)). r.before.log ∷ l) (befores_are rs)

  -- what was run, of what was done
  passes_before : (ss : List (List (Call State Op Query Reply))) (ps : List (PassView State Device)) (ws : List (WorkerEnd State Device Op Query Reply)) → AreDone b means onll ss ps ws
      → map before_of (runs_of ss ps ws) ≡ ps
  passes_before [] [] [] d = refl
  passes_before [] [] (w ∷ ws) d = absurd d
  passes_before [] (p ∷ ps) ws d = absurd d
  passes_before (s ∷ ss) [] ws d = absurd d
  passes_before (s ∷ ss) (p ∷ ps) [] d = absurd d
  passes_before (s ∷ ss) (p ∷ ps) (w ∷ ws) d = ap (λ (l : List (PassView State Device)). p ∷ l) (passes_before ss ps ws d.2)

  ends_are : (ss : List (List (Call State Op Query Reply))) (ps : List (PassView State Device)) (ws : List (WorkerEnd State Device Op Query Reply)) → AreDone b means onll ss ps ws
      → map ends_of (runs_of ss ps ws) ≡ map ends_done ws
  ends_are [] [] [] d = refl
  ends_are [] [] (w ∷ ws) d = absurd d
  ends_are [] (p ∷ ps) ws d = absurd d
  ends_are (s ∷ ss) [] ws d = absurd d
  ends_are (s ∷ ss) (p ∷ ps) [] d = absurd d
  ends_are (s ∷ ss) (p ∷ ps) (w ∷ ws) d = ap (λ (l : List (List (CallEnd State Op Query Reply))). w.ends.items ∷ l) (ends_are ss ps ws d.2)

  pub scripts_done : (ss : List (List (Call State Op Query Reply))) (ps : List (PassView State Device)) (ws : List (WorkerEnd State Device Op Query Reply)) → AreDone b means onll ss ps ws
      → map script_done ws ≡ ss
  scripts_done [] [] [] d = refl
  scripts_done [] [] (w ∷ ws) d = absurd d
  scripts_done [] (p ∷ ps) ws d = absurd d
  scripts_done (s ∷ ss) [] ws d = absurd d
  scripts_done (s ∷ ss) (p ∷ ps) [] d = absurd d
  scripts_done (s ∷ ss) (p ∷ ps) (w ∷ ws) d = λ i. d.0 i ∷ scripts_done ss ps ws d.2 i

  -- the passes that the object begins with are ready for the scripts
  module _ (heads : List LogHead) (befores : List Content) (scripts : List (List (Call State Op Query Reply))) (devices : List Device) (logs : List (LogState Device)) (rooms : List ℕ) (passes : List (PassView State Device))
      (can : CanRun means heads befores scripts devices) (open_ : AreOpen means heads befores devices logs) (h : HasBegun b means onll logs rooms passes) where
    passes_many : length passes ≡ length logs
    passes_many = sym (length-map passes log_of) ∙ ap length h.logs_are

    pub passes_long : length scripts ≡ length passes
    passes_long = sym (logs_long means heads befores scripts devices logs can open_) ∙ sym passes_many

    pub passes_ready : rooms ≡ map updates_in scripts → AreReadyPasses b means onll scripts passes
    passes_ready is =
        let threads : onll.trace.plan.threads ≡ length logs = sym h.all.count ∙ (length-map passes spot_of ∙ passes_many) in
        ready_all b means onll logs rooms scripts passes h
        (subst (λ (ns : List ℕ). AreFit means onll.trace.plan.threads scripts ns logs) (sym is) (logs_fit means heads befores scripts devices logs can open_ onll.trace.plan.threads threads))

    pub passes_ended : (all : List (WorkerEnd State Device Op Query Reply)) → AreDone b means onll scripts passes all → CanEnd b means onll scripts passes all
    passes_ended all done = passes_end b means onll logs rooms scripts passes all (logs_are means heads befores scripts devices logs can open_) h done

-- ---- the whole trace
-- nodes and flags, of both together
nodes_in : (xs : List Node) (fs : List Bool) → length fs ≡ length xs → map node_in (ended_of xs fs) ≡ xs
nodes_in [] fs l = refl
nodes_in (x ∷ xs) [] l = absurd (omega arith)
nodes_in (x ∷ xs) (f ∷ fs) l = ap (λ (z : List Node). x ∷ z) (nodes_in xs fs (omega arith))

flags_in : (xs : List Node) (fs : List Bool) → length fs ≡ length xs → map flag_in (ended_of xs fs) ≡ fs
flags_in [] [] l = refl
flags_in [] (f ∷ fs) l = absurd (omega arith)
flags_in (x ∷ xs) [] l = absurd (omega arith)
flags_in (x ∷ xs) (f ∷ fs) l = ap (λ (z : List Bool). f ∷ z) (flags_in xs fs (omega arith))

-- of the nodes from which a trace went on, all available, and those above them
nodes_whole : (base trace : List Node) (flags : List Bool) → length flags ≡ length trace → take (length base) trace ≡ base
    → map node_in (available base ++ ended_of (drop (length base) trace) (drop (length base) flags)) ≡ trace
nodes_whole [] trace flags l e = nodes_in trace flags l
nodes_whole (x ∷ base) [] flags l e = absurd (let n = ap length e in omega arith)
nodes_whole (x ∷ base) (y ∷ trace) [] l e = absurd (omega arith)
nodes_whole (x ∷ base) (y ∷ trace) (f ∷ flags) l e =
    λ i. sym (same_cons y x (take (length base) trace) base e).0 i ∷ nodes_whole base trace flags (omega arith) (same_cons y x (take (length base) trace) base e).1 i

flags_whole : (base trace : List Node) (flags : List Bool) → length flags ≡ length trace → length base ≤ length trace → ((i : ℕ) → i < length base → slice_index_or flags i false ≡ true)
    → map flag_in (available base ++ ended_of (drop (length base) trace) (drop (length base) flags)) ≡ flags
flags_whole [] trace flags l low h = flags_in trace flags l
flags_whole (x ∷ base) [] flags l low h = absurd (omega arith)
flags_whole (x ∷ base) (y ∷ trace) [] l low h = absurd (omega arith)
flags_whole (x ∷ base) (y ∷ trace) (f ∷ flags) l low h =
    λ i. sym (h 0 (omega arith)) i ∷ flags_whole base trace flags (omega arith) (omega arith) (λ k small. h (suc k) (omega arith)) i

-- ---- what is left
-- what the call left, as data
abbrev pub left_with : {State Op Query Reply Device : Type 0} → (Device → DeviceView) → List (List (CallEnd State Op Query Reply)) → List Ended → List (LogState Device) → AfterRun State Op Query Reply
left_with means ends trace logs = record { ends = ends; nodes = map node_in trace; flags = map flag_in trace; logs = map (log_left means) logs }

-- what is promised of it
pub record Leaves {State Op Query Reply Device : Type 0} (b : Behaviour State Op Query Reply) (means : Device → DeviceView) (state : State) (heads : List LogHead) (befores : List Content)
    (scripts : List (List (Call State Op Query Reply))) (devices : List Device) (ends : List (List (CallEnd State Op Query Reply))) (trace : List Ended) (logs : List (LogState Device)) : Type 0 where
  pub run : (nodes : List Node) → merge heads befores ≡ Ok nodes → HasRun b (going_on state heads nodes befores scripts) (left_with means ends trace logs)
  pub kept : AreKeptLogs means befores ends devices logs

module _ {State Op Query Reply Device : Type 0} (b : Behaviour State Op Query Reply) (means : Device → DeviceView) (onll : OnllView State)
    (state : State) (heads : List LogHead) (befores : List Content) (scripts : List (List (Call State Op Query Reply))) (devices : List Device) (logs : List (LogState Device)) (rooms : List ℕ) (nodes : List Node)
    (passes : List (PassView State Device)) (all : List (WorkerEnd State Device Op Query Reply)) (first : onll.first ≡ state) (base : onll.trace.plan.base ≡ nodes)
    (can : CanRun means heads befores scripts devices) (open_ : AreOpen means heads befores devices logs) (held : merge heads befores ≡ Ok nodes)
    (h : HasBegun b means onll logs rooms passes) (done : AreDone b means onll scripts passes all) where
  abbrev runs : List (ThreadRun State Op Query Reply Device)
  runs = runs_of scripts passes all

  abbrev from : Base
  from = record { nodes = nodes; logs = befores }

  ended : CanEnd b means onll scripts passes all
  ended = passes_end b means onll logs rooms scripts passes all (logs_are means heads befores scripts devices logs can open_) h done

  over : AreOpen means heads befores devices (map (λ (r : ThreadRun State Op Query Reply Device). r.before.log) runs)
  over = subst (AreOpen means heads befores devices) (sym (befores_are b means onll runs ∙ (ap (map log_of) (passes_before b means onll scripts passes all done) ∙ h.logs_are))) open_

  new : AllByRecursion IsNewcomer (map before_of runs)
  new = subst (AllByRecursion IsNewcomer) (sym (passes_before b means onll scripts passes all done)) h.whole

  module _ (above : List Ended) (closed : HasClosed onll.trace (map after_of runs) above) where
    whole : IsWholeRun b means onll from above runs closed
    whole = run_whole b means onll from above runs ended.have_run (sym base) ended.many closed

    has_run : HasRun b (plan_of b means onll from runs) (left_of b means onll above runs closed)
    has_run = record {
      legal = whole.legal;
      over = whole.over;
      flags = flags_are (map ends_of runs) closed.ended.frame.trace closed.ended.frame.flags closed.ended.sound.sound.flags whole.flags;
      logs = subst (λ (hs : List LogHead). LogsTell b hs befores (map script_of runs) (map ends_of runs)
          (map (λ (r : ThreadRun State Op Query Reply Device). log_left means r.after.log) runs))
          (sym (heads_are b means onll 0 heads befores devices runs over ended.have_run)) (logs_tell b means onll 0 heads befores devices runs over new ended.have_run);
      merged = ap (merge (map head_of (map after_of runs))) (contents_are b means onll runs) ∙ closed.merged;
      crash = whole.crash;
    }

    -- what is run, and what is left, as the caller has them
    plan_is : plan_of b means onll from runs ≡ going_on state heads nodes befores scripts
    plan_is = λ i. record { state = first i; scripts = ended.scripts_are i; heads = heads_are b means onll 0 heads befores devices runs over ended.have_run i; base = from }

    place_is : base_place onll.trace.plan ≡ length nodes
    place_is = ap length base

    above_are : above ≡ ended_of (drop (length nodes) closed.ended.frame.trace) (drop (length nodes) closed.ended.frame.flags)
    above_are = closed.ended.ends_are ∙ ap (λ (n : ℕ). ended_of (drop n closed.ended.frame.trace) (drop n closed.ended.frame.flags)) place_is

    long : length closed.ended.frame.flags ≡ length closed.ended.frame.trace
    long = closed.ended.sound.sound.flags

    front : take (length nodes) closed.ended.frame.trace ≡ nodes
    front = ap (λ (n : ℕ). take n closed.ended.frame.trace) (sym place_is) ∙ (closed.ended.base ∙ base)

    available_front : (i : ℕ) → i < length nodes → slice_index_or closed.ended.frame.flags i false ≡ true
    available_front i low = closed.ended.sound.based.available (suc i) (let p = place_is in omega arith)

    left_is : (ends : List (List (CallEnd State Op Query Reply))) (trace : List Ended) (after : List (LogState Device)) → ends ≡ map ends_done all → trace ≡ available nodes ++ above → after ≡ map log_of (map pass_done all)
        → left_of b means onll above runs closed ≡ left_with means ends trace after
    left_is ends trace after e t l = λ i. record {
      ends = (ends_are b means onll scripts passes all done ∙ sym e) i;
      nodes = sym (ap (map node_in) (t ∙ ap (λ (es : List Ended). available nodes ++ es) above_are) ∙ nodes_whole nodes closed.ended.frame.trace closed.ended.frame.flags long front) i;
      flags = sym (ap (map flag_in) (t ∙ ap (λ (es : List Ended). available nodes ++ es) above_are)
          ∙ flags_whole nodes closed.ended.frame.trace closed.ended.frame.flags long (let low = closed.ended.sound.based.long in let p = place_is in omega arith) available_front) i;
      logs = (lefts_are b means onll runs ∙ ap (map (log_left means)) (ap (map log_of) ended.passes_are ∙ sym l)) i;
    }

  leaves_with : (ends : List (List (CallEnd State Op Query Reply))) (trace above : List Ended) (after : List (LogState Device)) → ends ≡ map ends_done all → trace ≡ available nodes ++ above → after ≡ map log_of (map pass_done all)
      → HasClosed onll.trace (map pass_done all) above → HasRun b (going_on state heads nodes befores scripts) (left_with means ends trace after)
  leaves_with ends trace above after e t l closed =
      let closed0 : HasClosed onll.trace (map after_of runs) above = subst (λ (ps : List (PassView State Device)). HasClosed onll.trace ps above) (sym ended.passes_are) closed in
      subst (λ (z : ScriptPlan State Op Query Reply × AfterRun State Op Query Reply). HasRun b z.0 z.1) (λ i. (plan_is above closed0 i, left_is above closed0 ends trace after e t l i)) (has_run above closed0)

  pub run_leaves : (ends : List (List (CallEnd State Op Query Reply))) (trace : List Ended) (after : List (LogState Device)) → ends ≡ map ends_done all → after ≡ map log_of (map pass_done all)
      → (above : List Ended) × (trace ≡ available nodes ++ above) × HasClosed onll.trace (map pass_done all) above → Leaves b means state heads befores scripts devices ends trace after
  run_leaves ends trace after e l made =
      record {
        run = λ found is.
            let both : Ok nodes ≡ Ok found = sym held ∙ is in
            let same : nodes ≡ found = cc in
            subst (λ (ns : List Node). HasRun b (going_on state heads ns befores scripts) (left_with means ends trace after)) same (leaves_with ends trace made.0 after e made.1 l made.2);
        kept = subst (λ (z : List (List (CallEnd State Op Query Reply)) × List (LogState Device)). AreKeptLogs means befores z.0 devices z.1)
            (λ i. ((ends_are b means onll scripts passes all done ∙ sym e) i, (ap (map log_of) ended.passes_are ∙ sym l) i))
            (logs_kept b means onll 0 heads befores devices runs (can_open means heads befores scripts devices can) over new ended.have_run);
      }

-- ---- the same of scripts that were done
module _ {State Op Query Reply Device : Type 0} (b : Behaviour State Op Query Reply) (means : Device → DeviceView) (state : State) (heads : List LogHead) (befores : List Content)
    (scripts : List (List (Call State Op Query Reply))) (devices : List Device) (nodes : List Node) (onll : OnllView State) (all : List (WorkerEnd State Device Op Query Reply))
    (can : CanRun means heads befores scripts devices) (d : HaveDone b means state heads befores scripts devices nodes onll all) where
  pub done_ended : CanEnd b means onll scripts d.passes all
  done_ended = passes_ended b means onll heads befores scripts devices d.logs d.rooms d.passes can d.open_on d.begun all d.done

  pub scripts_were : map script_done all ≡ scripts
  scripts_were = scripts_done b means onll scripts d.passes all d.done

  pub done_leaves : (ends : List (List (CallEnd State Op Query Reply))) (trace : List Ended) (after : List (LogState Device)) → ends ≡ map ends_done all → after ≡ map log_of (map pass_done all)
      → (above : List Ended) × (trace ≡ available nodes ++ above) × HasClosed onll.trace (map pass_done all) above → Leaves b means state heads befores scripts devices ends trace after
  done_leaves = run_leaves b means onll state heads befores scripts devices d.logs d.rooms nodes d.passes all d.first d.base can d.open_on d.held d.begun d.done
