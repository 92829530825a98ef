use Rattle.std.proofs.Common.{ℕ, suc, ◌≡◌, ◌+◌, ◌*◌, ◌≤◌, inr, true, List, [], ◌∷◌, ◌++◌, length, map, take, drop, replicate, Some, None, sym, refl, ap, ◌∙◌, subst, arith, count_by}
use Rattle.std.specs.List.{AllByRecursion, slice_get}
use Rattle.onll_model.specs.declared.node.Node.{Node}
use Rattle.onll_model.specs.Trace.{is_of_thread}
use Rattle.onll_model.specs.Segment.{Segment}
use Rattle.onll_model.specs.Frames.{resumed_thread, resumed_frame}
use Rattle.onll_model.specs.FrameLaws.{SoundOver, IsResumable}
use Rattle.onll_model.proofs.Lists.{inside, present}
use Rattle.onll_model.proofs.FirstFrames.{resumed_sound}
use Rattle.onll_model.specs.Calls.{updates_in}
use Rattle.onll_pmem.specs.Device.{DeviceState, zero_lines, line_at}
use Rattle.onll_log.specs.declared.head.LogHead.{LogHead}
use Rattle.onll_log.specs.Encoding.{log_lines, FitEntries}
use Rattle.onll_log.specs.Grammar.{lines_in}
use Rattle.onll_core.specs.declared.phase.Phase.{Phase}
use Rattle.onll_core.specs.declared.phase.Phase.TheVariants as phases
use Rattle.onll_core.specs.declared.returned.Returned.{Returned}
use Rattle.onll_core.specs.Core.{CoreThread, CoreState}
use Rattle.onll_core.specs.CoreFrame.{seen_in, pending_in, activity_in, fenced_entries, frame_thread, frame_of}
use Rattle.onll_core.specs.Tie.{updates_to_link, IsTiedDevice}
use Rattle.onll_core.specs.Consistent.{EachCoreThread, IsConsistent}
use Rattle.onll_core.specs.First.{IsHeadOf}
use Rattle.onll_core.specs.Fences.{fenced_in, updates_returned, CountsFences}
use Rattle.onll_core.proofs.Ties.{fenced_is_log}

-- A core before its first step, one that begins anew or one that goes on from logs that were recovered, is consistent.

-- a device that holds a log with these entries, and this many lines of zeros after it, all of them fenced
pub record DeviceHolds (head : LogHead) (log : List Segment) (free : ℕ) (device : DeviceState) : Type 0 where
  pub fenced : device.fenced ≡ log_lines head log ++ zero_lines free
  pub read : device.read ≡ log_lines head log ++ zero_lines free
  pub marks : length device.backed ≡ length device.read

-- A thread that has done nothing: its device holds its log, and has room for a whole entry of each update. It has made
-- no fence but, at most, its head's.
pub record HasBegun {State Op Query Reply : Type 0} (count t : ℕ) (base : List Node) (log : List Segment) (th : CoreThread State Op Query Reply) : Type 0 where
  pub head : IsHeadOf count t th.head
  pub fits : FitEntries th.head.threads log
  pub returned : th.returned ≡ []
  pub phase : th.phase ≡ phases.Idle
  pub used : th.used ≡ suc (lines_in log)
  pub logged : th.logged ≡ length log
  pub device : DeviceHolds th.head log (updates_in th.script * suc th.head.threads) th.device
  pub fenced : th.device.fences ≡ th.before
  pub low : th.before ≤ 1
  -- with those of the base it has no more than 4,096 updates
  pub names : count_by (is_of_thread t) base + updates_in th.script ≤ 4096

-- no thread has done anything, and the trace is the base, which these logs hold
pub record IsBegun {State Op Query Reply : Type 0} (count : ℕ) (logs : List (List Segment)) (c : CoreState State Op Query Reply) : Type 0 where
  pub few : count ≤ 16
  pub base : c.base ≡ length c.trace
  pub flags : c.flags ≡ replicate (length c.trace) true
  pub rows : AllByRecursion (λ (n : Node). length n.row.w ≡ 7) c.trace
  pub resumable : IsResumable count c.trace logs
  pub all_threads : length c.threads ≡ count
  pub begun : EachCoreThread c (λ t th. (log : List Segment) → slice_get logs t ≡ Some log → HasBegun count t c.trace log th)

-- lists that agree place by place
same_maps : {A B C : Type 0} (f : A → C) (g : B → C) (xs : List A) (ys : List B) → length xs ≡ length ys → ((i : ℕ) (x : A) (y : B) → slice_get xs i ≡ Some x → slice_get ys i ≡ Some y → f x ≡ g y) → map f xs ≡ map g ys
same_maps f g [] [] e h = refl
same_maps f g [] (y ∷ ys) e h = absurd (omega arith)
same_maps f g (x ∷ xs) [] e h = absurd (omega arith)
same_maps f g (x ∷ xs) (y ∷ ys) e h = let a = h 0 x y refl refl in let b = same_maps f g xs ys (omega arith) (λ i z w p q. h (suc i) z w p q) in λ i. a i ∷ b i

module _ {State Op Query Reply : Type 0} (count t : ℕ) (base : List Node) (log : List Segment) (th : CoreThread State Op Query Reply) (h : HasBegun count t base log th) where
  all_to_come : updates_in (drop (length th.returned) th.script) ≡ updates_in th.script
  all_to_come = ap (λ (rs : List (Returned State Op Query Reply)). updates_in (drop (length rs) th.script)) h.returned

  begun_tie : (tie : IsTiedDevice count t None th phases.Idle) × (tie.log ≡ log)
  begun_tie =
      let free : ℕ = updates_in th.script * suc th.head.threads in
      let d = h.device in
      let same : th.device.read ≡ th.device.fenced = d.read ∙ sym d.fenced in
      let f = h.fenced in
      let l = h.low in (
        record {
          log = log;
          free = free;
          head = h.head.fits;
          own = (h.head.thread, h.head.threads, h.head.format);
          fits = h.fits;
          entries = h.logged;
          lines = h.used;
          in_entry = tt;
          fenced = d.fenced ∙ (let z : free ≡ 0 + free = omega arith in ap (λ (n : ℕ). log_lines th.head log ++ zero_lines n) z);
          read = d.read;
          marks = d.marks;
          backed = λ line _. inr (ap (λ (l : List (List ℕ)). line_at l line) same);
          fences = omega arith;
          room = subst (λ (n : ℕ). n * suc th.head.threads ≤ 0 + free) (sym all_to_come) (omega arith);
          space = omega arith;
        },
        refl,
      )

  begun_part : (b : ℕ) (trace : List Node) → frame_thread b trace th ≡ resumed_thread b log
  begun_part b trace =
      let e : fenced_entries th.head th.device ≡ log = fenced_is_log count t th None phases.Idle begun_tie.0 ∙ begun_tie.1 in
      let returned = h.returned in
      let phase = h.phase in
      λ i. record { seen = seen_in b (returned i); fenced = e i; pending = pending_in trace (phase i); stuck = None; activity = activity_in (phase i) }

  begun_tied : IsTiedDevice count t (pending_in base th.phase) th th.phase
  begun_tied = subst (λ (z : Phase). IsTiedDevice count t (pending_in base z) th z) (sym h.phase) begun_tie.0

  begun_numbers : count_by (is_of_thread t) base + updates_to_link th th.phase ≤ 4096
  begun_numbers = subst (λ (z : Phase). count_by (is_of_thread t) base + updates_to_link th z ≤ 4096) (sym h.phase) (let a = all_to_come in let n = h.names in omega arith)

  begun_fences : th.device.fences ≡ th.before + (updates_returned th + fenced_in th.phase)
  begun_fences =
      let none : updates_returned th ≡ 0 = ap (λ (rs : List (Returned State Op Query Reply)). updates_in (take (length rs) th.script)) h.returned in
      let rest : fenced_in th.phase ≡ 0 = ap fenced_in h.phase in
      let f = h.fenced in
      omega arith

module _ {State Op Query Reply : Type 0} (count : ℕ) (logs : List (List Segment)) (c : CoreState State Op Query Reply) (b : IsBegun count logs c) where
  -- each thread has its log
  log_of : (t : ℕ) (th : CoreThread State Op Query Reply) → slice_get c.threads t ≡ Some th → (log : List Segment) × HasBegun count t c.trace log th
  log_of t th at =
      let n = b.all_threads in
      let m = b.resumable.threads in
      let i = inside c.threads t th at in
      let x = present logs t (omega arith) in
      (x.0, b.begun t th at x.0 x.1)

  begun_frame : frame_of c ≡ resumed_frame c.trace logs
  begun_frame =
      let flags = b.flags in
      let base = b.base in
      let parts : map (frame_thread c.base c.trace) c.threads ≡ map (resumed_thread c.base) logs = same_maps (frame_thread c.base c.trace) (resumed_thread c.base) c.threads logs (b.all_threads ∙ sym b.resumable.threads)
      (λ t th log at here. begun_part count t c.trace log th (b.begun t th at log here) c.base c.trace) in
      (λ i. record { trace = c.trace; flags = flags i; threads = parts i; notes = [] }) ∙ ap (λ (n : ℕ). record { trace = c.trace; flags = replicate (length c.trace) true; threads = map (resumed_thread n) logs; notes = [] }) base

  pub begun_consistent : IsConsistent count c
  begun_consistent =
      let s : SoundOver count c.base (frame_of c) = subst (λ (n : ℕ). SoundOver count n (frame_of c)) (sym b.base) (subst (SoundOver count (length c.trace)) (sym begun_frame) (resumed_sound count c.trace logs b.resumable)) in
      record {
        sound = s.sound;
        based = s.based;
        rows = b.rows;
        few = b.few;
        numbers = λ t th at. let x = log_of t th at in begun_numbers count t c.trace x.0 th x.1;
        tied = λ t th at. let x = log_of t th at in begun_tied count t c.trace x.0 th x.1;
      }

  pub begun_counts : CountsFences c
  begun_counts t th at = let x = log_of t th at in begun_fences count t c.trace x.0 th x.1
