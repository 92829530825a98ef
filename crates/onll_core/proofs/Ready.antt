use Rattle.std.proofs.Common.{ℕ, zero, suc, ◌≡◌, ◌+◌, ◌-◌, ◌*◌, ◌<◌, ◌≤◌, List, [], ◌∷◌, ◌++◌, length, Option, Some, option_to_list, sym, refl, ap, ◌∙◌, subst, arith, count_by, length-append}
use Rattle.std.specs.List.{AllByRecursion, slice_get}
use mathlib.Core.Logic.{dite}
use native.Mathlib.Decide.{ℕ_discrete}
use Rattle.onll_words.specs.declared.line.OpRow.{OpRow}
use Rattle.onll_model.specs.declared.node.Node.{Node}
use Rattle.onll_model.specs.declared.call.Call.TheVariants.{Update}
use Rattle.onll_model.specs.Trace.{is_of_thread}
use Rattle.onll_model.specs.Segment.{Segment, Rises}
use Rattle.onll_model.specs.Frames.{Thread, IsSoundSegment, fenced_segments, segments_of, open_in, Follows}
use Rattle.onll_model.specs.Events.{window, next_node}
use Rattle.onll_model.proofs.Lists.{all_map, all_append, inside}
use Rattle.onll_model.proofs.Traces.{node_place, count_own, count_other}
use Rattle.onll_model.proofs.Counting.{few_in_all}
use Rattle.onll_pmem.specs.Device.{line_at, FillsWords}
use Rattle.onll_log.specs.Head.{FitsHead}
use Rattle.onll_log.specs.Encoding.{entry_lines, log_lines, FitsEntry, FitEntries}
use Rattle.onll_log.specs.Grammar.{lines_in}
use Rattle.onll_log.specs.Torn.{IsLine}
use Rattle.onll_log.proofs.Lines.{AreLines-entry_lines}
use Rattle.onll_log.proofs.Encoded.{length-entry_lines}
use Rattle.onll_log.proofs.Append.{FillsWords-written_front}
use Rattle.onll_core.specs.declared.phase.Phase.{Phase}
use Rattle.onll_core.specs.declared.phase.Phase.TheVariants as phases
use Rattle.onll_core.specs.Core.{CoreThread, CoreState}
use Rattle.onll_core.specs.CoreFrame.{seen_in, pending_in, activity_in, thread_at, frame_thread, frame_of}
use Rattle.onll_core.specs.Step.{line_of_entry, next_call}
use Rattle.onll_core.specs.Tie.{written_in, lines_needed, updates_to_link, IsTiedDevice}
use Rattle.onll_core.specs.Entries.{EntriesAreFew}
use Rattle.onll_core.specs.Consistent.{IsConsistent}
use Rattle.onll_core.proofs.Calls.{update_left}
use Rattle.onll_core.proofs.CoreFrames.{part_at}
use Rattle.onll_core.proofs.Windows.{window_of, few_of_thread, places, threads_count}
use Rattle.onll_core.proofs.Ties.{fenced_is_log, as_front, next_line, length_read}

-- What a step of a consistent core finds, by its kind: its places lie in the trace, its line in the device, and each number
-- fits a word.

-- what holds of every state: the counts of threads and places, and how much of a log is used
pub record IsSmall {State Op Query Reply : Type 0} (count : ℕ) (c : CoreState State Op Query Reply) (t : ℕ) (th : CoreThread State Op Query Reply) : Type 0 where
  pub thread : t < count
  pub threads : length c.threads ≡ count
  pub flags : length c.flags ≡ length c.trace
  pub places : length c.trace ≤ 65536
  pub base : c.base ≤ length c.trace
  pub nodes : count_by (is_of_thread t) c.trace ≤ 4096
  pub logged : th.logged ≤ length c.trace
  -- an entry takes up to 17 lines
  pub used : th.used ≤ 1 + 17 * 65536
  pub fences : th.device.fences ≤ suc th.logged

-- the own node may be linked
pub record MayLink {State Op Query Reply : Type 0} (c : CoreState State Op Query Reply) (t front : ℕ) : Type 0 where
  pub loaded : front ≤ length c.trace
  pub place : length c.trace + 1 ≤ 65536
  pub number : count_by (is_of_thread t) c.trace + 1 ≤ 4096

-- the flag at the place may be loaded
pub record MayWalk {State Op Query Reply : Type 0} (c : CoreState State Op Query Reply) (place next : ℕ) : Type 0 where
  pub from_one : 1 ≤ next
  pub below : next < place
  pub in_trace : place ≤ length c.trace

-- the entry of the nodes above `below` up to `place` fits the log and the device
pub record FitsLog {State Op Query Reply : Type 0} (count : ℕ) (c : CoreState State Op Query Reply) (t : ℕ) (th : CoreThread State Op Query Reply) (place below : ℕ) : Type 0 where
  pub head : FitsHead th.head
  pub own : th.head.thread ≡ t
  pub threads : th.head.threads ≡ count
  pub format : th.head.format ≡ 2
  pub entry : FitsEntry th.head.threads (window c.trace below place)
  pub nodes : length (window c.trace below place).nodes ≡ place - below
  pub lower : below < place
  pub few : place - below ≤ count
  pub in_trace : place ≤ length c.trace
  pub lines : th.used + suc (place - below) ≤ length th.device.read

-- the entry's line of this number may be written
pub record MayWrite {State Op Query Reply : Type 0} (c : CoreState State Op Query Reply) (th : CoreThread State Op Query Reply) (place below line : ℕ) : Type 0 where
  pub number : line ≤ place - below
  pub within : th.used + line < length th.device.read
  pub fills : FillsWords (line_at th.device.read (th.used + line)) (line_of_entry th c.trace place below line)

-- or written back
pub record MayWriteBack {State Op Query Reply : Type 0} (th : CoreThread State Op Query Reply) (place below line : ℕ) : Type 0 where
  pub number : line ≤ place - below
  pub within : th.used + line < length th.device.read

-- the own flag may be set
pub record MaySet {State Op Query Reply : Type 0} (c : CoreState State Op Query Reply) (place : ℕ) : Type 0 where
  pub from_one : 1 ≤ place
  pub in_trace : place ≤ length c.trace

-- a read may load the flag at the place
pub record MayLook {State Op Query Reply : Type 0} (c : CoreState State Op Query Reply) (front next : ℕ) : Type 0 where
  pub from_one : 1 ≤ next
  pub below : next ≤ front
  pub in_trace : front ≤ length c.trace

-- ---- entries
-- no entry, fenced or being written, holds more nodes than there are threads
pub entries_few : {State Op Query Reply : Type 0} (count : ℕ) (c : CoreState State Op Query Reply) → IsConsistent count c → EntriesAreFew count c
entries_few count c k t th at =
    let v : Thread = frame_thread c.base c.trace th in
    let P : Segment → Type 0 = IsSoundSegment count c.trace (fenced_segments (frame_of c).threads) in
    all_map P (λ (s : Segment). length s.nodes ≤ count) (v.fenced ++ option_to_list v.pending) (λ s h. h.few)
    (k.sound.segments t v (part_at c t th at th.phase refl))

-- segments that rise are no more than places
rises_few : (count last : ℕ) (trace : List Node) (fenced ss : List Segment) → AllByRecursion (IsSoundSegment count trace fenced) ss → Rises last ss → last ≤ length trace → last + length ss ≤ length trace
rises_few count last trace fenced [] all r low = omega arith
rises_few count last trace fenced (s ∷ ss) all r low =
    let a = all.0.agrees in
    let some_nodes = a.some_nodes in
    let up = r.0 in
    let h = rises_few count s.place trace fenced ss all.1 r.1 a.in_trace in
    omega arith

-- an entry takes a line for each of its nodes, and one more
lines_few : (threads : ℕ) (ss : List Segment) → threads ≤ 16 → FitEntries threads ss → lines_in ss ≤ 17 * length ss
lines_few threads [] l f = omega arith
lines_few threads (s ∷ ss) l f = let h = lines_few threads ss l f.1 in let n = f.0.few_nodes in omega arith

module _ {State Op Query Reply : Type 0} (count : ℕ) (c : CoreState State Op Query Reply) (k : IsConsistent count c) (t : ℕ) (th : CoreThread State Op Query Reply) (at : slice_get c.threads t ≡ Some th) where
  tie_at : (ph : Phase) → th.phase ≡ ph → IsTiedDevice count t (pending_in c.trace ph) th ph
  tie_at ph e = subst (λ (z : Phase). IsTiedDevice count t (pending_in c.trace z) th z) e (k.tied t th at)

  follows : (ph : Phase) → th.phase ≡ ph → Follows c.trace (seen_in c.base th.returned) (activity_in ph)
  follows ph e = k.sound.follows t (thread_at c.base c.trace th ph) (part_at c t th at ph e)

  below_count : t < count
  below_count = let n = threads_count count c k in let h = inside c.threads t th at in omega arith

  logged_few : th.logged ≤ length c.trace
  logged_few =
      let v : Thread = frame_thread c.base c.trace th in
      let here = part_at c t th at th.phase refl in
      let tie = k.tied t th at in
      let same = ap length (fenced_is_log count t th (pending_in c.trace th.phase) th.phase tie) in
      let e = tie.entries in
      let h = rises_few count 0 c.trace (fenced_segments (frame_of c).threads) (segments_of v) (k.sound.segments t v here) (k.sound.rising t v here) (omega arith) in
      omega (arith, length-append v.fenced (option_to_list v.pending))

  pub is_small : IsSmall count c t th
  is_small =
      let tie = k.tied t th at in
      let logged = logged_few in
      let all = places count c k in
      let threads = tie.own.1 in
      let few = k.few in
      let lines = lines_few th.head.threads tie.log (omega arith) tie.fits in
      let used = tie.lines in
      let e = tie.entries in
      record {
        thread = below_count;
        threads = threads_count count c k;
        flags = k.sound.flags;
        places = all;
        base = k.based.long;
        nodes = few_of_thread count c k t below_count;
        logged = logged;
        used = omega arith;
        fences = tie.fences;
      }

  -- ---- the trace
  pub may_link : (op : Op) → next_call th ≡ Some (Update op) → (l : ℕ) → th.phase ≡ phases.Exchange l → MayLink c t l
  may_link op call l is =
      let n = subst (λ (z : Phase). count_by (is_of_thread t) c.trace + updates_to_link th z ≤ 4096) is (k.numbers t th at) in
      let m = update_left th.script (length th.returned) op call in
      let one : count_by (is_of_thread t) c.trace + 1 ≤ 4096 = omega arith in
      let fol = follows (phases.Exchange l) is in
      let few = k.few in
      let row : OpRow = record { w = [] } in
      let x : Node = next_node c.trace t row in
      let own = count_own t c.trace x refl in
      let all = few_in_all 4096 count (c.trace ++ x ∷ [])
      (λ u low. dite (ℕ_discrete u t) (λ same. subst (λ (z : ℕ). count_by (is_of_thread z) (c.trace ++ x ∷ []) ≤ 4096) (sym same) (omega arith))
      (λ other. let a = few_of_thread count c k u low in let b = count_other u c.trace x (λ e. other (sym e)) in omega arith))
      (all_append (λ (z : Node). z.thread < count) c.trace (x ∷ []) k.sound.below (below_count, tt)) in
      record { loaded = fol.1; place = omega (arith, length-append c.trace (x ∷ [])); number = one }

  -- the place of the own node
  own_place : (ph : Phase) → th.phase ≡ ph → (p : ℕ) → open_in (activity_in ph) ≡ Some p → (1 ≤ p) × (p ≤ length c.trace)
  own_place ph is p e = let last = k.sound.opened t (thread_at c.base c.trace th ph) (part_at c t th at ph is) p e in node_place c.trace p last.node last.here

  pub may_walk : (p d : ℕ) → th.phase ≡ phases.Flag p d → MayWalk c p d
  may_walk p d is = let fol = follows (phases.Flag p d) is in record { from_one = fol.2; below = fol.1; in_trace = (own_place (phases.Flag p d) is p refl).1 }

  pub may_set : (p d : ℕ) → th.phase ≡ phases.Set p d → MaySet c p
  may_set p d is = let here = own_place (phases.Set p d) is p refl in record { from_one = here.0; in_trace = here.1 }

  pub may_look : (f d : ℕ) → th.phase ≡ phases.Ask f d → MayLook c f d
  may_look f d is = let fol = follows (phases.Ask f d) is in record { from_one = fol.3; below = fol.1; in_trace = fol.2 }

  -- ---- the log
  fits_log : (ph : Phase) → th.phase ≡ ph → (p d : ℕ) → pending_in c.trace ph ≡ Some (window c.trace d p) → lines_needed ph ≡ suc (p - d) → written_in ph ≤ suc (p - d) → FitsLog count c t th p d
  fits_log ph is p d e needs low =
      let x = window_of count c k t th at p d (ap (pending_in c.trace) is ∙ e) in
      let tie = subst (λ (o : Option Segment). IsTiedDevice count t o th ph) e (tie_at ph is) in
      let size = x.size in
      let long = length_read count t th (window c.trace d p) ph tie (omega arith) in
      let s = tie.space in
      record {
        head = tie.head;
        own = tie.own.0;
        threads = tie.own.1;
        format = tie.own.2;
        entry = subst (λ (n : ℕ). FitsEntry n (window c.trace d p)) (sym tie.own.1) x.fits;
        nodes = x.size;
        lower = x.below;
        few = x.few;
        in_trace = x.high;
        lines = omega arith;
      }

  pub line_fits : (p d j : ℕ) → th.phase ≡ phases.Line p d j → FitsLog count c t th p d
  line_fits p d j is = let tie = tie_at (phases.Line p d j) is in let i = tie.in_entry in fits_log (phases.Line p d j) is p d refl refl (omega arith)

  pub back_fits : (p d j : ℕ) → th.phase ≡ phases.Back p d j → FitsLog count c t th p d
  back_fits p d j is = let tie = tie_at (phases.Back p d j) is in let i = tie.in_entry in fits_log (phases.Back p d j) is p d refl refl (omega arith)

  pub fence_fits : (p d : ℕ) → th.phase ≡ phases.Fence p d → FitsLog count c t th p d
  fence_fits p d is = fits_log (phases.Fence p d) is p d refl refl (omega arith)

  pub may_write : (p d j : ℕ) → th.phase ≡ phases.Line p d j → MayWrite c th p d j
  may_write p d j is =
      let g : Segment = window c.trace d p in
      let tie = tie_at (phases.Line p d j) is in
      let i = tie.in_entry in
      let fits = line_fits p d j is in
      let size = fits.nodes in
      let room = fits.lines in
      let lines : List (List ℕ) = entry_lines th.head (length tie.log) g in
      let long = length-entry_lines th.head (length tie.log) g in
      let zeros : ℕ = j + tie.free - suc (p - d) in
      let was = as_front count t th g p d j tie size in
      let place = next_line count t th (Some g) (phases.Line p d j) j tie in
      let eight : IsLine (line_at lines j) = line_is lines j (AreLines-entry_lines th.head (length tie.log) g fits.entry) (omega arith) in
      let line : line_of_entry th c.trace p d j ≡ line_at lines j = ap (λ (n : ℕ). line_at (entry_lines th.head n g) j) tie.entries in
      record {
        number = i;
        within = omega arith;
        fills = subst (λ (x : List (List ℕ) × ℕ × List ℕ). FillsWords (line_at x.0 x.1) x.2) (λ a. (sym was a, sym place a, sym line a))
            (FillsWords-written_front (log_lines th.head tie.log) lines j zeros (line_at lines j) (omega arith) eight);
      }
    where
      line_is : (ls : List (List ℕ)) (n : ℕ) → AllByRecursion IsLine ls → n < length ls → IsLine (line_at ls n)
      line_is [] n a l = absurd (omega arith)
      line_is (x ∷ ls) zero a l = a.0
      line_is (x ∷ ls) (suc n) a l = line_is ls n a.1 (omega arith)

  pub may_write_back : (p d j : ℕ) → th.phase ≡ phases.Back p d j → MayWriteBack th p d j
  may_write_back p d j is =
      let tie = tie_at (phases.Back p d j) is in
      let i = tie.in_entry in
      let fits = back_fits p d j is in
      let room = fits.lines in
      record { number = i; within = omega arith }
