use Rattle.std.proofs.Common.{ℕ, suc, ◌≡◌, ◌≢◌, ◌+◌, ◌-◌, ◌*◌, ◌≤◌, ⊎_elim, Bool, true, false, List, [], ◌∷◌, ◌++◌, length, take, drop, set, Option, Some, None, sym, refl, ap, ◌∙◌, subst, arith, count_by, ◌==◌}
use Rattle.std.proofs.lemmas.Bool.{leb-true, leb-false}
use Rattle.std.specs.Prelude.{if◌then◌else◌, nat_le}
use Rattle.std.specs.List.{slice_get}
use Rattle.onll_words.specs.declared.line.OpRow.{OpRow}
use Rattle.onll_model.specs.declared.node.Node.{Node}
use Rattle.onll_model.specs.declared.call.Call.{Call}
use Rattle.onll_model.specs.declared.call.Call.TheVariants.{Update, Ask}
use Rattle.onll_model.specs.Object.{Behaviour}
use Rattle.onll_model.specs.Trace.{is_of_thread, reply_after, answer_after}
use Rattle.onll_model.specs.Segment.{Segment}
use Rattle.onll_model.specs.Frames.{Frame, is_available}
use Rattle.onll_model.specs.Events.{Event, Won, Lost, ReadTail, window, next_node}
use Rattle.onll_model.specs.FrameLaws.{SoundOver}
use Rattle.onll_model.proofs.Lists.{at_set, set_here, all_append}
use Rattle.onll_model.proofs.Traces.{count_own, count_other}
use Rattle.onll_model.proofs.EventLaw.{event_sound}
use Rattle.onll_model.specs.Calls.{updates_in}
use Rattle.onll_pmem.specs.Device.{Write, WriteBack, after_step, line_at}
use Rattle.onll_log.specs.Encoding.{entry_lines}
use Rattle.onll_core.specs.declared.phase.Phase.{Phase}
use Rattle.onll_core.specs.declared.phase.Phase.TheVariants as phases
use Rattle.onll_core.specs.declared.returned.Returned.{Returned}
use Rattle.onll_core.specs.Core.{CoreThread, CoreState}
use Rattle.onll_core.specs.CoreFrame.{pending_in, frame_of}
use Rattle.onll_core.specs.Step.{turned, begun, on_device, logged, returning, put, linked, flagged, line_of_entry, after_exchange, after_flag, answered, act, next_call, step_by, step_of, steps_of}
use Rattle.onll_core.specs.Tie.{written_in, lines_needed, IsBehind, InEntry, updates_to_log, updates_to_link, IsTiedDevice}
use Rattle.onll_core.specs.Consistent.{IsConsistent}
use Rattle.onll_core.specs.StepEvent.{event_at, after_maybe, MayCome, IsEvent}
use Rattle.onll_core.proofs.Calls.{length_snoc, update_left, ask_left}
use Rattle.onll_core.proofs.CoreFrames.{pending_longer}
use Rattle.onll_core.proofs.Windows.{short_of, window_of}
use Rattle.onll_core.proofs.Ties.{tie_moved, tie_written, tie_backed}
use Rattle.onll_core.proofs.StepEvents.{tie_at, fence_tie, act_event}

-- Each step keeps what is known of a core.

-- what is known of the thread's own part
pub record Own {State Op Query Reply : Type 0} (count : ℕ) (trace : List Node) (t : ℕ) (w : CoreThread State Op Query Reply) (ph : Phase) : Type 0 where
  pub numbers : count_by (is_of_thread t) trace + updates_to_link w ph ≤ 4096
  pub tied : IsTiedDevice count t (pending_in trace ph) w ph

maybe_sound : (count base : ℕ) (f : Frame) (e : Option Event) → SoundOver count base f → MayCome f e → SoundOver count base (after_maybe base f e)
maybe_sound count base f None k m = k
maybe_sound count base f (Some e) k m = event_sound count base f e k m

module _ {State Op Query Reply : Type 0} (count : ℕ) (c : CoreState State Op Query Reply) (k : IsConsistent count c) where
  -- the frame of the next state
  next_sound : (c' : CoreState State Op Query Reply) (e : Option Event) → IsEvent c c' e → SoundOver count c.base (frame_of c')
  next_sound c' e is = subst (SoundOver count c.base) (sym is.frame) (maybe_sound count c.base (frame_of c) e (record { sound = k.sound; based = k.based }) is.may)

  -- what is known of each thread after one of them has changed
  each_set : (P : ℕ → CoreThread State Op Query Reply → Type 0) (t : ℕ) (w : CoreThread State Op Query Reply) → P t w → ((u : ℕ) (z : CoreThread State Op Query Reply) → u ≢ t → slice_get c.threads u ≡ Some z → P u z)
      → (u : ℕ) (z : CoreThread State Op Query Reply) → slice_get (set c.threads t w) u ≡ Some z → P u z
  each_set P t w mine others u z e = ⊎_elim (λ (x : (u ≡ t) × (w ≡ z)). subst (λ (y : ℕ × CoreThread State Op Query Reply). P y.0 y.1) (λ i. (sym x.0 i, x.1 i)) mine)
      (λ (x : (u ≢ t) × (slice_get c.threads u ≡ Some z)). others u z x.0 x.1) (at_set c.threads t u w z e)

  keeps_put : (t : ℕ) (w : CoreThread State Op Query Reply) (e : Option Event) → IsEvent c (put c t w) e → Own count c.trace t w w.phase → IsConsistent count (put c t w)
  keeps_put t w e is own = let s = next_sound (put c t w) e is in record {
    sound = s.sound;
    based = s.based;
    rows = k.rows;
    few = k.few;
    numbers = each_set (λ u z. count_by (is_of_thread u) c.trace + updates_to_link z z.phase ≤ 4096) t w own.numbers (λ u z _ at. k.numbers u z at);
    tied = each_set (λ u z. IsTiedDevice count u (pending_in c.trace z.phase) z z.phase) t w own.tied (λ u z _ at. k.tied u z at);
  }

  keeps_flagged : (t p : ℕ) (w : CoreThread State Op Query Reply) (e : Option Event) → IsEvent c (flagged c t p w) e → Own count c.trace t w w.phase → IsConsistent count (flagged c t p w)
  keeps_flagged t p w e is own = let s = next_sound (flagged c t p w) e is in record {
    sound = s.sound;
    based = s.based;
    rows = k.rows;
    few = k.few;
    numbers = each_set (λ u z. count_by (is_of_thread u) c.trace + updates_to_link z z.phase ≤ 4096) t w own.numbers (λ u z _ at. k.numbers u z at);
    tied = each_set (λ u z. IsTiedDevice count u (pending_in c.trace z.phase) z z.phase) t w own.tied (λ u z _ at. k.tied u z at);
  }

  keeps_linked : (t : ℕ) (row : OpRow) (w : CoreThread State Op Query Reply) (e : Option Event) → length row.w ≡ 7 → IsEvent c (linked c t (next_node c.trace t row) w) e
      → Own count (c.trace ++ next_node c.trace t row ∷ []) t w w.phase → IsConsistent count (linked c t (next_node c.trace t row) w)
  keeps_linked t row w e seven is own =
      let x : Node = next_node c.trace t row in
      let long : List Node = c.trace ++ x ∷ [] in
      let s = next_sound (linked c t x w) e is in
      record {
        sound = s.sound;
        based = s.based;
        rows = all_append (λ (n : Node). length n.row.w ≡ 7) c.trace (x ∷ []) k.rows (seven, tt);
        few = k.few;
        numbers = each_set (λ u z. count_by (is_of_thread u) long + updates_to_link z z.phase ≤ 4096) t w own.numbers
            (λ u z other at. let a = k.numbers u z at in let m = count_other u c.trace x (λ y. other (sym y)) in omega arith);
        tied = each_set (λ u z. IsTiedDevice count u (pending_in long z.phase) z z.phase) t w own.tied
            (λ u z _ at. subst (λ (o : Option Segment). IsTiedDevice count u o z z.phase) (sym (pending_longer c count k.sound u z at (x ∷ []))) (k.tied u z at));
      }

-- a step reads of a thread only these parts
same_to_log : {State Op Query Reply : Type 0} (th w : CoreThread State Op Query Reply) → w.script ≡ th.script → w.returned ≡ th.returned → (ph : Phase) → updates_to_log w ph ≡ updates_to_log th ph
same_to_log {State} {Op} {Query} {Reply} th w s r ph = all ph
  where
    now : updates_in (drop (length w.returned) w.script) ≡ updates_in (drop (length th.returned) th.script)
    now i = updates_in (drop (length (r i)) (s i))

    next : updates_in (drop (suc (length w.returned)) w.script) ≡ updates_in (drop (suc (length th.returned)) th.script)
    next i = updates_in (drop (suc (length (r i))) (s i))

    all : (ph : Phase) → updates_to_log w ph ≡ updates_to_log th ph
    all phases.Idle = now
    all (phases.Tail l) = now
    all (phases.Exchange l) = now
    all (phases.Flag p d) = now
    all (phases.Line p d k) = now
    all (phases.Back p d k) = now
    all (phases.Fence p d) = now
    all (phases.Set p d) = next
    all (phases.Ask f d) = now

module _ {State Op Query Reply : Type 0} (b : Behaviour State Op Query Reply) (count : ℕ) (c : CoreState State Op Query Reply) (k : IsConsistent count c) (t : ℕ) (th : CoreThread State Op Query Reply) (at : slice_get c.threads t ≡ Some th) where
  numbers_at : (ph : Phase) → th.phase ≡ ph → count_by (is_of_thread t) c.trace + updates_to_link th ph ≤ 4096
  numbers_at ph e = subst (λ (z : Phase). count_by (is_of_thread t) c.trace + updates_to_link th z ≤ 4096) e (k.numbers t th at)

  tie : (ph : Phase) → th.phase ≡ ph → IsTiedDevice count t (pending_in c.trace ph) th ph
  tie ph e = tie_at b count c k t th at ph e

  abbrev to_come : ℕ
  to_come = updates_in (drop (length th.returned) th.script)

  abbrev after_this : ℕ
  after_this = updates_in (drop (suc (length th.returned)) th.script)

  -- a call returns
  returned_own : (ph : Phase) (e : th.phase ≡ ph) → written_in ph ≡ 0 → ((line : ℕ) → IsBehind th.used ph line) → updates_to_log th ph ≡ after_this → updates_to_link th ph ≡ after_this
      → (place : ℕ) (reply : Reply) (began : ℕ) → Own count c.trace t (returning th place reply began c.clock) phases.Idle
  returned_own ph e nothing all log link place reply began =
      let r : Returned State Op Query Reply = record { place = place; reply = reply; began = began; ended = c.clock } in
      let left : updates_in (drop (length (th.returned ++ r ∷ [])) th.script) ≡ after_this = ap (λ (n : ℕ). updates_in (drop n th.script)) (length_snoc th.returned r) in
      let n = numbers_at ph e in
      record { numbers = omega arith; tied = tie_moved count t th (pending_in c.trace ph) None ph phases.Idle (th.returned ++ r ∷ []) th.began (tie ph e) nothing refl all tt (left ∙ sym log) (omega arith) }

  -- ---- updates
  module _ (op : Op) (call : next_call th ≡ Some (Update op)) where
    more : to_come ≡ suc after_this
    more = update_left th.script (length th.returned) op call

    -- there is room for an entry of as many nodes as there are threads
    room_for : (ph : Phase) (e : th.phase ≡ ph) → written_in ph ≡ 0 → updates_to_log th ph ≡ to_come → suc count ≤ (tie ph e).free
    room_for ph e none left =
        let q = tie ph e in
        let threads = q.own.1 in
        let r = q.room in
        let h = free_room (updates_to_log th ph) after_this th.head.threads q.free (left ∙ more) (omega arith) in
        omega arith
      where
        free_room : (x y n r : ℕ) → x ≡ suc y → x * suc n ≤ r → suc n ≤ r
        free_room x y n r e l = let a : suc y * suc n ≡ y * suc n + suc n = grind arith in let m : x * suc n ≡ suc y * suc n = ap (λ (z : ℕ). z * suc n) e in omega arith

    turned_own : (trace : List Node) (ph ph' : Phase) (began : ℕ) (e : th.phase ≡ ph) → written_in ph ≡ 0 → written_in ph' ≡ 0 → ((line : ℕ) → IsBehind th.used ph line) → InEntry ph'
        → updates_to_log th ph ≡ to_come → updates_to_log th ph' ≡ to_come → lines_needed ph' ≤ (tie ph e).free → count_by (is_of_thread t) trace + updates_to_link (begun th began ph') ph' ≤ 4096 → Own count trace t (begun th began ph') ph'
    turned_own trace ph ph' began e none none' all entry left left' needs numbers = record {
      numbers = numbers;
      tied = tie_moved count t th (pending_in c.trace ph) (pending_in trace ph') ph ph' th.returned began (tie ph e) none none' all entry (same_to_log th (begun th began ph') refl refl ph' ∙ (left' ∙ sym left)) needs;
    }

    -- the own node is linked
    won_own : (l : ℕ) → th.phase ≡ phases.Exchange l → (ph : Phase) → let x : Node = next_node c.trace t (b.row_of op) in (e : Option Event) → IsEvent c (linked c t x (turned th ph)) e
        → written_in ph ≡ 0 → InEntry ph → updates_to_log th ph ≡ to_come → updates_to_link (turned th ph) ph ≡ after_this
        → (SoundOver count c.base (frame_of (linked c t x (turned th ph))) → lines_needed ph ≤ suc count) → IsConsistent count (linked c t x (turned th ph))
    won_own l is ph e event none entry left link needs =
        let x : Node = next_node c.trace t (b.row_of op) in
        let long : List Node = c.trace ++ x ∷ [] in
        let n = numbers_at (phases.Exchange l) is in
        let own = count_own t c.trace x refl in
        let m = more in
        let room = room_for (phases.Exchange l) is refl refl in
        let lines = needs (next_sound count c k (linked c t x (turned th ph)) e event) in
        keeps_linked count c k t (b.row_of op) (turned th ph) e (b.seven_words op) event
        (turned_own long (phases.Exchange l) ph th.began is refl none (λ j. tt) entry refl left (omega arith) (omega arith))

    -- a phase of an update is followed by another, and no step is made on the device
    moved : (ph ph' : Phase) (began : ℕ) → th.phase ≡ ph → (e : Option Event) → IsEvent c (put c t (begun th began ph')) e → written_in ph ≡ 0 → written_in ph' ≡ 0 → ((line : ℕ) → IsBehind th.used ph line) → InEntry ph'
        → updates_to_log th ph ≡ to_come → updates_to_log th ph' ≡ to_come → updates_to_link (begun th began ph') ph' ≡ updates_to_link th ph
        → (SoundOver count c.base (frame_of (put c t (begun th began ph'))) → lines_needed ph' ≤ suc count) → IsConsistent count (put c t (begun th began ph'))
    moved ph ph' began is e event none none' all entry left left' link needs =
        let n = numbers_at ph is in
        let room = room_for ph is none left in
        let lines = needs (next_sound count c k (put c t (begun th began ph')) e event) in
        keeps_put count c k t (begun th began ph') e event (turned_own c.trace ph ph' began is none none' all entry left left' (omega arith) (omega arith))

    -- the lines of an entry that is begun
    begun_lines : (c' : CoreState State Op Query Reply) → SoundOver count c.base (frame_of c') → (w : CoreThread State Op Query Reply) → slice_get c'.threads t ≡ Some w → (p d : ℕ) → pending_in c'.trace w.phase ≡ Some (window c'.trace d p) → suc (p - d) ≤ suc count
    begun_lines c' s w at' p d e = let x = (short_of count c' s.sound t w at' p d e).few in omega arith

    set_at : (w : CoreThread State Op Query Reply) → slice_get (set c.threads t w) t ≡ Some w
    set_at w = set_here c.threads t w th at

    -- the exchange
    won_keeps : (l : ℕ) → th.phase ≡ phases.Exchange l → (q : Bool) → let x : Node = next_node c.trace t (b.row_of op) in (e : Option Event) → IsEvent c (linked c t x (turned th (if q then phases.Line (l + 1) l 0 else phases.Flag (l + 1) l))) e
        → IsConsistent count (linked c t x (turned th (if q then phases.Line (l + 1) l 0 else phases.Flag (l + 1) l)))
    won_keeps l is true e event = let x : Node = next_node c.trace t (b.row_of op) in let w : CoreThread State Op Query Reply = turned th (phases.Line (l + 1) l 0) in
        won_own l is (phases.Line (l + 1) l 0) e event refl (omega arith) refl refl (λ s. begun_lines (linked c t x w) s w (set_at w) (l + 1) l refl)
    won_keeps l is false e event = won_own l is (phases.Flag (l + 1) l) e event refl tt refl refl (λ s. omega arith)

    -- the walk
    line_keeps : (p d g : ℕ) → th.phase ≡ phases.Flag p d → (e : Option Event) → IsEvent c (put c t (turned th (phases.Line p g 0))) e → IsConsistent count (put c t (turned th (phases.Line p g 0)))
    line_keeps p d g is e event = let w : CoreThread State Op Query Reply = turned th (phases.Line p g 0) in
        moved (phases.Flag p d) (phases.Line p g 0) th.began is e event refl refl (λ j. tt) (omega arith) refl refl refl (λ s. begun_lines (put c t w) s w (set_at w) p g refl)

    walk_keeps : (p d : ℕ) → th.phase ≡ phases.Flag p d → (q : Bool) → (e : Option Event) → IsEvent c (put c t (turned th (after_flag c.base p d q))) e → IsConsistent count (put c t (turned th (after_flag c.base p d q)))
    walk_keeps p d is true e event = line_keeps p d d is e event
    walk_keeps p d is false e event = by_low (nat_le d (c.base + 1)) event
      where
        by_low : (q : Bool) → IsEvent c (put c t (turned th (if q then phases.Line p c.base 0 else phases.Flag p (d - 1)))) e → IsConsistent count (put c t (turned th (if q then phases.Line p c.base 0 else phases.Flag p (d - 1))))
        by_low true event' = line_keeps p d c.base is e event'
        by_low false event' = moved (phases.Flag p d) (phases.Flag p (d - 1)) th.began is e event' refl refl (λ j. tt) tt refl refl refl (λ s. omega arith)

    -- the log
    write_keeps : (p d j : ℕ) → th.phase ≡ phases.Line p d j → let w : CoreThread State Op Query Reply = on_device th (after_step th.device (Write (th.used + j) (line_of_entry th c.trace p d j))) (phases.Back p d j) in
        (e : Option Event) → IsEvent c (put c t w) e → IsConsistent count (put c t w)
    write_keeps p d j is e event =
        let g : Segment = window c.trace d p in
        let x = window_of count c k t th at p d (ap (pending_in c.trace) is) in
        let q = tie (phases.Line p d j) is in
        let line : List ℕ = line_of_entry th c.trace p d j in
        keeps_put count c k t (on_device th (after_step th.device (Write (th.used + j) line)) (phases.Back p d j)) e event (record {
          numbers = numbers_at (phases.Line p d j) is;
          tied = tie_written count t th g p d j line q x.size (ap (λ (n : ℕ). line_at (entry_lines th.head n g) j) q.entries);
        })

    back_keeps : (p d j : ℕ) → th.phase ≡ phases.Back p d j → (last : Bool) → nat_le (suc j) (p - d) ≡ last
        → let w : CoreThread State Op Query Reply = on_device th (after_step th.device (WriteBack (th.used + j))) (if last then phases.Line p d (suc j) else phases.Fence p d) in
        (e : Option Event) → IsEvent c (put c t w) e → IsConsistent count (put c t w)
    back_keeps p d j is true more_lines e event =
        let x = window_of count c k t th at p d (ap (pending_in c.trace) is) in
        keeps_put count c k t (on_device th (after_step th.device (WriteBack (th.used + j))) (phases.Line p d (suc j))) e event (record {
          numbers = numbers_at (phases.Back p d j) is;
          tied = tie_backed count t th (window c.trace d p) p d j (phases.Line p d (suc j)) (tie (phases.Back p d j) is) x.size refl (leb-true (suc j) (p - d) more_lines) refl refl (λ i. tt) refl;
        })
    back_keeps p d j is false none_left e event =
        let x = window_of count c k t th at p d (ap (pending_in c.trace) is) in
        let q = tie (phases.Back p d j) is in
        let inside = q.in_entry in
        let over = leb-false (suc j) (p - d) none_left in
        keeps_put count c k t (on_device th (after_step th.device (WriteBack (th.used + j))) (phases.Fence p d)) e event (record {
          numbers = numbers_at (phases.Back p d j) is;
          tied = tie_backed count t th (window c.trace d p) p d j (phases.Fence p d) q x.size (omega arith) tt refl refl (λ i. tt) refl;
        })

    update_keeps : (ph : Phase) → th.phase ≡ ph → IsEvent c (act b c t th (Some (Update op)) ph) (event_at b c t (Some (Update op)) ph) → IsConsistent count (act b c t th (Some (Update op)) ph)
    update_keeps phases.Idle is event = moved phases.Idle (phases.Exchange (length c.trace)) c.clock is _ event refl refl (λ j. tt) tt refl refl refl (λ s. omega arith)
    update_keeps (phases.Tail l) is event = moved (phases.Tail l) (phases.Exchange (length c.trace)) th.began is _ event refl refl (λ j. tt) tt refl refl refl (λ s. omega arith)
    update_keeps (phases.Exchange l) is event = by_tail (length c.trace == l) event
      where
        by_tail : (q : Bool) → IsEvent c (if q then linked c t (next_node c.trace t (b.row_of op)) (turned th (after_exchange c.base l)) else put c t (turned th (phases.Tail l))) (if q then Some (Won t (b.row_of op)) else Some (Lost t))
            → IsConsistent count (if q then linked c t (next_node c.trace t (b.row_of op)) (turned th (after_exchange c.base l)) else put c t (turned th (phases.Tail l)))
        by_tail true event' = won_keeps l is (nat_le l c.base) _ event'
        by_tail false event' = moved (phases.Exchange l) (phases.Tail l) th.began is _ event' refl refl (λ j. tt) tt refl refl refl (λ s. omega arith)
    update_keeps (phases.Flag p d) is event = walk_keeps p d is (is_available c.flags d) _ event
    update_keeps (phases.Line p d j) is event = write_keeps p d j is _ event
    update_keeps (phases.Back p d j) is event = back_keeps p d j is (nat_le (suc j) (p - d)) refl _ event
    update_keeps (phases.Fence p d) is event = keeps_put count c k t (logged th (p - d) (phases.Set p d)) _ event (record {
      numbers = numbers_at (phases.Fence p d) is;
      tied = (fence_tie b count c k t th at op call p d is).0;
    })
    update_keeps (phases.Set p d) is event = let reply : Reply = reply_after b c.initial (take (p - 1) c.trace) op in
        keeps_flagged count c k t p (returning th p reply th.began c.clock) _ event (returned_own (phases.Set p d) is refl (λ j. tt) refl refl p reply th.began)
    update_keeps (phases.Ask g d) is event = k

  -- ---- reads
  module _ (query : Query) (call : next_call th ≡ Some (Ask query)) where
    same_left : to_come ≡ after_this
    same_left = ask_left th.script (length th.returned) query call

    answered_keeps : (ph : Phase) → th.phase ≡ ph → written_in ph ≡ 0 → ((line : ℕ) → IsBehind th.used ph line) → updates_to_log th ph ≡ to_come → updates_to_link th ph ≡ to_come
        → (began place : ℕ) (e : Option Event) → IsEvent c (answered b c t th began place query) e → IsConsistent count (answered b c t th began place query)
    answered_keeps ph is nothing all log link began place e event = let reply : Reply = answer_after b c.initial (take place c.trace) query in
        keeps_put count c k t (returning th place reply began c.clock) e event (returned_own ph is nothing all (log ∙ same_left) (link ∙ same_left) place reply began)

    looks : (ph : Phase) (began g d : ℕ) → th.phase ≡ ph → written_in ph ≡ 0 → ((line : ℕ) → IsBehind th.used ph line) → updates_to_log th ph ≡ to_come → updates_to_link th ph ≡ to_come
        → (e : Option Event) → IsEvent c (put c t (begun th began (phases.Ask g d))) e → IsConsistent count (put c t (begun th began (phases.Ask g d)))
    looks ph began g d is nothing all log link e event = let n = numbers_at ph is in keeps_put count c k t (begun th began (phases.Ask g d)) e event (record {
      numbers = omega arith;
      tied = tie_moved count t th (pending_in c.trace ph) None ph (phases.Ask g d) th.returned began (tie ph is) nothing refl all tt (sym log) (omega arith);
    })

    ask_keeps : (ph : Phase) → th.phase ≡ ph → IsEvent c (act b c t th (Some (Ask query)) ph) (event_at b c t (Some (Ask query)) ph) → IsConsistent count (act b c t th (Some (Ask query)) ph)
    ask_keeps phases.Idle is event = by_base (nat_le (length c.trace) c.base) event
      where
        by_base : (q : Bool) → IsEvent c (if q then answered b c t th c.clock c.base query else put c t (begun th c.clock (phases.Ask (length c.trace) (length c.trace)))) (Some (ReadTail t))
            → IsConsistent count (if q then answered b c t th c.clock c.base query else put c t (begun th c.clock (phases.Ask (length c.trace) (length c.trace))))
        by_base true event' = answered_keeps phases.Idle is refl (λ j. tt) refl refl c.clock c.base _ event'
        by_base false event' = looks phases.Idle c.clock (length c.trace) (length c.trace) is refl (λ j. tt) refl refl _ event'
    ask_keeps (phases.Ask g d) is event = by_flag (is_available c.flags d) (nat_le d (c.base + 1)) _ event
      where
        by_flag : (q r : Bool) (e : Option Event) → IsEvent c (if q then answered b c t th th.began d query else (if r then answered b c t th th.began c.base query else put c t (turned th (phases.Ask g (d - 1))))) e
            → IsConsistent count (if q then answered b c t th th.began d query else (if r then answered b c t th th.began c.base query else put c t (turned th (phases.Ask g (d - 1)))))
        by_flag true r e event' = answered_keeps (phases.Ask g d) is refl (λ j. tt) refl refl th.began d e event'
        by_flag false true e event' = answered_keeps (phases.Ask g d) is refl (λ j. tt) refl refl th.began c.base e event'
        by_flag false false e event' = looks (phases.Ask g d) th.began g (d - 1) is refl (λ j. tt) refl refl e event'
    ask_keeps (phases.Tail l) is event = k
    ask_keeps (phases.Exchange l) is event = k
    ask_keeps (phases.Flag p d) is event = k
    ask_keeps (phases.Line p d j) is event = k
    ask_keeps (phases.Back p d j) is event = k
    ask_keeps (phases.Fence p d) is event = k
    ask_keeps (phases.Set p d) is event = k

  act_keeps : (call : Option (Call State Op Query Reply)) → next_call th ≡ call → IsConsistent count (act b c t th call th.phase)
  act_keeps None e = k
  act_keeps (Some (Update op)) e = update_keeps op e th.phase refl (act_event b count c k t th at (Some (Update op)) e)
  act_keeps (Some (Ask query)) e = ask_keeps query e th.phase refl (act_event b count c k t th at (Some (Ask query)) e)

-- whatever thread takes a step
pub step_consistent : {State Op Query Reply : Type 0} (b : Behaviour State Op Query Reply) (count : ℕ) (c : CoreState State Op Query Reply) (t : ℕ) → IsConsistent count c → IsConsistent count (step_of b c t)
step_consistent {State} {Op} {Query} {Reply} b count c t k = by_thread (slice_get c.threads t) refl
  where
    by_thread : (o : Option (CoreThread State Op Query Reply)) → slice_get c.threads t ≡ o → IsConsistent count (step_by b c t o)
    by_thread None e = k
    by_thread (Some th) e = act_keeps b count c k t th e (next_call th) refl

-- and whatever threads take steps
pub steps_consistent : {State Op Query Reply : Type 0} (b : Behaviour State Op Query Reply) (count : ℕ) (c : CoreState State Op Query Reply) (ts : List ℕ) → IsConsistent count c → IsConsistent count (steps_of b c ts)
steps_consistent b count c [] k = k
steps_consistent b count c (t ∷ ts) k = steps_consistent b count (step_of b c t) ts (step_consistent b count c t k)
