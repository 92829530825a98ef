-- One call more of a worker.
use Rattle.std.proofs.Common.{◌≡◌, ℕ, suc, ◌+◌, ◌*◌, ◌<◌, ◌≤◌, List, [], ◌∷◌, ◌++◌, length, drop, Option, Some, None, refl, sym, ap, ◌∙◌, subst, arith, append-nil, append_assoc, length-append, get_or}
use Rattle.std.specs.Prelude.{IfSome, Err}
use Rattle.std.proofs.Math.Nat.{mul-suc, mul-one, mul-le-mul_left}
use Rattle.std.specs.Option.{option_or}
use Rattle.std.specs.List.{AllByRecursion, slice_get}
use mathlib.Core.List.{IsPrefix}
use Rattle.onll_words.specs.declared.line.OpRow.{OpRow}
use Rattle.onll_model.specs.declared.node.Node.{Node}
use Rattle.onll_model.specs.declared.call.Call.{Call}
use Rattle.onll_model.specs.declared.call.Call.TheVariants.{Update, Ask}
use Rattle.onll_model.specs.declared.call.CallEnd.{CallEnd}
use Rattle.onll_model.specs.declared.call.CallEnd.TheVariants.{Answered, Running, Ordered, FenceFailed, Broken}
use Rattle.onll_model.specs.Object.{Behaviour}
use Rattle.onll_model.specs.Calls.{updates_in}
use Rattle.onll_model.specs.Segment.{Segment}
use Rattle.onll_model.specs.Events.{window}
use Rattle.onll_model.specs.Legal.{place_in, at_place, placed_updates, EachEnd, HasReply, HasAnswer, InOrder, BrokenAfterFailure, IsOver}
use Rattle.onll_model.proofs.Lists.{all_append, all_right, all_map}
use Rattle.onll_model.proofs.Ends.{placed_update, placed_ask, none_placed}
use Rattle.onll_pmem.specs.Pmem.{DeviceView}
use Rattle.onll_log.specs.Grammar.{lines_in}
use Rattle.onll_log.specs.Log.{LogState, free_of}
use Rattle.onll_log.proofs.Encoded.{lines_in-append}
use Rattle.onll_trace.specs.Plans.{Plan}
use Rattle.onll_trace.specs.Spots.{base_of}
use Rattle.onll_shared.specs.declared.calls.UpdateFault.TheVariants as lasting
use Rattle.onll_shared.specs.Passes.{OnllView, PassView, IsTied}
use Rattle.onll_shared.specs.Calls.{IsSamePass, IsOrdered, HasOnlyLooked, HasUpdated}
use Rattle.onll_run.specs.Outcomes.{CallDone, StandsIn, failed_in, RunsSo, HasRoomFor, HasGoneOn, fault_in}
use Rattle.std.proofs.lemmas.List.{drop_more}
use Rattle.onll_run.specs.Workers.{IsReadyPass, HasWorked}
use Rattle.onll_run.proofs.Outcomes.{got_at, each_end_with, failed_more, stands_more, reads_above, updates_above, replies_longer, answers_longer, legal_more}

prefix_then : {A : Type 0} (xs ys zs : List A) → IsPrefix xs ys → IsPrefix ys zs → IsPrefix xs zs
prefix_then xs ys zs p q = (p.0 ++ q.0, sym (append_assoc xs p.0 q.0) ∙ (ap (λ l. l ++ q.0) p.1 ∙ q.1))

prefix_self : {A : Type 0} (xs ys : List A) → ys ≡ xs → IsPrefix xs ys
prefix_self xs ys e = ([], append-nil xs ∙ sym e)

module _ {State Device : Type 0} where
  pub same_then : (x y z : PassView State Device) → IsSamePass x y → IsSamePass y z → IsSamePass x z
  same_then x y z p q = record {
    table = q.table ∙ p.table;
    plan = q.plan ∙ p.plan;
    thread = q.thread ∙ p.thread;
    room = q.room ∙ p.room;
    head = q.head ∙ p.head;
    longer = prefix_then x.spot.known y.spot.known z.spot.known p.longer q.longer;
  }

  same_self : (x : PassView State Device) → IsSamePass x x
  same_self x = record {
    table = refl;
    plan = refl;
    thread = refl;
    room = refl;
    head = refl;
    longer = prefix_self x.spot.known x.spot.known refl;
  }

  module _ (means : Device → DeviceView) where
    pub gone_then : (x y z : PassView State Device) → HasGoneOn means x y → HasGoneOn means y z → HasGoneOn means x z
    gone_then x y z p q =
        let pe = p.entries in let qe = q.entries in
        let pf = p.fences in let qf = q.fences in
        let pc = p.count in let qc = q.count in
        let pu = p.faults in let qu = q.faults in
        record {
          same = same_then x y z p.same q.same;
          goes_on = prefix_then x.log.entries y.log.entries z.log.entries p.goes_on q.goes_on;
          entries = omega arith;
          fences = omega arith;
          count = omega arith;
          faults = omega arith;
          lines = q.lines ∙ p.lines;
        }

    -- nothing was ordered
    pub gone_same : (x y : PassView State Device) → IsSamePass x y → y.spot.me.own ≡ x.spot.me.own → y.log ≡ x.log → y.broken ≡ x.broken → HasGoneOn means x y
    gone_same x y same own log broken =
        let n = ap length own in
        let e = ap (λ (l : LogState Device). length l.entries) log in
        let f = ap (λ (l : LogState Device). l.fences) log in
        let c = ap (λ (l : LogState Device). (means l.device).fences) log in
        let u = ap (λ (l : LogState Device). (means l.device).faults) log in
        let k = ap fault_in broken in
        record {
          same = same;
          goes_on = prefix_self x.log.entries y.log.entries (ap (λ (l : LogState Device). l.entries) log);
          entries = omega arith;
          fences = omega arith;
          count = omega arith;
          faults = omega arith;
          lines = ap (λ (l : LogState Device). length (means l.device).read) log;
        }

    pub gone_self : (x : PassView State Device) → HasGoneOn means x x
    gone_self x = gone_same x x (same_self x) refl refl refl

    module _ (onll : OnllView State) where
      -- an update was ordered
      gone_ordered : (row : OpRow) (x y : PassView State Device) (place : ℕ) → IsOrdered means onll row x y place
          → (means y.log.device).faults + fault_in x.broken ≡ (means x.log.device).faults + fault_in y.broken → HasGoneOn means x y
      gone_ordered row x y place o u =
          let w : List Segment = window y.spot.known o.look_place place ∷ [] in
          let e = ap length o.entry in
          let n = ap length o.own in
          let f = o.fences in let c = o.count in
          record {
            same = o.same;
            goes_on = (w, sym o.entry);
            entries = omega (arith, length-append x.log.entries w, length-append x.spot.me.own ((row, place) ∷ []));
            fences = omega (arith, length-append x.spot.me.own ((row, place) ∷ []));
            count = omega (arith, length-append x.spot.me.own ((row, place) ∷ []));
            faults = u;
            lines = o.lines;
          }

module _ {State Op Query Reply Device : Type 0} (b : Behaviour State Op Query Reply) (means : Device → DeviceView) (onll : OnllView State) where
  looked_on : (x y : PassView State Device) → HasOnlyLooked x y → HasGoneOn means x y
  looked_on x y l = gone_same means x y l.same l.own l.log l.broken

  pub call_gone_on : (c : Call State Op Query Reply) (e : CallEnd State Op Query Reply) (x y : PassView State Device) → CallDone b means onll c x y e → HasGoneOn means x y
  call_gone_on (Update op) (Answered reply place) x y h =
      let u = h.tried.faults in
      let k = ap fault_in h.tried.ordered.may.whole in
      let l = ap fault_in h.tried.broken in
      gone_then means x h.last y (looked_on x h.last h.looked) (gone_ordered means onll (b.row_of op) h.last y place h.tried.ordered (omega arith))
  call_gone_on (Update op) Running x y h = absurd h
  call_gone_on (Update op) (Ordered place) x y h = absurd h
  call_gone_on (Update op) (FenceFailed place) x y h =
      let u = h.tried.faults in
      let k = ap fault_in h.tried.ordered.may.whole in
      let l = ap fault_in h.tried.broken in
      gone_then means x h.last y (looked_on x h.last h.looked) (gone_ordered means onll (b.row_of op) h.last y place h.tried.ordered (omega arith))
  call_gone_on (Update op) (Broken place) x y h = subst (λ (z : PassView State Device). HasGoneOn means x z) (sym h.tried.1) (looked_on x h.last h.looked)
  call_gone_on (Ask query) (Answered reply place) x y h = gone_same means x y h.1.same h.1.own h.1.log h.1.broken
  call_gone_on (Ask query) Running x y h = absurd h
  call_gone_on (Ask query) (Ordered place) x y h = absurd h
  call_gone_on (Ask query) (FenceFailed place) x y h = absurd h
  call_gone_on (Ask query) (Broken place) x y h = absurd h

  module _ (calls : List (Call State Op Query Reply)) (ends : List (CallEnd State Op Query Reply)) (old new : PassView State Device) (t : IsTied b means onll old) (u : IsTied b means onll new) (so : RunsSo b onll.first calls ends old) where
    own_old : placed_updates b calls ends ≡ old.spot.me.own
    own_old = so.legal.places ∙ sym t.lawful.told.own

    -- a call more, whose places, reply, answer and order are these
    goes_on : (c : Call State Op Query Reply) (e : CallEnd State Op Query Reply) → IsSamePass old new → slice_get calls (length ends) ≡ Some c
        → placed_updates b calls (ends ++ e ∷ []) ≡ new.spot.me.own → IsOver e
        → HasReply b onll.first new.spot.known c e → HasAnswer b onll.first (base_of old.spot) new.spot.known c e
        → EachEnd (λ d f. InOrder d f c e) calls ends → BrokenAfterFailure old.broken (c ∷ []) (e ∷ [])
        → old.spot.me.part.seen ≤ new.spot.me.part.seen → StandsIn new.spot.me.part.seen e → option_or old.broken (failed_in (e ∷ [])) ≡ new.broken
        → RunsSo b onll.first calls (ends ++ e ∷ []) new
    goes_on c e same at places o reply answer order last seen low failed =
        let base : base_of old.spot ≡ base_of new.spot = ap (λ (k : Plan). length k.base) (sym same.plan) in
        let over : AllByRecursion IsOver (ends ++ e ∷ []) = all_append IsOver ends (e ∷ []) so.over (o, tt) in
        let long = same.longer in
        let s : ℕ = old.spot.me.part.seen in
        let known = t.lawful.told.part.seen.1 in
        record {
          legal = legal_more b onll.first (base_of new.spot) new.spot.me.thread calls ends c e new.spot.known at over (places ∙ u.lawful.told.own)
              (subst (λ (ks : List Node). EachEnd (HasReply b onll.first ks) calls ends) long.1 (replies_longer b onll.first (base_of old.spot) old.spot.known long.0 s known calls ends so.low so.legal.replies))
              reply
              (subst (λ (z : ℕ × List Node). EachEnd (HasAnswer b onll.first z.0 z.1) calls ends) (λ i. (base i, long.1 i)) (answers_longer b onll.first (base_of old.spot) old.spot.known long.0 s known calls ends so.low so.legal.answers))
              (subst (λ (n : ℕ). HasAnswer b onll.first n new.spot.known c e) base answer)
              so.legal.reads_in_order order so.legal.broken
              (subst (λ k. BrokenAfterFailure k (c ∷ []) (e ∷ [])) (sym so.failed) last);
          low = all_append (StandsIn new.spot.me.part.seen) ends (e ∷ []) (all_map (StandsIn s) (StandsIn new.spot.me.part.seen) ends (λ f k. stands_more s new.spot.me.part.seen seen f k) so.low) (low, tt);
          over = over;
          failed = failed_more ends e ∙ (ap (λ (k : Option ℕ). option_or k (failed_in (e ∷ []))) so.failed ∙ failed);
        }

    -- an order that each outcome has which stands in what was seen
    ordered_so : (R : Call State Op Query Reply → CallEnd State Op Query Reply → Type 0) → ((d : Call State Op Query Reply) (f : CallEnd State Op Query Reply) → StandsIn old.spot.me.part.seen f → R d f) → EachEnd R calls ends
    ordered_so R h = each_end_with (HasReply b onll.first old.spot.known) (StandsIn old.spot.me.part.seen) R calls ends (λ c e p q. h c e q) so.legal.replies so.low

    module _ (op : Op) (e : CallEnd State Op Query Reply) (place : ℕ) (last : PassView State Device) (looked : HasOnlyLooked old last) (o : IsOrdered means onll (b.row_of op) last new place) where
      none : old.broken ≡ None
      none = sym looked.broken ∙ o.may.whole

      -- an update that was ordered, answered or not
      ordered_more : slice_get calls (length ends) ≡ Some (Update op) → place_in e ≡ Some place → IsOver e → HasReply b onll.first new.spot.known (Update op) e
          → HasAnswer b onll.first (base_of old.spot) new.spot.known (Update op) e → BrokenAfterFailure {State = State} {Op = Op} {Query = Query} {Reply = Reply} None (Update op ∷ []) (e ∷ [])
          → old.spot.me.part.seen ≤ new.spot.me.part.seen → StandsIn new.spot.me.part.seen e → option_or None (failed_in (e ∷ [])) ≡ new.broken
          → RunsSo b onll.first calls (ends ++ e ∷ []) new
      ordered_more at in_place over reply answer broken seen low failed =
          let above : old.spot.me.part.seen < place = let s = looked.seen in let p = o.after in omega arith in
          goes_on (Update op) e (same_then old last new looked.same o.same) at
          (placed_update b calls ends op e at ∙ (ap (λ p. placed_updates b calls ends ++ at_place (b.row_of op) p) in_place ∙ (ap (λ l. l ++ (b.row_of op, place) ∷ []) (own_old ∙ sym looked.own) ∙ sym o.own)))
          over reply answer
          (ordered_so (λ d f. InOrder d f (Update op) e) (updates_above old.spot.me.part.seen op e (subst (λ p. IfSome p (λ q. old.spot.me.part.seen < q)) (sym in_place) above)))
          (subst (λ k. BrokenAfterFailure k (Update op ∷ []) (e ∷ [])) (sym none) broken) seen low
          (ap (λ (k : Option ℕ). option_or k (failed_in (e ∷ []))) none ∙ failed)

    asked : (k : Option ℕ) (query : Query) (reply : Reply) (place : ℕ) → BrokenAfterFailure {State = State} {Op = Op} k (Ask query ∷ []) (Answered reply place ∷ [])
    asked None query reply place = tt
    asked (Some p) query reply place = tt

    or_none : (k : Option ℕ) → option_or k None ≡ k
    or_none None = refl
    or_none (Some p) = refl

    pub runs_more : (c : Call State Op Query Reply) (e : CallEnd State Op Query Reply) → slice_get calls (length ends) ≡ Some c → CallDone b means onll c old new e
        → RunsSo b onll.first calls (ends ++ e ∷ []) new
    runs_more (Update op) (Answered reply place) at h =
        let seen = h.tried.seen in let low = h.looked.seen in let above = h.tried.ordered.after in
        ordered_more op (Answered reply place) place h.last h.looked h.tried.ordered at refl tt h.tried.reply_is tt tt (omega arith) (omega arith) (sym h.tried.broken)
    runs_more (Update op) Running at h = absurd h
    runs_more (Update op) (Ordered place) at h = absurd h
    runs_more (Update op) (FenceFailed place) at h =
        let seen = h.tried.seen ∙ h.looked.seen in
        ordered_more op (FenceFailed place) place h.last h.looked h.tried.ordered at refl tt tt tt tt (omega arith) tt (sym h.tried.broken)
    runs_more (Update op) (Broken place) at h =
        let same : new ≡ h.last = h.tried.1 in
        let broken : old.broken ≡ Some place = sym h.looked.broken ∙ h.tried.0 in
        let seen = ap (λ (v : PassView State Device). v.spot.me.part.seen) same ∙ h.looked.seen in
        goes_on (Update op) (Broken place) (subst (λ (v : PassView State Device). IsSamePass old v) (sym same) h.looked.same) at
        (placed_update b calls ends op (Broken place) at ∙ (append-nil (placed_updates b calls ends) ∙ (own_old ∙ sym (ap (λ (v : PassView State Device). v.spot.me.own) same ∙ h.looked.own))))
        tt tt tt
        (ordered_so (λ d f. InOrder d f (Update op) (Broken place)) (updates_above old.spot.me.part.seen op (Broken place) tt))
        (subst (λ k. BrokenAfterFailure {State = State} {Op = Op} {Query = Query} {Reply = Reply} k (Update op ∷ []) (Broken place ∷ [])) (sym broken) (refl, tt)) (omega arith) tt
        (or_none old.broken ∙ sym (ap (λ (v : PassView State Device). v.broken) same ∙ h.looked.broken))
    runs_more (Ask query) (Answered reply place) at (front, h) =
        let after = h.after in let seen = h.seen in let below = h.below in let f = h.front_is in let base = t.lawful.told.part.seen.0 in
        goes_on (Ask query) (Answered reply place) h.same at
        (placed_ask b calls ends query (Answered reply place) at ∙ (own_old ∙ sym h.own)) tt tt
        (omega arith, omega arith, h.reply_is)
        (ordered_so (λ d f. InOrder d f (Ask query) (Answered reply place)) (reads_above old.spot.me.part.seen place query reply h.after))
        (asked old.broken query reply place) (omega arith) (omega arith) (or_none old.broken ∙ sym h.broken)
    runs_more (Ask query) Running at h = absurd h
    runs_more (Ask query) (Ordered place) at h = absurd h
    runs_more (Ask query) (FenceFailed place) at h = absurd h
    runs_more (Ask query) (Broken place) at h = absurd h

-- ---- room
module _ {State Op Query Reply Device : Type 0} (b : Behaviour State Op Query Reply) (means : Device → DeviceView) (onll : OnllView State) where
  abbrev wide : ℕ
  wide = onll.trace.plan.threads + 1

  -- nothing was ordered
  room_same : (m n : ℕ) (old new : PassView State Device) → n ≤ m → new.spot.me.own ≡ old.spot.me.own → new.log ≡ old.log → new.room ≡ old.room
      → HasRoomFor means onll m old → HasRoomFor means onll n new
  room_same m n old new few own log room r =
      let o = ap length own in let nodes = r.nodes in let lines = r.lines in
      let more : wide * n ≤ wide * m = mul-le-mul_left wide few in
      let free = ap (λ (l : LogState Device). free_of (length (means l.device).read) l.entries) log in
      record { nodes = omega arith; lines = omega arith }

  room_ordered : (row : OpRow) (n : ℕ) (old last new : PassView State Device) (place : ℕ) → IsTied b means onll new → HasOnlyLooked old last → IsOrdered means onll row last new place
      → HasRoomFor means onll (suc n) old → HasRoomFor means onll n new
  room_ordered row n old last new place u looked o r =
      let w : Segment = window new.spot.known o.look_place place in
      let P : Segment → Type 0 = λ s. length s.nodes ≤ onll.trace.plan.threads in
      let all : AllByRecursion P (last.log.entries ++ w ∷ []) = subst (λ (z : ℕ × List Segment). AllByRecursion (λ (s : Segment). length s.nodes ≤ z.0) z.1)
      (λ i. ((ap (λ (k : Plan). k.threads) u.of.plan) i, (sym u.entries ∙ o.entry) i)) u.lawful.told.part.few in
      let few : length w.nodes ≤ onll.trace.plan.threads = (all_right P last.log.entries (w ∷ []) all).0 in
      let own = ap length o.own in let before = ap length looked.own in
      let room : new.room ≡ old.room = o.same.room ∙ looked.same.room in
      let nodes = r.nodes in
      let lines : wide * suc n ≤ free_of (length (means old.log.device).read) old.log.entries = r.lines in
      let free = ap (λ (l : LogState Device). free_of (length (means l.device).read) l.entries) looked.log in
      let long = o.lines in
      let used : lines_in new.log.entries ≡ lines_in last.log.entries + lines_in (w ∷ []) = ap lines_in o.entry ∙ lines_in-append last.log.entries (w ∷ []) in
      let product : wide * suc n ≡ wide * n + wide = mul-suc wide n in
      record {
        nodes = omega (arith, length-append last.spot.me.own ((row, place) ∷ []));
        lines = omega arith;
      }

  pub room_after : (c : Call State Op Query Reply) (rest : List (Call State Op Query Reply)) (e : CallEnd State Op Query Reply) (old new : PassView State Device)
      → IsTied b means onll new → CallDone b means onll c old new e → HasRoomFor means onll (updates_in (c ∷ rest)) old → HasRoomFor means onll (updates_in rest) new
  room_after (Update op) rest (Answered reply place) old new u h r = room_ordered (b.row_of op) (updates_in rest) old h.last new place u h.looked h.tried.ordered r
  room_after (Update op) rest Running old new u h r = absurd h
  room_after (Update op) rest (Ordered place) old new u h r = absurd h
  room_after (Update op) rest (FenceFailed place) old new u h r = room_ordered (b.row_of op) (updates_in rest) old h.last new place u h.looked h.tried.ordered r
  room_after (Update op) rest (Broken place) old new u h r =
      let same : new ≡ h.last = h.tried.1 in
      room_same (suc (updates_in rest)) (updates_in rest) old new (omega arith)
      (ap (λ (v : PassView State Device). v.spot.me.own) same ∙ h.looked.own) (ap (λ (v : PassView State Device). v.log) same ∙ h.looked.log)
      (ap (λ (v : PassView State Device). v.room) same ∙ h.looked.same.room) r
  room_after (Ask query) rest (Answered reply place) old new u h r =
      room_same (updates_in rest) (updates_in rest) old new (omega arith) h.1.own h.1.log h.1.same.room r
  room_after (Ask query) rest Running old new u h r = absurd h
  room_after (Ask query) rest (Ordered place) old new u h r = absurd h
  room_after (Ask query) rest (FenceFailed place) old new u h r = absurd h
  room_after (Ask query) rest (Broken place) old new u h r = absurd h

  one_of : (c : Call State Op Query Reply) (rest : List (Call State Op Query Reply)) → updates_in (c ∷ []) ≤ updates_in (c ∷ rest)
  one_of (Update op) rest = omega arith
  one_of (Ask query) rest = omega arith

  -- room for all is room for the first
  pub room_first : (c : Call State Op Query Reply) (rest : List (Call State Op Query Reply)) (pass : PassView State Device)
      → HasRoomFor means onll (updates_in (c ∷ rest)) pass → HasRoomFor means onll (updates_in (c ∷ [])) pass
  room_first c rest pass r = room_same (updates_in (c ∷ rest)) (updates_in (c ∷ [])) pass pass (one_of c rest) refl refl refl r

  -- with room no update is refused for nodes
  pub nodes_left : (op : Op) (old new : PassView State Device) → HasRoomFor means onll 1 old → HasUpdated b means onll op old new (Err lasting.NodesFull) → ⊥
  nodes_left op old new r h =
      let n = r.nodes in let o = ap length h.looked.own in let m = h.looked.same.room in let full = h.tried.0.1 in omega arith

  -- nor for lines
  pub lines_left : (op : Op) (old new : PassView State Device) (free : ℕ) → HasRoomFor means onll 1 old → HasUpdated b means onll op old new (Err (lasting.LogFull free)) → ⊥
  lines_left op old new free r h =
      let lines : wide * 1 ≤ free_of (length (means old.log.device).read) old.log.entries = r.lines in
      let one : wide * 1 ≡ wide = mul-one wide in
      let few = h.tried.0.2 in
      let same = ap (λ (l : LogState Device). free_of (length (means l.device).read) l.entries) h.looked.log in
      omega arith

-- ---- a worker's script
module _ {State Op Query Reply Device : Type 0} (b : Behaviour State Op Query Reply) (means : Device → DeviceView) (onll : OnllView State)
    (script : List (Call State Op Query Reply)) (old : PassView State Device) where
  -- before the first call
  pub runs_none : IsReadyPass b means onll script old → RunsSo b onll.first script [] old
  runs_none r = record {
    legal = record {
      places = none_placed b script ∙ (sym r.own ∙ r.tied.lawful.told.own);
      replies = tt;
      answers = tt;
      reads_in_order = tt;
      broken = none_broken script;
      over = tt;
    };
    low = tt;
    over = tt;
    failed = sym r.whole;
  }
    where
      none_broken : (calls : List (Call State Op Query Reply)) → BrokenAfterFailure None calls []
      none_broken [] = tt
      none_broken (c ∷ calls) = tt

  -- what a loop over the calls keeps, after these outcomes
  pub record Keeps (ends : List (CallEnd State Op Query Reply)) (i : ℕ) (pass : PassView State Device) : Type 0 where
    pub tied : IsTied b means onll pass
    pub runs : RunsSo b onll.first script ends pass
    pub many : length ends ≡ i
    pub left : HasRoomFor means onll (updates_in (drop i script)) pass
    pub gone : HasGoneOn means old pass

  pub keeps_first : IsReadyPass b means onll script old → Keeps [] 0 old
  keeps_first r = record { tied = r.tied; runs = runs_none r; many = refl; left = r.room; gone = gone_self means old }

  module _ (ends : List (CallEnd State Op Query Reply)) (i : ℕ) (pass : PassView State Device) (k : Keeps ends i pass) (c : Call State Op Query Reply) (is : c ≡ get_or script i c) (l : i < length script) where
    abbrev rest : List (Call State Op Query Reply)
    rest = drop (i + 1) script

    here : drop i script ≡ c ∷ rest
    here = drop_more script i c l ∙ ap (λ (z : Call State Op Query Reply). z ∷ rest) (sym is)

    room : HasRoomFor means onll (updates_in (c ∷ rest)) pass
    room = subst (λ (z : List (Call State Op Query Reply)). HasRoomFor means onll (updates_in z) pass) here k.left

    pub keeps_room : HasRoomFor means onll (updates_in (c ∷ [])) pass
    keeps_room = room_first b means onll c rest pass room

    pub keeps_more : (e : CallEnd State Op Query Reply) (new : PassView State Device) → IsTied b means onll new → CallDone b means onll c pass new e → Keeps (ends ++ e ∷ []) (i + 1) new
    keeps_more e new t h = record {
      tied = t;
      runs = runs_more b means onll script ends pass new k.tied t k.runs c e (ap (slice_get script) k.many ∙ got_at script i c is l) h;
      many = let n = k.many in omega (arith, length-append ends (e ∷ []));
      left = room_after b means onll c rest e pass new t h room;
      gone = gone_then means old pass new k.gone (call_gone_on b means onll c e pass new h);
    }

  pub keeps_all : (ends : List (CallEnd State Op Query Reply)) (i : ℕ) (pass : PassView State Device) → Keeps ends i pass → i ≡ length script → HasWorked b means onll script ends old pass
  keeps_all ends i pass k e = record { tied = k.tied; runs = k.runs; many = k.many ∙ e; gone_on = k.gone }
