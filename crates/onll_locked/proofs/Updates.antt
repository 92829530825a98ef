use Rattle.std.proofs.Common.{◌≡◌, ◌≢◌, ℕ, zero, suc, ◌+◌, ◌-◌, ◌*◌, ◌<◌, ◌≤◌, ⊎_elim, Bool, true, false, List, [], ◌∷◌, ◌++◌, length, take, get_or, Option, Some, None, Result, Ok, Err, refl, sym, ap, ◌∙◌, subst, arith, true≢false}
use Rattle.std.specs.Prelude.{IfSome, OnOk, OnErr, is_ok, is_err, is_some}
use Rattle.std.specs.List.{All, AllByRecursion, slice_get}
use Rattle.std.specs.Option.{option_or}
use Rattle.std.proofs.lemmas.List.{length-set}
use Rattle.std.proofs.lemmas.List.Elements.{All-from_recursion}
use Rattle.std.proofs.lemmas.Option.{slice_get_read}
use mathlib.Core.Logic.{dite}
use Rattle.onll_model.specs.declared.node.Node.{Node}
use Rattle.onll_model.specs.declared.call.Call.TheVariants.{Update}
use Rattle.onll_model.specs.Object.{Behaviour}
use Rattle.onll_model.specs.Trace.{node_at, reply_after}
use Rattle.onll_model.specs.Segment.{Segment, nodes_between, last_place}
use Rattle.onll_model.specs.Events.{next_node, window}
use Rattle.onll_model.proofs.Lists.{same_some, some_not_none, present, set_here, at_window, length_window, all_at, all_take, all_drop, all_append}
use Rattle.onll_model.proofs.Traces.{node_place, node_snoc, few_nodes}
use Rattle.onll_model.proofs.Flags.{available_low}
use Rattle.onll_model.proofs.Segments.{last_snoc}
use Rattle.onll_pmem.specs.declared.pmem.FenceFailed.{FenceFailed}
use Rattle.onll_pmem.specs.Pmem.{DeviceView, ToldSettled}
use Rattle.onll_log.specs.Encoding.{CanHold, entry_lines}
use Rattle.onll_log.specs.Grammar.{lines_in}
use Rattle.onll_log.specs.Log.{LogState, Appends, free_of}
use Rattle.onll_locked.specs.declared.ends.LockedEnd.{LockedEnd}
use Rattle.onll_locked.specs.declared.ends.LockedEnd.TheVariants as ended
use Rattle.onll_locked.specs.declared.ends.Next.{Next}
use Rattle.onll_locked.specs.declared.ends.Next.TheVariants as nexts
use Rattle.onll_locked.specs.Locked.{LockedThread, LockedState, next_call, failed_in, failed_at, own_places, last_in, updates_left, places_of, update_end}
use Rattle.onll_locked.specs.DoNext.{with_end, after_node, IsThreadLog, IsNewestPlace, IsLogged, CallIsAnswered, HasDone}
use Rattle.onll_locked.specs.Kept.{KeepsLocked}
use Rattle.onll_locked.proofs.Places.{last_more, failed_more, places_more}
use Rattle.onll_locked.proofs.Keeping.{node_fits, one_more, short, fewer}

-- What an update under the lock finds and leaves.

-- a thread as it stands in the list that the code reads is the one that a clause speaks of
pub at_read : {A : Type 0} (xs : List A) (i : ℕ) (x : A) → i < length xs → x ≡ get_or xs i x → slice_get xs i ≡ Some x
at_read xs i x l e = slice_get_read xs (length xs) i x refl l e

pub said_of : {A : Type 0} (P : A → Type 0) (o : Option A) (x : A) → o ≡ Some x → IfSome o P → P x
said_of P o x e h = subst (λ (z : Option _). IfSome z P) e h

pub say_of : {A : Type 0} (P : A → Type 0) (o : Option A) (x : A) → o ≡ Some x → P x → IfSome o P
say_of P o x e h = subst (λ (z : Option _). IfSome z P) (sym e) h

lines_in_snoc : (ss : List Segment) (s : Segment) → lines_in (ss ++ s ∷ []) ≡ lines_in ss + suc (length s.nodes)
lines_in_snoc [] s = omega arith
lines_in_snoc (x ∷ ss) s = let h = lines_in_snoc ss s in omega arith

-- what appending an entry asks
pub record MayAppend {Device : Type 0} (log : LogState Device) (lines p : ℕ) (ns : List Node) : Type 0 where
  pub whole : log.broken ≡ false
  pub some_nodes : 1 ≤ length ns
  pub few_nodes : length ns ≤ log.head.threads
  pub room : length ns + 1 ≤ free_of lines log.entries
  pub after : last_place 0 log.entries + length ns ≤ p
  pub place : p ≤ 4096 * log.head.threads
  pub nodes : All (CanHold log.head.threads) ns

-- and what it promises
pub record HasAppended {Device Unit : Type 0} (log log' : LogState Device) (was is : DeviceView) (s : Segment) (r : Result Unit FenceFailed) : Type 0 where
  pub head : log'.head ≡ log.head
  pub entries : log'.entries ≡ log.entries ++ s ∷ []
  pub fences : log'.fences ≡ log.fences + 1
  pub broken : log'.broken ≡ is_err r
  pub lines : Appends was is (1 + lines_in log.entries) (entry_lines log.head (length log.entries) s)
  pub faults : OnOk r (is.faults ≡ was.faults)
  pub settled : OnOk r (ToldSettled is.told is.read)
  pub failed : OnErr r (is.faults ≡ was.faults + 1)
  pub pending : OnErr r (ToldSettled is.told was.read)

module _ {State Op Query Reply : Type 0} (b : Behaviour State Op Query Reply) (nodes flags : ℕ) (object : State) (c : LockedState State Op Query Reply) (k : KeepsLocked b nodes flags object c)
    (t : ℕ) (th : LockedThread State Op Query Reply) (at : slice_get c.threads t ≡ Some th) (op : Op) (is : next_call th ≡ Some (Update op)) (whole : failed_at th.ends ≡ None) where
  abbrev x : Node
  x = next_node c.trace t (b.row_of op)

  abbrev longer : List Node
  longer = c.trace ++ x ∷ []

  size : length longer ≡ length c.trace + 1
  size = one_more b nodes flags object c k t th at op is whole

  module _ (below : ℕ) (newest : IsNewestPlace c.flags below) where
    pub below_low : below ≤ length c.trace
    below_low = let l = available_low c.flags below newest.available in let m = k.as_many in omega arith

    -- the thread's last update is available
    last_low : last_in 0 (own_places th) ≤ below
    last_low = dite (native.Mathlib.Decide.dec_le (last_in 0 (own_places th)) below) (λ le. le)
        (λ gt. absurd (true≢false (sym ((k.threads t th at).settled whole) ∙ newest.none_later (last_in 0 (own_places th)) (omega arith))))

    -- nodes that aren't available are of different threads
    apart : (p q : ℕ) (y z : Node) → below < p → p < q → node_at longer p ≡ Some y → node_at longer q ≡ Some z → y.thread ≢ z.thread
    apart p q y z low lower first second same =
        let high = (node_place longer q z second).1 in
        let s = size in
        ⊎_elim
        (λ (old : node_at c.trace p ≡ Some y). by_old old)
        (λ (new : (p ≡ suc (length c.trace)) × (x ≡ y)). let e = new.0 in absurd (omega arith))
        (node_snoc c.trace x y p first)
      where
        by_old : node_at c.trace p ≡ Some y → ⊥
        by_old old = ⊎_elim
            (λ (e : node_at c.trace q ≡ Some z). let l = (k.threads y.thread v.0 v.1).last p failed q z e (sym same) in omega arith)
            (λ (e : (q ≡ suc (length c.trace)) × (x ≡ z)). let own : y.thread ≡ t = same ∙ sym (ap (λ (n : Node). n.thread) e.1) in
            let mine : v.0 ≡ th = same_some v.0 th (sym v.1 ∙ (ap (slice_get c.threads) own ∙ at)) in
            some_not_none p (sym failed ∙ (ap (λ (w : LockedThread State Op Query Reply). failed_at w.ends) mine ∙ whole)))
            (node_snoc c.trace x z q second)
          where
            v : (w : LockedThread State Op Query Reply) × (slice_get c.threads y.thread ≡ Some w)
            v = let place = node_place c.trace p y old in present c.threads y.thread (by_place p old)
              where
                by_place : (n : ℕ) → node_at c.trace n ≡ Some y → y.thread < length c.threads
                by_place zero e = some_not_none y (sym e)
                by_place (suc n) e = (all_at (CanHold (length c.threads)) c.trace k.fits n y e).0

            failed : failed_at (v.0).ends ≡ Some p
            failed = (k.flags_tell y.thread v.0 v.1 p y old refl).0 (newest.none_later p low)

    few_window : length (nodes_between longer below (length longer)) ≤ length c.threads
    few_window = few_nodes (length c.threads) (nodes_between longer below (length longer))
        (λ i j y z l e f. apart (suc (below + i)) (suc (below + j)) y z (omega arith) (omega arith) (at_window longer below (length longer) i y e).0 (at_window longer below (length longer) j z f).0)
        (λ i y e. (all_at (CanHold (length c.threads)) longer longer_fits (below + i) y (at_window longer below (length longer) i y e).0).0)
      where
        longer_fits : AllByRecursion (CanHold (length c.threads)) longer
        longer_fits = all_append (CanHold (length c.threads)) c.trace (x ∷ []) k.fits (node_fits b nodes flags object c k t th at op is whole, tt)

    module _ {Device : Type 0} (log : LogState Device) (lines : ℕ) (ready : IsThreadLog c t log lines) where
      pub may_append : (place : ℕ) (ns : List Node) → place ≡ length longer → ns ≡ nodes_between longer below (length longer) → MayAppend log lines place ns
      may_append place ns place_is ns_is =
          let s = size in
          let n : length ns ≡ length longer - below = ap length ns_is ∙ length_window longer below (length longer) (let l = below_low in omega arith) (omega arith) in
          let l = below_low in
          let few : length ns ≤ length c.threads = subst (λ (z : List Node). length z ≤ length c.threads) (sym ns_is) few_window in
          let threads = ready.threads in
          let left = said_of (λ (z : LockedThread State Op Query Reply). (length c.threads + 1) * updates_left z ≤ free_of lines log.entries) (slice_get c.threads t) th at ready.room in
          let f = fewer b nodes flags object c k t th at op is whole (ended.Broken 0) in
          let w = with_end th (ended.Broken 0) in
          let product : (length c.threads + 1) * suc (updates_left w) ≡ (length c.threads + 1) * updates_left w + (length c.threads + 1) = grind arith in
          let same : (length c.threads + 1) * updates_left th ≡ (length c.threads + 1) * suc (updates_left w) = ap (λ (z : ℕ). (length c.threads + 1) * z) f in
          let last = said_of (λ (z : LockedThread State Op Query Reply). last_place 0 log.entries ≡ last_in 0 (own_places z)) (slice_get c.threads t) th at ready.last in
          let low = last_low in
          let high = short b nodes flags object c k t th at op is whole in
          record {
            whole = said_of (λ (z : LockedThread State Op Query Reply). log.broken ≡ is_some (failed_at z.ends)) (slice_get c.threads t) th at ready.broken ∙ ap is_some whole;
            some_nodes = omega arith;
            few_nodes = omega arith;
            room = omega arith;
            after = omega arith;
            place = subst (λ (z : ℕ). place ≤ 4096 * z) (sym threads) (omega arith);
            nodes = subst (λ (z : List Node). All (CanHold log.head.threads) z) (sym ns_is) (subst (λ (z : ℕ). All (CanHold z) (nodes_between longer below (length longer))) (sym threads)
                (All-from_recursion (CanHold (length c.threads)) (nodes_between longer below (length longer)) (all_drop (CanHold (length c.threads)) below (take (length longer) longer) (all_take (CanHold (length c.threads)) (length longer) longer
                (all_append (CanHold (length c.threads)) c.trace (x ∷ []) k.fits (node_fits b nodes flags object c k t th at op is whole, tt))))));
          }

      -- ---- after the append
      module _ {Unit : Type 0} (log' : LogState Device) (was is' : DeviceView) (lines_is : lines ≡ length was.read) (r : Result Unit FenceFailed)
          (appended : HasAppended log log' was is' (window longer below (length longer)) r) (fenced : Bool) (fenced_is : fenced ≡ is_ok r) where
        abbrev e : LockedEnd State Op Query Reply
        e = update_end (length c.trace + 1) (reply_after b c.initial c.trace op) fenced

        abbrev after : LockedState State Op Query Reply
        after = after_node c t th (b.row_of op) fenced e

        logged : IsLogged c.flags longer log log' was is'
        logged =
            let last = said_of (λ (z : LockedThread State Op Query Reply). last_place 0 log.entries ≡ last_in 0 (own_places z)) (slice_get c.threads t) th at ready.last in
            let low = last_low in
            let high = below_low in
            let s = size in
            record { below = below; newest = newest; own = omega arith; head = appended.head; entries = appended.entries; above = omega arith; fences = appended.fences; lines = appended.lines }

        -- what the call has done, by its answer
        pub has_done : (next : Next) → (fenced ≡ true → next ≡ nexts.Answered) → (fenced ≡ false → next ≡ nexts.FenceFailed (length c.trace + 1)) → HasDone b c t th after log log' was is' next
        has_done next ok failed = by r refl
          where
            by : (q : Result Unit FenceFailed) → r ≡ q → HasDone b c t th after log log' was is' next
            by (Ok u) e₁ =
                let set_now : fenced ≡ true = fenced_is ∙ ap is_ok e₁ in
                subst (HasDone b c t th after log log' was is') (sym (ok set_now)) (subst (CallIsAnswered b c t th after log log' was is') (sym is) record {
                  whole = whole;
                  state = ap (λ (f : Bool). after_node c t th (b.row_of op) f (update_end (length c.trace + 1) (reply_after b c.initial c.trace op) f)) set_now;
                  logged = logged;
                  broken = appended.broken ∙ ap is_err e₁;
                  faults = subst (λ (z : Result Unit FenceFailed). OnOk z (is'.faults ≡ was.faults)) e₁ appended.faults;
                  settled = subst (λ (z : Result Unit FenceFailed). OnOk z (ToldSettled is'.told is'.read)) e₁ appended.settled;
                })
            by (Err u) e₁ =
                let unset : fenced ≡ false = fenced_is ∙ ap is_ok e₁ in
                subst (HasDone b c t th after log log' was is') (sym (failed unset)) record {
                  op = op;
                  call = is;
                  whole = whole;
                  place_is = refl;
                  state = ap (λ (f : Bool). after_node c t th (b.row_of op) f (update_end (length c.trace + 1) (reply_after b c.initial c.trace op) f)) unset;
                  logged = logged;
                  broken = appended.broken ∙ ap is_err e₁;
                  faults = subst (λ (z : Result Unit FenceFailed). OnErr z (is'.faults ≡ was.faults + 1)) e₁ appended.failed;
                  pending = subst (λ (z : Result Unit FenceFailed). OnErr z (ToldSettled is'.told was.read)) e₁ appended.pending;
                }

        -- and the log stands ready for the next one
        pub is_ready : IsThreadLog after t log' (length is'.read)
        is_ready =
            let w : LockedThread State Op Query Reply = with_end th e in
            let here : slice_get after.threads t ≡ Some w = set_here c.threads t w th at in
            let may = may_append (length longer) (nodes_between longer below (length longer)) refl refl in
            let many = length-set c.threads t w in
            let few = may.few_nodes in
            let own = ready.threads in
            let s = size in
            let f = fewer b nodes flags object c k t th at op is whole e in
            let left = said_of (λ (z : LockedThread State Op Query Reply). (length c.threads + 1) * updates_left z ≤ free_of lines log.entries) (slice_get c.threads t) th at ready.room in
            let product : (length c.threads + 1) * suc (updates_left w) ≡ (length c.threads + 1) * updates_left w + (length c.threads + 1) = grind arith in
            let same : (length c.threads + 1) * updates_left th ≡ (length c.threads + 1) * suc (updates_left w) = ap (λ (z : ℕ). (length c.threads + 1) * z) f in
            let used = ap lines_in appended.entries ∙ lines_in_snoc log.entries (window longer below (length longer)) in
            let count : length is'.read ≡ lines = appended.lines.count ∙ sym lines_is in
            record {
              thread = ap (λ z. z.thread) appended.head ∙ ready.thread;
              threads = ap (λ z. z.threads) appended.head ∙ (ready.threads ∙ sym many);
              broken = say_of (λ (z : LockedThread State Op Query Reply). log'.broken ≡ is_some (failed_at z.ends)) (slice_get after.threads t) w here (appended.broken ∙ (by r fenced fenced_is ∙ ap is_some (sym failed_now)));
              last = say_of (λ (z : LockedThread State Op Query Reply). last_place 0 log'.entries ≡ last_in 0 (own_places z)) (slice_get after.threads t) w here
                  (ap (last_place 0) appended.entries ∙ (last_snoc 0 log.entries (window longer below (length longer)) ∙ (s ∙ sym (ap (last_in 0) places ∙ last_more 0 (own_places th) (length c.trace + 1)))));
              room = say_of (λ (z : LockedThread State Op Query Reply). (length after.threads + 1) * updates_left z ≤ free_of (length is'.read) log'.entries) (slice_get after.threads t) w here
                  (subst (λ (z : ℕ). (z + 1) * updates_left w ≤ free_of (length is'.read) log'.entries) (sym many) (omega arith));
            }
          where
            failed_now : failed_at (th.ends ++ e ∷ []) ≡ failed_in e
            failed_now = failed_more th.ends e ∙ ap (λ (z : Option ℕ). option_or z (failed_in e)) whole

            by : (q : Result Unit FenceFailed) (f : Bool) → f ≡ is_ok q → is_err q ≡ is_some (failed_in (update_end {State = State} {Op = Op} {Query = Query} (length c.trace + 1) (reply_after b c.initial c.trace op) f))
            by (Ok u) true h = refl
            by (Ok u) false h = absurd (true≢false (sym h))
            by (Err u) true h = absurd (true≢false h)
            by (Err u) false h = refl

            one_place : (f : Bool) → places_of (Update op) (update_end {State = State} {Op = Op} {Query = Query} (length c.trace + 1) (reply_after b c.initial c.trace op) f) ≡ (length c.trace + 1) ∷ []
            one_place true = refl
            one_place false = refl

            places : own_places (with_end th e) ≡ own_places th ++ (length c.trace + 1) ∷ []
            places = places_more th.script th.ends (Update op) e is ∙ ap (λ (z : List ℕ). own_places th ++ z) (one_place fenced)
