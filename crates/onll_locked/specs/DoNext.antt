use Rattle.std.specs.Prelude.{ℕ, Bool, true, false, ◌≡◌, ◌+◌, ◌*◌, ◌<◌, ◌≤◌, List, [], ◌∷◌, ◌++◌, length, Option, Some, None, is_some, IfSome, slice_get, slice_set}
use Rattle.onll_words.specs.declared.line.OpRow.{OpRow}
use Rattle.onll_model.specs.declared.node.Node.{Node}
use Rattle.onll_model.specs.declared.call.Call.{Call}
use Rattle.onll_model.specs.declared.call.Call.TheVariants.{Update, Ask}
use Rattle.onll_model.specs.Object.{Behaviour}
use Rattle.onll_model.specs.Trace.{reply_after, answer_after}
use Rattle.onll_model.specs.Segment.{last_place}
use Rattle.onll_model.specs.Frames.{is_available}
use Rattle.onll_model.specs.Events.{next_node, window}
use Rattle.onll_pmem.specs.Pmem.{DeviceView, ToldSettled}
use Rattle.onll_log.specs.Encoding.{entry_lines}
use Rattle.onll_log.specs.Grammar.{lines_in}
use Rattle.onll_log.specs.Log.{LogState, Appends, free_of}
use Rattle.onll_locked.specs.declared.ends.LockedEnd.{LockedEnd}
use Rattle.onll_locked.specs.declared.ends.LockedEnd.TheVariants as ended
use Rattle.onll_locked.specs.declared.ends.Next.{Next}
use Rattle.onll_locked.specs.declared.ends.Next.TheVariants.{Answered, Done, FenceFailed, Broken}
use Rattle.onll_locked.specs.Locked.{LockedThread, LockedState, next_call, failed_at, own_places, last_in, updates_left}

-- What one call does under the lock.

-- The log is the thread's, over a device of this many lines: its head says so; it is broken exactly where a fence of the
-- thread has failed; it ends at the thread's last update; and it has room for those that are left.
pub record IsThreadLog {State Op Query Reply Device : Type 0} (c : LockedState State Op Query Reply) (t : ℕ)
    (log : LogState Device) (lines : ℕ) : Type 0 where
  pub thread : log.head.thread ≡ t
  pub threads : log.head.threads ≡ length c.threads
  pub broken : IfSome (slice_get c.threads t) (λ th. log.broken ≡ is_some (failed_at th.ends))
  pub last : IfSome (slice_get c.threads t) (λ th. last_place 0 log.entries ≡ last_in 0 (own_places th))
  pub room : IfSome (slice_get c.threads t) (λ th. (length c.threads + 1) * updates_left th ≤ free_of lines log.entries)

-- A call that has no node can end so: a read is answered at the end of the trace, and an update is broken by the one whose
-- fence failed.
abbrev pub EndsSo : {State Op Query Reply : Type 0} → Behaviour State Op Query Reply → LockedState State Op Query Reply
    → LockedThread State Op Query Reply → Option (Call State Op Query Reply) → LockedEnd State Op Query Reply → Type 0
EndsSo b c th (Some (Update op)) (ended.Broken place) = failed_at th.ends ≡ Some place
EndsSo b c th (Some (Ask query)) (ended.Answered place reply) = (place ≡ length c.trace) × (reply ≡ answer_after b c.initial c.trace query)
EndsSo b c th call e = ⊥

-- the thread has one outcome more
abbrev pub with_end : {State Op Query Reply : Type 0} → LockedThread State Op Query Reply
    → LockedEnd State Op Query Reply → LockedThread State Op Query Reply
with_end th e = record { script = th.script; ends = th.ends ++ e ∷ [] }

-- a call has ended so, and changed nothing else
abbrev pub after_end : {State Op Query Reply : Type 0} → LockedState State Op Query Reply → ℕ
    → LockedThread State Op Query Reply → LockedEnd State Op Query Reply → LockedState State Op Query Reply
after_end c t th e = record { initial = c.initial; trace = c.trace; flags = c.flags; threads = slice_set c.threads t (with_end th e) }

-- an update has ended so, and its node stands at the end of the trace, with this flag
abbrev pub after_node : {State Op Query Reply : Type 0} → LockedState State Op Query Reply → ℕ
    → LockedThread State Op Query Reply → OpRow → Bool → LockedEnd State Op Query Reply
    → LockedState State Op Query Reply
after_node c t th row flag e = record {
  initial = c.initial;
  trace = c.trace ++ next_node c.trace t row ∷ [];
  flags = c.flags ++ flag ∷ [];
  threads = slice_set c.threads t (with_end th e);
}

-- the newest place that is available: it is 0 or flagged, and no later one is flagged
pub record IsNewestPlace (flags : List Bool) (place : ℕ) : Type 0 where
  pub available : is_available flags place ≡ true
  pub none_later : (q : ℕ) → place < q → is_available flags q ≡ false

-- The log has one entry more, made with one fence: the nodes of the trace from the newest place that was available, without
-- it, to the trace's end. All of it stands above the log's last place, and on the device nothing else has changed.
pub record IsLogged {Device : Type 0} (flags : List Bool) (trace : List Node) (old new : LogState Device)
    (was is : DeviceView) : Type 0 where
  pub below : ℕ
  pub newest : IsNewestPlace flags below
  pub own : below < length trace
  pub head : new.head ≡ old.head
  pub entries : new.entries ≡ old.entries ++ window trace below (length trace) ∷ []
  pub above : last_place 0 old.entries ≤ below
  pub fences : new.fences ≡ old.fences + 1
  pub lines : Appends was is (1 + lines_in old.entries) (entry_lines old.head (length old.entries) (window trace below (length trace)))

module _ {State Op Query Reply Device : Type 0} (b : Behaviour State Op Query Reply)
    (c : LockedState State Op Query Reply) (t : ℕ) (th : LockedThread State Op Query Reply)
    (new : LockedState State Op Query Reply) (log log' : LogState Device) (was is : DeviceView) where
  -- an update is answered: its flag is set, its entry is durable, and no fence has failed
  pub record IsUpdated (op : Op) : Type 0 where
    pub whole : failed_at th.ends ≡ None
    pub state : new ≡ after_node c t th (b.row_of op) true (ended.Answered (length c.trace + 1) (reply_after b c.initial c.trace op))
    pub logged : IsLogged c.flags new.trace log log' was is
    pub broken : log'.broken ≡ false
    pub faults : is.faults ≡ was.faults
    pub settled : ToldSettled is.told is.read

  -- its fence failed: its node stands at this place with its flag unset, its entry is pending, and the log is broken
  pub record IsFailed (place : ℕ) : Type 0 where
    pub op : Op
    pub call : next_call th ≡ Some (Update op)
    pub whole : failed_at th.ends ≡ None
    pub place_is : place ≡ length c.trace + 1
    pub state : new ≡ after_node c t th (b.row_of op) false (ended.FenceFailed (length c.trace + 1))
    pub logged : IsLogged c.flags new.trace log log' was is
    pub broken : log'.broken ≡ true
    pub faults : is.faults ≡ was.faults + 1
    pub pending : ToldSettled is.told was.read

  -- it is broken by an earlier one whose fence failed, and nothing is ordered or logged
  pub record IsBroken (place : ℕ) : Type 0 where
    pub op : Op
    pub call : next_call th ≡ Some (Update op)
    pub failed : failed_at th.ends ≡ Some place
    pub state : new ≡ after_end c t th (ended.Broken place)
    pub log_stays : log' ≡ log

  -- a read is answered at the end of the trace
  pub record ReadIsAnswered (query : Query) : Type 0 where
    pub state : new ≡ after_end c t th (ended.Answered (length c.trace) (answer_after b c.initial c.trace query))
    pub log_stays : log' ≡ log

  -- the script is at its end
  pub record IsDone : Type 0 where
    pub call : next_call th ≡ None
    pub state : new ≡ c
    pub log_stays : log' ≡ log

  abbrev pub CallIsAnswered : Option (Call State Op Query Reply) → Type 0
  CallIsAnswered None = ⊥
  CallIsAnswered (Some (Update op)) = IsUpdated op
  CallIsAnswered (Some (Ask query)) = ReadIsAnswered query

  -- what the thread's next call did, by what was answered
  abbrev pub HasDone : Next → Type 0
  HasDone Answered = CallIsAnswered (next_call th)
  HasDone Done = IsDone
  HasDone (FenceFailed place) = IsFailed place
  HasDone (Broken place) = IsBroken place
