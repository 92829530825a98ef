use Rattle.std.specs.Prelude.{ℕ, true, false, List, [], ◌∷◌, ◌++◌, ◌≡◌, ◌+◌, ◌-◌, ◌==◌, ◌<◌, max, if◌then◌else◌, length, take, drop, Option, Some, None, count_by, slice_get, slice_set}
use Rattle.onll_words.specs.declared.line.OpRow.{OpRow}
use Rattle.onll_model.specs.declared.node.Node.{Node}
use Rattle.onll_model.specs.Trace.{is_of_thread}
use Rattle.onll_model.specs.Segment.{Segment, nodes_between}
use Rattle.onll_model.specs.Frames.{Frame, Thread, Activity, Rest, Loaded, Walk, Logging, Fenced, Asking, is_available, segments_of}

-- What the steps of threads do to a frame. Each event is of one thread, whose number comes first.
pub data Event : Type 0 where
  -- an update loads the tail
  UpdateTail : ℕ → Event
  -- the exchange of the tail links the own node, which has this row
  Won : ℕ → OpRow → Event
  -- the exchange finds another tail
  Lost : ℕ → Event
  -- the flag of the next node down is loaded, by an update or by a read, and is set
  FlagSet : ℕ → Event
  -- the same, and it is unset
  FlagUnset : ℕ → Event
  -- the log is fenced
  Fence : ℕ → Event
  -- the own flag is set
  Set : ℕ → Event
  -- a read loads the tail
  ReadTail : ℕ → Event
  -- an update that lost its exchange ends
  Withdraw : ℕ → Event
  -- the fence has failed
  Fail : ℕ → Event
  -- a note of what the thread has seen goes out
  MakeNote : ℕ → Event
  -- the thread learns what the note tells, which stands here in the list of notes
  Learn : ℕ → ℕ → Event

-- the thread of an event
abbrev pub thread_of : Event → ℕ
thread_of (UpdateTail t) = t
thread_of (Won t row) = t
thread_of (Lost t) = t
thread_of (FlagSet t) = t
thread_of (FlagUnset t) = t
thread_of (Fence t) = t
thread_of (Set t) = t
thread_of (ReadTail t) = t
thread_of (Withdraw t) = t
thread_of (Fail t) = t
thread_of (MakeNote t) = t
thread_of (Learn t i) = t

abbrev pub with_thread : Frame → ℕ → Thread → Frame
with_thread f t th = record { trace = f.trace; flags = f.flags; threads = slice_set f.threads t th; notes = f.notes }

-- the flag of the node at place p is set
abbrev pub with_flag : Frame → ℕ → Frame
with_flag f p = record { trace = f.trace; flags = slice_set f.flags (p - 1) true; threads = f.threads; notes = f.notes }

-- one node more, not flagged
abbrev pub with_node : Frame → Node → Frame
with_node f x = record { trace = f.trace ++ x ∷ []; flags = f.flags ++ false ∷ []; threads = f.threads; notes = f.notes }

abbrev pub with_notes : Frame → List ℕ → Frame
with_notes f notes = record { trace = f.trace; flags = f.flags; threads = f.threads; notes = notes }

abbrev pub doing : Thread → Activity → Thread
doing th a = record { seen = th.seen; fenced = th.fenced; pending = th.pending; stuck = th.stuck; activity = a }

-- a call has returned at place p, or what is available there is learnt
abbrev pub resting_at : Thread → ℕ → Thread
resting_at th p = record { seen = p; fenced = th.fenced; pending = th.pending; stuck = th.stuck; activity = Rest }

-- the nodes of the places above d, up to p
abbrev pub window : List Node → ℕ → ℕ → Segment
window trace d p = record { place = p; nodes = nodes_between trace d p }

-- the walk has ended at place d: the window is to be logged
abbrev pub logging : Thread → List Node → ℕ → ℕ → Thread
logging th trace d p = record {
  seen = th.seen;
  fenced = th.fenced;
  pending = Some (window trace d p);
  stuck = th.stuck;
  activity = Logging p (p - d);
}

-- the pending segment is fenced
abbrev pub fencing : Thread → ℕ → ℕ → Thread
fencing th p n = record { seen = th.seen; fenced = segments_of th; pending = None; stuck = th.stuck; activity = Fenced p n }

-- the fence of the node at place p has failed
abbrev pub stuck_at : Thread → ℕ → Thread
stuck_at th p = record { seen = th.seen; fenced = th.fenced; pending = th.pending; stuck = Some p; activity = Rest }

-- a thread's next node
abbrev pub next_node : List Node → ℕ → OpRow → Node
next_node trace t row = record { thread = t; number = count_by (is_of_thread t) trace + 1; row = row }

-- the node at place l + 1 is linked: a walk begins at the node below it, where there is one above the base
abbrev pub linking : ℕ → Thread → List Node → ℕ → Thread
linking b th trace l = if l == b then logging th trace b (l + 1) else doing th (Walk (l + 1) l)

-- a flag that is set ends a walk, and a read
abbrev pub at_set_flag : Thread → List Node → Activity → Thread
at_set_flag th trace (Walk p d) = logging th trace d p
at_set_flag th trace (Asking f d) = resting_at th d
at_set_flag th trace a = th

-- below an unset one they go on, unless there the base begins
abbrev pub at_unset_flag : ℕ → Thread → List Node → Activity → Thread
at_unset_flag b th trace (Walk p d) = if d == b + 1 then logging th trace b p else doing th (Walk p (d - 1))
at_unset_flag b th trace (Asking f d) = if d == b + 1 then resting_at th b else doing th (Asking f (d - 1))
at_unset_flag b th trace a = th

-- a read begins at the newest node, and is answered at once where there is none above the base
abbrev pub asking : ℕ → Thread → ℕ → Thread
asking b th l = if l == b then resting_at th b else doing th (Asking l l)

abbrev pub after_fence : Thread → Activity → Thread
after_fence th (Logging p n) = fencing th p n
after_fence th a = th

abbrev pub after_fail : Thread → Activity → Thread
after_fail th (Logging p n) = stuck_at th p
after_fail th a = th

abbrev pub after_set : Frame → ℕ → Thread → Activity → Frame
after_set f t th (Fenced p n) = with_thread (with_flag f p) t (resting_at th p)
after_set f t th a = f

-- the note is no longer out
abbrev pub after_learn : Frame → ℕ → Thread → ℕ → Option ℕ → Frame
after_learn f t th i (Some p) = with_thread (with_notes f (take i f.notes ++ drop (i + 1) f.notes)) t (resting_at th (max th.seen p))
after_learn f t th i None = f

-- the frame after an event of the thread, where the first b nodes are the base
abbrev pub after_by : ℕ → Frame → Event → Option Thread → Frame
after_by b f e None = f
after_by b f (UpdateTail t) (Some th) = with_thread f t (doing th (Loaded (length f.trace)))
after_by b f (Won t row) (Some th) =
    let x : Node = next_node f.trace t row in with_thread (with_node f x) t (linking b th (f.trace ++ x ∷ []) (length f.trace))
after_by b f (Lost t) (Some th) = f
after_by b f (FlagSet t) (Some th) = with_thread f t (at_set_flag th f.trace th.activity)
after_by b f (FlagUnset t) (Some th) = with_thread f t (at_unset_flag b th f.trace th.activity)
after_by b f (Fence t) (Some th) = with_thread f t (after_fence th th.activity)
after_by b f (Set t) (Some th) = after_set f t th th.activity
after_by b f (ReadTail t) (Some th) = with_thread f t (asking b th (length f.trace))
after_by b f (Withdraw t) (Some th) = with_thread f t (doing th Rest)
after_by b f (Fail t) (Some th) = with_thread f t (after_fail th th.activity)
after_by b f (MakeNote t) (Some th) = with_notes f (f.notes ++ th.seen ∷ [])
after_by b f (Learn t i) (Some th) = after_learn f t th i (slice_get f.notes i)

abbrev pub after : ℕ → Frame → Event → Frame
after b f e = after_by b f e (slice_get f.threads (thread_of e))

-- the tail is loaded at rest, and again after a lost exchange
abbrev pub MayLoad : Activity → Type 0
MayLoad Rest = Unit {0}
MayLoad (Loaded l) = Unit {0}
MayLoad (Walk p d) = ⊥
MayLoad (Logging p n) = ⊥
MayLoad (Fenced p n) = ⊥
MayLoad (Asking f d) = ⊥

-- a walk or a read, and the place whose flag it loads next has this fact
abbrev pub LoadsNext : (ℕ → Type 0) → Activity → Type 0
LoadsNext P Rest = ⊥
LoadsNext P (Loaded l) = ⊥
LoadsNext P (Walk p d) = P d
LoadsNext P (Logging p n) = ⊥
LoadsNext P (Fenced p n) = ⊥
LoadsNext P (Asking f d) = P d

-- What an event asks of the thread and of the frame. A stuck thread begins no update, but it reads.
abbrev pub Allows : Frame → Thread → Event → Type 0
Allows f th (UpdateTail t) = (th.stuck ≡ None) × MayLoad th.activity
Allows f th (Won t row) = th.activity ≡ Loaded (length f.trace)
Allows f th (Lost t) = (l : ℕ) × (th.activity ≡ Loaded l) × (l < length f.trace)
Allows f th (FlagSet t) = LoadsNext (λ d. is_available f.flags d ≡ true) th.activity
Allows f th (FlagUnset t) = LoadsNext (λ d. is_available f.flags d ≡ false) th.activity
Allows f th (Fence t) = (p : ℕ) × (n : ℕ) × (th.activity ≡ Logging p n)
Allows f th (Set t) = (p : ℕ) × (n : ℕ) × (th.activity ≡ Fenced p n)
Allows f th (ReadTail t) = th.activity ≡ Rest
Allows f th (Withdraw t) = (l : ℕ) × (th.activity ≡ Loaded l)
Allows f th (Fail t) = (p : ℕ) × (n : ℕ) × (th.activity ≡ Logging p n)
Allows f th (MakeNote t) = Unit {0}
Allows f th (Learn t i) = (th.activity ≡ Rest) × (i < length f.notes)

-- the event may come in the frame
pub record Possible (f : Frame) (e : Event) : Type 0 where
  pub thread : Thread
  pub here : slice_get f.threads (thread_of e) ≡ Some thread
  pub allowed : Allows f thread e
