use Rattle.std.specs.Prelude.{ℕ, Bool, true, false, List, [], ◌∷◌, ◌++◌, ◌≡◌, ◌≢◌, ◌+◌, ◌-◌, ◌<◌, ◌≤◌, ◌↔◌, length, Option, Some, None, option_to_list, map, replicate, slice_get, slice_index_or}
use Rattle.std.specs.List.{AllByRecursion, flat_map}
use Rattle.onll_model.specs.declared.node.Node.{Node}
use Rattle.onll_model.specs.Trace.{node_at, IsNumbered}
use Rattle.onll_model.specs.Segment.{Segment, Agrees, Covers, Rises, last_place}

-- A frame is what a running object is at one moment: the trace, which of its nodes are flagged, and what each thread has
-- seen, fenced and is about. A node is flagged when its update is durable, and a flag that is set stays set.

-- What a thread is about. Loaded has the count of nodes at the load of the tail. Walk, Logging and Fenced have the place of
-- the thread's own node, which isn't flagged yet; Walk has the place whose flag is loaded next, Logging and Fenced the
-- count of nodes in the window. Asking, a read, has the place of the tail that it loaded and the place whose flag is next.
pub data Activity : Type 0 where
  Rest : Activity
  Loaded : ℕ → Activity
  Walk : ℕ → ℕ → Activity
  Logging : ℕ → ℕ → Activity
  Fenced : ℕ → ℕ → Activity
  Asking : ℕ → ℕ → Activity

-- a thread's part of a frame; it is stuck at the place of its node whose fence failed
pub record Thread : Type 0 where
  pub seen : ℕ
  pub fenced : List Segment
  pub pending : Option Segment
  pub stuck : Option ℕ
  pub activity : Activity

-- The flag of the node at place p stands at p - 1 of `flags`. A note that is out has the place that its maker had seen.
pub record Frame : Type 0 where
  pub trace : List Node
  pub flags : List Bool
  pub threads : List Thread
  pub notes : List ℕ

-- the place is 0, which is always available, or flagged
abbrev pub is_available : List Bool → ℕ → Bool
is_available flags p = slice_index_or (true ∷ flags) p false

abbrev pub IsAvailable : Frame → ℕ → Type 0
IsAvailable f p = is_available f.flags p ≡ true

-- each thread has this fact, with its number
abbrev pub EachThread : Frame → (ℕ → Thread → Type 0) → Type 0
EachThread f P = (t : ℕ) (th : Thread) → slice_get f.threads t ≡ Some th → P t th

-- a thread's segments, the fenced ones first
abbrev pub segments_of : Thread → List Segment
segments_of th = th.fenced ++ option_to_list th.pending

-- the fenced segments of all threads
abbrev pub fenced_segments : List Thread → List Segment
fenced_segments ths = flat_map (λ (th : Thread). th.fenced) ths

-- the thread's last node stands at this place
pub record IsLast (trace : List Node) (t p : ℕ) : Type 0 where
  pub node : Node
  pub here : node_at trace p ≡ Some node
  pub own : node.thread ≡ t
  pub none_later : (q : ℕ) (x : Node) → node_at trace q ≡ Some x → x.thread ≡ t → q ≤ p

-- the place of the own node that isn't flagged yet
abbrev pub open_in : Activity → Option ℕ
open_in Rest = None
open_in (Loaded l) = None
open_in (Walk p d) = Some p
open_in (Logging p n) = Some p
open_in (Fenced p n) = Some p
open_in (Asking f d) = None

-- the place of a thread's own node that isn't flagged: the one at which it is stuck, or that of its activity
abbrev pub open_at : Option ℕ → Activity → Option ℕ
open_at (Some p) a = Some p
open_at None a = open_in a

abbrev pub open_place : Thread → Option ℕ
open_place th = open_at th.stuck th.activity

-- at rest, or reading
abbrev pub IsQuiet : Activity → Type 0
IsQuiet Rest = Unit {0}
IsQuiet (Loaded l) = ⊥
IsQuiet (Walk p d) = ⊥
IsQuiet (Logging p n) = ⊥
IsQuiet (Fenced p n) = ⊥
IsQuiet (Asking f d) = Unit {0}

-- The segment is one of the trace's, it has no more nodes than there are threads, and every place below it is fenced.
pub record IsSoundSegment (count : ℕ) (trace : List Node) (fenced : List Segment) (s : Segment) : Type 0 where
  pub agrees : Agrees trace s
  pub few : length s.nodes ≤ count
  pub below : Covers fenced (s.place - length s.nodes)

-- the segment has this last place and this count of nodes
abbrev pub IsWindow : ℕ → ℕ → Segment → Type 0
IsWindow p n s = (s.place ≡ p) × (length s.nodes ≡ n)

-- The fenced segments of a thread end at or below its seen place, but for the one that is fenced last and whose node
-- isn't flagged yet.
abbrev pub IsSettled : ℕ → List Segment → Activity → Type 0
IsSettled seen fenced (Fenced p n) =
    (before : List Segment) × (s : Segment) × (fenced ≡ before ++ s ∷ []) × IsWindow p n s
    × (last_place 0 before ≤ seen)
IsSettled seen fenced a = last_place 0 fenced ≤ seen

-- a segment is pending exactly while it is logged, and for ever where its fence failed
abbrev pub IsPending : Option Segment → Option ℕ → Activity → Type 0
IsPending pending (Some p) a = (s : Segment) × (pending ≡ Some s) × (s.place ≡ p)
IsPending pending None (Logging p n) = (s : Segment) × (pending ≡ Some s) × IsWindow p n s
IsPending pending None a = pending ≡ None

-- the nodes of the places above d, up to p, are of different threads
abbrev pub AreApart : List Node → ℕ → ℕ → Type 0
AreApart trace d p = (i j : ℕ) (x y : Node) → d < i → i < j → j ≤ p → node_at trace i ≡ Some x
    → node_at trace j ≡ Some y → x.thread ≢ y.thread

-- how the places of an activity stand to the seen place and to the trace
abbrev pub Follows : List Node → ℕ → Activity → Type 0
Follows trace seen Rest = Unit {0}
Follows trace seen (Loaded l) = (seen ≤ l) × (l ≤ length trace)
Follows trace seen (Walk p d) = (seen ≤ d) × (d < p) × (1 ≤ d) × AreApart trace d p
Follows trace seen (Logging p n) = seen + n ≤ p
Follows trace seen (Fenced p n) = seen + n ≤ p
Follows trace seen (Asking f d) = (seen ≤ d) × (d ≤ f) × (f ≤ length trace) × (1 ≤ d)

-- What holds of every frame of a running object with `count` threads.
pub record Sound (count : ℕ) (f : Frame) : Type 0 where
  -- a flag for each node, a part for each thread
  pub flags : length f.flags ≡ length f.trace
  pub threads : length f.threads ≡ count
  -- the trace is numbered, by these threads
  pub numbered : IsNumbered f.trace
  pub below : AllByRecursion (λ (x : Node). x.thread < count) f.trace
  -- a node with a later one of its thread is flagged
  pub earlier : (p q : ℕ) (x y : Node) → node_at f.trace p ≡ Some x → node_at f.trace q ≡ Some y → x.thread ≡ y.thread
      → p < q → IsAvailable f p
  -- a thread's last node is unflagged exactly where the thread is about it, or stuck at it
  pub latest : EachThread f (λ t th. (p : ℕ) → IsLast f.trace t p → (is_available f.flags p ≡ false) ↔ (open_place th ≡ Some p))
  -- and what a thread is about, or stuck at, is its last node
  pub opened : EachThread f (λ t th. (p : ℕ) → open_place th ≡ Some p → IsLast f.trace t p)
  -- a stuck thread rests or reads
  pub quiet : EachThread f (λ t th. th.stuck ≢ None → IsQuiet th.activity)
  pub segments : EachThread f (λ t th. AllByRecursion (IsSoundSegment count f.trace (fenced_segments f.threads)) (segments_of th))
  -- every place up to an available one is fenced
  pub covered : (p : ℕ) → IsAvailable f p → Covers (fenced_segments f.threads) p
  pub rising : EachThread f (λ t th. Rises 0 (segments_of th))
  pub settled : EachThread f (λ t th. IsSettled th.seen th.fenced th.activity)
  pub pending : EachThread f (λ t th. IsPending th.pending th.stuck th.activity)
  pub follows : EachThread f (λ t th. Follows f.trace th.seen th.activity)
  -- what a thread has seen, and what a note tells of, is available
  pub seen : EachThread f (λ t th. IsAvailable f th.seen)
  pub notes : AllByRecursion (IsAvailable f) f.notes

-- The frame goes on from b recovered nodes: they are in the trace and flagged, and every thread has seen them.
pub record Based (b : ℕ) (f : Frame) : Type 0 where
  pub long : b ≤ length f.trace
  pub available : (p : ℕ) → p ≤ b → IsAvailable f p
  pub all_seen : EachThread f (λ t th. b ≤ th.seen)

-- A thread that has done nothing since the base; these are its fenced segments of it.
abbrev pub resumed_thread : ℕ → List Segment → Thread
resumed_thread b fenced = record { seen = b; fenced = fenced; pending = None; stuck = None; activity = Rest }

-- the first frame of a run that goes on from a base, with each thread's fenced segments; with none of both it begins anew
abbrev pub resumed_frame : List Node → List (List Segment) → Frame
resumed_frame base logs = record {
  trace = base;
  flags = replicate (length base) true;
  threads = map (resumed_thread (length base)) logs;
  notes = [];
}
