use Rattle.std.specs.Prelude.{ℕ, zero, suc, Bool, true, false, List, [], ◌∷◌, ◌++◌, ◌≡◌, ◌+◌, ◌*◌, ◌<◌, ◌≤◌, ◌==◌, length, option_to_list, None, Some, slice_get, slice_index, slice_set}
use Rattle.onll_model.specs.Limits.{most_updates}
use mathlib.Core.Option.{some, none}
use prog.Atomic.{either}
use lib.ListN.{get_elem?}
use Rattle.atomic_table.specs.Table.{State, step}
use Rattle.onll_words.specs.declared.line.OpRow.{OpRow}
use Rattle.onll_model.specs.declared.node.Node.{Node}
use Rattle.onll_model.specs.Segment.{Segment}
use Rattle.onll_model.specs.Frames.{Frame, Thread, Activity, Rest, Loaded, Walk, Logging, Fenced, Asking}
use Rattle.onll_model.specs.Events.{Event, UpdateTail, Won, Lost, FlagSet, FlagUnset, Fence, Set, ReadTail, Withdraw, Fail, MakeNote, Learn, LoadsNext, Possible, after, logging, resting_at}
use Rattle.onll_model.specs.FrameLaws.{SoundOver}
use Rattle.onll_trace.specs.Plans.{Plan, IsPlan, base_place}
use Rattle.onll_trace.specs.Views.{Hand, View, note_of, without_first, only_first, gathering, spent}
use Rattle.onll_trace.specs.Rule.{Shows, name_at, row_at, count_of, newcomers}
use Rattle.onll_trace.specs.Hands.{with_note, drafted_row}
use Rattle.onll_trace.specs.Plays.{Mine, base_in, own_row, newest_row, IsRowWord, Looked, Drafted, Read, Flagged, Linked, Settled, FlagSet as OwnFlagSet, Recalled}
use Rattle.onll_trace.specs.Spots.{MayAsk, MayLook}

-- Each atomic step is an event on the frame that the table shows, or two of its thread, or leaves the frame as it is.

-- these events, each of which may come when its turn is, lead from one frame to the other
abbrev pub LeadTo : ℕ → Frame → List Event → Frame → Type 0
LeadTo b f [] g = g ≡ f
LeadTo b f (e ∷ es) g = Possible f e × LeadTo b (after b f e) es g

-- Whatever sound frame a table of this plan shows when the seat steps on word i, the step makes these events of it: the seat has a
-- view with which the new table shows the frame that they lead to, and `then` holds of the word found and of the seat.
-- The events may depend on the word that the step finds.
pub record StepMakes (k : Plan) (id : ℕ) (me : Mine) (i : ℕ) (new : ℕ → ℕ) (then : ℕ → Mine → Type 0)
    (events : ℕ → List Event) : Type 0 where
  pub makes : (s : State (Unit {0}) View) (f : Frame) → IsPlan k → SoundOver k.threads (base_place k) f
      → Shows k s.words s.views f → get_elem? s.views id ≡ some me.0
      → (w : View) × (g : Frame) × LeadTo (base_place k) f (events (slice_index s.words i)) g
      × Shows k (slice_set s.words i (new (slice_index s.words i))) (slice_set s.views id w) g
      × then (slice_index s.words i) (w, me.1)

-- the same, where a seat's view is cut in two
pub record SplitMakes (k : Plan) (id : ℕ) (v left right : View) (events : List Event) : Type 0 where
  pub makes : (s : State (Unit {0}) View) (f : Frame) → IsPlan k → SoundOver k.threads (base_place k) f
      → Shows k s.words s.views f → get_elem? s.views id ≡ some v
      → (g : Frame) × LeadTo (base_place k) f events g × Shows k s.words (slice_set s.views id left ++ right ∷ []) g

-- the same, where a seat takes in another's view; the events may depend on all views
pub record JoinMakes (k : Plan) (id : ℕ) (v : View) (other : ℕ) (w both : View) (events : List View → List Event) : Type 0 where
  pub makes : (s : State (Unit {0}) View) (f : Frame) → IsPlan k → SoundOver k.threads (base_place k) f
      → Shows k s.words s.views f → get_elem? s.views id ≡ some v
      → ¬ (other ≡ id) → get_elem? (slice_set s.views id both) other ≡ some w
      → (g : Frame) × LeadTo (base_place k) f (events s.views) g
      × Shows k s.words (slice_set (slice_set s.views id both) other spent) g

-- a fence that has failed shows at the thread's next look, or when it learns
abbrev pub failed_events : ℕ → Activity → List Event
failed_events t Rest = []
failed_events t (Loaded l) = []
failed_events t (Walk p d) = []
failed_events t (Logging p n) = Fail t ∷ []
failed_events t (Fenced p n) = []
failed_events t (Asking f d) = []

-- the tail is loaded: for an update where a row is drafted, else for a read
abbrev pub look_events : ℕ → List ℕ → Activity → List Event
look_events t [] a = failed_events t a ++ ReadTail t ∷ []
look_events t (w ∷ ws) a = UpdateTail t ∷ []

-- an exchange that finds the tail that it looked for links the node of this row, and else the update ends
abbrev pub exchange_events : ℕ → OpRow → Bool → List Event
exchange_events t row true = Won t row ∷ []
exchange_events t row false = Lost t ∷ Withdraw t ∷ []

abbrev pub flag_event : ℕ → Bool → Event
flag_event t true = FlagSet t
flag_event t false = FlagUnset t

-- where the note of a seat stands among those that are out
abbrev pub note_index : List View → ℕ → ℕ
note_index [] i = 0
note_index (v ∷ views) zero = 0
note_index (v ∷ views) (suc i) = length (option_to_list v.note) + note_index views i

-- The kinds of step, each with its events; there are no others. A step is made by a seat `id` with one hand, what it asks is what the
-- calls ask, and its last field of `StepMakes` is what it tells them.
pub record TraceStepLaw : Type 0 where
  -- a store into the row of the thread's next node, which no other thread reads yet
  pub draft_stored : (k : Plan) (slots id j word : ℕ) (me : Mine) (h : Hand) → me.0.hands ≡ h ∷ [] → j ≤ length h.draft
      → j < 9 → count_of h.thread me.0.known < me.0.plan.nodes
      → StepMakes k id me (own_row me.0 + j) (λ _. word) (λ _. Drafted (step slots (own_row me.0 + j) word 0 none) me word) (λ _. [])
  -- a load of the tail, which is word 0, by a look
  pub tail_loaded : (k : Plan) (slots id : ℕ) (me : Mine) (h : Hand) → me.0.hands ≡ h ∷ [] → MayLook h.draft h.part
      → StepMakes k id me 0 (λ n. n) (Looked (step slots 0 0 0 none) me) (λ _. look_events h.thread h.draft h.part.activity)
  -- a load of the tail, after a note was taken in
  pub tail_recalled : (k : Plan) (slots id : ℕ) (me : Mine) (h : Hand) → me.0.hands ≡ h ∷ []
      → StepMakes k id me 0 (λ n. n) (Recalled (step slots 0 0 0 none) me) (λ _. [])
  -- a load of a word of a row that is published
  pub row_loaded : (k : Plan) (slots id i q j : ℕ) (me : Mine) (h : Hand) → me.0.hands ≡ h ∷ [] → j < 9 → IsRowWord me.0 q j i
      → StepMakes k id me i (λ n. n) (Read (step slots i 0 0 none) me) (λ _. [])
  -- such a load after the log was fenced, of the first word of the own newest row
  pub settled : (k : Plan) (slots id i p n : ℕ) (me : Mine) (h : Hand) → me.0.hands ≡ h ∷ [] → h.part.activity ≡ Logging p n
      → i ≡ newest_row me.0
      → StepMakes k id me i (λ n. n) (Settled (step slots i 0 0 none) me) (λ _. Fence h.thread ∷ [])
  -- the exchange of the tail, where the row is whole and the spot knows nothing behind the tail that it looks for
  pub tail_exchanged : (k : Plan) (slots id old new : ℕ) (row : List ℕ) (me : Mine) (h : Hand) → me.0.hands ≡ h ∷ []
      → h.part.activity ≡ Loaded (length me.0.known)
      → old ≡ name_at (base_in me.0) me.0.known (length me.0.known) → h.draft ≡ row ++ old ∷ (length me.0.known + 1) ∷ []
      → length row ≡ 7
      → count_of h.thread me.0.known < me.0.plan.nodes → new ≡ h.thread * most_updates + (count_of h.thread me.0.known + 1)
      → StepMakes k id me 0 (λ n. either (n == old) new n) (Linked (step slots 0 old new none) me)
      (λ n. exchange_events h.thread (drafted_row h) (n == old))
  -- a load of the flag that comes next
  pub flag_loaded : (k : Plan) (slots id i q : ℕ) (me : Mine) (h : Hand) (x : Node) → me.0.hands ≡ h ∷ []
      → LoadsNext (λ d. d ≡ q + 1) h.part.activity → base_in me.0 ≤ q → slice_get me.0.known q ≡ Some x
      → i ≡ row_at me.0.plan x.thread x.number + 9
      → StepMakes k id me i (λ n. n) (Flagged (step slots i 0 0 none) me) (λ n. flag_event h.thread (n == 1) ∷ [])
  -- an unset flag right above the base ends the walk in the same step, and a read
  pub walk_ended : (b : ℕ) (f : Frame) (t : ℕ) (th : Thread) (p : ℕ) → slice_get f.threads t ≡ Some th
      → th.activity ≡ Walk p (b + 1)
      → slice_get (after b f (FlagUnset t)).threads t ≡ Some (logging th f.trace b p)
  pub read_ended : (b : ℕ) (f : Frame) (t : ℕ) (th : Thread) (front : ℕ) → slice_get f.threads t ≡ Some th
      → th.activity ≡ Asking front (b + 1)
      → slice_get (after b f (FlagUnset t)).threads t ≡ Some (resting_at th b)
  -- the store of the own flag
  pub flag_stored : (k : Plan) (slots id i p n : ℕ) (me : Mine) (h : Hand) → me.0.hands ≡ h ∷ []
      → h.part.activity ≡ Fenced p n → i ≡ row_at me.0.plan h.thread (count_of h.thread me.0.known) + 9
      → StepMakes k id me i (λ _. 1) (λ _. OwnFlagSet (step slots i 1 0 none) me 1) (λ _. Set h.thread ∷ [])
  -- the first seat gives its first thread to a seat of its own
  pub thread_dealt : (k : Plan) (id t : ℕ) (ss : List Segment) (logs : List (List Segment)) (v : View)
      → v.hands ≡ newcomers t (base_place k) (ss ∷ logs) → SplitMakes k id v (without_first v) (only_first v) []
  -- a spot gives a note
  pub note_made : (k : Plan) (id : ℕ) (v : View) (h : Hand) → v.hands ≡ h ∷ []
      → SplitMakes k id v v (note_of v) (MakeNote h.thread ∷ [])
  -- a spot takes in a note
  pub note_learnt : (k : Plan) (id : ℕ) (v : View) (other : ℕ) (w : View) (h : Hand) (p : ℕ) → v.hands ≡ h ∷ []
      → MayAsk h.part.activity → w.note ≡ Some p
      → JoinMakes k id v other w (with_note v w)
      (λ views. failed_events h.thread h.part.activity ++ Learn h.thread (note_index views other) ∷ [])
  -- at the end a seat takes in all others
  pub seat_gathered : (k : Plan) (id : ℕ) (v : View) (other : ℕ) (w : View) → v.plan ≡ k → v.note ≡ None → w.note ≡ None
      → JoinMakes k id v other w (gathering v w) (λ _. [])
