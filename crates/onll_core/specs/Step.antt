use Rattle.std.specs.Prelude.{ℕ, suc, ◌+◌, ◌-◌, ◌==◌, nat_le, Bool, true, false, if◌then◌else◌, List, [], ◌∷◌, ◌++◌, length, take, Option, Some, None, slice_get, slice_set, slice_index_or}
use Rattle.onll_model.specs.declared.node.Node.{Node}
use Rattle.onll_model.specs.declared.call.Call.{Call}
use Rattle.onll_model.specs.declared.call.Call.TheVariants.{Update, Ask}
use Rattle.onll_model.specs.Object.{Behaviour}
use Rattle.onll_model.specs.Trace.{reply_after, answer_after}
use Rattle.onll_model.specs.Frames.{is_available}
use Rattle.onll_model.specs.Events.{window, next_node}
use Rattle.onll_pmem.specs.Device.{DeviceState, Write, WriteBack, Fence, after_step}
use Rattle.onll_log.specs.Encoding.{entry_lines}
use Rattle.onll_core.specs.declared.phase.Phase.{Phase}
use Rattle.onll_core.specs.declared.phase.Phase.TheVariants as phases
use Rattle.onll_core.specs.Core.{CoreThread, CoreState}

-- One atomic step of a thread, by what its next step is: a load, store or exchange of one word of the shared trace, or a
-- write, write-back or fence of the thread's own device.

-- the next step is of another kind, and nothing else of the thread changes
abbrev pub turned : {State Op Query Reply : Type 0} → CoreThread State Op Query Reply → Phase → CoreThread State Op Query Reply
turned th phase = record th { phase = phase }

-- a call has begun
abbrev pub begun : {State Op Query Reply : Type 0} → CoreThread State Op Query Reply → ℕ → Phase → CoreThread State Op Query Reply
begun th now phase = record th { phase = phase; began = now }

-- a step was made on the device
abbrev pub on_device : {State Op Query Reply : Type 0} → CoreThread State Op Query Reply → DeviceState → Phase
    → CoreThread State Op Query Reply
on_device th device phase = record th { phase = phase; device = device }

-- an entry of n nodes was fenced
abbrev pub logged : {State Op Query Reply : Type 0} → CoreThread State Op Query Reply → ℕ → Phase → CoreThread State Op Query Reply
logged th n phase = record th { phase = phase; used = th.used + suc n; logged = suc th.logged; device = after_step th.device Fence }

-- the running call, begun at this moment, has returned
abbrev pub returning : {State Op Query Reply : Type 0} → CoreThread State Op Query Reply → ℕ → Reply → ℕ → ℕ
    → CoreThread State Op Query Reply
returning th place reply began ended =
    record th { phase = phases.Idle; returned = th.returned ++ record { place = place; reply = reply; began = began; ended = ended } ∷ [] }

-- the step changed this thread alone
abbrev pub put : {State Op Query Reply : Type 0} → CoreState State Op Query Reply → ℕ → CoreThread State Op Query Reply
    → CoreState State Op Query Reply
put c t th = record c { clock = suc c.clock; threads = slice_set c.threads t th }

-- and linked a node
abbrev pub linked : {State Op Query Reply : Type 0} → CoreState State Op Query Reply → ℕ → Node
    → CoreThread State Op Query Reply → CoreState State Op Query Reply
linked c t x th = record c {
  trace = c.trace ++ x ∷ [];
  flags = c.flags ++ false ∷ [];
  clock = suc c.clock;
  threads = slice_set c.threads t th;
}

-- and set the flag of the node at place p
abbrev pub flagged : {State Op Query Reply : Type 0} → CoreState State Op Query Reply → ℕ → ℕ
    → CoreThread State Op Query Reply → CoreState State Op Query Reply
flagged c t p th = record c { flags = slice_set c.flags (p - 1) true; clock = suc c.clock; threads = slice_set c.threads t th }

-- the line of this number of the entry that holds the nodes above `below` up to `place`
abbrev pub line_of_entry : {State Op Query Reply : Type 0} → CoreThread State Op Query Reply → List Node → ℕ → ℕ → ℕ → List ℕ
line_of_entry th trace place below line = slice_index_or (entry_lines th.head th.logged (window trace below place)) line []

-- what follows an exchange that was won at place l + 1: the walk, or the log where no node above the base is below
abbrev pub after_exchange : ℕ → ℕ → Phase
after_exchange base l = if nat_le l base then phases.Line (l + 1) l 0 else phases.Flag (l + 1) l

-- what follows the load of the flag at d in a walk: the log, where it is set or d is the first place above the base
abbrev pub after_flag : ℕ → ℕ → ℕ → Bool → Phase
after_flag base p d true = phases.Line p d 0
after_flag base p d false = if nat_le d (base + 1) then phases.Line p base 0 else phases.Flag p (d - 1)

-- what follows a write-back: the entry's next line, and after its last one the fence
abbrev pub after_back : ℕ → ℕ → ℕ → Phase
after_back p d k = if nat_le (suc k) (p - d) then phases.Line p d (suc k) else phases.Fence p d

-- a read is answered at a place
abbrev pub answered : {State Op Query Reply : Type 0} → Behaviour State Op Query Reply → CoreState State Op Query Reply
    → ℕ → CoreThread State Op Query Reply → ℕ → ℕ → Query → CoreState State Op Query Reply
answered b c t th began place query = put c t (returning th place (answer_after b c.initial (take place c.trace) query) began c.clock)

-- The step of thread t, whose next call is this one and whose next step is of this kind.
abbrev pub act : {State Op Query Reply : Type 0} → Behaviour State Op Query Reply → CoreState State Op Query Reply → ℕ
    → CoreThread State Op Query Reply → Option (Call State Op Query Reply) → Phase → CoreState State Op Query Reply
-- the script is at its end: nothing changes
act b c t th None phase = c
-- an update loads the tail, for the first time or again
act b c t th (Some (Update op)) phases.Idle = put c t (begun th c.clock (phases.Exchange (length c.trace)))
act b c t th (Some (Update op)) (phases.Tail l) = put c t (turned th (phases.Exchange (length c.trace)))
-- the exchange is won where the tail is as loaded, and else lost
act b c t th (Some (Update op)) (phases.Exchange l) =
    if length c.trace == l
    then linked c t (next_node c.trace t (b.row_of op)) (turned th (after_exchange c.base l))
    else put c t (turned th (phases.Tail l))
-- the walk loads a flag
act b c t th (Some (Update op)) (phases.Flag p d) = put c t (turned th (after_flag c.base p d (is_available c.flags d)))
-- the entry is logged, line by line, and fenced
act b c t th (Some (Update op)) (phases.Line p d k) =
    put c t (on_device th (after_step th.device (Write (th.used + k) (line_of_entry th c.trace p d k))) (phases.Back p d k))
act b c t th (Some (Update op)) (phases.Back p d k) =
    put c t (on_device th (after_step th.device (WriteBack (th.used + k))) (after_back p d k))
act b c t th (Some (Update op)) (phases.Fence p d) = put c t (logged th (p - d) (phases.Set p d))
-- the own flag is set, and the update returns
act b c t th (Some (Update op)) (phases.Set p d) =
    flagged c t p (returning th p (reply_after b c.initial (take (p - 1) c.trace) op) th.began c.clock)
act b c t th (Some (Update op)) (phases.Ask f d) = c
-- a read loads the tail, and returns where no node stands above the base
act b c t th (Some (Ask query)) phases.Idle =
    if nat_le (length c.trace) c.base
    then answered b c t th c.clock c.base query
    else put c t (begun th c.clock (phases.Ask (length c.trace) (length c.trace)))
-- it loads a flag: set, it returns there; unset at the first place above the base, it returns at the base
act b c t th (Some (Ask query)) (phases.Ask f d) =
    if is_available c.flags d
    then answered b c t th th.began d query
    else (if nat_le d (c.base + 1)
    then answered b c t th th.began c.base query
    else put c t (turned th (phases.Ask f (d - 1))))
act b c t th (Some (Ask query)) (phases.Tail l) = c
act b c t th (Some (Ask query)) (phases.Exchange l) = c
act b c t th (Some (Ask query)) (phases.Flag p d) = c
act b c t th (Some (Ask query)) (phases.Line p d k) = c
act b c t th (Some (Ask query)) (phases.Back p d k) = c
act b c t th (Some (Ask query)) (phases.Fence p d) = c
act b c t th (Some (Ask query)) (phases.Set p d) = c

-- the next call of a thread's script, the running one or the one to begin
abbrev pub next_call : {State Op Query Reply : Type 0} → CoreThread State Op Query Reply → Option (Call State Op Query Reply)
next_call th = slice_get th.script (length th.returned)

abbrev pub step_by : {State Op Query Reply : Type 0} → Behaviour State Op Query Reply → CoreState State Op Query Reply
    → ℕ → Option (CoreThread State Op Query Reply) → CoreState State Op Query Reply
step_by b c t None = c
step_by b c t (Some th) = act b c t th (next_call th) th.phase

-- one step of thread t
abbrev pub step_of : {State Op Query Reply : Type 0} → Behaviour State Op Query Reply → CoreState State Op Query Reply
    → ℕ → CoreState State Op Query Reply
step_of b c t = step_by b c t (slice_get c.threads t)

-- the steps of these threads, in order
abbrev pub steps_of : {State Op Query Reply : Type 0} → Behaviour State Op Query Reply → CoreState State Op Query Reply
    → List ℕ → CoreState State Op Query Reply
steps_of b c [] = c
steps_of b c (t ∷ ts) = steps_of b (step_of b c t) ts
