-- Why an object didn't go on, by what the calls below refused.
use Rattle.std.proofs.Common.{ℕ, false, List, ◌≡◌, ◌<◌, ◌≤◌, ◌⊎◌, sym, ap, ◌∙◌, subst, inl, inr, arith}
use Rattle.std.specs.Prelude.{Option, Some, None, Result, Ok, Err, IfErr}
use Rattle.std.specs.Option.{option_map}
use Rattle.std.proofs.lemmas.Bool.{cases_lt}
use Rattle.std.proofs.lemmas.Bool.Decides.{nat_tests}
use Rattle.onll_model.specs.Limits.{most_threads}
use Rattle.onll_model.specs.Object.{Behaviour}
use Rattle.onll_merge.specs.Recovered.{Recovered}
use Rattle.onll_outside.specs.declared.store.FaultKind.{FaultKind}
use Rattle.onll_outside.specs.declared.store.FaultKind.TheVariants as kinds
use Rattle.onll_outside.specs.Directory.{Unlocks, is_locked}
use Rattle.onll_outside.specs.Views.{StoreView, Rose, SameDevices, SameFaults, SameOthers}
use Rattle.onll_open.specs.declared.fault.OpenFault.TheVariants.{Full}
use Rattle.onll_open.specs.declared.fault.FilesFault.{FilesFault}
use Rattle.onll_open.specs.declared.fault.FilesFault.TheVariants as files
use Rattle.onll_open.specs.Files.{SameCounts, SameStore}
use Rattle.onll_open.specs.Locking.{AreFree}
use Rattle.onll_open.specs.Opening.{FilesGive, FilesRefuse, ReadFaults}
use Rattle.onll_open.specs.Rooms.{first_empty, rooms_left}
use Rattle.onll_open.proofs.Handing.{counts_more, faults_more, files_more}
use Rattle.onll_open.proofs.Locked.{locked_no_more}
use Rattle.onll_live.specs.declared.era.Era.{Era}
use Rattle.onll_live.specs.declared.fault.EraFault.{EraFault}
use Rattle.onll_live.specs.declared.fault.EraFault.TheVariants as eras
use Rattle.onll_live.specs.declared.fault.LiveFault.{LiveFault}
use Rattle.onll_live.specs.declared.fault.LiveFault.TheVariants as faults
use Rattle.onll_live.specs.declared.fault.NextFault.{NextFault}
use Rattle.onll_live.specs.declared.fault.NotLived.{NotLived}
use Rattle.onll_live.specs.Beginning.{EndsBy, HasRoomLeft, HasFullLog, ToldBy, threads_told}
use Rattle.onll_live.specs.Eras.{era_base, era_heads, era_lock, era_logs}
use Rattle.onll_live.specs.Faults.{AreaCallFailed, EraFaults}
use Rattle.onll_live.specs.LiveCauses.{HeldCause, IsServeFault, LiveCause, LiveLocks, LockObjectFaults, LocksObject, MissesNext, RefusalLocks, StopsServing}
use Rattle.onll_live.proofs.FaultSteps.{era_fault_since}
use Rattle.onll_live.proofs.Locks.{era_unlocked, lock_first}

-- ---- calls
call_until : (kind : FaultKind) (name : List ℕ) (area : ℕ) (old mid new : StoreView) → AreaCallFailed kind name area old mid → SameFaults mid new → AreaCallFailed kind name area old new
call_until kind name area old mid new h last = record { within = h.within; rose = subst (Rose old.faults) (sym last.0) h.rose; last = last.1 ∙ h.last }

pub era_fault_until : (name : List ℕ) (old mid new : StoreView) (fault : EraFault) → EraFaults {T = Unit {0}} name old mid (Err fault) → SameFaults mid new
    → EraFaults {T = Unit {0}} name old new (Err fault)
era_fault_until name old mid new (eras.BadState area) h last = faults_more old mid new h last
era_fault_until name old mid new (eras.NotRead area) h last = call_until kinds.Read name area old mid new h last
era_fault_until name old mid new (eras.NotSettled area) (inl h) last = inl (call_until kinds.Device name area old mid new h last)
era_fault_until name old mid new (eras.NotSettled area) (inr (inl h)) last = inr (inl (call_until kinds.Reopen name area old mid new h last))
era_fault_until name old mid new (eras.NotSettled area) (inr (inr h)) last = inr (inr (call_until kinds.Keep name area old mid new h last))
era_fault_until name old mid new eras.NoMemory h last = faults_more old mid new h last

store_more : (old mid new : StoreView) → SameStore old mid → SameStore mid new → SameStore old new
store_more old mid new first then_ = record { files = files_more old mid new first.files then_.files; counts = counts_more old mid new first.counts then_.counts }

-- ---- an era that is to end
module _ {State Op Query Reply : Type 0} (b : Behaviour State Op Query Reply) (code : ℕ) (description : State → List ℕ) (name : List ℕ) (threads : ℕ) where
  module _ (store : StoreView) (era : Era State) (found : Recovered)
      (given : FilesGive b store (era_logs name era.number) (era_heads code description threads era.state) (Ok found)) where
    pub full_so : (thread : ℕ) → Some thread ≡ first_empty 0 (rooms_left threads found.nodes 0 found.logs) → HasFullLog b code description name threads store era
    full_so thread is = record { found = found; given = given; thread = thread; full = ap (option_map Full) (sym is) }

    pub room_so : None ≡ first_empty 0 (rooms_left threads found.nodes 0 found.logs) → HasRoomLeft b code description name threads store era
    room_so is = record { found = found; given = given; room = ap (option_map Full) (sym is) }

  module _ (old new : StoreView) (era : Era State) where
    -- logs of another number of threads
    others_end : (were : ℕ) (told : Option ℕ) → FilesRefuse b old (era_logs name era.number) (era_heads code description threads era.state) (files.Threads were)
        → SameCounts old new → told ≡ threads_told were → EndsBy b code description name threads old new era told
    others_end were told refused counts is = subst (EndsBy b code description name threads old new era) (sym is) (at (cases_lt most_threads were))
      where
        at : (most_threads < were) ⊎ (were ≤ most_threads) → EndsBy b code description name threads old new era (threads_told were)
        at (inl more) =
            let none : threads_told were ≡ None = grind (arith, nat_tests) in
            subst (EndsBy b code description name threads old new era) (sym none) (inr (inl (files.Threads were, more, refused)))
        at (inr few) =
            let some : threads_told were ≡ Some were = grind (arith, nat_tests) in
            subst (EndsBy b code description name threads old new era) (sym some) (inr refused, few, counts)

    -- whether an era is to end whose logs are refused
    pub refused_so : (fault : FilesFault) (told : Option ℕ) → FilesRefuse b old (era_logs name era.number) (era_heads code description threads era.state) fault
        → ReadFaults {T = Unit {0}} (era_logs name era.number) threads old new (Err fault) → SameDevices old new → ToldBy fault told
        → EndsBy b code description name threads old new era told
    refused_so files.InUse told h f d is = absurd f
    refused_so files.NotLocked told h f d is = absurd f
    refused_so (files.NotLog log) told h f d is = subst (EndsBy b code description name threads old new era) (sym is) (inr (inl (files.NotLog log, tt, h)))
    refused_so (files.OldFormat log) told h f d is = subst (EndsBy b code description name threads old new era) (sym is) (inr (inl (files.OldFormat log, tt, h)))
    refused_so (files.Threads were) told h f d is = others_end were told h (f, d) is
    refused_so (files.Gone log) told h f d is = subst (EndsBy b code description name threads old new era) (sym is) (inr (inl (files.Gone log, tt, h)))
    refused_so (files.NotOneRun fault) told h f d is = subst (EndsBy b code description name threads old new era) (sym is) (inr (inl (files.NotOneRun fault, tt, h)))
    refused_so (files.NotOperation place) told h f d is = subst (EndsBy b code description name threads old new era) (sym is) (inr (inl (files.NotOperation place, tt, h)))
    refused_so (files.NotRead thread) told h f d is = subst (EndsBy b code description name threads old new era) (sym is) (inr (inr (inl (thread, f))))
    refused_so files.NoMemory told h f d is = absurd is

  module _ (read_of : List ℕ → Option State) (first : State) where
    -- why works were handed back after eras
    pub stops_cause : (old new : StoreView) (fault : LiveFault) (eras_ : ℕ) → StopsServing fault eras_ → HeldCause b code description name threads read_of first old new fault eras_
    stops_cause old new faults.InUse n h = absurd h
    stops_cause old new faults.NotLocked n h = absurd h
    stops_cause old new (faults.NotFound fault) n h = absurd h
    stops_cause old new (faults.NotSettled fault) n h = absurd h
    stops_cause old new (faults.NotServed fault) n h = tt
    stops_cause old new (faults.NotBegun fault) n h = inr h
    stops_cause old new faults.NoMemory n h = tt

    -- where it wasn't locked
    pub lock_cause : (old new : StoreView) (locked after : List (List ℕ)) (fault : LiveFault) (eras_ : ℕ) → LocksObject {T = Unit {0}} old name locked after (Err fault)
        → LockObjectFaults {T = Unit {0}} name old new (Err fault)
        → LiveCause b code description name threads read_of first old new fault eras_ × RefusalLocks name old new locked after fault
    lock_cause old new locked after faults.InUse n l f = (f, l)
    lock_cause old new locked after faults.NotLocked n l f = (f, l)
    lock_cause old new locked after (faults.NotFound fault) n l f = absurd l
    lock_cause old new locked after (faults.NotSettled fault) n l f = absurd l
    lock_cause old new locked after (faults.NotServed fault) n l f = absurd l
    lock_cause old new locked after (faults.NotBegun fault) n l f = absurd l
    lock_cause old new locked after faults.NoMemory n l f = (tt, inl l)

    -- where it was, and was given back
    module _ (old mid end new : StoreView) (others : SameOthers (era_lock name) old mid) (calls : SameFaults old mid) (given : SameStore end new) where
      misses_within : (fault : NextFault) → MissesNext b code description name threads read_of first mid end fault → MissesNext b code description name threads read_of first old new fault
      misses_within fault h = record {
        era = h.era;
        found = era_unlocked read_of first name old mid h.era others h.found;
        start = h.start;
        others = lock_first name old mid h.start others h.others;
        calls = faults_more old mid h.start calls h.calls;
        end = h.end;
        follow = h.follow;
        same = store_more h.end end new h.same given;
      }

      era_fault_within : (fault : EraFault) → EraFaults {T = Unit {0}} name mid end (Err fault) → EraFaults {T = Unit {0}} name old new (Err fault)
      era_fault_within fault h = era_fault_until name old end new fault (era_fault_since (Unit {0}) name old mid end fault calls h) given.counts.0

      pub held_cause : (fault : LiveFault) (eras_ : ℕ) → HeldCause b code description name threads read_of first mid end fault eras_
          → LiveCause b code description name threads read_of first old new fault eras_
      held_cause faults.InUse n h = absurd h
      held_cause faults.NotLocked n h = absurd h
      held_cause (faults.NotFound fault) n h = era_fault_within fault h
      held_cause (faults.NotSettled fault) n h = (h.0, era_fault_within fault h.1)
      held_cause (faults.NotServed fault) n h = tt
      held_cause (faults.NotBegun fault) n (inl h) = inl (h.0, misses_within fault h.1)
      held_cause (faults.NotBegun fault) n (inr h) = inr h
      held_cause faults.NoMemory n h = tt

    held_locks : (old mid end new : StoreView) (locked after : List (List ℕ)) (fault : LiveFault) (eras_ : ℕ)
        → HeldCause b code description name threads read_of first mid end fault eras_ → AreFree old (era_base name) locked → AreFree new (era_base name) after
        → RefusalLocks name old new locked after fault
    held_locks old mid end new locked after faults.InUse n h first_free last = absurd h
    held_locks old mid end new locked after faults.NotLocked n h first_free last = absurd h
    held_locks old mid end new locked after (faults.NotFound fault) n h first_free last = (first_free, last)
    held_locks old mid end new locked after (faults.NotSettled fault) n h first_free last = (first_free, last)
    held_locks old mid end new locked after (faults.NotServed fault) n h first_free last = (first_free, last)
    held_locks old mid end new locked after (faults.NotBegun fault) n h first_free last = (first_free, last)
    held_locks old mid end new locked after faults.NoMemory n h first_free last = inr (first_free, last)

    -- an object that was unlocked is free
    unlocked : (end new : StoreView) (at after : List (List ℕ)) (lock : List ℕ) → lock ≡ era_lock name → new.tells ≡ end.tells → Unlocks end lock at after → AreFree new (era_base name) after
    unlocked end new at after lock is tells h on =
        subst (λ (n : List ℕ). is_locked after n ≡ false) is
        (subst (λ (l : List (List ℕ)). is_locked l lock ≡ false) (sym (h (sym tells ∙ on))) (locked_no_more at lock))

    pub live_locks : {T Work : Type 0} → (old mid end new : StoreView) (locked at after : List (List ℕ)) (lived : Result T (NotLived Work)) (lock : List ℕ) → lock ≡ era_lock name
        → AreFree old (era_base name) locked → new.tells ≡ end.tells → Unlocks end lock at after
        → IfErr lived (λ e. HeldCause b code description name threads read_of first mid end e.fault e.eras) → LiveLocks name old new locked after lived
    live_locks old mid end new locked at after (Ok l) lock is free tells h cause = (free, unlocked end new at after lock is tells h)
    live_locks old mid end new locked at after (Err e) lock is free tells h cause =
        held_locks old mid end new locked after e.fault e.eras cause free (unlocked end new at after lock is tells h)

-- works that are handed back in some era
pub serving_stops : (fault : LiveFault) (n : ℕ) → IsServeFault fault → StopsServing fault n
serving_stops faults.InUse n h = absurd h
serving_stops faults.NotLocked n h = absurd h
serving_stops (faults.NotFound fault) n h = absurd h
serving_stops (faults.NotSettled fault) n h = absurd h
serving_stops (faults.NotServed fault) n h = tt
serving_stops (faults.NotBegun fault) n h = absurd h
serving_stops faults.NoMemory n h = tt
