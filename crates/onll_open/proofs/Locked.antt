-- Logs that are locked, and then given back: the lock's name is no log's, and what was so of the files is so still.
use Rattle.std.proofs.Common.{ℕ, zero, suc, Bool, true, false, List, [], ◌∷◌, ◌++◌, ◌≡◌, ◌≤◌, ◌<◌, ◌==◌, ◌%◌, ◌/◌, ◌||◌, cond, not, get_or, codes, decimal, Option, Result, Ok, Err, refl, sym, ap, ◌∙◌, subst, arith}
use Rattle.std.specs.Fmt.{digits, digits_onto, digit_glyph}
use Rattle.std.specs.Str.{bytes_eq}
use Rattle.std.proofs.lemmas.Bool.{lt-ltb}
use Rattle.std.proofs.lemmas.List.{append_cancel_left}
use Rattle.onll_model.specs.Object.{Behaviour}
use Rattle.onll_log.specs.declared.head.LogHead.{LogHead}
use Rattle.onll_outside.specs.Directory.{is_locked, without_name}
use Rattle.onll_outside.specs.Views.{StoreView, SameFiles, SameFaults, SameDevices, Rose, counted}
use Rattle.onll_outside.specs.declared.store.FaultKind.{FaultKind}
use Rattle.onll_open.specs.declared.fault.FilesFault.{FilesFault}
use Rattle.onll_open.specs.declared.fault.FilesFault.TheVariants as files
use Rattle.onll_open.specs.declared.fault.OpenFault.{OpenFault}
use Rattle.onll_open.specs.declared.fault.OpenFault.TheVariants.{Files, NoRoom, Full, NotMade, NotReopened, HeaderFailed, NoMemory}
use Rattle.onll_open.specs.Faults.{of_files}
use Rattle.onll_open.specs.Names.{log_name, log_lock_name, log_names}
use Rattle.onll_open.specs.Files.{SameLogs, SameBut, SameCounts, LogCallFailed}
use Rattle.onll_open.specs.Locking.{AreFree, LocksLogs, LockingFaults, GivesBack, OpenLocks}
use Rattle.onll_open.specs.Opening.{CannotOpen, FilesRefuse, ReadFaults, RecoverFaults, HeldFaults, OpenFaults}
use Rattle.onll_open.proofs.Handing.{faults_more, devices_more, counts_more}

-- ---- names
glyph_low : (d : ℕ) → d < 10 → digit_glyph false d ≤ 57
glyph_low d low = rw (lt-ltb d 10 low) (omega arith)

either_low : (b : Bool) (x : ℕ) (xs ys : List ℕ) → x ≤ 57 → get_or ys 0 0 ≤ 57 → get_or (cond b (x ∷ xs) ys) 0 0 ≤ 57
either_low true x xs ys low rest = low
either_low false x xs ys low rest = rest

onto_low : (k n x : ℕ) (acc : List ℕ) → x ≤ 57 → get_or (digits_onto k 10 false n (x ∷ acc)) 0 0 ≤ 57
onto_low zero n x acc low = low
onto_low (suc k) n x acc low =
    let d = digit_glyph false (n % 10) in
    let here : d ≤ 57 = glyph_low (n % 10) (omega arith) in
    either_low (n / 10 == 0) d (x ∷ acc) _ here (onto_low k (n / 10) d (x ∷ acc) here)

-- a number begins with a digit
decimal_low : (n : ℕ) → get_or (decimal n) 0 0 ≤ 57
unfolding digits
decimal_low n =
    let d = digit_glyph false (n % 10) in
    let here : d ≤ 57 = glyph_low (n % 10) (omega arith) in
    either_low (n / 10 == 0) d [] _ here (onto_low 63 (n / 10) d [] here)

pub not_the_lock : (logs : List ℕ) (thread : ℕ) → log_name logs thread ≡ log_lock_name logs → ⊥
not_the_lock logs thread e =
    let after : decimal thread ≡ codes "lock" = append_cancel_left (codes ".") (decimal thread) (codes "lock") (append_cancel_left logs (codes "." ++ decimal thread) (codes ".lock") e) in
    let low : 108 ≤ 57 = subst (λ ds. get_or ds 0 0 ≤ 57) after (decimal_low thread) in
    absurd (omega (arith, low))

-- ---- files
pub logs_locked : (logs : List ℕ) (old new : StoreView) → SameBut (log_lock_name logs ∷ []) old new → SameLogs logs old new
logs_locked logs old new same = record { tells = same.tells; file = λ thread. same.file (log_name logs thread) (not_the_lock logs thread, tt) }

pub logs_of_files : (logs : List ℕ) (old new : StoreView) → SameFiles old new → SameLogs logs old new
logs_of_files logs old new same = record { tells = same.tells; file = λ thread. same.file (log_name logs thread) }

pub logs_more : (logs : List ℕ) (old mid new : StoreView) → SameLogs logs old mid → SameLogs logs mid new → SameLogs logs old new
logs_more logs old mid new first then_ = record { tells = then_.tells ∙ first.tells; file = λ thread. then_.file thread ∙ first.file thread }

pub logs_back : (logs : List ℕ) (a b : StoreView) → SameLogs logs a b → SameLogs logs b a
logs_back logs a b same = record { tells = sym same.tells; file = λ thread. sym (same.file thread) }

pub but_then : (names : List (List ℕ)) (old mid new : StoreView) → SameBut names old mid → SameFiles mid new → SameBut names old new
but_then names old mid new first same = record { tells = same.tells ∙ first.tells; file = λ other differs. same.file other ∙ first.file other differs }

-- the lock's file, and then those of the logs
pub held_others : (logs : List ℕ) (threads : ℕ) (old mid new : StoreView) → SameBut (log_lock_name logs ∷ []) old mid → SameBut (log_names logs 0 threads) mid new → SameBut (log_lock_name logs ∷ log_names logs 0 threads) old new
held_others logs threads old mid new first then_ = record {
  tells = then_.tells ∙ first.tells;
  file = λ other differs. then_.file other differs.1 ∙ first.file other (differs.0, tt);
}

pub lock_alone : (logs : List ℕ) (threads : ℕ) (old new : StoreView) → SameBut (log_lock_name logs ∷ []) old new → SameBut (log_lock_name logs ∷ log_names logs 0 threads) old new
lock_alone logs threads old new first = record { tells = first.tells; file = λ other differs. first.file other (differs.0, tt) }

-- ---- locks
kept_or : (t : Bool) (n name : List ℕ) (rest : List (List ℕ)) → bytes_eq n name ≡ t → is_locked rest name ≡ false → is_locked (cond {A = List (List ℕ)} (not t) (n ∷ rest) rest) name ≡ false
kept_or true n name rest e h = h
kept_or false n name rest e h = ap (λ b. b || is_locked rest name) e ∙ h

-- a name that is unlocked is locked no more
pub locked_no_more : (locked : List (List ℕ)) (name : List ℕ) → is_locked (without_name locked name) name ≡ false
locked_no_more [] name = refl
locked_no_more (n ∷ locked) name = kept_or (bytes_eq n name) n name (without_name locked name) refl (locked_no_more locked name)

pub freed : (store now : StoreView) (logs name : List ℕ) (locked : List (List ℕ)) → now.tells ≡ store.tells → name ≡ log_lock_name logs → (now.tells ≡ true → is_locked locked name ≡ false) → AreFree store logs locked
freed store now logs name locked same is h on = subst (λ n. is_locked locked n ≡ false) is (h (same ∙ on))

-- the logs of a call that ended were free before it, and are after it
pub gives_back : (T : Type 0) (store : StoreView) (logs : List ℕ) (threads : ℕ) (old new : List (List ℕ)) (a b : StoreView) (r : Result T FilesFault) → AreFree store logs old → AreFree store logs new → ReadFaults logs threads a b r
    → GivesBack store logs old new r
gives_back T store logs threads old new a b (Ok x) first last h = (first, last)
gives_back T store logs threads old new a b (Err files.InUse) first last h = absurd h
gives_back T store logs threads old new a b (Err files.NotLocked) first last h = absurd h
gives_back T store logs threads old new a b (Err (files.NotLog log)) first last h = (first, last)
gives_back T store logs threads old new a b (Err (files.OldFormat log)) first last h = (first, last)
gives_back T store logs threads old new a b (Err (files.Threads were)) first last h = (first, last)
gives_back T store logs threads old new a b (Err (files.Gone log)) first last h = (first, last)
gives_back T store logs threads old new a b (Err (files.NotOneRun fault)) first last h = (first, last)
gives_back T store logs threads old new a b (Err (files.NotOperation place)) first last h = (first, last)
gives_back T store logs threads old new a b (Err (files.NotRead thread)) first last h = (first, last)
gives_back T store logs threads old new a b (Err files.NoMemory) first last h = λ free. last

failed_within : (kind : FaultKind) (logs : List ℕ) (threads thread : ℕ) (old mid new last : StoreView) → SameFaults old mid → SameFaults new last → LogCallFailed kind logs threads thread mid new → LogCallFailed kind logs threads thread old last
failed_within kind logs threads thread old mid new last first then_ h = record {
  within = h.within;
  rose = subst (λ n. Rose n last.faults) first.0 (subst (Rose mid.faults) (sym then_.0) h.rose);
  last = then_.1 ∙ h.last;
}

same_within : (old mid new last : StoreView) → SameFaults old mid → SameFaults new last → SameFaults mid new → SameFaults old last
same_within old mid new last first then_ h = faults_more old new last (faults_more old mid new first h) then_

pub recover_faults : (T : Type 0) (logs : List ℕ) (threads : ℕ) (old mid new last : StoreView) (r : Result T FilesFault) → SameFaults old mid → SameFaults new last → ReadFaults logs threads mid new r → RecoverFaults logs threads old last r
recover_faults T logs threads old mid new last (Ok x) first then_ h = same_within old mid new last first then_ h
recover_faults T logs threads old mid new last (Err files.InUse) first then_ h = absurd h
recover_faults T logs threads old mid new last (Err files.NotLocked) first then_ h = absurd h
recover_faults T logs threads old mid new last (Err (files.NotLog log)) first then_ h = same_within old mid new last first then_ h
recover_faults T logs threads old mid new last (Err (files.OldFormat log)) first then_ h = same_within old mid new last first then_ h
recover_faults T logs threads old mid new last (Err (files.Threads were)) first then_ h = same_within old mid new last first then_ h
recover_faults T logs threads old mid new last (Err (files.Gone log)) first then_ h = same_within old mid new last first then_ h
recover_faults T logs threads old mid new last (Err (files.NotOneRun fault)) first then_ h = same_within old mid new last first then_ h
recover_faults T logs threads old mid new last (Err (files.NotOperation place)) first then_ h = same_within old mid new last first then_ h
recover_faults T logs threads old mid new last (Err (files.NotRead thread)) first then_ h = failed_within _ logs threads thread old mid new last first then_ h
recover_faults T logs threads old mid new last (Err files.NoMemory) first then_ h = same_within old mid new last first then_ h

-- ---- logs that could not be locked
pub not_locked : (T U : Type 0) (logs : List ℕ) (threads : ℕ) (store old new : StoreView) (locked after : List (List ℕ)) (fault : FilesFault) → LocksLogs {T = T} store logs locked after (Err fault) → LockingFaults {T = T} logs old new (Err fault)
    → RecoverFaults {T = U} logs threads old new (Err fault) × GivesBack {T = U} store logs locked after (Err fault)
not_locked T U logs threads store old new locked after files.InUse h f = (f, h)
not_locked T U logs threads store old new locked after files.NotLocked h f = (f, h)
not_locked T U logs threads store old new locked after files.NoMemory h f = (f, λ free. subst (AreFree store logs) (sym h) free)
not_locked T U logs threads store old new locked after (files.NotLog log) h f = absurd h
not_locked T U logs threads store old new locked after (files.OldFormat log) h f = absurd h
not_locked T U logs threads store old new locked after (files.Threads were) h f = absurd h
not_locked T U logs threads store old new locked after (files.Gone log) h f = absurd h
not_locked T U logs threads store old new locked after (files.NotOneRun fault) h f = absurd h
not_locked T U logs threads store old new locked after (files.NotOperation place) h f = absurd h
not_locked T U logs threads store old new locked after (files.NotRead thread) h f = absurd h

pub not_opened : (T U : Type 0) (logs : List ℕ) (threads : ℕ) (store old new : StoreView) (locked after : List (List ℕ)) (fault : FilesFault) → SameDevices old new → SameLogs logs old new
    → LocksLogs {T = T} store logs locked after (Err fault) → LockingFaults {T = T} logs old new (Err fault)
    → OpenFaults {T = U} logs threads old new (Err (of_files fault)) × OpenLocks {T = U} store logs locked after (Err (of_files fault))
not_opened T U logs threads store old new locked after files.InUse devices same h f = (((f, devices), same), h)
not_opened T U logs threads store old new locked after files.NotLocked devices same h f = ((f, devices, same), h)
not_opened T U logs threads store old new locked after files.NoMemory devices same h f = (f, λ free. subst (AreFree store logs) (sym h) free)
not_opened T U logs threads store old new locked after (files.NotLog log) devices same h f = absurd h
not_opened T U logs threads store old new locked after (files.OldFormat log) devices same h f = absurd h
not_opened T U logs threads store old new locked after (files.Threads were) devices same h f = absurd h
not_opened T U logs threads store old new locked after (files.Gone log) devices same h f = absurd h
not_opened T U logs threads store old new locked after (files.NotOneRun fault) devices same h f = absurd h
not_opened T U logs threads store old new locked after (files.NotOperation place) devices same h f = absurd h
not_opened T U logs threads store old new locked after (files.NotRead thread) devices same h f = absurd h

-- ---- logs that were locked, and given back where no object was opened over them
counts_within : (logs : List ℕ) (old mid new last : StoreView) → SameCounts old mid → SameFiles new last → SameCounts new last → SameLogs logs old mid → SameCounts mid new × SameLogs logs mid new → SameCounts old last × SameLogs logs old last
counts_within logs old mid new last first files_same then_ same h =
    (counts_more old new last (counts_more old mid new first h.0) then_, logs_more logs old new last (logs_more logs old mid new same h.1) (logs_of_files logs new last files_same))

pub open_faults : (T : Type 0) (logs : List ℕ) (threads : ℕ) (old mid new last : StoreView) (fault : OpenFault) → SameCounts old mid → SameFiles new last → SameCounts new last → SameLogs logs old mid → HeldFaults {T = T} logs threads mid new (Err fault)
    → OpenFaults {T = T} logs threads old last (Err fault)
open_faults T logs threads old mid new last (Files files.InUse) first fs then_ same h = absurd h
open_faults T logs threads old mid new last (Files files.NotLocked) first fs then_ same h = absurd h
open_faults T logs threads old mid new last (Files (files.NotLog log)) first fs then_ same h = counts_within logs old mid new last first fs then_ same h
open_faults T logs threads old mid new last (Files (files.OldFormat log)) first fs then_ same h = counts_within logs old mid new last first fs then_ same h
open_faults T logs threads old mid new last (Files (files.Threads were)) first fs then_ same h = counts_within logs old mid new last first fs then_ same h
open_faults T logs threads old mid new last (Files (files.Gone log)) first fs then_ same h = counts_within logs old mid new last first fs then_ same h
open_faults T logs threads old mid new last (Files (files.NotOneRun fault)) first fs then_ same h = counts_within logs old mid new last first fs then_ same h
open_faults T logs threads old mid new last (Files (files.NotOperation place)) first fs then_ same h = counts_within logs old mid new last first fs then_ same h
open_faults T logs threads old mid new last (Files (files.NotRead thread)) first fs then_ same h = (
  failed_within _ logs threads thread old mid new last first.0 then_.0 h.0,
  devices_more old new last (devices_more old mid new first.1 h.1) then_.1,
  logs_more logs old new last (logs_more logs old mid new same h.2) (logs_of_files logs new last fs),
)
open_faults T logs threads old mid new last (Files files.NoMemory) first fs then_ same h = counts_within logs old mid new last first fs then_ same h
open_faults T logs threads old mid new last (NoRoom thread) first fs then_ same h = counts_within logs old mid new last first fs then_ same h
open_faults T logs threads old mid new last (Full thread) first fs then_ same h = counts_within logs old mid new last first fs then_ same h
open_faults T logs threads old mid new last (NotMade thread) first fs then_ same h = failed_within _ logs threads thread old mid new last first.0 then_.0 h
open_faults T logs threads old mid new last (NotReopened thread) first fs then_ same h = failed_within _ logs threads thread old mid new last first.0 then_.0 h
open_faults T logs threads old mid new last (HeaderFailed thread) first fs then_ same h = (same_within old mid new last first.0 then_.0 h.0, then_.1.0 ∙ h.1 ∙ (λ i. counted (first.1.0 i) 1))
open_faults T logs threads old mid new last NoMemory first fs then_ same h = same_within old mid new last first.0 then_.0 h

-- why logs could not be locked, as why nothing is given and nothing opened
module _ (T : Type 0) {State Op Query Reply : Type 0} (b : Behaviour State Op Query Reply) (store : StoreView) (logs : List ℕ) (heads : List LogHead) (locked after : List (List ℕ)) where
  pub lock_refuses : (fault : FilesFault) → LocksLogs {T = T} store logs locked after (Err fault) → FilesRefuse b store logs heads fault
  lock_refuses files.InUse h = tt
  lock_refuses files.NotLocked h = tt
  lock_refuses files.NoMemory h = tt
  lock_refuses (files.NotLog log) h = absurd h
  lock_refuses (files.OldFormat log) h = absurd h
  lock_refuses (files.Threads were) h = absurd h
  lock_refuses (files.Gone log) h = absurd h
  lock_refuses (files.NotOneRun fault) h = absurd h
  lock_refuses (files.NotOperation place) h = absurd h
  lock_refuses (files.NotRead thread) h = absurd h

  pub lock_cannot : (threads : ℕ) (asked : Option (List ℕ)) (fault : FilesFault) → LocksLogs {T = T} store logs locked after (Err fault) → CannotOpen b store logs heads threads asked (of_files fault)
  lock_cannot threads asked files.InUse h = tt
  lock_cannot threads asked files.NotLocked h = tt
  lock_cannot threads asked files.NoMemory h = tt
  lock_cannot threads asked (files.NotLog log) h = absurd h
  lock_cannot threads asked (files.OldFormat log) h = absurd h
  lock_cannot threads asked (files.Threads were) h = absurd h
  lock_cannot threads asked (files.Gone log) h = absurd h
  lock_cannot threads asked (files.NotOneRun fault) h = absurd h
  lock_cannot threads asked (files.NotOperation place) h = absurd h
  lock_cannot threads asked (files.NotRead thread) h = absurd h
