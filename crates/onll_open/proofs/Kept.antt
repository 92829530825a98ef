-- Devices that are kept as files, one thread after the other.
use Rattle.std.proofs.Common.{ℕ, zero, suc, List, [], ◌∷◌, ◌++◌, ◌≡◌, ◌+◌, ◌<◌, ◌^◌, ◌⊎◌, inl, inr, length, map, reverse, refl, sym, ap, ◌∙◌, subst, arith, append_assoc, append-nil, length-append, Err}
use Rattle.std.specs.List.{AllByRecursion}
use Rattle.std.proofs.lemmas.List.{map-append, length-map, reverse-append, reverse-reverse, length-reverse}
use Rattle.onll_pmem.specs.Pmem.{DeviceView}
use Rattle.onll_outside.specs.Views.{StoreView, SameFiles, SameOthers, SameFaults, SameDevices, HandsBack, HoldsImageOf, KeepsDevice, MayKeep, FaultsOf, Rose, HandsEach, risen, fault_of, fences_in}
use Rattle.onll_outside.specs.declared.OutsideFault.{OutsideFault}
use Rattle.onll_outside.specs.declared.OutsideFault.TheVariants.{Failed, NoMemory}
use Rattle.onll_outside.specs.declared.store.FaultKind.{FaultKind}
use Rattle.onll_outside.specs.declared.store.FaultKind.TheVariants as kinds
use Rattle.onll_shared.specs.Passes.{PassView, log_of}
use Rattle.onll_run.specs.Making.{device_of}
use Rattle.onll_open.specs.Names.{log_name, log_names}
use Rattle.onll_open.specs.Files.{SameBut, LogCallFailed, DeviceFaults, LogFaults}
use Rattle.onll_open.specs.declared.fault.DeviceFault.{DeviceFault}
use Rattle.onll_open.specs.declared.fault.DeviceFault.TheVariants as devices
use Rattle.onll_open.specs.Faults.{fault_at}
use Rattle.onll_open.specs.Keeping.{AreKept, AreKeptTo, MayKeepEach, KeepFails, device_in, devices_in}
use Rattle.onll_open.proofs.Handing.{name_differs, others_on, HandedSo, map_reverse, handed_next}

kept_stays : (name : List ℕ) (d : DeviceView) (mid new : StoreView) → new.tells ≡ mid.tells → new.file name ≡ mid.file name → KeepsDevice mid name d → KeepsDevice new name d
kept_stays name d mid new tells file h on = let k = h (sym tells ∙ on) in (k.0, file ∙ k.1, k.2)

-- files that were kept stay so where another is kept
kept_others : (logs : List ℕ) (t last : ℕ) (ds : List DeviceView) (mid new : StoreView) → t + length ds ≡ last → last < 2 ^ 64 → SameOthers (log_name logs last) mid new → AreKept logs t ds mid → AreKept logs t ds new
kept_others logs t last [] mid new e few others h = tt
kept_others logs t last (d ∷ ds) mid new e few others h =
    let differs : log_name logs t ≡ log_name logs last → ⊥ = λ same. let is = name_differs logs t last (omega arith) few same in absurd (omega (arith, is)) in
    (kept_stays (log_name logs t) d mid new others.tells (others.file (log_name logs t) differs) h.0, kept_others logs (suc t) last ds mid new (omega arith) few others h.1)

kept_more : (logs : List ℕ) (t last : ℕ) (ds : List DeviceView) (d : DeviceView) (store : StoreView) → t + length ds ≡ last → AreKept logs t ds store → KeepsDevice store (log_name logs last) d → AreKept logs t (ds ++ d ∷ []) store
kept_more logs t last [] d store e h k = (subst (λ i. KeepsDevice store (log_name logs i) d) (sym e ∙ omega arith) k, tt)
kept_more logs t last (x ∷ ds) d store e h k = (h.0, kept_more logs (suc t) last ds d store (omega arith) h.1 k)

pub kept_same : (logs : List ℕ) (t : ℕ) (ds : List DeviceView) (mid new : StoreView) → SameFiles mid new → AreKept logs t ds mid → AreKept logs t ds new
kept_same logs t [] mid new same h = tt
kept_same logs t (d ∷ ds) mid new same h = (kept_stays (log_name logs t) d mid new same.tells (same.file (log_name logs t)) h.0, kept_same logs (suc t) ds mid new same h.1)

-- each thread's file, from thread t on, is as it was
abbrev AreAsBefore : List ℕ → ℕ → ℕ → StoreView → StoreView → Type 0
AreAsBefore logs t threads old new = AllByRecursion (λ name. new.file name ≡ old.file name) (log_names logs t threads)

later_none : (logs : List ℕ) (t n : ℕ) (store : StoreView) → AreAsBefore logs t n store store
later_none logs t zero store = tt
later_none logs t (suc n) store = (refl, later_none logs (suc t) n store)

later_since : (logs : List ℕ) (t n : ℕ) (old mid new : StoreView) → SameFiles mid new → AreAsBefore logs t n old mid → AreAsBefore logs t n old new
later_since logs t zero old mid new same h = tt
later_since logs t (suc n) old mid new same h = (same.file (log_name logs t) ∙ h.0, later_since logs (suc t) n old mid new same h.1)

-- where another before them is kept
later_next : (logs : List ℕ) (last t n : ℕ) (old mid new : StoreView) → last < t → t + n < 2 ^ 64 → SameOthers (log_name logs last) mid new → AreAsBefore logs t n old mid → AreAsBefore logs t n old new
later_next logs last t zero old mid new less few others h = tt
later_next logs last t (suc n) old mid new less few others h =
    let differs : log_name logs t ≡ log_name logs last → ⊥ = λ same. let is = name_differs logs t last (omega (arith, few)) (omega (arith, less, few)) same in absurd (omega (arith, is, less)) in
    (others.file (log_name logs t) differs ∙ h.0, later_next logs last (suc t) n old mid new (omega (arith, less)) (omega (arith, few)) others h.1)

-- files that are as they were may be those of any devices
may_keep_later : (logs : List ℕ) (t : ℕ) (ds : List DeviceView) (old new : StoreView) → AreAsBefore logs t (length ds) old new → MayKeepEach logs t ds old new
may_keep_later logs t [] old new h = tt
may_keep_later logs t (d ∷ ds) old new h = ((λ on. inl h.0), may_keep_later logs (suc t) ds old new h.1)

kept_to : (logs : List ℕ) (t last : ℕ) (fs : List DeviceView) (d : DeviceView) (ds : List DeviceView) (old new : StoreView) → t + length fs ≡ last → AreKept logs t fs new → MayKeep (log_name logs last) d old new
    → AreAsBefore logs (suc last) (length ds) old new → AreKeptTo logs t (fs ++ d ∷ ds) (length fs) old new
kept_to logs t last [] d ds old new e kept may later =
    let here : last ≡ t = omega (arith, e) in
    (subst (λ i. MayKeep (log_name logs i) d old new) here may, may_keep_later logs (suc t) ds old new (subst (λ i. AreAsBefore logs (suc i) (length ds) old new) here later))
kept_to logs t last (f ∷ fs) d ds old new e kept may later = (kept.0, kept_to logs (suc t) last fs d ds old new (omega (arith, e)) kept.1 may later)

may_keep_since : (name : List ℕ) (d : DeviceView) (old mid new last : StoreView) → mid.file name ≡ old.file name → SameFiles new last → MayKeep name d mid new → MayKeep name d old last
may_keep_since name d old mid new last before same h on = by (h (sym same.tells ∙ on))
  where
    by : (new.file name ≡ mid.file name) ⊎ HoldsImageOf new name d → (last.file name ≡ old.file name) ⊎ HoldsImageOf last name d
    by (inl e) = inl (same.file name ∙ e ∙ before)
    by (inr k) = inr (k.0, same.file name ∙ k.1, k.2)

fails_since : (logs : List ℕ) (thread : ℕ) (old mid new last : StoreView) (f : OutsideFault) → SameFaults old mid → SameFaults new last
    → FaultsOf {T = Unit {0}} (record { kind = kinds.Keep; name = log_name logs thread }) mid new (Err f) → FaultsOf {T = Unit {0}} (record { kind = kinds.Keep; name = log_name logs thread }) old last (Err f)
fails_since logs thread old mid new last Failed first then_ h = (subst (λ n. Rose n last.faults) first.0 (subst (Rose mid.faults) (sym then_.0) h.0), then_.1 ∙ h.1)
fails_since logs thread old mid new last NoMemory first then_ h = (then_.0 ∙ (h.0 ∙ first.0), then_.1 ∙ (h.1 ∙ first.1))

module _ {Device : Type 0} (means : Device → DeviceView) where
  -- The devices before those that are left were kept; those that are left stand with the last of them first.
  pub record KeptSo (logs : List ℕ) (all left : List Device) (thread : ℕ) (old mid : StoreView) : Type 0 where
    pub front : List Device
    pub whole : front ++ reverse left ≡ all
    pub count : length front ≡ thread
    pub kept : AreKept logs 0 (map means front) mid
    pub later : AreAsBefore logs thread (length left) old mid
    pub faults : SameFaults old mid
    pub handed : HandedSo (map means all) (map means left) old mid
    pub others : SameBut (log_names logs 0 (length all)) old mid

  pub kept_start : (logs : List ℕ) (all left : List Device) (store : StoreView) → left ≡ reverse all → KeptSo logs all left 0 store store
  kept_start logs all left store e =
      let back : reverse left ≡ all = ap reverse e ∙ reverse-reverse all in
      let same : reverse (map means left) ≡ map means all = ap (λ (l : List Device). reverse (map means l)) e ∙ ap reverse (map_reverse means all) ∙ reverse-reverse (map means all) in
      record {
        front = [];
        whole = back;
        count = refl;
        kept = tt;
        later = later_none logs 0 (length left) store;
        faults = (refl, refl);
        handed = record { faults = ap (λ ds. risen store.device_faults (map fault_of ds)) same; fences = ap (λ ds. risen store.device_fences (map fences_in ds)) same };
        others = record { tells = refl; file = λ other differs. refl };
      }

  -- one that is left is of a thread that is there
  pub kept_low : (logs : List ℕ) (all left rest : List Device) (d : Device) (thread : ℕ) (old mid : StoreView) → left ≡ rest ++ d ∷ [] → KeptSo logs all left thread old mid → thread < length all
  kept_low logs all left rest d thread old mid e so =
      let total = ap length so.whole in
      let long = length-append so.front (reverse left) in
      let back = length-reverse left in
      let some = ap length e ∙ length-append rest (d ∷ []) in
      let count = so.count in
      omega (arith, total, long, back, some, count)

  -- one device more was kept
  pub kept_next : (logs : List ℕ) (all left rest : List Device) (d : Device) (thread : ℕ) (old mid new : StoreView) → left ≡ rest ++ d ∷ [] → length all < 2 ^ 64 → KeptSo logs all left thread old mid
      → KeepsDevice new (log_name logs thread) (means d) → SameFaults mid new → HandsBack (means d) mid new → SameOthers (log_name logs thread) mid new → KeptSo logs all rest (thread + 1) old new
  kept_next logs all left rest d thread old mid new e few so keeps faults hands others =
      let back : reverse left ≡ d ∷ reverse rest = ap reverse e ∙ reverse-append rest (d ∷ []) in
      let whole : (so.front ++ d ∷ []) ++ reverse rest ≡ all = append_assoc so.front (d ∷ []) (reverse rest) ∙ ap (λ l. so.front ++ l) (sym back) ∙ so.whole in
      let total = ap length whole in
      let long = length-append (so.front ++ d ∷ []) (reverse rest) in
      let one = length-append so.front (d ∷ []) in
      let count = so.count in
      let low : thread < length all = omega (arith, total, long, one, count) in
      let mapped = length-map so.front means in
      let in_front : 0 + length (map means so.front) ≡ thread = omega (arith, mapped, count) in
      record {
        front = so.front ++ d ∷ [];
        whole = whole;
        count = omega (arith, one, count);
        kept = subst (λ ds. AreKept logs 0 ds new) (sym (map-append means so.front (d ∷ [])))
            (kept_more logs 0 thread (map means so.front) (means d) new in_front (kept_others logs 0 thread (map means so.front) mid new in_front (omega (arith, low, few)) others so.kept) keeps);
        later = (let more : length left ≡ suc (length rest) = (let long_ = ap length e ∙ length-append rest (d ∷ []) in omega (arith, long_)) in
            let left_long = length-reverse left in
            let total_ = ap length so.whole in
            let front_long = length-append so.front (reverse left) in
            let after : AreAsBefore logs (suc thread) (length rest) old mid = (subst (λ n. AreAsBefore logs thread n old mid) more so.later).1 in
            let next : suc thread ≡ thread + 1 = omega arith in
            subst (λ n. AreAsBefore logs n (length rest) old new) next
            (later_next logs thread (suc thread) (length rest) old mid new (omega arith) (omega (arith, more, left_long, total_, front_long, count, few)) others after));
        faults = (faults.0 ∙ so.faults.0, faults.1 ∙ so.faults.1);
        handed = handed_next means (map means all) left rest d old mid new e hands so.handed;
        others = others_on old mid new logs (length all) thread low so.others others;
      }

  -- all were kept
  pub kept_end : (logs : List ℕ) (all left : List Device) (thread : ℕ) (old mid : StoreView) → left ≡ [] → KeptSo logs all left thread old mid → AreKept logs 0 (map means all) mid × HandsEach (map means all) old mid
  kept_end logs all left thread old mid none so =
      let whole : so.front ≡ all = sym (append-nil so.front) ∙ ap (λ (l : List Device). so.front ++ reverse l) (sym none) ∙ so.whole in
      let here : HandedSo (map means all) [] old mid = subst (λ (l : List Device). HandedSo (map means all) (map means l) old mid) none so.handed in
      (subst (λ (l : List Device). AreKept logs 0 (map means l) mid) whole so.kept, record { faults = here.faults; fences = here.fences })

  -- one could not be kept, and those after it were given up
  pub keep_fails : (logs : List ℕ) (all left rest : List Device) (d : Device) (thread : ℕ) (old mid new last : StoreView) (f : OutsideFault) → left ≡ rest ++ d ∷ [] → length all < 2 ^ 64 → KeptSo logs all left thread old mid
      → MayKeep (log_name logs thread) (means d) mid new → SameOthers (log_name logs thread) mid new → SameFiles new last → SameFaults new last → FaultsOf {T = Unit {0}} (record { kind = kinds.Keep; name = log_name logs thread }) mid new (Err f)
      → KeepFails logs (map means all) old last thread f
  keep_fails logs all left rest d thread old mid new last f e few so may others same faults says =
      let back : reverse left ≡ d ∷ reverse rest = ap reverse e ∙ reverse-append rest (d ∷ []) in
      let whole : so.front ++ d ∷ reverse rest ≡ all = ap (λ l. so.front ++ l) (sym back) ∙ so.whole in
      let total = ap length whole in
      let long = length-append so.front (d ∷ reverse rest) in
      let rest_long = length-reverse rest in
      let count = so.count in
      let low : thread < length all = omega (arith, total, long, count) in
      let mapped : length (map means so.front) ≡ thread = length-map so.front means ∙ count in
      let more : length left ≡ suc (length rest) = (let left_long = ap length e ∙ length-append rest (d ∷ []) in omega (arith, left_long)) in
      let later : AreAsBefore logs thread (suc (length rest)) old mid = subst (λ n. AreAsBefore logs thread n old mid) more so.later in
      let after : AreAsBefore logs (suc thread) (length rest) old last =
      later_since logs (suc thread) (length rest) old new last same (later_next logs thread (suc thread) (length rest) old mid new (omega arith) (omega (arith, total, long, rest_long, count, few)) others later.1) in
      let in_front : 0 + length (map means so.front) ≡ thread = omega (arith, mapped) in
      let kept : AreKept logs 0 (map means so.front) last = kept_same logs 0 (map means so.front) new last same (kept_others logs 0 thread (map means so.front) mid new in_front (omega (arith, low, few)) others so.kept) in
      let mine : MayKeep (log_name logs thread) (means d) old last = may_keep_since (log_name logs thread) (means d) old mid new last later.0 same may in
      let rest_many : length rest ≡ length (map means (reverse rest)) = sym (length-map (reverse rest) means ∙ rest_long) in
      let files = kept_to logs 0 thread (map means so.front) (means d) (map means (reverse rest)) old last in_front kept mine (subst (λ n. AreAsBefore logs (suc thread) n old last) rest_many after) in
      record {
        files = subst (λ ds. AreKeptTo logs 0 ds thread old last) (sym (map-append means so.front (d ∷ reverse rest)) ∙ ap (map means) whole)
            (subst (λ n. AreKeptTo logs 0 (map means so.front ++ means d ∷ map means (reverse rest)) n old last) mapped files);
        faults = fails_since logs thread old mid new last f so.faults faults says;
      }

  pub hands_all : (logs : List ℕ) (all left rest : List Device) (d : Device) (thread : ℕ) (old mid new last : StoreView) → left ≡ rest ++ d ∷ [] → KeptSo logs all left thread old mid → HandsBack (means d) mid new → HandsEach (map means (reverse rest)) new last
      → HandsEach (map means all) old last
  hands_all logs all left rest d thread old mid new last e so hands given =
      let next = handed_next means (map means all) left rest d old mid new e hands so.handed in
      record {
        faults = given.faults ∙ ap (λ ds. risen new.device_faults (map fault_of ds)) (map_reverse means rest) ∙ next.faults;
        fences = given.fences ∙ ap (λ ds. risen new.device_fences (map fences_in ds)) (map_reverse means rest) ∙ next.fences;
      }

-- ---- and then no file changes
may_each_then : (logs : List ℕ) (t : ℕ) (ds : List DeviceView) (old mid new : StoreView) → SameFiles mid new → MayKeepEach logs t ds old mid → MayKeepEach logs t ds old new
may_each_then logs t [] old mid new same h = tt
may_each_then logs t (d ∷ ds) old mid new same h = (may_keep_since (log_name logs t) d old old mid new refl same h.0, may_each_then logs (suc t) ds old mid new same h.1)

kept_to_then : (logs : List ℕ) (t : ℕ) (ds : List DeviceView) (kept : ℕ) (old mid new : StoreView) → SameFiles mid new → AreKeptTo logs t ds kept old mid → AreKeptTo logs t ds kept old new
kept_to_then logs t [] kept old mid new same h = absurd h
kept_to_then logs t (d ∷ ds) zero old mid new same h = may_each_then logs t (d ∷ ds) old mid new same h
kept_to_then logs t (d ∷ ds) (suc kept) old mid new same h = (kept_stays (log_name logs t) d mid new same.tells (same.file (log_name logs t)) h.0, kept_to_then logs (suc t) ds kept old mid new same h.1)

pub fails_then : (logs : List ℕ) (ds : List DeviceView) (old mid new : StoreView) (thread : ℕ) (f : OutsideFault) → SameFiles mid new → SameFaults mid new → KeepFails logs ds old mid thread f → KeepFails logs ds old new thread f
fails_then logs ds old mid new thread f same faults h = record {
  files = kept_to_then logs 0 ds thread old mid new same h.files;
  faults = fails_since logs thread old old mid new f (refl, refl) faults h.faults;
}

pub handed_then : (ds : List DeviceView) (old mid new : StoreView) → SameDevices mid new → HandsEach ds old mid → HandsEach ds old new
handed_then ds old mid new same h = record { faults = same.0 ∙ h.faults; fences = same.1 ∙ h.fences }

-- a call that failed is of one of the threads, and is the last that did
pub failed_at : (kind : FaultKind) (logs : List ℕ) (threads thread : ℕ) (old mid new last : StoreView) (e : OutsideFault) → thread < threads → SameFaults old mid → SameFaults new last
    → FaultsOf {T = Unit {0}} (record { kind = kind; name = log_name logs thread }) mid new (Err e) → LogFaults {T = Unit {0}} kind logs threads old last (Err (fault_at thread e))
failed_at kind logs threads thread old mid new last Failed low first then_ h = record {
  within = low;
  rose = subst (λ n. Rose n last.faults) first.0 (subst (Rose mid.faults) (sym then_.0) h.0);
  last = then_.1 ∙ h.1;
}
failed_at kind logs threads thread old mid new last NoMemory low first then_ h = (then_.0 ∙ (h.0 ∙ first.0), then_.1 ∙ (h.1 ∙ first.1))

device_call : (kind : FaultKind) (logs : List ℕ) (threads thread t : ℕ) (old mid new last : StoreView) → thread < threads → SameFaults old mid → SameFaults new last → LogCallFailed kind logs (thread + 1) t mid new → LogCallFailed kind logs threads t old last
device_call kind logs threads thread t old mid new last low first then_ h = record {
  within = let within = h.within in omega (arith, within, low);
  rose = subst (λ n. Rose n last.faults) first.0 (subst (Rose mid.faults) (sym then_.0) h.rose);
  last = then_.1 ∙ h.last;
}

-- so does one for a device
pub device_failed : (logs : List ℕ) (threads thread : ℕ) (old mid new last : StoreView) (fault : DeviceFault) → thread < threads → SameFaults old mid → SameFaults new last → DeviceFaults {T = Unit {0}} logs (thread + 1) mid new (Err fault)
    → DeviceFaults {T = Unit {0}} logs threads old last (Err fault)
device_failed logs threads thread old mid new last (devices.NotMade t) low first then_ h = device_call kinds.Device logs threads thread t old mid new last low first then_ h
device_failed logs threads thread old mid new last (devices.NotReopened t) low first then_ h = device_call kinds.Reopen logs threads thread t old mid new last low first then_ h
device_failed logs threads thread old mid new last devices.NoMemory low first then_ h = (then_.0 ∙ (h.0 ∙ first.0), then_.1 ∙ (h.1 ∙ first.1))

-- the devices of passes
pub devices_are : {State Device : Type 0} (means : Device → DeviceView) (passes : List (PassView State Device)) → map means (map device_of (map log_of passes)) ≡ devices_in means passes
devices_are means [] = refl
devices_are means (p ∷ ps) = ap (λ ds. means (device_in p) ∷ ds) (devices_are means ps)
