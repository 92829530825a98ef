-- Devices that are given up, one thread after the other, and the files beside.
use Rattle.std.proofs.Common.{ℕ, zero, suc, List, [], ◌∷◌, ◌++◌, ◌≡◌, ◌+◌, ◌<◌, ◌^◌, map, reverse, decimal, codes, refl, sym, ap, ◌∙◌, subst, arith}
use Rattle.std.proofs.lemmas.Fmt.{decimal_injective}
use Rattle.std.proofs.lemmas.List.{map-append, reverse-append, append_cancel_left}
use Rattle.std.specs.List.{AllByRecursion}
use Rattle.onll_model.proofs.Lists.{all_append}
use Rattle.onll_pmem.specs.Pmem.{DeviceView}
use Rattle.onll_outside.specs.Views.{StoreView, SameFiles, SameOthers, SameFaults, SameDevices, HandsBack, IsFresh, counted, one_fault, HandsEach, risen, fault_of, fences_in}
use Rattle.onll_open.specs.Names.{log_name, log_names}
use Rattle.onll_open.specs.Files.{SameBut, SameCounts}
use Rattle.onll_open.specs.Devices.{NoneCounted}

pub faults_more : (store mid after : StoreView) → SameFaults store mid → SameFaults mid after → SameFaults store after
faults_more store mid after first then_ = (then_.0 ∙ first.0, then_.1 ∙ first.1)

pub devices_more : (store mid after : StoreView) → SameDevices store mid → SameDevices mid after → SameDevices store after
devices_more store mid after first then_ = (then_.0 ∙ first.0, then_.1 ∙ first.1)

pub counts_more : (store mid after : StoreView) → SameCounts store mid → SameCounts mid after → SameCounts store after
counts_more store mid after first then_ = (faults_more store mid after first.0 then_.0, devices_more store mid after first.1 then_.1)

names_at : (P : List ℕ → Type 0) (logs : List ℕ) (i n k : ℕ) → k < n → AllByRecursion P (log_names logs i n) → P (log_name logs (i + k))
names_at P logs i zero k h a = absurd (omega arith)
names_at P logs i (suc n) zero h a = let e : i ≡ i + 0 = omega arith in subst (λ m. P (log_name logs m)) e a.0
names_at P logs i (suc n) (suc k) h a = let e : suc i + k ≡ i + suc k = omega arith in subst (λ m. P (log_name logs m)) e (names_at P logs (suc i) n k (omega arith) a.1)

pub others_on : (store mid new : StoreView) (logs : List ℕ) (n i : ℕ) → i < n → SameBut (log_names logs 0 n) store mid → SameOthers (log_name logs i) mid new → SameBut (log_names logs 0 n) store new
others_on store mid new logs n i h before after =
    record { tells = after.tells ∙ before.tells; file = λ other differs. after.file other (let e : 0 + i ≡ i = omega arith in subst (λ m. other ≡ log_name logs m → ⊥) e (names_at (λ name. other ≡ name → ⊥) logs 0 n i h differs)) ∙ before.file other differs }

-- no file but these changed, and then none
pub same_after : (names : List (List ℕ)) (old mid new : StoreView) → SameBut names old mid → SameFiles mid new → SameBut names old new
same_after names old mid new first same = record { tells = same.tells ∙ first.tells; file = λ other differs. same.file other ∙ first.file other differs }

pub name_differs : (logs : List ℕ) (i j : ℕ) → i < 2 ^ 64 → j < 2 ^ 64 → log_name logs i ≡ log_name logs j → i ≡ j
name_differs logs i j hi hj e =
    decimal_injective i j hi hj (append_cancel_left (codes ".") (decimal i) (decimal j) (append_cancel_left logs (codes "." ++ decimal i) (codes "." ++ decimal j) e))

pub files_more : (old mid new : StoreView) → SameFiles old mid → SameFiles mid new → SameFiles old new
files_more old mid new first then_ = record { tells = then_.tells ∙ first.tells; file = λ name. then_.file name ∙ first.file name }

-- ---- counts
-- where this one is handed back first, what is left makes what all make
pub hands_more : (d : DeviceView) (ds : List DeviceView) (mid new : StoreView) → HandsBack d mid new
    → (risen new.device_faults (map fault_of ds) ≡ risen mid.device_faults (map fault_of (d ∷ ds))) × (risen new.device_fences (map fences_in ds) ≡ risen mid.device_fences (map fences_in (d ∷ ds)))
hands_more d ds mid new h = (ap (λ n. risen n (map fault_of ds)) h.0, ap (λ n. risen n (map fences_in ds)) h.1)

-- devices that made no fence leave a count as it is
risen_none : (g : DeviceView → ℕ) (n : ℕ) (ds : List DeviceView) → n < 2 ^ 64 → AllByRecursion (λ (d : DeviceView). g d ≡ 0) ds → risen n (map g ds) ≡ n
risen_none g n [] few none = refl
risen_none g n (d ∷ ds) few none =
    let zero_here = none.0 in
    let same : counted n (g d) ≡ n = omega (arith, zero_here, few) in
    ap (λ m. risen m (map g ds)) same ∙ risen_none g n ds few none.1

-- some were handed back, and these are left, the last of them first
pub record HandedSo (all left : List DeviceView) (old mid : StoreView) : Type 0 where
  pub faults : risen mid.device_faults (map fault_of (reverse left)) ≡ risen old.device_faults (map fault_of all)
  pub fences : risen mid.device_fences (map fences_in (reverse left)) ≡ risen old.device_fences (map fences_in all)

module _ {Device : Type 0} (means : Device → DeviceView) where
  pub map_reverse : (xs : List Device) → map means (reverse xs) ≡ reverse (map means xs)
  map_reverse [] = refl
  map_reverse (x ∷ xs) = ap (map means) (reverse-append (x ∷ []) xs) ∙ (map-append means (reverse xs) (x ∷ []) ∙ (ap (λ (l : List DeviceView). l ++ means x ∷ []) (map_reverse xs) ∙ sym (reverse-append (means x ∷ []) (map means xs))))

  -- a device that was not fenced
  pub record IsUnused (d : Device) : Type 0 where
    pub fences : (means d).fences ≡ 0
    pub faults : (means d).faults ≡ 0

  none_fenced : (ds : List Device) → AllByRecursion IsUnused ds → AllByRecursion (λ (d : DeviceView). fences_in d ≡ 0) (map means (reverse ds))
  none_fenced [] h = tt
  none_fenced (d ∷ ds) h = subst (AllByRecursion (λ (x : DeviceView). fences_in x ≡ 0)) (sym (ap (map means) (reverse-append (d ∷ []) ds) ∙ map-append means (reverse ds) (d ∷ [])))
      (all_append (λ (x : DeviceView). fences_in x ≡ 0) (map means (reverse ds)) (means d ∷ []) (none_fenced ds h.1) (h.0.fences, tt))

  none_failed : (ds : List Device) → AllByRecursion IsUnused ds → AllByRecursion (λ (d : DeviceView). fault_of d ≡ 0) (map means (reverse ds))
  none_failed [] h = tt
  none_failed (d ∷ ds) h = subst (AllByRecursion (λ (x : DeviceView). fault_of x ≡ 0)) (sym (ap (map means) (reverse-append (d ∷ []) ds) ∙ map-append means (reverse ds) (d ∷ [])))
      (all_append (λ (x : DeviceView). fault_of x ≡ 0) (map means (reverse ds)) (means d ∷ []) (none_failed ds h.1) (ap one_fault h.0.faults, tt))

  -- such devices were given up
  pub none_counted : (ds : List Device) (old mid new last : StoreView) → AllByRecursion IsUnused ds → SameDevices old mid → SameDevices mid new → HandsEach (map means (reverse ds)) new last → NoneCounted old last
  none_counted ds old mid new last unused first then_ hands =
      let faults : new.device_faults ≡ old.device_faults = then_.0 ∙ first.0 in
      let fences : new.device_fences ≡ old.device_fences = then_.1 ∙ first.1 in (
        (λ few. hands.faults ∙ risen_none fault_of new.device_faults (map means (reverse ds)) (subst (λ n. n < 2 ^ 64) (sym faults) few) (none_failed ds unused) ∙ faults),
        (λ few. hands.fences ∙ risen_none fences_in new.device_fences (map means (reverse ds)) (subst (λ n. n < 2 ^ 64) (sym fences) few) (none_fenced ds unused) ∙ fences),
      )

  pub unused_more : (devices pushed : List Device) (d : Device) (front : List (List ℕ)) → pushed ≡ devices ++ d ∷ [] → IsFresh front (means d) → AllByRecursion IsUnused devices → AllByRecursion IsUnused pushed
  unused_more devices pushed d front p fresh h =
      subst (AllByRecursion IsUnused) (sym p) (all_append IsUnused devices (d ∷ []) h (record { fences = fresh.fences; faults = fresh.faults }, tt))

  popped : (left rest : List Device) (d : Device) → left ≡ rest ++ d ∷ [] → reverse (map means left) ≡ means d ∷ reverse (map means rest)
  popped left rest d e = ap (λ (l : List Device). reverse (map means l)) e ∙ ap reverse (map-append means rest (d ∷ [])) ∙ reverse-append (map means rest) (means d ∷ [])

  pub handed_next : (all : List DeviceView) (left rest : List Device) (d : Device) (old mid new : StoreView) → left ≡ rest ++ d ∷ [] → HandsBack (means d) mid new → HandedSo all (map means left) old mid → HandedSo all (map means rest) old new
  handed_next all left rest d old mid new e h so =
      let more = hands_more (means d) (reverse (map means rest)) mid new h in
      let same = popped left rest d e in
      record {
        faults = more.0 ∙ ap (λ ds. risen mid.device_faults (map fault_of ds)) (sym same) ∙ so.faults;
        fences = more.1 ∙ ap (λ ds. risen mid.device_fences (map fences_in ds)) (sym same) ∙ so.fences;
      }

  -- all stand with the last of them first
  pub handed_start : (all : List Device) (store : StoreView) → HandedSo (map means (reverse all)) (map means all) store store
  handed_start all store = record {
    faults = ap (λ ds. risen store.device_faults (map fault_of ds)) (sym (map_reverse all));
    fences = ap (λ ds. risen store.device_fences (map fences_in ds)) (sym (map_reverse all));
  }

  pub handed_end : (all left : List Device) (old mid : StoreView) → left ≡ [] → HandedSo (map means (reverse all)) (map means left) old mid → HandsEach (map means (reverse all)) old mid
  handed_end all left old mid none so =
      let here : HandedSo (map means (reverse all)) [] old mid = subst (λ (l : List Device). HandedSo (map means (reverse all)) (map means l) old mid) none so in
      record { faults = here.faults; fences = here.fences }
