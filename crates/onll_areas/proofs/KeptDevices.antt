-- How a device that is made, filled and kept ends.
use Rattle.std.proofs.Common.{ℕ, ◌≡◌, ◌+◌, ◌-◌, ◌≤◌, true, List, [], ◌∷◌, length, refl, ap, ◌∙◌, subst, arith, inl, inr, ⊎_elim, Ok, Err}
use Rattle.std.specs.Prelude.{Option, Some, None, is_some}
use Rattle.std.proofs.lemmas.List.{length-replicate, get_or-replicate}
use Rattle.onll_pmem.specs.Device.{Mixed, zero_line, zero_lines, line_at}
use Rattle.onll_pmem.specs.Pmem.{DeviceView, Told, ToldSettled}
use Rattle.onll_pmem.proofs.Mixes.{Mixed-same}
use Rattle.onll_log.specs.declared.head.LogHead.{LogHead}
use Rattle.onll_log.specs.declared.cause.MakeCause.{MakeCause}
use Rattle.onll_log.specs.declared.cause.MakeCause.TheVariants.{Small, Dirty, FenceFailed}
use Rattle.onll_log.specs.Head.{head_line}
use Rattle.onll_log.specs.Torn.{log_image}
use Rattle.onll_log.specs.Log.{IsMade, NotMade}
use Rattle.onll_outside.specs.declared.OutsideFault.{OutsideFault}
use Rattle.onll_outside.specs.declared.OutsideFault.TheVariants.{Failed, NoMemory}
use Rattle.onll_outside.specs.declared.store.FaultKind.TheVariants as kinds
use Rattle.onll_outside.specs.Views.{StoreView, SameFiles, SameFaults, SameOthers, SameDevices, FaultsOf, HandsBack, IsFresh, HoldsImageOf, KeepsDevice, MayKeep, KeptOrZeros, Rose, counted, one_fault, image_bytes}
use Rattle.onll_checkpoint.specs.declared.cause.SaveCause.{SaveCause}
use Rattle.onll_checkpoint.specs.declared.cause.SaveCause.TheVariants as saves
use Rattle.onll_checkpoint.specs.Checkpoint.{CheckpointState}
use Rattle.onll_checkpoint.specs.Text.{lines_for}
use Rattle.onll_checkpoint.specs.Grammar.{checkpoint_image}
use Rattle.onll_checkpoint.specs.Save.{IsSaved, NotSaved}
use Rattle.onll_areas.specs.declared.fault.KeepFault.TheVariants as keeps
use Rattle.onll_areas.specs.Keeping.{OthersStay, MayKeepLines, KeepEnds}

-- a device has these lines, all of them durable where that is told, after so many fences
pub record HoldsDurable (d : DeviceView) (lines : List (List ℕ)) (fences : ℕ) : Type 0 where
  pub read : d.read ≡ lines
  pub fences_are : d.fences ≡ fences
  pub faults : d.faults ≡ 0
  pub settled : ToldSettled d.told d.read

-- a device's last fence failed, and it made no more than so many
pub record HasFailed (d : DeviceView) (fences : ℕ) : Type 0 where
  pub faults : d.faults ≡ 1
  pub some_fence : 1 ≤ d.fences
  pub within : d.fences ≤ fences

-- ---- an image of a device whose words are all durable
only_image : (told : Option Told) (read image : List (List ℕ)) → ToldSettled told read → is_some told ≡ true → ((t : Told) → told ≡ Some t → Mixed t.fenced read image) → image ≡ read
only_image None read image s e h = absurd (cc)
only_image (Some t) read image s e h = Mixed-same read image (subst (λ (fenced : List (List ℕ)). Mixed fenced read image) (s t refl) (h t refl))

lines_held : (view : StoreView) (name : List ℕ) (d : DeviceView) (lines : List (List ℕ)) (fences : ℕ) → HoldsDurable d lines fences → is_some d.told ≡ true
    → HoldsImageOf view name d → view.file name ≡ Some (image_bytes lines)
lines_held view name d lines fences h told held =
    held.1 ∙ ap (λ (ls : List (List ℕ)). Some (image_bytes ls)) (only_image d.told d.read held.0 h.settled told held.2 ∙ h.read)

-- ---- other files
others_stay : (store after : StoreView) (name : List ℕ) → SameOthers name store after → OthersStay name store after
others_stay store after name o = record { tells = o.tells; file = λ tells other differs. o.file other differs }

others_then : (store mid after : StoreView) (name : List ℕ) → SameOthers name store mid → SameOthers name mid after → SameOthers name store after
others_then store mid after name a b = record { tells = b.tells ∙ a.tells; file = λ other differs. b.file other differs ∙ a.file other differs }

same_others : (store after : StoreView) (name : List ℕ) → SameFiles store after → SameOthers name store after
same_others store after name same = record { tells = same.tells; file = λ other differs. same.file other }

module _ (name : List ℕ) (lines : List (List ℕ)) (fences : ℕ) (store : StoreView) where
  -- ---- no device was made
  blank_leaves : (after : StoreView) → KeptOrZeros name store after → SameOthers name store after → MayKeepLines store after name lines
  blank_leaves after file others = record { file = λ tells. ⊎_elim (λ e. inl e) (λ z. inr (inl z)) file; others = others_stay store after name others }

  pub not_made : (after : StoreView) (fault : OutsideFault) → KeptOrZeros name store after → SameOthers name store after
      → FaultsOf {T = Unit {0}} (record { kind = kinds.Device; name = name }) store after (Err fault) → SameDevices store after
      → KeepEnds store after name lines fences (Err (keeps.Outside fault))
  not_made after Failed file others faults devices = inl (record {
    rose = faults.0;
    last = faults.1;
    devices = devices;
    file = λ tells. file;
    others = others_stay store after name others;
  })
  not_made after NoMemory file others faults devices = record { calls = faults; faults = inl devices.0; leaves = blank_leaves after file others }

  -- ---- a device was made
  module _ (mid : StoreView) (calls : SameFaults store mid) (devices : SameDevices store mid) (blank : KeptOrZeros name store mid) (made : SameOthers name store mid) where
    -- a device whose fence failed was given up
    pub given_up : (after : StoreView) (d : DeviceView) → HasFailed d fences → SameFiles mid after → SameFaults mid after → HandsBack d mid after
        → KeepEnds store after name lines fences (Err keeps.FenceFailed)
    given_up after d failed same faults hands = record {
      calls = (faults.0 ∙ calls.0, faults.1 ∙ calls.1);
      faults = hands.0 ∙ (ap (λ n. counted n (one_fault d.faults)) devices.0 ∙ ap (λ n. counted store.device_faults (one_fault n)) failed.faults);
      made = d.fences;
      some = failed.some_fence;
      within = failed.within;
      fences_are = hands.1 ∙ ap (λ n. counted n d.fences) devices.1;
      file = λ tells. ⊎_elim (λ (e : mid.file name ≡ store.file name). inl (same.file name ∙ e)) (λ z. inr (z.0, same.file name ∙ z.1, z.2)) blank;
      others = others_stay store after name (others_then store mid after name made (same_others mid after name same));
    }

    -- a device with the lines is kept, or not
    module _ (after : StoreView) (d : DeviceView) (has : HoldsDurable d lines fences) (told : after.tells ≡ true → is_some d.told ≡ true)
        (others : SameOthers name mid after) (hands : HandsBack d mid after) where
      on : store.tells ≡ true → after.tells ≡ true
      on tells = others.tells ∙ (made.tells ∙ tells)

      faults_are : after.device_faults ≡ counted store.device_faults 0
      faults_are = hands.0 ∙ (ap (λ n. counted n (one_fault d.faults)) devices.0 ∙ ap (λ n. counted store.device_faults (one_fault n)) has.faults)

      fences_made : after.device_fences ≡ counted store.device_fences fences
      fences_made = hands.1 ∙ (ap (λ n. counted n d.fences) devices.1 ∙ ap (counted store.device_fences) has.fences_are)

      all_others : OthersStay name store after
      all_others = others_stay store after name (others_then store mid after name made others)

      keep_leaves : MayKeep name d mid after → MayKeepLines store after name lines
      keep_leaves may = record {
        file = λ tells. ⊎_elim
            (λ (e : after.file name ≡ mid.file name). ⊎_elim (λ (z : mid.file name ≡ store.file name). inl (e ∙ z)) (λ z. inr (inl (z.0, e ∙ z.1, z.2))) blank)
            (λ held. inr (inr (lines_held after name d lines fences has (told (on tells)) held)))
            (may (on tells));
        others = all_others;
      }

      pub was_kept : KeepsDevice after name d → SameFaults mid after → KeepEnds store after name lines fences (Ok tt)
      was_kept kept faults = record {
        calls = (faults.0 ∙ calls.0, faults.1 ∙ calls.1);
        faults = faults_are;
        fences_are = fences_made;
        file = λ tells. lines_held after name d lines fences has (told (on tells)) (kept (on tells));
        others = all_others;
      }

      pub not_kept : (fault : OutsideFault) → MayKeep name d mid after → FaultsOf {T = Unit {0}} (record { kind = kinds.Keep; name = name }) mid after (Err fault)
          → KeepEnds store after name lines fences (Err (keeps.Outside fault))
      not_kept Failed may faults = inr (record {
        rose = subst (λ n. Rose n after.faults) calls.0 faults.0;
        last = faults.1;
        faults = faults_are;
        fences_are = fences_made;
        leaves = keep_leaves may;
      })
      not_kept NoMemory may faults = record { calls = (faults.0 ∙ calls.0, faults.1 ∙ calls.1); faults = inr faults_are; leaves = keep_leaves may }

-- ---- a log that has its header alone
fresh_long : (old : DeviceView) → IsFresh (zero_lines 1) old → length old.read ≡ 1
fresh_long old f = ap length f.read

pub header_alone : (old new : DeviceView) (head : LogHead) → IsFresh (zero_lines 1) old → IsMade old new head → HoldsDurable new (head_line head ∷ []) 1
header_alone old new head f m =
    let start = f.fences in
    record {
      read = m.header.read ∙ ap (λ n. log_image head [] (n - 1)) (fresh_long old f);
      fences_are = m.header.fences ∙ ap (λ n. n + 1) start;
      faults = m.faults ∙ f.faults;
      settled = m.settled;
    }

-- it is refused only where its fence failed
pub header_failed : (old new : DeviceView) (cause : MakeCause) (head : LogHead) → IsFresh (zero_lines 1) old → NotMade cause old new head → HasFailed new 1
header_failed old new Small head f h = absurd (let one = fresh_long old f in omega arith)
header_failed old new (Dirty line) head f h =
    absurd (let within = h.within in let one = fresh_long old f in let first : line ≡ 0 = omega arith in
    h.dirty (ap (λ (ls : List (List ℕ)). line_at ls line) f.read ∙ ap (line_at (zero_lines 1)) first))
header_failed old new FenceFailed head f h =
    let start = f.fences in let fences = h.header.fences in
    record { faults = h.faults ∙ ap (λ n. n + 1) f.faults; some_fence = omega arith; within = omega arith }

-- ---- an area
module _ (c : CheckpointState) (old new : DeviceView) (fresh : IsFresh (zero_lines (lines_for (length c.text))) old) where
  area_long : length old.read ≡ lines_for (length c.text)
  area_long = ap length fresh.read ∙ length-replicate (lines_for (length c.text)) zero_line

  pub checkpoint_alone : IsSaved old new c → HoldsDurable new (checkpoint_image c (lines_for (length c.text))) 2
  checkpoint_alone s =
      let start = fresh.fences in
      record {
        read = s.read ∙ ap (checkpoint_image c) area_long;
        fences_are = s.fences ∙ ap (λ n. n + 2) start;
        faults = s.faults ∙ fresh.faults;
        settled = s.settled;
      }

  -- it is refused only where one of its fences failed
  pub checkpoint_failed : (cause : SaveCause) → NotSaved cause old new c → HasFailed new 2
  checkpoint_failed saves.Small h = absurd (let long = area_long in omega arith)
  checkpoint_failed (saves.Dirty line) h =
      absurd (let within = h.first.within in let long = area_long in
      h.first.dirty (ap (λ (ls : List (List ℕ)). line_at ls line) fresh.read ∙ get_or-replicate (lines_for (length c.text)) line zero_line [] (omega arith)))
  checkpoint_failed saves.FenceFailed (inl h) =
      let start = fresh.fences in let fences = h.fences in
      record { faults = h.faults ∙ ap (λ n. n + 1) fresh.faults; some_fence = omega arith; within = omega arith }
  checkpoint_failed saves.FenceFailed (inr h) =
      let start = fresh.fences in let fences = h.fences in
      record { faults = h.faults ∙ ap (λ n. n + 1) fresh.faults; some_fence = omega arith; within = omega arith }
