-- What is left of an area in which an era was to be saved.
use Rattle.std.proofs.Common.{ℕ, ◌≡◌, ◌%◌, List, true, false, refl, sym, ap, ◌∙◌, subst, ◌⊎◌, inl, inr, length}
use Rattle.std.specs.Prelude.{Option, Some, None, Err}
use Rattle.std.proofs.lemmas.Bool.{cases_Bool}
use Rattle.onll_outside.specs.Views.{StoreView, AreZeros, image_bytes}
use Rattle.onll_checkpoint.specs.Checkpoint.{CheckpointState, FitsCheckpoint}
use Rattle.onll_checkpoint.specs.Grammar.{checkpoint_image}
use Rattle.onll_checkpoint.specs.Text.{lines_for}
use Rattle.onll_outside.specs.declared.OutsideFault.TheVariants.{Failed, NoMemory}
use Rattle.onll_outside.specs.declared.store.FaultKind.TheVariants as kinds
use Rattle.onll_areas.specs.declared.fault.KeepFault.{KeepFault}
use Rattle.onll_areas.specs.declared.fault.KeepFault.TheVariants.{Outside, FenceFailed}
use Rattle.onll_areas.specs.Keeping.{KeepEnds, MayKeepLines, StaysOrZeros}
use Rattle.onll_areas.specs.Laws.{BlankAreaLaw, WholeAreaLaw}
use Rattle.onll_areas.specs.Newest.{AreaHolds}
use Rattle.onll_live.specs.declared.era.Era.{Era}
use Rattle.onll_live.specs.Beginning.{AreaSaves, EraStands, NoneSaved, SameAreaFile, SaveFaults}
use Rattle.onll_live.specs.Eras.{area_name, era_logs}
use Rattle.onll_live.specs.Refusals.{of_keep}

-- zeros hold no checkpoint
holds_none : (store : StoreView) (file bytes : List ℕ) → BlankAreaLaw → (store.tells ≡ true → store.file file ≡ Some bytes) → AreZeros bytes → AreaHolds store file None
holds_none store file bytes blank held zeros = record { bytes = bytes; held = held; found_is = sym (blank bytes zeros) }

-- which call of the outside failed, or fence
pub save_faults : (fault : KeepFault) (name lines_name : List ℕ) (area : ℕ) (lines : List (List ℕ)) (store after : StoreView) → lines_name ≡ area_name name area
    → KeepEnds store after lines_name lines 2 (Err fault) → SaveFaults name area store after (Err (of_keep area fault))
save_faults (Outside Failed) name file area lines store after e (inl d) =
    (refl, record { rose = d.rose; last = inl (d.last ∙ ap (λ (n : List ℕ). Some (record { kind = kinds.Device; name = n })) e) })
save_faults (Outside Failed) name file area lines store after e (inr d) =
    (refl, record { rose = d.rose; last = inr (d.last ∙ ap (λ (n : List ℕ). Some (record { kind = kinds.Keep; name = n })) e) })
save_faults (Outside NoMemory) name file area lines store after e d = d.calls
save_faults FenceFailed name file area lines store after e d = (refl, d.calls)

module _ {State : Type 0} (read_of : List ℕ → Option State) (name : List ℕ) (era : Era State) (store after : StoreView) (same : after.tells ≡ store.tells) where
  -- as it was, or none, or this era's
  abbrev pub IsLeft : List ℕ → Type 0
  IsLeft file = SameAreaFile store after file ⊎ AreaHolds after file None ⊎ AreaSaves read_of after name era

  zeros_or_none : (file : List ℕ) → BlankAreaLaw → StaysOrZeros store after file → NoneSaved store after file
  zeros_or_none file blank left = at (cases_Bool store.tells)
    where
      by : (after.file file ≡ store.file file) ⊎ ((bytes : List ℕ) × (after.file file ≡ Some bytes) × AreZeros bytes) → NoneSaved store after file
      by (inl e) = inl (same, λ t. e)
      by (inr z) = inr (holds_none after file z.0 blank (λ t. z.1) z.2)

      at : (store.tells ≡ true) ⊎ (store.tells ≡ false) → NoneSaved store after file
      at (inl t) = by (left t)
      at (inr f) = inl (same, λ t. absurd (let q : true ≡ false = sym t ∙ f in (cc)))

  none_left : (file : List ℕ) → NoneSaved store after file → IsLeft file
  none_left file (inl h) = inl h
  none_left file (inr h) = inr (inl h)

  stays_or_zeros : (file : List ℕ) → BlankAreaLaw → StaysOrZeros store after file → IsLeft file
  stays_or_zeros file blank left = none_left file (zeros_or_none file blank left)

  module _ (this : CheckpointState) (text : List ℕ) (reads : read_of text ≡ Some era.state)
      (this_is : this ≡ record { number = era.number; place = era.place; text = text }) (fits : FitsCheckpoint this) where
    pub saves_so : WholeAreaLaw → (store.tells ≡ true → after.file (era_logs name era.number) ≡ Some (image_bytes (checkpoint_image this (lines_for (length this.text)))))
        → AreaSaves read_of after name era
    saves_so whole held =
        record {
          text = text;
          reads = reads;
          held = subst (λ (c : CheckpointState). AreaHolds after (era_logs name era.number) (Some c)) this_is
              (record { bytes = image_bytes (checkpoint_image this (lines_for (length this.text))); held = λ t. held (sym same ∙ t); found_is = sym (whole this fits) });
        }

    pub may_keep : BlankAreaLaw → WholeAreaLaw → MayKeepLines store after (era_logs name era.number) (checkpoint_image this (lines_for (length this.text)))
        → IsLeft (era_logs name era.number)
    may_keep blank whole left = at (cases_Bool store.tells)
      where
        file : List ℕ
        file = era_logs name era.number

        by : (store.tells ≡ true) → (after.file file ≡ store.file file) ⊎ ((bytes : List ℕ) × (after.file file ≡ Some bytes) × AreZeros bytes)
            ⊎ (after.file file ≡ Some (image_bytes (checkpoint_image this (lines_for (length this.text))))) → IsLeft file
        by t (inl e) = inl (same, λ u. e)
        by t (inr (inl z)) = inr (inl (holds_none after file z.0 blank (λ u. z.1) z.2))
        by t (inr (inr e)) = inr (inr (saves_so whole (λ u. e)))

        at : (store.tells ≡ true) ⊎ (store.tells ≡ false) → IsLeft file
        at (inl t) = by t (left.file t)
        at (inr f) = inl (same, λ t. absurd (let q : true ≡ false = sym t ∙ f in (cc)))

    -- where a fence failed
    pub none_by : (fault : KeepFault) → BlankAreaLaw
        → KeepEnds store after (era_logs name era.number) (checkpoint_image this (lines_for (length this.text))) 2 (Err fault)
        → EraStands (of_keep (era.number % 2) fault) → NoneSaved store after (era_logs name era.number)
    none_by (Outside Failed) blank d h = absurd h
    none_by (Outside NoMemory) blank d h = absurd h
    none_by FenceFailed blank d h = zeros_or_none (era_logs name era.number) blank d.file

    -- whatever was answered where it wasn't kept
    pub left_by : (fault : KeepFault) → BlankAreaLaw → WholeAreaLaw
        → KeepEnds store after (era_logs name era.number) (checkpoint_image this (lines_for (length this.text))) 2 (Err fault) → IsLeft (era_logs name era.number)
    left_by (Outside Failed) blank whole (inl d) = stays_or_zeros (era_logs name era.number) blank d.file
    left_by (Outside Failed) blank whole (inr d) = may_keep blank whole d.leaves
    left_by (Outside NoMemory) blank whole d = may_keep blank whole d.leaves
    left_by FenceFailed blank whole d = stays_or_zeros (era_logs name era.number) blank d.file
