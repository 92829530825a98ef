-- What saving a checkpoint leaves of a device, by what the device was before and is now.
use Rattle.std.specs.Prelude.{◌≡◌, ℕ, ◌+◌, ◌<◌, ◌≤◌, ◌⊎◌, length, Some}
use Rattle.onll_pmem.specs.Pmem.{DeviceView, ToldSettled}
use Rattle.onll_log.specs.Log.{IsDirty, IsClean}
use Rattle.onll_checkpoint.specs.declared.cause.SaveCause.{SaveCause}
use Rattle.onll_checkpoint.specs.declared.cause.SaveCause.TheVariants.{Small, Dirty, FenceFailed}
use Rattle.onll_checkpoint.specs.Checkpoint.{CheckpointState}
use Rattle.onll_checkpoint.specs.Text.{lines_for}
use Rattle.onll_checkpoint.specs.Grammar.{checkpoint_image, text_image, checkpoint_in}

-- a device has the lines for a checkpoint, all of them zeros
pub record CanTake (d : DeviceView) (c : CheckpointState) : Type 0 where
  pub clean : IsClean d.read
  pub lines : lines_for (length c.text) ≤ length d.read

-- the checkpoint is there, and durable
pub record IsSaved (old new : DeviceView) (c : CheckpointState) : Type 0 where
  pub room : CanTake old c
  pub read : new.read ≡ checkpoint_image c (length old.read)
  pub fences : new.fences ≡ old.fences + 2
  pub faults : new.faults ≡ old.faults
  pub settled : ToldSettled new.told new.read
  pub found : checkpoint_in new.read ≡ Some c

-- the first fence failed: the text is pending, and the first line reads as zeros
pub record IsTextPending (old new : DeviceView) (c : CheckpointState) : Type 0 where
  pub room : CanTake old c
  pub read : new.read ≡ text_image c.text (length old.read)
  pub fences : new.fences ≡ old.fences + 1
  pub faults : new.faults ≡ old.faults + 1
  pub pending : ToldSettled new.told old.read

-- the second fence failed: the text is durable, and the first line is pending
pub record IsFirstPending (old new : DeviceView) (c : CheckpointState) : Type 0 where
  pub room : CanTake old c
  pub read : new.read ≡ checkpoint_image c (length old.read)
  pub fences : new.fences ≡ old.fences + 2
  pub faults : new.faults ≡ old.faults + 1
  pub pending : ToldSettled new.told (text_image c.text (length old.read))

-- there are the lines for a checkpoint, and this is the first that isn't zero
pub record HasDirty (d : DeviceView) (c : CheckpointState) (line : ℕ) : Type 0 where
  pub lines : lines_for (length c.text) ≤ length d.read
  pub first : IsDirty d.read line

-- why a checkpoint was not saved
abbrev pub NotSaved : SaveCause → DeviceView → DeviceView → CheckpointState → Type 0
NotSaved Small old new c = length old.read < lines_for (length c.text)
NotSaved (Dirty line) old new c = HasDirty old c line
NotSaved FenceFailed old new c = IsTextPending old new c ⊎ IsFirstPending old new c
