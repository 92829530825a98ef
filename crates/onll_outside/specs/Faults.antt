-- How a store counts its failed calls.

use Rattle.std.specs.Prelude.{ℕ, ◌≡◌, ◌+◌, ◌-◌, ◌^◌, min, false, Option, Some, None}
use Rattle.onll_outside.specs.declared.OutsideFault.{OutsideFault}
use Rattle.onll_outside.specs.declared.OutsideFault.TheVariants.{Failed, NoMemory}
use Rattle.onll_outside.specs.Views.{Last, StoreView}

-- how many calls failed, and the last of them
pub record FaultsSeen : Type 0 where
  pub count : ℕ
  pub last : Option Last

-- one more, in a count of 64 bits that stays at its end
abbrev pub one_more : ℕ → ℕ
one_more n = min (n + 1) (2 ^ 64 - 1)

-- this call was counted, unless there was no memory for its name
abbrev pub Raises : Last → FaultsSeen → FaultsSeen → OutsideFault → Type 0
Raises this old new Failed = new ≡ record { count = one_more old.count; last = Some this }
Raises this old new NoMemory = new ≡ old

-- the faults of a store, and the counts of the devices that were handed back
pub record CountsSeen : Type 0 where
  pub faults : ℕ
  pub last : Option Last
  pub device_faults : ℕ
  pub device_fences : ℕ

-- a store that tells its counts alone
abbrev pub untold : CountsSeen → StoreView
untold s = record {
  tells = false;
  file = λ _. None;
  faults = s.faults;
  last = s.last;
  device_faults = s.device_faults;
  device_fences = s.device_fences;
}
