use Rattle.std.specs.Prelude.{ℕ, ◌≡◌, ◌≤◌, true, List, ◌++◌, length, Some, slice_get}
use Rattle.onll_model.specs.declared.node.Node.{Node}
use Rattle.onll_model.specs.Frames.{is_available}
use Rattle.onll_core.specs.declared.returned.Returned.{Returned}
use Rattle.onll_core.specs.Core.{CoreThread, CoreState}
use Rattle.onll_core.specs.Consistent.{EachCoreThread}

-- What steps leave as it is, and what they only add to.

pub record ThreadStays {State Op Query Reply : Type 0} (old new : CoreThread State Op Query Reply) : Type 0 where
  pub head : new.head ≡ old.head
  pub script : new.script ≡ old.script
  -- calls that have returned stay
  pub returned : (more : List (Returned State Op Query Reply)) × (new.returned ≡ old.returned ++ more)
  pub lines : length new.device.read ≡ length old.device.read

pub record Stays {State Op Query Reply : Type 0} (old new : CoreState State Op Query Reply) : Type 0 where
  pub initial : new.initial ≡ old.initial
  pub base : new.base ≡ old.base
  -- nodes stay where they are, and a flag that is set stays set
  pub trace : (more : List Node) × (new.trace ≡ old.trace ++ more)
  pub flags : (p : ℕ) → is_available old.flags p ≡ true → is_available new.flags p ≡ true
  pub clock : old.clock ≤ new.clock
  pub all_threads : length new.threads ≡ length old.threads
  pub threads : EachCoreThread old
      (λ t th. (th' : CoreThread State Op Query Reply) × (slice_get new.threads t ≡ Some th') × ThreadStays th th')
