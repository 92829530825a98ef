-- A sink in memory: what it is, and how a put into it ends.

use Rattle.std.specs.Prelude.{ℕ, Bool, true, false, List, ◌++◌, ◌≡◌, ◌==◌, Result, Ok, Err, Some}
use Rattle.std.specs.List.{list_any}
use Rattle.onll_outside.specs.declared.OutsideFault.{OutsideFault}
use Rattle.onll_outside.specs.declared.OutsideFault.TheVariants.{Failed, NoMemory}
use Rattle.onll_outside.specs.Views.{SinkView}
use Rattle.onll_outside.specs.Faults.{one_more}

-- a sink in memory: the bytes that it took, the numbers of the puts that fail, how many puts there were,
-- and how many of them failed
pub record BytesHeld : Type 0 where
  pub taken : List ℕ
  pub failing : List ℕ
  pub calls : ℕ
  pub faults : ℕ

-- it tells its bytes
abbrev pub sink_of : BytesHeld → SinkView
sink_of s = record { taken = Some s.taken; faults = s.faults }

-- the next put's number is one of those that fail
abbrev pub put_fails : BytesHeld → Bool
put_fails s = list_any (λ n. n == one_more s.calls) s.failing

abbrev pub put_called : BytesHeld → BytesHeld
put_called s = record s { calls = one_more s.calls }

-- a put fails exactly where its number says so, and takes nothing unless it is Ok
abbrev pub MemPuts : {T : Type 0} → BytesHeld → BytesHeld → List ℕ → Result T OutsideFault → Type 0
MemPuts old new bytes (Ok x) = (put_fails old ≡ false) × (new ≡ record (put_called old) { taken = old.taken ++ bytes })
MemPuts old new bytes (Err Failed) = (put_fails old ≡ true) × (new ≡ record (put_called old) { faults = one_more old.faults })
MemPuts old new bytes (Err NoMemory) = (put_fails old ≡ false) × (new ≡ put_called old)
