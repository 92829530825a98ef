-- The digests of a log: what they are taken over.

use Rattle.std.specs.Prelude.{ℕ, List}
use Rattle.sha2.specs.Hashers.{Holds256}
use Rattle.onll_log.specs.declared.digest.Message.{Message}

-- the bytes that were fed so far
abbrev pub IsMessage : Message → List ℕ → Type 0
IsMessage message bytes = Holds256 message.hasher bytes
