-- What the users of a lock service rely on, whatever operations anybody does on whatever table.

use Rattle.std.specs.Prelude.{ℕ, Bool, true, false, List, [], ◌∷◌, ◌++◌, ◌≡◌, ◌≢◌, ◌==◌, ◌+◌, ◌<◌, if◌then◌else◌, length, All, AllPairs}
use Rattle.std.specs.List.{AllByRecursion}
use Rattle.onll_lease.specs.declared.entry.LeaseEntry.{LeaseEntry}
use Rattle.onll_lease.specs.declared.operation.LeaseOp.{LeaseOp}
use Rattle.onll_lease.specs.declared.operation.LeaseOp.TheVariants.{Grant, Renew, Release}
use Rattle.onll_lease.specs.declared.operation.LeaseReply.{LeaseReply}
use Rattle.onll_lease.specs.declared.operation.LeaseReply.TheVariants.{HeldUntil, Granted, Renewed, Stale, Released}
use Rattle.onll_lease.specs.Entry.{IsEntry}
use Rattle.onll_lease.specs.Lease.{entry_at, resource_of, lease_reply, lease_next}

-- the table after operations, in order
abbrev pub leases_after : List LeaseEntry → List LeaseOp → List LeaseEntry
leases_after s [] = s
leases_after s (op ∷ ops) = leases_after (lease_next s op) ops

-- the token that a reply grants
abbrev pub token_in : LeaseReply → List ℕ
token_in (Granted t) = t ∷ []
token_in reply = []

-- the token that an operation is granted for a resource
abbrev pub token_granted : ℕ → List LeaseEntry → LeaseOp → List ℕ
token_granted r s op = if resource_of op == r then token_in (lease_reply s op) else []

-- the tokens that operations are granted for a resource, in order
abbrev pub tokens_granted : ℕ → List LeaseEntry → List LeaseOp → List ℕ
tokens_granted r s [] = []
tokens_granted r s (op ∷ ops) = token_granted r s op ++ tokens_granted r (lease_next s op) ops

-- a granted token is greater than every token granted before for that resource
abbrev pub RisingLaw : Type 0
RisingLaw = (s : List LeaseEntry) (ops : List LeaseOp) (r : ℕ)
    → AllPairs (λ earlier later. earlier < later) ((entry_at s r).token ∷ tokens_granted r s ops)

-- a resource's token rises by one with each grant, and by nothing else
abbrev pub TokenCountLaw : Type 0
TokenCountLaw = (s : List LeaseEntry) (ops : List LeaseOp) (r : ℕ)
    → (entry_at (leases_after s ops) r).token ≡ (entry_at s r).token + length (tokens_granted r s ops)

-- while a resource is held at a moment, a grant at that moment is refused and changes nothing
abbrev pub HeldLaw : Type 0
HeldLaw = (s : List LeaseEntry) (r h now ttl : ℕ) → now < (entry_at s r).until
    → (lease_reply s (Grant r h now ttl) ≡ HeldUntil (entry_at s r).until) × (lease_next s (Grant r h now ttl) ≡ s)

-- what others than the one with its token do to a resource of this entry: they ask for it at moments before its end,
-- and renew or release with another token
abbrev pub IsOfOthers : ℕ → LeaseEntry → LeaseOp → Type 0
IsOfOthers r e (Grant q h now ttl) = q ≡ r → now < e.until
IsOfOthers r e (Renew q t now ttl) = q ≡ r → t ≢ e.token
IsOfOthers r e (Release q t) = q ≡ r → t ≢ e.token

-- others never take a held resource, nor change its entry
abbrev pub HeldStaysLaw : Type 0
HeldStaysLaw = (s : List LeaseEntry) (ops : List LeaseOp) (r : ℕ) → AllByRecursion (IsOfOthers r (entry_at s r)) ops
    → (entry_at (leases_after s ops) r ≡ entry_at s r) × (tokens_granted r s ops ≡ [])

-- the operation is refused as stale, and changes nothing
abbrev pub IsStale : List LeaseEntry → LeaseOp → Type 0
IsStale s op = (lease_reply s op ≡ Stale) × (lease_next s op ≡ s)

-- a token below the resource's never renews or releases, after whatever operations
abbrev pub StaleLaw : Type 0
StaleLaw = (s : List LeaseEntry) (ops : List LeaseOp) (r t now ttl : ℕ) → t < (entry_at s r).token
    → IsStale (leases_after s ops) (Renew r t now ttl) × IsStale (leases_after s ops) (Release r t)

-- whether a reply says that something was done
abbrev pub is_done : LeaseReply → Bool
is_done (Granted t) = true
is_done (Renewed u) = true
is_done Released = true
is_done reply = false

-- what is refused changes nothing
abbrev pub LeaseRefusedLaw : Type 0
LeaseRefusedLaw = (s : List LeaseEntry) (op : LeaseOp) → is_done (lease_reply s op) ≡ false → lease_next s op ≡ s

-- a resource that was never granted has no holder and no end, after whatever operations
abbrev pub EntryLaw : Type 0
EntryLaw = (s : List LeaseEntry) (ops : List LeaseOp) → All IsEntry s → All IsEntry (leases_after s ops)

-- nobody has the token 0: it never renews or releases
abbrev pub ZeroLaw : Type 0
ZeroLaw = (s : List LeaseEntry) (r now ttl : ℕ) → All IsEntry s → r < length s → IsStale s (Renew r 0 now ttl) × IsStale s (Release r 0)
