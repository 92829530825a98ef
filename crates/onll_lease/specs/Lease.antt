-- A table of leases is the list of its resources' entries; its capacity is their number.

use Rattle.std.specs.Prelude.{ℕ, List, ◌+◌, ◌≤◌, All, if◌then◌else◌, length, nat_lt, slice_index_or, slice_set}
use Rattle.onll_model.specs.Limits.{most_elements}
use Rattle.onll_lease.specs.declared.entry.LeaseEntry.{LeaseEntry}
use Rattle.onll_lease.specs.declared.operation.LeaseOp.{LeaseOp}
use Rattle.onll_lease.specs.declared.operation.LeaseOp.TheVariants.{Grant, Renew, Release}
use Rattle.onll_lease.specs.declared.operation.LeaseQuery.{LeaseQuery}
use Rattle.onll_lease.specs.declared.operation.LeaseQuery.TheVariants.{Holder}
use Rattle.onll_lease.specs.declared.operation.LeaseReply.{LeaseReply}
use Rattle.onll_lease.specs.declared.operation.LeaseReply.TheVariants.{NoResource}
use Rattle.onll_lease.specs.Entry.{IsEntry, OfNumbers, no_lease, grant_reply, renew_reply, release_reply, holder_answer, left_by_grant, left_by_renew, left_by_release}

-- there are 1 to 4,096 resources, and each has an entry of 64-bit numbers
pub record IsLease (s : List LeaseEntry) : Type 0 where
  pub valid : All IsEntry s
  pub numbers : All OfNumbers s
  pub least : 1 ≤ length s
  pub greatest : length s ≤ most_elements

-- the entry of a resource; what is no resource has no lease
abbrev pub entry_at : List LeaseEntry → ℕ → LeaseEntry
entry_at s r = slice_index_or s r no_lease

-- the resource of an operation
abbrev pub resource_of : LeaseOp → ℕ
resource_of (Grant r h now ttl) = r
resource_of (Renew r t now ttl) = r
resource_of (Release r t) = r

-- the reply to an operation on the resource of an entry
abbrev pub entry_reply : LeaseEntry → LeaseOp → LeaseReply
entry_reply e (Grant r h now ttl) = grant_reply e now ttl
entry_reply e (Renew r t now ttl) = renew_reply e t now ttl
entry_reply e (Release r t) = release_reply e t

-- what the operation leaves of the entry
abbrev pub entry_next : LeaseEntry → LeaseOp → LeaseEntry
entry_next e (Grant r h now ttl) = left_by_grant (grant_reply e now ttl) h (now + ttl) e
entry_next e (Renew r t now ttl) = left_by_renew (renew_reply e t now ttl) e
entry_next e (Release r t) = left_by_release (release_reply e t) e

abbrev pub lease_reply : List LeaseEntry → LeaseOp → LeaseReply
lease_reply s op = if nat_lt (resource_of op) (length s) then entry_reply (entry_at s (resource_of op)) op else NoResource

-- the table after an operation: the entry of its resource is changed, where there is that resource
abbrev pub lease_next : List LeaseEntry → LeaseOp → List LeaseEntry
lease_next s op = slice_set s (resource_of op) (entry_next (entry_at s (resource_of op)) op)

abbrev pub lease_answer : List LeaseEntry → LeaseQuery → LeaseReply
lease_answer s (Holder r now) = if nat_lt r (length s) then holder_answer (entry_at s r) now else NoResource
