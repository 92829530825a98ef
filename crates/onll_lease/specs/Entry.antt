-- What the calls say of one resource's entry, and what they leave of it.

use Rattle.std.specs.Prelude.{ℕ, Bool, ◌≡◌, ◌+◌, ◌-◌, ◌^◌, ◌<◌, if◌then◌else◌, nat_lt, ◌==◌, ◌&&◌}
use Rattle.onll_lease.specs.declared.entry.LeaseEntry.{LeaseEntry}
use Rattle.onll_lease.specs.declared.operation.LeaseReply.{LeaseReply}
use Rattle.onll_lease.specs.declared.operation.LeaseReply.TheVariants.{HeldUntil, Late, Spent, Granted, Renewed, Stale, Released, HeldBy, Free}

-- the greatest token, and the last moment
abbrev pub greatest : ℕ
greatest = 2 ^ 64 - 1

-- a resource that was never granted has no holder and no end
abbrev pub IsEntry : LeaseEntry → Type 0
IsEntry e = e.token ≡ 0 → (e.holder ≡ 0) × (e.until ≡ 0)

-- the token, the holder and the end are numbers of 64 bits
pub record OfNumbers (e : LeaseEntry) : Type 0 where
  pub token : e.token < 2 ^ 64
  pub holder : e.holder < 2 ^ 64
  pub until : e.until < 2 ^ 64

-- the entry of a resource that was never granted
abbrev pub no_lease : LeaseEntry
no_lease = record { token = 0; holder = 0; until = 0 }

-- whether it is held at a moment
abbrev pub is_held : LeaseEntry → ℕ → Bool
is_held e now = nat_lt now e.until

-- whether a lease from a moment on would end after the last moment
abbrev pub is_late : ℕ → ℕ → Bool
is_late now ttl = nat_lt greatest (now + ttl)

abbrev pub grant_reply : LeaseEntry → ℕ → ℕ → LeaseReply
grant_reply e now ttl =
    if is_held e now then HeldUntil e.until
    else (if is_late now ttl then Late
    else (if e.token == greatest then Spent
    else Granted (e.token + 1)))

abbrev pub renew_reply : LeaseEntry → ℕ → ℕ → ℕ → LeaseReply
renew_reply e t now ttl = if t == e.token && is_held e now then (if is_late now ttl then Late else Renewed (now + ttl)) else Stale

abbrev pub release_reply : LeaseEntry → ℕ → LeaseReply
release_reply e t = if t == e.token && nat_lt 0 e.until then Released else Stale

abbrev pub holder_answer : LeaseEntry → ℕ → LeaseReply
holder_answer e now = if is_held e now then HeldBy e.holder e.token e.until else Free

-- a grant leaves its token, its holder and its end; one that is refused changes nothing
abbrev pub left_by_grant : LeaseReply → ℕ → ℕ → LeaseEntry → LeaseEntry
left_by_grant (Granted t) h u e = record { token = t; holder = h; until = u }
left_by_grant reply h u e = e

-- a renewal leaves its end
abbrev pub left_by_renew : LeaseReply → LeaseEntry → LeaseEntry
left_by_renew (Renewed u) e = record e { until = u }
left_by_renew reply e = e

-- a release leaves no end, and keeps the token and the holder
abbrev pub left_by_release : LeaseReply → LeaseEntry → LeaseEntry
left_by_release Released e = record e { until = 0 }
left_by_release reply e = e
