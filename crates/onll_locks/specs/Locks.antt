-- A table of locks: who holds each, and the last token that was granted for it.
use Rattle.std.proofs.Common.{ℕ, Bool, false, List, [], ◌∷◌, ◌≡◌, ◌+◌, ◌-◌, ◌^◌, ◌==◌, ◌&&◌, Option, Some, None, if◌then◌else◌, refl}
use Rattle.std.proofs.Common.{nat_lt, get_or, length, replicate, slice_index_or, slice_set, codes}
use Rattle.onll_rows.specs.Sketch.{Coding, Sketch, row_words}
use Rattle.onll_locks.specs.declared.locks.Lock.{Lock}
use Rattle.onll_locks.specs.declared.locks.Locks.{Locks}
use Rattle.onll_locks.specs.declared.locks.LockOp.{LockOp}
use Rattle.onll_locks.specs.declared.locks.LockOp.TheVariants.{Acquire, Release}
use Rattle.onll_locks.specs.declared.locks.LockQuery.{LockQuery}
use Rattle.onll_locks.specs.declared.locks.LockReply.{LockReply}
use Rattle.onll_locks.specs.declared.locks.LockReply.TheVariants as gives

-- ---- one lock
-- the lock that was never granted
abbrev pub never : Lock
never = record { token = 0; holder = None }

-- the lock with this token, and who holds it
abbrev pub held_by : ℕ → ℕ → Lock
held_by client token = record { token = token; holder = Some client }

-- granted with the next token, where nobody holds it
abbrev pub granting : Option ℕ → ℕ → LockReply
granting None token = if token == 2 ^ 64 - 1 then gives.Spent else gives.Granted (token + 1)
granting (Some holder) token = gives.Held holder token

abbrev pub acquire_reply : Lock → LockReply
acquire_reply k = granting k.holder k.token

-- a grant leaves its token and its holder; what is refused changes nothing
abbrev pub after_acquire : LockReply → ℕ → Lock → Lock
after_acquire (gives.Granted token) client k = held_by client token
after_acquire reply client k = k

-- whether the client is the one that holds the lock
abbrev pub is_holder : Option ℕ → ℕ → Bool
is_holder None client = false
is_holder (Some holder) client = holder == client

abbrev pub release_reply : Lock → ℕ → ℕ → LockReply
release_reply k client token = if is_holder k.holder client && (k.token == token) then gives.Released else gives.Stale

-- a release leaves the token
abbrev pub after_release : LockReply → Lock → Lock
after_release gives.Released k = record { token = k.token; holder = None }
after_release reply k = k

abbrev pub lock_reply : Lock → LockOp → LockReply
lock_reply k (Acquire lock client) = acquire_reply k
lock_reply k (Release lock client token) = release_reply k client token

abbrev pub lock_next : Lock → LockOp → Lock
lock_next k (Acquire lock client) = after_acquire (acquire_reply k) client k
lock_next k (Release lock client token) = after_release (release_reply k client token) k

abbrev pub held_so : Option ℕ → ℕ → LockReply
held_so None token = gives.Free
held_so (Some holder) token = gives.Held holder token

abbrev pub holder_answer : Lock → LockReply
holder_answer k = held_so k.holder k.token

-- ---- the table
abbrev pub lock_of : LockOp → ℕ
lock_of (Acquire lock client) = lock
lock_of (Release lock client token) = lock

abbrev pub lock_at : Locks → ℕ → Lock
lock_at s lock = slice_index_or s.locks lock never

abbrev pub next : Locks → LockOp → Locks
next s op =
    if nat_lt (lock_of op) (length s.locks)
    then record { locks = slice_set s.locks (lock_of op) (lock_next (lock_at s (lock_of op)) op) }
    else s

abbrev pub reply : Locks → LockOp → LockReply
reply s op = if nat_lt (lock_of op) (length s.locks) then lock_reply (lock_at s (lock_of op)) op else gives.NoLock

abbrev pub answer : Locks → LockQuery → LockReply
answer s q = if nat_lt q.lock (length s.locks) then holder_answer (lock_at s q.lock) else gives.NoLock

-- ---- rows
abbrev pub words : LockOp → List ℕ
words (Acquire lock client) = 1 ∷ lock ∷ client ∷ []
words (Release lock client token) = 2 ∷ lock ∷ client ∷ token ∷ []

abbrev pub op_of : List ℕ → Option LockOp
op_of ws =
    if get_or ws 0 0 == 1 then Some (Acquire (get_or ws 1 0) (get_or ws 2 0))
    else Some (Release (get_or ws 1 0) (get_or ws 2 0) (get_or ws 3 0))

pub reads : (op : LockOp) → op_of (row_words (words op)) ≡ Some op
reads (Acquire lock client) = refl
reads (Release lock client token) = refl

abbrev pub locks : Sketch Locks LockOp LockQuery LockReply
locks = let rows : Coding LockOp = record { words = words; op_of = op_of; reads = reads } in
    record { next = next; reply = reply; answer = answer; rows = rows; text = λ s. codes "locks 16" }

-- none was ever granted
abbrev pub none_granted : Locks
none_granted = record { locks = replicate 16 never }
