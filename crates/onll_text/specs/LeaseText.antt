-- The calls, replies and initial states of a lease table, as texts say them.

use Rattle.std.specs.Prelude.{ℕ, List, [], ◌∷◌, ◌++◌, ◌+◌, Result, Ok, Err, if◌then◌else◌, length, codes, decimal, nat_lt, slice_set, ◌==◌, ◌&&◌}
use Rattle.std.specs.Str.{bytes_eq}
use Rattle.onll_model.specs.declared.call.Call.{Call}
use Rattle.onll_model.specs.declared.call.Call.TheVariants.{Update, Ask}
use Rattle.onll_lease.specs.declared.entry.LeaseEntry.{LeaseEntry}
use Rattle.onll_lease.specs.declared.operation.LeaseOp.{LeaseOp}
use Rattle.onll_lease.specs.declared.operation.LeaseOp.TheVariants.{Grant, Renew, Release}
use Rattle.onll_lease.specs.declared.operation.LeaseQuery.{LeaseQuery}
use Rattle.onll_lease.specs.declared.operation.LeaseQuery.TheVariants.{Holder}
use Rattle.onll_lease.specs.declared.operation.LeaseReply.{LeaseReply}
use Rattle.onll_lease.specs.declared.operation.LeaseReply.TheVariants.{NoResource, HeldUntil, Late, Spent, Granted, Renewed, Stale, Released, HeldBy, Free}
use Rattle.onll_lease.specs.Lease.{entry_at}
use Rattle.onll_text.specs.declared.reason.Reason.{Reason}
use Rattle.onll_text.specs.declared.reason.Reason.TheVariants.{UnknownWord, WrongCount, OutOfRange, Repeated}
use Rattle.onll_text.specs.Refusal.{◌>>=◌, only_if}
use Rattle.onll_text.specs.Words.{word_as_number, no_word, one_number, two_numbers, four_numbers}

abbrev pub LeaseCall : Type 0
LeaseCall = Call (List LeaseEntry) LeaseOp LeaseQuery LeaseReply

-- the calls of a line's words after the first
abbrev pub grant_of : List (List ℕ) → Result LeaseCall Reason
grant_of args = four_numbers args >>= λ n. Ok (Update (Grant n.0 n.1 n.2 n.3))

abbrev pub renew_of : List (List ℕ) → Result LeaseCall Reason
renew_of args = four_numbers args >>= λ n. Ok (Update (Renew n.0 n.1 n.2 n.3))

abbrev pub release_of : List (List ℕ) → Result LeaseCall Reason
release_of args = two_numbers args >>= λ n. Ok (Update (Release n.0 n.1))

abbrev pub holder_of : List (List ℕ) → Result LeaseCall Reason
holder_of args = two_numbers args >>= λ n. Ok (Ask (Holder n.0 n.1))

-- the call of a line's words
abbrev pub lease_call_of : List (List ℕ) → Result LeaseCall Reason
lease_call_of [] = Err UnknownWord
lease_call_of (first ∷ args) =
    if bytes_eq first (codes "grant") then grant_of args
    else (if bytes_eq first (codes "renew") then renew_of args
    else (if bytes_eq first (codes "release") then release_of args
    else (if bytes_eq first (codes "holder") then holder_of args
    else Err UnknownWord)))

abbrev pub lease_op_words : LeaseOp → List (List ℕ)
lease_op_words (Grant r h now ttl) = codes "grant" ∷ decimal r ∷ decimal h ∷ decimal now ∷ decimal ttl ∷ []
lease_op_words (Renew r t now ttl) = codes "renew" ∷ decimal r ∷ decimal t ∷ decimal now ∷ decimal ttl ∷ []
lease_op_words (Release r t) = codes "release" ∷ decimal r ∷ decimal t ∷ []

abbrev pub lease_query_words : LeaseQuery → List (List ℕ)
lease_query_words (Holder r now) = codes "holder" ∷ decimal r ∷ decimal now ∷ []

abbrev pub lease_reply_words : LeaseReply → List (List ℕ)
lease_reply_words NoResource = codes "no-resource" ∷ []
lease_reply_words (HeldUntil u) = codes "held" ∷ codes "until" ∷ decimal u ∷ []
lease_reply_words Late = codes "late" ∷ []
lease_reply_words Spent = codes "spent" ∷ []
lease_reply_words (Granted t) = codes "granted" ∷ decimal t ∷ []
lease_reply_words (Renewed u) = codes "renewed" ∷ decimal u ∷ []
lease_reply_words Stale = codes "stale" ∷ []
lease_reply_words Released = codes "released" ∷ []
lease_reply_words (HeldBy h t u) = codes "by" ∷ decimal h ∷ codes "token" ∷ decimal t ∷ codes "until" ∷ decimal u ∷ []
lease_reply_words Free = codes "free" ∷ []

-- the moment of the words `until U`
abbrev pub until_of : List (List ℕ) → Result ℕ Reason
until_of [] = Err WrongCount
until_of (word ∷ args) = if bytes_eq word (codes "until") then one_number args else Err UnknownWord

-- the lease of the words `H token T until U`
abbrev pub held_by_of : List (List ℕ) → Result LeaseReply Reason
held_by_of (holder ∷ word ∷ token ∷ args) =
    if bytes_eq word (codes "token")
    then (word_as_number holder >>= λ h. word_as_number token >>= λ t. until_of args >>= λ u. Ok (HeldBy h t u))
    else Err UnknownWord
held_by_of _ = Err WrongCount

-- the reply that words say
abbrev pub lease_reply_of : List (List ℕ) → Result LeaseReply Reason
lease_reply_of [] = Err UnknownWord
lease_reply_of (first ∷ args) =
    if bytes_eq first (codes "no-resource") then (no_word args >>= λ none. Ok NoResource)
    else (if bytes_eq first (codes "held") then (until_of args >>= λ u. Ok (HeldUntil u))
    else (if bytes_eq first (codes "late") then (no_word args >>= λ none. Ok Late)
    else (if bytes_eq first (codes "spent") then (no_word args >>= λ none. Ok Spent)
    else (if bytes_eq first (codes "granted") then (one_number args >>= λ t. Ok (Granted t))
    else (if bytes_eq first (codes "renewed") then (one_number args >>= λ u. Ok (Renewed u))
    else (if bytes_eq first (codes "stale") then (no_word args >>= λ none. Ok Stale)
    else (if bytes_eq first (codes "released") then (no_word args >>= λ none. Ok Released)
    else (if bytes_eq first (codes "by") then held_by_of args
    else (if bytes_eq first (codes "free") then (no_word args >>= λ none. Ok Free)
    else Err UnknownWord)))))))))

abbrev pub held_line : ℕ → LeaseEntry → List (List ℕ)
held_line r e = codes "held" ∷ decimal r ∷ decimal e.token ∷ decimal e.holder ∷ decimal e.until ∷ []

-- the line of a resource, where it was ever granted
abbrev pub entry_lines : ℕ → LeaseEntry → List (List (List ℕ))
entry_lines r e = if e.token == 0 then [] else held_line r e ∷ []

-- the lines of the resources that were ever granted, the first resource being r
abbrev pub held_lines : ℕ → List LeaseEntry → List (List (List ℕ))
held_lines r [] = []
held_lines r (e ∷ entries) = entry_lines r e ++ held_lines (r + 1) entries

abbrev pub lease_state_lines : List LeaseEntry → List (List (List ℕ))
lease_state_lines s = (codes "lease" ∷ decimal (length s) ∷ []) ∷ held_lines 0 s

-- the last token, the holder and the end of a resource
abbrev pub entry_of : ℕ → ℕ → ℕ → LeaseEntry
entry_of t h u = record { token = t; holder = h; until = u }

-- one resource more of an initial table, by its number and its entry: no token is 0, so a resource that has one was named
abbrev pub with_held : List LeaseEntry → ℕ → LeaseEntry → Result (List LeaseEntry) Reason
with_held made r e =
    only_if (nat_lt r (length made) && nat_lt 0 e.token) OutOfRange made
    >>= (λ m. only_if ((entry_at m r).token == 0) Repeated (slice_set m r e))

-- one line more, by its words
abbrev pub with_held_line : List LeaseEntry → List (List ℕ) → Result (List LeaseEntry) Reason
with_held_line made [] = Err UnknownWord
with_held_line made (first ∷ args) =
    if bytes_eq first (codes "held") then (four_numbers args >>= λ n. with_held made n.0 (entry_of n.1 n.2 n.3)) else Err UnknownWord
