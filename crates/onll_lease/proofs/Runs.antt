use Rattle.std.proofs.Common.{ℕ, zero, suc, Bool, true, false, List, [], ◌∷◌, ◌++◌, ◌≡◌, ◌≢◌, ◌==◌, ◌&&◌, ◌+◌, ◌<◌, inl, inr, cond, nat_lt, length, All, AllPairs, refl, sym, ap, ◌∙◌, add-one, arith, length-append, get_or-set_same, get_or-set_other}
use Rattle.std.proofs.lemmas.List.{set_past, get_or_past, set-get_or}
use Rattle.std.proofs.lemmas.List.Elements.{All-get_or, All-set}
use Rattle.std.proofs.lemmas.List.Kept.{AllPairs-from_increasing}
use Rattle.std.specs.List.{AllByRecursion}
use Rattle.std.specs.List.Sorted.{IsStrictlyIncreasing}
use Rattle.std.proofs.lemmas.Bool.{cases_lt, lt-ltb, le-ltb, ne_eqb}
use Rattle.std.proofs.lemmas.Bool.Decides.{eqb_tells}
use Rattle.onll_lease.specs.declared.entry.LeaseEntry.{LeaseEntry}
use Rattle.onll_lease.specs.declared.operation.LeaseOp.{LeaseOp}
use Rattle.onll_lease.specs.declared.operation.LeaseOp.TheVariants.{Renew, Release}
use Rattle.onll_lease.specs.declared.operation.LeaseReply.{LeaseReply}
use Rattle.onll_lease.specs.declared.operation.LeaseReply.TheVariants.{NoResource}
use Rattle.onll_lease.specs.Entry.{IsEntry, no_lease, is_held}
use Rattle.onll_lease.specs.Lease.{entry_at, resource_of, entry_next, lease_reply, lease_next}
use Rattle.onll_lease.specs.Laws.{leases_after, token_in, token_granted, tokens_granted, IsOfOthers, IsStale}
use Rattle.onll_lease.proofs.Entries.{Grants, Grants-entry, kept_by_others, none_to_others, IsEntry-next, zero_never_holds}

-- Laws of tables, over one operation and over lists of them.

-- an operation keeps the entry of each other resource
entry_at-other : (s : List LeaseEntry) (op : LeaseOp) (r : ℕ) → resource_of op ≢ r → entry_at (lease_next s op) r ≡ entry_at s r
entry_at-other s op r other = get_or-set_other s (resource_of op) r _ no_lease (λ same. other (sym same))

-- the token of its own resource is the one granted last
Grants-own : (s : List LeaseEntry) (op : LeaseOp) → Grants (entry_at s (resource_of op)).token (token_in (lease_reply s op)) (entry_at (lease_next s op) (resource_of op)).token
Grants-own s op = elim (cases_lt (resource_of op) (length s)) [
  | inl in_range ↦ rw (lt-ltb (resource_of op) (length s) in_range, get_or-set_same s (resource_of op) (entry_next (entry_at s (resource_of op)) op) no_lease in_range) (Grants-entry (entry_at s (resource_of op)) op)
  | inr past ↦ rw (le-ltb (resource_of op) (length s) past, set_past s (resource_of op) (entry_next (entry_at s (resource_of op)) op) past) (record { which = inl (refl, refl) })
]

-- so is that of each resource
Grants-table : (s : List LeaseEntry) (op : LeaseOp) (r : ℕ) → Grants (entry_at s r).token (token_granted r s op) (entry_at (lease_next s op) r).token
Grants-table s op r = elim (eqb_tells (resource_of op) r) [
  | inl same ↦ rw (same.0, ← same.1) (Grants-own s op)
  | inr other ↦ rw (other.0, entry_at-other s op r other.1) (record { which = inl (refl, refl) })
]

-- numbers that count up by one, the first being one above t
abbrev CountsUp : ℕ → List ℕ → Type 0
CountsUp t [] = Unit {0}
CountsUp t (x ∷ xs) = (x ≡ t + 1) × CountsUp x xs

-- what an operation grants, before what later ones do
CountsUp-joined : (t after : ℕ) (granted later : List ℕ) → Grants t granted after → CountsUp after later → CountsUp t (granted ++ later)
CountsUp-joined t after granted later step up = elim step.which [
  | inl kept ↦ rw (kept.0, ← kept.1) up
  | inr given ↦ rw (given.0) (refl, rw (← given.1) up)
]

CountsUp-tokens : (s : List LeaseEntry) (ops : List LeaseOp) (r : ℕ) → CountsUp (entry_at s r).token (tokens_granted r s ops)
CountsUp-tokens s [] r = tt
CountsUp-tokens s (op ∷ ops) r = CountsUp-joined _ _ (token_granted r s op) (tokens_granted r (lease_next s op) ops) (Grants-table s op r) (CountsUp-tokens (lease_next s op) ops r)

-- numbers that count up are each below the next
increasing : (t : ℕ) (xs : List ℕ) → CountsUp t xs → IsStrictlyIncreasing (t ∷ xs)
increasing t [] up k below = absurd (omega arith)
increasing t (x ∷ xs) up zero below = omega (arith, up.0)
increasing t (x ∷ xs) up (suc k) below =
    let next : k + 1 < length (x ∷ xs) = omega arith in
    rw (add-one (suc k)) (rw (add-one k) at (increasing x xs up.1 k next))

pub AllPairs-tokens : (s : List LeaseEntry) (ops : List LeaseOp) (r : ℕ) → AllPairs (λ earlier later. earlier < later) ((entry_at s r).token ∷ tokens_granted r s ops)
AllPairs-tokens s ops r = AllPairs-from_increasing ((entry_at s r).token ∷ tokens_granted r s ops) (increasing _ (tokens_granted r s ops) (CountsUp-tokens s ops r))

-- the token rises by how many are granted
counted : (t after : ℕ) (granted : List ℕ) → Grants t granted after → after ≡ t + length granted
counted t after granted step = elim step.which [
  | inl kept ↦ rw (kept.0) (omega (arith, kept.1))
  | inr given ↦ rw (given.0) given.1
]

pub token-leases_after : (s : List LeaseEntry) (ops : List LeaseOp) (r : ℕ)
    → (entry_at (leases_after s ops) r).token ≡ (entry_at s r).token + length (tokens_granted r s ops)
token-leases_after s [] r = omega arith
token-leases_after s (op ∷ ops) r =
    let step : (entry_at (lease_next s op) r).token ≡ (entry_at s r).token + length (token_granted r s op) = counted _ _ (token_granted r s op) (Grants-table s op r) in
    omega (arith, step, token-leases_after (lease_next s op) ops r, length-append (token_granted r s op) (tokens_granted r (lease_next s op) ops))

-- where the entry stays, so does the table
same_table : (s : List LeaseEntry) (op : LeaseOp) → entry_next (entry_at s (resource_of op)) op ≡ entry_at s (resource_of op) → lease_next s op ≡ s
same_table s op same = rw same (set-get_or s (resource_of op) no_lease)

-- where there is no resource, no token is granted either
none_in : (here : Bool) (reply : LeaseReply) → token_in reply ≡ [] → token_in (cond here reply NoResource) ≡ []
none_in true reply none = none
none_in false reply none = refl

-- what others do to an operation's own resource leaves it, and gives no token for it
kept_own : (s : List LeaseEntry) (op : LeaseOp) → IsOfOthers (resource_of op) (entry_at s (resource_of op)) op
    → (entry_at (lease_next s op) (resource_of op) ≡ entry_at s (resource_of op)) × (token_in (lease_reply s op) ≡ [])
kept_own s op others =
    let same : lease_next s op ≡ s = same_table s op (kept_by_others (entry_at s (resource_of op)) op others) in
    (ap (λ (t : List LeaseEntry). entry_at t (resource_of op)) same, none_in (nat_lt (resource_of op) (length s)) _ (none_to_others (entry_at s (resource_of op)) op others))

-- and so of each resource
kept_once : (s : List LeaseEntry) (op : LeaseOp) (r : ℕ) → IsOfOthers r (entry_at s r) op
    → (entry_at (lease_next s op) r ≡ entry_at s r) × (token_granted r s op ≡ [])
kept_once s op r others = elim (eqb_tells (resource_of op) r) [
  | inl same ↦ rw (same.0, ← same.1) (kept_own s op (rw (← same.1) at others))
  | inr other ↦ (entry_at-other s op r other.1, rw (other.0) refl)
]

pub kept-leases_after : (s : List LeaseEntry) (ops : List LeaseOp) (r : ℕ) → AllByRecursion (IsOfOthers r (entry_at s r)) ops
    → (entry_at (leases_after s ops) r ≡ entry_at s r) × (tokens_granted r s ops ≡ [])
kept-leases_after s [] r others = (refl, refl)
kept-leases_after s (op ∷ ops) r others =
    let once : (entry_at (lease_next s op) r ≡ entry_at s r) × (token_granted r s op ≡ []) = kept_once s op r others.0 in
    let later : AllByRecursion (IsOfOthers r (entry_at (lease_next s op) r)) ops = rw (once.0) others.1 in
    let rest : (entry_at (leases_after (lease_next s op) ops) r ≡ entry_at (lease_next s op) r) × (tokens_granted r (lease_next s op) ops ≡ []) = kept-leases_after (lease_next s op) ops r later in
    (rest.0 ∙ once.0, rw (once.1) rest.1)

-- a resource with a token is one of the table
in_table : (s : List LeaseEntry) (r t : ℕ) → t < (entry_at s r).token → r < length s
in_table s r t below = elim (cases_lt r (length s)) [
  | inl in_range ↦ in_range
  | inr past ↦ absurd (let none : entry_at s r ≡ no_lease = get_or_past s r no_lease past in let zero_token : (entry_at s r).token ≡ 0 = ap (λ (e : LeaseEntry). e.token) none in omega arith)
]

-- a token below the resource's is stale
stale_now : (s : List LeaseEntry) (r t now ttl : ℕ) → t < (entry_at s r).token → IsStale s (Renew r t now ttl) × IsStale s (Release r t)
stale_now s r t now ttl below =
    let in_range : nat_lt r (length s) ≡ true = lt-ltb r (length s) (in_table s r t below) in
    let other : (t == (entry_at s r).token) ≡ false = ne_eqb t (entry_at s r).token (λ same. omega arith) in (
      (rw (in_range, other) refl, same_table s (Renew r t now ttl) (rw other refl)),
      (rw (in_range, other) refl, same_table s (Release r t) (rw other refl)),
    )

pub stale-leases_after : (s : List LeaseEntry) (ops : List LeaseOp) (r t now ttl : ℕ) → t < (entry_at s r).token
    → IsStale (leases_after s ops) (Renew r t now ttl) × IsStale (leases_after s ops) (Release r t)
stale-leases_after s ops r t now ttl below =
    let above : t < (entry_at (leases_after s ops) r).token = omega (arith, token-leases_after s ops r) in
    stale_now (leases_after s ops) r t now ttl above

-- an operation keeps the entries of resources that were never granted
All-lease_next : (s : List LeaseEntry) (op : LeaseOp) → All IsEntry s → All IsEntry (lease_next s op)
All-lease_next s op all = All-set IsEntry s (resource_of op) (entry_next (entry_at s (resource_of op)) op) (IsEntry-next (entry_at s (resource_of op)) op was) all
  where
    was : IsEntry (entry_at s (resource_of op))
    was = elim (cases_lt (resource_of op) (length s)) [
      | inl in_range ↦ All-get_or IsEntry s (resource_of op) no_lease in_range all
      | inr past ↦ rw (get_or_past s (resource_of op) no_lease past) (λ none. (refl, refl))
    ]

pub All-leases_after : (s : List LeaseEntry) (ops : List LeaseOp) → All IsEntry s → All IsEntry (leases_after s ops)
All-leases_after s [] all = all
All-leases_after s (op ∷ ops) all = All-leases_after (lease_next s op) ops (All-lease_next s op all)

pub zero_stale : (s : List LeaseEntry) (r now ttl : ℕ) → All IsEntry s → r < length s → IsStale s (Renew r 0 now ttl) × IsStale s (Release r 0)
zero_stale s r now ttl all in_range =
    let was : IsEntry (entry_at s r) = All-get_or IsEntry s r no_lease in_range all in
    let here : nat_lt r (length s) ≡ true = lt-ltb r (length s) in_range in
    let not_now : (0 == (entry_at s r).token && is_held (entry_at s r) now) ≡ false = zero_never_holds (entry_at s r) now was in
    let never : (0 == (entry_at s r).token && is_held (entry_at s r) 0) ≡ false = zero_never_holds (entry_at s r) 0 was in (
      (rw (here, not_now) refl, same_table s (Renew r 0 now ttl) (rw not_now refl)),
      (rw (here, never) refl, same_table s (Release r 0) (rw never refl)),
    )
