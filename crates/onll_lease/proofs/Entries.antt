use Rattle.std.proofs.Common.{ℕ, Bool, true, false, List, [], ◌∷◌, ◌≡◌, ◌==◌, ◌&&◌, ◌+◌, ◌⊎◌, inl, inr, ◌<◌, cond, nat_lt, refl, sym, arith}
use Rattle.std.proofs.lemmas.Bool.{lt-ltb, le-ltb, ne_eqb}
use Rattle.std.proofs.lemmas.Bool.Decides.{eqb_tells, nat_tests}
use Rattle.onll_lease.specs.declared.entry.LeaseEntry.{LeaseEntry}
use Rattle.onll_lease.specs.declared.operation.LeaseOp.{LeaseOp}
use Rattle.onll_lease.specs.declared.operation.LeaseOp.TheVariants.{Grant, Renew, Release}
use Rattle.onll_lease.specs.declared.operation.LeaseReply.{LeaseReply}
use Rattle.onll_lease.specs.declared.operation.LeaseReply.TheVariants.{HeldUntil, Late, Spent, Granted, Renewed, Stale, Released}
use Rattle.onll_lease.specs.Entry.{IsEntry, greatest, is_held, is_late, left_by_grant, left_by_renew, left_by_release}
use Rattle.onll_lease.specs.Lease.{resource_of, entry_reply, entry_next}
use Rattle.onll_lease.specs.Laws.{token_in, IsOfOthers}

-- Laws of one resource's entry.

-- An operation either grants the next token or grants none, and the entry has the token granted last.
pub record Grants (t : ℕ) (granted : List ℕ) (after : ℕ) : Type 0 where
  pub which : ((granted ≡ []) × (after ≡ t)) ⊎ ((granted ≡ (t + 1) ∷ []) × (after ≡ t + 1))

-- of a grant, by its tests in turn
by_grant : (e : LeaseEntry) (h u : ℕ) (held late spent : Bool)
    → let reply : LeaseReply = cond held (HeldUntil e.until) (cond late Late (cond spent Spent (Granted (e.token + 1)))) in
    Grants e.token (token_in reply) (left_by_grant reply h u e).token
by_grant e h u true late spent = record { which = inl (refl, refl) }
by_grant e h u false true spent = record { which = inl (refl, refl) }
by_grant e h u false false true = record { which = inl (refl, refl) }
by_grant e h u false false false = record { which = inr (refl, refl) }

-- of a renewal
by_renew : (e : LeaseEntry) (u : ℕ) (current late : Bool)
    → let reply : LeaseReply = cond current (cond late Late (Renewed u)) Stale in
    Grants e.token (token_in reply) (left_by_renew reply e).token
by_renew e u true true = record { which = inl (refl, refl) }
by_renew e u true false = record { which = inl (refl, refl) }
by_renew e u false late = record { which = inl (refl, refl) }

-- of a release
by_release : (e : LeaseEntry) (current : Bool)
    → let reply : LeaseReply = cond current Released Stale in
    Grants e.token (token_in reply) (left_by_release reply e).token
by_release e true = record { which = inl (refl, refl) }
by_release e false = record { which = inl (refl, refl) }

pub Grants-entry : (e : LeaseEntry) (op : LeaseOp) → Grants e.token (token_in (entry_reply e op)) (entry_next e op).token
Grants-entry e (Grant r h now ttl) = by_grant e h (now + ttl) (is_held e now) (is_late now ttl) (e.token == greatest)
Grants-entry e (Renew r t now ttl) = by_renew e (now + ttl) (t == e.token && is_held e now) (is_late now ttl)
Grants-entry e (Release r t) = by_release e (t == e.token && nat_lt 0 e.until)

-- what others do leaves the entry of a resource that is held
pub kept_by_others : (e : LeaseEntry) (op : LeaseOp) → IsOfOthers (resource_of op) e op → entry_next e op ≡ e
kept_by_others e (Grant r h now ttl) other = rw (lt-ltb now e.until (other refl)) refl
kept_by_others e (Renew r t now ttl) other = rw (ne_eqb t e.token (other refl)) refl
kept_by_others e (Release r t) other = rw (ne_eqb t e.token (other refl)) refl

-- and is granted no token
pub none_to_others : (e : LeaseEntry) (op : LeaseOp) → IsOfOthers (resource_of op) e op → token_in (entry_reply e op) ≡ []
none_to_others e (Grant r h now ttl) other = rw (lt-ltb now e.until (other refl)) refl
none_to_others e (Renew r t now ttl) other = rw (ne_eqb t e.token (other refl)) refl
none_to_others e (Release r t) other = rw (ne_eqb t e.token (other refl)) refl

-- where the token is 0 after a grant, it was refused
never_granted_grant : (e : LeaseEntry) (h u : ℕ) (held late spent : Bool) → IsEntry e
    → IsEntry (left_by_grant (cond held (HeldUntil e.until) (cond late Late (cond spent Spent (Granted (e.token + 1))))) h u e)
never_granted_grant e h u true late spent was = was
never_granted_grant e h u false true spent was = was
never_granted_grant e h u false false true was = was
never_granted_grant e h u false false false was = λ none. absurd (omega arith)

-- a renewal has the token of a resource that is held
never_granted_renew : (e : LeaseEntry) (u : ℕ) (current late : Bool) → (current ≡ true → 0 < e.until) → IsEntry e
    → IsEntry (left_by_renew (cond current (cond late Late (Renewed u)) Stale) e)
never_granted_renew e u true true held was = was
never_granted_renew e u true false held was = λ none. absurd (let no_end : e.until ≡ 0 = (was none).1 in let some_end : 0 < e.until = held refl in omega arith)
never_granted_renew e u false late held was = was

-- a release leaves no end
never_granted_release : (e : LeaseEntry) (current : Bool) → IsEntry e → IsEntry (left_by_release (cond current Released Stale) e)
never_granted_release e true was = λ none. ((was none).0, refl)
never_granted_release e false was = was

-- what is held has an end
held_ends : (e : LeaseEntry) (t now : ℕ) → (t == e.token && is_held e now) ≡ true → 0 < e.until
held_ends e t now held = grind (arith, nat_tests)

-- an operation keeps it so that a resource with the token 0 has no holder and no end
pub IsEntry-next : (e : LeaseEntry) (op : LeaseOp) → IsEntry e → IsEntry (entry_next e op)
IsEntry-next e (Grant r h now ttl) = never_granted_grant e h (now + ttl) (is_held e now) (is_late now ttl) (e.token == greatest)
IsEntry-next e (Renew r t now ttl) = never_granted_renew e (now + ttl) (t == e.token && is_held e now) (is_late now ttl) (held_ends e t now)
IsEntry-next e (Release r t) = never_granted_release e (t == e.token && nat_lt 0 e.until)

-- with the token 0 no resource is held
pub zero_never_holds : (e : LeaseEntry) (now : ℕ) → IsEntry e → (0 == e.token && is_held e now) ≡ false
zero_never_holds e now was = elim (eqb_tells 0 e.token) [
  | inl none ↦ rw (none.0, le-ltb now e.until (let no_end : e.until ≡ 0 = (was (sym none.1)).1 in omega arith)) refl
  | inr given ↦ rw (given.0) refl
]
