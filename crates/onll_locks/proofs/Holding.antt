-- What one operation does to a lock, and what many do.
use Rattle.std.proofs.Common.{ℕ, zero, suc, Bool, true, false, List, [], ◌∷◌, ◌≡◌, ◌≢◌, ◌==◌, ◌&&◌, ◌+◌, ◌-◌, ◌^◌, ◌<◌, ◌≤◌, ◌⊎◌, inl, inr, ⊎_elim}
use Rattle.std.proofs.Common.{Option, Some, None, if◌then◌else◌, nat_lt, length, take, refl, sym, ap, ◌∙◌, subst, arith, get_or-set_same, get_or-set_other, slice_set}
use Rattle.std.specs.List.{slice_get}
use Rattle.std.proofs.lemmas.Bool.{cases_lt, lt-ltb, le-ltb}
use Rattle.std.proofs.lemmas.Bool.Decides.{eqb_tells}
use Rattle.onll_model.specs.Object.{Behaviour}
use Rattle.onll_model.specs.declared.node.Node.{Node}
use Rattle.onll_model.specs.Trace.{after_row, state_after}
use Rattle.onll_model.proofs.Lists.{inside, present, same_some, some_not_none}
use Rattle.onll_rows.specs.Sketch.{behaviour_of}
use Rattle.onll_locks.specs.declared.locks.Lock.{Lock}
use Rattle.onll_locks.specs.declared.locks.Locks.{Locks}
use Rattle.onll_locks.specs.declared.locks.LockOp.{LockOp}
use Rattle.onll_locks.specs.declared.locks.LockOp.TheVariants.{Acquire, Release}
use Rattle.onll_locks.specs.declared.locks.LockReply.{LockReply}
use Rattle.onll_locks.specs.declared.locks.LockReply.TheVariants as gives
use Rattle.onll_locks.specs.Locks.{after_acquire, after_release, granting, held_by, is_holder, lock_next, lock_reply, lock_at, lock_of, locks, never, next, reply}
use Rattle.onll_locks.specs.Laws.{AloneLaw, GrantLaw, GrantedAt, HoldsLaw, IsGrantOf, ReleasedBetween, GrantsRiseLaw, lock_before}

-- ---- one lock
-- its token never falls
rises : (k : Lock) (op : LockOp) → k.token ≤ (lock_next k op).token
rises k (Acquire lock client) = by k.holder
  where
    spent : (q : Bool) → k.token ≤ (after_acquire (if q then gives.Spent else gives.Granted (k.token + 1)) client k).token
    spent true = omega arith
    spent false = omega arith

    by : (holder : Option ℕ) → k.token ≤ (after_acquire (granting holder k.token) client k).token
    by None = spent (k.token == 2 ^ 64 - 1)
    by (Some h) = omega arith
rises k (Release lock client token) = by (is_holder k.holder client && (k.token == token))
  where
    by : (own : Bool) → k.token ≤ (after_release (if own then gives.Released else gives.Stale) k).token
    by true = omega arith
    by false = omega arith

-- only its holder's release changes a lock that is held
keeps : (c t : ℕ) (op : LockOp) → ((op ≡ Release (lock_of op) c t) × (lock_reply (held_by c t) op ≡ gives.Released))
    ⊎ (lock_next (held_by c t) op ≡ held_by c t)
keeps c t (Acquire lock client) = inr refl
keeps c t (Release lock d u) = elim (eqb_tells c d) [
  | inl same ↦ elim (eqb_tells t u) [
    | inl equal ↦ inl (rw (same.1, equal.1) refl, rw (same.0, equal.0) refl)
    | inr other ↦ inr (rw (same.0, other.0) refl)
  ]
  | inr other ↦ inr (rw (other.0) refl)
]

-- a grant is of a lock that nobody holds
grants : (k : Lock) (lock c u : ℕ) → lock_reply k (Acquire lock c) ≡ gives.Granted u
    → IsGrantOf k u × (lock_next k (Acquire lock c) ≡ held_by c u)
grants k lock c u g = (by k.holder refl g, ap (λ (r : LockReply). after_acquire r c k) g)
  where
    spent : (q : Bool) → k.holder ≡ None → (if q then gives.Spent else gives.Granted (k.token + 1)) ≡ gives.Granted u → IsGrantOf k u
    spent true e h = absurd (cc)
    spent false e h = record { nobody = e; token_is = cc }

    by : (holder : Option ℕ) → k.holder ≡ holder → granting holder k.token ≡ gives.Granted u → IsGrantOf k u
    by None e h = spent (k.token == 2 ^ 64 - 1) e h
    by (Some x) e h = absurd (cc)

-- ---- the table
own : (s : Locks) (op : LockOp) → lock_of op < length s.locks → lock_at (next s op) (lock_of op) ≡ lock_next (lock_at s (lock_of op)) op
own s op here = rw (lt-ltb (lock_of op) (length s.locks) here)
    (get_or-set_same s.locks (lock_of op) (lock_next (lock_at s (lock_of op)) op) never here)

past : (s : Locks) (op : LockOp) → length s.locks ≤ lock_of op → lock_at (next s op) (lock_of op) ≡ lock_at s (lock_of op)
past s op high = rw (le-ltb (lock_of op) (length s.locks) high) refl

elsewhere : (s : Locks) (op : LockOp) (l : ℕ) → lock_of op ≢ l → lock_at (next s op) l ≡ lock_at s l
elsewhere s op l other = by (nat_lt (lock_of op) (length s.locks))
  where
    by : (q : Bool)
        → lock_at (if q then record { locks = slice_set s.locks (lock_of op) (lock_next (lock_at s (lock_of op)) op) } else s) l ≡ lock_at s l
    by true = get_or-set_other s.locks (lock_of op) l (lock_next (lock_at s (lock_of op)) op) never (λ same. other (sym same))
    by false = refl

rises_own : (s : Locks) (op : LockOp) → (lock_at s (lock_of op)).token ≤ (lock_at (next s op) (lock_of op)).token
rises_own s op = elim (cases_lt (lock_of op) (length s.locks)) [
  | inl here ↦ rw (own s op here) (rises (lock_at s (lock_of op)) op)
  | inr high ↦ rw (past s op high) (omega arith)
]

rises_at : (s : Locks) (op : LockOp) (l : ℕ) → (lock_at s l).token ≤ (lock_at (next s op) l).token
rises_at s op l = elim (eqb_tells (lock_of op) l) [
  | inl same ↦ subst (λ (i : ℕ). (lock_at s i).token ≤ (lock_at (next s op) i).token) same.1 (rises_own s op)
  | inr other ↦ rw (elsewhere s op l other.1) (omega arith)
]

-- an operation released the lock, or left it held
abbrev Keeps : Locks → LockOp → ℕ → ℕ → ℕ → Type 0
Keeps s op l c t = lock_at s l ≡ held_by c t
    → ((op ≡ Release l c t) × (reply s op ≡ gives.Released)) ⊎ (lock_at (next s op) l ≡ held_by c t)

keeps_own : (s : Locks) (op : LockOp) (c t : ℕ) → Keeps s op (lock_of op) c t
keeps_own s op c t e = elim (cases_lt (lock_of op) (length s.locks)) [
  | inl here ↦ ⊎_elim
      (λ (r : (op ≡ Release (lock_of op) c t) × (lock_reply (held_by c t) op ≡ gives.Released)).
      inl (r.0, rw (lt-ltb (lock_of op) (length s.locks) here) (ap (λ (k : Lock). lock_reply k op) e ∙ r.1)))
      (λ (same : lock_next (held_by c t) op ≡ held_by c t). inr (own s op here ∙ (ap (λ (k : Lock). lock_next k op) e ∙ same)))
      (keeps c t op)
  | inr high ↦ inr (past s op high ∙ e)
]

keeps_at : (s : Locks) (op : LockOp) (l c t : ℕ) → Keeps s op l c t
keeps_at s op l c t = elim (eqb_tells (lock_of op) l) [
  | inl same ↦ subst (λ (i : ℕ). Keeps s op i c t) same.1 (keeps_own s op c t)
  | inr other ↦ λ e. inr (elsewhere s op l other.1 ∙ e)
]

grants_at : (s : Locks) (l c u : ℕ) → reply s (Acquire l c) ≡ gives.Granted u
    → IsGrantOf (lock_at s l) u × (lock_at (next s (Acquire l c)) l ≡ held_by c u)
grants_at s l c u g = elim (cases_lt l (length s.locks)) [
  | inl here ↦
      let one = grants (lock_at s l) l c u (rw (lt-ltb l (length s.locks) here) at g) in
      (one.0, own s (Acquire l c) here ∙ one.1)
  | inr high ↦ absurd (let none : gives.NoLock ≡ gives.Granted u = rw (le-ltb l (length s.locks) high) at g in cc)
]

-- ---- the nodes of a trace
next_state : {State Op Query Reply : Type 0} (b : Behaviour State Op Query Reply) (s : State) (trace : List Node) (i : ℕ) (n : Node)
    → slice_get trace i ≡ Some n → state_after b s (take (suc i) trace) ≡ after_row b (state_after b s (take i trace)) (b.op_at n.row)
next_state b s [] i n e = some_not_none n (sym e)
next_state b s (x ∷ trace) zero n e = ap (λ (y : Node). after_row b s (b.op_at y.row)) (same_some x n e)
next_state b s (x ∷ trace) (suc i) n e = next_state b (after_row b s (b.op_at x.row)) trace i n e

rises_row : (s : Locks) (o : Option LockOp) (l : ℕ) → (lock_at s l).token ≤ (lock_at (after_row (behaviour_of locks) s o) l).token
rises_row s None l = omega arith
rises_row s (Some op) l = rises_at s op l

module _ (first : Locks) (nodes : List Node) where
  -- the locks after so many nodes
  abbrev at_index : ℕ → Locks
  at_index i = state_after (behaviour_of locks) first (take i nodes)

  after_node : (j : ℕ) (n : Node) (o : Option LockOp) → slice_get nodes j ≡ Some n → (behaviour_of locks).op_at n.row ≡ o
      → at_index (suc j) ≡ after_row (behaviour_of locks) (at_index j) o
  after_node j n o here row = next_state (behaviour_of locks) first nodes j n here ∙ ap (after_row (behaviour_of locks) (at_index j)) row

  climbs : (l i k j : ℕ) → i + k ≡ j → j ≤ length nodes → (lock_at (at_index i) l).token ≤ (lock_at (at_index j) l).token
  climbs l i zero j e low =
      let same : i ≡ j = omega (arith, e) in
      subst (λ (x : ℕ). (lock_at (at_index i) l).token ≤ (lock_at (at_index x) l).token) same (omega arith)
  climbs l i (suc k) j e low =
      let n = present nodes (i + k) (omega (arith, e, low)) in
      let rest = climbs l i k (i + k) refl (omega (arith, e, low)) in
      let row = (behaviour_of locks).op_at n.0.row in
      let more = rises_row (at_index (i + k)) row l in
      let now = ap (λ (s : Locks). (lock_at s l).token) (after_node (i + k) n.0 row n.1 refl) in
      let same : suc (i + k) ≡ j = omega (arith, e) in
      subst (λ (x : ℕ). (lock_at (at_index i) l).token ≤ (lock_at (at_index x) l).token) same (omega (arith, rest, more, now))

  module _ (l c t : ℕ) where
    -- after so many nodes more the lock is held still, or was released on the way
    abbrev Stays : ℕ → ℕ → Type 0
    Stays i j = (lock_at (at_index j) l ≡ held_by c t) ⊎ ReleasedBetween first nodes l c t i (suc j)

    released : (i j : ℕ) (n : Node) (op : LockOp) → i ≤ j → slice_get nodes j ≡ Some n → (behaviour_of locks).op_at n.row ≡ Some op
        → op ≡ Release l c t → reply (at_index j) op ≡ gives.Released → ReleasedBetween first nodes l c t i (suc (suc j))
    released i j n op low here row is r = record {
      place = suc j;
      above = omega (arith, low);
      below = omega arith;
      there = record {
        node = n;
        here = here;
        op_is = row ∙ ap (λ (o : LockOp). Some o) is;
        reply_is = (let z : j ≡ suc j - 1 = omega arith in
            sym r ∙ (ap (λ (o : LockOp). reply (at_index j) o) is ∙ ap (λ (x : ℕ). reply (at_index x) (Release l c t)) z));
      };
    }

    later : (i j : ℕ) → ReleasedBetween first nodes l c t i (suc j) → ReleasedBetween first nodes l c t i (suc (suc j))
    later i j r = let low = r.below in record { place = r.place; above = r.above; below = omega (arith, low); there = r.there }

    stays_one : (i j : ℕ) (n : Node) → i ≤ j → slice_get nodes j ≡ Some n → lock_at (at_index j) l ≡ held_by c t → Stays i (suc j)
    stays_one i j n low here e = by ((behaviour_of locks).op_at n.row) refl
      where
        by : (o : Option LockOp) → (behaviour_of locks).op_at n.row ≡ o → Stays i (suc j)
        by None row = inl (ap (λ (s : Locks). lock_at s l) (after_node j n None here row) ∙ e)
        by (Some op) row = ⊎_elim
            (λ (r : (op ≡ Release l c t) × (reply (at_index j) op ≡ gives.Released)). inr (released i j n op low here row r.0 r.1))
            (λ (same : lock_at (next (at_index j) op) l ≡ held_by c t).
            inl (ap (λ (s : Locks). lock_at s l) (after_node j n (Some op) here row) ∙ same))
            (keeps_at (at_index j) op l c t e)

    stays : (i k : ℕ) → i + k ≤ length nodes → lock_at (at_index i) l ≡ held_by c t → Stays i (i + k)
    stays i zero low e = let same : i ≡ i + 0 = omega arith in subst (Stays i) same (inl e)
    stays i (suc k) low e =
        let n = present nodes (i + k) (omega (arith, low)) in
        let same : suc (i + k) ≡ i + suc k = omega arith in
        subst (Stays i) same (⊎_elim
        (λ (held : lock_at (at_index (i + k)) l ≡ held_by c t). stays_one i (i + k) n.0 (omega arith) n.1 held)
        (λ (r : ReleasedBetween first nodes l c t i (suc (i + k))). inr (later i (i + k) r))
        (stays i k (omega (arith, low)) e))

    -- what a grant at a place says of the lock before and after
    record Given (i : ℕ) : Type 0 where
      fits : suc i ≤ length nodes
      grant : IsGrantOf (lock_at (at_index i) l) t
      held : lock_at (at_index (suc i)) l ≡ held_by c t

    given : (i : ℕ) → GrantedAt first nodes l c t (suc i) → Given i
    given i g =
        let z : suc i - 1 ≡ i = omega arith in
        let r : gives.Granted t ≡ reply (at_index i) (Acquire l c) = g.reply_is ∙ ap (λ (x : ℕ). reply (at_index x) (Acquire l c)) z in
        let one = grants_at (at_index i) l c t (sym r) in
        let low = inside nodes i g.node g.here in record {
          fits = omega (arith, low);
          grant = one.0;
          held = ap (λ (s : Locks). lock_at s l) (after_node i g.node (Some (Acquire l c)) g.here g.op_is) ∙ one.1;
        }

pub grant_law : GrantLaw
grant_law first nodes l c t zero g = some_not_none g.node (sym g.here)
grant_law first nodes l c t (suc i) g =
    let z : i ≡ suc i - 1 = omega arith in
    subst (λ (x : ℕ). IsGrantOf (lock_at (at_index first nodes x) l) t) z (given first nodes l c t i g).grant

pub rising_law : GrantsRiseLaw
rising_law first nodes l c t zero d u q g h low = some_not_none g.node (sym g.here)
rising_law first nodes l c t (suc i) d u zero g h low = some_not_none h.node (sym h.here)
rising_law first nodes l c t (suc i) d u (suc j) g h low =
    let a = given first nodes l c t i g in
    let b = given first nodes l d u j h in
    let fits = b.fits in
    let one = ap (λ (k : Lock). k.token) a.held in
    let two = b.grant.token_is in
    let up = climbs first nodes l (suc i) (j - suc i) j (omega (arith, low)) (omega (arith, fits)) in
    omega (arith, one, two, up)

pub holds_law : HoldsLaw
holds_law first nodes l c t zero q g low high = some_not_none g.node (sym g.here)
holds_law first nodes l c t (suc i) zero g low high = absurd (omega (arith, low))
holds_law first nodes l c t (suc i) (suc j) g low high =
    let a = given first nodes l c t i g in
    let sum : suc i + (j - suc i) ≡ j = omega (arith, low) in
    let s : Stays first nodes l c t (suc i) j =
    subst (Stays first nodes l c t (suc i)) sum (stays first nodes l c t (suc i) (j - suc i) (omega (arith, sum, high)) a.held) in
    let z : j ≡ suc j - 1 = omega arith in
    subst (λ (x : ℕ). (lock_at (at_index first nodes x) l ≡ held_by c t) ⊎ ReleasedBetween first nodes l c t (suc i) (suc j)) z s

pub alone_law : AloneLaw
alone_law first nodes l c t p d u zero g h low = some_not_none h.node (sym h.here)
alone_law first nodes l c t p d u (suc j) g h low =
    let b = given first nodes l d u j h in
    let fits = b.fits in
    let nobody = (grant_law first nodes l d u (suc j) h).nobody in
    ⊎_elim
    (λ (held : lock_before first nodes l (suc j) ≡ held_by c t).
    absurd (let e : Some c ≡ None = sym (ap (λ (k : Lock). k.holder) held) ∙ nobody in cc))
    (λ (r : ReleasedBetween first nodes l c t p (suc j)). r)
    (holds_law first nodes l c t p (suc j) g low (omega (arith, fits)))
