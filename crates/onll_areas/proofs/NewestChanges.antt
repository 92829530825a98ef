-- The newest checkpoint, when an area changes.

use Rattle.std.proofs.Common.{ℕ, ◌≡◌, ◌+◌, ◌%◌, ◌<◌, ◌≤◌, Bool, true, false, refl, sym, ap, ◌∙◌, subst, arith, ◌⊎◌, inl, inr, ◌==◌, eqb-true, eq-eqb}
use Rattle.std.specs.Prelude.{Option, Some, None, nat_lt, if◌then◌else◌}
use Rattle.std.proofs.lemmas.Bool.{cases_Bool}
use Rattle.std.proofs.lemmas.Bool.Decides.{nat_tests}
use Rattle.onll_checkpoint.specs.Checkpoint.{CheckpointState}
use Rattle.onll_areas.specs.Newest.{counting, newer}

-- what counts in an area has its number's parity
pub parity : (area : ℕ) (o : Option CheckpointState) (c : CheckpointState) → counting area o ≡ Some c → c.number % 2 ≡ area
parity area None c e = absurd (cc)
parity area (Some d) c e = at (cases_Bool (d.number % 2 == area))
  where
    at : (d.number % 2 == area ≡ true) ⊎ (d.number % 2 == area ≡ false) → c.number % 2 ≡ area
    at (inl t) =
        let here : Some d ≡ Some c = sym (ap (λ (b : Bool). if b then Some d else None) t) ∙ e in
        let same : d ≡ c = (cc) in
        subst (λ (x : CheckpointState). x.number % 2 ≡ area) same (eqb-true (d.number % 2) area t)
    at (inr f) =
        let here : None ≡ Some c = sym (ap (λ (b : Bool). if b then Some d else None) f) ∙ e in absurd (cc)

pub counts : (area : ℕ) (c : CheckpointState) → c.number % 2 ≡ area → counting area (Some c) ≡ Some c
counts area c e = ap (λ (b : Bool). if b then Some c else None) (eq-eqb (c.number % 2) area e)

-- none counts where the newest is none
none_counts : (o p : Option CheckpointState) → newer o p ≡ None → (o ≡ None) × (p ≡ None)
none_counts None p e = (refl, e)
none_counts (Some c) None e = absurd (cc)
none_counts (Some c) (Some d) e = at (nat_lt c.number d.number) e
  where
    at : (b : Bool) → (if b then Some d else Some c) ≡ None → (Some c ≡ None) × (Some d ≡ None)
    at true h = absurd (cc)
    at false h = absurd (cc)

-- the newest is the one or the other
one_of_two : (o p : Option CheckpointState) (c : CheckpointState) → newer o p ≡ Some c → (o ≡ Some c) ⊎ (p ≡ Some c)
one_of_two None p c e = inr e
one_of_two (Some d) None c e = inl e
one_of_two (Some d) (Some f) c e = at (nat_lt d.number f.number) e
  where
    at : (b : Bool) → (if b then Some f else Some d) ≡ Some c → (Some d ≡ Some c) ⊎ (Some f ≡ Some c)
    at true h = inr h
    at false h = inl h

-- a checkpoint with a greater number is the newest, wherever it stands
newer-greater : (c d : CheckpointState) → c.number < d.number → newer (Some c) (Some d) ≡ Some d
newer-greater c d l = let t : nat_lt c.number d.number ≡ true = grind (arith, nat_tests) in ap (λ (b : Bool). if b then Some d else Some c) t

newer-less : (c d : CheckpointState) → c.number < d.number → newer (Some d) (Some c) ≡ Some d
newer-less c d l = let t : nat_lt d.number c.number ≡ false = grind (arith, nat_tests) in ap (λ (b : Bool). if b then Some c else Some d) t

-- so far only none, or one with a smaller number, counts there
abbrev IsBelow : Option CheckpointState → CheckpointState → Type 0
IsBelow o d = (c : CheckpointState) → o ≡ Some c → c.number < d.number

newest_left : (o : Option CheckpointState) (d : CheckpointState) → IsBelow o d → newer (Some d) o ≡ Some d
newest_left None d h = refl
newest_left (Some c) d h = newer-less c d (h c refl)

newest_right : (o : Option CheckpointState) (d : CheckpointState) → IsBelow o d → newer o (Some d) ≡ Some d
newest_right None d h = refl
newest_right (Some c) d h = newer-greater c d (h c refl)

-- an area that doesn't hold the newest may lose what it holds
right_lost : (o p : Option CheckpointState) (c : CheckpointState) → newer o p ≡ Some c → o ≡ Some c → newer o None ≡ Some c
right_lost None p c e h = absurd (cc)
right_lost (Some d) p c e h = h

-- the newest is above what counts in either
left_below : (o p : Option CheckpointState) (c d : CheckpointState) → newer o p ≡ Some c → c.number < d.number → IsBelow o d
left_below None p c d e l b h = absurd (cc)
left_below (Some x) None c d e l b h =
    let same : x ≡ c = (cc) in let this : x ≡ b = (cc) in
    let n : x.number ≡ c.number = ap (λ (y : CheckpointState). y.number) same in let m : x.number ≡ b.number = ap (λ (y : CheckpointState). y.number) this in omega arith
left_below (Some x) (Some y) c d e l b h = at (cases_Bool (nat_lt x.number y.number))
  where
    this : x.number ≡ b.number
    this = let same : x ≡ b = (cc) in ap (λ (z : CheckpointState). z.number) same

    at : (nat_lt x.number y.number ≡ true) ⊎ (nat_lt x.number y.number ≡ false) → b.number < d.number
    at (inl t) =
        let here : Some y ≡ Some c = sym (ap (λ (z : Bool). if z then Some y else Some x) t) ∙ e in let same : y ≡ c = (cc) in
        let n : y.number ≡ c.number = ap (λ (z : CheckpointState). z.number) same in let less : x.number < y.number = grind (arith, nat_tests) in omega (arith, this)
    at (inr f) =
        let here : Some x ≡ Some c = sym (ap (λ (z : Bool). if z then Some y else Some x) f) ∙ e in let same : x ≡ c = (cc) in
        let n : x.number ≡ c.number = ap (λ (z : CheckpointState). z.number) same in omega (arith, this)

right_below : (o p : Option CheckpointState) (c d : CheckpointState) → newer o p ≡ Some c → c.number < d.number → IsBelow p d
right_below None p c d e l b h =
    let here : Some c ≡ Some b = sym e ∙ h in let same : c ≡ b = (cc) in let n : c.number ≡ b.number = ap (λ (y : CheckpointState). y.number) same in omega arith
right_below (Some x) None c d e l b h = absurd (cc)
right_below (Some x) (Some y) c d e l b h = at (cases_Bool (nat_lt x.number y.number))
  where
    this : y.number ≡ b.number
    this = let same : y ≡ b = (cc) in ap (λ (z : CheckpointState). z.number) same

    at : (nat_lt x.number y.number ≡ true) ⊎ (nat_lt x.number y.number ≡ false) → b.number < d.number
    at (inl t) =
        let here : Some y ≡ Some c = sym (ap (λ (z : Bool). if z then Some y else Some x) t) ∙ e in let same : y ≡ c = (cc) in
        let n : y.number ≡ c.number = ap (λ (z : CheckpointState). z.number) same in omega (arith, this)
    at (inr f) =
        let here : Some x ≡ Some c = sym (ap (λ (z : Bool). if z then Some y else Some x) f) ∙ e in let same : x ≡ c = (cc) in
        let n : x.number ≡ c.number = ap (λ (z : CheckpointState). z.number) same in let less : y.number ≤ x.number = grind (arith, nat_tests) in omega (arith, this)

-- below any number of at least 1 where none counts
none_below : (o : Option CheckpointState) (d : CheckpointState) → o ≡ None → IsBelow o d
none_below o d e c h = absurd (cc)

-- ---- the area of the next number
-- the number of the newest, 0 where there is none
abbrev pub newest_number : Option CheckpointState → ℕ
newest_number None = 0
newest_number (Some c) = c.number

-- the area of the next number may be lost
pub left_kept : (o p n : Option CheckpointState) → newer o p ≡ n → ((c : CheckpointState) → o ≡ Some c → c.number % 2 ≡ 0) → (newest_number n + 1) % 2 ≡ 0 → newer None p ≡ n
left_kept o p None e even next = (none_counts o p e).1
left_kept o p (Some c) e even next = at (one_of_two o p c e)
  where
    at : (o ≡ Some c) ⊎ (p ≡ Some c) → newer None p ≡ Some c
    at (inl h) = absurd (let here = even c h in omega arith)
    at (inr h) = h

pub right_kept : (o p n : Option CheckpointState) → newer o p ≡ n → ((c : CheckpointState) → p ≡ Some c → c.number % 2 ≡ 1) → (newest_number n + 1) % 2 ≡ 1 → newer o None ≡ n
right_kept o p None e odd next = ap (λ (q : Option CheckpointState). newer q None) (none_counts o p e).0
right_kept o p (Some c) e odd next = at (one_of_two o p c e)
  where
    at : (o ≡ Some c) ⊎ (p ≡ Some c) → newer o None ≡ Some c
    at (inl h) = right_lost o p c e h
    at (inr h) = absurd (let here = odd c h in omega arith)

-- the next number is the newest, wherever it stands
pub left_new : (o p n : Option CheckpointState) (d : CheckpointState) → newer o p ≡ n → d.number ≡ newest_number n + 1 → newer (Some d) p ≡ Some d
left_new o p None d e next = newest_left p d (none_below p d (none_counts o p e).1)
left_new o p (Some c) d e next = newest_left p d (right_below o p c d e (omega arith))

pub right_new : (o p n : Option CheckpointState) (d : CheckpointState) → newer o p ≡ n → d.number ≡ newest_number n + 1 → newer o (Some d) ≡ Some d
right_new o p None d e next = newest_right o d (none_below o d (none_counts o p e).0)
right_new o p (Some c) d e next = newest_right o d (left_below o p c d e (omega arith))
