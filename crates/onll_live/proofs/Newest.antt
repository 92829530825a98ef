-- The newest of two areas, when one of them changes.
use Rattle.std.proofs.Common.{ℕ, ◌≡◌, ◌+◌, ◌%◌, ◌<◌, ◌≤◌, Bool, true, false, refl, sym, ap, ◌∙◌, subst, arith, ◌⊎◌, inl, inr}
use Rattle.std.specs.Prelude.{Option, Some, None, nat_lt, if◌then◌else◌}
use Rattle.std.proofs.lemmas.Bool.{cases_Bool}
use Rattle.std.proofs.lemmas.Bool.Decides.{nat_tests}
use Rattle.onll_checkpoint.specs.Checkpoint.{CheckpointState}
use Rattle.onll_areas.specs.Newest.{counting, newer, newest_of}
use Rattle.onll_areas.proofs.NewestChanges.{parity, counts}
use Rattle.onll_live.specs.Eras.{number_of}

-- the newest is numbered as high as each
left_within : (o p : Option CheckpointState) → number_of o ≤ number_of (newer o p)
left_within None p = omega arith
left_within (Some x) None = omega arith
left_within (Some x) (Some y) = at (cases_Bool (nat_lt x.number y.number))
  where
    at : (nat_lt x.number y.number ≡ true) ⊎ (nat_lt x.number y.number ≡ false) → x.number ≤ number_of (newer (Some x) (Some y))
    at (inl t) = let e = ap (λ (b : Bool). number_of (if b then Some y else Some x)) t in let less : x.number < y.number = grind (arith, nat_tests) in omega arith
    at (inr f) = let e = ap (λ (b : Bool). number_of (if b then Some y else Some x)) f in omega arith

right_within : (o p : Option CheckpointState) → number_of p ≤ number_of (newer o p)
right_within None p = omega arith
right_within (Some x) None = omega arith
right_within (Some x) (Some y) = at (cases_Bool (nat_lt x.number y.number))
  where
    at : (nat_lt x.number y.number ≡ true) ⊎ (nat_lt x.number y.number ≡ false) → y.number ≤ number_of (newer (Some x) (Some y))
    at (inl t) = let e = ap (λ (b : Bool). number_of (if b then Some y else Some x)) t in omega arith
    at (inr f) = let e = ap (λ (b : Bool). number_of (if b then Some y else Some x)) f in let most : y.number ≤ x.number = grind (arith, nat_tests) in omega arith

-- a greater number is the newest, wherever it stands
newer_left : (d : CheckpointState) (p : Option CheckpointState) → number_of p < d.number → newer (Some d) p ≡ Some d
newer_left d None l = refl
newer_left d (Some y) l = let f : nat_lt d.number y.number ≡ false = grind (arith, nat_tests) in ap (λ (b : Bool). if b then Some y else Some d) f

newer_right : (o : Option CheckpointState) (d : CheckpointState) → number_of o < d.number → newer o (Some d) ≡ Some d
newer_right None d l = refl
newer_right (Some x) d l = let t : nat_lt x.number d.number ≡ true = grind (arith, nat_tests) in ap (λ (b : Bool). if b then Some d else Some x) t

-- The next number is the newest in its area.
pub next_even : (even odd : Option CheckpointState) (d : CheckpointState) → d.number ≡ number_of (newest_of even odd) + 1 → d.number % 2 ≡ 0 → newest_of (Some d) odd ≡ Some d
next_even even odd d n e =
    let within = right_within (counting 0 even) (counting 1 odd) in
    ap (λ (o : Option CheckpointState). newer o (counting 1 odd)) (counts 0 d e) ∙ newer_left d (counting 1 odd) (omega arith)

pub next_odd : (even odd : Option CheckpointState) (d : CheckpointState) → d.number ≡ number_of (newest_of even odd) + 1 → d.number % 2 ≡ 1 → newest_of even (Some d) ≡ Some d
next_odd even odd d n e =
    let within = left_within (counting 0 even) (counting 1 odd) in
    ap (newer (counting 0 even)) (counts 1 d e) ∙ newer_right (counting 0 even) d (omega arith)

-- ---- the area of the next number loses what it held
one_of_two : (o p : Option CheckpointState) → (newer o p ≡ o) ⊎ (newer o p ≡ p)
one_of_two None p = inr refl
one_of_two (Some x) None = inl refl
one_of_two (Some x) (Some y) = at (nat_lt x.number y.number)
  where
    at : (b : Bool) → ((if b then Some y else Some x) ≡ Some x) ⊎ ((if b then Some y else Some x) ≡ Some y)
    at true = inr refl
    at false = inl refl

right_none : (o : Option CheckpointState) → newer o None ≡ o
right_none None = refl
right_none (Some x) = refl

-- a number of the other parity than its area's is none's
not_zero : (area : ℕ) (o : Option CheckpointState) → (number_of (counting area o) + 1) % 2 ≡ area → counting area o ≡ None
not_zero area o e = at (counting area o) refl
  where
    at : (p : Option CheckpointState) → counting area o ≡ p → counting area o ≡ None
    at None h = h
    at (Some c) h = absurd (let same = parity area o c h in let n : number_of (counting area o) ≡ c.number = ap number_of h in omega arith)

pub lost_even : (even odd : Option CheckpointState) → (number_of (newest_of even odd) + 1) % 2 ≡ 0 → newest_of None odd ≡ newest_of even odd
lost_even even odd e = at (one_of_two (counting 0 even) (counting 1 odd))
  where
    at : (newest_of even odd ≡ counting 0 even) ⊎ (newest_of even odd ≡ counting 1 odd) → newest_of None odd ≡ newest_of even odd
    at (inl h) =
        let n : (number_of (counting 0 even) + 1) % 2 ≡ 0 = subst (λ (o : Option CheckpointState). (number_of o + 1) % 2 ≡ 0) h e in
        ap (λ (o : Option CheckpointState). newer o (counting 1 odd)) (sym (not_zero 0 even n))
    at (inr h) = sym h

pub lost_odd : (even odd : Option CheckpointState) → (number_of (newest_of even odd) + 1) % 2 ≡ 1 → newest_of even None ≡ newest_of even odd
lost_odd even odd e = at (one_of_two (counting 0 even) (counting 1 odd))
  where
    at : (newest_of even odd ≡ counting 0 even) ⊎ (newest_of even odd ≡ counting 1 odd) → newest_of even None ≡ newest_of even odd
    at (inl h) = right_none (counting 0 even) ∙ sym h
    at (inr h) =
        let n : (number_of (counting 1 odd) + 1) % 2 ≡ 1 = subst (λ (o : Option CheckpointState). (number_of o + 1) % 2 ≡ 1) h e in
        ap (newer (counting 0 even)) (sym (not_zero 1 odd n))
