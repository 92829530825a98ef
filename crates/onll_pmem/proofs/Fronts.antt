-- A list that goes on with the same, of which a front is held.
use Rattle.std.proofs.Common.{◌≡◌, ℕ, ◌+◌, ◌-◌, ◌<◌, ◌≤◌, ◌++◌, List, length, set, drop, replicate, sym, ap, ◌∙◌, append_assoc, arith}
use Rattle.std.proofs.lemmas.List.{length-append, length-replicate, length-set, replicate-append-replicate, set-append_left, drop-replicate}
use Rattle.std.proofs.Math.Seq.{drop-append-add}
use Rattle.onll_pmem.specs.Front.{followed}

pub length-followed : {A : Type 0} (rest : A) (front : List A) (count : ℕ) → length front ≤ count → length (followed rest front count) ≡ count
length-followed rest front count within =
    length-append front (replicate (count - length front) rest) ∙ omega (arith, length-replicate (count - length front) rest)

-- behind the front there is only what follows
pub drop-followed : {A : Type 0} (rest : A) (front : List A) (count i : ℕ) → length front ≤ i → drop i (followed rest front count) ≡ replicate (count - i) rest
drop-followed {A} rest front count i behind =
    let e : i ≡ length front + (i - length front) = omega arith in
    let left : count - length front - (i - length front) ≡ count - i = omega arith in
    ap (λ (n : ℕ). drop n (followed rest front count)) e
    ∙ (drop-append-add front (replicate (count - length front) rest) (i - length front)
    ∙ (drop-replicate (i - length front) (count - length front) rest ∙ ap (λ (n : ℕ). replicate n rest) left))

-- where some of what follows is held, it follows all the same
pub followed-more : {A : Type 0} (rest : A) (front : List A) (more count : ℕ) → length front + more ≤ count
    → followed rest (front ++ replicate more rest) count ≡ followed rest front count
followed-more {A} rest front more count within =
    let e : more + (count - length (front ++ replicate more rest)) ≡ count - length front
    = omega (arith, length-append front (replicate more rest), length-replicate more rest) in
    append_assoc front (replicate more rest) (replicate (count - length (front ++ replicate more rest)) rest)
    ∙ ap (λ (xs : List A). front ++ xs) (replicate-append-replicate more (count - length (front ++ replicate more rest)) rest ∙ ap (λ (n : ℕ). replicate n rest) e)

-- one of the front is set
pub set-followed : {A : Type 0} (rest : A) (front : List A) (i count : ℕ) (x : A) → i < length front
    → followed rest (set front i x) count ≡ set (followed rest front count) i x
set-followed rest front i count x within =
    ap (λ (n : ℕ). set front i x ++ replicate (count - n) rest) (length-set front i x)
    ∙ sym (set-append_left front (replicate (count - length front) rest) i x within)

-- one behind the front is set, and what stands before it is held now
pub set-filled : {A : Type 0} (rest : A) (front old : List A) (i count : ℕ) (x : A) → length old ≤ i → i < count
    → front ≡ old ++ replicate (i + 1 - length old) rest → followed rest (set front i x) count ≡ set (followed rest old count) i x
set-filled {A} rest front old i count x behind within same =
    let long : length front ≡ i + 1 = ap length same ∙ (length-append old (replicate (i + 1 - length old) rest)
    ∙ omega (arith, length-replicate (i + 1 - length old) rest)) in
    set-followed rest front i count x (omega arith)
    ∙ ap (λ (xs : List A). set xs i x) (ap (λ (f : List A). followed rest f count) same ∙ followed-more rest old (i + 1 - length old) count (omega arith))
