use Rattle.std.proofs.Common.{ℕ, zero, suc, Bool, true, false, List, [], ◌∷◌, ◌++◌, ◌≡◌, ◌≢◌, ◌+◌, ◌<◌, ◌&&◌, ◌==◌, length, map, drop, cond, count_by, slice_get, Option, Some, None, refl, ap, sym, ◌∙◌, subst, arith}
use Rattle.std.specs.List.{AllByRecursion}
use Rattle.std.proofs.lemmas.Slice.Eq.{bytes_eq-Decides}
use Rattle.std.proofs.lemmas.Option.{same_Some}
use Rattle.std.proofs.lemmas.Bool.Decides.{nat_tests}
use Rattle.onll_words.specs.declared.line.OpRow.{OpRow}
use Rattle.onll_model.specs.declared.node.Node.{Node}
use Rattle.onll_model.specs.Trace.{is_of_thread, NumberedAbove}
use Rattle.onll_model.specs.Legal.{placed_rows}
use Rattle.onll_model.proofs.Traces.{count_own, count_other}
use Rattle.onll_audit.specs.declared.verdict.Why.TheVariants as whys
use Rattle.onll_audit.specs.Verdict.{place_of, same_row, nth_row, node_right, nodes_wrong}
use Rattle.onll_audit.proofs.Following.{both, eq_fact, eq_test, Begin}

abbrev pub row_of : OpRow × ℕ → OpRow
row_of r = r.0

-- these rows begin those
abbrev pub BeginRows : List OpRow → List OpRow → Type 0
BeginRows [] ys = Unit {0}
BeginRows (x ∷ xs) [] = ⊥
BeginRows (x ∷ xs) (y ∷ ys) = (x ≡ y) × BeginRows xs ys

-- rows that begin one way and places that begin the other are the same
pub same_placed : (xs ys : List (OpRow × ℕ)) → BeginRows (map row_of ys) (map row_of xs) → Begin (map place_of xs) (map place_of ys) → xs ≡ ys
same_placed [] [] g h = refl
same_placed [] (y ∷ ys) g h = elim g [ ]
same_placed (x ∷ xs) [] g h = elim h [ ]
same_placed (x ∷ xs) (y ∷ ys) g h =
    ap (λ (p : ℕ). (x.0, p) ∷ xs) h.0 ∙ ap (λ (r : OpRow). (r, y.1) ∷ xs) (sym g.0) ∙ ap (λ (zs : List (OpRow × ℕ)). y ∷ zs) (same_placed xs ys g.1 h.1)

pub begin_same : (xs : List ℕ) → Begin xs xs
begin_same [] = tt
begin_same (x ∷ xs) = (refl, begin_same xs)

row_drop : (rows : List OpRow) (k : ℕ) (r : OpRow) → slice_get rows k ≡ Some r → drop k rows ≡ r ∷ drop (suc k) rows
row_drop [] k r e = cc e
row_drop (x ∷ rows) zero r e = ap (λ (y : OpRow). y ∷ rows) (same_Some x r e)
row_drop (x ∷ rows) (suc k) r e = row_drop rows k r e

same_row_is : (row : OpRow) (o : Option OpRow) → same_row row o ≡ true → (r : OpRow) × (o ≡ Some r) × (r ≡ row)
same_row_is row None e = cc e
same_row_is row (Some r) e = (r, refl, ap (λ (w : List ℕ). record { w = w }) ((bytes_eq-Decides r.w row.w).0 e))

row_at_is : (o : Option (List OpRow)) (k : ℕ) (r : OpRow) → nth_row o k ≡ Some r → (rows : List OpRow) × (o ≡ Some rows) × (slice_get rows k ≡ Some r)
row_at_is None k r e = cc e
row_at_is (Some rows) k r e = (rows, refl, e)

own_is : (t : ℕ) (n : Node) → is_of_thread t n ≡ true → n.thread ≡ t
own_is t n e = grind (arith, nat_tests)

own_not : (t : ℕ) (n : Node) → is_of_thread t n ≡ false → n.thread ≢ t
own_not t n e same = grind (arith, nat_tests)

own_test : (t : ℕ) (n : Node) → n.thread ≡ t → is_of_thread t n ≡ true
own_test t n e = grind (arith, nat_tests)

right_first : (rows : List (List OpRow)) (n : ℕ) (below nodes : List Node) (x : Node) (right : Bool) → node_right rows below x ≡ right
    → (cond right (nodes_wrong rows (n + 1) (below ++ x ∷ []) nodes) (Some (n, whys.Node)) ≡ None)
    → (node_right rows below x ≡ true) × (nodes_wrong rows (n + 1) (below ++ x ∷ []) nodes ≡ None)
right_first rows n below nodes x true g e = (g, e)
right_first rows n below nodes x false g e = cc e

-- the row of a right node
record IsRightNode (rows : List (List OpRow)) (below : List Node) (x : Node) : Type 0 where
  number : x.number ≡ count_by (is_of_thread x.thread) below + 1
  own : List OpRow
  of_thread : slice_get rows x.thread ≡ Some own
  here : slice_get own (count_by (is_of_thread x.thread) below) ≡ Some x.row

right_node : (rows : List (List OpRow)) (below : List Node) (x : Node) → node_right rows below x ≡ true → IsRightNode rows below x
right_node rows below x e =
    let count = count_by (is_of_thread x.thread) below in
    let parts = both (x.number == count + 1) (same_row x.row (nth_row (slice_get rows x.thread) count)) e in
    let row = same_row_is x.row (nth_row (slice_get rows x.thread) count) parts.1 in
    let at = row_at_is (slice_get rows x.thread) count row.0 row.1 in
    record {
      number = eq_fact x.number (count + 1) parts.0;
      own = at.0;
      of_thread = at.1;
      here = at.2 ∙ ap Some row.2;
    }

-- where no node is wrong they are numbered
pub none_numbered : (rows : List (List OpRow)) (n : ℕ) (below nodes : List Node) → nodes_wrong rows n below nodes ≡ None → NumberedAbove below nodes
none_numbered rows n below [] e = tt
none_numbered rows n below (x ∷ nodes) e =
    let first = right_first rows n below nodes x (node_right rows below x) refl e in
    ((right_node rows below x first.0).number, none_numbered rows (n + 1) (below ++ x ∷ []) nodes first.1)

inside : {A : Type 0} (xs : List A) (k : ℕ) (x : A) → slice_get xs k ≡ Some x → k < length xs
inside [] k x e = cc e
inside (y ∷ xs) zero x e = omega arith
inside (y ∷ xs) (suc k) x e = omega (arith, inside xs k x e)

-- and of the threads
pub none_threads : (rows : List (List OpRow)) (n : ℕ) (below nodes : List Node) → nodes_wrong rows n below nodes ≡ None
    → AllByRecursion (λ (m : Node). m.thread < length rows) nodes
none_threads rows n below [] e = tt
none_threads rows n below (x ∷ nodes) e =
    let first = right_first rows n below nodes x (node_right rows below x) refl e in
    let right = right_node rows below x first.0 in
    (inside rows x.thread right.own right.of_thread, none_threads rows (n + 1) (below ++ x ∷ []) nodes first.1)

-- and each thread's rows begin those of its updates with a place
pub none_rows : (rows : List (List OpRow)) (n p : ℕ) (below nodes : List Node) → nodes_wrong rows n below nodes ≡ None → (t : ℕ) (own : List OpRow)
    → slice_get rows t ≡ Some own → BeginRows (map row_of (placed_rows t p nodes)) (drop (count_by (is_of_thread t) below) own)
none_rows rows n p below [] e t own at = tt
none_rows rows n p below (x ∷ nodes) e t own at =
    let first = right_first rows n below nodes x (node_right rows below x) refl e in
    by_own rows below nodes x p t own at (right_node rows below x first.0)
    (none_rows rows (n + 1) (p + 1) (below ++ x ∷ []) nodes first.1 t own at) (is_of_thread t x) refl
  where
    by_own : (rows : List (List OpRow)) (below nodes : List Node) (x : Node) (p t : ℕ) (own : List OpRow) → slice_get rows t ≡ Some own → IsRightNode rows below x
        → BeginRows (map row_of (placed_rows t (p + 1) nodes)) (drop (count_by (is_of_thread t) (below ++ x ∷ [])) own)
        → (mine : Bool) → is_of_thread t x ≡ mine
        → BeginRows (map row_of (cond mine ((x.row, p + 1) ∷ []) [] ++ placed_rows t (p + 1) nodes)) (drop (count_by (is_of_thread t) below) own)
    by_own rows below nodes x p t own at right rest true g =
        let mine = own_is t x g in
        let count = count_by (is_of_thread t) below in
        let same : right.own ≡ own = same_Some right.own own (sym right.of_thread ∙ ap (slice_get rows) mine ∙ at) in
        let here : slice_get own count ≡ Some x.row =
        ap (λ (o : List OpRow). slice_get o count) (sym same) ∙ ap (λ (k : ℕ). slice_get right.own (count_by (is_of_thread k) below)) (sym mine) ∙ right.here in
        let P : ℕ → Type 0 = λ k. BeginRows (map row_of (placed_rows t (p + 1) nodes)) (drop k own) in
        let Q : List OpRow → Type 0 = λ rs. BeginRows (x.row ∷ map row_of (placed_rows t (p + 1) nodes)) rs in
        subst Q (sym (row_drop own count x.row here)) (refl, subst P (count_own t below x mine) rest)
    by_own rows below nodes x p t own at right rest false g =
        let P : ℕ → Type 0 = λ k. BeginRows (map row_of (placed_rows t (p + 1) nodes)) (drop k own) in
        subst P (count_other t below x (own_not t x g)) rest

-- ---- the other way
-- each thread's rows are those of its updates, and the nodes are numbered and of the threads: none is wrong
pub nodes_right : (rows : List (List OpRow)) (n p : ℕ) (below nodes : List Node) → NumberedAbove below nodes
    → AllByRecursion (λ (m : Node). m.thread < length rows) nodes
    → ((t : ℕ) (own : List OpRow) → slice_get rows t ≡ Some own → drop (count_by (is_of_thread t) below) own ≡ map row_of (placed_rows t p nodes))
    → nodes_wrong rows n below nodes ≡ None
nodes_right rows n p below [] num low rest = refl
nodes_right rows n p below (x ∷ nodes) num low rest =
    let present = at_thread rows x.thread low.0 in
    let count = count_by (is_of_thread x.thread) below in
    let mine = own_test x.thread x refl in
    let begins : drop count present.0 ≡ x.row ∷ map row_of (placed_rows x.thread (p + 1) nodes) =
    rest x.thread present.0 present.1 ∙ ap (λ (own : Bool). map row_of (cond own ((x.row, p + 1) ∷ []) [] ++ placed_rows x.thread (p + 1) nodes)) mine in
    let here : slice_get present.0 count ≡ Some x.row = first_of present.0 count x.row _ begins in
    let row : same_row x.row (nth_row (slice_get rows x.thread) count) ≡ true =
    ap (λ (o : Option (List OpRow)). same_row x.row (nth_row o count)) present.1 ∙ ap (same_row x.row) here ∙ (bytes_eq-Decides x.row.w x.row.w).1 refl in
    let right : node_right rows below x ≡ true = and_both (x.number == count + 1) _ (eq_test x.number (count + 1) num.0) row in
    ap (λ (b : Bool). cond b (nodes_wrong rows (n + 1) (below ++ x ∷ []) nodes) (Some (n, whys.Node))) right
    ∙ nodes_right rows (n + 1) (p + 1) (below ++ x ∷ []) nodes num.1 low.1 (λ t own at. on_rest t own (rest t own at) (is_of_thread t x) refl)
  where
    at_thread : (rows : List (List OpRow)) (t : ℕ) → t < length rows → (own : List OpRow) × (slice_get rows t ≡ Some own)
    at_thread [] t lt = absurd (omega arith)
    at_thread (own ∷ rows) zero lt = (own, refl)
    at_thread (own ∷ rows) (suc t) lt = at_thread rows t (omega arith)

    first_of : (own : List OpRow) (k : ℕ) (r : OpRow) (rs : List OpRow) → drop k own ≡ r ∷ rs → slice_get own k ≡ Some r
    first_of [] zero r rs e = cc e
    first_of [] (suc k) r rs e = cc e
    first_of (o ∷ own) zero r rs e = let same : o ≡ r = cc in ap Some same
    first_of (o ∷ own) (suc k) r rs e = first_of own k r rs e

    and_both : (a b : Bool) → a ≡ true → b ≡ true → (a && b) ≡ true
    and_both true b g h = h
    and_both false b g h = cc g

    next_drop : (own : List OpRow) (k : ℕ) (r : OpRow) (rs : List OpRow) → drop k own ≡ r ∷ rs → drop (suc k) own ≡ rs
    next_drop [] zero r rs e = cc e
    next_drop [] (suc k) r rs e = cc e
    next_drop (o ∷ own) zero r rs e = cc
    next_drop (o ∷ own) (suc k) r rs e = next_drop own k r rs e

    on_rest : (t : ℕ) (own : List OpRow) → drop (count_by (is_of_thread t) below) own ≡ map row_of (placed_rows t p (x ∷ nodes)) → (mine : Bool) → is_of_thread t x ≡ mine
        → drop (count_by (is_of_thread t) (below ++ x ∷ [])) own ≡ map row_of (placed_rows t (p + 1) nodes)
    on_rest t own e true g =
        ap (λ (k : ℕ). drop k own) (count_own t below x (own_is t x g))
        ∙ next_drop own (count_by (is_of_thread t) below) x.row _
        (e ∙ ap (λ (o : Bool). map row_of (cond o ((x.row, p + 1) ∷ []) [] ++ placed_rows t (p + 1) nodes)) g)
    on_rest t own e false g =
        ap (λ (k : ℕ). drop k own) (count_other t below x (own_not t x g))
        ∙ e ∙ ap (λ (o : Bool). map row_of (cond o ((x.row, p + 1) ∷ []) [] ++ placed_rows t (p + 1) nodes)) g

pub ruleset traces = (none_rows, nodes_right)
