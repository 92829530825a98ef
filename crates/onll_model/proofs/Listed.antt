-- A thread's nodes of a trace, by their numbers and by their places.

use Rattle.std.proofs.Common.{ℕ, zero, suc, Bool, true, false, List, [], ◌∷◌, ◌++◌, ◌≡◌, ◌≢◌, ◌+◌, length, cond, count_by, slice_get, Some, refl, sym, ap, ◌∙◌, arith, length-append, eqb-true, eq-eqb}
use Rattle.std.proofs.lemmas.Bool.Decides.{nat_tests}
use Rattle.onll_words.specs.declared.line.OpRow.{OpRow}
use Rattle.onll_model.specs.declared.node.Node.{Node}
use Rattle.onll_model.specs.Legal.{placed_rows}
use Rattle.onll_model.specs.Trace.{is_of_thread, NumberedAbove}
use Rattle.onll_model.proofs.Lists.{same_some, some_not_none}
use Rattle.onll_model.proofs.Traces.{count_own, count_other}

-- a node of a thread stands among its rows and places, at its number
pub record IsRowListed (t : ℕ) (below nodes : List Node) (i : ℕ) (n : Node) : Type 0 where
  pub at : ℕ
  pub number : n.number ≡ suc (count_by (is_of_thread t) below + at)
  pub here : slice_get (placed_rows t (length below) nodes) at ≡ Some (n.row, suc (length below + i))

own_is : (t : ℕ) (n : Node) → is_of_thread t n ≡ true → n.thread ≡ t
own_is t n e = eqb-true n.thread t e

own_not : (t : ℕ) (n : Node) → is_of_thread t n ≡ false → n.thread ≢ t
own_not t n e same = grind (arith, nat_tests)

own_test : (t : ℕ) (n : Node) → n.thread ≡ t → is_of_thread t n ≡ true
own_test t n e = eq-eqb n.thread t e

listed_step : (t : ℕ) (below nodes : List Node) (x : Node) (i : ℕ) (n : Node) (own : Bool) → is_of_thread t x ≡ own → IsRowListed t (below ++ x ∷ []) nodes i n
    → IsRowListed t below (x ∷ nodes) (suc i) n
listed_step t below nodes x i n true g l =
    let longer : length (below ++ x ∷ []) ≡ length below + 1 = length-append below (x ∷ []) in
    let place : length (below ++ x ∷ []) + i ≡ length below + suc i = omega arith in
    record {
      at = suc l.at;
      number = omega (arith, l.number, count_own t below x (own_is t x g));
      here = ap (λ (own : Bool). slice_get (cond own ((x.row, length below + 1) ∷ []) [] ++ placed_rows t (length below + 1) nodes) (suc l.at)) g
          ∙ ap (λ (k : ℕ). slice_get (placed_rows t k nodes) l.at) (sym longer) ∙ l.here ∙ ap (λ (k : ℕ). Some (n.row, suc k)) place;
    }
listed_step t below nodes x i n false g l =
    let longer : length (below ++ x ∷ []) ≡ length below + 1 = length-append below (x ∷ []) in
    let place : length (below ++ x ∷ []) + i ≡ length below + suc i = omega arith in
    record {
      at = l.at;
      number = omega (arith, l.number, count_other t below x (own_not t x g));
      here = ap (λ (own : Bool). slice_get (cond own ((x.row, length below + 1) ∷ []) [] ++ placed_rows t (length below + 1) nodes) l.at) g
          ∙ ap (λ (k : ℕ). slice_get (placed_rows t k nodes) l.at) (sym longer) ∙ l.here ∙ ap (λ (k : ℕ). Some (n.row, suc k)) place;
    }

pub row_listed : (t : ℕ) (below nodes : List Node) → NumberedAbove below nodes → (i : ℕ) (n : Node) → slice_get nodes i ≡ Some n → n.thread ≡ t
    → IsRowListed t below nodes i n
row_listed t below [] num i n e own = some_not_none n (sym e)
row_listed t below (x ∷ nodes) num zero n e own =
    let same : x ≡ n = same_some x n e in
    let mine : x.thread ≡ t = ap (λ (m : Node). m.thread) same ∙ own in
    let place : length below + 1 ≡ suc (length below + 0) = omega arith in
    record {
      at = 0;
      number = sym (ap (λ (m : Node). m.number) same) ∙ num.0 ∙ ap (λ (k : ℕ). count_by (is_of_thread k) below + 1) mine ∙ omega arith;
      here = ap (λ (o : Bool). slice_get (cond o ((x.row, length below + 1) ∷ []) [] ++ placed_rows t (length below + 1) nodes) 0) (own_test t x mine)
          ∙ ap (λ (m : Node). Some (m.row, length below + 1)) same ∙ ap (λ (k : ℕ). Some (n.row, k)) place;
    }
row_listed t below (x ∷ nodes) num (suc i) n e own =
    listed_step t below nodes x i n (is_of_thread t x) refl (row_listed t (below ++ x ∷ []) nodes num.1 i n e own)

-- what stands among them is a node of that thread and number
pub record IsPlacedAt (t : ℕ) (below nodes : List Node) (j q : ℕ) : Type 0 where
  pub index : ℕ
  pub node : Node
  pub place : q ≡ suc (length below + index)
  pub here : slice_get nodes index ≡ Some node
  pub number : node.number ≡ suc (count_by (is_of_thread t) below + j)

later : (t : ℕ) (below nodes : List Node) (x : Node) (j k q : ℕ) → count_by (is_of_thread t) (below ++ x ∷ []) + j ≡ count_by (is_of_thread t) below + k
    → IsPlacedAt t (below ++ x ∷ []) nodes j q → IsPlacedAt t below (x ∷ nodes) k q
later t below nodes x j k q e own = record {
  index = suc own.index;
  node = own.node;
  place = omega (arith, own.place, length-append below (x ∷ []));
  here = own.here;
  number = own.number ∙ ap suc e;
}

placed_step : (t : ℕ) (below nodes : List Node) (x : Node) (own : Bool) → is_of_thread t x ≡ own → x.number ≡ count_by (is_of_thread x.thread) below + 1
    → ((j q : ℕ) (row : OpRow) → slice_get (placed_rows t (length below + 1) nodes) j ≡ Some (row, q) → IsPlacedAt t (below ++ x ∷ []) nodes j q) → (j q : ℕ) (row : OpRow)
    → slice_get (cond own ((x.row, length below + 1) ∷ []) [] ++ placed_rows t (length below + 1) nodes) j ≡ Some (row, q) → IsPlacedAt t below (x ∷ nodes) j q
placed_step t below nodes x true g num rest zero q row e =
    let same : length below + 1 ≡ q = ap (λ z. z.1) (same_some (x.row, length below + 1) (row, q) e) in
    record {
      index = 0;
      node = x;
      place = omega (arith, same);
      here = refl;
      number = num ∙ ap (λ (k : ℕ). count_by (is_of_thread k) below + 1) (own_is t x g) ∙ omega arith;
    }
placed_step t below nodes x true g num rest (suc j) q row e =
    later t below nodes x j (suc j) q (omega (arith, count_own t below x (own_is t x g))) (rest j q row e)
placed_step t below nodes x false g num rest j q row e =
    later t below nodes x j j q (omega (arith, count_other t below x (own_not t x g))) (rest j q row e)

pub placed_at : (t : ℕ) (below nodes : List Node) → NumberedAbove below nodes → (j q : ℕ) (row : OpRow) → slice_get (placed_rows t (length below) nodes) j ≡ Some (row, q)
    → IsPlacedAt t below nodes j q
placed_at t below [] num j q row e = absurd (cc e)
placed_at t below (x ∷ nodes) num j q row e =
    let longer : length (below ++ x ∷ []) ≡ length below + 1 = length-append below (x ∷ []) in
    placed_step t below nodes x (is_of_thread t x) refl num.0
    (λ i p r h. placed_at t (below ++ x ∷ []) nodes num.1 i p r (ap (λ (k : ℕ). slice_get (placed_rows t k nodes) i) longer ∙ h)) j q row e
