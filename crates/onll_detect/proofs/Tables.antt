use Rattle.std.proofs.Common.{ℕ, zero, suc, Bool, true, false, List, [], ◌∷◌, ◌++◌, ◌≡◌, ◌≢◌, ◌+◌, ◌-◌, ◌<◌, ◌≤◌, length, map, take, cond, count_by, slice_get, Option, Some, None, refl, ap, sym, ◌∙◌, arith, append_assoc, subst, length-append, inl, inr}
use Rattle.std.specs.declared.vec.Vec.{Vec}
use Rattle.std.proofs.lemmas.List.{map-append}
use Rattle.std.specs.List.{AllByRecursion}
use Rattle.std.specs.Option.{IsSome}
use Rattle.std.proofs.lemmas.Option.{same_Some}
use Rattle.std.proofs.lemmas.Bool.{cases_lt}
use Rattle.std.proofs.lemmas.Bool.Decides.{nat_tests}
use Rattle.onll_model.specs.declared.node.Node.{Node}
use Rattle.onll_model.specs.Object.{Behaviour}
use Rattle.onll_model.specs.Trace.{is_of_thread, node_at, state_after, after_row, IsNumbered, NumberedAbove}
use Rattle.onll_model.specs.Recovered.{operations_front}
use Rattle.onll_model.proofs.Traces.{count_own, count_other}
use Rattle.onll_model.proofs.FoldLegal.{all_operations}
use Rattle.onll_detect.specs.Outcomes.{places_of, all_places, replies_of, reply_to, numbered_in, at_place, at_reply, find_in, table_of, ArePlacesWithin, IsNowhere, IsOutcome, OutcomeLaw}

-- ---- tables
-- one thread more, of those that are left
pub all_more : (t : ℕ) (nodes : List Node) (done : List (List ℕ)) → t < 16
    → done ++ all_places t (16 - t) nodes ≡ (done ++ places_of t 0 nodes ∷ []) ++ all_places (t + 1) (16 - (t + 1)) nodes
all_more t nodes done lt =
    let up : 16 - t ≡ suc (16 - (t + 1)) = omega arith in
    ap (λ (k : ℕ). done ++ all_places t k nodes) up ∙ sym (append_assoc done (places_of t 0 nodes ∷ []) (all_places (t + 1) (16 - (t + 1)) nodes))

pub ruleset all = (all_more)

-- ---- what stands in them
all_at : (t count : ℕ) (nodes : List Node) (i : ℕ) (ps : List ℕ) → slice_get (all_places t count nodes) i ≡ Some ps → ps ≡ places_of (t + i) 0 nodes
all_at t zero nodes i ps e = cc e
all_at t (suc count) nodes zero ps e =
    let none : t + 0 ≡ t = omega arith in
    sym (same_Some (places_of t 0 nodes) ps e) ∙ ap (λ (k : ℕ). places_of k 0 nodes) (sym none)
all_at t (suc count) nodes (suc i) ps e =
    let up : t + 1 + i ≡ t + suc i = omega arith in all_at (t + 1) count nodes i ps e ∙ ap (λ (k : ℕ). places_of k 0 nodes) up

all_within : (t count : ℕ) (nodes : List Node) (i : ℕ) → i < count → slice_get (all_places t count nodes) i ≡ Some (places_of (t + i) 0 nodes)
all_within t zero nodes i lt = absurd (omega arith)
all_within t (suc count) nodes zero lt = let none : t ≡ t + 0 = omega arith in ap (λ (k : ℕ). Some (places_of k 0 nodes)) none
all_within t (suc count) nodes (suc i) lt =
    let up : t + 1 + i ≡ t + suc i = omega arith in all_within (t + 1) count nodes i (omega arith) ∙ ap (λ (k : ℕ). Some (places_of k 0 nodes)) up

own_is : (t : ℕ) (n : Node) → is_of_thread t n ≡ true → n.thread ≡ t
own_is t n e = grind (arith, nat_tests)

own_not : (t : ℕ) (n : Node) → is_of_thread t n ≡ false → n.thread ≢ t
own_not t n e same = grind (arith, nat_tests)

own_test : (t : ℕ) (n : Node) → n.thread ≡ t → is_of_thread t n ≡ true
own_test t n e = grind (arith, nat_tests)

-- the node at one of a thread's places
record IsOwn (t : ℕ) (below nodes : List Node) (j q : ℕ) : Type 0 where
  index : ℕ
  node : Node
  place : q ≡ suc (length below + index)
  here : slice_get nodes index ≡ Some node
  thread : node.thread ≡ t
  number : node.number ≡ suc (count_by (is_of_thread t) below + j)

later : (t : ℕ) (below nodes : List Node) (x : Node) (j k q : ℕ) → count_by (is_of_thread t) (below ++ x ∷ []) + j ≡ count_by (is_of_thread t) below + k
    → IsOwn t (below ++ x ∷ []) nodes j q → IsOwn t below (x ∷ nodes) k q
later t below nodes x j k q e own = record {
  index = suc own.index;
  node = own.node;
  place = omega (arith, own.place, length-append below (x ∷ []));
  here = own.here;
  thread = own.thread;
  number = own.number ∙ ap suc e;
}

own_step : (t : ℕ) (below nodes : List Node) (x : Node) (own : Bool) → is_of_thread t x ≡ own → x.number ≡ count_by (is_of_thread x.thread) below + 1
    → ((j q : ℕ) → slice_get (places_of t (length below + 1) nodes) j ≡ Some q → IsOwn t (below ++ x ∷ []) nodes j q) → (j q : ℕ)
    → slice_get (cond own ((length below + 1) ∷ []) [] ++ places_of t (length below + 1) nodes) j ≡ Some q → IsOwn t below (x ∷ nodes) j q
own_step t below nodes x true g num rest zero q e = record {
  index = 0;
  node = x;
  place = omega (arith, same_Some (length below + 1) q e);
  here = refl;
  thread = own_is t x g;
  number = num ∙ ap (λ (k : ℕ). count_by (is_of_thread k) below + 1) (own_is t x g) ∙ omega arith;
}
own_step t below nodes x true g num rest (suc j) q e =
    later t below nodes x j (suc j) q (omega (arith, count_own t below x (own_is t x g))) (rest j q e)
own_step t below nodes x false g num rest j q e =
    later t below nodes x j j q (omega (arith, count_other t below x (own_not t x g))) (rest j q e)

own_at : (t : ℕ) (below nodes : List Node) → NumberedAbove below nodes → (j q : ℕ) → slice_get (places_of t (length below) nodes) j ≡ Some q → IsOwn t below nodes j q
own_at t below [] num j q e = cc e
own_at t below (x ∷ nodes) num j q e =
    let longer : length (below ++ x ∷ []) ≡ length below + 1 = length-append below (x ∷ []) in
    own_step t below nodes x (is_of_thread t x) refl num.0
    (λ i p h. own_at t (below ++ x ∷ []) nodes num.1 i p (ap (λ (k : ℕ). slice_get (places_of t k nodes) i) longer ∙ h)) j q e

-- a node stands among its thread's places
record IsListed (t : ℕ) (below nodes : List Node) (i : ℕ) (n : Node) : Type 0 where
  at : ℕ
  number : n.number ≡ suc (count_by (is_of_thread t) below + at)
  here : slice_get (places_of t (length below) nodes) at ≡ Some (suc (length below + i))

listed_step : (t : ℕ) (below nodes : List Node) (x : Node) (i : ℕ) (n : Node) (own : Bool) → is_of_thread t x ≡ own → IsListed t (below ++ x ∷ []) nodes i n
    → IsListed t below (x ∷ nodes) (suc i) n
listed_step t below nodes x i n true g l =
    let longer : length (below ++ x ∷ []) ≡ length below + 1 = length-append below (x ∷ []) in
    let place : length (below ++ x ∷ []) + i ≡ length below + suc i = omega arith in
    record {
      at = suc l.at;
      number = omega (arith, l.number, count_own t below x (own_is t x g));
      here = ap (λ (own : Bool). slice_get (cond own ((length below + 1) ∷ []) [] ++ places_of t (length below + 1) nodes) (suc l.at)) g
          ∙ ap (λ (k : ℕ). slice_get (places_of t k nodes) l.at) (sym longer) ∙ l.here ∙ ap (λ (k : ℕ). Some (suc k)) place;
    }
listed_step t below nodes x i n false g l =
    let longer : length (below ++ x ∷ []) ≡ length below + 1 = length-append below (x ∷ []) in
    let place : length (below ++ x ∷ []) + i ≡ length below + suc i = omega arith in
    record {
      at = l.at;
      number = omega (arith, l.number, count_other t below x (own_not t x g));
      here = ap (λ (own : Bool). slice_get (cond own ((length below + 1) ∷ []) [] ++ places_of t (length below + 1) nodes) l.at) g
          ∙ ap (λ (k : ℕ). slice_get (places_of t k nodes) l.at) (sym longer) ∙ l.here ∙ ap (λ (k : ℕ). Some (suc k)) place;
    }

listed : (t : ℕ) (below nodes : List Node) → NumberedAbove below nodes → (i : ℕ) (n : Node) → slice_get nodes i ≡ Some n → n.thread ≡ t → IsListed t below nodes i n
listed t below [] num i n e own = cc e
listed t below (x ∷ nodes) num zero n e own =
    let same : x ≡ n = same_Some x n e in
    let mine : x.thread ≡ t = ap (λ (m : Node). m.thread) same ∙ own in
    let place : length below + 1 ≡ suc (length below + 0) = omega arith in
    record {
      at = 0;
      number = sym (ap (λ (m : Node). m.number) same) ∙ num.0 ∙ ap (λ (k : ℕ). count_by (is_of_thread k) below + 1) mine ∙ omega arith;
      here = ap (λ (o : Bool). slice_get (cond o ((length below + 1) ∷ []) [] ++ places_of t (length below + 1) nodes) 0) (own_test t x mine) ∙ ap Some place;
    }
listed t below (x ∷ nodes) num (suc i) n e own =
    listed_step t below nodes x i n (is_of_thread t x) refl (listed t (below ++ x ∷ []) nodes num.1 i n e own)

-- ---- places are those of nodes
within_step : (own : Bool) (place count : ℕ) (rest : List ℕ) → 1 ≤ place → place ≤ count
    → AllByRecursion (λ (p : ℕ). (1 ≤ p) × (p ≤ count)) rest → AllByRecursion (λ (p : ℕ). (1 ≤ p) × (p ≤ count)) (cond own (place ∷ []) [] ++ rest)
within_step true place count rest low high all = ((low, high), all)
within_step false place count rest low high all = all

own_within : (t below count : ℕ) (nodes : List Node) → below + length nodes ≤ count
    → AllByRecursion (λ (p : ℕ). (1 ≤ p) × (p ≤ count)) (places_of t below nodes)
own_within t below count [] most = tt
own_within t below count (n ∷ nodes) most =
    within_step (is_of_thread t n) (below + 1) count (places_of t (below + 1) nodes) (omega arith) (omega arith) (own_within t (below + 1) count nodes (omega arith))

places_within : (t threads count : ℕ) (nodes : List Node) → length nodes ≤ count → ArePlacesWithin count (all_places t threads nodes)
places_within t zero count nodes most = tt
places_within t (suc threads) count nodes most = (own_within t 0 count nodes (omega arith), places_within (t + 1) threads count nodes most)

module _ {State Op Query Reply : Type 0} (b : Behaviour State Op Query Reply) where
  -- the reply of a node
  record IsReplied (s : State) (nodes : List Node) (i : ℕ) (n : Node) : Type 0 where
    op : Op
    row : b.op_at n.row ≡ Some op
    here : slice_get (replies_of b s nodes) i ≡ Some (b.reply (state_after b s (take i nodes)) op)

  first_reply : (s : State) (o : Option Op) (rest : List Reply) → IsSome o → (op : Op) × (o ≡ Some op)
  first_reply s None rest h = cc h
  first_reply s (Some op) rest h = (op, refl)

  replied : (s : State) (nodes : List Node) → AllByRecursion (λ (n : Node). IsSome (b.op_at n.row)) nodes → (i : ℕ) (n : Node) → slice_get nodes i ≡ Some n
      → IsReplied s nodes i n
  replied s [] all i n e = cc e
  replied s (x ∷ nodes) all zero n e =
      let first = first_reply s (b.op_at x.row) [] all.0 in
      record {
        op = first.0;
        row = ap (λ (m : Node). b.op_at m.row) (sym (same_Some x n e)) ∙ first.1;
        here = ap (λ (o : Option Op). slice_get (reply_to b s o ++ replies_of b (after_row b s (b.op_at x.row)) nodes) 0) first.1;
      }
  replied s (x ∷ nodes) all (suc i) n e =
      let first = first_reply s (b.op_at x.row) [] all.0 in
      let rest = replied (after_row b s (b.op_at x.row)) nodes all.1 i n e in
      record {
        op = rest.op;
        row = rest.row;
        here = ap (λ (o : Option Op). slice_get (reply_to b s o ++ replies_of b (after_row b s (b.op_at x.row)) nodes) (suc i)) first.1 ∙ rest.here;
      }

  thread_of : (count : ℕ) (nodes : List Node) → AllByRecursion (λ (n : Node). n.thread < count) nodes → (i : ℕ) (n : Node) → slice_get nodes i ≡ Some n → n.thread < count
  thread_of count [] all i n e = cc e
  thread_of count (x ∷ nodes) all zero n e = let same : x ≡ n = same_Some x n e in subst (λ (m : Node). m.thread < count) same all.0
  thread_of count (x ∷ nodes) all (suc i) n e = thread_of count nodes all.1 i n e

  module _ (s : State) (nodes : List Node) (num : IsNumbered nodes) (low : AllByRecursion (λ (n : Node). n.thread < 16) nodes)
      (ops : AllByRecursion (λ (n : Node). IsSome (b.op_at n.row)) nodes) where
    by_reply : (t number q : ℕ) (own : IsOwn t [] nodes (number - 1) q) → 0 < number
        → IsOutcome b s nodes t number (at_reply q (slice_get (replies_of b s nodes) (q - 1)))
    by_reply t number q own some =
        let r = replied s nodes ops own.index own.node own.here in
        let place : q ≡ suc own.index = omega (arith, own.place) in
        let index : q - 1 ≡ own.index = omega arith in
        let P : _ = λ (o : Option Reply). IsOutcome b s nodes t number (at_reply q o) in
        subst P (sym (ap (slice_get (replies_of b s nodes)) index ∙ r.here)) (record {
          node = own.node;
          here = ap (node_at nodes) place ∙ own.here;
          thread = own.thread;
          number_is = omega (arith, own.number);
          op = r.op;
          row = r.row;
          reply_is = ap (λ (k : ℕ). b.reply (state_after b s (take k nodes)) r.op) (sym index);
        })

    not_there : (t number : ℕ) → slice_get (places_of t 0 nodes) number ≡ None → IsNowhere nodes t (suc number)
    not_there t number e zero n h mine is = cc h
    not_there t number e (suc i) n h mine is =
        let l = listed t [] nodes num i n h mine in
        let at : l.at ≡ number = omega (arith, l.number, is) in
        cc (ap (slice_get (places_of t 0 nodes)) (sym at), l.here, e)

    never_zero : (t : ℕ) → IsNowhere nodes t 0
    never_zero t zero n h mine is = cc h
    never_zero t (suc i) n h mine is = absurd (omega (arith, (listed t [] nodes num i n h mine).number, is))

    by_place : (t number : ℕ) (o : Option ℕ) → slice_get (places_of t 0 nodes) number ≡ o
        → IsOutcome b s nodes t (suc number) (at_place (replies_of b s nodes) o)
    by_place t number None e = not_there t number e
    by_place t number (Some q) e =
        let index : number ≡ suc number - 1 = omega arith in
        let own = own_at t [] nodes num number q e in
        by_reply t (suc number) q (subst (λ (k : ℕ). IsOwn t [] nodes k q) index own) (omega arith)

    by_number : (t number : ℕ) (ps : List ℕ) → ps ≡ places_of t 0 nodes → IsOutcome b s nodes t number (at_place (replies_of b s nodes) (numbered_in (Some ps) number))
    by_number t zero ps e = never_zero t
    by_number t (suc k) ps e = by_place' (slice_get ps k) (ap (λ (p : List ℕ). slice_get p k) (sym e))
      where
        by_place' : (o : Option ℕ) → slice_get (places_of t 0 nodes) k ≡ o → IsOutcome b s nodes t (suc k) (at_place (replies_of b s nodes) o)
        by_place' o h = by_place t k o h

    by_thread : (t number : ℕ) → IsOutcome b s nodes t number (find_in (table_of b s nodes) t number)
    by_thread t number = elim (cases_lt t 16) [
      | inl less ↦
          let P : _ = λ (o : Option (List ℕ)). IsOutcome b s nodes t number (at_place (replies_of b s nodes) (numbered_in o number)) in
          let own : 0 + t ≡ t = omega arith in
          subst P (sym (all_within 0 16 nodes t less)) (by_number t number (places_of (0 + t) 0 nodes) (ap (λ (k : ℕ). places_of k 0 nodes) own))
      | inr more ↦
          let P : _ = λ (o : Option (List ℕ)). IsOutcome b s nodes t number (at_place (replies_of b s nodes) (numbered_in o number)) in
          subst P (sym (beyond 0 16 nodes t more)) (nowhere more)
    ]
      where
        beyond : (t count : ℕ) (nodes : List Node) (i : ℕ) → count ≤ i → slice_get (all_places t count nodes) i ≡ None
        beyond t zero nodes i le = refl
        beyond t (suc count) nodes zero le = absurd (omega arith)
        beyond t (suc count) nodes (suc i) le = beyond (t + 1) count nodes i (omega arith)

        nowhere : 16 ≤ t → (place : ℕ) (n : Node) → node_at nodes place ≡ Some n → n.thread ≡ t → n.number ≡ number → ⊥
        nowhere le zero n h mine is = cc h
        nowhere le (suc i) n h mine is = absurd (omega (arith, thread_of 16 nodes low i n h))

  pub found : OutcomeLaw b
  found s nodes is t number = by_thread s nodes is.numbered is.threads (all_operations b nodes is.operations) t number

pub ruleset outcomes = (found)

-- the table of a trace has no other places than its nodes'
module _ {State Op Query Reply : Type 0} (b : Behaviour State Op Query Reply) where
  reply_one : (s : State) (o : Option Op) (rest : List Reply) → IsSome o → length (reply_to b s o ++ rest) ≡ suc (length rest)
  reply_one s None rest h = cc h
  reply_one s (Some op) rest h = refl

  replies_many : (s : State) (nodes : List Node) → AllByRecursion (λ (n : Node). IsSome (b.op_at n.row)) nodes → length (replies_of b s nodes) ≡ length nodes
  replies_many s [] all = refl
  replies_many s (n ∷ nodes) all =
      reply_one s (b.op_at n.row) (replies_of b (after_row b s (b.op_at n.row)) nodes) all.0 ∙ ap suc (replies_many (after_row b s (b.op_at n.row)) nodes all.1)

  pub table_within : (s : State) (nodes : List Node) (replies : List Reply) (places : List (List ℕ)) → operations_front b nodes ≡ nodes
      → replies ≡ replies_of b s nodes → places ≡ all_places 0 16 nodes → ArePlacesWithin (length replies) places
  table_within s nodes replies places ops r p =
      let many = replies_many s nodes (all_operations b nodes ops) in
      subst (ArePlacesWithin (length replies)) (sym p) (places_within 0 16 (length replies) nodes (omega (arith, ap length r, many)))

-- the places of one thread more
pub places_pushed : {A B : Type 0} (old new : Vec (Vec ℕ A) B) (one : Vec ℕ A) (places : List ℕ) → new.items ≡ old.items ++ one ∷ [] → one.items ≡ places
    → map (λ (p : Vec ℕ A). p.items) new.items ≡ map (λ (p : Vec ℕ A). p.items) old.items ++ places ∷ []
places_pushed {A} old new one places e h =
    let f = λ (p : Vec ℕ A). p.items in
    ap (map f) e ∙ map-append f old.items (one ∷ []) ∙ ap (λ (ps : List ℕ). map f old.items ++ ps ∷ []) h
