-- A legal history's nodes are the updates of its scripts, and what is printed of each that returned.

use Rattle.std.proofs.Common.{ℕ, zero, suc, Bool, true, List, [], ◌∷◌, ◌++◌, ◌≡◌, ◌+◌, ◌<◌, length, map, take, cond, slice_get, Option, Some, None, IsSome, refl, sym, ap, ◌∙◌, subst, arith}
use Rattle.std.proofs.lemmas.List.Elements.{Contains-append_left, Contains-append_right}
use Rattle.std.specs.List.{AllByRecursion, Contains}
use Rattle.onll_words.specs.declared.line.OpRow.{OpRow}
use Rattle.onll_model.specs.declared.node.Node.{Node}
use Rattle.onll_model.specs.declared.call.Call.{Call}
use Rattle.onll_model.specs.declared.call.Call.TheVariants.{Update, Ask}
use Rattle.onll_model.specs.declared.call.CallEnd.{CallEnd}
use Rattle.onll_model.specs.declared.call.CallEnd.TheVariants.{Answered}
use Rattle.onll_model.specs.Calls.{updates_in}
use Rattle.onll_model.specs.Legal.{placed_updates, IsLegalThread, AreLegalThreads}
use Rattle.onll_model.specs.Object.{Behaviour}
use Rattle.onll_model.specs.Recovered.{operations_front, where_some}
use Rattle.onll_model.proofs.Lists.{same_some, some_not_none}
use Rattle.onll_merge.proofs.Asked.{same_words-self}
use Rattle.onll_core.specs.declared.returned.Returned.{Returned}
use Rattle.onll_core.specs.declared.returned.Current.{Current}
use Rattle.onll_core.specs.declared.returned.Current.TheVariants as currents
use Rattle.onll_core.specs.Outcomes.{returned_end, current_ends}
use Rattle.onll_detect.specs.declared.outcome.Outcome.{Outcome}
use Rattle.onll_detect.specs.declared.outcome.Outcome.TheVariants.{Took}
use Rattle.onll_detect.specs.Outcomes.{Table, find_in, numbered_in}
use Rattle.onll_text.specs.Lines.{call_line}
use Rattle.onll_text.specs.Wording.{Wording}
use Rattle.onll_recovery.specs.DetectJob.{outcome_line, update_lines, scripts_lines, update_rows, is_row, is_in_script, stranger}

-- ---- lists
pub get_map : {A B : Type 0} (f : A → B) (xs : List A) (i : ℕ) (x : A) → slice_get xs i ≡ Some x → slice_get (map f xs) i ≡ Some (f x)
get_map f [] i x e = some_not_none x (sym e)
get_map f (y ∷ xs) zero x e = ap (λ z. Some (f z)) (same_some y x e)
get_map f (y ∷ xs) (suc i) x e = get_map f xs i x e

pub get_there : {A : Type 0} (xs : List A) (i : ℕ) → i < length xs → (x : A) × (slice_get xs i ≡ Some x)
get_there [] i less = absurd (omega arith)
get_there (x ∷ xs) zero less = (x, refl)
get_there (x ∷ xs) (suc i) less = get_there xs i (omega arith)

pub get_taken : {A : Type 0} (m : ℕ) (xs : List A) (i : ℕ) (x : A) → slice_get (take m xs) i ≡ Some x → slice_get xs i ≡ Some x
get_taken zero xs i x e = some_not_none x (sym e)
get_taken (suc m) [] i x e = some_not_none x (sym e)
get_taken (suc m) (y ∷ xs) zero x e = e
get_taken (suc m) (y ∷ xs) (suc i) x e = get_taken m xs i x e

pub all_at : {A : Type 0} (P : A → Type 0) (xs : List A) → ((i : ℕ) (x : A) → slice_get xs i ≡ Some x → P x) → AllByRecursion P xs
all_at P [] f = tt
all_at P (x ∷ xs) f = (f 0 x refl, all_at P xs (λ i y e. f (suc i) y e))

pub one_of : {A : Type 0} (P : A → Type 0) (xs : List A) (i : ℕ) (x : A) → AllByRecursion P xs → slice_get xs i ≡ Some x → P x
one_of P [] i x all e = some_not_none x (sym e)
one_of P (y ∷ xs) zero x all e = subst P (same_some y x e) all.0
one_of P (y ∷ xs) (suc i) x all e = one_of P xs i x all.1 e

contains_head : {A : Type 0} (x y : A) (xs : List A) → x ≡ y → Contains (x ∷ xs) y
contains_head x y xs e = (0, omega arith, e)

module _ {State Op Query Reply : Type 0} where
  -- ---- one thread of a legal history
  pub thread_at : (b : Behaviour State Op Query Reply) (s : State) (base : ℕ) (trace : List Node) (t : ℕ) (scripts : List (List (Call State Op Query Reply)))
      (ends : List (List (CallEnd State Op Query Reply))) (i : ℕ) (script : List (Call State Op Query Reply)) (own : List (CallEnd State Op Query Reply))
      → AreLegalThreads b s base trace t scripts ends → slice_get scripts i ≡ Some script → slice_get ends i ≡ Some own
      → IsLegalThread b s base trace (t + i) script own
  thread_at b s base trace t [] ends i script own legal at is = some_not_none script (sym at)
  thread_at b s base trace t (calls ∷ scripts) [] i script own legal at is = some_not_none own (sym is)
  thread_at b s base trace t (calls ∷ scripts) (e ∷ ends) zero script own legal at is =
      let none : t ≡ t + 0 = omega arith in
      subst (λ k. IsLegalThread b s base trace k script own) none
      (subst (λ c. IsLegalThread b s base trace t c own) (same_some calls script at)
      (subst (λ f. IsLegalThread b s base trace t calls f) (same_some e own is) legal.0))
  thread_at b s base trace t (calls ∷ scripts) (e ∷ ends) (suc i) script own legal at is =
      let up : t + 1 + i ≡ t + suc i = omega arith in
      subst (λ k. IsLegalThread b s base trace k script own) up (thread_at b s base trace (t + 1) scripts ends i script own legal.1 at is)

  module _ (b : Behaviour State Op Query Reply) where
    -- ---- a returned update among those that have a place
    pub placed_nth : (script : List (Call State Op Query Reply)) (returned : List (Returned State Op Query Reply)) (rest : List (CallEnd State Op Query Reply)) (i : ℕ) (op : Op) (r : Returned State Op Query Reply)
        → slice_get script i ≡ Some (Update op) → slice_get returned i ≡ Some r
        → slice_get (placed_updates b script (map returned_end returned ++ rest)) (updates_in (take i script)) ≡ Some (b.row_of op, r.place)
    placed_nth [] returned rest i op r at is = some_not_none (let c : Call State Op Query Reply = Update op in c) (sym at)
    placed_nth (c ∷ script) [] rest i op r at is = some_not_none r (sym is)
    placed_nth (Update o ∷ script) (q ∷ returned) rest zero op r at is =
        let same : Update o ≡ Update op = same_some (Update o) (Update op) at in
        let o_is : o ≡ op = (cc) in
        ap (λ (x : Op). Some (b.row_of x, q.place)) o_is ∙ ap (λ (x : Returned State Op Query Reply). Some (b.row_of op, x.place)) (same_some q r is)
    placed_nth (Ask query ∷ script) (q ∷ returned) rest zero op r at is =
        let same : Ask query ≡ Update op = same_some (Ask query) (Update op) at in absurd (cc)
    placed_nth (Update o ∷ script) (q ∷ returned) rest (suc i) op r at is = placed_nth script returned rest i op r at is
    placed_nth (Ask query ∷ script) (q ∷ returned) rest (suc i) op r at is = placed_nth script returned rest i op r at is

    -- ---- the updates that have a place are the first
    placed_none : (script : List (Call State Op Query Reply)) → placed_updates b script [] ≡ []
    placed_none [] = refl
    placed_none (c ∷ script) = refl

    none_placed : {A : Type 0} (script : List (Call State Op Query Reply)) (j : ℕ) (x : OpRow × ℕ) → slice_get (placed_updates b script []) j ≡ Some x → A
    none_placed script j x e = some_not_none x (sym (sym (ap (λ xs. slice_get xs j) (placed_none script)) ∙ e))

    first_row : (own row : OpRow) (q p : ℕ) → ◌≡◌ {A = Option (OpRow × ℕ)} (Some (own, q)) (Some (row, p)) → Some own ≡ Some row
    first_row own row q p e = ap (λ (z : OpRow × ℕ). Some z.0) (same_some (own, q) (row, p) e)

    pub placed_row : (script : List (Call State Op Query Reply)) (returned : List (Returned State Op Query Reply)) (current : Current) (j : ℕ) (row : OpRow) (p : ℕ)
        → slice_get (placed_updates b script (map returned_end returned ++ current_ends current)) j ≡ Some (row, p) → slice_get (update_rows b script) j ≡ Some row
    placed_row [] returned current j row p e = some_not_none (row, p) (sym e)
    placed_row (c ∷ script) [] currents.Idle j row p e = some_not_none (row, p) (sym e)
    placed_row (Update o ∷ script) [] currents.Running j row p e = none_placed script j (row, p) e
    placed_row (Ask query ∷ script) [] currents.Running j row p e = none_placed script j (row, p) e
    placed_row (Update o ∷ script) [] (currents.Ordered q) zero row p e = first_row (b.row_of o) row q p e
    placed_row (Update o ∷ script) [] (currents.Ordered q) (suc j) row p e = none_placed script j (row, p) e
    placed_row (Ask query ∷ script) [] (currents.Ordered q) j row p e = none_placed script j (row, p) e
    placed_row (Update o ∷ script) (r ∷ returned) current zero row p e = first_row (b.row_of o) row r.place p e
    placed_row (Update o ∷ script) (r ∷ returned) current (suc j) row p e = placed_row script returned current j row p e
    placed_row (Ask query ∷ script) (r ∷ returned) current j row p e = placed_row script returned current j row p e

    -- ---- rows
    front_one : (o : Option Op) (n : Node) (front nodes : List Node) → IsSome o → front ≡ nodes → where_some o (n ∷ front) ≡ n ∷ nodes
    front_one None n front nodes h e = absurd (cc h)
    front_one (Some op) n front nodes h e = ap (λ ns. n ∷ ns) e

    pub front_all : (nodes : List Node) → AllByRecursion (λ (n : Node). IsSome (b.op_at n.row)) nodes → operations_front b nodes ≡ nodes
    front_all [] all = refl
    front_all (n ∷ nodes) all = front_one (b.op_at n.row) n (operations_front b nodes) nodes all.0 (front_all nodes all.1)

  -- ---- the lines
  module _ (w : Wording State Op Query Reply) (table : Table Reply) where
    pub update_line_at : (t k u : ℕ) (script : List (Call State Op Query Reply)) (i : ℕ) (op : Op) (place : ℕ) (reply : Reply) → slice_get script i ≡ Some (Update op)
        → find_in table t (suc (u + updates_in (take i script))) ≡ Took place reply
        → Contains (update_lines w table t k u script) (call_line w t (k + i + 1) (Update op) (Answered reply place))
    update_line_at t k u [] i op place reply at e = some_not_none (let c : Call State Op Query Reply = Update op in c) (sym at)
    update_line_at t k u (Update o ∷ script) zero op place reply at e =
        let same : Update o ≡ Update op = same_some (Update o) (Update op) at in
        let o_is : o ≡ op = (cc) in
        let n : u + 1 ≡ suc (u + 0) = omega arith in
        let k_is : k + 1 ≡ k + 0 + 1 = omega arith in
        contains_head _ _ (update_lines w table t (k + 1) (u + 1) script)
        (ap (λ (x : Op). outcome_line w t (k + 1) x (find_in table t (u + 1))) o_is
        ∙ ap (λ (x : Outcome Reply). outcome_line w t (k + 1) op x) (ap (find_in table t) n ∙ e)
        ∙ ap (λ (x : ℕ). call_line w t x (let c : Call State Op Query Reply = Update op in c) (Answered reply place)) k_is)
    update_line_at t k u (Ask query ∷ script) zero op place reply at e =
        let same : Ask query ≡ Update op = same_some (Ask query) (Update op) at in absurd (cc)
    update_line_at t k u (Update o ∷ script) (suc i) op place reply at e =
        let n : suc (u + 1 + updates_in (take i script)) ≡ suc (u + suc (updates_in (take i script))) = omega arith in
        let k_is : k + 1 + i + 1 ≡ k + suc i + 1 = omega arith in
        Contains-append_right (outcome_line w t (k + 1) o (find_in table t (u + 1)) ∷ []) (update_lines w table t (k + 1) (u + 1) script) _
        (subst (λ (x : ℕ). Contains (update_lines w table t (k + 1) (u + 1) script) (call_line w t x (let c : Call State Op Query Reply = Update op in c) (Answered reply place))) k_is
        (update_line_at t (k + 1) (u + 1) script i op place reply at (ap (find_in table t) n ∙ e)))
    update_line_at t k u (Ask query ∷ script) (suc i) op place reply at e =
        let k_is : k + 1 + i + 1 ≡ k + suc i + 1 = omega arith in
        subst (λ (x : ℕ). Contains (update_lines w table t (k + 1) u script) (call_line w t x (let c : Call State Op Query Reply = Update op in c) (Answered reply place))) k_is
        (update_line_at t (k + 1) u script i op place reply at e)

    pub script_line_at : (t : ℕ) (scripts : List (List (Call State Op Query Reply))) (i : ℕ) (script : List (Call State Op Query Reply)) (line : List (List ℕ))
        → slice_get scripts i ≡ Some script → Contains (update_lines w table (t + i) 0 0 script) line → Contains (scripts_lines w table t scripts) line
    script_line_at t [] i script line at h = some_not_none script (sym at)
    script_line_at t (own ∷ scripts) zero script line at h =
        let none : t + 0 ≡ t = omega arith in
        Contains-append_left (update_lines w table t 0 0 own) (scripts_lines w table (t + 1) scripts) line
        (subst (λ (calls : List (Call State Op Query Reply)). Contains (update_lines w table t 0 0 calls) line) (sym (same_some own script at))
        (subst (λ (k : ℕ). Contains (update_lines w table k 0 0 script) line) none h))
    script_line_at t (own ∷ scripts) (suc i) script line at h =
        let up : t + suc i ≡ t + 1 + i = omega arith in
        Contains-append_right (update_lines w table t 0 0 own) (scripts_lines w table (t + 1) scripts) line
        (script_line_at (t + 1) scripts i script line at (subst (λ (k : ℕ). Contains (update_lines w table k 0 0 script) line) up h))

-- ---- no stranger
pub no_stranger : (rows : List (List OpRow)) (p : ℕ) (nodes : List Node) → AllByRecursion (λ (n : Node). is_in_script rows n ≡ true) nodes → stranger rows p nodes ≡ None
no_stranger rows p [] all = refl
no_stranger rows p (n ∷ nodes) all =
    ap (λ (test : Bool). cond {A = Option ℕ} test (stranger rows (p + 1) nodes) (Some (p + 1))) all.0 ∙ no_stranger rows (p + 1) nodes all.1

pub in_script : (rows : List (List OpRow)) (n : Node) (own : List OpRow) (at : ℕ) → slice_get rows n.thread ≡ Some own → n.number ≡ suc at
    → slice_get own at ≡ Some n.row → is_in_script rows n ≡ true
in_script rows n own at there number row =
    ap (λ (o : Option (List OpRow)). is_row n.row (numbered_in o n.number)) there
    ∙ ap (λ (k : ℕ). is_row n.row (numbered_in (let o : Option (List OpRow) = Some own in o) k)) number
    ∙ ap (is_row n.row) row ∙ same_words-self n.row.w
