-- How many lines a report of the form has, and for how many threads.
use Rattle.std.proofs.Common.{ℕ, zero, suc, Bool, true, false, List, [], ◌∷◌, ◌≡◌, ◌+◌, ◌≤◌, length, cond, Option, Some, None, Result, Ok, Err, refl, ap, sym, ◌∙◌, arith}
use Rattle.onll_model.specs.declared.node.Node.{Node}
use Rattle.onll_model.specs.Object.{Behaviour}
use Rattle.onll_text.specs.Refusal.{◌>>=◌}
use Rattle.onll_text.specs.Wording.{Wording}
use Rattle.onll_audit.specs.Fields.{◌>?◌, some_if}
use Rattle.onll_audit.specs.Form.{LinesLeft, ReportForm, wanted, next_part, one_line, line_that, lines_while, before_lines, is_call_line, call_groups, trace_said, node_said, node_run, is_log_line, log_run, is_recovered_line, fault_said, after_fault, fault_run, is_state_line, all_lines, rest_of, report_form}
use Rattle.onll_audit.specs.Verdict.{total_lines}

-- what was read where more was read after it
pub accepted : {A B E : Type 0} (v : Result A E) (f : A → Result B E) (y : B) → (v >>= f) ≡ Ok y → (x : A) × (v ≡ Ok x) × (f x ≡ Ok y)
accepted (Ok x) f y e = (x, refl, e)
accepted (Err z) f y e = cc e

abbrev or_this : {A E : Type 0} → A → Result A E → A
or_this d (Ok x) = x
or_this d (Err z) = d

pub same_ok : {A E : Type 0} (x y : A) (r : Result A E) → r ≡ Ok x → r ≡ Ok y → x ≡ y
same_ok x y r e g = sym (ap (or_this x) e) ∙ ap (or_this x) g

-- ---- one line
one_number : {A : Type 0} (read : List ℕ → Option A) (left : LinesLeft) (x : A) (after : LinesLeft) → one_line read left ≡ Ok (x, after)
    → after.number ≡ left.number + 1
one_number {A} read left x after e = by_parts left.number left.parts e
  where
    by_read : (n : ℕ) (parts : List (List ℕ)) (o : Option A) → wanted {A = A × LinesLeft} n (o >? λ (v : A). Some (v, record { number = n + 1; parts = parts })) ≡ Ok (x, after)
        → after.number ≡ n + 1
    by_read n parts None g = cc g
    by_read n parts (Some v) g = sym (ap (λ (r : A × LinesLeft). r.1.number) (same_ok (v, record { number = n + 1; parts = parts }) (x, after) _ refl g))

    by_parts : (n : ℕ) (parts : List (List ℕ)) → wanted {A = A × LinesLeft} n (next_part n parts >? λ l. read l.0 >? λ (v : A). Some (v, l.1)) ≡ Ok (x, after) → after.number ≡ n + 1
    by_parts n [] g = cc g
    by_parts n (y ∷ []) g = cc g
    by_parts n (y ∷ z ∷ more) g = by_read n (z ∷ more) (read y) g

that_number : (p : List ℕ → Bool) (left after : LinesLeft) → line_that p left ≡ Ok after → after.number ≡ left.number + 1
that_number p left after e = by_parts left.number left.parts e
  where
    by_test : (n : ℕ) (parts : List (List ℕ)) (test : Bool) → wanted {A = LinesLeft} n (some_if test (record { number = n + 1; parts = parts })) ≡ Ok after → after.number ≡ n + 1
    by_test n parts true g = sym (ap (λ (r : LinesLeft). r.number) (same_ok (record { number = n + 1; parts = parts }) after _ refl g))
    by_test n parts false g = cc g

    by_parts : (n : ℕ) (parts : List (List ℕ)) → wanted {A = LinesLeft} n (next_part n parts >? λ l. some_if (p l.0) l.1) ≡ Ok after → after.number ≡ n + 1
    by_parts n [] g = cc g
    by_parts n (y ∷ []) g = cc g
    by_parts n (y ∷ z ∷ more) g = by_test n (z ∷ more) (p y) g

-- ---- lines of calls
while_number : (p : List ℕ → Bool) (n : ℕ) (parts : List (List ℕ)) → (lines_while p n parts).1.number ≡ n + length (lines_while p n parts).0
while_number p n [] = omega arith
while_number p n (x ∷ []) = omega arith
while_number p n (x ∷ y ∷ more) = by_test (p x) (lines_while p (n + 1) (y ∷ more)) (record { number = n; parts = x ∷ y ∷ more }) refl (while_number p (n + 1) (y ∷ more))
  where
    by_test : (yes : Bool) (rest : List (List ℕ) × LinesLeft) (stop : LinesLeft) → stop.number ≡ n → rest.1.number ≡ n + 1 + length rest.0
        → (cond {A = List (List ℕ) × LinesLeft} yes (before_lines x rest) ([], stop)).1.number
        ≡ n + length (cond {A = List (List ℕ) × LinesLeft} yes (before_lines x rest) ([], stop)).0
    by_test true rest stop g h = omega (arith, h)
    by_test false rest stop g h = omega (arith, g)

module _ {State Op Query Reply : Type 0} (w : Wording State Op Query Reply) where
  groups_number : (t count : ℕ) (left : LinesLeft) → (call_groups w t count left).1.number ≡ left.number + total_lines (call_groups w t count left).0
  groups_number t zero left = omega arith
  groups_number t (suc count) left =
      let group = lines_while (is_call_line w t) left.number left.parts in
      omega (arith, while_number (is_call_line w t) left.number left.parts, groups_number (t + 1) count group.1)

  groups_many : (t count : ℕ) (left : LinesLeft) → length (call_groups w t count left).0 ≡ count
  groups_many t zero left = refl
  groups_many t (suc count) left =
      let group = lines_while (is_call_line w t) left.number left.parts in
      omega (arith, groups_many (t + 1) count group.1)

-- ---- the lines after them
module _ {State Op Query Reply : Type 0} (b : Behaviour State Op Query Reply) (w : Wording State Op Query Reply) where
  nodes_number : (p count : ℕ) (left : LinesLeft) (nodes : List Node) (after : LinesLeft) → node_run b w p count left ≡ Ok (nodes, after)
      → after.number ≡ left.number + length nodes
  nodes_number p zero left nodes after e =
      let same = same_ok ([], left) (nodes, after) _ refl e in
      let many : 0 ≡ length nodes = ap (λ (r : List Node × LinesLeft). length r.0) same in
      let line : left.number ≡ after.number = ap (λ (r : List Node × LinesLeft). r.1.number) same in
      omega (arith, many, line)
  nodes_number p (suc count) left nodes after e =
      let one = accepted (one_line (node_said b w (p + 1)) left) (λ n. node_run b w (p + 1) count n.1 >>= λ rest. Ok (n.0 ∷ rest.0, rest.1)) (nodes, after) e in
      let more = accepted (node_run b w (p + 1) count one.0.1) (λ rest. Ok (one.0.0 ∷ rest.0, rest.1)) (nodes, after) one.2 in
      let same = same_ok (one.0.0 ∷ more.0.0, more.0.1) (nodes, after) _ refl more.2 in
      let many : suc (length more.0.0) ≡ length nodes = ap (λ (r : List Node × LinesLeft). length r.0) same in
      let line : more.0.1.number ≡ after.number = ap (λ (r : List Node × LinesLeft). r.1.number) same in
      let first = one_number (node_said b w (p + 1)) left one.0.0 one.0.1 one.1 in
      let rest = nodes_number (p + 1) count one.0.1 more.0.0 more.0.1 more.1 in
      omega (arith, many, line, first, rest)

logs_number : (t count : ℕ) (left after : LinesLeft) → log_run t count left ≡ Ok after → left.number ≤ after.number
logs_number t zero left after e =
    let line : left.number ≡ after.number = ap (λ (r : LinesLeft). r.number) (same_ok left after _ refl e) in
    omega (arith, line)
logs_number t (suc count) left after e =
    let one = accepted (line_that (is_log_line t) left) (λ l. log_run (t + 1) count l) after e in
    let first = that_number (is_log_line t) left one.0 one.1 in
    let rest = logs_number (t + 1) count one.0 after one.2 in
    omega (arith, first, rest)

faults_number : (threads least n : ℕ) (parts : List (List ℕ)) → n ≤ (fault_run threads least n parts).number
faults_number threads least n [] = omega arith
faults_number threads least n (x ∷ []) = omega arith
faults_number threads least n (x ∷ y ∷ more) = by_fault (fault_said least threads x) (λ t. faults_number threads (t + 1) (n + 1) (y ∷ more))
  where
    by_fault : (o : Option ℕ) → ((t : ℕ) → n + 1 ≤ (fault_run threads (t + 1) (n + 1) (y ∷ more)).number)
        → n ≤ (after_fault (record { number = n; parts = x ∷ y ∷ more }) (λ t. fault_run threads (t + 1) (n + 1) (y ∷ more)) o).number
    by_fault None h = omega arith
    by_fault (Some t) h = omega (arith, h t)

-- ---- the whole form
-- the lines of calls, that of the number of nodes, and those of nodes stand before the line `state`
abbrev Within : List (List (List ℕ)) → ℕ → ReportForm → Type 0
Within calls n f = (f.calls ≡ calls) × (n + length f.nodes + 2 ≤ f.state_line)

module _ {State Op Query Reply : Type 0} (b : Behaviour State Op Query Reply) (w : Wording State Op Query Reply) where
  rest_within : (threads : ℕ) (calls : List (List (List ℕ))) (left : LinesLeft) (f : ReportForm) → rest_of b w threads calls left ≡ Ok f → Within calls left.number f
  rest_within threads calls left f e =
      let count = accepted (one_line trace_said left) _ f e in
      let nodes = accepted (node_run b w 0 count.0.0 count.0.1) _ f count.2 in
      let logs = accepted (log_run 0 threads nodes.0.1) _ f nodes.2 in
      let recovered = accepted (line_that is_recovered_line logs.0) _ f logs.2 in
      let faults = fault_run threads 0 recovered.0.number recovered.0.parts in
      let after = accepted (line_that is_state_line faults) _ f recovered.2 in
      let same = same_ok _ f _ refl after.2 in
      let many : length nodes.0.0 ≡ length f.nodes = ap (λ (g : ReportForm). length g.nodes) same in
      let line : faults.number ≡ f.state_line = ap (λ (g : ReportForm). g.state_line) same in
      let one = one_number trace_said left count.0.0 count.0.1 count.1 in
      let two = nodes_number b w 0 count.0.0 count.0.1 nodes.0.0 nodes.0.1 nodes.1 in
      let three = logs_number 0 threads nodes.0.1 logs.0 logs.1 in
      let four = that_number is_recovered_line logs.0 recovered.0 recovered.1 in
      let five = faults_number threads 0 recovered.0.number recovered.0.parts in
      (sym (ap (λ (g : ReportForm). g.calls) same), omega (arith, many, line, one, two, three, four, five))

  -- a report of the form has lines of calls for so many threads
  pub form_many : (threads : ℕ) (text : List ℕ) (f : ReportForm) → report_form b w threads text ≡ Ok f → length f.calls ≡ threads
  form_many threads text f e =
      let groups = call_groups w 0 threads (all_lines text) in
      ap length (rest_within threads groups.0 groups.1 f e).0 ∙ groups_many w 0 threads (all_lines text)

  pub form_lines : (threads : ℕ) (text : List ℕ) (f : ReportForm) → report_form b w threads text ≡ Ok f
      → total_lines f.calls + length f.nodes + 2 ≤ f.state_line
  form_lines threads text f e =
      let groups = call_groups w 0 threads (all_lines text) in
      let rest = rest_within threads groups.0 groups.1 f e in
      let calls : total_lines f.calls ≡ total_lines groups.0 = ap total_lines rest.0 in
      let at = groups_number w 0 threads (all_lines text) in
      omega (arith, rest.1, calls, at)
