use Rattle.std.proofs.Common.{ℕ, ◌≤◌, zero, suc, Bool, true, false, List, [], ◌∷◌, ◌++◌, ◌≡◌, ◌+◌, ◌-◌, ◌<◌, Option, Some, None, Result, Ok, Err, cond, map, length, slice_get, IfSome, ◌⊎◌, inl, inr, subst, refl, ap, sym, ◌∙◌, arith, append_assoc, length-append}
use Rattle.std.proofs.lemmas.Option.{same_Some}
use Rattle.std.proofs.lemmas.List.{append-nil, map-append, length-map}
use Rattle.onll_model.specs.declared.node.Node.{Node}
use Rattle.onll_model.specs.Object.{Behaviour}
use Rattle.onll_text.specs.Refusal.{◌>>=◌}
use Rattle.onll_text.specs.Wording.{Wording}
use Rattle.onll_audit.specs.Fields.{◌>?◌, some_if}
use Rattle.onll_audit.specs.Form.{LinesLeft, wanted, next_part, next_line, lines_while, before_lines, node_said, node_run, one_line, line_that, is_log_line, log_run, fault_said, fault_run, after_fault, is_call_line, call_groups, before_groups}
use Rattle.onll_audit.specs.Values.{as_lines, as_groups, as_end, AreReadWith, EachReadWith, IsFault}
use Rattle.std.specs.declared.vec.Vec.{Vec}
use Rattle.onll_model.specs.declared.call.Call.{Call}
use Rattle.onll_audit.specs.declared.groups.CallLine.{CallLine}
use Rattle.onll_audit.specs.Verdict.{end_of_call}
use Rattle.onll_audit.specs.declared.verdict.AuditFault.{AuditFault}
use Rattle.onll_audit.specs.declared.verdict.AuditFault.TheVariants.{Refused, NoMemory}

-- ---- what was read already
-- lines before those that are read
abbrev pub onto_lines : List (List ℕ) → List (List ℕ) × LinesLeft → List (List ℕ) × LinesLeft
onto_lines lines rest = (lines ++ rest.0, rest.1)

-- nodes before those that are read
abbrev pub onto_nodes : List Node → Result (List Node × LinesLeft) ℕ → Result (List Node × LinesLeft) ℕ
onto_nodes nodes (Ok rest) = Ok (nodes ++ rest.0, rest.1)
onto_nodes nodes (Err n) = Err n

-- groups before those that are read
abbrev pub onto_groups : List (List (List ℕ)) → List (List (List ℕ)) × LinesLeft → List (List (List ℕ)) × LinesLeft
onto_groups groups rest = (groups ++ rest.0, rest.1)

-- ---- lines that pass a test
while_none : (p : List ℕ → Bool) (n : ℕ) (parts : List (List ℕ)) → next_part n parts ≡ None → lines_while p n parts ≡ ([], record { number = n; parts = parts })
while_none p n [] e = refl
while_none p n (x ∷ []) e = refl
while_none p n (x ∷ y ∷ more) e = cc

pub while_yes : (p : List ℕ → Bool) (n : ℕ) (parts : List (List ℕ)) (line : List ℕ) (after : LinesLeft) → next_part n parts ≡ Some (line, after) → p line ≡ true
    → lines_while p n parts ≡ before_lines line (lines_while p after.number after.parts)
while_yes p n [] line after e h = cc
while_yes p n (x ∷ []) line after e h = cc
while_yes p n (x ∷ y ∷ more) line after e h =
    let one : x ≡ line = ap (λ (r : List ℕ × LinesLeft). r.0) (same_Some _ _ e) in
    let rest : record { number = n + 1; parts = y ∷ more } ≡ after = ap (λ (r : List ℕ × LinesLeft). r.1) (same_Some _ _ e) in
    ap (λ b. cond b (before_lines x (lines_while p (n + 1) (y ∷ more))) ([], record { number = n; parts = x ∷ y ∷ more })) (ap p one ∙ h)
    ∙ ap (λ (l : List ℕ). before_lines l (lines_while p (n + 1) (y ∷ more))) one
    ∙ ap (λ (left : LinesLeft). before_lines line (lines_while p left.number left.parts)) rest

pub while_no : (p : List ℕ → Bool) (n : ℕ) (parts : List (List ℕ)) (line : List ℕ) (after : LinesLeft) → next_part n parts ≡ Some (line, after) → p line ≡ false
    → lines_while p n parts ≡ ([], record { number = n; parts = parts })
while_no p n [] line after e h = refl
while_no p n (x ∷ []) line after e h = refl
while_no p n (x ∷ y ∷ more) line after e h =
    let one : x ≡ line = ap (λ (r : List ℕ × LinesLeft). r.0) (same_Some _ _ e) in
    ap (λ b. cond b (before_lines x (lines_while p (n + 1) (y ∷ more))) ([], record { number = n; parts = x ∷ y ∷ more })) (ap p one ∙ h)

-- the same behind lines that were read
pub onto_none : (p : List ℕ → Bool) (lines : List (List ℕ)) (left : LinesLeft) → next_line left ≡ None
    → onto_lines lines (lines_while p left.number left.parts) ≡ (lines, left)
onto_none p lines left e = ap (onto_lines lines) (while_none p left.number left.parts e) ∙ ap (λ (ls : List (List ℕ)). (ls, left)) (append-nil lines)

pub onto_no : (p : List ℕ → Bool) (lines : List (List ℕ)) (left : LinesLeft) (line : List ℕ) (after : LinesLeft) → next_line left ≡ Some (line, after)
    → p line ≡ false → onto_lines lines (lines_while p left.number left.parts) ≡ (lines, left)
onto_no p lines left line after e h =
    ap (onto_lines lines) (while_no p left.number left.parts line after e h) ∙ ap (λ (ls : List (List ℕ)). (ls, left)) (append-nil lines)

pub onto_yes : (p : List ℕ → Bool) (lines : List (List ℕ)) (left : LinesLeft) (line : List ℕ) (after : LinesLeft) → next_line left ≡ Some (line, after)
    → p line ≡ true
    → onto_lines lines (lines_while p left.number left.parts) ≡ onto_lines (lines ++ line ∷ []) (lines_while p after.number after.parts)
onto_yes p lines left line after e h =
    ap (onto_lines lines) (while_yes p left.number left.parts line after e h)
    ∙ ap (λ (ls : List (List ℕ)). (ls, (lines_while p after.number after.parts).1)) (sym (append_assoc lines (line ∷ []) (lines_while p after.number after.parts).0))

pub ruleset running = (onto_none, onto_no, onto_yes)

-- ---- one line
-- what one line says, where it says it
pub one_line-says : {A : Type 0} (read : List ℕ → Option A) (left : LinesLeft) (line : List ℕ) (after : LinesLeft) (x : A)
    → next_line left ≡ Some (line, after) → read line ≡ Some x → one_line read left ≡ Ok (x, after)
one_line-says {A} read left line after x e h =
    ap (λ (l : Option (List ℕ × LinesLeft)). wanted left.number (l >? λ n. read n.0 >? λ (v : A). Some (v, n.1))) e
    ∙ ap (λ (o : Option A). wanted left.number (o >? λ (v : A). Some (v, after))) h

pub one_line-mute : {A : Type 0} (read : List ℕ → Option A) (left : LinesLeft) (line : List ℕ) (after : LinesLeft)
    → next_line left ≡ Some (line, after) → read line ≡ None → one_line read left ≡ Err left.number
one_line-mute {A} read left line after e h =
    ap (λ (l : Option (List ℕ × LinesLeft)). wanted left.number (l >? λ n. read n.0 >? λ (v : A). Some (v, n.1))) e
    ∙ ap (λ (o : Option A). wanted left.number (o >? λ (v : A). Some (v, after))) h

pub one_line-none : {A : Type 0} (read : List ℕ → Option A) (left : LinesLeft) → next_line left ≡ None → one_line read left ≡ Err left.number
one_line-none {A} read left e = ap (λ (l : Option (List ℕ × LinesLeft)). wanted left.number (l >? λ n. read n.0 >? λ (v : A). Some (v, n.1))) e

-- the same of a line that is tested
pub line_that-holds : (p : List ℕ → Bool) (left : LinesLeft) (line : List ℕ) (after : LinesLeft) → next_line left ≡ Some (line, after) → p line ≡ true
    → line_that p left ≡ Ok after
line_that-holds p left line after e h =
    ap (λ (l : Option (List ℕ × LinesLeft)). wanted left.number (l >? λ n. some_if (p n.0) n.1)) e
    ∙ ap (λ (test : Bool). wanted left.number (some_if test after)) h

pub line_that-fails : (p : List ℕ → Bool) (left : LinesLeft) (line : List ℕ) (after : LinesLeft) → next_line left ≡ Some (line, after) → p line ≡ false
    → line_that p left ≡ Err left.number
line_that-fails p left line after e h =
    ap (λ (l : Option (List ℕ × LinesLeft)). wanted left.number (l >? λ n. some_if (p n.0) n.1)) e
    ∙ ap (λ (test : Bool). wanted left.number (some_if test after)) h

pub line_that-none : (p : List ℕ → Bool) (left : LinesLeft) → next_line left ≡ None → line_that p left ≡ Err left.number
line_that-none p left e = ap (λ (l : Option (List ℕ × LinesLeft)). wanted left.number (l >? λ n. some_if (p n.0) n.1)) e

pub ruleset single = (one_line-says, one_line-mute, one_line-none, line_that-holds, line_that-fails, line_that-none)

-- ---- nodes
module _ {State Op Query Reply : Type 0} (b : Behaviour State Op Query Reply) (w : Wording State Op Query Reply) where
  -- a node more, of the count that is left
  pub run_more : (p count : ℕ) (nodes : List Node) (left : LinesLeft) (n : Node) (after : LinesLeft) → p < count
      → one_line (node_said b w (p + 1)) left ≡ Ok (n, after)
      → onto_nodes nodes (node_run b w p (count - p) left) ≡ onto_nodes (nodes ++ n ∷ []) (node_run b w (p + 1) (count - (p + 1)) after)
  run_more p count nodes left n after lt e =
      let up : count - p ≡ suc (count - (p + 1)) = omega arith in
      ap (λ (k : ℕ). onto_nodes nodes (node_run b w p k left)) up
      ∙ ap (λ (r : Result (Node × LinesLeft) ℕ). onto_nodes nodes (r >>= λ m. node_run b w (p + 1) (count - (p + 1)) m.1 >>= λ rest. Ok (m.0 ∷ rest.0, rest.1))) e
      ∙ shift (node_run b w (p + 1) (count - (p + 1)) after)
    where
      shift : (r : Result (List Node × LinesLeft) ℕ) → onto_nodes nodes (r >>= λ rest. Ok (n ∷ rest.0, rest.1)) ≡ onto_nodes (nodes ++ n ∷ []) r
      shift (Ok rest) = ap (λ (ns : List Node). Ok (ns, rest.1)) (sym (append_assoc nodes (n ∷ []) rest.0))
      shift (Err line) = refl

  -- a line that is no node's
  pub run_stop : (p count : ℕ) (nodes : List Node) (left : LinesLeft) (line : ℕ) → p < count → one_line (node_said b w (p + 1)) left ≡ Err line
      → onto_nodes nodes (node_run b w p (count - p) left) ≡ Err line
  run_stop p count nodes left line lt e =
      let up : count - p ≡ suc (count - (p + 1)) = omega arith in
      ap (λ (k : ℕ). onto_nodes nodes (node_run b w p k left)) up
      ∙ ap (λ (r : Result (Node × LinesLeft) ℕ). onto_nodes nodes (r >>= λ m. node_run b w (p + 1) (count - (p + 1)) m.1 >>= λ rest. Ok (m.0 ∷ rest.0, rest.1))) e

  -- the last one
  pub run_end : (p count : ℕ) (nodes : List Node) (left : LinesLeft) → count ≤ p → onto_nodes nodes (node_run b w p (count - p) left) ≡ Ok (nodes, left)
  run_end p count nodes left le =
      let none : count - p ≡ 0 = omega arith in
      ap (λ (k : ℕ). onto_nodes nodes (node_run b w p k left)) none ∙ ap (λ (ns : List Node). Ok (ns, left)) (append-nil nodes)

  pub run_start : (count : ℕ) (left : LinesLeft) → node_run b w 0 count left ≡ onto_nodes [] (node_run b w 0 (count - 0) left)
  run_start count left =
      let all : count - 0 ≡ count = omega arith in
      own (node_run b w 0 count left) ∙ ap (λ (k : ℕ). onto_nodes [] (node_run b w 0 k left)) (sym all)
    where
      own : (r : Result (List Node × LinesLeft) ℕ) → r ≡ onto_nodes [] r
      own (Ok rest) = refl
      own (Err line) = refl

  -- a fault at the next node is one of all
  pub run_fails : (p count : ℕ) (nodes : List Node) (left : LinesLeft) (fault : AuditFault) (whole : Result (List Node × LinesLeft) ℕ) → p < count
      → whole ≡ onto_nodes nodes (node_run b w p (count - p) left) → IsFault fault (one_line (node_said b w (p + 1)) left) → IsFault fault whole
  run_fails p count nodes left NoMemory whole lt e h = tt
  run_fails p count nodes left (Refused line) whole lt e h = e ∙ run_stop p count nodes left line lt h

pub ruleset nodes_running = (run_more, run_stop, run_end, run_start, run_fails)

-- ---- logs
pub logs_more : (t threads : ℕ) (left after : LinesLeft) → t < threads → line_that (is_log_line t) left ≡ Ok after
    → log_run t (threads - t) left ≡ log_run (t + 1) (threads - (t + 1)) after
logs_more t threads left after lt e =
    let up : threads - t ≡ suc (threads - (t + 1)) = omega arith in
    ap (λ (k : ℕ). log_run t k left) up ∙ ap (λ (r : Result LinesLeft ℕ). r >>= λ l. log_run (t + 1) (threads - (t + 1)) l) e

pub logs_stop : (t threads : ℕ) (left : LinesLeft) (line : ℕ) → t < threads → line_that (is_log_line t) left ≡ Err line → log_run t (threads - t) left ≡ Err line
logs_stop t threads left line lt e =
    let up : threads - t ≡ suc (threads - (t + 1)) = omega arith in
    ap (λ (k : ℕ). log_run t k left) up ∙ ap (λ (r : Result LinesLeft ℕ). r >>= λ l. log_run (t + 1) (threads - (t + 1)) l) e

pub logs_end : (t threads : ℕ) (left : LinesLeft) → threads ≤ t → log_run t (threads - t) left ≡ Ok left
logs_end t threads left le = let none : threads - t ≡ 0 = omega arith in ap (λ (k : ℕ). log_run t k left) none

pub logs_start : (threads : ℕ) (left : LinesLeft) → log_run 0 threads left ≡ log_run 0 (threads - 0) left
logs_start threads left = let all : threads - 0 ≡ threads = omega arith in ap (λ (k : ℕ). log_run 0 k left) (sym all)

pub ruleset logs_running = (logs_more, logs_stop, logs_end, logs_start)

-- ---- faults
pub faults_none : (threads least n : ℕ) (parts : List (List ℕ)) → next_part n parts ≡ None → fault_run threads least n parts ≡ record { number = n; parts = parts }
faults_none threads least n [] e = refl
faults_none threads least n (x ∷ []) e = refl
faults_none threads least n (x ∷ y ∷ more) e = cc

pub faults_yes : (threads least n : ℕ) (parts : List (List ℕ)) (line : List ℕ) (after : LinesLeft) (t : ℕ) → next_part n parts ≡ Some (line, after)
    → fault_said least threads line ≡ Some t → fault_run threads least n parts ≡ fault_run threads (t + 1) after.number after.parts
faults_yes threads least n [] line after t e h = cc
faults_yes threads least n (x ∷ []) line after t e h = cc
faults_yes threads least n (x ∷ y ∷ more) line after t e h =
    let one : x ≡ line = ap (λ (r : List ℕ × LinesLeft). r.0) (same_Some _ _ e) in
    let rest : record { number = n + 1; parts = y ∷ more } ≡ after = ap (λ (r : List ℕ × LinesLeft). r.1) (same_Some _ _ e) in
    ap (after_fault (record { number = n; parts = x ∷ y ∷ more }) (λ t. fault_run threads (t + 1) (n + 1) (y ∷ more))) (ap (fault_said least threads) one ∙ h)
    ∙ ap (λ (left : LinesLeft). fault_run threads (t + 1) left.number left.parts) rest

pub faults_no : (threads least n : ℕ) (parts : List (List ℕ)) (line : List ℕ) (after : LinesLeft) → next_part n parts ≡ Some (line, after)
    → fault_said least threads line ≡ None → fault_run threads least n parts ≡ record { number = n; parts = parts }
faults_no threads least n [] line after e h = refl
faults_no threads least n (x ∷ []) line after e h = refl
faults_no threads least n (x ∷ y ∷ more) line after e h =
    let one : x ≡ line = ap (λ (r : List ℕ × LinesLeft). r.0) (same_Some _ _ e) in
    ap (after_fault (record { number = n; parts = x ∷ y ∷ more }) (λ t. fault_run threads (t + 1) (n + 1) (y ∷ more))) (ap (fault_said least threads) one ∙ h)

pub ruleset faults_running = (faults_none, faults_yes, faults_no)

-- ---- groups
module _ {State Op Query Reply : Type 0} (w : Wording State Op Query Reply) where
  pub groups_more : (t threads : ℕ) (groups : List (List (List ℕ))) (left : LinesLeft) (lines : List (List ℕ)) (after : LinesLeft) → t < threads
      → lines_while (is_call_line w t) left.number left.parts ≡ (lines, after)
      → onto_groups groups (call_groups w t (threads - t) left) ≡ onto_groups (groups ++ lines ∷ []) (call_groups w (t + 1) (threads - (t + 1)) after)
  groups_more t threads groups left lines after lt e =
      let up : threads - t ≡ suc (threads - (t + 1)) = omega arith in
      ap (λ (k : ℕ). onto_groups groups (call_groups w t k left)) up
      ∙ ap (λ (r : List (List ℕ) × LinesLeft). onto_groups groups (before_groups r.0 (call_groups w (t + 1) (threads - (t + 1)) r.1))) e
      ∙ ap (λ (gs : List (List (List ℕ))). (gs, (call_groups w (t + 1) (threads - (t + 1)) after).1))
      (sym (append_assoc groups (lines ∷ []) (call_groups w (t + 1) (threads - (t + 1)) after).0))

  pub groups_end : (t threads : ℕ) (groups : List (List (List ℕ))) (left : LinesLeft) → threads ≤ t
      → onto_groups groups (call_groups w t (threads - t) left) ≡ (groups, left)
  groups_end t threads groups left le =
      let none : threads - t ≡ 0 = omega arith in
      ap (λ (k : ℕ). onto_groups groups (call_groups w t k left)) none ∙ ap (λ (gs : List (List (List ℕ))). (gs, left)) (append-nil groups)

  pub groups_start : (threads : ℕ) (left : LinesLeft) → call_groups w 0 threads left ≡ onto_groups [] (call_groups w 0 (threads - 0) left)
  groups_start threads left = let all : threads - 0 ≡ threads = omega arith in ap (λ (k : ℕ). onto_groups [] (call_groups w 0 k left)) (sym all)

-- a group more
pub groups_pushed : {A B : Type 0} (old new : Vec (Vec CallLine A) B) (group : Vec CallLine A) → new.items ≡ old.items ++ group ∷ []
    → as_groups new.items ≡ as_groups old.items ++ as_lines group ∷ []
groups_pushed {A} old new group e =
    let f = λ (g : Vec CallLine A). as_lines g in
    ap (map f) e ∙ map-append f old.items (group ∷ [])

pub many_pushed : {A : Type 0} (xs : List A) (x : A) → length (xs ++ x ∷ []) ≡ length xs + 1
many_pushed xs x = omega (arith, length-append xs (x ∷ []))

-- what stands in a list with one element more
pushed : {A : Type 0} (xs : List A) (x y : A) (i : ℕ) → slice_get (xs ++ x ∷ []) i ≡ Some y → (slice_get xs i ≡ Some y) ⊎ ((i ≡ length xs) × (x ≡ y))
pushed [] x y zero e = inr (refl, same_Some x y e)
pushed [] x y (suc i) e = cc e
pushed (z ∷ xs) x y zero e = inl e
pushed (z ∷ xs) x y (suc i) e = elim (pushed xs x y i e) [
  | inl old ↦ inl old
  | inr new ↦ inr (omega (arith, new.0), new.1)
]

module _ {State Op Query Reply : Type 0} (w : Wording State Op Query Reply) where
  -- a line more that was read beside its call
  pub lines_read : (t : ℕ) (script : List (Call State Op Query Reply)) (lines new : List CallLine) (l : CallLine) (k : ℕ) → new ≡ lines ++ l ∷ []
      → k ≡ length lines → AreReadWith w t script lines
      → IfSome (slice_get script k) (λ c. as_end l.end ≡ end_of_call w t (k + 1) c l.line.now) → AreReadWith w t script new
  lines_read t script lines new l k is many each said i c m here there = elim (pushed lines l m i (ap (λ (ls : List CallLine). slice_get ls i) (sym is) ∙ there)) [
    | inl old ↦ each i c m here old
    | inr last ↦
        let at : k ≡ i = many ∙ sym last.0 in
        let call : slice_get script k ≡ Some c = ap (slice_get script) at ∙ here in
        let says : as_end l.end ≡ end_of_call w t (k + 1) c l.line.now =
        subst (λ (o : Option (Call State Op Query Reply)). IfSome o (λ d. as_end l.end ≡ end_of_call w t (k + 1) d l.line.now)) call said in
        subst (λ (j : ℕ). as_end m.end ≡ end_of_call w t (j + 1) c m.line.now) at
        (subst (λ (n : CallLine). as_end n.end ≡ end_of_call w t (k + 1) c n.line.now) last.1 says)
  ]

  -- a thread more
  pub groups_read : {A B : Type 0} (f : A → List (Call State Op Query Reply)) (h : B → List CallLine) (scripts : List A) (old new : List B) (group : B)
      (script : List (Call State Op Query Reply)) (i : ℕ) → length old ≡ i → EachReadWith w (map f scripts) (map h old)
      → slice_get (map f scripts) i ≡ Some script → AreReadWith w i script (h group) → new ≡ old ++ group ∷ [] → EachReadWith w (map f scripts) (map h new)
  groups_read {A} {B} f h scripts old new group script i many each here last is =
      let here_all : slice_get (map f scripts) (length (map h old)) ≡ Some script = ap (slice_get (map f scripts)) (length-map old h ∙ many) ∙ here in
      let last_all : AreReadWith w (length (map h old)) script (h group) =
      subst (λ (j : ℕ). AreReadWith w j script (h group)) (sym (length-map old h ∙ many)) last in
      subst (λ (groups : List (List CallLine)). EachReadWith w (map f scripts) groups) (sym (ap (map h) is ∙ map-append h old (group ∷ [])))
      (one_read (map f scripts) (map h old) script (h group) each here_all last_all)
    where
      one_read : (all : List (List (Call State Op Query Reply))) (groups : List (List CallLine)) (own : List (Call State Op Query Reply))
          (lines : List CallLine) → EachReadWith w all groups → slice_get all (length groups) ≡ Some own → AreReadWith w (length groups) own lines
          → EachReadWith w all (groups ++ lines ∷ [])
      one_read all groups own lines before at said t s ls from there = elim (pushed groups lines ls t there) [
        | inl one ↦ before t s ls from one
        | inr end ↦
            let same : own ≡ s = same_Some own s (sym at ∙ ap (slice_get all) (sym end.0) ∙ from) in
            subst (λ (u : ℕ). AreReadWith w u s ls) (sym end.0)
            (subst (λ (xs : List CallLine). AreReadWith w (length groups) s xs) end.1
            (subst (λ (cs : List (Call State Op Query Reply)). AreReadWith w (length groups) cs lines) same said))
      ]

pub ruleset groups_running = (groups_more, groups_end, groups_start)
