-- What became of the updates of scripts, part after part.

use Rattle.std.proofs.Common.{ℕ, zero, suc, Bool, true, false, List, [], ◌∷◌, ◌++◌, ◌≡◌, ◌+◌, ◌<◌, ◌≤◌, length, map, drop, get_or, slice_get, Option, Some, None, refl, sym, ap, ◌∙◌, arith, codes, decimal, Vec, cond}
use Rattle.std.proofs.lemmas.List.{drop_more, append-nil, length-map}
use Rattle.std.proofs.lemmas.List.Concat.{flat_map-append}
use Rattle.std.specs.List.{AllByRecursion, flat_map}
use Rattle.onll_words.specs.declared.line.OpRow.{OpRow}
use Rattle.onll_words.specs.Texts.{AreWords, line_text}
use Rattle.onll_words.proofs.Decimals.{IsWord-decimal}
use Rattle.onll_model.specs.declared.node.Node.{Node}
use Rattle.onll_model.specs.declared.call.Call.{Call}
use Rattle.onll_model.specs.declared.call.Call.TheVariants.{Update, Ask}
use Rattle.onll_model.specs.Calls.{updates_in}
use Rattle.onll_model.specs.Object.{Behaviour}
use Rattle.onll_detect.specs.declared.outcome.Outcome.TheVariants.{Lost}
use Rattle.onll_detect.specs.Outcomes.{Table, numbered_in}
use Rattle.onll_text.specs.Bytes.{begins_line, with_words, with_lines}
use Rattle.onll_text.specs.Wording.{Wording}
use Rattle.onll_text.proofs.Appending.{with_words-append, with_words-line, with_lines-append}
use Rattle.onll_text.proofs.LineWords.{AreWords-append}
use Rattle.onll_text.specs.Lines.{recovered_line}
use Rattle.onll_recovery.specs.DetectJob.{outcome_line, update_lines, scripts_lines, detect_lines, update_rows, is_row, is_in_script, stranger, stranger_line}

-- ---- nodes of the scripts' threads
get_within : {A : Type 0} (xs : List A) (i : ℕ) (x : A) → slice_get xs i ≡ Some x → i < length xs
get_within [] i x e = absurd (cc)
get_within (y ∷ xs) zero x e = omega arith
get_within (y ∷ xs) (suc i) x e = let less = get_within xs i x e in omega arith

thread_within : (rows : List (List OpRow)) (node : Node) (own : Option (List OpRow)) → slice_get rows node.thread ≡ own
    → is_row node.row (numbered_in own node.number) ≡ true → node.thread < length rows
thread_within rows node None e is = absurd (cc)
thread_within rows node (Some own) e is = get_within rows node.thread own e

in_scripts_step : (rows : List (List OpRow)) (p : ℕ) (node : Node) (nodes : List Node) (test : Bool) → is_in_script rows node ≡ test
    → cond {A = Option ℕ} test (stranger rows (p + 1) nodes) (Some (p + 1)) ≡ None → (node.thread < length rows) × (stranger rows (p + 1) nodes ≡ None)
in_scripts_step rows p node nodes true is e = (thread_within rows node (slice_get rows node.thread) refl is, e)
in_scripts_step rows p node nodes false is e = absurd (cc)

in_scripts : (rows : List (List OpRow)) (p : ℕ) (nodes : List Node) → stranger rows p nodes ≡ None → length rows ≤ 16
    → AllByRecursion (λ (node : Node). node.thread < 16) nodes
in_scripts rows p [] e few = tt
in_scripts rows p (node ∷ nodes) e few =
    let step = in_scripts_step rows p node nodes (is_in_script rows node) refl e in
    (let less = step.0 in omega arith, in_scripts rows (p + 1) nodes step.1 few)

pub threads_few : {State Op Query Reply : Type 0} (b : Behaviour State Op Query Reply) (scripts : List (List (Call State Op Query Reply))) (nodes : List Node)
    → length scripts ≤ 16 → stranger (map (update_rows b) scripts) 0 nodes ≡ None → AllByRecursion (λ (node : Node). node.thread < 16) nodes
threads_few b scripts nodes few e =
    in_scripts (map (update_rows b) scripts) 0 nodes e (let many = length-map scripts (update_rows b) in omega (arith, many))

-- ---- how many updates
pub count_most : {State Op Query Reply : Type 0} (call : Call State Op Query Reply) (updates calls count : ℕ) → updates ≤ calls
    → count ≡ updates + updates_in (call ∷ []) → count ≤ calls + 1
count_most (Update op) updates calls count h e = let n : count ≡ updates + 1 = e in omega arith
count_most (Ask query) updates calls count h e = let n : count ≡ updates + 0 = e in omega arith

-- ---- the lines
-- the words of a lost update
module _ {State Op Query Reply : Type 0} (w : Wording State Op Query Reply) where
  lost_in_words : (thread number : ℕ) (op : Op) → AreWords (outcome_line w thread number op Lost)
  lost_in_words thread number op = (
    record { some = refl; bytes = refl },
    (
      IsWord-decimal thread,
      (
        IsWord-decimal number,
        AreWords-append (w.op_words op) (codes "->" ∷ codes "lost" ∷ []) (w.op_in_words op) (record { some = refl; bytes = refl }, (record { some = refl; bytes = refl }, tt)),
      ),
    ),
  )

  -- the bytes after the parts of its line, one after another
  pub lost_parts : (thread number : ℕ) (op : Op) (old began called done new : List ℕ) → begins_line old ≡ true
      → began ≡ with_words old (codes "call" ∷ decimal thread ∷ decimal number ∷ []) → called ≡ with_words began (w.op_words op)
      → done ≡ with_words called (codes "->" ∷ codes "lost" ∷ []) → new ≡ done ++ 10 ∷ []
      → new ≡ old ++ line_text (outcome_line w thread number op Lost)
  lost_parts thread number op old began called done new h e₁ e₂ e₃ e₄ =
      e₄ ∙ ap (λ t. t ++ 10 ∷ []) (e₃ ∙ ap (λ t. with_words t (codes "->" ∷ codes "lost" ∷ [])) (e₂ ∙ ap (λ t. with_words t (w.op_words op)) e₁)
      ∙ sym (with_words-append (with_words old (codes "call" ∷ decimal thread ∷ decimal number ∷ [])) (w.op_words op) (codes "->" ∷ codes "lost" ∷ [])))
      ∙ with_words-line old (codes "call") (decimal thread ∷ decimal number ∷ (w.op_words op ++ codes "->" ∷ codes "lost" ∷ [])) h (lost_in_words thread number op)

  module _ (table : Table Reply) where
    -- one call before the rest
    lines_split : (t calls updates : ℕ) (call : Call State Op Query Reply) (script : List (Call State Op Query Reply))
        → update_lines w table t calls updates (call ∷ script)
        ≡ update_lines w table t calls updates (call ∷ []) ++ update_lines w table t (calls + 1) (updates + updates_in (call ∷ [])) script
    lines_split t calls updates (Update op) script = refl
    lines_split t calls updates (Ask query) script =
        let none : updates ≡ updates + 0 = omega arith in ap (λ (n : ℕ). update_lines w table t (calls + 1) n script) none

    pub lines_more : (out text : List ℕ) (t i updates count : ℕ) (call : Call State Op Query Reply) (script : List (Call State Op Query Reply))
        → i < length script → call ≡ get_or script i call → count ≡ updates + updates_in (call ∷ [])
        → text ≡ with_lines out (update_lines w table t i updates (call ∷ []))
        → with_lines text (update_lines w table t (i + 1) count (drop (i + 1) script)) ≡ with_lines out (update_lines w table t i updates (drop i script))
    lines_more out text t i updates count call script less is n e =
        let rest = drop (i + 1) script in
        let here : drop i script ≡ call ∷ rest = drop_more script i call less ∙ ap (λ c. c ∷ rest) (sym is) in
        ap (λ z. with_lines z (update_lines w table t (i + 1) count rest)) e
        ∙ ap (λ k. with_lines (with_lines out (update_lines w table t i updates (call ∷ []))) (update_lines w table t (i + 1) k rest)) n
        ∙ sym (with_lines-append out (update_lines w table t i updates (call ∷ [])) (update_lines w table t (i + 1) (updates + updates_in (call ∷ [])) rest))
        ∙ ap (with_lines out) (sym (lines_split t i updates call rest) ∙ ap (update_lines w table t i updates) (sym here))

    -- one script before the rest
    pub scripts_more : {A : Type 0} (out text : List ℕ) (i : ℕ) (script : Vec (Call State Op Query Reply) A) (scripts : List (Vec (Call State Op Query Reply) A))
        → i < length scripts → script ≡ get_or scripts i script
        → text ≡ with_lines out (update_lines w table i 0 0 script.items)
        → with_lines text (scripts_lines w table (i + 1) (map (λ (s : Vec (Call State Op Query Reply) A). s.items) (drop (i + 1) scripts)))
        ≡ with_lines out (scripts_lines w table i (map (λ (s : Vec (Call State Op Query Reply) A). s.items) (drop i scripts)))
    scripts_more {A} out text i script scripts less is e =
        let items : Vec (Call State Op Query Reply) A → List (Call State Op Query Reply) = λ s. s.items in
        let rest = drop (i + 1) scripts in
        let here : drop i scripts ≡ script ∷ rest = drop_more scripts i script less ∙ ap (λ s. s ∷ rest) (sym is) in
        ap (λ z. with_lines z (scripts_lines w table (i + 1) (map items rest))) e
        ∙ sym (with_lines-append out (update_lines w table i 0 0 script.items) (scripts_lines w table (i + 1) (map items rest)))
        ∙ ap (λ (s : List (Vec (Call State Op Query Reply) A)). with_lines out (scripts_lines w table i (map items s))) (sym here)

    -- all of them, and the count
    pub all_lines : (scripts : List (List (Call State Op Query Reply))) (nodes : ℕ) (begin out text : List ℕ) → begin ≡ []
        → out ≡ with_lines begin (scripts_lines w table 0 scripts) → text ≡ out ++ line_text (recovered_line nodes)
        → text ≡ flat_map line_text (detect_lines w table scripts nodes)
    all_lines scripts nodes begin out text none e f =
        let lines = scripts_lines w table 0 scripts in
        f ∙ ap (λ z. z ++ line_text (recovered_line nodes)) (e ∙ ap (λ z. with_lines z lines) none)
        ∙ ap (λ z. flat_map line_text lines ++ z) (sym (append-nil (line_text (recovered_line nodes))))
        ∙ sym (flat_map-append line_text lines (recovered_line nodes ∷ []))

-- the words of a refusal
pub stranger_in_words : (place : ℕ) → AreWords (stranger_line place)
stranger_in_words place = (
  record { some = refl; bytes = refl },
  (
    IsWord-decimal place,
    (record { some = refl; bytes = refl }, (record { some = refl; bytes = refl }, (record { some = refl; bytes = refl }, (record { some = refl; bytes = refl }, tt)))),
  ),
)
