use Rattle.std.proofs.Common.{ℕ, Bool, true, List, [], ◌∷◌, ◌++◌, ◌≡◌, ◌∙◌, Option, Some, codes, decimal, refl, ap, sym, subst}
use Rattle.onll_words.specs.Texts.{line_text}
use Rattle.onll_model.specs.declared.node.Node.{Node}
use Rattle.onll_model.specs.declared.call.Call.{Call}
use Rattle.onll_model.specs.declared.call.CallEnd.{CallEnd}
use Rattle.onll_model.specs.Object.{Behaviour}
use Rattle.onll_text.specs.Bytes.{begins_line, with_word, with_words, IsFront}
use Rattle.onll_text.specs.Wording.{Wording}
use Rattle.onll_text.specs.Lines.{call_words, end_words, call_line, flag_words, row_words, node_line, fence_words, log_line}
use Rattle.onll_text.proofs.Appending.{with_words-append, with_words-line}
use Rattle.onll_text.proofs.LineWords.{call_line_parts, node_line_in_words, node_line_parts, log_line_parts}
use Rattle.onll_text.proofs.Keeping.{part_front, words_front}

-- What begins the words of a line up to some part of it begins the line.

-- after the words that are left and a line end these bytes are the whole
ended_front : (bytes : List ℕ) (ws : List (List ℕ)) (new whole : List ℕ) → with_words bytes ws ++ 10 ∷ [] ≡ whole → IsFront new bytes → IsFront new whole
ended_front bytes ws new whole e within = part_front new (with_words bytes ws) (10 ∷ []) whole e (λ front f. words_front bytes ws front (within front f))

module _ {State Op Query Reply : Type 0} (w : Wording State Op Query Reply) (thread number : ℕ) (call : Call State Op Query Reply) (end : CallEnd State Op Query Reply) (old new : List ℕ) (h : begins_line old ≡ true) where
  abbrev pub call_began : List ℕ
  call_began = with_words old (codes "call" ∷ decimal thread ∷ decimal number ∷ [])

  abbrev pub call_pointed : List ℕ
  call_pointed = with_word (with_words call_began (call_words w call)) (codes "->")

  abbrev pub call_whole : List ℕ
  call_whole = old ++ line_text (call_line w thread number call end)

  call_is : with_words call_pointed (end_words w end) ++ 10 ∷ [] ≡ call_whole
  call_is = call_line_parts w thread number call end old call_began (with_words call_began (call_words w call)) call_pointed (with_words call_pointed (end_words w end))
      (with_words call_pointed (end_words w end) ++ 10 ∷ []) h refl refl refl refl refl

  call_pointed_front : IsFront new call_pointed → IsFront new call_whole
  call_pointed_front = ended_front call_pointed (end_words w end) new call_whole call_is

  call_called_front : IsFront new (with_words call_began (call_words w call)) → IsFront new call_whole
  call_called_front within = call_pointed_front (λ front f. words_front (with_words call_began (call_words w call)) (codes "->" ∷ []) front (within front f))

  pub call_front_began : IsFront new call_began → IsFront new call_whole
  call_front_began within = call_called_front (λ front f. words_front call_began (call_words w call) front (within front f))

  pub call_front_called : (began : List ℕ) → began ≡ call_began → IsFront new (with_words began (call_words w call)) → IsFront new call_whole
  call_front_called began e within = call_called_front (subst (λ t. IsFront new (with_words t (call_words w call))) e within)

  pub call_front_pointed : (began called : List ℕ) → began ≡ call_began → called ≡ with_words began (call_words w call) → IsFront new (with_word called (codes "->")) → IsFront new call_whole
  call_front_pointed began called e₁ e₂ within =
      call_pointed_front (subst (λ t. IsFront new (with_word t (codes "->"))) (e₂ ∙ ap (λ t. with_words t (call_words w call)) e₁) within)

  call_ended : (began called pointed : List ℕ) → began ≡ call_began → called ≡ with_words began (call_words w call) → pointed ≡ with_word called (codes "->") → pointed ≡ call_pointed
  call_ended began called pointed e₁ e₂ e₃ = e₃ ∙ ap (λ t. with_word t (codes "->")) (e₂ ∙ ap (λ t. with_words t (call_words w call)) e₁)

  pub call_front_ended : (began called pointed : List ℕ) → began ≡ call_began → called ≡ with_words began (call_words w call) → pointed ≡ with_word called (codes "->")
      → IsFront new (with_words pointed (end_words w end)) → IsFront new call_whole
  call_front_ended began called pointed e₁ e₂ e₃ within =
      ended_front (with_words call_pointed (end_words w end)) [] new call_whole call_is (subst (λ t. IsFront new (with_words t (end_words w end))) (call_ended began called pointed e₁ e₂ e₃) within)

  pub call_front : (began called pointed ended : List ℕ) → began ≡ call_began → called ≡ with_words began (call_words w call) → pointed ≡ with_word called (codes "->")
      → ended ≡ with_words pointed (end_words w end) → IsFront new (ended ++ 10 ∷ []) → IsFront new call_whole
  call_front began called pointed ended e₁ e₂ e₃ e₄ within =
      subst (IsFront new) (call_line_parts w thread number call end old began called pointed ended (ended ++ 10 ∷ []) h e₁ e₂ e₃ e₄ refl) within

-- the same of a node's line
module _ {State Op Query Reply : Type 0} (b : Behaviour State Op Query Reply) (w : Wording State Op Query Reply) (place : ℕ) (node : Node) (flag : Option Bool) (old new : List ℕ) (h : begins_line old ≡ true) where
  abbrev pub node_began : List ℕ
  node_began = with_words old (codes "node" ∷ decimal place ∷ decimal node.thread ∷ decimal node.number ∷ [])

  abbrev pub node_whole : List ℕ
  node_whole = old ++ line_text (node_line b w place node flag)

  node_is : with_words (with_words node_began (flag_words flag)) (row_words w (b.op_at node.row)) ++ 10 ∷ [] ≡ node_whole
  node_is =
      ap (λ t. t ++ 10 ∷ []) (sym (with_words-append node_began (flag_words flag) (row_words w (b.op_at node.row))))
      ∙ with_words-line old (codes "node") (decimal place ∷ decimal node.thread ∷ decimal node.number ∷ (flag_words flag ++ row_words w (b.op_at node.row))) h (node_line_in_words b w place node flag)

  node_flagged_front : IsFront new (with_words node_began (flag_words flag)) → IsFront new node_whole
  node_flagged_front = ended_front (with_words node_began (flag_words flag)) (row_words w (b.op_at node.row)) new node_whole node_is

  pub node_front_began : IsFront new node_began → IsFront new node_whole
  node_front_began within = node_flagged_front (λ front f. words_front node_began (flag_words flag) front (within front f))

  pub node_front_flagged : (began : List ℕ) → began ≡ node_began → IsFront new (with_words began (flag_words flag)) → IsFront new node_whole
  node_front_flagged began e within = node_flagged_front (subst (λ t. IsFront new (with_words t (flag_words flag))) e within)

  pub node_front_done : (op : Op) (began flagged : List ℕ) → b.op_at node.row ≡ Some op → began ≡ node_began → flagged ≡ with_words began (flag_words flag)
      → IsFront new (with_words flagged (w.op_words op)) → IsFront new node_whole
  node_front_done op began flagged known e₁ e₂ within =
      part_front new (with_words flagged (w.op_words op)) (10 ∷ []) node_whole
      (node_line_parts b w place node flag op old began flagged (with_words flagged (w.op_words op)) (with_words flagged (w.op_words op) ++ 10 ∷ []) h known e₁ e₂ refl refl) within

  pub node_front : (op : Op) (began flagged done : List ℕ) → b.op_at node.row ≡ Some op → began ≡ node_began → flagged ≡ with_words began (flag_words flag)
      → done ≡ with_words flagged (w.op_words op) → IsFront new (done ++ 10 ∷ []) → IsFront new node_whole
  node_front op began flagged done known e₁ e₂ e₃ within = subst (IsFront new) (node_line_parts b w place node flag op old began flagged done (done ++ 10 ∷ []) h known e₁ e₂ e₃ refl) within

-- the same of a log's line
module _ (thread entries lines : ℕ) (fences : Option ℕ) (old new : List ℕ) (h : begins_line old ≡ true) where
  abbrev pub log_began : List ℕ
  log_began = with_words old (codes "log" ∷ decimal thread ∷ codes "entries" ∷ decimal entries ∷ codes "lines" ∷ decimal lines ∷ [])

  abbrev pub log_whole : List ℕ
  log_whole = old ++ line_text (log_line thread entries lines fences)

  log_is : with_words log_began (fence_words fences) ++ 10 ∷ [] ≡ log_whole
  log_is = log_line_parts thread entries lines fences old log_began (with_words log_began (fence_words fences)) (with_words log_began (fence_words fences) ++ 10 ∷ []) h refl refl refl

  pub log_front_began : IsFront new log_began → IsFront new log_whole
  log_front_began = ended_front log_began (fence_words fences) new log_whole log_is

  pub log_front_counted : (began : List ℕ) → began ≡ log_began → IsFront new (with_words began (fence_words fences)) → IsFront new log_whole
  log_front_counted began e within =
      ended_front (with_words log_began (fence_words fences)) [] new log_whole log_is (subst (λ t. IsFront new (with_words t (fence_words fences))) e within)

  pub log_front : (began counted : List ℕ) → began ≡ log_began → counted ≡ with_words began (fence_words fences) → IsFront new (counted ++ 10 ∷ []) → IsFront new log_whole
  log_front began counted e₁ e₂ within = subst (IsFront new) (log_line_parts thread entries lines fences old began counted (counted ++ 10 ∷ []) h e₁ e₂ refl) within
