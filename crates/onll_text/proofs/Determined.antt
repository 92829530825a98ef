use Rattle.std.proofs.Common.{ℕ, Bool, false, true, ◌≡◌, ◌+◌, ◌<◌, ◌≤◌, ◌^◌, List, [], ◌∷◌, ◌++◌, Option, Some, None, Result, Ok, codes, decimal, length, drop, refl, sym, ap, ◌∙◌, arith, length-append}
use Rattle.std.specs.List.{All, flat_map}
use Rattle.std.specs.Result.{is_ok}
use Rattle.std.proofs.lemmas.Fmt.{decimal_injective}
use Rattle.std.proofs.lemmas.Option.{same_Some}
use Rattle.std.proofs.lemmas.List.{append_cancel_left}
use Rattle.std.proofs.lemmas.List.Elements.{All-head, All-tail}
use Rattle.onll_words.specs.Texts.{line_text, AreMeaningful}
use Rattle.onll_words.proofs.Decimals.{IsWord-decimal}
use Rattle.onll_words.proofs.Joined.{text_determined, AreMeaningful-append, line_same, line_none}
use Rattle.onll_model.specs.declared.node.Node.{Node}
use Rattle.onll_model.specs.declared.call.Call.{Call}
use Rattle.onll_model.specs.declared.call.Call.TheVariants.{Update}
use Rattle.onll_model.specs.declared.call.CallEnd.{CallEnd}
use Rattle.onll_model.specs.declared.call.CallEnd.TheVariants.{Answered, Running, Ordered, FenceFailed, Broken}
use Rattle.onll_model.specs.Object.{Behaviour}
use Rattle.onll_text.specs.declared.reason.Reason.{Reason}
use Rattle.onll_text.specs.Wording.{Wording}
use Rattle.onll_text.specs.Lines.{at_words, call_words, end_words, call_line, call_lines, trace_line, flag_words, row_words, node_line, node_lines, state_lines}
use Rattle.onll_text.specs.Reports.{EndReads, NodeReads, StateReads, NoCallNext, NoNodeNext, FoldData, fold_data_lines, FoldDeterminedLaw, SaysOnly}
use Rattle.onll_text.proofs.LineWords.{call_line_in_words, node_line_in_words}

-- ---- what became of a call
same_number : (m n : ℕ) → m < 2 ^ 64 → n < 2 ^ 64 → decimal m ∷ [] ≡ decimal n ∷ [] → m ≡ n
same_number m n g h e = decimal_injective m n g h (line_same (decimal m) (decimal n) [] [] e).0

-- words before a place
before_place : (xs ys : List (List ℕ)) (p q : ℕ) → p < 2 ^ 64 → q < 2 ^ 64 → xs ++ at_words p ≡ ys ++ at_words q → (xs ≡ ys) × (p ≡ q)
before_place [] [] p q g h e = (refl, same_number p q g h (ap (drop 1) e))
before_place [] (y ∷ ys) p q g h e = absurd (omega (arith, ap length e, length-append ys (at_words q)))
before_place (x ∷ xs) [] p q g h e = absurd (omega (arith, ap length e, length-append xs (at_words p)))
before_place (x ∷ xs) (y ∷ ys) p q g h e =
    let parts = line_same x y (xs ++ at_words p) (ys ++ at_words q) e in
    let rest = before_place xs ys p q g h parts.1 in
    (ap (λ v. v ∷ xs) parts.0 ∙ ap (λ vs. y ∷ vs) rest.0, rest.1)

one_word : (xs : List (List ℕ)) (p : ℕ) (w : List ℕ) → xs ++ at_words p ≡ w ∷ [] → ⊥
one_word xs p w e = absurd (omega (arith, ap length e, length-append xs (at_words p)))

same_ok : {A E : Type 0} (x y : A) (v : Result A E) → v ≡ Ok x → v ≡ Ok y → x ≡ y
same_ok x y v g h = cc

not_ok : {A E : Type 0} (x : A) (v : Result A E) → v ≡ Ok x → is_ok v ≡ false → ⊥
not_ok x v g h = cc

node_same : (a b : Node) → a.thread ≡ b.thread → a.number ≡ b.number → a.row ≡ b.row → a ≡ b
node_same a b e₁ e₂ e₃ =
    ap (λ (t : ℕ). record { thread = t; number = a.number; row = a.row }) e₁ ∙ ap (λ (n : ℕ). record { thread = b.thread; number = n; row = a.row }) e₂
    ∙ ap (λ r. record { thread = b.thread; number = b.number; row = r }) e₃

-- a flag before other words
flag_determined : (flag mark : Bool) (xs ys : List (List ℕ)) → flag_words (Some flag) ++ xs ≡ flag_words (Some mark) ++ ys → (flag ≡ mark) × (xs ≡ ys)
flag_determined true true xs ys e = (refl, ap (drop 1) e)
flag_determined true false xs ys e = cc e
flag_determined false true xs ys e = cc e
flag_determined false false xs ys e = (refl, ap (drop 1) e)

module _ {State Op Query Reply : Type 0} where
  -- no reply is written so
  no_reply : (w : Wording State Op Query Reply) (reply : Reply) (p q : ℕ) (ws : List (List ℕ)) → w.reply_of (w.reply_words reply) ≡ Ok reply → p < 2 ^ 64 → q < 2 ^ 64 → is_ok (w.reply_of ws) ≡ false
      → w.reply_words reply ++ at_words p ≡ ws ++ at_words q → ⊥
  no_reply w reply p q ws reads g h off e =
      not_ok reply (w.reply_of ws) (ap w.reply_of (sym (before_place (w.reply_words reply) ws p q g h e).0) ∙ reads) off

  pub end_determined : (w : Wording State Op Query Reply) (end other : CallEnd State Op Query Reply) → EndReads w end → EndReads w other → end_words w end ≡ end_words w other → end ≡ other
  end_determined w (Answered r p) (Answered s q) g h e =
      let parts = before_place (w.reply_words r) (w.reply_words s) p q g.1 h.1 e in
      ap (λ (t : Reply). Answered t p) (same_ok r s (w.reply_of (w.reply_words r)) g.0 (ap w.reply_of parts.0 ∙ h.0)) ∙ ap (λ n. Answered s n) parts.1
  end_determined w (Answered r p) Running g h e = absurd (one_word (w.reply_words r) p (codes "running") e)
  end_determined w (Answered r p) (Ordered q) g h e = absurd (no_reply w r p q (codes "ordered" ∷ []) g.0 g.1 h w.ordered_is_no_reply e)
  end_determined w (Answered r p) (FenceFailed q) g h e = absurd (no_reply w r p q (codes "fence" ∷ codes "failed" ∷ []) g.0 g.1 h w.fence_failed_is_no_reply e)
  end_determined w (Answered r p) (Broken q) g h e = absurd (no_reply w r p q (codes "broken" ∷ []) g.0 g.1 h w.broken_is_no_reply e)
  end_determined w Running (Answered s q) g h e = absurd (one_word (w.reply_words s) q (codes "running") (sym e))
  end_determined w Running Running g h e = refl
  end_determined w Running (Ordered q) g h e = cc e
  end_determined w Running (FenceFailed q) g h e = cc e
  end_determined w Running (Broken q) g h e = cc e
  end_determined w (Ordered p) (Answered s q) g h e = absurd (no_reply w s q p (codes "ordered" ∷ []) h.0 h.1 g w.ordered_is_no_reply (sym e))
  end_determined w (Ordered p) Running g h e = cc e
  end_determined w (Ordered p) (Ordered q) g h e = ap Ordered (same_number p q g h (ap (drop 2) e))
  end_determined w (Ordered p) (FenceFailed q) g h e = cc e
  end_determined w (Ordered p) (Broken q) g h e = cc e
  end_determined w (FenceFailed p) (Answered s q) g h e = absurd (no_reply w s q p (codes "fence" ∷ codes "failed" ∷ []) h.0 h.1 g w.fence_failed_is_no_reply (sym e))
  end_determined w (FenceFailed p) Running g h e = cc e
  end_determined w (FenceFailed p) (Ordered q) g h e = cc e
  end_determined w (FenceFailed p) (FenceFailed q) g h e = ap FenceFailed (same_number p q g h (ap (drop 3) e))
  end_determined w (FenceFailed p) (Broken q) g h e = cc e
  end_determined w (Broken p) (Answered s q) g h e = absurd (no_reply w s q p (codes "broken" ∷ []) h.0 h.1 g w.broken_is_no_reply (sym e))
  end_determined w (Broken p) Running g h e = cc e
  end_determined w (Broken p) (Ordered q) g h e = cc e
  end_determined w (Broken p) (FenceFailed q) g h e = cc e
  end_determined w (Broken p) (Broken q) g h e = ap Broken (same_number p q g h (ap (drop 2) e))

  -- ---- the calls of a thread
  call_determined : (w : Wording State Op Query Reply) (thread k : ℕ) (c : Call State Op Query Reply) (end other : CallEnd State Op Query Reply) → EndReads w end → EndReads w other
      → call_line w thread k c end ≡ call_line w thread k c other → end ≡ other
  call_determined w thread k c end other g h e =
      end_determined w end other g h (ap (drop 1) (append_cancel_left (call_words w c) (codes "->" ∷ end_words w end) (codes "->" ∷ end_words w other) (ap (drop 3) e)))

  -- lines that a call's line begins are not those of which none is next
  no_call_next : (w : Wording State Op Query Reply) (thread k : ℕ) (c : Call State Op Query Reply) (end : CallEnd State Op Query Reply) (lines more : List (List (List ℕ))) → NoCallNext thread more
      → call_line w thread k c end ∷ lines ≡ more → ⊥
  no_call_next w thread k c end lines [] h e = line_none (call_line w thread k c end) lines e
  no_call_next w thread k c end lines (ws ∷ more) h e =
      h (decimal k ∷ (call_words w c ++ codes "->" ∷ end_words w end)) (sym (line_same (call_line w thread k c end) ws lines more e).0)

  pub calls_determined : (w : Wording State Op Query Reply) (thread k : ℕ) (script : List (Call State Op Query Reply)) (ends others : List (CallEnd State Op Query Reply)) (lines more : List (List (List ℕ)))
      → length ends ≤ length script → length others ≤ length script → All (EndReads w) ends → All (EndReads w) others → NoCallNext thread lines → NoCallNext thread more
      → call_lines w thread k script ends ++ lines ≡ call_lines w thread k script others ++ more → (ends ≡ others) × (lines ≡ more)
  calls_determined w thread k script [] [] lines more few least g h u v e = (refl, e)
  calls_determined w thread k [] [] (f ∷ others) lines more few least g h u v e = absurd (omega arith)
  calls_determined w thread k [] (x ∷ ends) others lines more few least g h u v e = absurd (omega arith)
  calls_determined w thread k (c ∷ script) [] (f ∷ others) lines more few least g h u v e =
      absurd (no_call_next w thread (k + 1) c f (call_lines w thread (k + 1) script others ++ more) lines u (sym e))
  calls_determined w thread k (c ∷ script) (x ∷ ends) [] lines more few least g h u v e =
      absurd (no_call_next w thread (k + 1) c x (call_lines w thread (k + 1) script ends ++ lines) more v e)
  calls_determined w thread k (c ∷ script) (x ∷ ends) (f ∷ others) lines more few least g h u v e =
      let parts = line_same (call_line w thread (k + 1) c x) (call_line w thread (k + 1) c f) (call_lines w thread (k + 1) script ends ++ lines) (call_lines w thread (k + 1) script others ++ more) e in
      let rest = calls_determined w thread (k + 1) script ends others lines more (omega arith) (omega arith) (All-tail (EndReads w) x ends g) (All-tail (EndReads w) f others h) u v parts.1 in
      (ap (λ (y : CallEnd State Op Query Reply). y ∷ ends) (call_determined w thread (k + 1) c x f (All-head (EndReads w) x ends g) (All-head (EndReads w) f others h) parts.0) ∙ ap (λ ys. f ∷ ys) rest.0, rest.1)

  -- ---- the trace
  row_determined : (b : Behaviour State Op Query Reply) (w : Wording State Op Query Reply) (node other : Node) (g : NodeReads b w node) (h : NodeReads b w other)
      → row_words w (b.op_at node.row) ≡ row_words w (b.op_at other.row) → node.row ≡ other.row
  row_determined b w node other g h e =
      let words : w.op_words g.op ≡ w.op_words h.op = sym (ap (row_words w) g.row) ∙ e ∙ ap (row_words w) h.row in
      let same : g.op ≡ h.op = same_update g.op h.op (w.call_of (w.op_words g.op)) g.reads (ap w.call_of words ∙ h.reads) in
      sym (b.row_of_its_op node.row g.op g.row) ∙ ap b.row_of same ∙ b.row_of_its_op other.row h.op h.row
    where
      same_update : (x y : Op) (v : Result (Call State Op Query Reply) Reason) → v ≡ Ok (Update x) → v ≡ Ok (Update y) → x ≡ y
      same_update x y v g h = cc

  -- a node by the words of its parts
  node_determined : (b : Behaviour State Op Query Reply) (w : Wording State Op Query Reply) (node other : Node) → NodeReads b w node → NodeReads b w other
      → decimal node.thread ≡ decimal other.thread → decimal node.number ≡ decimal other.number → row_words w (b.op_at node.row) ≡ row_words w (b.op_at other.row) → node ≡ other
  node_determined b w node other g h e₁ e₂ e₃ =
      node_same node other (decimal_injective node.thread other.thread g.thread h.thread e₁) (decimal_injective node.number other.number g.number h.number e₂) (row_determined b w node other g h e₃)

  node_line_determined : (b : Behaviour State Op Query Reply) (w : Wording State Op Query Reply) (p : ℕ) (node other : Node) → NodeReads b w node → NodeReads b w other
      → node_line b w p node None ≡ node_line b w p other None → node ≡ other
  node_line_determined b w p node other g h e =
      let rows : List (List ℕ) = row_words w (b.op_at node.row) in
      let others : List (List ℕ) = row_words w (b.op_at other.row) in
      let threads = line_same (decimal node.thread) (decimal other.thread) (decimal node.number ∷ rows) (decimal other.number ∷ others) (ap (drop 2) e) in
      let numbers = line_same (decimal node.number) (decimal other.number) rows others threads.1 in
      node_determined b w node other g h threads.0 numbers.0 numbers.1

  -- the same with a flag
  pub flagged_line_determined : (b : Behaviour State Op Query Reply) (w : Wording State Op Query Reply) (p : ℕ) (node other : Node) (flag mark : Bool) → NodeReads b w node → NodeReads b w other
      → node_line b w p node (Some flag) ≡ node_line b w p other (Some mark) → (node ≡ other) × (flag ≡ mark)
  flagged_line_determined b w p node other flag mark g h e =
      let rows : List (List ℕ) = flag_words (Some flag) ++ row_words w (b.op_at node.row) in
      let others : List (List ℕ) = flag_words (Some mark) ++ row_words w (b.op_at other.row) in
      let threads = line_same (decimal node.thread) (decimal other.thread) (decimal node.number ∷ rows) (decimal other.number ∷ others) (ap (drop 2) e) in
      let numbers = line_same (decimal node.number) (decimal other.number) rows others threads.1 in
      let flags = flag_determined flag mark (row_words w (b.op_at node.row)) (row_words w (b.op_at other.row)) numbers.1 in
      (node_determined b w node other g h threads.0 numbers.0 flags.1, flags.0)

  -- lines that a node's line begins are not those of which none is next
  pub no_node_next : (b : Behaviour State Op Query Reply) (w : Wording State Op Query Reply) (p : ℕ) (node : Node) (flag : Option Bool) (lines more : List (List (List ℕ))) → NoNodeNext more
      → node_line b w p node flag ∷ lines ≡ more → ⊥
  no_node_next b w p node flag lines [] h e = line_none (node_line b w p node flag) lines e
  no_node_next b w p node flag lines (ws ∷ more) h e =
      h (decimal p ∷ decimal node.thread ∷ decimal node.number ∷ (flag_words flag ++ row_words w (b.op_at node.row)))
      (sym (line_same (node_line b w p node flag) ws lines more e).0)

  pub nodes_determined : (b : Behaviour State Op Query Reply) (w : Wording State Op Query Reply) (p : ℕ) (nodes others : List Node) (lines more : List (List (List ℕ)))
      → All (NodeReads b w) nodes → All (NodeReads b w) others → NoNodeNext lines → NoNodeNext more
      → node_lines b w p nodes ++ lines ≡ node_lines b w p others ++ more → (nodes ≡ others) × (lines ≡ more)
  nodes_determined b w p [] [] lines more g h u v e = (refl, e)
  nodes_determined b w p [] (m ∷ others) lines more g h u v e = absurd (no_node_next b w (p + 1) m None (node_lines b w (p + 1) others ++ more) lines u (sym e))
  nodes_determined b w p (n ∷ nodes) [] lines more g h u v e = absurd (no_node_next b w (p + 1) n None (node_lines b w (p + 1) nodes ++ lines) more v e)
  nodes_determined b w p (n ∷ nodes) (m ∷ others) lines more g h u v e =
      let parts = line_same (node_line b w (p + 1) n None) (node_line b w (p + 1) m None) (node_lines b w (p + 1) nodes ++ lines) (node_lines b w (p + 1) others ++ more) e in
      let rest = nodes_determined b w (p + 1) nodes others lines more (All-tail (NodeReads b w) n nodes g) (All-tail (NodeReads b w) m others h) u v parts.1 in
      (ap (λ (x : Node). x ∷ nodes) (node_line_determined b w (p + 1) n m (All-head (NodeReads b w) n nodes g) (All-head (NodeReads b w) m others h) parts.0) ∙ ap (λ (xs : List Node). m ∷ xs) rest.0, rest.1)

  -- ---- the state
  pub state_determined : (w : Wording State Op Query Reply) (state other : State) → StateReads w state → StateReads w other → state_lines w state ≡ state_lines w other → state ≡ other
  state_determined w state other g h e = same_Some state other (sym g ∙ ap (λ ls. w.state_of (flat_map line_text (drop 1 ls))) e ∙ h)

  -- ---- all are lines of words
  pub calls_meaningful : (w : Wording State Op Query Reply) (thread k : ℕ) (script : List (Call State Op Query Reply)) (ends : List (CallEnd State Op Query Reply)) → AreMeaningful (call_lines w thread k script ends)
  calls_meaningful w thread k script [] = tt
  calls_meaningful w thread k [] (x ∷ ends) = tt
  calls_meaningful w thread k (c ∷ script) (x ∷ ends) = (call_line_in_words w thread (k + 1) c x, refl, calls_meaningful w thread (k + 1) script ends)

  pub nodes_meaningful : (b : Behaviour State Op Query Reply) (w : Wording State Op Query Reply) (p : ℕ) (nodes : List Node) → AreMeaningful (node_lines b w p nodes)
  nodes_meaningful b w p [] = tt
  nodes_meaningful b w p (n ∷ nodes) = (node_line_in_words b w (p + 1) n None, refl, nodes_meaningful b w (p + 1) nodes)

  pub state_meaningful : (w : Wording State Op Query Reply) (state : State) → AreMeaningful (state_lines w state)
  state_meaningful w state = ((record { some = refl; bytes = refl }, tt), refl, w.state_in_lines state)

  -- ---- the report of one thread
  said_meaningful : (b : Behaviour State Op Query Reply) (w : Wording State Op Query Reply) (script : List (Call State Op Query Reply)) (said : FoldData State Op Query Reply) → AreMeaningful (fold_data_lines b w script said)
  said_meaningful b w script said =
      AreMeaningful-append (call_lines w 0 0 script said.ends) (trace_line (length said.nodes) ∷ (node_lines b w 0 said.nodes ++ state_lines w said.state))
      (calls_meaningful w 0 0 script said.ends) (
        (record { some = refl; bytes = refl }, (IsWord-decimal (length said.nodes), tt)),
        refl,
        AreMeaningful-append (node_lines b w 0 said.nodes) (state_lines w said.state) (nodes_meaningful b w 0 said.nodes) (state_meaningful w said.state),
      )

  said_same : (a b : FoldData State Op Query Reply) → a.ends ≡ b.ends → a.nodes ≡ b.nodes → a.state ≡ b.state → a ≡ b
  said_same a b e₁ e₂ e₃ =
      ap (λ (v : List (CallEnd State Op Query Reply)). record { ends = v; nodes = a.nodes; state = a.state }) e₁
      ∙ ap (λ (v : List Node). record { ends = b.ends; nodes = v; state = a.state }) e₂ ∙ ap (λ (v : State). record { ends = b.ends; nodes = b.nodes; state = v }) e₃

  pub fold_determined : (b : Behaviour State Op Query Reply) (w : Wording State Op Query Reply) → FoldDeterminedLaw b w
  fold_determined b w script said other g h e =
      let left : List (List (List ℕ)) = node_lines b w 0 said.nodes ++ state_lines w said.state in
      let right : List (List (List ℕ)) = node_lines b w 0 other.nodes ++ state_lines w other.state in
      let lines = text_determined (fold_data_lines b w script said) (fold_data_lines b w script other) (said_meaningful b w script said) (said_meaningful b w script other) e in
      let calls = calls_determined w 0 0 script said.ends other.ends (trace_line (length said.nodes) ∷ left) (trace_line (length other.nodes) ∷ right)
      g.ends.few h.ends.few g.ends.reads h.ends.reads (λ rest d. cc d) (λ rest d. cc d) lines in
      let trace = line_same (trace_line (length said.nodes)) (trace_line (length other.nodes)) left right calls.1 in
      let nodes = nodes_determined b w 0 said.nodes other.nodes (state_lines w said.state) (state_lines w other.state) g.nodes h.nodes (λ rest d. cc d) (λ rest d. cc d) trace.1 in
      said_same said other calls.0 nodes.0 (state_determined w said.state other.state g.state h.state nodes.1)

-- what reads back where it is printed is all that its bytes say
pub says_only : {Said : Type 0} (lines : Said → List (List (List ℕ))) (Reads : Said → Type 0)
    → ((said other : Said) → Reads said → Reads other → flat_map line_text (lines said) ≡ flat_map line_text (lines other) → said ≡ other)
    → (bytes : List ℕ) (said : Said) → bytes ≡ flat_map line_text (lines said) → Reads said → SaysOnly lines Reads bytes said
says_only lines Reads determined bytes said e h = record { printed = e; reads = h; only = λ other k f. determined said other h k (sym e ∙ f) }
