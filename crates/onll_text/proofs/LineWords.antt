use Rattle.std.proofs.Common.{ℕ, Bool, true, false, List, [], ◌∷◌, ◌++◌, ◌≡◌, Option, Some, None, codes, decimal, refl, sym, ap, ◌∙◌, ◌≤◌, length, map}
use Rattle.std.proofs.lemmas.List.{append-nil}
use Rattle.onll_words.specs.Texts.{line_text, AreWords}
use Rattle.onll_words.proofs.Decimals.{IsWord-decimal}
use Rattle.onll_model.specs.declared.node.Node.{Node}
use Rattle.onll_model.specs.declared.call.Call.{Call}
use Rattle.onll_model.specs.declared.call.Call.TheVariants.{Update, Ask}
use Rattle.onll_model.specs.declared.call.CallEnd.{CallEnd}
use Rattle.onll_model.specs.declared.call.CallEnd.TheVariants.{Answered, Running, Ordered, FenceFailed, Broken}
use Rattle.onll_model.specs.Object.{Behaviour}
use Rattle.onll_text.specs.Bytes.{begins_line, with_word, with_words, with_lines}
use Rattle.onll_text.specs.Pieces.{piece_word}
use Rattle.onll_text.specs.Wording.{Wording}
use Rattle.onll_text.specs.declared.report.Piece.{Piece}
use Rattle.onll_text.specs.Lines.{at_words, call_words, end_words, call_line, flag_words, row_words, node_line, fence_words, log_line}
use Rattle.onll_text.proofs.Appending.{with_words-append, with_words-line, begins_line-line}

pub AreWords-append : (vs ws : List (List ℕ)) → AreWords vs → AreWords ws → AreWords (vs ++ ws)
AreWords-append [] ws h k = k
AreWords-append (v ∷ vs) ws h k = (h.0, AreWords-append vs ws h.1 k)

at_in_words : (place : ℕ) → AreWords (at_words place)
at_in_words place = (record { some = refl; bytes = refl }, (IsWord-decimal place, tt))

call_in_words : {State Op Query Reply : Type 0} (w : Wording State Op Query Reply) (call : Call State Op Query Reply) → AreWords (call_words w call)
call_in_words w (Update op) = w.op_in_words op
call_in_words w (Ask query) = w.query_in_words query

end_in_words : {State Op Query Reply : Type 0} (w : Wording State Op Query Reply) (end : CallEnd State Op Query Reply) → AreWords (end_words w end)
end_in_words w (Answered reply place) = AreWords-append (w.reply_words reply) (at_words place) (w.reply_in_words reply) (at_in_words place)
end_in_words w Running = (record { some = refl; bytes = refl }, tt)
end_in_words w (Ordered place) = (record { some = refl; bytes = refl }, at_in_words place)
end_in_words w (FenceFailed place) = (record { some = refl; bytes = refl }, (record { some = refl; bytes = refl }, at_in_words place))
end_in_words w (Broken place) = (record { some = refl; bytes = refl }, at_in_words place)

pub call_line_in_words : {State Op Query Reply : Type 0} (w : Wording State Op Query Reply) (thread number : ℕ) (call : Call State Op Query Reply) (end : CallEnd State Op Query Reply) → AreWords (call_line w thread number call end)
call_line_in_words w thread number call end = (
  record { some = refl; bytes = refl },
  (
    IsWord-decimal thread,
    (
      IsWord-decimal number,
      AreWords-append (call_words w call) (codes "->" ∷ end_words w end) (call_in_words w call) (record { some = refl; bytes = refl }, end_in_words w end),
    ),
  ),
)

flag_in_words : (flag : Option Bool) → AreWords (flag_words flag)
flag_in_words None = tt
flag_in_words (Some true) = (record { some = refl; bytes = refl }, tt)
flag_in_words (Some false) = (record { some = refl; bytes = refl }, tt)

row_in_words : {State Op Query Reply : Type 0} (w : Wording State Op Query Reply) (op : Option Op) → AreWords (row_words w op)
row_in_words w None = tt
row_in_words w (Some op) = w.op_in_words op

pub node_line_in_words : {State Op Query Reply : Type 0} (b : Behaviour State Op Query Reply) (w : Wording State Op Query Reply) (place : ℕ) (node : Node) (flag : Option Bool) → AreWords (node_line b w place node flag)
node_line_in_words b w place node flag = (
  record { some = refl; bytes = refl },
  (
    IsWord-decimal place,
    (
      IsWord-decimal node.thread,
      (
        IsWord-decimal node.number,
        AreWords-append (flag_words flag) (row_words w (b.op_at node.row)) (flag_in_words flag) (row_in_words w (b.op_at node.row)),
      ),
    ),
  ),
)

-- the bytes after the parts of a call's line, one after another
pub call_line_parts : {State Op Query Reply : Type 0} (w : Wording State Op Query Reply) (thread number : ℕ) (call : Call State Op Query Reply) (end : CallEnd State Op Query Reply) (old began called pointed ended new : List ℕ)
    → begins_line old ≡ true → began ≡ with_words old (codes "call" ∷ decimal thread ∷ decimal number ∷ []) → called ≡ with_words began (call_words w call)
    → pointed ≡ with_word called (codes "->") → ended ≡ with_words pointed (end_words w end) → new ≡ ended ++ 10 ∷ []
    → new ≡ old ++ line_text (call_line w thread number call end)
call_line_parts w thread number call end old began called pointed ended new h e₁ e₂ e₃ e₄ e₅ =
    e₅ ∙ ap (λ t. t ++ 10 ∷ []) (e₄ ∙ ap (λ t. with_words t (end_words w end)) (e₃ ∙ ap (λ t. with_word t (codes "->")) (e₂ ∙ ap (λ t. with_words t (call_words w call)) e₁))
    ∙ sym (with_words-append (with_words old (codes "call" ∷ decimal thread ∷ decimal number ∷ [])) (call_words w call) (codes "->" ∷ end_words w end)))
    ∙ with_words-line old (codes "call") (decimal thread ∷ decimal number ∷ (call_words w call ++ codes "->" ∷ end_words w end)) h (call_line_in_words w thread number call end)

-- the same of a node's line
pub node_line_parts : {State Op Query Reply : Type 0} (b : Behaviour State Op Query Reply) (w : Wording State Op Query Reply) (place : ℕ) (node : Node) (flag : Option Bool) (op : Op) (old began flagged done new : List ℕ)
    → begins_line old ≡ true → b.op_at node.row ≡ Some op → began ≡ with_words old (codes "node" ∷ decimal place ∷ decimal node.thread ∷ decimal node.number ∷ [])
    → flagged ≡ with_words began (flag_words flag) → done ≡ with_words flagged (w.op_words op) → new ≡ done ++ 10 ∷ []
    → new ≡ old ++ line_text (node_line b w place node flag)
node_line_parts b w place node flag op old began flagged done new h known e₁ e₂ e₃ e₄ =
    e₄ ∙ ap (λ t. t ++ 10 ∷ []) (e₃ ∙ ap (λ o. with_words flagged (row_words w o)) (sym known) ∙ ap (λ t. with_words t (row_words w (b.op_at node.row))) (e₂ ∙ ap (λ t. with_words t (flag_words flag)) e₁)
    ∙ sym (with_words-append (with_words old (codes "node" ∷ decimal place ∷ decimal node.thread ∷ decimal node.number ∷ [])) (flag_words flag) (row_words w (b.op_at node.row))))
    ∙ with_words-line old (codes "node") (decimal place ∷ decimal node.thread ∷ decimal node.number ∷ (flag_words flag ++ row_words w (b.op_at node.row))) h (node_line_in_words b w place node flag)

fence_in_words : (fences : Option ℕ) → AreWords (fence_words fences)
fence_in_words None = tt
fence_in_words (Some n) = (record { some = refl; bytes = refl }, (IsWord-decimal n, tt))

pub log_line_in_words : (thread entries lines : ℕ) (fences : Option ℕ) → AreWords (log_line thread entries lines fences)
log_line_in_words thread entries lines fences =
    (record { some = refl; bytes = refl }, (IsWord-decimal thread, (record { some = refl; bytes = refl }, (IsWord-decimal entries, (record { some = refl; bytes = refl }, (IsWord-decimal lines, fence_in_words fences))))))

-- the same of a log's line
pub log_line_parts : (thread entries lines : ℕ) (fences : Option ℕ) (old began counted new : List ℕ)
    → begins_line old ≡ true → began ≡ with_words old (codes "log" ∷ decimal thread ∷ codes "entries" ∷ decimal entries ∷ codes "lines" ∷ decimal lines ∷ [])
    → counted ≡ with_words began (fence_words fences) → new ≡ counted ++ 10 ∷ []
    → new ≡ old ++ line_text (log_line thread entries lines fences)
log_line_parts thread entries lines fences old began counted new h e₁ e₂ e₃ =
    e₃ ∙ ap (λ t. t ++ 10 ∷ []) (e₂ ∙ ap (λ t. with_words t (fence_words fences)) e₁)
    ∙ with_words-line old (codes "log") (decimal thread ∷ codes "entries" ∷ decimal entries ∷ codes "lines" ∷ decimal lines ∷ fence_words fences) h (log_line_in_words thread entries lines fences)

-- a line whose words were put, and then its end
pub whole_line : (old began new w : List ℕ) (ws : List (List ℕ)) → began ≡ with_words old (w ∷ ws) → new ≡ began ++ 10 ∷ [] → begins_line old ≡ true → AreWords (w ∷ ws)
    → (new ≡ old ++ line_text (w ∷ ws)) × (begins_line new ≡ true)
whole_line old began new w ws e₁ e₂ h k =
    let line = e₂ ∙ ap (λ t. t ++ 10 ∷ []) e₁ ∙ with_words-line old w ws h k in
    (line, ap begins_line line ∙ begins_line-line old (w ∷ ws))

-- the same of any words, where there is one
pub line_of_pieces : (old began new : List ℕ) (pieces : List Piece) → began ≡ with_words old (map piece_word pieces) → new ≡ began ++ 10 ∷ []
    → begins_line old ≡ true → 1 ≤ length pieces → AreWords (map piece_word pieces) → new ≡ old ++ line_text (map piece_word pieces)
line_of_pieces old began new [] e₁ e₂ h n k = cc
line_of_pieces old began new (p ∷ ps) e₁ e₂ h n k = (whole_line old began new (piece_word p) (map piece_word ps) e₁ e₂ h k).0

-- no line, and one line
pub no_lines : (bytes : List ℕ) → bytes ≡ with_lines bytes []
no_lines bytes = sym (append-nil bytes)

pub one_line : (bytes : List ℕ) (ws : List (List ℕ)) → bytes ++ line_text ws ≡ with_lines bytes (ws ∷ [])
one_line bytes ws = ap (λ t. bytes ++ t) (sym (append-nil (line_text ws)))

pub ruleset appending = with_words-append
