-- The lines of a report, as they are appended one after the other.

use Rattle.std.proofs.Common.{ℕ, suc, true, List, [], ◌∷◌, ◌++◌, ◌≡◌, ◌+◌, length, refl, sym, ap, ◌∙◌, arith, None, ◌<◌, drop, get_or, zero, Some}
use Rattle.std.proofs.lemmas.List.{append-nil, drop_more}
use Rattle.std.specs.List.{slice_get}
use Rattle.onll_words.specs.Texts.{line_text}
use Rattle.onll_model.specs.declared.node.Node.{Node}
use Rattle.onll_model.specs.declared.call.Call.{Call}
use Rattle.onll_model.specs.declared.call.CallEnd.{CallEnd}
use Rattle.onll_model.specs.Object.{Behaviour}
use Rattle.onll_text.specs.Wording.{Wording}
use Rattle.onll_text.specs.Bytes.{begins_line, with_lines}
use Rattle.onll_text.specs.Lines.{call_line, call_lines, node_line, node_lines}
use Rattle.onll_text.proofs.Appending.{begins_line-line, with_lines-one}

-- a line begins after a line's text
pub begins_after : (out text : List ℕ) (ws : List (List ℕ)) → text ≡ out ++ line_text ws → begins_line text ≡ true
begins_after out text ws e = ap begins_line e ∙ begins_line-line out ws

-- one node's line before those of the rest
pub node_lines_more : {State Op Query Reply : Type 0} (b : Behaviour State Op Query Reply) (w : Wording State Op Query Reply) (out text : List ℕ) (place i : ℕ) (nodes : List Node) (d : Node)
    → i < length nodes → text ≡ out ++ line_text (node_line b w (place + 1) (get_or nodes i d) None)
    → with_lines text (node_lines b w (place + 1) (drop (i + 1) nodes)) ≡ with_lines out (node_lines b w place (drop i nodes))
node_lines_more b w out text place i nodes d h e =
    ap (λ t. with_lines t (node_lines b w (place + 1) (drop (i + 1) nodes))) e
    ∙ sym (with_lines-one out (node_line b w (place + 1) (get_or nodes i d) None) (node_lines b w (place + 1) (drop (i + 1) nodes)))
    ∙ sym (ap (λ t. with_lines out (node_lines b w place t)) (drop_more nodes i d h))

-- ---- the calls of a thread
module _ {State Op Query Reply : Type 0} where
  drop_at : (ends : List (CallEnd State Op Query Reply)) (i : ℕ) (end : CallEnd State Op Query Reply) → slice_get ends i ≡ Some end → drop i ends ≡ end ∷ drop (suc i) ends
  drop_at [] i end e = absurd (cc)
  drop_at (x ∷ ends) zero end e = ap (λ (y : CallEnd State Op Query Reply). y ∷ ends) (same e)
    where
      same : {a b : CallEnd State Op Query Reply} → Some a ≡ Some b → a ≡ b
      same p = (cc)
  drop_at (x ∷ ends) (suc i) end e = drop_at ends i end e

  no_calls : (w : Wording State Op Query Reply) (thread k : ℕ) (ends : List (CallEnd State Op Query Reply)) → call_lines w thread k [] ends ≡ []
  no_calls w thread k [] = refl
  no_calls w thread k (end ∷ ends) = refl

  -- one call's line before those of the rest
  pub call_more : (w : Wording State Op Query Reply) (out text : List ℕ) (thread i : ℕ) (calls : List (Call State Op Query Reply)) (ends : List (CallEnd State Op Query Reply)) (call : Call State Op Query Reply) (end : CallEnd State Op Query Reply)
      → i < length calls → call ≡ get_or calls i call → slice_get ends i ≡ Some end → text ≡ out ++ line_text (call_line w thread (i + 1) call end)
      → with_lines text (call_lines w thread (i + 1) (drop (i + 1) calls) (drop (i + 1) ends)) ≡ with_lines out (call_lines w thread i (drop i calls) (drop i ends))
  call_more w out text thread i calls ends call end h same at e =
      let s : i + 1 ≡ suc i = omega arith in
      let rest = call_lines w thread (i + 1) (drop (i + 1) calls) (drop (i + 1) ends) in
      ap (λ t. with_lines t rest) e
      ∙ sym (with_lines-one out (call_line w thread (i + 1) call end) rest)
      ∙ ap (λ (x : Call State Op Query Reply). with_lines out (call_lines w thread i (x ∷ drop (i + 1) calls) (end ∷ drop (i + 1) ends))) same
      ∙ sym (ap (λ (l : List (Call State Op Query Reply)). with_lines out (call_lines w thread i l (end ∷ drop (i + 1) ends))) (drop_more calls i call h))
      ∙ ap (λ j. with_lines out (call_lines w thread i (drop i calls) (end ∷ drop j ends))) s
      ∙ sym (ap (λ (l : List (CallEnd State Op Query Reply)). with_lines out (call_lines w thread i (drop i calls) l)) (drop_at ends i end at))

  -- the script is at its end
  pub script_done : (w : Wording State Op Query Reply) (out : List ℕ) (thread i : ℕ) (calls : List (Call State Op Query Reply)) (ends : List (CallEnd State Op Query Reply)) → drop i calls ≡ []
      → out ≡ with_lines out (call_lines w thread i (drop i calls) ends)
  script_done w out thread i calls ends e =
      sym (append-nil out) ∙ sym (ap (with_lines out) (no_calls w thread i ends)) ∙ sym (ap (λ (l : List (Call State Op Query Reply)). with_lines out (call_lines w thread i l ends)) e)
