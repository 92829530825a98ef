use Rattle.std.proofs.Common.{ℕ, suc, List, [], ◌∷◌, ◌++◌, ◌≡◌, ◌+◌, length, refl, sym, ap, ◌∙◌, arith, append_assoc, length-append, IsSome, ◌≤◌, subst}
use Rattle.std.proofs.lemmas.List.{append-nil}
use Rattle.std.specs.List.{AllByRecursion}
use Rattle.onll_words.specs.Texts.{line_text}
use Rattle.onll_model.specs.declared.node.Node.{Node}
use Rattle.onll_model.specs.declared.call.Call.{Call}
use Rattle.onll_model.specs.declared.call.Call.TheVariants.{Update, Ask}
use Rattle.onll_model.specs.declared.call.CallEnd.{CallEnd}
use Rattle.onll_model.specs.declared.call.CallEnd.TheVariants.{Answered}
use Rattle.onll_model.specs.Object.{Behaviour}
use Rattle.onll_model.specs.Fold.{fold_trace, fold_ends, fold_state}
use Rattle.onll_text.specs.Wording.{Wording}
use Rattle.onll_text.specs.Bytes.{with_lines}
use Rattle.onll_text.specs.Lines.{call_line, call_lines}
use Rattle.onll_text.proofs.Appending.{with_lines-one}

-- where one call of a script has been done, what is left makes what the script makes
pub record Advances {State Op Query Reply : Type 0} (b : Behaviour State Op Query Reply) (w : Wording State Op Query Reply) (s new : State) (trace more : List Node) (out text : List ℕ) (k : ℕ) (c : Call State Op Query Reply) (calls : List (Call State Op Query Reply)) (end : CallEnd State Op Query Reply) : Type 0 where
  pub state : fold_state b new calls ≡ fold_state b s (c ∷ calls)
  pub nodes : more ++ fold_trace b (length more) calls ≡ trace ++ fold_trace b (length trace) (c ∷ calls)
  pub lines : with_lines text (call_lines w 0 (k + 1) calls (fold_ends b new (length more) calls)) ≡ with_lines out (call_lines w 0 k (c ∷ calls) (fold_ends b s (length trace) (c ∷ calls)))
  pub ends : fold_ends b s (length trace) (c ∷ calls) ≡ end ∷ fold_ends b new (length more) calls
  pub count : length more ≤ length trace + 1

done_from : {State Op Query Reply : Type 0} (b : Behaviour State Op Query Reply) (w : Wording State Op Query Reply) (s new : State) (trace more : List Node) (out text : List ℕ) (k : ℕ) (c : Call State Op Query Reply) (calls : List (Call State Op Query Reply)) (end : CallEnd State Op Query Reply)
    → new ≡ fold_state b s (c ∷ []) → more ≡ trace ++ fold_trace b (length trace) (c ∷ []) → end ∷ [] ≡ fold_ends b s (length trace) (c ∷ [])
    → text ≡ out ++ line_text (call_line w 0 (k + 1) c end)
    → Advances b w s new trace more out text k c calls end
done_from b w s new trace more out text k (Update op) calls end hs ht he hl =
    let x : Node = record { thread = 0; number = length trace + 1; row = b.row_of op } in
    let n : length more ≡ length trace + 1 = omega (arith, ap length ht, length-append trace (x ∷ [])) in
    let e : end ≡ Answered (b.reply s op) (length trace + 1) = cc in
    let rest = call_lines w 0 (k + 1) calls (fold_ends b (b.next s op) (length trace + 1) calls) in
    record {
      state = ap (λ t. fold_state b t calls) hs;
      nodes = ap (λ m. more ++ fold_trace b m calls) n ∙ ap (λ m. m ++ fold_trace b (length trace + 1) calls) ht ∙ append_assoc trace (x ∷ []) (fold_trace b (length trace + 1) calls);
      lines =
          ap (λ t. with_lines text (call_lines w 0 (k + 1) calls (fold_ends b t (length more) calls))) hs
          ∙ ap (λ m. with_lines text (call_lines w 0 (k + 1) calls (fold_ends b (b.next s op) m calls))) n
          ∙ ap (λ t. with_lines t rest) (hl ∙ ap (λ f. out ++ line_text (call_line w 0 (k + 1) (Update op) f)) e)
          ∙ sym (with_lines-one out (call_line w 0 (k + 1) (Update op) (Answered (b.reply s op) (length trace + 1))) rest);
      ends =
          ap (λ f. f ∷ fold_ends b (b.next s op) (length trace + 1) calls) (sym e) ∙ ap (λ m. end ∷ fold_ends b (b.next s op) m calls) (sym n)
          ∙ ap (λ t. end ∷ fold_ends b t (length more) calls) (sym hs);
      count = omega (arith, n);
    }
done_from b w s new trace more out text k (Ask query) calls end hs ht he hl =
    let same : more ≡ trace = ht ∙ append-nil trace in
    let n : length more ≡ length trace = ap length same in
    let e : end ≡ Answered (b.answer s query) (length trace) = cc in
    let rest = call_lines w 0 (k + 1) calls (fold_ends b s (length trace) calls) in
    record {
      state = ap (λ t. fold_state b t calls) hs;
      nodes = ap (λ m. m ++ fold_trace b (length m) calls) same;
      lines =
          ap (λ t. with_lines text (call_lines w 0 (k + 1) calls (fold_ends b t (length more) calls))) hs
          ∙ ap (λ m. with_lines text (call_lines w 0 (k + 1) calls (fold_ends b s m calls))) n
          ∙ ap (λ t. with_lines t rest) (hl ∙ ap (λ f. out ++ line_text (call_line w 0 (k + 1) (Ask query) f)) e)
          ∙ sym (with_lines-one out (call_line w 0 (k + 1) (Ask query) (Answered (b.answer s query) (length trace))) rest);
      ends =
          ap (λ f. f ∷ fold_ends b s (length trace) calls) (sym e) ∙ ap (λ m. end ∷ fold_ends b s m calls) (sym n)
          ∙ ap (λ t. end ∷ fold_ends b t (length more) calls) (sym hs);
      count = omega (arith, n);
    }

-- one call done after n updates
pub call_done : {State Op Query Reply : Type 0} (b : Behaviour State Op Query Reply) (w : Wording State Op Query Reply) (s new : State) (trace more : List Node) (out text : List ℕ) (k n : ℕ) (c : Call State Op Query Reply) (calls : List (Call State Op Query Reply)) (end : CallEnd State Op Query Reply)
    → n ≡ length trace → new ≡ fold_state b s (c ∷ []) → more ≡ trace ++ fold_trace b n (c ∷ []) → end ∷ [] ≡ fold_ends b s n (c ∷ [])
    → text ≡ out ++ line_text (call_line w 0 (k + 1) c end)
    → Advances b w s new trace more out text k c calls end
call_done b w s new trace more out text k n c calls end hn hs ht he hl =
    done_from b w s new trace more out text k c calls end hs (ht ∙ ap (λ m. trace ++ fold_trace b m (c ∷ [])) hn) (he ∙ ap (λ m. fold_ends b s m (c ∷ [])) hn) hl

-- each row of the trace of a fold is that of an operation
pub fold_operations : {State Op Query Reply : Type 0} (b : Behaviour State Op Query Reply) (n : ℕ) (calls : List (Call State Op Query Reply)) → AllByRecursion (λ (x : Node). IsSome (b.op_at x.row)) (fold_trace b n calls)
fold_operations b n [] = tt
fold_operations b n (Update op ∷ calls) = (subst IsSome (sym (b.op_of_its_row op)) refl, fold_operations b (n + 1) calls)
fold_operations b n (Ask query ∷ calls) = fold_operations b n calls

-- each call of a fold has an outcome
pub length-fold_ends : {State Op Query Reply : Type 0} (b : Behaviour State Op Query Reply) (s : State) (n : ℕ) (calls : List (Call State Op Query Reply)) → length (fold_ends b s n calls) ≡ length calls
length-fold_ends b s n [] = refl
length-fold_ends b s n (Update op ∷ calls) = ap suc (length-fold_ends b (b.next s op) (n + 1) calls)
length-fold_ends b s n (Ask query ∷ calls) = ap suc (length-fold_ends b s n calls)
