-- The lines of calls and of nodes read back.
use Rattle.std.proofs.Common.{ℕ, Bool, true, false, List, [], ◌∷◌, ◌++◌, ◌≡◌, ◌≢◌, ◌<◌, ◌^◌, length, take, drop, codes, decimal, nat_eq, is_some, Option, Some, None, MatchOption, IfSome, append_assoc, refl, ap, sym, ◌∙◌, arith, length-append}
use Rattle.std.specs.List.{starts_with}
use Rattle.std.proofs.Math.Seq.{take-append_seam, drop-append_seam, drop-append-add}
use Rattle.std.proofs.lemmas.Slice.Eq.{bytes_eq-Decides}
use Rattle.std.proofs.lemmas.Fmt.{decimal_injective}
use Rattle.onll_words.specs.Texts.{joined}
use Rattle.onll_words.proofs.Decimals.{IsWord-decimal}
use Rattle.onll_words.proofs.Joined.{words_of-joined}
use Rattle.onll_model.specs.declared.node.Node.{Node}
use Rattle.onll_model.specs.declared.call.Call.{Call}
use Rattle.onll_model.specs.declared.call.Call.TheVariants.{Update}
use Rattle.onll_model.specs.declared.call.CallEnd.{CallEnd}
use Rattle.onll_model.specs.Object.{Behaviour}
use Rattle.onll_text.specs.Wording.{Wording}
use Rattle.onll_text.specs.Lines.{call_words, end_words, call_line, trace_line, flag_words, row_words, node_line}
use Rattle.onll_text.specs.Reports.{CallReads, NodeReads}
use Rattle.onll_audit.specs.declared.said.Said.{Said}
use Rattle.onll_audit.specs.Fields.{some_if}
use Rattle.onll_audit.specs.Form.{said_of, is_printed, is_call, is_arrow, some_arrow, after_number, is_call_line, op_printed, op_said, past_flag, node_front, node_said}
use Rattle.onll_audit.specs.Values.{as_end}
use Rattle.onll_audit.specs.Verdict.{call_front, end_after, end_of_call}
use Rattle.onll_audit.specs.declared.groups.EndText.{EndText}
use Rattle.onll_audit.proofs.Reading.{joined-append, line_parts, end_after_is}
use Rattle.onll_audit.proofs.Printing.{has_arrow_at, call_in_words}
use Rattle.onll_audit.proofs.Threads.{and_true}
use Rattle.onll_audit.proofs.Fronts.{read_on, read_none, field_reads, word_reads, word_differs, number_reads, own_number}
use Rattle.onll_audit.proofs.EndTexts.{some_words}

-- ---- calls
pub number_stands : (t k : ℕ) (v : List ℕ) (vs : List (List ℕ)) → k < 2 ^ 64
    → after_number t (joined (codes "call" ∷ decimal t ∷ decimal k ∷ v ∷ vs)) ≡ Some (joined (v ∷ vs))
number_stands t k v vs fits =
    let rest : List ℕ = joined (v ∷ vs) in
    read_on _ _ _ _ (word_reads (codes "call") (joined (decimal t ∷ decimal k ∷ v ∷ vs)) refl)
    (read_on _ _ _ _ (own_number t (joined (decimal k ∷ v ∷ vs)))
    (read_on _ (k, rest) _ _ (number_reads k rest fits) refl))

-- no line of a thread's call
pub other_thread : {State Op Query Reply : Type 0} (w : Wording State Op Query Reply) (t u : ℕ) (v : List ℕ) (vs : List (List ℕ)) → t < 2 ^ 64 → u < 2 ^ 64 → t < u
    → is_call_line w t (joined (codes "call" ∷ decimal u ∷ v ∷ vs)) ≡ false
other_thread w t u v vs low high less =
    let other : decimal u ≢ decimal t = λ same. (let e = decimal_injective u t high low same in absurd (omega (arith, e))) in
    ap (some_arrow w) (read_on _ _ _ _ (word_reads (codes "call") (joined (decimal u ∷ v ∷ vs)) refl)
    (read_none _ _ (word_differs (decimal t) (decimal u) (joined (v ∷ vs)) (IsWord-decimal u).bytes other)))

pub trace_is_no_call : {State Op Query Reply : Type 0} (w : Wording State Op Query Reply) (t n : ℕ) → is_call_line w t (joined (trace_line n)) ≡ false
trace_is_no_call w t n = ap (some_arrow w) (read_none _ _ (word_differs (codes "call") (codes "trace") (decimal n) refl (λ same. cc same)))

module _ {State Op Query Reply : Type 0} (w : Wording State Op Query Reply) where
  -- a call that reads back, printed
  call_printed : (c : Call State Op Query Reply) → CallReads w c → is_call w (joined (call_words w c)) ≡ true
  call_printed c reads =
      ap (is_printed w (joined (call_words w c))) (ap w.call_of (words_of-joined (call_words w c) (call_in_words w c)) ∙ reads)
      ∙ (bytes_eq-Decides (joined (call_words w c)) (joined (call_words w c))).1 refl

  -- the arrow after it
  pub arrow_there : (c : Call State Op Query Reply) (text : List ℕ) (x : Said) → CallReads w c → said_of text ≡ Some x
      → is_arrow w (joined (call_words w c) ++ (codes " -> " ++ text)) (length (joined (call_words w c))) ≡ true
  arrow_there c text x reads says =
      let call = joined (call_words w c) in
      let arrow : List ℕ = codes " -> " ++ text in
      let line : List ℕ = call ++ arrow in
      and_true (starts_with nat_eq (drop (length call) line) (codes " -> ")) _
      (ap (λ (r : List ℕ). starts_with nat_eq r (codes " -> ")) (drop-append_seam call arrow))
      (and_true (is_call w (take (length call) line)) _ (ap (is_call w) (take-append_seam call arrow) ∙ call_printed c reads)
      (ap (λ (r : List ℕ). is_some (said_of r)) (drop-append-add call arrow 4) ∙ ap is_some says))

  -- the front of a call's line, and a text that says what became of the call
  front_is_line : (t k : ℕ) (c : Call State Op Query Reply) (text : List ℕ) (x : Said) → k < 2 ^ 64 → CallReads w c → said_of text ≡ Some x
      → is_call_line w t (call_front w t k c ++ 32 ∷ text) ≡ true
  front_is_line t k c text x fits reads says =
      let ws = call_words w c in
      let first = some_words w.call_of ws c w.no_words_are_no_call reads in
      let call = joined ws in
      let rest : List ℕ = call ++ (codes " -> " ++ text) in
      let last : List (List ℕ) = codes "->" ∷ text ∷ [] in
      let line : call_front w t k c ++ 32 ∷ text ≡ joined (codes "call" ∷ decimal t ∷ decimal k ∷ (ws ++ last)) =
      sym (joined-append (codes "call") (decimal t ∷ decimal k ∷ (ws ++ codes "->" ∷ [])) text [])
      ∙ ap (λ (vs : List (List ℕ)). joined (codes "call" ∷ decimal t ∷ decimal k ∷ vs)) (append_assoc ws (codes "->" ∷ []) (text ∷ [])) in
      let words : joined (ws ++ last) ≡ rest =
      ap (λ (vs : List (List ℕ)). joined (vs ++ last)) first.2 ∙ joined-append first.0 first.1 (codes "->") (text ∷ [])
      ∙ ap (λ (vs : List (List ℕ)). joined vs ++ (codes " -> " ++ text)) (sym first.2) in
      let after : after_number t (call_front w t k c ++ 32 ∷ text) ≡ Some rest =
      ap (after_number t) line
      ∙ ap (λ (vs : List (List ℕ)). after_number t (joined (codes "call" ∷ decimal t ∷ decimal k ∷ (vs ++ last)))) first.2
      ∙ number_stands t k first.0 (first.1 ++ last) fits
      ∙ ap Some (ap (λ (vs : List (List ℕ)). joined (vs ++ last)) (sym first.2) ∙ words) in
      let within : length call < length rest = omega (arith, length-append call (codes " -> " ++ text)) in
      ap (some_arrow w) after ∙ has_arrow_at w rest (length call) (length rest) within (arrow_there c text x reads says)

  -- the line of a call
  pub call_is_line : (t k : ℕ) (c : Call State Op Query Reply) (e : CallEnd State Op Query Reply) (x : Said) → k < 2 ^ 64 → CallReads w c
      → said_of (joined (end_words w e)) ≡ Some x → is_call_line w t (joined (call_line w t k c e)) ≡ true
  call_is_line t k c e x fits reads says =
      ap (is_call_line w t) (line_parts w t k c e) ∙ front_is_line t k c (joined (end_words w e)) x fits reads says

  -- what a line says after the front of a call's is what it says of that call, and where it says something it is a line of one
  pub end_is : (t k : ℕ) (c : Call State Op Query Reply) (front line : List ℕ) (o : Option EndText) → front ≡ call_front w t k c
      → MatchOption o (end_after front line ≡ None) (λ e. end_after front line ≡ Some (e.text.now, e.said)) → as_end o ≡ end_of_call w t k c line
  end_is t k c front line None is says = sym says ∙ ap (λ (f : List ℕ). end_after f line) is
  end_is t k c front line (Some e) is says = sym says ∙ ap (λ (f : List ℕ). end_after f line) is

  pub end_is_line : (t k : ℕ) (c : Call State Op Query Reply) (line : List ℕ) (o : Option EndText) → k < 2 ^ 64 → CallReads w c
      → as_end o ≡ end_of_call w t k c line → IfSome o (λ _. is_call_line w t line ≡ true)
  end_is_line t k c line None fits reads is = tt
  end_is_line t k c line (Some e) fits reads is =
      let parts = end_after_is w (call_front w t k c) line e.text.now e.said (sym is) in
      ap (is_call_line w t) parts.0 ∙ front_is_line t k c e.text.now e.said fits reads parts.1

-- ---- nodes
flag_stands : (p t n : ℕ) (flag : Bool) (v : List ℕ) (vs : List (List ℕ)) → t < 2 ^ 64 → n < 2 ^ 64
    → node_front p (joined (codes "node" ∷ decimal p ∷ decimal t ∷ decimal n ∷ (flag_words (Some flag) ++ v ∷ vs))) ≡ Some (t, n, joined (v ∷ vs))
flag_stands p t n flag v vs low fits = by_flag flag
  where
    past : (flag : Bool) → past_flag (joined (flag_words (Some flag) ++ v ∷ vs)) ≡ Some (joined (v ∷ vs))
    past true = read_on _ (codes "set", joined (v ∷ vs)) _ _ (field_reads (codes "set") (joined (v ∷ vs)) refl) refl
    past false = read_on _ (codes "unset", joined (v ∷ vs)) _ _ (field_reads (codes "unset") (joined (v ∷ vs)) refl) refl

    by_words : (us : List (List ℕ)) (u : List ℕ) → past_flag (joined (u ∷ us)) ≡ Some (joined (v ∷ vs))
        → node_front p (joined (codes "node" ∷ decimal p ∷ decimal t ∷ decimal n ∷ u ∷ us)) ≡ Some (t, n, joined (v ∷ vs))
    by_words us u h =
        let rest : List ℕ = joined (u ∷ us) in
        read_on _ _ _ _ (word_reads (codes "node") (joined (decimal p ∷ decimal t ∷ decimal n ∷ u ∷ us)) refl)
        (read_on _ _ _ _ (own_number p (joined (decimal t ∷ decimal n ∷ u ∷ us)))
        (read_on _ (t, joined (decimal n ∷ u ∷ us)) _ _ (number_reads t (joined (decimal n ∷ u ∷ us)) low)
        (read_on _ (n, rest) _ _ (number_reads n rest fits)
        (read_on _ (joined (v ∷ vs)) _ _ h refl))))

    by_flag : (flag : Bool)
        → node_front p (joined (codes "node" ∷ decimal p ∷ decimal t ∷ decimal n ∷ (flag_words (Some flag) ++ v ∷ vs))) ≡ Some (t, n, joined (v ∷ vs))
    by_flag true = by_words (v ∷ vs) (codes "set") (past true)
    by_flag false = by_words (v ∷ vs) (codes "unset") (past false)

module _ {State Op Query Reply : Type 0} (b : Behaviour State Op Query Reply) (w : Wording State Op Query Reply) where
  op_is_said : (op : Op) → CallReads w (Update op) → op_said w (joined (w.op_words op)) ≡ Some op
  op_is_said op reads =
      ap (op_printed w (joined (w.op_words op))) (ap w.call_of (words_of-joined (w.op_words op) (w.op_in_words op)) ∙ reads)
      ∙ ap (λ (t : Bool). some_if t op) ((bytes_eq-Decides (joined (w.op_words op)) (joined (w.op_words op))).1 refl)

  -- the line of a node
  pub node_reads : (p : ℕ) (n : Node) (flag : Bool) → NodeReads b w n → node_said b w p (joined (node_line b w p n (Some flag))) ≡ Some n
  node_reads p n flag h =
      let some = some_words w.call_of (w.op_words h.op) (Update h.op) w.no_words_are_no_call h.reads in
      let words : flag_words (Some flag) ++ row_words w (b.op_at n.row) ≡ flag_words (Some flag) ++ some.0 ∷ some.1 =
      ap (λ (o : Option Op). flag_words (Some flag) ++ row_words w o) h.row ∙ ap (λ (ws : List (List ℕ)). flag_words (Some flag) ++ ws) some.2 in
      let front : node_front p (joined (node_line b w p n (Some flag))) ≡ Some (n.thread, n.number, joined (w.op_words h.op)) =
      ap (λ (ws : List (List ℕ)). node_front p (joined (codes "node" ∷ decimal p ∷ decimal n.thread ∷ decimal n.number ∷ ws))) words
      ∙ flag_stands p n.thread n.number flag some.0 some.1 h.thread h.number
      ∙ ap (λ (ws : List (List ℕ)). Some (n.thread, n.number, joined ws)) (sym some.2) in
      read_on _ (n.thread, n.number, joined (w.op_words h.op)) _ _ front
      (read_on _ h.op _ _ (op_is_said h.op h.reads)
      (ap (λ row. Some (record { thread = n.thread; number = n.number; row = row })) (b.row_of_its_op n.row h.op h.row)))

pub ruleset expecting = (end_is, end_is_line)
