-- The lines of logs, of calls and of nodes say what is said and nothing else.

use Rattle.std.proofs.Common.{false, ℕ, Bool, true, ◌≡◌, ◌≢◌, ◌+◌, ◌<◌, ◌≤◌, ◌^◌, List, [], ◌∷◌, ◌++◌, Option, Some, None, codes, decimal, length, map, drop, refl, sym, ap, ◌∙◌, arith, append_assoc}
use Rattle.std.specs.List.{All}
use Rattle.std.specs.Option.{IfSome}
use Rattle.std.proofs.lemmas.Fmt.{decimal_injective}
use Rattle.std.proofs.lemmas.List.Elements.{All-head, All-tail}
use Rattle.onll_words.specs.Texts.{says_something, AreWords, AreMeaningful}
use Rattle.onll_words.proofs.Decimals.{IsWord-decimal}
use Rattle.onll_model.specs.declared.node.Node.{Node}
use Rattle.onll_model.specs.declared.call.Call.{Call}
use Rattle.onll_model.specs.declared.call.CallEnd.{CallEnd}
use Rattle.onll_model.specs.Object.{Behaviour}
use Rattle.onll_text.specs.Wording.{Wording}
use Rattle.onll_text.specs.Lines.{call_words, end_words, call_line, call_lines, node_line, log_line, flagged_lines, LogData, thread_lines, counted_lines}
use Rattle.onll_text.specs.Reports.{NodeReads, NoCallNext, NoNodeNext, EachReads, LogReads}
use Rattle.onll_text.proofs.LineWords.{node_line_in_words, log_line_in_words}
use Rattle.onll_words.proofs.Joined.{AreMeaningful-append, line_same, line_none}
use Rattle.onll_text.proofs.Determined.{calls_determined, flagged_line_determined, no_node_next, calls_meaningful}
use Rattle.onll_merge.specs.declared.counts.LogCounts.{LogCounts}
use Rattle.onll_task.specs.RecoverySaid.{content_line, log_lines, HeldData, RecoverData, held_line, held_lines, HeldReads, held_with, held_of}
use Rattle.onll_task.specs.RunSaid.{resumed_lines}
use Rattle.onll_task.proofs.RecoverSteps.{resumed_in_words}

-- ---- the logs
-- the first of these lines is no log's
abbrev pub NoLogNext : List (List (List ℕ)) → Type 0
NoLogNext [] = Unit {0}
NoLogNext (ws ∷ lines) = (rest : List (List ℕ)) → ws ≢ codes "log" ∷ rest

log_same : (a b : LogData) → a.entries ≡ b.entries → a.lines ≡ b.lines → a.fences ≡ b.fences → a ≡ b
log_same a b e₁ e₂ e₃ =
    ap (λ (n : ℕ). record { entries = n; lines = a.lines; fences = a.fences }) e₁ ∙ ap (λ (n : ℕ). record { entries = b.entries; lines = n; fences = a.fences }) e₂
    ∙ ap (λ (n : ℕ). record { entries = b.entries; lines = b.lines; fences = n }) e₃

pub first_number : (m n : ℕ) (ws vs : List (List ℕ)) → m < 2 ^ 64 → n < 2 ^ 64 → decimal m ∷ ws ≡ decimal n ∷ vs → m ≡ n
first_number m n ws vs g h e = decimal_injective m n g h (line_same (decimal m) (decimal n) ws vs e).0

abbrev counted_line : ℕ → LogData → List (List ℕ)
counted_line t log = log_line t log.entries log.lines (Some log.fences)

log_determined : (t : ℕ) (log other : LogData) → LogReads log → LogReads other → counted_line t log ≡ counted_line t other → log ≡ other
log_determined t log other g h e =
    log_same log other
    (first_number log.entries other.entries (codes "lines" ∷ decimal log.lines ∷ codes "fences" ∷ decimal log.fences ∷ []) (codes "lines" ∷ decimal other.lines ∷ codes "fences" ∷ decimal other.fences ∷ []) g.entries h.entries (ap (drop 3) e))
    (first_number log.lines other.lines (codes "fences" ∷ decimal log.fences ∷ []) (codes "fences" ∷ decimal other.fences ∷ []) g.lines h.lines (ap (drop 5) e))
    (first_number log.fences other.fences [] [] g.fences h.fences (ap (drop 7) e))

no_log_next : (t : ℕ) (log : LogData) (lines more : List (List (List ℕ))) → NoLogNext more → counted_line t log ∷ lines ≡ more → ⊥
no_log_next t log lines [] h e = line_none (counted_line t log) lines e
no_log_next t log lines (ws ∷ more) h e =
    h (decimal t ∷ codes "entries" ∷ decimal log.entries ∷ codes "lines" ∷ decimal log.lines ∷ codes "fences" ∷ decimal log.fences ∷ []) (sym (line_same (counted_line t log) ws lines more e).0)

pub logs_determined : (t : ℕ) (logs others : List LogData) (lines more : List (List (List ℕ))) → All LogReads logs → All LogReads others → NoLogNext lines → NoLogNext more
    → counted_lines t logs ++ lines ≡ counted_lines t others ++ more → (logs ≡ others) × (lines ≡ more)
logs_determined t [] [] lines more g h u v e = (refl, e)
logs_determined t [] (m ∷ others) lines more g h u v e = absurd (no_log_next t m (counted_lines (t + 1) others ++ more) lines u (sym e))
logs_determined t (l ∷ logs) [] lines more g h u v e = absurd (no_log_next t l (counted_lines (t + 1) logs ++ lines) more v e)
logs_determined t (l ∷ logs) (m ∷ others) lines more g h u v e =
    let parts = line_same (counted_line t l) (counted_line t m) (counted_lines (t + 1) logs ++ lines) (counted_lines (t + 1) others ++ more) e in
    let rest = logs_determined (t + 1) logs others lines more (All-tail LogReads l logs g) (All-tail LogReads m others h) u v parts.1 in
    (ap (λ (x : LogData). x ∷ logs) (log_determined t l m (All-head LogReads l logs g) (All-head LogReads m others h) parts.0) ∙ ap (λ (xs : List LogData). m ∷ xs) rest.0, rest.1)

pub logs_meaningful : (t : ℕ) (logs : List LogData) → AreMeaningful (counted_lines t logs)
logs_meaningful t [] = tt
logs_meaningful t (l ∷ logs) = (log_line_in_words t l.entries l.lines (Some l.fences), refl, logs_meaningful (t + 1) logs)

-- ---- the logs of a recovery
-- a log's line says whether it has a head, and its numbers
held_determined : (t : ℕ) (log other : Option HeldData) → HeldReads log → HeldReads other → held_line t log ≡ held_line t other → log ≡ other
held_determined t None None g h e = refl
held_determined t None (Some o) g h e = cc e
held_determined t (Some l) None g h e = cc e
held_determined t (Some l) (Some o) g h e =
    ap Some (
    held_same l o
    (first_number l.entries o.entries (codes "lines" ∷ decimal l.lines ∷ []) (codes "lines" ∷ decimal o.lines ∷ []) g.0 h.0 (ap (drop 3) e))
    (first_number l.lines o.lines [] [] g.1 h.1 (ap (drop 5) e))
    )
  where
    held_same : (a b : HeldData) → a.entries ≡ b.entries → a.lines ≡ b.lines → a ≡ b
    held_same a b e₁ e₂ = ap (λ (n : ℕ). record { entries = n; lines = a.lines }) e₁ ∙ ap (λ (n : ℕ). record { entries = b.entries; lines = n }) e₂

held_begins : (t : ℕ) (log : Option HeldData) → held_line t log ≡ codes "log" ∷ drop 1 (held_line t log)
held_begins t None = refl
held_begins t (Some l) = refl

no_held_next : (t : ℕ) (log : Option HeldData) (lines more : List (List (List ℕ))) → NoLogNext more → held_line t log ∷ lines ≡ more → ⊥
no_held_next t log lines [] h e = line_none (held_line t log) lines e
no_held_next t log lines (ws ∷ more) h e = h (drop 1 (held_line t log)) (sym (line_same (held_line t log) ws lines more e).0 ∙ held_begins t log)

pub helds_determined : (t : ℕ) (logs others : List (Option HeldData)) (lines more : List (List (List ℕ))) → All HeldReads logs → All HeldReads others → NoLogNext lines → NoLogNext more
    → held_lines t logs ++ lines ≡ held_lines t others ++ more → (logs ≡ others) × (lines ≡ more)
helds_determined t [] [] lines more g h u v e = (refl, e)
helds_determined t [] (m ∷ others) lines more g h u v e = absurd (no_held_next t m (held_lines (t + 1) others ++ more) lines u (sym e))
helds_determined t (l ∷ logs) [] lines more g h u v e = absurd (no_held_next t l (held_lines (t + 1) logs ++ lines) more v e)
helds_determined t (l ∷ logs) (m ∷ others) lines more g h u v e =
    let parts = line_same (held_line t l) (held_line t m) (held_lines (t + 1) logs ++ lines) (held_lines (t + 1) others ++ more) e in
    let rest = helds_determined (t + 1) logs others lines more (All-tail HeldReads l logs g) (All-tail HeldReads m others h) u v parts.1 in
    (ap (λ (x : Option HeldData). x ∷ logs) (held_determined t l m (All-head HeldReads l logs g) (All-head HeldReads m others h) parts.0) ∙ ap (λ (xs : List (Option HeldData)). m ∷ xs) rest.0, rest.1)

held_in_words : (t : ℕ) (log : Option HeldData) → AreWords (held_line t log)
held_in_words t None = (record { some = refl; bytes = refl }, (IsWord-decimal t, (record { some = refl; bytes = refl }, tt)))
held_in_words t (Some l) = log_line_in_words t l.entries l.lines None

held_says : (t : ℕ) (log : Option HeldData) → says_something (held_line t log) ≡ true
held_says t None = refl
held_says t (Some l) = refl

pub helds_meaningful : (t : ℕ) (logs : List (Option HeldData)) → AreMeaningful (held_lines t logs)
helds_meaningful t [] = tt
helds_meaningful t (l ∷ logs) = (held_in_words t l, held_says t l, helds_meaningful (t + 1) logs)

content-data : (t : ℕ) (head : Bool) (entries lines : ℕ) → content_line t head entries lines ≡ held_line t (held_with head entries lines)
content-data t false entries lines = refl
content-data t true entries lines = refl

pub logs-data : (t : ℕ) (logs : List LogCounts) → log_lines t logs ≡ held_lines t (map held_of logs)
logs-data t [] = refl
logs-data t (log ∷ logs) =
    ap (λ ws. ws ∷ log_lines (t + 1) logs) (content-data t log.head log.entries log.lines) ∙ ap (λ ls. held_line t (held_of log) ∷ ls) (logs-data (t + 1) logs)

pub recover_same : {State : Type 0} (a b : RecoverData State) → a.logs ≡ b.logs → a.nodes ≡ b.nodes → a.state ≡ b.state → a ≡ b
recover_same {State} a b e₁ e₂ e₃ =
    ap (λ (v : List (Option HeldData)). record { logs = v; nodes = a.nodes; state = a.state }) e₁ ∙ ap (λ (v : List Node). record { logs = b.logs; nodes = v; state = a.state }) e₂
    ∙ ap (λ (v : State). record { logs = b.logs; nodes = b.nodes; state = v }) e₃

-- ---- how many nodes are gone on from
-- the first of these lines says no such number
abbrev pub NoResumedNext : List (List (List ℕ)) → Type 0
NoResumedNext [] = Unit {0}
NoResumedNext (ws ∷ lines) = (rest : List (List ℕ)) → ws ≢ codes "resumed" ∷ rest

pub resumed_meaningful : (resumed : Option ℕ) → AreMeaningful (resumed_lines resumed)
resumed_meaningful None = tt
resumed_meaningful (Some nodes) = (resumed_in_words nodes, refl, tt)

no_resumed_next : (nodes : ℕ) (lines more : List (List (List ℕ))) → NoResumedNext more → (codes "resumed" ∷ decimal nodes ∷ []) ∷ lines ≡ more → ⊥
no_resumed_next nodes lines [] h e = line_none (codes "resumed" ∷ decimal nodes ∷ []) lines e
no_resumed_next nodes lines (ws ∷ more) h e = h (decimal nodes ∷ []) (sym (line_same (codes "resumed" ∷ decimal nodes ∷ []) ws lines more e).0)

pub resumed_determined : (resumed other : Option ℕ) (lines more : List (List (List ℕ))) → IfSome resumed (λ n. n < 2 ^ 64) → IfSome other (λ n. n < 2 ^ 64) → NoResumedNext lines → NoResumedNext more
    → resumed_lines resumed ++ lines ≡ resumed_lines other ++ more → (resumed ≡ other) × (lines ≡ more)
resumed_determined None None lines more g h u v e = (refl, e)
resumed_determined None (Some n) lines more g h u v e = absurd (no_resumed_next n more lines u (sym e))
resumed_determined (Some m) None lines more g h u v e = absurd (no_resumed_next m lines more v e)
resumed_determined (Some m) (Some n) lines more g h u v e =
    let parts = line_same (codes "resumed" ∷ decimal m ∷ []) (codes "resumed" ∷ decimal n ∷ []) lines more e in
    (ap Some (first_number m n [] [] g h (ap (drop 1) parts.0)), parts.1)

-- the first of these lines is no call's
abbrev pub NoCall : List (List (List ℕ)) → Type 0
NoCall lines = (t : ℕ) → NoCallNext t lines

module _ {State Op Query Reply : Type 0} where
  -- ---- the calls of each thread
  other_thread : (w : Wording State Op Query Reply) (t u : ℕ) (c : Call State Op Query Reply) (end : CallEnd State Op Query Reply) (rest : List (List ℕ)) → t < u → u < 2 ^ 64
      → call_line w u 1 c end ≡ codes "call" ∷ decimal t ∷ rest → ⊥
  other_thread w t u c end rest lt few e =
      let same : u ≡ t = first_number u t (decimal 1 ∷ (call_words w c ++ codes "->" ∷ end_words w end)) rest few (omega arith) (ap (drop 1) e) in
      absurd (omega (arith, same))

  -- after the calls of a thread come those of later ones
  later_next : (w : Wording State Op Query Reply) (t u : ℕ) (scripts : List (List (Call State Op Query Reply))) (ends : List (List (CallEnd State Op Query Reply))) (lines : List (List (List ℕ)))
      → t < u → u + length scripts ≤ 2 ^ 64 → NoCallNext t lines → NoCallNext t (thread_lines w u scripts ends ++ lines)
  later_next w t u [] [] lines lt few h = h
  later_next w t u [] (es ∷ ends) lines lt few h = h
  later_next w t u (s ∷ scripts) [] lines lt few h = h
  later_next w t u (s ∷ scripts) ([] ∷ ends) lines lt few h = later_next w t (u + 1) scripts ends lines (omega arith) (omega arith) h
  later_next w t u ([] ∷ scripts) ((x ∷ es) ∷ ends) lines lt few h = later_next w t (u + 1) scripts ends lines (omega arith) (omega arith) h
  later_next w t u ((c ∷ s) ∷ scripts) ((x ∷ es) ∷ ends) lines lt few h = λ rest e. other_thread w t u c x rest lt (omega arith) e

  pub threads_determined : (w : Wording State Op Query Reply) (t : ℕ) (scripts : List (List (Call State Op Query Reply))) (ends others : List (List (CallEnd State Op Query Reply))) (lines more : List (List (List ℕ)))
      → t + length scripts ≤ 2 ^ 64 → EachReads w scripts ends → EachReads w scripts others → NoCall lines → NoCall more
      → thread_lines w t scripts ends ++ lines ≡ thread_lines w t scripts others ++ more → (ends ≡ others) × (lines ≡ more)
  threads_determined w t [] [] [] lines more few g h u v e = (refl, e)
  threads_determined w t [] (es ∷ ends) others lines more few g h u v e = absurd g
  threads_determined w t [] [] (fs ∷ others) lines more few g h u v e = absurd h
  threads_determined w t (s ∷ scripts) [] others lines more few g h u v e = absurd g
  threads_determined w t (s ∷ scripts) (es ∷ ends) [] lines more few g h u v e = absurd h
  threads_determined w t (s ∷ scripts) (es ∷ ends) (fs ∷ others) lines more few g h u v e =
      let left : List (List (List ℕ)) = thread_lines w (t + 1) scripts ends ++ lines in
      let right : List (List (List ℕ)) = thread_lines w (t + 1) scripts others ++ more in
      let same = sym (append_assoc (call_lines w t 0 s es) (thread_lines w (t + 1) scripts ends) lines) ∙ e ∙ append_assoc (call_lines w t 0 s fs) (thread_lines w (t + 1) scripts others) more in
      let first = calls_determined w t 0 s es fs left right g.0.few h.0.few g.0.reads h.0.reads
      (later_next w t (t + 1) scripts ends lines (omega arith) (omega arith) (u t)) (later_next w t (t + 1) scripts others more (omega arith) (omega arith) (v t)) same in
      let rest = threads_determined w (t + 1) scripts ends others lines more (omega arith) g.1 h.1 u v first.1 in
      (ap (λ (x : List (CallEnd State Op Query Reply)). x ∷ ends) first.0 ∙ ap (λ (xs : List (List (CallEnd State Op Query Reply))). fs ∷ xs) rest.0, rest.1)

  pub threads_meaningful : (w : Wording State Op Query Reply) (t : ℕ) (scripts : List (List (Call State Op Query Reply))) (ends : List (List (CallEnd State Op Query Reply))) → AreMeaningful (thread_lines w t scripts ends)
  threads_meaningful w t [] [] = tt
  threads_meaningful w t [] (es ∷ ends) = tt
  threads_meaningful w t (s ∷ scripts) [] = tt
  threads_meaningful w t (s ∷ scripts) (es ∷ ends) = AreMeaningful-append (call_lines w t 0 s es) (thread_lines w (t + 1) scripts ends) (calls_meaningful w t 0 s es) (threads_meaningful w (t + 1) scripts ends)

  -- ---- the trace with its flags
  pub flagged_determined : (b : Behaviour State Op Query Reply) (w : Wording State Op Query Reply) (p : ℕ) (nodes others : List Node) (flags marks : List Bool) (lines more : List (List (List ℕ)))
      → length flags ≡ length nodes → length marks ≡ length others → All (NodeReads b w) nodes → All (NodeReads b w) others → NoNodeNext lines → NoNodeNext more
      → flagged_lines b w p nodes flags ++ lines ≡ flagged_lines b w p others marks ++ more → (nodes ≡ others) × (flags ≡ marks) × (lines ≡ more)
  flagged_determined b w p [] [] [] [] lines more i j g h u v e = (refl, refl, e)
  flagged_determined b w p [] others (x ∷ flags) marks lines more i j g h u v e = absurd (omega arith)
  flagged_determined b w p (n ∷ nodes) others [] marks lines more i j g h u v e = absurd (omega arith)
  flagged_determined b w p [] [] [] (y ∷ marks) lines more i j g h u v e = absurd (omega arith)
  flagged_determined b w p [] (m ∷ others) [] [] lines more i j g h u v e = absurd (omega arith)
  flagged_determined b w p [] (m ∷ others) [] (y ∷ marks) lines more i j g h u v e =
      absurd (no_node_next b w (p + 1) m (Some y) (flagged_lines b w (p + 1) others marks ++ more) lines u (sym e))
  flagged_determined b w p (n ∷ nodes) [] (x ∷ flags) [] lines more i j g h u v e =
      absurd (no_node_next b w (p + 1) n (Some x) (flagged_lines b w (p + 1) nodes flags ++ lines) more v e)
  flagged_determined b w p (n ∷ nodes) [] (x ∷ flags) (y ∷ marks) lines more i j g h u v e = absurd (omega arith)
  flagged_determined b w p (n ∷ nodes) (m ∷ others) (x ∷ flags) [] lines more i j g h u v e = absurd (omega arith)
  flagged_determined b w p (n ∷ nodes) (m ∷ others) (x ∷ flags) (y ∷ marks) lines more i j g h u v e =
      let parts = line_same (node_line b w (p + 1) n (Some x)) (node_line b w (p + 1) m (Some y)) (flagged_lines b w (p + 1) nodes flags ++ lines) (flagged_lines b w (p + 1) others marks ++ more) e in
      let first = flagged_line_determined b w (p + 1) n m x y (All-head (NodeReads b w) n nodes g) (All-head (NodeReads b w) m others h) parts.0 in
      let rest = flagged_determined b w (p + 1) nodes others flags marks lines more (omega arith) (omega arith) (All-tail (NodeReads b w) n nodes g) (All-tail (NodeReads b w) m others h) u v parts.1 in (
        ap (λ (z : Node). z ∷ nodes) first.0 ∙ ap (λ (zs : List Node). m ∷ zs) rest.0,
        ap (λ (z : Bool). z ∷ flags) first.1 ∙ ap (λ (zs : List Bool). y ∷ zs) rest.1,
        rest.2,
      )

  pub flagged_meaningful : (b : Behaviour State Op Query Reply) (w : Wording State Op Query Reply) (p : ℕ) (nodes : List Node) (flags : List Bool) → AreMeaningful (flagged_lines b w p nodes flags)
  flagged_meaningful b w p [] [] = tt
  flagged_meaningful b w p [] (x ∷ flags) = tt
  flagged_meaningful b w p (n ∷ nodes) [] = tt
  flagged_meaningful b w p (n ∷ nodes) (x ∷ flags) = (node_line_in_words b w (p + 1) n (Some x), refl, flagged_meaningful b w (p + 1) nodes flags)

  -- how many nodes a core goes on from, before lines of calls and of a trace
  pub no_resumed : (w : Wording State Op Query Reply) (t : ℕ) (scripts : List (List (Call State Op Query Reply))) (ends : List (List (CallEnd State Op Query Reply))) (lines : List (List (List ℕ)))
      → NoResumedNext lines → NoResumedNext (thread_lines w t scripts ends ++ lines)
  no_resumed w t [] [] lines h = h
  no_resumed w t [] (es ∷ ends) lines h = h
  no_resumed w t (s ∷ scripts) [] lines h = h
  no_resumed w t (s ∷ scripts) ([] ∷ ends) lines h = no_resumed w (t + 1) scripts ends lines h
  no_resumed w t ([] ∷ scripts) ((x ∷ es) ∷ ends) lines h = no_resumed w (t + 1) scripts ends lines h
  no_resumed w t ((c ∷ s) ∷ scripts) ((x ∷ es) ∷ ends) lines h = λ rest e. cc e
