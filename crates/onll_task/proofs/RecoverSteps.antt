use Rattle.std.proofs.Common.{codes, decimal, ℕ, false, ◌≡◌, List, [], ◌∷◌, refl, ◌+◌, ◌<◌, ◌++◌, length, drop, get_or, sym, ap, ◌∙◌}
use Rattle.std.proofs.lemmas.List.{drop_more}
use Rattle.onll_merge.specs.declared.counts.LogCounts.{LogCounts}
use Rattle.onll_text.specs.Bytes.{with_lines}
use Rattle.onll_text.proofs.Appending.{with_lines-one}
use Rattle.onll_words.specs.Texts.{AreWords, line_text}
use Rattle.onll_words.proofs.Decimals.{IsWord-decimal}
use Rattle.onll_text.specs.Lines.{recovered_line}
use Rattle.onll_task.specs.RecoverySaid.{content_line, log_lines}

-- The parts of a recovery, as they are done one after the other.

-- ---- words
pub empty_in_words : (thread : ℕ) → AreWords (content_line thread false 0 0)
empty_in_words thread = (record { some = refl; bytes = refl }, (IsWord-decimal thread, (record { some = refl; bytes = refl }, tt)))

pub old_in_words : (log : ℕ) → AreWords (codes "log" ∷ decimal log ∷ codes "of" ∷ codes "format" ∷ decimal 1 ∷ [])
old_in_words log =
    (record { some = refl; bytes = refl }, (IsWord-decimal log, (record { some = refl; bytes = refl }, (record { some = refl; bytes = refl }, (IsWord-decimal 1, tt)))))

pub recovered_in_words : (nodes : ℕ) → AreWords (recovered_line nodes)
recovered_in_words nodes = (record { some = refl; bytes = refl }, (IsWord-decimal nodes, tt))

pub resumed_in_words : (nodes : ℕ) → AreWords (codes "resumed" ∷ decimal nodes ∷ [])
resumed_in_words nodes = (record { some = refl; bytes = refl }, (IsWord-decimal nodes, tt))

-- ---- lines
-- one log's line before those of the rest
pub log_lines_more : (out text : List ℕ) (t i : ℕ) (logs : List LogCounts) (none : LogCounts) → i < length logs
    → text ≡ out ++ line_text (content_line t (get_or logs i none).head (get_or logs i none).entries (get_or logs i none).lines)
    → with_lines text (log_lines (t + 1) (drop (i + 1) logs)) ≡ with_lines out (log_lines t (drop i logs))
log_lines_more out text t i logs none h e =
    let d : LogCounts = get_or logs i none in
    let rest = log_lines (t + 1) (drop (i + 1) logs) in
    ap (λ z. with_lines z rest) e
    ∙ sym (with_lines-one out (content_line t d.head d.entries d.lines) rest)
    ∙ sym (ap (λ (l : List LogCounts). with_lines out (log_lines t l)) (drop_more logs i none h))
