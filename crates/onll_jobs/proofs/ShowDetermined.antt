use Rattle.std.proofs.Common.{ℕ, ◌≡◌, ◌≢◌, ◌+◌, ◌-◌, ◌<◌, ◌^◌, List, [], ◌∷◌, ◌++◌, Option, Some, None, codes, decimal, length, map, drop, refl, sym, ap, ◌∙◌, append_assoc}
use Rattle.std.specs.List.{All, flat_map}
use Rattle.std.proofs.lemmas.Fmt.{decimal_injective}
use Rattle.std.proofs.lemmas.List.Elements.{All-head, All-tail}
use Rattle.onll_words.specs.Texts.{line_text, AreMeaningful}
use Rattle.onll_words.proofs.Joined.{text_determined, AreMeaningful-append, line_same, line_none}
use Rattle.onll_model.specs.declared.node.Node.{Node}
use Rattle.onll_model.specs.Segment.{Segment}
use Rattle.onll_log.specs.declared.head.LogHead.{LogHead}
use Rattle.onll_log.specs.Grammar.{Content, used_by}
use Rattle.onll_text.specs.Reports.{SaysOnly}
use Rattle.onll_text.specs.Init.{object_name}
use Rattle.onll_text.proofs.EachKind.{object_name_determined}
use Rattle.onll_text.proofs.Determined.{says_only}
use Rattle.onll_jobs.specs.ShowJob.{head_line, row_line, row_lines, entry_words, entry_lines, entries_lines, count_words, content_lines, show_report}
use Rattle.onll_jobs.specs.ShowJob.{ShownLog, shown_lines, RowReads, EntryReads, LogShownReads, ShowReads, shown_with, show_data}
use Rattle.onll_jobs.proofs.ShowWords.{head_line_in_words, row_in_words, entry_in_words, count_in_words}

-- The bytes of the report of an image determine what they say of it.

number_first : (m n : ℕ) (ws vs : List (List ℕ)) → m < 2 ^ 64 → n < 2 ^ 64 → decimal m ∷ ws ≡ decimal n ∷ vs → m ≡ n
number_first m n ws vs g h e = decimal_injective m n g h (line_same (decimal m) (decimal n) ws vs e).0

-- ---- rows
numbers_determined : (xs ys : List ℕ) → All (λ n. n < 2 ^ 64) xs → All (λ n. n < 2 ^ 64) ys → map decimal xs ≡ map decimal ys → xs ≡ ys
numbers_determined [] [] g h e = refl
numbers_determined [] (y ∷ ys) g h e = cc e
numbers_determined (x ∷ xs) [] g h e = cc e
numbers_determined (x ∷ xs) (y ∷ ys) g h e =
    let parts = line_same (decimal x) (decimal y) (map decimal xs) (map decimal ys) e in
    ap (λ n. n ∷ xs) (decimal_injective x y (All-head (λ n. n < 2 ^ 64) x xs g) (All-head (λ n. n < 2 ^ 64) y ys h) parts.0)
    ∙ ap (λ ns. y ∷ ns) (numbers_determined xs ys (All-tail (λ n. n < 2 ^ 64) x xs g) (All-tail (λ n. n < 2 ^ 64) y ys h) parts.1)

row_same : (a b : Node) → a.thread ≡ b.thread → a.number ≡ b.number → a.row.w ≡ b.row.w → a ≡ b
row_same a b e₁ e₂ e₃ =
    ap (λ (t : ℕ). record { thread = t; number = a.number; row = a.row }) e₁ ∙ ap (λ (n : ℕ). record { thread = b.thread; number = n; row = a.row }) e₂
    ∙ ap (λ (w : List ℕ). record { thread = b.thread; number = b.number; row = record { w = w } }) e₃

row_determined : (p q : ℕ) (node other : Node) → RowReads node → RowReads other → row_line p node ≡ row_line q other → node ≡ other
row_determined p q node other g h e =
    let numbers = ap (drop 3) e in
    let rows = line_same (decimal node.number) (decimal other.number) (map decimal node.row.w) (map decimal other.row.w) numbers in
    row_same node other
    (number_first node.thread other.thread (decimal node.number ∷ map decimal node.row.w) (decimal other.number ∷ map decimal other.row.w) g.thread h.thread (ap (drop 2) e))
    (decimal_injective node.number other.number g.number h.number rows.0) (numbers_determined node.row.w other.row.w g.words h.words rows.1)

-- the first of these lines is no row's
abbrev NoRowNext : List (List (List ℕ)) → Type 0
NoRowNext [] = Unit {0}
NoRowNext (ws ∷ lines) = (rest : List (List ℕ)) → ws ≢ codes "row" ∷ rest

no_row_next : (p : ℕ) (node : Node) (lines more : List (List (List ℕ))) → NoRowNext more → row_line p node ∷ lines ≡ more → ⊥
no_row_next p node lines [] h e = line_none (row_line p node) lines e
no_row_next p node lines (ws ∷ more) h e = h (decimal p ∷ decimal node.thread ∷ decimal node.number ∷ map decimal node.row.w) (sym (line_same (row_line p node) ws lines more e).0)

rows_determined : (p q : ℕ) (nodes others : List Node) (lines more : List (List (List ℕ))) → All RowReads nodes → All RowReads others → NoRowNext lines → NoRowNext more
    → row_lines p nodes ++ lines ≡ row_lines q others ++ more → (nodes ≡ others) × (lines ≡ more)
rows_determined p q [] [] lines more g h u v e = (refl, e)
rows_determined p q [] (m ∷ others) lines more g h u v e = absurd (no_row_next (q + 1) m (row_lines (q + 1) others ++ more) lines u (sym e))
rows_determined p q (n ∷ nodes) [] lines more g h u v e = absurd (no_row_next (p + 1) n (row_lines (p + 1) nodes ++ lines) more v e)
rows_determined p q (n ∷ nodes) (m ∷ others) lines more g h u v e =
    let parts = line_same (row_line (p + 1) n) (row_line (q + 1) m) (row_lines (p + 1) nodes ++ lines) (row_lines (q + 1) others ++ more) e in
    let rest = rows_determined (p + 1) (q + 1) nodes others lines more (All-tail RowReads n nodes g) (All-tail RowReads m others h) u v parts.1 in
    (ap (λ (x : Node). x ∷ nodes) (row_determined (p + 1) (q + 1) n m (All-head RowReads n nodes g) (All-head RowReads m others h) parts.0) ∙ ap (λ (xs : List Node). m ∷ xs) rest.0, rest.1)

-- ---- entries
-- the first of these lines is no entry's
abbrev NoEntryNext : List (List (List ℕ)) → Type 0
NoEntryNext [] = Unit {0}
NoEntryNext (ws ∷ lines) = (rest : List (List ℕ)) → ws ≢ codes "entry" ∷ rest

no_entry_next : (k : ℕ) (s : Segment) (lines more : List (List (List ℕ))) → NoEntryNext more → entry_words k s ∷ lines ≡ more → ⊥
no_entry_next k s lines [] h e = line_none (entry_words k s) lines e
no_entry_next k s lines (ws ∷ more) h e =
    h (decimal k ∷ codes "place" ∷ decimal s.place ∷ codes "count" ∷ decimal (length s.nodes) ∷ []) (sym (line_same (entry_words k s) ws lines more e).0)

-- an entry is no row
rows_end : (k : ℕ) (ss : List Segment) (lines : List (List (List ℕ))) → NoRowNext lines → NoRowNext (entries_lines k ss ++ lines)
rows_end k [] lines u = u
rows_end k (s ∷ ss) lines u = λ rest d. cc d

entry_same : (a b : Segment) → a.place ≡ b.place → a.nodes ≡ b.nodes → a ≡ b
entry_same a b e₁ e₂ = ap (λ (p : ℕ). record { place = p; nodes = a.nodes }) e₁ ∙ ap (λ (ns : List Node). record { place = b.place; nodes = ns }) e₂

entries_determined : (k : ℕ) (ss others : List Segment) (lines more : List (List (List ℕ))) → All EntryReads ss → All EntryReads others
    → NoEntryNext lines → NoEntryNext more → NoRowNext lines → NoRowNext more → entries_lines k ss ++ lines ≡ entries_lines k others ++ more → (ss ≡ others) × (lines ≡ more)
entries_determined k [] [] lines more g h u v x y e = (refl, e)
entries_determined k [] (o ∷ others) lines more g h u v x y e =
    absurd (no_entry_next (k + 1) o ((row_lines (o.place - length o.nodes) o.nodes ++ entries_lines (k + 1) others) ++ more) lines u (sym e))
entries_determined k (s ∷ ss) [] lines more g h u v x y e =
    absurd (no_entry_next (k + 1) s ((row_lines (s.place - length s.nodes) s.nodes ++ entries_lines (k + 1) ss) ++ lines) more v e)
entries_determined k (s ∷ ss) (o ∷ others) lines more g h u v x y e =
    let below = s.place - length s.nodes in
    let above = o.place - length o.nodes in
    let left = entries_lines (k + 1) ss ++ lines in
    let right = entries_lines (k + 1) others ++ more in
    let first : EntryReads s = All-head EntryReads s ss g in
    let second : EntryReads o = All-head EntryReads o others h in
    let parts = line_same (entry_words (k + 1) s) (entry_words (k + 1) o) ((row_lines below s.nodes ++ entries_lines (k + 1) ss) ++ lines) ((row_lines above o.nodes ++ entries_lines (k + 1) others) ++ more) e in
    let place = number_first s.place o.place (codes "count" ∷ decimal (length s.nodes) ∷ []) (codes "count" ∷ decimal (length o.nodes) ∷ []) first.place second.place (ap (drop 3) parts.0) in
    let rows = rows_determined below above s.nodes o.nodes left right first.nodes second.nodes (rows_end (k + 1) ss lines x) (rows_end (k + 1) others more y)
    (sym (append_assoc (row_lines below s.nodes) (entries_lines (k + 1) ss) lines) ∙ parts.1 ∙ append_assoc (row_lines above o.nodes) (entries_lines (k + 1) others) more) in
    let rest = entries_determined (k + 1) ss others lines more (All-tail EntryReads s ss g) (All-tail EntryReads o others h) u v x y rows.1 in
    (ap (λ (z : Segment). z ∷ ss) (entry_same s o place rows.0) ∙ ap (λ (zs : List Segment). o ∷ zs) rest.0, rest.1)

-- ---- all are lines of words
rows_meaningful : (p : ℕ) (nodes : List Node) → AreMeaningful (row_lines p nodes)
rows_meaningful p [] = tt
rows_meaningful p (n ∷ nodes) = (row_in_words (p + 1) n, refl, rows_meaningful (p + 1) nodes)

entries_meaningful : (k : ℕ) (ss : List Segment) → AreMeaningful (entries_lines k ss)
entries_meaningful k [] = tt
entries_meaningful k (s ∷ ss) =
    AreMeaningful-append (entry_lines (k + 1) s) (entries_lines (k + 1) ss) (entry_in_words (k + 1) s, refl, rows_meaningful (s.place - length s.nodes) s.nodes) (entries_meaningful (k + 1) ss)

shown_meaningful : (said : Option ShownLog) → AreMeaningful (shown_lines said)
shown_meaningful None = ((record { some = refl; bytes = refl }, tt), refl, tt)
shown_meaningful (Some log) = (
  head_line_in_words log.thread log.threads log.object,
  refl,
  AreMeaningful-append (entries_lines 0 log.entries) (count_words (length log.entries) log.lines ∷ []) (entries_meaningful 0 log.entries) (count_in_words (length log.entries) log.lines, refl, tt),
)

-- ---- the report
log_same : (a b : ShownLog) → a.thread ≡ b.thread → a.threads ≡ b.threads → a.object ≡ b.object → a.entries ≡ b.entries → a.lines ≡ b.lines → a ≡ b
log_same a b e₁ e₂ e₃ e₄ e₅ =
    ap (λ (n : ℕ). record { thread = n; threads = a.threads; object = a.object; entries = a.entries; lines = a.lines }) e₁
    ∙ ap (λ (n : ℕ). record { thread = b.thread; threads = n; object = a.object; entries = a.entries; lines = a.lines }) e₂
    ∙ ap (λ (n : ℕ). record { thread = b.thread; threads = b.threads; object = n; entries = a.entries; lines = a.lines }) e₃
    ∙ ap (λ (ss : List Segment). record { thread = b.thread; threads = b.threads; object = b.object; entries = ss; lines = a.lines }) e₄
    ∙ ap (λ (n : ℕ). record { thread = b.thread; threads = b.threads; object = b.object; entries = b.entries; lines = n }) e₅

log_determined : (a b : ShownLog) → LogShownReads a → LogShownReads b → shown_lines (Some a) ≡ shown_lines (Some b) → a ≡ b
log_determined a b g h e =
    let left = count_words (length a.entries) a.lines ∷ [] in
    let right = count_words (length b.entries) b.lines ∷ [] in
    let parts = line_same (head_line a.thread a.threads a.object) (head_line b.thread b.threads b.object) (entries_lines 0 a.entries ++ left) (entries_lines 0 b.entries ++ right) e in
    let entries = entries_determined 0 a.entries b.entries left right g.entries h.entries (λ rest d. cc d) (λ rest d. cc d) (λ rest d. cc d) (λ rest d. cc d) parts.1 in
    let counts = (line_same (count_words (length a.entries) a.lines) (count_words (length b.entries) b.lines) [] [] entries.1).0 in
    log_same a b
    (number_first a.thread b.thread (codes "threads" ∷ decimal a.threads ∷ codes "object" ∷ object_name a.object ∷ []) (codes "threads" ∷ decimal b.threads ∷ codes "object" ∷ object_name b.object ∷ []) g.thread h.thread (ap (drop 2) parts.0))
    (number_first a.threads b.threads (codes "object" ∷ object_name a.object ∷ []) (codes "object" ∷ object_name b.object ∷ []) g.threads h.threads (ap (drop 4) parts.0))
    (object_name_determined a.object b.object g.object h.object (line_same (object_name a.object) (object_name b.object) [] [] (ap (drop 6) parts.0)).0)
    entries.0 (number_first a.lines b.lines [] [] g.lines h.lines (ap (drop 3) counts))

lines_determined : (said other : Option ShownLog) → ShowReads said → ShowReads other → shown_lines said ≡ shown_lines other → said ≡ other
lines_determined None None g h e = refl
lines_determined None (Some b) g h e = cc e
lines_determined (Some a) None g h e = cc e
lines_determined (Some a) (Some b) g h e = ap Some (log_determined a b g h e)

shown_determined : (said other : Option ShownLog) → ShowReads said → ShowReads other → flat_map line_text (shown_lines said) ≡ flat_map line_text (shown_lines other) → said ≡ other
shown_determined said other g h e = lines_determined said other g h (text_determined (shown_lines said) (shown_lines other) (shown_meaningful said) (shown_meaningful other) e)

content_said : (head : Option LogHead) (ss : List Segment) (used : ℕ) → content_lines head ss used ≡ shown_lines (shown_with head ss used)
content_said None ss used = refl
content_said (Some head) ss used = refl

-- the report of an image says what it holds, and nothing else
pub show_says : (c : Content) (text : List ℕ) → text ≡ show_report c → ShowReads (show_data c) → SaysOnly shown_lines ShowReads text (show_data c)
show_says c text e h = says_only shown_lines ShowReads shown_determined text (show_data c) (e ∙ ap (flat_map line_text) (content_said c.head c.entries (used_by c))) h
