use Rattle.std.proofs.Common.{ℕ, ◌-◌, ◌≤◌, ◌^◌, None, subst, List, [], ◌∷◌, ◌++◌, ◌≡◌, ◌+◌, ◌<◌, true, Option, Some, length, drop, get_or, map, refl, sym, ap, ◌∙◌, codes, decimal}
use Rattle.std.proofs.lemmas.List.{drop_more, append-nil}
use Rattle.onll_words.specs.Texts.{AreWords, line_text}
use Rattle.onll_words.proofs.Decimals.{IsWord-decimal}
use Rattle.onll_model.specs.declared.node.Node.{Node}
use Rattle.onll_model.specs.Segment.{Segment}
use Rattle.std.specs.List.{All}
use Rattle.std.specs.Option.{IfSome}
use Rattle.onll_model.specs.Limits.{greatest_code}
use Rattle.onll_log.specs.declared.head.LogHead.{LogHead}
use Rattle.onll_log.specs.Grammar.{Content, used_by}
use Rattle.onll_text.specs.Bytes.{begins_line, with_words, with_lines}
use Rattle.onll_text.proofs.EachKind.{IsWord-object_name}
use Rattle.onll_text.proofs.Appending.{with_words-line, with_lines-one, with_lines-append}
use Rattle.onll_jobs.specs.ShowJob.{head_line, head_words, row_line, row_lines, entry_words, entry_lines, entries_lines, count_words, content_lines, EntryReads, ShowReads, shown_with, show_data}

-- The lines that `show` prints, as their words are put.

pub head_line_in_words : (thread threads object : ℕ) → AreWords (head_line thread threads object)
head_line_in_words thread threads object = (
  record { some = refl; bytes = refl },
  (record { some = refl; bytes = refl }, (IsWord-decimal thread, (record { some = refl; bytes = refl }, (IsWord-decimal threads, (record { some = refl; bytes = refl }, (IsWord-object_name object, tt)))))),
)

pub entry_in_words : (number : ℕ) (s : Segment) → AreWords (entry_words number s)
entry_in_words number s = (
  record { some = refl; bytes = refl },
  (IsWord-decimal number, (record { some = refl; bytes = refl }, (IsWord-decimal s.place, (record { some = refl; bytes = refl }, (IsWord-decimal (length s.nodes), tt))))),
)

pub count_in_words : (entries lines : ℕ) → AreWords (count_words entries lines)
count_in_words entries lines =
    (record { some = refl; bytes = refl }, (IsWord-decimal entries, (record { some = refl; bytes = refl }, (IsWord-decimal lines, tt))))

numbers_in_words : (numbers : List ℕ) → AreWords (map decimal numbers)
numbers_in_words [] = tt
numbers_in_words (n ∷ ns) = (IsWord-decimal n, numbers_in_words ns)

pub row_in_words : (place : ℕ) (node : Node) → AreWords (row_line place node)
row_in_words place node =
    (record { some = refl; bytes = refl }, (IsWord-decimal place, (IsWord-decimal node.thread, (IsWord-decimal node.number, numbers_in_words node.row.w))))

-- the bytes after the parts of a node's line
pub row_parts : (place : ℕ) (node : Node) (old began counted new : List ℕ) → begins_line old ≡ true
    → began ≡ with_words old (codes "row" ∷ decimal place ∷ decimal node.thread ∷ decimal node.number ∷ []) → counted ≡ with_words began (map decimal node.row.w)
    → new ≡ counted ++ 10 ∷ [] → new ≡ old ++ line_text (row_line place node)
row_parts place node old began counted new h e₁ e₂ e₃ =
    e₃ ∙ ap (λ t. t ++ 10 ∷ []) (e₂ ∙ ap (λ t. with_words t (map decimal node.row.w)) e₁)
    ∙ with_words-line old (codes "row") (decimal place ∷ decimal node.thread ∷ decimal node.number ∷ map decimal node.row.w) h (row_in_words place node)

-- one node's line before those of the rest
pub row_lines_more : (out new : List ℕ) (place i : ℕ) (nodes : List Node) (d : Node) → i < length nodes → new ≡ out ++ line_text (row_line (place + 1) (get_or nodes i d))
    → with_lines new (row_lines (place + 1) (drop (i + 1) nodes)) ≡ with_lines out (row_lines place (drop i nodes))
row_lines_more out new place i nodes d h e =
    ap (λ t. with_lines t (row_lines (place + 1) (drop (i + 1) nodes))) e
    ∙ sym (with_lines-one out (row_line (place + 1) (get_or nodes i d)) (row_lines (place + 1) (drop (i + 1) nodes)))
    ∙ sym (ap (λ t. with_lines out (row_lines place t)) (drop_more nodes i d h))

-- one entry's lines before those of the rest
pub entry_lines_more : (out new : List ℕ) (number : ℕ) (s : Segment) (more : List Segment) → new ≡ with_lines out (entry_lines (number + 1) s)
    → with_lines new (entries_lines (number + 1) more) ≡ with_lines out (entries_lines number (s ∷ more))
entry_lines_more out new number s more e =
    ap (λ t. with_lines t (entries_lines (number + 1) more)) e ∙ sym (with_lines-append out (entry_lines (number + 1) s) (entries_lines (number + 1) more))

-- the bytes after the parts of a log's lines
pub log_parts : (head : LogHead) (found : Option LogHead) (ss : List Segment) (used count lines : ℕ) (old headed entered new : List ℕ)
    → found ≡ Some head → headed ≡ old ++ line_text (head_words head) → entered ≡ with_lines headed (entries_lines 0 ss)
    → count ≡ length ss → lines ≡ used → new ≡ entered ++ line_text (count_words count lines)
    → new ≡ with_lines old (content_lines found ss used)
log_parts head found ss used count lines old headed entered new known e₁ e₂ n u e₃ =
    let counts = count_words (length ss) used in
    e₃ ∙ ap (λ k. entered ++ line_text (count_words k lines)) n ∙ ap (λ k. entered ++ line_text (count_words (length ss) k)) u
    ∙ ap (λ t. t ++ line_text counts) (e₂ ∙ ap (λ t. with_lines t (entries_lines 0 ss)) e₁)
    ∙ ap (λ t. with_lines (old ++ line_text (head_words head)) (entries_lines 0 ss) ++ t) (sym (append-nil (line_text counts)))
    ∙ sym (with_lines-append (old ++ line_text (head_words head)) (entries_lines 0 ss) (counts ∷ []))
    ∙ sym (with_lines-one old (head_words head) (entries_lines 0 ss ++ counts ∷ []))
    ∙ ap (λ h. with_lines old (content_lines h ss used)) (sym known)

-- equal parts make equal segments
pub segment_same : (s t : Segment) → s.place ≡ t.place → s.nodes ≡ t.nodes → s ≡ t
segment_same s t p n = λ i. record { place = p i; nodes = n i }

-- the bytes after the parts of an entry's lines, of so many nodes
pub entry_parts : (number count : ℕ) (s : Segment) (old mid new : List ℕ) → count ≡ length s.nodes
    → mid ≡ old ++ line_text (codes "entry" ∷ decimal number ∷ codes "place" ∷ decimal s.place ∷ codes "count" ∷ decimal count ∷ [])
    → new ≡ with_lines mid (row_lines (s.place - count) s.nodes) → new ≡ with_lines old (entry_lines number s)
entry_parts number count s old mid new n e d =
    d ∙ (ap (λ t. with_lines t (row_lines (s.place - count) s.nodes)) e
    ∙ (ap (λ k. with_lines (old ++ line_text (codes "entry" ∷ decimal number ∷ codes "place" ∷ decimal s.place ∷ codes "count" ∷ decimal k ∷ [])) (row_lines (s.place - k) s.nodes)) n
    ∙ sym (with_lines-one old (entry_words number s) (row_lines (s.place - length s.nodes) s.nodes))))

-- an image without a head
pub empty_parts : (found : Option LogHead) (ss : List Segment) (used : ℕ) (old new : List ℕ) → None ≡ found → new ≡ old ++ line_text (codes "empty" ∷ [])
    → new ≡ with_lines old (content_lines found ss used)
empty_parts found ss used old new none e =
    e ∙ (sym (append-nil (old ++ line_text (codes "empty" ∷ []))) ∙ (sym (with_lines-one old (codes "empty" ∷ []) [])
    ∙ ap (λ h. with_lines old (content_lines h ss used)) none))

pub empty_reads : (c : Content) → None ≡ c.head → ShowReads (show_data c)
empty_reads c none = subst (λ h. ShowReads (shown_with h c.entries (used_by c))) none tt

-- what was put of a log with this head reads back
pub log_reads : (head : LogHead) (c : Content) (lines : ℕ) → c.head ≡ Some head → IfSome c.head (λ (h : LogHead). (1 ≤ h.object) × (h.object ≤ greatest_code))
    → (head.thread < 2 ^ 64) × (head.threads < 2 ^ 64) → All EntryReads c.entries → lines ≡ used_by c → lines < 2 ^ 64 → ShowReads (show_data c)
log_reads head c lines is object numbers entries used few = subst (λ h. ShowReads (shown_with h c.entries (used_by c))) (sym is) (record {
  thread = numbers.0;
  threads = numbers.1;
  object = subst (λ o. IfSome o (λ (h : LogHead). (1 ≤ h.object) × (h.object ≤ greatest_code))) is object;
  entries = entries;
  lines = subst (λ n. n < 2 ^ 64) used few;
})
