-- What is encoded is read back.
use Rattle.std.proofs.Common.{ℕ, zero, suc, ◌≡◌, ◌+◌, ◌*◌, ◌≤◌, Bool, true, List, [], ◌∷◌, ◌++◌, length, take, drop, map, sym, refl, ap, ◌∙◌, arith, append_assoc, append-nil, length-append, eq-eqb}
use Rattle.std.specs.Prelude.{Option, Some, None, ◌==◌, ◌||◌, nat_le, cond}
use Rattle.std.specs.List.{AllByRecursion}
use Rattle.std.proofs.lemmas.Bool.{le-leb, lt-ltb}
use Rattle.std.proofs.lemmas.List.{length-map, take_at, drop_at}
use Rattle.onll_pmem.specs.Device.{zero_line, zero_lines}
use Rattle.onll_model.specs.declared.node.Node.{Node}
use Rattle.onll_model.specs.Names.{name_of, words_of_node}
use Rattle.onll_model.specs.Segment.{Segment}
use Rattle.onll_model.proofs.Names.{node_of_its_name}
use Rattle.onll_log.specs.declared.head.LogHead.{LogHead}
use Rattle.onll_log.specs.Head.{log_magic, head_line, head_of, is_head, FitsHead}
use Rattle.onll_log.specs.Encoding.{guard, entry_front, entry_line, entry_lines, entries_lines, log_lines, node_lines, FitsNode, FitsEntry, FitEntries}
use Rattle.onll_log.specs.Grammar.{all_named, is_entry, node_of_line, segment_of, entries_from, Content, are_zero_lines, content_of, lines_in}
use Rattle.onll_log.proofs.Accepted.{and_true, is_entry-Accepted, entries_from-entry, entries_from-none, is_entry-no_magic}

-- ---- the head
format_test : (format : ℕ) → 1 ≤ format → format ≤ 2 → (format == 1) || (format == 2) ≡ true
format_test zero low high = absurd (omega arith)
format_test (suc zero) low high = refl
format_test (suc (suc zero)) low high = refl
format_test (suc (suc (suc n))) low high = absurd (omega arith)

pub is_head-head_line : (head : LogHead) → FitsHead head → is_head (head_line head) ≡ true
is_head-head_line head f =
    and_true _ _ (eq-eqb log_magic log_magic refl) (and_true _ _ (format_test head.format f.format.0 f.format.1) (and_true _ _ (lt-ltb _ _ f.thread)
    (and_true _ _ (le-leb _ _ f.threads) (and_true _ _ (le-leb _ _ f.object.0) (le-leb _ _ f.object.1)))))

pub head_of-head_line : (head : LogHead) → head_of (head_line head) ≡ head
head_of-head_line head = refl

-- ---- one node
pub node_of_line-words : (threads : ℕ) (n : Node) → FitsNode threads n → node_of_line (words_of_node n) ≡ n
node_of_line-words threads n f = node_of_its_name n f.number

pub nodes_of_lines : (threads : ℕ) (ns : List Node) → AllByRecursion (FitsNode threads) ns → map node_of_line (node_lines ns) ≡ ns
nodes_of_lines threads [] f = refl
nodes_of_lines threads (n ∷ ns) f = let a = node_of_line-words threads n f.0 in let b = nodes_of_lines threads ns f.1 in λ i. a i ∷ b i

pub all_named-node_lines : (threads : ℕ) (ns : List Node) → AllByRecursion (FitsNode threads) ns → all_named (4096 * threads) (node_lines ns) ≡ true
all_named-node_lines threads [] f = refl
all_named-node_lines threads (n ∷ ns) f = let l = f.0.thread in let a = f.0.number.0 in let b = f.0.number.1 in
    and_true (nat_le 1 (name_of n)) _ (le-leb 1 (name_of n) (omega arith)) (and_true (nat_le (name_of n) (4096 * threads)) _ (le-leb (name_of n) (4096 * threads) (omega arith)) (all_named-node_lines threads ns f.1))

-- ---- one entry
-- the node lines stand in front of what follows
pub take-node_lines : (ns : List Node) (rest : List (List ℕ)) → take (length ns) (node_lines ns ++ rest) ≡ node_lines ns
take-node_lines ns rest = take_at (node_lines ns) rest (length ns) (length-map ns words_of_node)

pub drop-node_lines : (ns : List Node) (rest : List (List ℕ)) → drop (length ns) (node_lines ns ++ rest) ≡ rest
drop-node_lines ns rest = drop_at (node_lines ns) rest (length ns) (length-map ns words_of_node)

-- an encoded entry is accepted, whatever comes after it
pub is_entry-entry_line : (head : LogHead) (before : ℕ) (s : Segment) (rest : List (List ℕ)) → FitsEntry head.threads s → is_entry head before (entry_line head before s) (node_lines s.nodes ++ rest) ≡ true
is_entry-entry_line head before s rest f =
    let nodes = take-node_lines s.nodes rest in let a = f.some_nodes in let b = f.few_nodes in let c = f.from_one in let d = f.place in
    is_entry-Accepted head before (entry_line head before s) (node_lines s.nodes ++ rest) record {
      magic = refl;
      own = refl;
      next = refl;
      some_nodes = a;
      few_nodes = b;
      from_one = c;
      place = d;
      whole = omega (arith, length-append (node_lines s.nodes) rest, length-map s.nodes words_of_node);
      named = ap (all_named (4096 * head.threads)) nodes ∙ all_named-node_lines head.threads s.nodes f.nodes;
      guarded = sym (ap (guard head (entry_front head before s)) nodes);
    }

pub segment_of-entry_line : (head : LogHead) (before : ℕ) (s : Segment) (rest : List (List ℕ)) → FitsEntry head.threads s → segment_of (entry_line head before s) (node_lines s.nodes ++ rest) ≡ s
segment_of-entry_line head before s rest f =
    let e : map node_of_line (take (length s.nodes) (node_lines s.nodes ++ rest)) ≡ s.nodes = ap (λ (l : List (List ℕ)). map node_of_line l) (take-node_lines s.nodes rest) ∙ nodes_of_lines head.threads s.nodes f.nodes in
    λ i. record { place = s.place; nodes = e i }

pub entries_from-skipped : (head : LogHead) (before skip : ℕ) (xs rest : List (List ℕ)) → skip ≡ length xs → entries_from head before skip (xs ++ rest) ≡ entries_from head before 0 rest
entries_from-skipped head before zero [] rest e = refl
entries_from-skipped head before (suc n) [] rest e = absurd (omega arith)
entries_from-skipped head before zero (x ∷ xs) rest e = absurd (omega arith)
entries_from-skipped head before (suc n) (x ∷ xs) rest e = entries_from-skipped head before n xs rest (omega arith)

pub entries_from-entry_lines : (head : LogHead) (before : ℕ) (s : Segment) (rest : List (List ℕ)) → FitsEntry head.threads s → entries_from head before 0 (entry_lines head before s ++ rest) ≡ s ∷ entries_from head (suc before) 0 rest
entries_from-entry_lines head before s rest f =
    entries_from-entry head before (entry_line head before s) (node_lines s.nodes ++ rest) (is_entry-entry_line head before s rest f) ∙
    (let a = segment_of-entry_line head before s rest f in let b = entries_from-skipped head (suc before) (length s.nodes) (node_lines s.nodes) rest (sym (length-map s.nodes words_of_node)) in λ i. a i ∷ b i)

-- ---- the entries of a log
pub entries_from-entries_lines_after : (head : LogHead) (before : ℕ) (ss : List Segment) (rest : List (List ℕ)) → FitEntries head.threads ss
    → entries_from head before 0 (entries_lines head before ss ++ rest) ≡ ss ++ entries_from head (before + length ss) 0 rest
entries_from-entries_lines_after head before [] rest f = let e : before ≡ before + 0 = omega arith in ap (λ (n : ℕ). entries_from head n 0 rest) e
entries_from-entries_lines_after head before (s ∷ ss) rest f =
    ap (entries_from head before 0) (append_assoc (entry_lines head before s) (entries_lines head (suc before) ss) rest) ∙
    (entries_from-entry_lines head before s (entries_lines head (suc before) ss ++ rest) f.0 ∙
    ap (λ (l : List Segment). s ∷ l) (entries_from-entries_lines_after head (suc before) ss rest f.1 ∙
    (let e : suc before + length ss ≡ before + suc (length ss) = omega arith in ap (λ (n : ℕ). ss ++ entries_from head n 0 rest) e)))

-- what is encoded is read back, and then what follows it
pub entries_from-entries_lines : (head : LogHead) (ss : List Segment) (rest : List (List ℕ)) → FitEntries head.threads ss
    → entries_from head 0 0 (entries_lines head 0 ss ++ rest) ≡ ss ++ entries_from head (length ss) 0 rest
entries_from-entries_lines head ss rest f =
    entries_from-entries_lines_after head 0 ss rest f ∙ (let e : 0 + length ss ≡ length ss = omega arith in ap (λ (n : ℕ). ss ++ entries_from head n 0 rest) e)

-- zeros hold no entry
pub entries_from-zero_lines : (head : LogHead) (before k : ℕ) → entries_from head before 0 (zero_lines k) ≡ []
entries_from-zero_lines head before zero = refl
entries_from-zero_lines head before (suc k) = entries_from-none head before zero_line (zero_lines k) (is_entry-no_magic head before zero_line (zero_lines k) (λ e. omega arith))

-- what an image holds that begins with a head
pub content_of-head : (line : List ℕ) (rest : List (List ℕ)) → is_head line ≡ true → content_of (line ∷ rest) ≡ Some (record { head = Some (head_of line); entries = entries_from (head_of line) 0 0 rest })
content_of-head line rest e = ap (λ (b : Bool). cond {A = Option Content} b (Some (record { head = Some (head_of line); entries = entries_from (head_of line) 0 0 rest }))
    (cond {A = Option Content} (are_zero_lines (line ∷ rest)) (Some (record { head = None; entries = [] })) None)) e

pub content_of-head_line : (head : LogHead) (rest : List (List ℕ)) → FitsHead head → content_of (head_line head ∷ rest) ≡ Some (record { head = Some head; entries = entries_from head 0 0 rest })
content_of-head_line head rest f = content_of-head (head_line head) rest (is_head-head_line head f)

pub content_of-log_lines : (head : LogHead) (ss : List Segment) (k : ℕ) → FitsHead head → FitEntries head.threads ss
    → content_of (log_lines head ss ++ zero_lines k) ≡ Some (record { head = Some head; entries = ss })
content_of-log_lines head ss k h f = content_of-head_line head (entries_lines head 0 ss ++ zero_lines k) h ∙
    ap (λ (l : List Segment). Some (record { head = Some head; entries = l })) (entries_from-entries_lines head ss (zero_lines k) f ∙ (ap (λ (l : List Segment). ss ++ l) (entries_from-zero_lines head (length ss) k) ∙ append-nil ss))

are_zero_lines-zero_lines : (k : ℕ) → are_zero_lines (zero_lines k) ≡ true
are_zero_lines-zero_lines zero = refl
are_zero_lines-zero_lines (suc k) = are_zero_lines-zero_lines k

-- an image of zeros is the empty log
pub content_of-zero_lines : (k : ℕ) → 1 ≤ k → content_of (zero_lines k) ≡ Some (record { head = None; entries = [] })
content_of-zero_lines zero low = absurd (omega arith)
content_of-zero_lines (suc k) low = ap (λ (b : Bool). cond {A = Option Content} b (Some (record { head = None; entries = [] })) None) (are_zero_lines-zero_lines k)

-- ---- one entry more
pub entries_lines-more_after : (head : LogHead) (before : ℕ) (ss : List Segment) (s : Segment) → entries_lines head before (ss ++ s ∷ []) ≡ entries_lines head before ss ++ entry_lines head (before + length ss) s
entries_lines-more_after head before [] s = let e : before ≡ before + 0 = omega arith in append-nil (entry_lines head before s) ∙ ap (λ (n : ℕ). entry_lines head n s) e
entries_lines-more_after head before (r ∷ ss) s =
    let e : suc before + length ss ≡ before + suc (length ss) = omega arith in
    ap (λ (l : List (List ℕ)). entry_lines head before r ++ l) (entries_lines-more_after head (suc before) ss s ∙ ap (λ (n : ℕ). entries_lines head (suc before) ss ++ entry_lines head n s) e) ∙
    sym (append_assoc (entry_lines head before r) (entries_lines head (suc before) ss) (entry_lines head (before + suc (length ss)) s))

pub entries_lines-more : (head : LogHead) (ss : List Segment) (s : Segment) → entries_lines head 0 (ss ++ s ∷ []) ≡ entries_lines head 0 ss ++ entry_lines head (length ss) s
entries_lines-more head ss s = entries_lines-more_after head 0 ss s ∙ (let e : 0 + length ss ≡ length ss = omega arith in ap (λ (n : ℕ). entries_lines head 0 ss ++ entry_lines head n s) e)

pub log_lines-more : (head : LogHead) (ss : List Segment) (s : Segment) → log_lines head (ss ++ s ∷ []) ≡ log_lines head ss ++ entry_lines head (length ss) s
log_lines-more head ss s = ap (λ (l : List (List ℕ)). head_line head ∷ l) (entries_lines-more head ss s)

-- ---- lists of entries
pub FitEntries-append : (threads : ℕ) (ss more : List Segment) → FitEntries threads ss → FitEntries threads more → FitEntries threads (ss ++ more)
FitEntries-append threads [] more f g = g
FitEntries-append threads (s ∷ ss) more f g = (f.0, FitEntries-append threads ss more f.1 g)

pub lines_in-append : (ss more : List Segment) → lines_in (ss ++ more) ≡ lines_in ss + lines_in more
lines_in-append [] more = omega arith
lines_in-append (s ∷ ss) more = let h = lines_in-append ss more in omega arith

-- ---- how many lines
pub length-entry_lines : (head : LogHead) (before : ℕ) (s : Segment) → length (entry_lines head before s) ≡ suc (length s.nodes)
length-entry_lines head before s = ap suc (length-map s.nodes words_of_node)

pub length-entries_lines : (head : LogHead) (before : ℕ) (ss : List Segment) → length (entries_lines head before ss) ≡ lines_in ss
length-entries_lines head before [] = refl
length-entries_lines head before (s ∷ ss) = let h = length-entries_lines head (suc before) ss in
    omega (arith, length-append (entry_lines head before s) (entries_lines head (suc before) ss), length-entry_lines head before s)

pub length-log_lines : (head : LogHead) (ss : List Segment) → length (log_lines head ss) ≡ 1 + lines_in ss
length-log_lines head ss = let h = length-entries_lines head 0 ss in omega arith
