-- What is read was encoded: the lines of a log are those of its entries.
use Rattle.std.proofs.Common.{ℕ, zero, suc, ◌≡◌, ◌+◌, ◌-◌, ◌*◌, ◌/◌, ◌%◌, ◌≤◌, Bool, true, false, List, [], ◌∷◌, ◌++◌, length, take, drop, map, sym, refl, ap, ◌∙◌, subst, ⊎_elim, ◌⊎◌, inl, inr, arith, true≢false, ◌==◌, eqb-true, cond, append_assoc, append-nil}
use Rattle.std.specs.Prelude.{◌||◌, ◌↔◌, nat_le, replicate, Option, Some, None}
use Rattle.std.specs.List.{AllByRecursion}
use Rattle.std.proofs.lemmas.Bool.{leb-true, ltb-true, cases_Bool}
use Rattle.std.proofs.lemmas.List.{length-map, length-take-le, take-append-drop, drop_at, take_at, length-drop}
use Rattle.onll_pmem.specs.Device.{zero_line, zero_lines}
use Rattle.onll_model.specs.declared.node.Node.{Node}
use Rattle.onll_model.specs.Names.{words_of_node}
use Rattle.onll_model.specs.Segment.{Segment}
use Rattle.onll_log.specs.declared.head.LogHead.{LogHead}
use Rattle.onll_log.specs.Head.{word, log_magic, head_line, head_of, is_head, FitsHead}
use Rattle.onll_log.specs.Encoding.{entry_magic, guard, entry_front, entry_line, entry_lines, entries_lines, log_lines, node_lines, FitsNode, FitsEntry, FitEntries}
use Rattle.onll_log.specs.Grammar.{all_named, is_entry, node_of_line, segment_of, entries_from, Content, is_zero_line, are_zero_lines, content_of, lines_in, used_with}
use Rattle.onll_log.specs.Torn.{IsLine, AreLines, log_image, Holds}
use Rattle.onll_log.specs.Written.{IsWritten, IsEmptyLog}
use Rattle.onll_log.proofs.Lines.{AreLines-take, AreLines-drop}
use Rattle.onll_log.proofs.Accepted.{both_true, Accepted-if, entries_from-entry, entries_from-none, entries_from-drop}
use Rattle.onll_log.proofs.Encoded.{content_of-head, content_of-head_line, content_of-zero_lines, entries_from-entries_lines, length-log_lines}

-- ---- the head
either_true : (a b : Bool) → a || b ≡ true → (a ≡ true) ⊎ (b ≡ true)
either_true true b e = inl refl
either_true false b e = inr e

format_tested : (format : ℕ) → (format == 1) || (format == 2) ≡ true → (1 ≤ format) × (format ≤ 2)
format_tested format e = ⊎_elim
    (λ (k : format == 1 ≡ true). let n : format ≡ 1 = eqb-true format 1 k in (omega arith, omega arith))
    (λ (k : format == 2 ≡ true). let n : format ≡ 2 = eqb-true format 2 k in (omega arith, omega arith))
    (either_true (format == 1) (format == 2) e)

-- a line by its first five words and the rest
line_by_words : (l : List ℕ) (a b c d e : ℕ) (rest : List ℕ) → IsLine l → word l 0 ≡ a → word l 1 ≡ b → word l 2 ≡ c → word l 3 ≡ d → word l 4 ≡ e → drop 5 l ≡ rest → l ≡ a ∷ b ∷ c ∷ d ∷ e ∷ rest
line_by_words (x ∷ y ∷ z ∷ u ∷ v ∷ w) a b c d e rest n p q r s o m = λ i. p i ∷ q i ∷ r i ∷ s i ∷ o i ∷ m i
line_by_words [] a b c d e rest n p q r s o m = absurd (omega arith)
line_by_words (x ∷ []) a b c d e rest n p q r s o m = absurd (omega arith)
line_by_words (x ∷ y ∷ []) a b c d e rest n p q r s o m = absurd (omega arith)
line_by_words (x ∷ y ∷ z ∷ []) a b c d e rest n p q r s o m = absurd (omega arith)
line_by_words (x ∷ y ∷ z ∷ u ∷ []) a b c d e rest n p q r s o m = absurd (omega arith)

length-digest : (l : List ℕ) → IsLine l → length (drop 5 l) ≡ 3
length-digest (x ∷ y ∷ z ∷ u ∷ v ∷ w) n = omega arith
length-digest [] n = absurd (omega arith)
length-digest (x ∷ []) n = absurd (omega arith)
length-digest (x ∷ y ∷ []) n = absurd (omega arith)
length-digest (x ∷ y ∷ z ∷ []) n = absurd (omega arith)
length-digest (x ∷ y ∷ z ∷ u ∷ []) n = absurd (omega arith)

-- a line that is a head is the line of that head
pub head_line-head_of : (line : List ℕ) → IsLine line → is_head line ≡ true → line ≡ head_line (head_of line)
head_line-head_of line eight e = let a = both_true (word line 0 == log_magic) _ e in line_by_words line log_magic (word line 1) (word line 2) (word line 3) (word line 4) (drop 5 line) eight (eqb-true (word line 0) log_magic a.0) refl refl refl refl refl

pub FitsHead-head_of : (line : List ℕ) → IsLine line → is_head line ≡ true → FitsHead (head_of line)
FitsHead-head_of line eight e =
    let a = both_true (word line 0 == log_magic) _ e in let b = both_true _ _ a.1 in let c = both_true _ _ b.1 in let d = both_true _ _ c.1 in let f = both_true _ _ d.1 in
    record {
      thread = ltb-true _ _ c.0;
      threads = leb-true _ _ d.0;
      object = (leb-true _ _ f.0, leb-true _ _ f.1);
      format = format_tested (word line 1) b.0;
      digest = length-digest line eight;
    }

-- ---- lists of lines
length-drop-le : (n : ℕ) (xs : List (List ℕ)) → length (drop n xs) ≤ length xs
length-drop-le zero xs = omega arith
length-drop-le (suc n) [] = omega arith
length-drop-le (suc n) (x ∷ xs) = let h = length-drop-le n xs in omega arith

-- ---- one node
words_of_node-node_of_line : (l : List ℕ) → IsLine l → 1 ≤ word l 0 → words_of_node (node_of_line l) ≡ l
words_of_node-node_of_line [] e low = absurd (omega arith)
words_of_node-node_of_line (w ∷ row) e low = let n : (w - 1) / 4096 * 4096 + ((w - 1) % 4096 + 1) ≡ w = omega arith in λ i. n i ∷ row

FitsNode-node_of_line : (threads : ℕ) (l : List ℕ) → IsLine l → 1 ≤ word l 0 → word l 0 ≤ 4096 * threads → FitsNode threads (node_of_line l)
FitsNode-node_of_line threads [] e low high = absurd (omega arith)
FitsNode-node_of_line threads (w ∷ row) e low high = record { thread = omega arith; number = (omega arith, omega arith); row = omega arith }

node_lines-named : (threads : ℕ) (ls : List (List ℕ)) → AreLines ls → all_named (4096 * threads) ls ≡ true → (node_lines (map node_of_line ls) ≡ ls) × AllByRecursion (FitsNode threads) (map node_of_line ls)
node_lines-named threads [] e h = (refl, tt)
node_lines-named threads (l ∷ ls) e h =
    let a = both_true (nat_le 1 (word l 0)) _ h in let b = both_true (nat_le (word l 0) (4096 * threads)) _ a.1 in let rest = node_lines-named threads ls e.1 b.1 in
    let here = words_of_node-node_of_line l e.0 (leb-true 1 (word l 0) a.0) in let there = rest.0 in
    ((λ i. here i ∷ there i), (FitsNode-node_of_line threads l e.0 (leb-true 1 (word l 0) a.0) (leb-true (word l 0) (4096 * threads) b.0), rest.1))

-- ---- one entry
-- an accepted entry is the encoding of its segment
pub entry_lines-segment_of : (head : LogHead) (before : ℕ) (line : List ℕ) (rest : List (List ℕ)) → IsLine line → AreLines rest → is_entry head before line rest ≡ true
    → (line ∷ rest ≡ entry_lines head before (segment_of line rest) ++ drop (word line 4) rest) × FitsEntry head.threads (segment_of line rest)
entry_lines-segment_of head before line rest eight eights at =
    let f = Accepted-if head before line rest at in let n : ℕ = word line 4 in let lines : List (List ℕ) = take n rest in
    let back = node_lines-named head.threads lines (AreLines-take n rest eights) f.named in
    let nodes : List Node = map node_of_line lines in
    let count : n ≡ length nodes = sym (length-map lines node_of_line ∙ length-take-le n rest f.whole) in
    let front : List ℕ = entry_front head before (segment_of line rest) in
    let begins : line ≡ entry_magic ∷ head.thread ∷ (before + 1) ∷ word line 3 ∷ length nodes ∷ drop 5 line = line_by_words line entry_magic head.thread (before + 1) (word line 3) (length nodes) (drop 5 line) eight f.magic f.own f.next refl count refl in
    let fronts : take 5 line ≡ front = ap (take 5) begins in
    let guarded : drop 5 line ≡ guard head front (node_lines nodes) = f.guarded ∙ (ap (λ (z : List ℕ). guard head z lines) fronts ∙ ap (guard head front) (sym back.0)) in
    let first : line ≡ entry_line head before (segment_of line rest) = begins ∙ ap (λ (z : List ℕ). entry_magic ∷ head.thread ∷ (before + 1) ∷ word line 3 ∷ length nodes ∷ z) guarded in
    let after : rest ≡ node_lines nodes ++ drop n rest = sym (take-append-drop n rest) ∙ ap (λ (l : List (List ℕ)). l ++ drop n rest) (sym back.0) in
    let a = f.some_nodes in let b = f.few_nodes in let c = f.from_one in let d = f.place in
    ((λ i. first i ∷ after i), record { some_nodes = omega arith; few_nodes = omega arith; from_one = omega arith; place = d; nodes = back.1 })

-- ---- the entries of a log
-- lines, after entries before them, are those of these entries, and then lines where no entry begins
record AreWritten (head : LogHead) (before : ℕ) (lines : List (List ℕ)) (ss : List Segment) (rest : List (List ℕ)) : Type 0 where
  all : lines ≡ entries_lines head before ss ++ rest
  ended : entries_from head (before + length ss) 0 rest ≡ []
  fit : FitEntries head.threads ss

abbrev SomeWritten : LogHead → ℕ → List (List ℕ) → List Segment → Type 0
SomeWritten head before lines ss = (rest : List (List ℕ)) × AreWritten head before lines ss rest

SomeWritten-none : (head : LogHead) (before : ℕ) (line : List ℕ) (rest : List (List ℕ)) → is_entry head before line rest ≡ false → SomeWritten head before (line ∷ rest) (entries_from head before 0 (line ∷ rest))
SomeWritten-none head before line rest k =
    let n : entries_from head before 0 (line ∷ rest) ≡ [] = entries_from-none head before line rest k in let z : before + 0 ≡ before = omega arith in
    subst (SomeWritten head before (line ∷ rest)) (sym n) (line ∷ rest, record { all = refl; ended = ap (λ (m : ℕ). entries_from head m 0 (line ∷ rest)) z ∙ n; fit = tt })

SomeWritten-entry : (head : LogHead) (before : ℕ) (line : List ℕ) (rest : List (List ℕ)) → IsLine line → AreLines rest → is_entry head before line rest ≡ true
    → SomeWritten head (suc before) (drop (word line 4) rest) (entries_from head (suc before) 0 (drop (word line 4) rest)) → SomeWritten head before (line ∷ rest) (entries_from head before 0 (line ∷ rest))
SomeWritten-entry head before line rest eight eights k others =
    let more : List Segment = entries_from head (suc before) 0 (drop (word line 4) rest) in
    let s : Segment = segment_of line rest in let a = entry_lines-segment_of head before line rest eight eights k in let w = others.1 in
    let all : entries_from head before 0 (line ∷ rest) ≡ s ∷ more = entries_from-entry head before line rest k ∙ ap (λ (F : List Segment). s ∷ F) (entries_from-drop head (suc before) (word line 4) rest) in
    let z : suc before + length more ≡ before + suc (length more) = omega arith in
    subst (SomeWritten head before (line ∷ rest)) (sym all) (
      others.0,
      record {
        all = a.0 ∙ (ap (λ (l : List (List ℕ)). entry_lines head before s ++ l) w.all ∙ sym (append_assoc (entry_lines head before s) (entries_lines head (suc before) more) others.0));
        ended = ap (λ (m : ℕ). entries_from head m 0 others.0) (sym z) ∙ w.ended;
        fit = (a.1, w.fit);
      },
    )

SomeWritten-entries_from : (fuel : ℕ) (head : LogHead) (before : ℕ) (lines : List (List ℕ)) → length lines ≤ fuel → AreLines lines → SomeWritten head before lines (entries_from head before 0 lines)
SomeWritten-entries_from fuel head before [] l e = ([], record { all = refl; ended = refl; fit = tt })
SomeWritten-entries_from zero head before (h ∷ ls) l e = absurd (omega arith)
SomeWritten-entries_from (suc fuel) head before (h ∷ ls) l e =
    let k = length-drop-le (word h 4) ls in let shorter : length (drop (word h 4) ls) ≤ fuel = omega arith in
    let others = SomeWritten-entries_from fuel head (suc before) (drop (word h 4) ls) shorter (AreLines-drop (word h 4) ls e.1) in
    ⊎_elim (λ (t : is_entry head before h ls ≡ true). SomeWritten-entry head before h ls e.0 e.1 t others)
    (λ (t : is_entry head before h ls ≡ false). SomeWritten-none head before h ls t)
    (cases_Bool (is_entry head before h ls))

-- ---- an image
IsWritten-head : (line : List ℕ) (rest : List (List ℕ)) → IsLine line → AreLines rest → is_head line ≡ true → IsWritten (line ∷ rest) (head_of line) (entries_from (head_of line) 0 0 rest)
IsWritten-head line rest eight eights e =
    let head : LogHead = head_of line in let ss : List Segment = entries_from (head_of line) 0 0 rest in
    let some = SomeWritten-entries_from (length rest) head 0 rest (omega arith) eights in let w = some.1 in
    let first : line ≡ head_line head = head_line-head_of line eight e in
    let all : line ∷ rest ≡ log_lines head ss ++ some.0 = (let there = w.all in λ i. first i ∷ there i) in
    let after : drop (1 + lines_in ss) (line ∷ rest) ≡ some.0 = ap (drop (1 + lines_in ss)) all ∙ drop_at (log_lines head ss) some.0 (1 + lines_in ss) (length-log_lines head ss) in
    let z : 0 + length ss ≡ length ss = omega arith in
    record {
      fits_head = FitsHead-head_of line eight e;
      fit_entries = w.fit;
      lines = all ∙ ap (λ (l : List (List ℕ)). log_lines head ss ++ l) (sym after);
      ended = ap (λ (l : List (List ℕ)). entries_from head (length ss) 0 l) after ∙ (ap (λ (n : ℕ). entries_from head n 0 some.0) (sym z) ∙ w.ended);
    }

content_of-no_head : (line : List ℕ) (rest : List (List ℕ)) → is_head line ≡ false
    → content_of (line ∷ rest) ≡ cond {A = Option Content} (are_zero_lines (line ∷ rest)) (Some (record { head = None; entries = [] })) None
content_of-no_head line rest e = ap (λ (b : Bool). cond {A = Option Content} b (Some (record { head = Some (head_of line); entries = entries_from (head_of line) 0 0 rest }))
    (cond {A = Option Content} (are_zero_lines (line ∷ rest)) (Some (record { head = None; entries = [] })) None)) e

abbrev is_there : Option LogHead → Bool
is_there None = false
is_there (Some h) = true

abbrev headed : Option Content → Bool
headed None = false
headed (Some c) = is_there c.head

abbrev holding : LogHead → List Segment → Option Content
holding head ss = Some (record { head = Some head; entries = ss })

abbrev head_or : LogHead → Option LogHead → LogHead
head_or d None = d
head_or d (Some h) = h

abbrev head_in : LogHead → Option Content → LogHead
head_in d None = d
head_in d (Some c) = head_or d c.head

abbrev entries_in : Option Content → List Segment
entries_in None = []
entries_in (Some c) = c.entries

same_parts : (a b : LogHead) (ss ts : List Segment) → holding a ss ≡ holding b ts → (a ≡ b) × (ss ≡ ts)
same_parts a b ss ts e = (ap (head_in a) e, ap entries_in e)

headless : (b : Bool) → headed (cond {A = Option Content} b (Some (record { head = None; entries = [] })) None) ≡ false
headless true = refl
headless false = refl

-- what an image holds is written there
pub IsWritten-Holds : (image : List (List ℕ)) (head : LogHead) (ss : List Segment) → AreLines image → Holds image head ss → IsWritten image head ss
IsWritten-Holds [] head ss eights h = absurd (cc)
IsWritten-Holds (l ∷ ls) head ss eights h = ⊎_elim (λ (e : is_head l ≡ true). read e (content_of-head l ls e)) (λ (e : is_head l ≡ false). absurd (true≢false (ap headed (sym h ∙ content_of-no_head l ls e) ∙ headless (are_zero_lines (l ∷ ls))))) (cases_Bool (is_head l))
  where
    read : is_head l ≡ true → content_of (l ∷ ls) ≡ Some (record { head = Some (head_of l); entries = entries_from (head_of l) 0 0 ls }) → IsWritten (l ∷ ls) head ss
    read e c = let p = same_parts (head_of l) head (entries_from (head_of l) 0 0 ls) ss (sym c ∙ h) in
        subst (λ (F : List Segment). IsWritten (l ∷ ls) head F) p.1 (subst (λ (g : LogHead). IsWritten (l ∷ ls) g (entries_from (head_of l) 0 0 ls)) p.0 (IsWritten-head l ls eights.0 eights.1 e))

-- what is written in an image it holds
pub Holds-IsWritten : (image : List (List ℕ)) (head : LogHead) (ss : List Segment) → IsWritten image head ss → Holds image head ss
Holds-IsWritten image head ss w =
    let rest : List (List ℕ) = drop (used_with (Some head) ss) image in
    ap content_of w.lines ∙ (content_of-head_line head (entries_lines head 0 ss ++ rest) w.fits_head ∙
    ap (λ (l : List Segment). Some (record { head = Some head; entries = l })) (entries_from-entries_lines head ss rest w.fit_entries ∙ (ap (λ (l : List Segment). ss ++ l) w.ended ∙ append-nil ss)))

-- an image holds what is written in it, and nothing else
pub Holds-exactly : (image : List (List ℕ)) (head : LogHead) (ss : List Segment) → AreLines image → Holds image head ss ↔ IsWritten image head ss
Holds-exactly image head ss eights = (IsWritten-Holds image head ss eights, Holds-IsWritten image head ss)

-- ---- the empty log
zero_line-tested : (line : List ℕ) → IsLine line → is_zero_line line ≡ true → line ≡ zero_line
zero_line-tested line eight e = zeros line e ∙ ap (λ (n : ℕ). replicate n 0) eight
  where
    zeros : (ws : List ℕ) → is_zero_line ws ≡ true → ws ≡ replicate (length ws) 0
    zeros [] e = refl
    zeros (w ∷ ws) e = let h = both_true (w == 0) (is_zero_line ws) e in let here = eqb-true w 0 h.0 in let rest = zeros ws h.1 in λ i. here i ∷ rest i

zero_lines-tested : (lines : List (List ℕ)) → AreLines lines → are_zero_lines lines ≡ true → lines ≡ zero_lines (length lines)
zero_lines-tested [] eights e = refl
zero_lines-tested (l ∷ ls) eights e = let h = both_true (is_zero_line l) (are_zero_lines ls) e in let here = zero_line-tested l eights.0 h.0 in let rest = zero_lines-tested ls eights.1 h.1 in λ i. here i ∷ rest i

none_parts : (ss : List Segment) (b : Bool) → cond {A = Option Content} b (Some (record { head = None; entries = [] })) None ≡ Some (record { head = None; entries = ss }) → (b ≡ true) × (ss ≡ [])
none_parts ss true e = (refl, sym (ap entries_in e))
none_parts ss false e = absurd (cc)

-- an image without a head is all zero
pub IsEmptyLog-no_head : (image : List (List ℕ)) (ss : List Segment) → AreLines image → content_of image ≡ Some (record { head = None; entries = ss }) → IsEmptyLog image ss
IsEmptyLog-no_head [] ss eights h = absurd (cc)
IsEmptyLog-no_head (l ∷ ls) ss eights h = ⊎_elim (λ (e : is_head l ≡ true). absurd (true≢false (sym (ap headed (content_of-head l ls e)) ∙ ap headed h))) (λ (e : is_head l ≡ false). read (none_parts ss (are_zero_lines (l ∷ ls)) (sym (content_of-no_head l ls e) ∙ h))) (cases_Bool (is_head l))
  where
    read : (are_zero_lines (l ∷ ls) ≡ true) × (ss ≡ []) → IsEmptyLog (l ∷ ls) ss
    read p = record { some_lines = omega arith; zeros = zero_lines-tested (l ∷ ls) eights p.0; no_entries = p.1 }

pub no_head-IsEmptyLog : (image : List (List ℕ)) (ss : List Segment) → IsEmptyLog image ss → content_of image ≡ Some (record { head = None; entries = ss })
no_head-IsEmptyLog image ss f = ap content_of f.zeros ∙ (content_of-zero_lines (length image) f.some_lines ∙ ap (λ (l : List Segment). Some (record { head = None; entries = l })) (sym f.no_entries))

pub no_head-exactly : (image : List (List ℕ)) (ss : List Segment) → AreLines image → (content_of image ≡ Some (record { head = None; entries = ss })) ↔ IsEmptyLog image ss
no_head-exactly image ss eights = (IsEmptyLog-no_head image ss eights, no_head-IsEmptyLog image ss)

-- ---- the used lines of an image
-- they are the lines of its log
pub take-used : (image : List (List ℕ)) (head : LogHead) (ss : List Segment) → AreLines image → Holds image head ss → take (used_with (Some head) ss) image ≡ log_lines head ss
take-used image head ss eights h =
    let used : ℕ = used_with (Some head) ss in let w = IsWritten-Holds image head ss eights h in
    ap (take used) w.lines ∙ take_at (log_lines head ss) (drop used image) used (length-log_lines head ss)

-- where only zeros stand after them, the image is that log and zeros
pub log_image-Holds : (image : List (List ℕ)) (head : LogHead) (ss : List Segment) → AreLines image → Holds image head ss → are_zero_lines (drop (used_with (Some head) ss) image) ≡ true
    → image ≡ log_image head ss (length image - used_with (Some head) ss)
log_image-Holds image head ss eights h z =
    let used : ℕ = used_with (Some head) ss in let w = IsWritten-Holds image head ss eights h in
    let zeros : drop used image ≡ zero_lines (length (drop used image)) = zero_lines-tested (drop used image) (AreLines-drop used image eights) z in
    let count : length (drop used image) ≡ length image - used = length-drop used image in
    w.lines ∙ ap (λ (l : List (List ℕ)). log_lines head ss ++ l) (zeros ∙ ap zero_lines count)
