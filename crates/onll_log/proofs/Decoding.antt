-- What the decoder's steps make of lines.
use Rattle.std.proofs.Common.{◌≡◌, ℕ, zero, suc, ◌+◌, ◌-◌, ◌*◌, ◌<◌, ◌≤◌, ◌==◌, eqb, Bool, true, false, List, [], ◌∷◌, ◌++◌, length, get_or, set, take, drop, map, replicate, sym, refl, ap, ◌∙◌, subst, arith, append_assoc, length-append, ◌⊎◌, inl, inr}
use Rattle.std.specs.Prelude.{◌&&◌, nat_le}
use Rattle.std.specs.Cmp.Lexicographic.{pointwise}
use Rattle.std.proofs.lemmas.Bool.{leb-true, le-leb, cases_Bool}
use Rattle.std.proofs.lemmas.List.{take_more_set, map_more, map-append, take-map, drop-map, drop-drop, length-map, length-drop, length-take-le, drop_more}
use Rattle.onll_words.specs.declared.line.Line.{Line}
use Rattle.onll_model.specs.declared.node.Node.{Node}
use Rattle.onll_model.specs.Names.{words_of_node}
use Rattle.onll_model.specs.Segment.{Segment}
use Rattle.onll_pmem.specs.Pmem.{words_of}
use Rattle.onll_log.specs.declared.head.LogHead.{LogHead}
use Rattle.onll_log.specs.declared.decoded.Entry.{Entry}
use Rattle.onll_log.specs.Head.{word}
use Rattle.onll_log.specs.Encoding.{entry_magic, guard, entry_line, node_lines}
use Rattle.onll_log.specs.Grammar.{same_words, all_named, is_entry, node_of_line, segment_of, entries_from, is_zero_line, lines_in}
use Rattle.onll_log.specs.Decoded.{segment_in, segments_in, placed_from}
use Rattle.onll_log.proofs.Accepted.{both_true, and_true, entries_from-entry, entries_from-none, entries_from-drop, Accepted-if}

-- ---- words
pub same_words-pointwise : (xs ys : List ℕ) → pointwise eqb xs ys ≡ same_words xs ys
same_words-pointwise [] [] = refl
same_words-pointwise [] (y ∷ ys) = refl
same_words-pointwise (x ∷ xs) [] = refl
same_words-pointwise (x ∷ xs) (y ∷ ys) = ap (λ (b : Bool). (x == y) && b) (same_words-pointwise xs ys)

pub is_zero_line-pointwise : (n : ℕ) (ws : List ℕ) → length ws ≡ n → pointwise eqb ws (replicate n 0) ≡ is_zero_line ws
is_zero_line-pointwise zero [] l = refl
is_zero_line-pointwise zero (w ∷ ws) l = absurd (omega arith)
is_zero_line-pointwise (suc n) [] l = absurd (omega arith)
is_zero_line-pointwise (suc n) (w ∷ ws) l = ap (λ (b : Bool). (w == 0) && b) (is_zero_line-pointwise n ws (omega arith))

pub three_words : (ws : List ℕ) → length ws ≡ 3 → get_or ws 0 0 ∷ get_or ws 1 0 ∷ get_or ws 2 0 ∷ [] ≡ ws
three_words [] l = absurd (omega arith)
three_words (a ∷ []) l = absurd (omega arith)
three_words (a ∷ b ∷ []) l = absurd (omega arith)
three_words (a ∷ b ∷ c ∷ []) l = refl
three_words (a ∷ b ∷ c ∷ d ∷ ws) l = absurd (omega arith)

pub last_words : (ws : List ℕ) → length ws ≡ 8 → get_or ws 5 0 ∷ get_or ws 6 0 ∷ get_or ws 7 0 ∷ [] ≡ drop 5 ws
last_words [] l = absurd (omega arith)
last_words (a ∷ []) l = absurd (omega arith)
last_words (a ∷ b ∷ []) l = absurd (omega arith)
last_words (a ∷ b ∷ c ∷ []) l = absurd (omega arith)
last_words (a ∷ b ∷ c ∷ d ∷ []) l = absurd (omega arith)
last_words (a ∷ b ∷ c ∷ d ∷ e ∷ ws) l = three_words ws (omega arith)

-- ---- an entry's line
pub words_more : (lines : List Line) (nodes : List Node) (i : ℕ) (x : Line) (d : Node) → i < length lines → i < length nodes → words_of (take i lines) ≡ node_lines (take i nodes)
    → x.w ≡ words_of_node (get_or nodes i d) → words_of (take (i + 1) (set lines i x)) ≡ node_lines (take (i + 1) nodes)
words_more lines nodes i x d l m e h =
    ap words_of (take_more_set lines i x l) ∙ map-append (λ (line : Line). line.w) (take i lines) (x ∷ [])
    ∙ ap (λ (ls : List (List ℕ)). ls ++ x.w ∷ []) e ∙ ap (λ (ws : List ℕ). node_lines (take i nodes) ++ ws ∷ []) h
    ∙ sym (map_more words_of_node nodes i d m)

pub entry_words : (head : LogHead) (sequence place : ℕ) (nodes : List Node) (g : List ℕ) (ls : List (List ℕ)) → 1 ≤ sequence → length g ≡ 3 → ls ≡ node_lines nodes
    → g ≡ guard head (entry_magic ∷ head.thread ∷ sequence ∷ place ∷ length nodes ∷ []) ls
    → entry_magic ∷ head.thread ∷ sequence ∷ place ∷ length nodes ∷ get_or g 0 0 ∷ get_or g 1 0 ∷ get_or g 2 0 ∷ [] ≡ entry_line head (sequence - 1) (record { place = place; nodes = nodes })
entry_words head sequence place nodes g ls one three same guarded =
    let next : sequence ≡ sequence - 1 + 1 = omega arith in
    ap (λ (ws : List ℕ). front sequence ++ ws) (three_words g three ∙ guarded ∙ ap (guard head (front sequence)) same)
    ∙ ap (λ (n : ℕ). front n ++ guard head (front n) (node_lines nodes)) next
  where
    front : ℕ → List ℕ
    front n = entry_magic ∷ head.thread ∷ n ∷ place ∷ length nodes ∷ []

-- ---- the test for an entry
left_true : (a b : Bool) → a ≡ true → b ≡ a && b
left_true a b e = sym (ap (λ (c : Bool). c && b) e)

-- the parts of the test in three groups
pub in_three : (m o n s f r p w t : Bool) → m && (o && n) ≡ true → s && (f && (r && (p && w))) ≡ true → t ≡ m && (o && (n && (s && (f && (r && (p && (w && t)))))))
in_three m o n s f r p w t x y =
    let a = both_true m (o && n) x in let b = both_true o n a.1 in
    let c = both_true s (f && (r && (p && w))) y in let d = both_true f (r && (p && w)) c.1 in let e = both_true r (p && w) d.1 in let g = both_true p w e.1 in
    left_true w t g.1 ∙ left_true p (w && t) g.0 ∙ left_true r (p && (w && t)) e.0 ∙ left_true f (r && (p && (w && t))) d.0 ∙ left_true s (f && (r && (p && (w && t)))) c.0
    ∙ left_true n (s && (f && (r && (p && (w && t))))) b.1 ∙ left_true o (n && (s && (f && (r && (p && (w && t)))))) b.0 ∙ left_true m (o && (n && (s && (f && (r && (p && (w && t))))))) a.0

pub words_of-take : (n : ℕ) (lines : List Line) → take n (words_of lines) ≡ words_of (take n lines)
words_of-take n lines = take-map (λ (line : Line). line.w) n lines

-- the whole test, from its three groups
pub entry_test : (head : LogHead) (before : ℕ) (line : List ℕ) (rest : List Line) (x y t : Bool)
    → x ≡ (word line 0 == entry_magic) && ((word line 1 == head.thread) && (word line 2 == before + 1)) → x ≡ true
    → y ≡ nat_le 1 (word line 4) && (nat_le (word line 4) head.threads && (nat_le (word line 4) (word line 3) && (nat_le (word line 3) (4096 * head.threads) && nat_le (word line 4) (length rest)))) → y ≡ true
    → t ≡ all_named (4096 * head.threads) (words_of (take (word line 4) rest)) && same_words (drop 5 line) (guard head (take 5 line) (words_of (take (word line 4) rest)))
    → t ≡ is_entry head before line (words_of rest)
entry_test head before line rest x y t ex tx ey ty et =
    et ∙ in_three (word line 0 == entry_magic) (word line 1 == head.thread) (word line 2 == before + 1) (nat_le 1 (word line 4)) (nat_le (word line 4) head.threads) (nat_le (word line 4) (word line 3))
    (nat_le (word line 3) (4096 * head.threads)) (nat_le (word line 4) (length rest)) (guarded (words_of (take (word line 4) rest))) (sym ex ∙ tx) (sym ey ∙ ty)
    ∙ ap (λ (n : ℕ). whole n (words_of (take (word line 4) rest))) (sym (length-map rest (λ (l : Line). l.w))) ∙ ap (whole (length (words_of rest))) (sym (words_of-take (word line 4) rest))
  where
    guarded : List (List ℕ) → Bool
    guarded ls = all_named (4096 * head.threads) ls && same_words (drop 5 line) (guard head (take 5 line) ls)

    whole : ℕ → List (List ℕ) → Bool
    whole n ls = (word line 0 == entry_magic) && ((word line 1 == head.thread) && ((word line 2 == before + 1) && (nat_le 1 (word line 4) && (nat_le (word line 4) head.threads
        && (nat_le (word line 4) (word line 3) && (nat_le (word line 3) (4096 * head.threads) && (nat_le (word line 4) n && guarded ls)))))))

-- ---- the entries
-- more names
pub all_named-le : (low high : ℕ) (ls : List (List ℕ)) → low ≤ high → all_named low ls ≡ true → all_named high ls ≡ true
all_named-le low high [] l e = refl
all_named-le low high (x ∷ xs) l e = let a = both_true (nat_le 1 (word x 0)) (nat_le (word x 0) low && all_named low xs) e in let b = both_true (nat_le (word x 0) low) (all_named low xs) a.1 in
    let under : word x 0 ≤ low = leb-true _ _ b.0 in
    and_true _ _ a.0 (and_true _ _ (le-leb (word x 0) high (omega arith)) (all_named-le low high xs l b.1))

-- the node lines of an accepted entry have names
pub named_lines : (head : LogHead) (before : ℕ) (line : List ℕ) (rest : List Line) → head.threads ≤ 16 → is_entry head before line (words_of rest) ≡ true → all_named 65536 (words_of (take (word line 4) rest)) ≡ true
named_lines head before line rest few e =
    ap (all_named 65536) (sym (words_of-take (word line 4) rest)) ∙ all_named-le (4096 * head.threads) 65536 (take (word line 4) (words_of rest)) (omega arith) (Accepted-if head before line (words_of rest) e).named

pub whole_lines : (head : LogHead) (before : ℕ) (line : List ℕ) (rest : List Line) → is_entry head before line (words_of rest) ≡ true → word line 4 ≤ length rest
whole_lines head before line rest e = let whole = (Accepted-if head before line (words_of rest) e).whole in omega (arith, length-map rest (λ (l : Line). l.w))

pub segments_in-placed_from : (line : ℕ) (ss : List Segment) → segments_in (placed_from line ss) ≡ ss
segments_in-placed_from line [] = refl
segments_in-placed_from line (s ∷ ss) = ap (λ (rest : List Segment). s ∷ rest) (segments_in-placed_from (line + suc (length s.nodes)) ss)

-- the entries that are read and those that are left, where the next line to be looked at has this number
pub record Read (head : LogHead) (lines : List Line) (entries : List Entry) (at : ℕ) : Type 0 where
  pub within : at ≤ length lines
  pub few : length entries ≤ at
  pub all : entries ++ placed_from (at + 1) (entries_from head (length entries) 0 (words_of (drop at lines))) ≡ placed_from 1 (entries_from head 0 0 (words_of lines))

-- the lines that are left begin with the next one
words_left : (lines : List Line) (at : ℕ) (d : Line) → at < length lines → words_of (drop at lines) ≡ (get_or lines at d).w ∷ words_of (drop (at + 1) lines)
words_left lines at d l = ap words_of (drop_more lines at d l)

-- where one is
pub Read-more : (head : LogHead) (lines : List Line) (entries : List Entry) (at next : ℕ) (d : Line) (e : Entry) → Read head lines entries at → at < length lines
    → is_entry head (length entries) (get_or lines at d).w (words_of (drop (at + 1) lines)) ≡ true
    → e.line ≡ at + 1 → segment_in e ≡ segment_of (get_or lines at d).w (words_of (drop (at + 1) lines)) → next ≡ at + (1 + word (get_or lines at d).w 4)
    → Read head lines (entries ++ e ∷ []) next
Read-more head lines entries at next d e r l accepted place same step =
    let ok = Accepted-if head (length entries) (get_or lines at d).w (words_of (drop (at + 1) lines)) accepted in
    let whole = ok.whole in
    let here : entries_from head (length entries) 0 (words_of (drop at lines)) ≡ segment_in e ∷ entries_from head (length (entries ++ e ∷ [])) 0 (words_of (drop next lines)) =
    ap (entries_from head (length entries) 0) (words_left lines at d l) ∙ entries_from-entry head (length entries) (get_or lines at d).w (words_of (drop (at + 1) lines)) accepted
    ∙ ap (λ (s : Segment). s ∷ entries_from head (suc (length entries)) (word (get_or lines at d).w 4) (words_of (drop (at + 1) lines))) (sym same)
    ∙ ap (λ (ss : List Segment). segment_in e ∷ ss) (entries_from-drop head (suc (length entries)) (word (get_or lines at d).w 4) (words_of (drop (at + 1) lines)) ∙ left) in
    record {
      within = omega (arith, length-map (drop (at + 1) lines) (λ (line : Line). line.w), length-drop (at + 1) lines);
      few = let f = r.few in omega (arith, length-append entries (e ∷ []));
      all = append_assoc entries (e ∷ []) _ ∙ (ap (λ (es : List Entry). entries ++ es) (placed (entries_from head (length (entries ++ e ∷ [])) 0 (words_of (drop next lines))))
          ∙ (ap (λ (ss : List Segment). entries ++ placed_from (at + 1) ss) (sym here) ∙ r.all));
    }
  where
    left : entries_from head (suc (length entries)) 0 (drop (word (get_or lines at d).w 4) (words_of (drop (at + 1) lines))) ≡ entries_from head (length (entries ++ e ∷ [])) 0 (words_of (drop next lines))
    left = let more : suc (length entries) ≡ length (entries ++ e ∷ []) = omega (arith, length-append entries (e ∷ [])) in let to : at + 1 + word (get_or lines at d).w 4 ≡ next = omega arith in
        ap (entries_from head (suc (length entries)) 0) (drop-map (λ (line : Line). line.w) (word (get_or lines at d).w 4) (drop (at + 1) lines) ∙ ap words_of (drop-drop (word (get_or lines at d).w 4) (at + 1) lines ∙ ap (λ (n : ℕ). drop n lines) to))
        ∙ ap (λ (n : ℕ). entries_from head n 0 (words_of (drop next lines))) more

    count : length e.nodes ≡ word (get_or lines at d).w 4
    count = ap (λ (s : Segment). length s.nodes) same ∙ length-map (take (word (get_or lines at d).w 4) (words_of (drop (at + 1) lines))) node_of_line
        ∙ length-take-le (word (get_or lines at d).w 4) (words_of (drop (at + 1) lines)) (Accepted-if head (length entries) (get_or lines at d).w (words_of (drop (at + 1) lines)) accepted).whole

    placed : (ss : List Segment) → e ∷ placed_from (next + 1) ss ≡ placed_from (at + 1) (segment_in e ∷ ss)
    placed ss = let to : next + 1 ≡ at + 1 + suc (length e.nodes) = omega (arith, count) in
        ap (λ (n : ℕ). e ∷ placed_from n ss) to ∙ ap (λ (n : ℕ). record { line = n; place = e.place; nodes = e.nodes } ∷ placed_from (at + 1 + suc (length e.nodes)) ss) place

-- the decoder's step, by what its calls answer
pub Read-step : (head : LogHead) (lines rest : List Line) (entries items : List Entry) (at before : ℕ) (d : Line) (e : Entry) (answer : Bool) → Read head lines entries at → at < length lines
    → rest ≡ drop (at + 1) lines → before ≡ length entries → answer ≡ is_entry head before (get_or lines at d).w (words_of rest) → answer ≡ true
    → e.line ≡ at + 1 → segment_in e ≡ segment_of (get_or lines at d).w (words_of rest) → items ≡ entries ++ e ∷ []
    → Read head lines items (at + (1 + word (get_or lines at d).w 4))
Read-step head lines rest entries items at before d e answer r l left count says accepted place same more =
    let rest_is : words_of rest ≡ words_of (drop (at + 1) lines) = ap words_of left in
    let ok : is_entry head (length entries) (get_or lines at d).w (words_of (drop (at + 1) lines)) ≡ true =
    ap (is_entry head (length entries) (get_or lines at d).w) (sym rest_is) ∙ (ap (λ (n : ℕ). is_entry head n (get_or lines at d).w (words_of rest)) (sym count) ∙ (sym says ∙ accepted)) in
    let to : at + (1 + word (get_or lines at d).w 4) ≡ at + (1 + word (get_or lines at d).w 4) = refl in
    subst (λ (es : List Entry). Read head lines es (at + (1 + word (get_or lines at d).w 4))) (sym more)
    (Read-more head lines entries at (at + (1 + word (get_or lines at d).w 4)) d e r l ok place (same ∙ ap (segment_of (get_or lines at d).w) rest_is) to)

pub segments_of_read : (es : List Entry) (ss : List Segment) → es ≡ placed_from 1 ss → segments_in es ≡ ss
segments_of_read es ss e = ap segments_in e ∙ segments_in-placed_from 1 ss

pub places_of_read : (es : List Entry) (ss : List Segment) → es ≡ placed_from 1 ss → es ≡ placed_from 1 (segments_in es)
places_of_read es ss e = e ∙ ap (placed_from 1) (sym (segments_of_read es ss e))

-- the lines of an image without its first
pub words_of-rest : (lines rest : List Line) → rest ≡ drop 1 lines → words_of rest ≡ drop 1 (words_of lines)
words_of-rest lines rest e = ap words_of e ∙ sym (drop-map (λ (line : Line). line.w) 1 lines)

-- ---- how many lines entries take
lines_after : (head : LogHead) (before skip : ℕ) (ls : List (List ℕ)) → skip ≤ length ls → skip + lines_in (entries_from head before skip ls) ≤ length ls
lines_after head before zero [] l = omega arith
lines_after head before (suc skip) [] l = absurd (omega arith)
lines_after head before (suc skip) (x ∷ xs) l = let h = lines_after head before skip xs (omega arith) in omega arith
lines_after head before zero (x ∷ xs) l = at (cases_Bool (is_entry head before x xs)) (λ (w : word x 4 ≤ length xs). lines_after head (suc before) (word x 4) xs w)
  where
    at : (is_entry head before x xs ≡ true) ⊎ (is_entry head before x xs ≡ false) → (word x 4 ≤ length xs → word x 4 + lines_in (entries_from head (suc before) (word x 4) xs) ≤ length xs)
        → 0 + lines_in (entries_from head before 0 (x ∷ xs)) ≤ length (x ∷ xs)
    at (inl e) more = let whole = (Accepted-if head before x xs e).whole in let h = more whole in
        let count : length (map node_of_line (take (word x 4) xs)) ≡ word x 4 = length-map (take (word x 4) xs) node_of_line ∙ length-take-le (word x 4) xs whole in
        let here = ap lines_in (entries_from-entry head before x xs e) in omega arith
    at (inr e) more = let here = ap lines_in (entries_from-none head before x xs e) in omega arith

pub lines_in-entries_from : (head : LogHead) (before : ℕ) (ls : List (List ℕ)) → lines_in (entries_from head before 0 ls) ≤ length ls
lines_in-entries_from head before ls = let h = lines_after head before 0 ls (omega arith) in omega arith

-- what is used of an image that begins with a head
pub used_lines : (head : LogHead) (lines : List Line) → 1 ≤ length lines → suc (lines_in (entries_from head 0 0 (drop 1 (words_of lines)))) ≤ length lines
used_lines head lines one = let h = lines_in-entries_from head 0 (drop 1 (words_of lines)) in omega (arith, length-drop 1 (words_of lines), length-map lines (λ (l : Line). l.w))
