-- Where a cursor stands, and where it goes.
use Rattle.std.proofs.Common.{◌≡◌, ℕ, zero, suc, ◌+◌, ◌*◌, ◌<◌, ◌≤◌, true, false, List, [], ◌∷◌, ◌++◌, length, get_or, take, drop, map, sym, refl, ap, ◌∙◌, subst, arith, append-nil, ◌⊎◌, inl, inr, Option, Some, None}
use Rattle.std.specs.List.{slice_get}
use Rattle.std.proofs.lemmas.Bool.{leb-true, cases_Bool}
use Rattle.std.proofs.lemmas.List.{drop-drop, length-map, length-drop, length-take-le, drop_more, take_more, take-append-drop, drop-map, get_or-take, get_or-drop}
use Rattle.std.proofs.lemmas.Option.{same_Some}
use Rattle.onll_words.specs.declared.line.Line.{Line}
use Rattle.onll_pmem.specs.Pmem.{words_of}
use Rattle.onll_model.specs.declared.node.Node.{Node}
use Rattle.onll_model.specs.Segment.{Segment}
use Rattle.onll_log.specs.declared.head.LogHead.{LogHead}
use Rattle.onll_log.specs.declared.cursor.EntryView.{EntryView}
use Rattle.onll_log.specs.Head.{word}
use Rattle.onll_log.specs.Grammar.{all_named, entries_from, is_entry, lines_in, node_of_line, segment_of, used_by, used_with}
use Rattle.onll_log.specs.Cursor.{CursorState, StandsAt, entries_left, entries_passed, entries_under, first_nodes, first_view, lines_passed}
use Rattle.onll_log.proofs.Accepted.{both_true, entries_from-entry, entries_from-none, entries_from-drop, Accepted-if}
use Rattle.onll_log.proofs.Decoding.{all_named-le}
use Rattle.onll_log.proofs.Encoded.{lines_in-append}

-- ---- the entry that was looked at
abbrev view : ℕ → List ℕ → EntryView
view at line = record { line = at; place = word line 3; count = word line 4 }

-- it begins with this line, before the rest
record Looked (head : LogHead) (before at : ℕ) (left : List (List ℕ)) (e : EntryView) : Type 0 where
  line : List ℕ
  rest : List (List ℕ)
  split : left ≡ line ∷ rest
  accepted : is_entry head before line rest ≡ true
  is : e ≡ view at line

count_is : (head : LogHead) (before : ℕ) (line : List ℕ) (rest : List (List ℕ)) → is_entry head before line rest ≡ true → length (segment_of line rest).nodes ≡ word line 4
count_is head before line rest t = length-map (take (word line 4) rest) node_of_line ∙ length-take-le (word line 4) rest (Accepted-if head before line rest t).whole

-- the first view of lines where an entry is accepted
pub accepted_view : (head : LogHead) (before at : ℕ) (line : List ℕ) (rest : List (List ℕ)) → is_entry head before line rest ≡ true
    → first_view at (entries_from head before 0 (line ∷ rest)) ≡ Some (record { line = at; place = word line 3; count = word line 4 })
accepted_view head before at line rest t =
    ap (first_view at) (entries_from-entry head before line rest t) ∙ ap (λ (n : ℕ). Some (record { line = at; place = word line 3; count = n })) (count_is head before line rest t)

pub refused_view : (head : LogHead) (before at : ℕ) (line : List ℕ) (rest : List (List ℕ)) → is_entry head before line rest ≡ false → first_view at (entries_from head before 0 (line ∷ rest)) ≡ None
refused_view head before at line rest f = ap (first_view at) (entries_from-none head before line rest f)

looked_at : (head : LogHead) (before at : ℕ) (left : List (List ℕ)) (e : EntryView) → Some e ≡ first_view at (entries_from head before 0 left) → Looked head before at left e
looked_at head before at [] e h = absurd (cc)
looked_at head before at (line ∷ rest) e h = by_test (cases_Bool (is_entry head before line rest))
  where
    by_test : (is_entry head before line rest ≡ true) ⊎ (is_entry head before line rest ≡ false) → Looked head before at (line ∷ rest) e
    by_test (inl t) = record { line = line; rest = rest; split = refl; accepted = t; is = same_Some e (view at line) (h ∙ accepted_view head before at line rest t) }
    by_test (inr f) = let none : Some e ≡ None = h ∙ refused_view head before at line rest f in absurd (cc)

-- ---- the next entry
drop_first : {A : Type 0} (xs rest : List A) (n k : ℕ) (x : A) → drop n xs ≡ x ∷ rest → drop (n + (1 + k)) xs ≡ drop k rest
drop_first xs rest n k x e = let to : 1 + k ≡ suc k = omega arith in
    sym (drop-drop (1 + k) n xs) ∙ (ap (λ (m : ℕ). drop m (drop n xs)) to ∙ ap (drop (suc k)) e)

first_same : {A : Type 0} (x y : A) (xs ys : List A) → x ∷ xs ≡ y ∷ ys → x ≡ y
first_same x y xs ys e = cc e

-- one entry more, of those that are left
pub goes_on : (head : LogHead) (lines : List (List ℕ)) (passed at : ℕ) (e : EntryView) (next : Option EntryView) → StandsAt (Some head) lines passed at (Some e)
    → next ≡ first_view (at + (1 + e.count)) (entries_from head (passed + 1) 0 (drop (at + (1 + e.count)) lines))
    → StandsAt (Some head) lines (passed + 1) (at + (1 + e.count)) next
goes_on head lines passed at e next h n =
    let es = entries_from head 0 0 (drop 1 lines) in
    let f = looked_at head passed at (drop at lines) e h.looked in
    let s = segment_of f.line f.rest in
    let more = entries_from head (suc passed) (word f.line 4) f.rest in
    let d : drop passed es ≡ s ∷ more = h.left ∙ (ap (entries_from head passed 0) f.split ∙ entries_from-entry head passed f.line f.rest f.accepted) in
    let ok = Accepted-if head passed f.line f.rest f.accepted in
    let whole = ok.whole in
    let some = ok.some_nodes in
    let count : e.count ≡ word f.line 4 = ap (λ (v : EntryView). v.count) f.is in
    let nodes : length s.nodes ≡ word f.line 4 = count_is head passed f.line f.rest f.accepted in
    let there : passed < length es = omega (arith, length-drop passed es, ap length d) in
    let first : get_or es passed s ≡ s = first_same (get_or es passed s) s (drop (passed + 1) es) more (sym (drop_more es passed s there) ∙ d) in
    let taken : take (passed + 1) es ≡ take passed es ++ s ∷ [] = take_more es passed s there ∙ ap (λ (x : Segment). take passed es ++ x ∷ []) first in
    let up : suc passed ≡ passed + 1 = omega arith in
    let lines_on : drop (at + (1 + e.count)) lines ≡ drop (word f.line 4) f.rest = drop_first lines f.rest at e.count f.line f.split ∙ ap (λ (k : ℕ). drop k f.rest) count in
    record {
      threads = h.threads;
      few = let few = h.few in omega arith;
      within = omega (arith, length-drop at lines, ap length f.split);
      gone = let gone = h.gone in omega (arith, ap lines_in taken, lines_in-append (take passed es) (s ∷ []));
      left = sym (drop-drop 1 passed es) ∙ (ap (drop 1) d ∙ (entries_from-drop head (suc passed) (word f.line 4) f.rest
          ∙ (ap (λ (k : ℕ). entries_from head k 0 (drop (word f.line 4) f.rest)) up ∙ ap (entries_from head (passed + 1) 0) (sym lines_on))));
      looked = n;
    }

-- ---- a node of the entry
named_at : (top : ℕ) (ls : List (List ℕ)) (i : ℕ) (d : List ℕ) → all_named top ls ≡ true → i < length ls → (1 ≤ word (get_or ls i d) 0) × (word (get_or ls i d) 0 ≤ top)
named_at top [] i d e l = absurd (omega arith)
named_at top (x ∷ xs) zero d e l = let a = both_true _ _ e in let b = both_true _ _ a.1 in (leb-true _ _ a.0, leb-true _ _ b.0)
named_at top (x ∷ xs) (suc i) d e l = let a = both_true _ _ e in let b = both_true _ _ a.1 in named_at top xs i d b.1 (omega arith)

get_of_map : {A B : Type 0} (f : A → B) (xs : List A) (i : ℕ) (d : A) → i < length xs → slice_get (map f xs) i ≡ Some (f (get_or xs i d))
get_of_map f [] i d l = absurd (omega arith)
get_of_map f (x ∷ xs) zero d l = refl
get_of_map f (x ∷ xs) (suc i) d l = get_of_map f xs i d (omega arith)

-- the line of a node that is left, and the node
pub record HasLine (lines : List (List ℕ)) (nodes : List Node) (line i : ℕ) : Type 0 where
  pub within : line < length lines
  pub low : (d : List ℕ) → 1 ≤ word (get_or lines line d) 0
  pub high : (d : List ℕ) → word (get_or lines line d) 0 ≤ 65536
  pub node : (d : List ℕ) → slice_get nodes i ≡ Some (node_of_line (get_or lines line d))

-- the words of a line
pub words_at : (lines : List Line) (k : ℕ) (d : Line) → get_or (words_of lines) k d.w ≡ (get_or lines k d).w
words_at [] k d = refl
words_at (l ∷ lines) zero d = refl
words_at (l ∷ lines) (suc k) d = words_at lines k d

line_of_looked : (head : LogHead) (lines : List (List ℕ)) (passed at : ℕ) (e : EntryView) (i : ℕ) → StandsAt (Some head) lines passed at (Some e)
    → i < length (first_nodes (drop passed (entries_from head 0 0 (drop 1 lines)))) → HasLine lines (first_nodes (drop passed (entries_from head 0 0 (drop 1 lines)))) (at + 1 + i) i
line_of_looked head lines passed at e i h l =
    let es = entries_from head 0 0 (drop 1 lines) in
    let f = looked_at head passed at (drop at lines) e h.looked in
    let s = segment_of f.line f.rest in
    let more = entries_from head (suc passed) (word f.line 4) f.rest in
    let d : drop passed es ≡ s ∷ more = h.left ∙ (ap (entries_from head passed 0) f.split ∙ entries_from-entry head passed f.line f.rest f.accepted) in
    let ok = Accepted-if head passed f.line f.rest f.accepted in
    let whole = ok.whole in
    let few : head.threads ≤ 16 = h.threads in
    let nodes : length s.nodes ≡ word f.line 4 = count_is head passed f.line f.rest f.accepted in
    let same : first_nodes (drop passed es) ≡ s.nodes = ap first_nodes d in
    let i_in : i < word f.line 4 = omega (arith, ap length same) in
    let i_taken : i < length (take (word f.line 4) f.rest) = omega (arith, length-take-le (word f.line 4) f.rest whole) in
    let named = all_named-le (4096 * head.threads) 65536 (take (word f.line 4) f.rest) (omega arith) ok.named in
    let to : at + (1 + i) ≡ at + 1 + i = omega arith in
    let here : (z : List ℕ) → get_or (take (word f.line 4) f.rest) i z ≡ get_or lines (at + 1 + i) z = λ z.
    get_or-take (word f.line 4) f.rest i z i_in ∙ (ap (λ (xs : List (List ℕ)). get_or xs (suc i) z) (sym f.split) ∙ (get_or-drop at lines (suc i) z ∙ ap (λ (n : ℕ). get_or lines n z) (let q : at + suc i ≡ at + 1 + i = omega arith in q))) in
    record {
      within = omega (arith, length-drop at lines, ap length f.split);
      low = λ z. subst (λ (x : List ℕ). 1 ≤ word x 0) (here z) (named_at 65536 (take (word f.line 4) f.rest) i z named i_taken).0;
      high = λ z. subst (λ (x : List ℕ). word x 0 ≤ 65536) (here z) (named_at 65536 (take (word f.line 4) f.rest) i z named i_taken).1;
      node = λ z. ap (λ (ns : List Node). slice_get ns i) same ∙ (get_of_map node_of_line (take (word f.line 4) f.rest) i z i_taken ∙ ap (λ (x : List ℕ). Some (node_of_line x)) (here z));
    }

-- where no entry was looked at, none is left
none_left : (head : LogHead) (lines : List (List ℕ)) (passed at : ℕ) → StandsAt (Some head) lines passed at None → drop passed (entries_from head 0 0 (drop 1 lines)) ≡ []
none_left head lines passed at h = h.left ∙ no_first (entries_from head passed 0 (drop at lines)) h.looked
  where
    no_first : (ss : List Segment) → None ≡ first_view at ss → ss ≡ []
    no_first [] e = refl
    no_first (s ∷ ss) e = absurd (cc)

drop_none : (n : ℕ) → drop n (let none : List Segment = [] in none) ≡ []
drop_none zero = refl
drop_none (suc n) = refl

pub line_of : (head : Option LogHead) (lines : List (List ℕ)) (passed at : ℕ) (next : Option EntryView) (i : ℕ) → StandsAt head lines passed at next
    → i < length (first_nodes (drop passed (entries_under head lines))) → HasLine lines (first_nodes (drop passed (entries_under head lines))) (at + 1 + i) i
line_of None lines passed at next i h l = absurd (omega (arith, ap (λ (ss : List Segment). length (first_nodes ss)) (drop_none passed)))
line_of (Some head) lines passed at None i h l = absurd (omega (arith, ap (λ (ss : List Segment). length (first_nodes ss)) (none_left head lines passed at h)))
line_of (Some head) lines passed at (Some e) i h l = line_of_looked head lines passed at e i h l

-- where an entry is left, one was looked at
pub was_looked : (head : Option LogHead) (lines : List (List ℕ)) (passed at : ℕ) (next : Option EntryView) → StandsAt head lines passed at next → passed < length (entries_under head lines)
    → (h : LogHead) × (e : EntryView) × (head ≡ Some h) × (next ≡ Some e)
was_looked None lines passed at next h l = absurd (omega arith)
was_looked (Some head) lines passed at None h l =
    absurd (omega (arith, ap length (none_left head lines passed at h), length-drop passed (entries_from head 0 0 (drop 1 lines))))
was_looked (Some head) lines passed at (Some e) h l = (head, e, refl, refl)

-- ---- for those who go over an image
-- the entry that is shown is the first of those that are left
pub record IsFirst (ss : List Segment) (e : EntryView) : Type 0 where
  pub s : Segment
  pub more : List Segment
  pub split : ss ≡ s ∷ more
  pub place : e.place ≡ s.place
  pub count : e.count ≡ length s.nodes

pub viewed : (at : ℕ) (ss : List Segment) (e : EntryView) → Some e ≡ first_view at ss → IsFirst ss e
viewed at [] e h = absurd (cc)
viewed at (s ∷ ss) e h =
    let is : e ≡ record { line = at; place = s.place; count = length s.nodes } = same_Some e (record { line = at; place = s.place; count = length s.nodes }) h in
    record { s = s; more = ss; split = refl; place = ap (λ (v : EntryView). v.place) is; count = ap (λ (v : EntryView). v.count) is }

-- none is shown where none is left
pub not_viewed : (at : ℕ) (ss : List Segment) → None ≡ first_view at ss → ss ≡ []
not_viewed at [] e = refl
not_viewed at (s ∷ ss) e = absurd (cc)

-- one entry further
pub record GoneOn (es : List Segment) (n : ℕ) (s : Segment) (more : List Segment) : Type 0 where
  pub there : n < length es
  pub gone : take (n + 1) es ≡ take n es ++ s ∷ []
  pub left : drop (n + 1) es ≡ more

pub gone_on : (es : List Segment) (n : ℕ) (s : Segment) (more : List Segment) → drop n es ≡ s ∷ more → GoneOn es n s more
gone_on es n s more d =
    let there : n < length es = omega (arith, length-drop n es, ap length d) in
    let first : get_or es n s ≡ s = first_same (get_or es n s) s (drop (n + 1) es) more (sym (drop_more es n s there) ∙ d) in
    record {
      there = there;
      gone = take_more es n s there ∙ ap (λ (x : Segment). take n es ++ x ∷ []) first;
      left = sym (drop-drop 1 n es) ∙ ap (drop 1) d;
    }

-- at the end all entries were gone past
pub all_gone : (es : List Segment) (n : ℕ) → drop n es ≡ [] → take n es ≡ es
all_gone es n d = sym (append-nil (take n es)) ∙ (ap (λ (l : List Segment). take n es ++ l) (sym d) ∙ take-append-drop n es)

-- ---- by what the calls answer
-- the lines from one on begin with this line
at_line : (head : LogHead) (before at : ℕ) (lines left rest : List Line) (line : Line) → left ≡ drop at lines → left ≡ line ∷ rest → entries_from head before 0 (drop at (words_of lines)) ≡ entries_from head before 0 (line.w ∷ words_of rest)
at_line head before at lines left rest line there split = ap (entries_from head before 0) (drop-map (λ (l : Line). l.w) at lines ∙ ap words_of (sym there ∙ split))

-- an entry that is accepted at a line
pub entry_seen : (head : LogHead) (before at : ℕ) (lines left rest : List Line) (line : Line) → left ≡ drop at lines → left ≡ line ∷ rest → is_entry head before line.w (words_of rest) ≡ true
    → Some (record { line = at; place = word line.w 3; count = word line.w 4 }) ≡ first_view at (entries_from head before 0 (drop at (words_of lines)))
entry_seen head before at lines left rest line there split accepted =
    sym (ap (first_view at) (at_line head before at lines left rest line there split) ∙ accepted_view head before at line.w (words_of rest) accepted)

-- where there is an entry, it is accepted at the first line
accepted_first : (head : LogHead) (before : ℕ) (line : List ℕ) (rest : List (List ℕ)) → 1 ≤ length (entries_from head before 0 (line ∷ rest)) → is_entry head before line rest ≡ true
accepted_first head before line rest some = by_test (cases_Bool (is_entry head before line rest))
  where
    by_test : (is_entry head before line rest ≡ true) ⊎ (is_entry head before line rest ≡ false) → is_entry head before line rest ≡ true
    by_test (inl t) = t
    by_test (inr f) = absurd (omega (arith, some, ap length (entries_from-none head before line rest f)))

pub entry_known : (head : LogHead) (before at : ℕ) (lines left rest : List Line) (line : Line) → left ≡ drop at lines → left ≡ line ∷ rest → 1 ≤ length (entries_from head before 0 (drop at (words_of lines)))
    → is_entry head before line.w (words_of rest) ≡ true
entry_known head before at lines left rest line there split some =
    accepted_first head before line.w (words_of rest) (subst (λ (ss : List Segment). 1 ≤ length ss) (at_line head before at lines left rest line there split) some)

-- where the cursor stands after the entry that it looked at
pub further : (head : Option LogHead) (lines : List (List ℕ)) (passed at : ℕ) (next : Option EntryView) (h : LogHead) (e : EntryView) (found : Option EntryView) → StandsAt head lines passed at next → head ≡ Some h → next ≡ Some e
    → found ≡ first_view (at + (1 + e.count)) (entries_from h (passed + 1) 0 (drop (at + (1 + e.count)) lines)) → StandsAt head lines (passed + 1) (at + (1 + e.count)) found
further head lines passed at next h e found s is looked f =
    subst (λ (x : Option LogHead). StandsAt x lines (passed + 1) (at + (1 + e.count)) found) (sym is)
    (goes_on h lines passed at e found (subst (λ (x : Option LogHead). StandsAt x lines passed at (Some e)) is (subst (λ (x : Option EntryView). StandsAt head lines passed at x) looked s)) f)

pub within_further : (head : Option LogHead) (lines : List (List ℕ)) (passed at : ℕ) (next : Option EntryView) (h : LogHead) (e : EntryView) → StandsAt head lines passed at next → head ≡ Some h → next ≡ Some e
    → at + (1 + e.count) ≤ length lines
within_further head lines passed at next h e s is looked =
    (further head lines passed at next h e (first_view (at + (1 + e.count)) (entries_from h (passed + 1) 0 (drop (at + (1 + e.count)) lines))) s is looked refl).within

-- an entry that is known to be accepted is left
pub known_further : (head : Option LogHead) (lines : List (List ℕ)) (passed at : ℕ) (next : Option EntryView) (h : LogHead) (e : EntryView) → StandsAt head lines passed at next → head ≡ Some h → next ≡ Some e
    → passed + 1 < length (entries_under head lines) → 1 ≤ length (entries_from h (passed + 1) 0 (drop (at + (1 + e.count)) lines))
known_further head lines passed at next h e s is looked l =
    let es = entries_from h 0 0 (drop 1 lines) in
    let there : passed + 1 < length es = subst (λ (x : Option LogHead). passed + 1 < length (entries_under x lines)) is l in
    let stands : StandsAt (Some h) lines passed at (Some e) =
    subst (λ (x : Option LogHead). StandsAt x lines passed at (Some e)) is (subst (λ (x : Option EntryView). StandsAt head lines passed at x) looked s) in
    let on = goes_on h lines passed at e (first_view (at + (1 + e.count)) (entries_from h (passed + 1) 0 (drop (at + (1 + e.count)) lines))) stands refl in
    omega (arith, there, ap length on.left, length-drop (passed + 1) es)

-- where none is shown
pub all_shown : (c : CursorState) → first_view (lines_passed c) (entries_left c) ≡ None → (entries_passed c ≡ c.content.entries) × (lines_passed c ≡ used_by c.content)
all_shown c e =
    let gone = all_gone c.content.entries c.passed (not_viewed (lines_passed c) (entries_left c) (sym e)) in
    (gone, ap (used_with c.content.head) gone)
