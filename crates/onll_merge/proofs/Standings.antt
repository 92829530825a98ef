-- What cursors that stand below a place tell of it.
use Rattle.std.proofs.Common.{◌≡◌, ℕ, zero, suc, ◌+◌, ◌<◌, ◌≤◌, List, [], ◌∷◌, ◌++◌, length, get_or, take, drop, map, set, sym, refl, ap, ◌∙◌, subst, arith, append_assoc, Option, Some, None, Result, Ok, Err}
use Rattle.std.specs.List.{AllByRecursion, slice_get}
use Rattle.std.specs.Option.{option_or, option_map_or, option_to_list}
use Rattle.std.proofs.lemmas.List.{take-append-drop, drop-map, drop_more, map-append}
use Rattle.onll_model.specs.declared.node.Node.{Node}
use Rattle.onll_model.specs.Segment.{Segment, Rises}
use Rattle.onll_log.specs.Grammar.{Content, content_of}
use Rattle.onll_log.specs.Cursor.{CursorState, entries_passed}
use Rattle.onll_merge.specs.declared.fault.RecoverFault.{RecoverFault}
use Rattle.onll_merge.specs.declared.fault.RecoverFault.TheVariants.{Gap}
use Rattle.onll_merge.specs.declared.fault.ImagesFault.{ImagesFault}
use Rattle.onll_merge.specs.Merge.{AllRise, node_in_segment, node_in_log, node_in_logs, nodes_to, first_to, clash_at, gap_at}
use Rattle.onll_merge.specs.Recovered.{content_before, contents_from}
use Rattle.onll_merge.proofs.Decoding.{onto}
use Rattle.onll_merge.specs.Standing.{contents_under, StandsBelow, StandBelow, IsFree, gap_fault}
use Rattle.onll_merge.proofs.Places.{node_among-above, node_among-below, node_in_log-low}

-- ---- the node of a place

-- entries that end below a place don't hold it
past_none : (p : ℕ) (ss more : List Segment) → AllByRecursion (λ (s : Segment). s.place < p) ss → node_in_log (ss ++ more) p ≡ node_in_log more p
past_none p [] more h = refl
past_none p (s ∷ ss) more h = ap (λ (o : Option Node). option_or o (node_in_log (ss ++ more) p)) (node_among-above s.place s.nodes p h.0) ∙ past_none p ss more h.1

rises_past : (last : ℕ) (ss more : List Segment) (s : Segment) → Rises last (ss ++ s ∷ more) → Rises s.place more
rises_past last [] more s r = r.1
rises_past last (x ∷ ss) more s r = rises_past x.place ss more s r.1

or_none : {A : Type 0} (o : Option A) → option_or o None ≡ o
or_none None = refl
or_none (Some x) = refl

-- where entries are left, the first of them is the one that may hold the place
pub node_at_first : (es : List Segment) (n p : ℕ) (s : Segment) (more : List Segment) → Rises 0 es → drop n es ≡ s ∷ more → AllByRecursion (λ (s : Segment). s.place < p) (take n es) → p ≤ s.place
    → node_in_log es p ≡ node_in_segment s p
node_at_first es n p s more r d h l =
    let split : es ≡ take n es ++ s ∷ more = sym (take-append-drop n es) ∙ ap (λ (x : List Segment). take n es ++ x) d in
    let rest = rises_past 0 (take n es) more s (subst (Rises 0) split r) in
    ap (λ (x : List Segment). node_in_log x p) split ∙ (past_none p (take n es) (s ∷ more) h
    ∙ (ap (λ (o : Option Node). option_or (node_in_segment s p) o) (node_in_log-low s.place more p rest l) ∙ or_none (node_in_segment s p)))

pub node_at_end : (es : List Segment) (n p : ℕ) → drop n es ≡ [] → AllByRecursion (λ (s : Segment). s.place < p) (take n es) → node_in_log es p ≡ None
node_at_end es n p d h =
    let split : es ≡ take n es ++ [] = sym (take-append-drop n es) ∙ ap (λ (x : List Segment). take n es ++ x) d in
    ap (λ (x : List Segment). node_in_log x p) split ∙ past_none p (take n es) [] h

-- entries that rise have as many nodes as their last place, or fewer
pub first_fits : (last : ℕ) (es : List Segment) (n : ℕ) (s : Segment) (more : List Segment) → Rises last es → drop n es ≡ s ∷ more → length s.nodes ≤ s.place
first_fits last es n s more r d =
    let split : es ≡ take n es ++ s ∷ more = sym (take-append-drop n es) ∙ ap (λ (x : List Segment). take n es ++ x) d in
    fits last (take n es) (subst (Rises last) split r)
  where
    fits : (last : ℕ) (ss : List Segment) → Rises last (ss ++ s ∷ more) → length s.nodes ≤ s.place
    fits last [] r = let h = r.0 in omega arith
    fits last (x ∷ ss) r = fits x.place ss r.1

-- no place below the first node of the first entry that is left is held
pub free_first : (c : CursorState) (free : ℕ) (s : Segment) (more : List Segment) → Rises 0 c.content.entries → drop c.passed c.content.entries ≡ s ∷ more
    → free + length s.nodes ≤ s.place → IsFree free c
free_first c free s more r d n = λ p one h b.
    node_at_first c.content.entries c.passed p s more r d h (omega (arith, b, n)) ∙ node_among-below s.place s.nodes p (omega (arith, b, n))

-- where no entry is left no place is held
pub free_end : (c : CursorState) (free : ℕ) → drop c.passed c.content.entries ≡ [] → IsFree free c
free_end c free d = λ p one h b. node_at_end c.content.entries c.passed p d h

-- ---- all cursors
pub all_and : {A : Type 0} (P : A → Type 0) (xs : List A) (x : A) → AllByRecursion P xs → P x → AllByRecursion P (xs ++ x ∷ [])
all_and P [] x h g = (g, tt)
all_and P (y ∷ xs) x h g = (h.0, all_and P xs x h.1 g)

pub all_set : {A : Type 0} (P : A → Type 0) (xs : List A) (i : ℕ) (x : A) → AllByRecursion P xs → P x → AllByRecursion P (set xs i x)
all_set P [] i x h g = tt
all_set P (y ∷ xs) zero x h g = (g, h.1)
all_set P (y ∷ xs) (suc i) x h g = (h.0, all_set P xs i x h.1 g)

pub all_get : {A : Type 0} (P : A → Type 0) (xs : List A) (i : ℕ) (d : A) → AllByRecursion P xs → i < length xs → P (get_or xs i d)
all_get P [] i d h l = absurd (omega arith)
all_get P (y ∷ xs) zero d h l = h.0
all_get P (y ∷ xs) (suc i) d h l = all_get P xs i d h.1 (omega arith)

all_weaker : {A : Type 0} (P Q : A → Type 0) → ((x : A) → P x → Q x) → (xs : List A) → AllByRecursion P xs → AllByRecursion Q xs
all_weaker P Q f [] h = tt
all_weaker P Q f (x ∷ xs) h = (f x h.0, all_weaker P Q f xs h.1)

pub stand_higher : (p q : ℕ) (cursors : List CursorState) → p ≤ q → StandBelow p cursors → StandBelow q cursors
stand_higher p q cursors l h =
    all_weaker (StandsBelow p) (StandsBelow q) (λ c. all_weaker (λ (s : Segment). s.place < p) (λ (s : Segment). s.place < q) (λ s k. omega (arith, k, l)) (entries_passed c)) cursors h

-- the entries of each image rise
pub rise_at : (cursors : List CursorState) (i : ℕ) (d : CursorState) → AllRise (contents_under cursors) → i < length cursors → Rises 0 (get_or cursors i d).content.entries
rise_at [] i d h l = absurd (omega arith)
rise_at (c ∷ cursors) zero d h l = h.0
rise_at (c ∷ cursors) (suc i) d h l = rise_at cursors i d h.1 (omega arith)

-- a cursor that went on stands over the same image
pub same_under : (cursors : List CursorState) (i : ℕ) (x d : CursorState) → i < length cursors → x.content ≡ (get_or cursors i d).content → contents_under (set cursors i x) ≡ contents_under cursors
same_under [] i x d l e = refl
same_under (c ∷ cursors) zero x d l e = ap (λ (y : Content). y ∷ contents_under cursors) e
same_under (c ∷ cursors) (suc i) x d l e = ap (λ (ys : List Content). c.content ∷ ys) (same_under cursors i x d (omega arith) e)

-- the images that are left begin with this one
pub log_left : (cursors : List CursorState) (logs : List Content) (i : ℕ) (d : CursorState) → contents_under cursors ≡ logs → i < length cursors
    → drop i logs ≡ (get_or cursors i d).content ∷ drop (i + 1) logs
log_left cursors logs i d same l =
    let content : CursorState → Content = λ c. c.content in
    subst (λ (ls : List Content). drop i ls ≡ (get_or cursors i d).content ∷ drop (i + 1) ls) same
    (drop-map content i cursors ∙ (ap (map content) (drop_more cursors i d l) ∙ ap (λ (cs : List Content). (get_or cursors i d).content ∷ cs) (sym (drop-map content (i + 1) cursors))))

pub get_is : {A : Type 0} (xs : List A) (i : ℕ) (d x : A) → slice_get xs i ≡ Some x → get_or xs i d ≡ x
get_is [] i d x e = absurd (cc)
get_is (y ∷ xs) zero d x e = cc
get_is (y ∷ xs) (suc i) d x e = get_is xs i d x e

pub or_or : {A : Type 0} (a b c : Option A) → option_or (option_or a b) c ≡ option_or a (option_or b c)
or_or None b c = refl
or_or (Some x) b c = refl

-- ---- the nodes of the places so far
pub record Gathered (logs : List Content) (p : ℕ) (nodes : List Node) (gap : Option ℕ) : Type 0 where
  pub nodes_are : nodes ≡ nodes_to logs p
  pub clash_is : first_to (clash_at logs) p ≡ None
  pub gap_is : gap_fault gap ≡ first_to (gap_at logs) p

-- one place more
pub gather_more : (logs : List Content) (below p : ℕ) (nodes more : List Node) (gap next : Option ℕ) (node : Option Node) → p ≡ suc below
    → nodes ≡ nodes_to logs below → first_to (clash_at logs) below ≡ None → gap_fault gap ≡ first_to (gap_at logs) below
    → clash_at logs p ≡ None → node ≡ node_in_logs logs p → more ≡ nodes ++ option_to_list node → gap_fault next ≡ option_or (gap_fault gap) (option_map_or (λ x. None) node (Some (Gap p)))
    → Gathered logs p more next
gather_more logs below p nodes more gap next node e n k g clash is m noted = record {
  nodes_are = m ∙ (ap (λ (ns : List Node). ns ++ option_to_list node) n ∙ (ap (λ (o : Option Node). nodes_to logs below ++ option_to_list o) is
      ∙ (ap (λ (q : ℕ). nodes_to logs below ++ option_to_list (node_in_logs logs q)) e ∙ ap (nodes_to logs) (sym e))));
  clash_is = ap (first_to (clash_at logs)) e ∙ (ap (λ (o : Option RecoverFault). option_or o (clash_at logs (suc below))) k ∙ (ap (clash_at logs) (sym e) ∙ clash));
  gap_is = noted ∙ (ap (λ (o : Option RecoverFault). option_or o (option_map_or (λ x. None) node (Some (Gap p)))) g
      ∙ (ap (λ (o : Option Node). option_or (first_to (gap_at logs) below) (option_map_or (λ x. None) o (Some (Gap p)))) is
      ∙ (ap (λ (q : ℕ). option_or (first_to (gap_at logs) below) (gap_at logs q)) e ∙ ap (first_to (gap_at logs)) (sym e))));
}

-- ---- what all images hold
-- one image more
pub onto_more : (i : ℕ) (front : List Content) (c : Content) (rest : Result (List Content) ImagesFault) → onto (front ++ c ∷ []) rest ≡ onto front (content_before i (Some c) rest)
onto_more i front c (Ok cs) = ap Ok (append_assoc front (c ∷ []) cs)
onto_more i front c (Err e) = refl

pub open_more : {V : Type 0} (lines : V → List (List ℕ)) (images : List V) (i : ℕ) (image : V) (cursors more : List CursorState) (x : CursorState) → i < length images → image ≡ get_or images i image → more ≡ cursors ++ x ∷ []
    → content_of (lines image) ≡ Some x.content
    → onto (contents_under more) (contents_from (i + 1) (map lines (drop (i + 1) images))) ≡ onto (contents_under cursors) (contents_from i (map lines (drop i images)))
open_more lines images i image cursors more x l same pushed is =
    let rest = contents_from (i + 1) (map lines (drop (i + 1) images)) in
    let content : CursorState → Content = λ c. c.content in
    ap (λ (cs : List CursorState). onto (contents_under cs) rest) pushed
    ∙ (ap (λ (cs : List Content). onto cs rest) (map-append content cursors (x ∷ []))
    ∙ (onto_more i (contents_under cursors) x.content rest
    ∙ (ap (λ (o : Option Content). onto (contents_under cursors) (content_before i o rest)) (sym is)
    ∙ (ap (λ v. onto (contents_under cursors) (content_before i (content_of (lines v)) rest)) same
    ∙ sym (ap (λ vs. onto (contents_under cursors) (contents_from i (map lines vs))) (drop_more images i image l))))))
