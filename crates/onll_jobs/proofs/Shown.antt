use Rattle.std.proofs.Common.{ℕ, zero, suc, ◌≡◌, ◌==◌, ◌&&◌, ◌||◌, ◌≤◌, nat_le, nat_lt, Bool, true, false, List, [], ◌∷◌, ⊎_elim, Option, Some, None, cond, take, refl, sym, subst, arith}
use Rattle.onll_model.specs.Limits.{greatest_code}
use Rattle.std.proofs.lemmas.Bool.{leb-true, cases_Bool}
use Rattle.std.proofs.lemmas.List.{length-map, length-take}
use Rattle.std.specs.List.{AllByRecursion}
use Rattle.std.specs.Option.{IfSome}
use Rattle.onll_model.specs.Segment.{Segment}
use Rattle.onll_log.specs.declared.head.LogHead.{LogHead}
use Rattle.onll_log.specs.Head.{word, log_magic, is_head, head_of}
use Rattle.onll_log.specs.Grammar.{Content, content_of, entries_from, is_entry, segment_of, node_of_line, are_zero_lines}
use Rattle.onll_log.proofs.Accepted.{both_true, Accepted-if, entries_from-entry, entries_from-none}
use Rattle.onll_jobs.specs.ShowJob.{IsPlacedEntry}

-- What an image holds, as `show` needs it.

placed_here : (head : LogHead) (before : ℕ) (line : List ℕ) (rest : List (List ℕ)) → is_entry head before line rest ≡ true → IsPlacedEntry (segment_of line rest)
placed_here head before line rest e =
    let from_one = (Accepted-if head before line rest e).from_one in
    omega (arith, length-map (take (word line 4) rest) node_of_line, length-take (word line 4) rest)

-- the nodes of an accepted entry stand at places from 1 on
entries_placed : (head : LogHead) (before skip : ℕ) (lines : List (List ℕ)) → AllByRecursion IsPlacedEntry (entries_from head before skip lines)
entries_placed head before skip [] = tt
entries_placed head before (suc skip) (l ∷ ls) = entries_placed head before skip ls
entries_placed head before zero (l ∷ ls) = ⊎_elim
    (λ (e : is_entry head before l ls ≡ true). subst (AllByRecursion IsPlacedEntry) (sym (entries_from-entry head before l ls e)) (placed_here head before l ls e, entries_placed head (suc before) (word l 4) ls))
    (λ (e : is_entry head before l ls ≡ false). subst (AllByRecursion IsPlacedEntry) (sym (entries_from-none head before l ls e)) tt)
    (cases_Bool (is_entry head before l ls))

abbrev entries_in : Option Content → List Segment
entries_in None = []
entries_in (Some c) = c.entries

if_placed : (a b : Bool) (c d : Content) → AllByRecursion IsPlacedEntry c.entries → AllByRecursion IsPlacedEntry d.entries → AllByRecursion IsPlacedEntry (entries_in (cond a (Some c) (cond b (Some d) None)))
if_placed true b c d h k = h
if_placed false true c d h k = k
if_placed false false c d h k = tt

all_placed : (lines : List (List ℕ)) → AllByRecursion IsPlacedEntry (entries_in (content_of lines))
all_placed [] = tt
all_placed (l ∷ ls) = if_placed (is_head l) (are_zero_lines (l ∷ ls)) (record { head = Some (head_of l); entries = entries_from (head_of l) 0 0 ls }) (record { head = None; entries = [] }) (entries_placed (head_of l) 0 0 ls) tt

pub content_placed : (lines : List (List ℕ)) (c : Content) → content_of lines ≡ Some c → AllByRecursion IsPlacedEntry c.entries
content_placed lines c e = subst (λ o. AllByRecursion IsPlacedEntry (entries_in o)) e (all_placed lines)

-- a head names one of the four objects
abbrev OfAnObject : Option Content → Type 0
OfAnObject None = Unit {0}
OfAnObject (Some c) = IfSome c.head (λ head. (1 ≤ head.object) × (head.object ≤ greatest_code))

object_fits : (line : List ℕ) → is_head line ≡ true → (1 ≤ word line 4) × (word line 4 ≤ greatest_code)
object_fits line e =
    let known = (word line 1 == 1) || (word line 1 == 2) in
    let least = nat_le 1 (word line 4) in
    let object = least && nat_le (word line 4) greatest_code in
    let few = nat_le (word line 3) 16 in
    let below = nat_lt (word line 2) (word line 3) in
    let a = both_true (word line 0 == log_magic) (known && (below && (few && object))) e in
    let b = both_true known (below && (few && object)) a.1 in
    let c = both_true below (few && object) b.1 in
    let d = both_true few object c.1 in
    let f = both_true least (nat_le (word line 4) greatest_code) d.1 in
    (leb-true 1 (word line 4) f.0, leb-true (word line 4) greatest_code f.1)

if_object : (a b : Bool) (c d : Content) → (a ≡ true → IfSome c.head (λ head. (1 ≤ head.object) × (head.object ≤ greatest_code))) → d.head ≡ None → OfAnObject (cond a (Some c) (cond b (Some d) None))
if_object true b c d h none = h refl
if_object false true c d h none = subst (λ o. IfSome o (λ (head : LogHead). (1 ≤ head.object) × (head.object ≤ greatest_code))) (sym none) tt
if_object false false c d h none = tt

of_an_object : (lines : List (List ℕ)) → OfAnObject (content_of lines)
of_an_object [] = tt
of_an_object (l ∷ ls) = if_object (is_head l) (are_zero_lines (l ∷ ls)) (record { head = Some (head_of l); entries = entries_from (head_of l) 0 0 ls }) (record { head = None; entries = [] }) (object_fits l) refl

pub content_object : (lines : List (List ℕ)) (c : Content) → content_of lines ≡ Some c → IfSome c.head (λ head. (1 ≤ head.object) × (head.object ≤ greatest_code))
content_object lines c e = subst OfAnObject e (of_an_object lines)
