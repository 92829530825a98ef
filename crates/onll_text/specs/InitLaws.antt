-- An object of a kind and a state is taken apart into them, and what a text says is an object in a state that its kind may be in.

use Rattle.std.proofs.Common.{ℕ, List, [], ◌∷◌, ◌≡◌, ◌≤◌, ◌&&◌, ◌⊎◌, inl, inr, nat_le, arith, rules, ap, sym, subst, Some, Result, Ok, Err, IfOk}
use Rattle.std.specs.List.{AllByRecursion}
use Rattle.std.proofs.lemmas.Bool.Decides.{nat_tests}
use Rattle.std.proofs.lemmas.Result.{IfOk-at_ok}
use Rattle.onll_words.specs.Texts.{Numbered, words_of, meaningful_lines}
use Rattle.onll_model.specs.Limits.{most_elements}
use Rattle.onll_text.specs.declared.reason.Reason.{Reason}
use Rattle.onll_text.specs.declared.reason.Reason.TheVariants.{TooLong, OutOfRange}
use Rattle.onll_text.specs.declared.any_object.Kind.{Kind}
use Rattle.onll_text.specs.declared.any_object.AnyObject.{AnyObject}
use Rattle.onll_text.specs.declared.init.Head.{Head}
use Rattle.onll_text.specs.Refusal.{Refusal, refused, ◌>>=◌, only_if, at_line}
use Rattle.onll_text.specs.Words.{one_number}
use Rattle.onll_text.specs.WordsAgain.{if_ok_next, if_ok_either, if_ok_any, if_ok_line}
use Rattle.onll_text.specs.Script.{is_too_long}
use Rattle.onll_text.specs.Making.{after_lines}
use Rattle.onll_text.specs.Init.{named_kinds, kind_of, capacity_of, head_of, states_of, object_at, kind_and_state, object_of, init_of_lines, init_of, state_in, state_said}

-- the object of each state of this kind is taken apart into the kind and the state
abbrev IsTakenApart : Kind × List ℕ → Type 0
IsTakenApart k = (s : (states_of k.0).State) → kind_and_state (object_at k.0 s) ≡ (k.0, s)

each_is_taken_apart : AllByRecursion IsTakenApart named_kinds
each_is_taken_apart = search rules

-- this kind is one of these
abbrev IsListed : Kind → List (Kind × List ℕ) → Type 0
IsListed kind [] = ⊥
IsListed kind (k ∷ ks) = (kind ≡ k.0) ⊎ IsListed kind ks

is_listed : (kind : Kind) → IsListed kind named_kinds
is_listed kind = grind arith

listed_is_taken_apart : (kind : Kind) (s : (states_of kind).State) (ks : List (Kind × List ℕ)) → AllByRecursion IsTakenApart ks
    → IsListed kind ks → kind_and_state (object_at kind s) ≡ (kind, s)
listed_is_taken_apart kind s [] each listed = absurd listed
listed_is_taken_apart kind s (k ∷ ks) each (inl e) =
    subst (λ (of : Kind). (t : (states_of of).State) → kind_and_state (object_at of t) ≡ (of, t)) (sym e) each.0 s
listed_is_taken_apart kind s (k ∷ ks) each (inr more) = listed_is_taken_apart kind s ks each.1 more

-- the object of a kind and a state is of this kind, in this state
pub kind_and_state_at : (kind : Kind) (s : (states_of kind).State) → kind_and_state (object_at kind s) ≡ (kind, s)
kind_and_state_at kind s = listed_is_taken_apart kind s named_kinds each_is_taken_apart (is_listed kind)

-- the state of an object is one that its kind may be in
abbrev IsAllowed : (kind : Kind) × (states_of kind).State → Type 0
IsAllowed of = (states_of of.0).Invariant of.1

abbrev IsValid : AnyObject → Type 0
IsValid object = IsAllowed (kind_and_state object)

abbrev IsCapacity : ℕ → Type 0
IsCapacity n = (1 ≤ n) × (n ≤ most_elements)

capacity_within : (n : ℕ) → IfOk (only_if (nat_le 1 n && nat_le n most_elements) OutOfRange n) IsCapacity
capacity_within n = grind (arith, nat_tests)

head_within : (words : List (List ℕ)) → IfOk (head_of words) (λ head. IsCapacity head.capacity)
head_within [] = tt
head_within (first ∷ args) =
    let make : Kind → ℕ → Head = λ k n. record { kind = k; capacity = n } in
    let Within : Head → Type 0 = λ head. IsCapacity head.capacity in
    if_ok_next (kind_of first) (λ k. capacity_of args >>= λ n. Ok (make k n)) (λ k. Unit {0}) Within (if_ok_any (kind_of first)) (λ k any.
    if_ok_next (capacity_of args) (λ n. Ok (make k n)) IsCapacity Within
    (if_ok_next (one_number args) (λ n. only_if (nat_le 1 n && nat_le n most_elements) OutOfRange n) (λ n. Unit {0}) IsCapacity
    (if_ok_any (one_number args)) (λ n any. capacity_within n))
    (λ n h. h))

-- what holds of an initial state in the making holds after further lines, where each line keeps it
after_lines_keep : {Making : Type 0} (with_line : Making → List (List ℕ) → Result Making Reason) (P : Making → Type 0)
    → ((made : Making) (words : List (List ℕ)) → P made → IfOk (with_line made words) P)
    → (made : Making) (lines : List Numbered) → P made → IfOk (after_lines with_line made lines) P
after_lines_keep with_line P step made [] h = h
after_lines_keep {Making} with_line P step made (l ∷ lines) h =
    if_ok_next (at_line l.number (with_line made (words_of l.line))) (λ (more : Making). after_lines with_line more lines) P P
    (if_ok_line l.number (with_line made (words_of l.line)) P (step made (words_of l.line) h))
    (λ more k. after_lines_keep with_line P step more lines k)

object_is_valid : (kind : Kind) (n : ℕ) (lines : List Numbered) → IsCapacity n → IfOk (object_of kind n lines) IsValid
object_is_valid kind n lines h =
    let k = states_of kind in
    let Keeps : k.Making → Type 0 = λ made. k.Invariant (k.ended made) in
    if_ok_next (after_lines k.with_line (k.begun n) lines) (λ made. Ok (object_at kind (k.ended made))) Keeps IsValid
    (after_lines_keep k.with_line Keeps k.line_keeps (k.begun n) lines (k.begun_keeps n h.0 h.1))
    (λ made holds. subst IsAllowed (sym (kind_and_state_at kind (k.ended made))) holds)

lines_are_valid : (lines : List Numbered) → IfOk (init_of_lines lines) IsValid
lines_are_valid [] = tt
lines_are_valid (l ∷ lines) =
    if_ok_next (at_line l.number (head_of (words_of l.line))) (λ (head : Head). object_of head.kind head.capacity lines)
    (λ head. IsCapacity head.capacity) IsValid
    (if_ok_line l.number (head_of (words_of l.line)) (λ head. IsCapacity head.capacity) (head_within (words_of l.line)))
    (λ head h. object_is_valid head.kind head.capacity lines h)

init_is_valid : (text : List ℕ) → IfOk (init_of text) IsValid
init_is_valid text =
    if_ok_either (is_too_long text) (Err (refused 0 TooLong)) (init_of_lines (meaningful_lines text)) IsValid tt
    (lines_are_valid (meaningful_lines text))

-- the object that was read
in_object : (kind : Kind) (v : Result AnyObject Refusal) (s : (states_of kind).State) → state_in kind v ≡ Some s
    → v ≡ Ok (object_at kind s)
in_object kind (Ok object) s e = ap (λ (o : AnyObject). Ok o) ((states_of kind).is_object object s e)
in_object kind (Err refusal) s e = absurd (cc)

-- a text that says a state says the object with that state
pub said_object : (kind : Kind) (text : List ℕ) (s : (states_of kind).State) → state_said kind text ≡ Some s
    → init_of text ≡ Ok (object_at kind s)
said_object kind text s e = in_object kind (init_of text) s e

-- the state that a text says is one that its kind may be in
pub said_is_valid : (kind : Kind) (text : List ℕ) (s : (states_of kind).State) → state_said kind text ≡ Some s
    → (states_of kind).Invariant s
said_is_valid kind text s e =
    subst IsAllowed (kind_and_state_at kind s) (IfOk-at_ok IsValid (said_object kind text s e) (init_is_valid text))
