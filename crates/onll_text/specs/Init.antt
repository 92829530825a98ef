-- The grammar of initial states, and the kinds of object that begin them.

use Rattle.std.specs.Prelude.{ℕ, ◌+◌, ◌==◌, List, [], ◌∷◌, Option, None, Result, Ok, Err, if◌then◌else◌, codes, nat_le, ◌&&◌}
use Rattle.std.specs.Str.{bytes_eq}
use Rattle.onll_model.specs.Limits.{most_elements}
use Rattle.onll_words.specs.Texts.{Numbered, words_of, meaningful_lines}
use Rattle.onll_text.specs.declared.reason.Reason.{Reason}
use Rattle.onll_text.specs.declared.reason.Reason.TheVariants.{TooLong, Missing, UnknownObject, OutOfRange}
use Rattle.onll_text.specs.declared.any_object.Kind.{Kind}
use Rattle.onll_text.specs.declared.any_object.Kind.TheVariants as kinds
use Rattle.onll_text.specs.declared.any_object.AnyObject.{AnyObject}
use Rattle.onll_text.specs.declared.any_object.AnyObject.TheVariants as objects
use Rattle.onll_text.specs.declared.init.Head.{Head}
use Rattle.onll_text.specs.Refusal.{Refusal, refused, ◌>>=◌, only_if, at_line}
use Rattle.onll_text.specs.Words.{one_number}
use Rattle.onll_text.specs.Script.{is_too_long}
use Rattle.onll_text.specs.Making.{after_lines, StateKind}
use Rattle.onll_text.specs.BankLaws.{bank_states}
use Rattle.onll_text.specs.MapLaws.{map_states}
use Rattle.onll_text.specs.QueueLaws.{queue_states}
use Rattle.onll_text.specs.LeaseLaws.{lease_states}

-- The kinds of object in the order of their codes, the first of which is 1, each with the word that names it.
abbrev pub named_kinds : List (Kind × List ℕ)
named_kinds =
    (kinds.Bank, codes "bank")
    ∷ (kinds.Map, codes "map")
    ∷ (kinds.Queue, codes "queue")
    ∷ (kinds.Lease, codes "lease")
    ∷ []

-- the kind, of these, that a word names
abbrev pub kind_in : List (Kind × List ℕ) → List ℕ → Result Kind Reason
kind_in [] word = Err UnknownObject
kind_in (k ∷ more) word = if bytes_eq word k.1 then Ok k.0 else kind_in more word

-- the kind of object that a first word names
abbrev pub kind_of : List ℕ → Result Kind Reason
kind_of word = kind_in named_kinds word

-- the name of the object of this code, where these kinds have the codes from `first` on
abbrev pub name_in : List (Kind × List ℕ) → ℕ → ℕ → List ℕ
name_in [] first code = codes "unknown"
name_in (k ∷ more) first code = if code == first then k.1 else name_in more (first + 1) code

-- the name of the object of this code
abbrev pub object_name : ℕ → List ℕ
object_name code = name_in named_kinds 1 code

-- the capacity of an object
abbrev pub capacity_of : List (List ℕ) → Result ℕ Reason
capacity_of args = one_number args >>= λ n. only_if (nat_le 1 n && nat_le n most_elements) OutOfRange n

-- the first line of an initial state, by its words
abbrev pub head_of : List (List ℕ) → Result Head Reason
head_of [] = Err UnknownObject
head_of (first ∷ args) = kind_of first >>= λ kind. capacity_of args >>= λ capacity. Ok (record { kind = kind; capacity = capacity })

-- the states of the kind that is named so
abbrev pub states_of : Kind → StateKind
states_of kinds.Bank = bank_states
states_of kinds.Map = map_states
states_of kinds.Queue = queue_states
states_of kinds.Lease = lease_states

-- the object of this kind with this state
abbrev pub object_at : (kind : Kind) → (states_of kind).State → AnyObject
object_at kind s = (states_of kind).object s

-- what is said of the object of each kind and each state of it, of an object of any kind
abbrev pub by_object {ℓ} : (P : AnyObject → Type ℓ) → ((kind : Kind) (s : (states_of kind).State) → P (object_at kind s))
    → (object : AnyObject) → P object
by_object P say (objects.Bank s) = say kinds.Bank s
by_object P say (objects.Map s) = say kinds.Map s
by_object P say (objects.Queue s) = say kinds.Queue s
by_object P say (objects.Lease s) = say kinds.Lease s

-- what is said of a kind by its name and of a state of it, of an object of any kind
abbrev pub on_kind {ℓ} : {A : Type ℓ} → ((kind : Kind) → (states_of kind).State → A) → AnyObject → A
on_kind {A = A} say object = by_object (λ _. A) say object

-- an object's kind, by its name, and its state
abbrev pub kind_and_state : AnyObject → (kind : Kind) × (states_of kind).State
kind_and_state object = on_kind (λ kind s. (kind, s)) object

-- the object of this kind and capacity, with further lines
abbrev pub object_of : Kind → ℕ → List Numbered → Result AnyObject Refusal
object_of kind capacity lines = after_lines (states_of kind).with_line ((states_of kind).begun capacity) lines
    >>= λ made. Ok (object_at kind ((states_of kind).ended made))

abbrev pub init_of_lines : List Numbered → Result AnyObject Refusal
init_of_lines [] = Err (refused 0 Missing)
init_of_lines (l ∷ lines) = at_line l.number (head_of (words_of l.line)) >>= λ head. object_of head.kind head.capacity lines

-- the initial state of a text, or why the text is none
abbrev pub init_of : List ℕ → Result AnyObject Refusal
init_of text = if is_too_long text then Err (refused 0 TooLong) else init_of_lines (meaningful_lines text)

-- the state that was read, where it is one of this kind of object
abbrev pub state_in : (kind : Kind) → Result AnyObject Refusal → Option (states_of kind).State
state_in kind (Ok object) = (states_of kind).state object
state_in kind (Err refusal) = None

-- the state of this kind that a text says
abbrev pub state_said : (kind : Kind) → List ℕ → Option (states_of kind).State
state_said kind text = state_in kind (init_of text)
