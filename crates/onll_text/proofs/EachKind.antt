-- What holds of each kind of object holds of an object of any kind; and the names of the kinds are words that differ.

use Rattle.std.proofs.Common.{ℕ, Bool, true, false, List, [], ◌∷◌, ◌≡◌, ◌≤◌, ◌==◌, ◌+◌, cond, length, if◌then◌else◌, refl, sym, ap, ◌∙◌, subst, arith, not, ◌&&◌, ◌||◌, ◌<◌}
use Rattle.std.specs.List.{list_all}
use Rattle.std.specs.Str.{bytes_eq}
use Rattle.std.proofs.lemmas.Slice.Eq.{bytes_eq-Decides}
use Rattle.std.proofs.lemmas.Bool.Decides.{nat_tests}
use Rattle.std.proofs.Math.Bool.{or-true}
use Rattle.onll_words.specs.Texts.{IsWord, is_empty, is_word_byte}
use Rattle.onll_text.specs.declared.any_object.Kind.{Kind}
use Rattle.onll_text.specs.declared.any_object.AnyObject.{AnyObject}
use Rattle.onll_text.specs.Init.{named_kinds, name_in, object_name, object_at, by_object, kind_and_state, on_kind}
use Rattle.onll_text.specs.InitLaws.{kind_and_state_at}
use Rattle.onll_text.specs.Kinds.{ObjectKind, kind_at, on_object}
use Rattle.onll_text.specs.CallKind.{calls_of}

-- ---- each kind
-- the code of this kind is that of a kind of the list
abbrev pub IsKnown : ObjectKind → Type 0
IsKnown k = (1 ≤ k.code) × (k.code ≤ length named_kinds)

-- the code of each kind is known
pub known : (kind : Kind) → IsKnown (kind_at kind)
known kind = (calls_of kind).known

-- what is said of an object is said of its kind and its state
pub by_kind {ℓ} : {A : Type ℓ} (f : (kind : Kind) → (kind_at kind).State → A) (object : AnyObject)
    → on_kind f object ≡ f (kind_and_state object).0 (kind_and_state object).1
by_kind f object = grind arith

-- an object is that of its kind and its state
pub same_object : (object : AnyObject) → object_at (kind_and_state object).0 (kind_and_state object).1 ≡ object
same_object object =
    by_object (λ (o : AnyObject). object_at (kind_and_state o).0 (kind_and_state o).1 ≡ o) (λ kind s. ap (λ of. object_at of.0 of.1) (kind_and_state_at kind s)) object

-- what is said of the object of a kind and a state is said of these
pub on_kind_at {ℓ} : {A : Type ℓ} (f : (kind : Kind) → (kind_at kind).State → A) (kind : Kind) (s : (kind_at kind).State)
    → on_kind f (object_at kind s) ≡ f kind s
on_kind_at f kind s = by_kind f (object_at kind s) ∙ ap (λ of. f of.0 of.1) (kind_and_state_at kind s)

-- what holds of what is said of each kind holds of what is said of an object
pub each_kind {ℓ} : {A : Type ℓ} (f : (kind : Kind) → (kind_at kind).State → A) (P : A → Type 0)
    → ((kind : Kind) (s : (kind_at kind).State) → P (f kind s)) → (object : AnyObject) → P (on_kind f object)
each_kind f P step object = let held = kind_and_state object in subst P (sym (by_kind f object)) (step held.0 held.1)

-- where one thing is said of it, another is
pub kind_goes {ℓ} : {A : Type ℓ} (f : (kind : Kind) → (kind_at kind).State → A) (P : A → Type 0) (Q : (k : ObjectKind) → k.State → Type 0) (R : Type 0 → Type 0)
    → ((kind : Kind) (s : (kind_at kind).State) → IsKnown (kind_at kind) → P (f kind s) → R (Q (kind_at kind) s)) → (object : AnyObject) → P (on_kind f object) → R (on_object Q object)
kind_goes f P Q R step object h =
    let held = kind_and_state object in
    subst R (sym (by_kind {A = Type 0} (λ kind s. Q (kind_at kind) s) object)) (step held.0 held.1 (known held.0) (subst P (by_kind f object) h))

-- ---- their names
-- one of these kinds has this name
abbrev is_name : List (Kind × List ℕ) → List ℕ → Bool
is_name [] name = false
is_name (k ∷ ks) name = bytes_eq name k.1 || is_name ks name

-- the names are words, and differ
abbrev are_names : List (Kind × List ℕ) → Bool
are_names [] = true
are_names (k ∷ ks) = (not (is_empty k.1) && list_all is_word_byte k.1) && (not (is_name ks k.1) && are_names ks)

both_hold : (b c : Bool) → (b && c) ≡ true → (b ≡ true) × (c ≡ true)
both_hold true c h = (refl, h)
both_hold false c h = absurd (cc)

fails : (b : Bool) → not b ≡ true → b ≡ false
fails true h = absurd (cc)
fails false h = refl

true_not_false : true ≡ false → ⊥
true_not_false e = absurd (cc)

either_word : (b : Bool) (x y : List ℕ) → IsWord x → IsWord y → IsWord (cond b x y)
either_word true x y h k = h
either_word false x y h k = k

name_is_word : (ks : List (Kind × List ℕ)) (first code : ℕ) → are_names ks ≡ true → IsWord (name_in ks first code)
name_is_word [] first code h = record { some = refl; bytes = refl }
name_is_word (k ∷ ks) first code h =
    let parts = both_hold (not (is_empty k.1) && list_all is_word_byte k.1) (not (is_name ks k.1) && are_names ks) h in
    let word = both_hold (not (is_empty k.1)) (list_all is_word_byte k.1) parts.0 in
    let rest = both_hold (not (is_name ks k.1)) (are_names ks) parts.1 in
    either_word (code == first) k.1 (name_in ks (first + 1) code) (record { some = fails (is_empty k.1) word.0; bytes = word.1 })
    (name_is_word ks (first + 1) code rest.1)

-- the name of the object of any code is a word
pub IsWord-object_name : (code : ℕ) → IsWord (object_name code)
IsWord-object_name code = name_is_word named_kinds 1 code refl

-- the code of the kind that a word names, where these kinds have the codes from `first` on
abbrev code_in : List (Kind × List ℕ) → ℕ → List ℕ → ℕ
code_in [] first name = 0
code_in (k ∷ more) first name = if bytes_eq name k.1 then first else code_in more (first + 1) name

same_bytes : (name : List ℕ) → bytes_eq name name ≡ true
same_bytes name = (bytes_eq-Decides name name).1 refl

either_name : (b : Bool) (k : Kind × List ℕ) (ks : List (Kind × List ℕ)) (name : List ℕ)
    → (b ≡ false → is_name ks name ≡ true) → is_name (k ∷ ks) (cond b k.1 name) ≡ true
either_name true k ks name h = ap (λ c. c || is_name ks k.1) (same_bytes k.1)
either_name false k ks name h = ap (λ c. bytes_eq name k.1 || c) (h refl) ∙ or-true (bytes_eq name k.1)

-- the name of a code within the list is one of the list
names_are_names : (ks : List (Kind × List ℕ)) (first code : ℕ) → first ≤ code → code < first + length ks → is_name ks (name_in ks first code) ≡ true
names_are_names [] first code least within = absurd (omega (arith, least, within))
names_are_names (k ∷ ks) first code least within =
    either_name (code == first) k ks (name_in ks (first + 1) code)
    (λ differs. let above : first + 1 ≤ code = grind (arith, nat_tests) in names_are_names ks (first + 1) code above (omega (arith, within)))

either_code : (b : Bool) (k : Kind × List ℕ) (ks : List (Kind × List ℕ)) (first code : ℕ) (name : List ℕ) → (b ≡ true → first ≡ code)
    → (b ≡ false → (is_name ks name ≡ true) × (code_in ks (first + 1) name ≡ code)) → is_name ks k.1 ≡ false
    → code_in (k ∷ ks) first (cond b k.1 name) ≡ code
either_code true k ks first code name here there other = ap (λ c. cond c first (code_in ks (first + 1) k.1)) (same_bytes k.1) ∙ here refl
either_code false k ks first code name here there other =
    by (bytes_eq name k.1) refl
  where
    by : (c : Bool) → bytes_eq name k.1 ≡ c → cond c first (code_in ks (first + 1) name) ≡ code
    by true e = let same : name ≡ k.1 = (bytes_eq-Decides name k.1).0 e in
        absurd (true_not_false (sym (there refl).0 ∙ (ap (is_name ks) same ∙ other)))
    by false e = (there refl).1

-- the names tell the codes
names_tell : (ks : List (Kind × List ℕ)) (first code : ℕ) → are_names ks ≡ true → first ≤ code → code < first + length ks
    → code_in ks first (name_in ks first code) ≡ code
names_tell [] first code h least within = absurd (omega (arith, least, within))
names_tell (k ∷ ks) first code h least within =
    let parts = both_hold (not (is_empty k.1) && list_all is_word_byte k.1) (not (is_name ks k.1) && are_names ks) h in
    let rest = both_hold (not (is_name ks k.1)) (are_names ks) parts.1 in
    either_code (code == first) k ks first code (name_in ks (first + 1) code) (λ same. grind (arith, nat_tests))
    (λ differs.
    let above : first + 1 ≤ code = grind (arith, nat_tests) in
    let below : code < first + 1 + length ks = omega (arith, within) in
    (names_are_names ks (first + 1) code above below, names_tell ks (first + 1) code rest.1 above below))
    (fails (is_name ks k.1) rest.0)

code_of_name : (code : ℕ) → (1 ≤ code) × (code ≤ length named_kinds) → code_in named_kinds 1 (object_name code) ≡ code
code_of_name code h = names_tell named_kinds 1 code refl h.0 (omega (arith, h.1))

-- the names of two codes differ
pub object_name_determined : (m n : ℕ) → (1 ≤ m) × (m ≤ length named_kinds) → (1 ≤ n) × (n ≤ length named_kinds) → object_name m ≡ object_name n → m ≡ n
object_name_determined m n g h e = sym (code_of_name m g) ∙ (ap (code_in named_kinds 1) e ∙ code_of_name n h)
