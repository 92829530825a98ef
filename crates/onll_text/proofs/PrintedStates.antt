-- A text that prints back is what is printed of the state that it says, and what is printed of a state prints back.

use Rattle.std.proofs.Common.{ℕ, zero, suc, Bool, true, false, ◌&&◌, nat_le, List, [], ◌∷◌, ◌≡◌, ◌<◌, ◌≤◌, length, refl, sym, ap, ◌∙◌, subst, slice_index, arith, Option, Some, None}
use Rattle.std.specs.List.{list_all}
use Rattle.std.proofs.lemmas.Slice.Eq.{bytes_eq-Decides}
use Rattle.std.proofs.lemmas.Bool.Decides.{nat_tests}
use Rattle.onll_words.proofs.WordBytes.{Bytes}
use Rattle.onll_text.specs.Wording.{longest_state, Wording}
use Rattle.onll_text.specs.Reports.{StateReads}
use Rattle.onll_text.specs.PrintsBack.{state_text, is_state_text, is_byte, prints_back}

-- ---- tests
both_hold : (b c : Bool) → (b && c) ≡ true → (b ≡ true) × (c ≡ true)
both_hold true c h = (refl, h)
both_hold false c h = absurd (cc)

le_test : (m n : ℕ) → m ≤ n → nat_le m n ≡ true
le_test m n h = grind (arith, nat_tests)

le_of_test : (m n : ℕ) → nat_le m n ≡ true → m ≤ n
le_of_test m n h = grind (arith, nat_tests)

byte_test : (b : ℕ) → b < 256 → is_byte b ≡ true
byte_test b h = grind (arith, nat_tests)

byte_of_test : (b : ℕ) → is_byte b ≡ true → b < 256
byte_of_test b h = grind (arith, nat_tests)

-- the test of bytes is passed by bytes alone
pub bytes_of_test : (bs : List ℕ) → list_all is_byte bs ≡ true → Bytes bs
bytes_of_test [] h i = omega arith
bytes_of_test (b ∷ bs) h zero = byte_of_test b (both_hold (is_byte b) (list_all is_byte bs) h).0
bytes_of_test (b ∷ bs) h (suc i) = bytes_of_test bs (both_hold (is_byte b) (list_all is_byte bs) h).1 i

pub bytes_tested : (bs : List ℕ) → Bytes bs → list_all is_byte bs ≡ true
bytes_tested [] h = refl
bytes_tested (b ∷ bs) h = ap (λ t. t && list_all is_byte bs) (byte_test b (h 0)) ∙ bytes_tested bs (λ i. h (suc i))

-- ---- what is printed of a state prints back
printed_tests : {State Op Query Reply : Type 0} (w : Wording State Op Query Reply) (s : State) → StateReads w s
    → Bytes (state_text w s) → prints_back w (state_text w s) ≡ true
printed_tests {State} w s reads bytes =
    let text : List ℕ = state_text w s in
    ap (λ (o : Option State). is_state_text w o text && (nat_le (length text) longest_state && list_all is_byte text)) reads
    ∙ (ap (λ (t : Bool). t && (nat_le (length text) longest_state && list_all is_byte text)) ((bytes_eq-Decides text text).1 refl)
    ∙ (ap (λ (t : Bool). t && list_all is_byte text) (le_test (length text) longest_state (w.state_is_short s reads))
    ∙ bytes_tested text bytes))

pub state_prints_back : {State Op Query Reply : Type 0} (w : Wording State Op Query Reply) (s : State) (text : List ℕ) → text ≡ state_text w s → StateReads w s
    → ((i : ℕ) → slice_index text i < 256) → prints_back w text ≡ true
state_prints_back w s text is reads bytes = subst (λ (t : List ℕ). prints_back w t ≡ true) (sym is) (printed_tests w s reads (subst Bytes is bytes))

-- ---- what prints back
-- The text says this state, and is what is printed of it, as short as that is and of bytes.
pub record PrintsState {State Op Query Reply : Type 0} (w : Wording State Op Query Reply) (text : List ℕ) : Type 0 where
  pub state : State
  pub says : w.state_of text ≡ Some state
  pub printed : text ≡ state_text w state
  pub reads : StateReads w state
  pub short : length text ≤ longest_state
  pub bytes : Bytes text

state_found : {State Op Query Reply : Type 0} (w : Wording State Op Query Reply) (text : List ℕ) (o : Option State)
    → w.state_of text ≡ o → is_state_text w o text ≡ true → length text ≤ longest_state → Bytes text → PrintsState w text
state_found w text None said is short bytes = absurd (cc)
state_found w text (Some s) said is short bytes =
    let same : state_text w s ≡ text = (bytes_eq-Decides (state_text w s) text).0 is in
    record { state = s; says = said; printed = sym same; reads = ap w.state_of same ∙ said; short = short; bytes = bytes }

pub prints_state : {State Op Query Reply : Type 0} (w : Wording State Op Query Reply) (text : List ℕ) → prints_back w text ≡ true → PrintsState w text
prints_state w text h =
    let parts = both_hold (is_state_text w (w.state_of text) text) (nat_le (length text) longest_state && list_all is_byte text) h in
    let rest = both_hold (nat_le (length text) longest_state) (list_all is_byte text) parts.1 in
    state_found w text (w.state_of text) refl parts.0 (le_of_test (length text) longest_state rest.0) (bytes_of_test text rest.1)
