-- A checkpoint that is written is found.
use Rattle.std.proofs.Common.{ℕ, ◌≡◌, ◌≤◌, Bool, true, List, ◌∷◌, ◌++◌, length, refl, ap, ◌∙◌, arith, eq-eqb, length-append}
use Rattle.std.specs.Prelude.{◌&&◌, nat_le, if◌then◌else◌, Some, None}
use Rattle.std.proofs.lemmas.Bool.Decides.{nat_tests}
use Rattle.onll_checkpoint.specs.Checkpoint.{CheckpointState, FitsCheckpoint, longest_saved}
use Rattle.onll_checkpoint.specs.Text.{lines_of_text, text_lines, text_in}
use Rattle.onll_checkpoint.specs.Grammar.{first_words, guard_of, first_line, is_first_line, checkpoint_in}
use Rattle.onll_checkpoint.proofs.Texts.{length-text_lines, text_in-text_lines}

le_test : (a b : ℕ) → a ≤ b → nat_le a b ≡ true
le_test a b l = grind (arith, nat_tests)

both : (a b : Bool) → a ≡ true → b ≡ true → a && b ≡ true
both a b p q = (λ i. p i && q i)

pub is_first_line-first_line : (c : CheckpointState) → FitsCheckpoint c → is_first_line (first_line c) ≡ true
is_first_line-first_line c f =
    both (nat_le 1 c.number) _ (le_test 1 c.number f.number)
    (both (nat_le (length c.text) longest_saved) _ (le_test (length c.text) longest_saved f.text)
    (eq-eqb (guard_of (first_words c.number c.place (length c.text))) (guard_of (first_words c.number c.place (length c.text))) refl))

-- whatever follows its lines
pub checkpoint_in-written : (c : CheckpointState) (rest : List (List ℕ)) → FitsCheckpoint c → checkpoint_in (first_line c ∷ (text_lines c.text ++ rest)) ≡ Some c
checkpoint_in-written c rest f =
    let there : nat_le (lines_of_text (length c.text)) (length (text_lines c.text ++ rest)) ≡ true =
    le_test (lines_of_text (length c.text)) (length (text_lines c.text ++ rest)) (omega (arith, length-append (text_lines c.text) rest, length-text_lines c.text)) in
    ap (λ (b : Bool). if b then Some (record { number = c.number; place = c.place; text = text_in (length c.text) (text_lines c.text ++ rest) }) else None)
    (both (is_first_line (first_line c)) (nat_le (lines_of_text (length c.text)) (length (text_lines c.text ++ rest))) (is_first_line-first_line c f) there)
    ∙ ap (λ (text : List ℕ). Some (record { number = c.number; place = c.place; text = text })) (text_in-text_lines c.text rest f.bytes)
