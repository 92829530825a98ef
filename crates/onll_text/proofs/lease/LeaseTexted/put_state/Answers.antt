use Rattle.std.proofs.Common.{◌∷◌, [], codes, decimal, refl, subst}
use Rattle.onll_words.proofs.Decimals.{IsWord-decimal}
use Rattle.onll_text.specs.LeaseText.{held_lines}
use Rattle.onll_text.specs.Bytes.{with_lines, IsFront}
use Rattle.onll_text.proofs.Keeping.{first_line_front, first_end_front}
use Rattle.onll_text.proofs.lease.LeaseTexted.put_state.Goals as goal

pub returns-in_err-words-clause-within : goal.returns-in_err-words-clause-within
returns-in_err-words-clause-within c =
    subst (λ n. IsFront c.words.new.self (with_lines c.args.out.now ((codes "lease" ∷ decimal n ∷ []) ∷ held_lines 0 c.args.self.now))) c.capacity.ensures
    (first_line_front _ _ (codes "lease") (decimal c.capacity.result ∷ []) (held_lines 0 c.args.self.now) c.requires (record { some = refl; bytes = refl }, (IsWord-decimal c.capacity.result, tt)) c.words.ensures.within)

pub returns-in_err-end_line-clause-within : goal.returns-in_err-end_line-clause-within
returns-in_err-end_line-clause-within c =
    subst (λ n. IsFront c.end_line.new.self (with_lines c.args.out.now ((codes "lease" ∷ decimal n ∷ []) ∷ held_lines 0 c.args.self.now))) c.capacity.ensures
    (first_end_front _ _ _ (codes "lease") (decimal c.capacity.result ∷ []) (held_lines 0 c.args.self.now) c.in_ok-words.ensures.ok c.requires (record { some = refl; bytes = refl }, (IsWord-decimal c.capacity.result, tt)) c.end_line.ensures.within)
