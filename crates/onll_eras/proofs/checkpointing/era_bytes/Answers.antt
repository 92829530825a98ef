use Rattle.std.proofs.Common.{rules, ◌≡◌, ◌≤◌, length, refl, subst, sym}
use Rattle.onll_words.proofs.Decimals.{IsWord-decimal}
use Rattle.onll_text.specs.EraText.{era_text}
use Rattle.onll_text.proofs.EraTexts.{era_text-short}
use Rattle.onll_text.proofs.PrintedStates.{prints_state}
use Rattle.onll_eras.proofs.checkpointing.era_bytes.Goals as goal

pub line-requires-clause-words : goal.line-requires-clause-words
line-requires-clause-words g c =
    (record { some = refl; bytes = refl }, (record { some = refl; bytes = refl }, (IsWord-decimal c.args.number, (IsWord-decimal c.args.place, tt))))

pub returns-clause-short : goal.returns-clause-short
returns-clause-short g c =
    let w = g.O.Texted.wording in
    let lines = w.state_lines c.args.object.now in
    let printed = prints_state w c.in_ok-state.state.items c.in_ok-state.ensures.back in
    let short = rw c.in_ok-state.ensures.text at printed.short in
    let same : c.extend_from_slice.new.self.items ≡ era_text c.args.number c.args.place lines = search rules in
    subst (λ text. length text ≤ 1048576) (sym same) (era_text-short c.args.number c.args.place lines c.ranges.number.fits c.ranges.place.fits short)
