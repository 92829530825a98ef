use Rattle.std.proofs.Common.{rules, ap, sym, ◌∙◌, ◌%◌, get_or, ◌≡◌, length, arith}
use Rattle.onll_words.proofs.WordBytes.{get_or-high_bytes}
use Rattle.onll_words.proofs.short.byte_at.Goals as goal

pub returns : goal.returns
returns c =
    let three : length c.args.words.now ≡ 3 = search rules in
    ap (λ bytes. get_or bytes (c.args.i % 8) 0) c.to_be_bytes.ensures
    ∙ sym (get_or-high_bytes c.args.words.now c.args.i (omega (arith, three, c.requires)))
