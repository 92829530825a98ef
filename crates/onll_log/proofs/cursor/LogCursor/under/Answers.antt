use Rattle.std.proofs.Common.{drop, Some, refl, arith}
use Rattle.std.proofs.lemmas.List.{length-map}
use Rattle.onll_words.specs.declared.line.Line.{Line}
use Rattle.onll_pmem.specs.Pmem.{words_of}
use Rattle.onll_log.specs.Grammar.{Content, entries_from}
use Rattle.onll_log.proofs.Surveys.{few_known}
use Rattle.onll_log.proofs.cursor.LogCursor.under.Goals as goal

pub entry_at-next-requires-clause-known : goal.entry_at-next-requires-clause-known
entry_at-next-requires-clause-known c =
    let entries = entries_from c.args.head 0 0 (drop 1 (words_of c.args.lines.now)) in
    let content : Content = record { head = Some c.args.head; entries = entries } in
    let known = few_known c.args.survey content (c.requires.survey content c.requires.content) in
    λ low. omega (arith, low, c.entries_known-known.ensures, known)

pub invariant_of-result : goal.invariant_of-result
invariant_of-result c =
    let content : Content = record { head = Some c.args.head; entries = entries_from c.args.head 0 0 (drop 1 (words_of c.args.lines.now)) } in
    record {
      stands = record {
        threads = omega (arith, c.requires.head.threads);
        few = omega arith;
        within = omega (arith, c.requires.some, length-map c.args.lines.now (λ (l : Line). l.w));
        gone = refl;
        left = refl;
        looked = c.entry_at-next.ensures;
      };
      accepted = omega (arith, c.entries_known-known.ensures, few_known c.args.survey content (c.requires.survey content c.requires.content));
      surveyed = c.requires.survey content c.requires.content;
    }
