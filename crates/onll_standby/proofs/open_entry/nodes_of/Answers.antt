use Rattle.std.proofs.Common.{◌≡◌, ℕ, [], List, length, map, take, subst, sym, ap, ◌∙◌, arith}
use Rattle.std.specs.List.{All}
use Rattle.std.proofs.lemmas.List.{take_all, length-set}
use Rattle.onll_words.specs.declared.line.Line.{Line}
use Rattle.onll_model.specs.declared.node.Node.{Node}
use Rattle.onll_pmem.specs.Pmem.{words_of}
use Rattle.onll_log.specs.Grammar.{node_of_line}
use Rattle.onll_standby.specs.Places.{IsOfRun}
use Rattle.onll_standby.proofs.Named.{named_of_run, named_rest, set_more}
use Rattle.onll_standby.proofs.open_entry.nodes_of.Goals as goal

pub loop-i-preserved : goal.loop-i-preserved
loop-i-preserved c = let none : Line = record { w = [] } in let few = c.requires.few in let t = c.loop-i-test.true in record {
  many = length-set c.loop-i.nodes c.loop-i.i c.node_of.result ∙ c.loop-i.invariant.many;
  made = set_more c.loop-i.nodes c.args.lines.now c.loop-i.i c.node_of.result none (let m = c.loop-i.invariant.many in omega arith) c.loop-i-test.true c.loop-i.invariant.made c.node_of.ensures;
  named = named_rest c.args.lines.now c.loop-i.i none c.loop-i-test.true c.loop-i.invariant.named;
}

pub returns-clause-of_run : goal.returns-clause-of_run
returns-clause-of_run c =
    let ls : List Line = c.args.lines.now in
    let ns : List Node = c.loop-i.nodes in
    let a = c.loop-i.auto.i-end in let b = c.loop-i-test.false in
    let e : c.loop-i.i ≡ length ls = omega arith in
    let made : take (length ls) ns ≡ map node_of_line (words_of ls) =
    subst (λ (n : ℕ). take n ns ≡ map node_of_line (words_of (take n ls))) e c.loop-i.invariant.made ∙ ap (λ (z : List Line). map node_of_line (words_of z)) (take_all (length ls) ls (omega arith)) in
    subst (All IsOfRun) (sym made) (named_of_run (words_of ls) c.requires.named)
