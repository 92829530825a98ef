use Rattle.std.proofs.Common.{◌∙◌, ap, sym, List, map}
use Rattle.onll_model.specs.declared.node.Node.{Node}
use Rattle.onll_model.specs.Segment.{Segment}
use Rattle.onll_log.specs.Grammar.{node_of_line}
use Rattle.onll_log.specs.Head.{word}
use Rattle.onll_log.proofs.Decoding.{words_of-take}
use Rattle.onll_log.proofs.image.entry_of.Goals as goal

pub returns-clause-entry : goal.returns-clause-entry
returns-clause-entry c = let nodes = c.of_vec.ensures ∙ c.in_ok-nodes_of.ensures ∙ sym (ap (map node_of_line) (words_of-take (word c.args.line.now.w 4) c.args.rest.now)) in
    let segment : List Node → Segment = λ nodes. record { place = word c.args.line.now.w 3; nodes = nodes } in ap segment nodes
