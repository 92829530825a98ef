use Rattle.std.proofs.Common.{List, map, sym, subst}
use Rattle.std.specs.declared.vec.Vec.{Vec}
use Rattle.std.specs.declared.alloc.Global.{Global}
use Rattle.std.proofs.lemmas.Result.{IfOk-weaker}
use Rattle.onll_audit.specs.declared.groups.CallLine.{CallLine}
use Rattle.onll_audit.specs.Values.{EachReadWith}
use Rattle.onll_audit.proofs.read.read_form.Goals as goal

pub returns-clause-read : goal.returns-clause-read
returns-clause-read g c =
    IfOk-weaker c.read_rest.result _ _
    (λ form same. subst (λ (calls : List (Vec CallLine Global)). EachReadWith g.O.Texted.wording (map (λ s. s.items) c.args.scripts.now) (map (λ (own : Vec CallLine Global). own.items) calls))
    (sym same) c.in_ok-groups.ensures.read) c.read_rest.ensures.calls
