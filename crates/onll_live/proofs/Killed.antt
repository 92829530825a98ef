-- An object stands in the era in which its works were killed.
use Rattle.std.proofs.Common.{◌∙◌}
use Rattle.onll_model.specs.Object.{Behaviour}
use Rattle.onll_pmem.specs.Pmem.{DeviceView}
use Rattle.onll_serve.specs.Moments.{KilledLaw}
use Rattle.onll_live.specs.Eras.{era_heads, era_logs}
use Rattle.onll_live.specs.Killed.{EraKilledLaw}
use Rattle.onll_live.proofs.Serves.{served_era}
use Rattle.std.specs.Prelude.{None}

pub era_killed : {State Op Query Reply Device : Type 0} (b : Behaviour State Op Query Reply) (means : Device → DeviceView)
    → KilledLaw b means → EraKilledLaw b means
era_killed b means law code description read_of first name threads before after era on k = (
  served_era read_of first name era threads before after k.others k.in_era,
  law before after (era_logs name era.number) (era_heads code description threads era.state) era.state threads None k.onll k.firsts k.opened
      k.frame k.nows k.scripts k.ends k.images k.moment k.come k.left (k.others.tells ∙ on) k.hold,
)
