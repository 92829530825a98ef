use Rattle.onll_core.proofs.Images.{image_holds, image_rest}
use Rattle.onll_core.proofs.Crashed.{picked_images}
use Rattle.onll_core.proofs.crash_laws.image_law.Goals as goal

pub returns-clause-holds : goal.returns-clause-holds
returns-clause-holds g c = image_holds

pub returns-clause-rest : goal.returns-clause-rest
returns-clause-rest g c = λ count s k t th at image ss i h. image_rest count s k t th at image ss i h

pub returns-clause-picked : goal.returns-clause-picked
returns-clause-picked g c = picked_images
