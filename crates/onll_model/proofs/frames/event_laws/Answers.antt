use Rattle.onll_model.proofs.frames.event_laws.Goals as goal
use Rattle.onll_model.proofs.EventLaw.{event_sound}
use Rattle.onll_model.proofs.StepLaw.{event_step}

pub returns-clause-sound : goal.returns-clause-sound
returns-clause-sound c = event_sound

pub returns-clause-step : goal.returns-clause-step
returns-clause-step c = event_step
