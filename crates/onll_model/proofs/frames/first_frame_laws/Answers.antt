use Rattle.onll_model.proofs.frames.first_frame_laws.Goals as goal
use Rattle.onll_model.proofs.FirstFrames.{resumed_sound, created_sound}

pub returns-clause-resumed : goal.returns-clause-resumed
returns-clause-resumed c = resumed_sound

pub returns-clause-created : goal.returns-clause-created
returns-clause-created c = created_sound
