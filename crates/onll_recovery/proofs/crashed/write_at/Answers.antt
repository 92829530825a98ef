use Rattle.onll_recovery.proofs.crashed.write_at.Goals as goal

pub returns-clause-written : goal.returns-clause-written
returns-clause-written g c = rw c.in_ok-image.ensures.image at c.write_image.ensures.written

pub returns-clause-stands : goal.returns-clause-stands
returns-clause-stands g c = rw c.in_ok-image.ensures.image at c.write_image.ensures.stands
