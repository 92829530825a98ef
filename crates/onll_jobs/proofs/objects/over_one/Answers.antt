use Rattle.std.proofs.Common.{string_bytes}
use Rattle.std.proofs.lemmas.List.{length-map}
use Rattle.onll_jobs.proofs.objects.over_one.Goals as goal

pub returns-in-Fold : goal.returns-in-Fold
returns-in-Fold g c = record { by = λ threads stands. rw c.in-Fold.is c.fold_object.ensures }

pub returns-in-Recover : goal.returns-in-Recover
returns-in-Recover g c = record { by = λ threads stands. rw c.in-Recover.is c.recover_on.ensures }

pub returns-in-Replay : goal.returns-in-Replay
returns-in-Replay g c =
    record { by = λ threads stands. rw (c.in-Replay.is, length-map c.in-Replay.scripts.now string_bytes) c.replay_on.ensures }

pub returns-in-Again : goal.returns-in-Again
returns-in-Again g c =
    record { by = λ threads stands. rw (c.in-Again.is, length-map c.in-Again.scripts.now string_bytes) c.again_on.ensures }

pub returns-in-Resume : goal.returns-in-Resume
returns-in-Resume g c =
    record { by = λ threads stands. rw (c.in-Resume.is, length-map c.in-Resume.scripts.now string_bytes) (c.resume_on.ensures threads stands) }

pub returns-in-Run : goal.returns-in-Run
returns-in-Run g c =
    record { by = λ threads stands. rw (c.in-Run.is, length-map c.in-Run.scripts.now string_bytes) (c.run_on.ensures threads stands) }

pub returns-in-Detect : goal.returns-in-Detect
returns-in-Detect g c = record { by = λ threads stands. rw c.in-Detect.is c.detect_on.ensures }

pub returns-in-Follow : goal.returns-in-Follow
returns-in-Follow g c = record { by = λ threads stands. rw c.in-Follow.is c.follow_on.ensures }

pub returns-in-Audit : goal.returns-in-Audit
returns-in-Audit g c = record { by = λ threads stands. rw c.in-Audit.is c.audit_on.ensures }
