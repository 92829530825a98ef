use Rattle.std.proofs.Common.{ℕ, List, [], ◌∷◌, ◌≡◌, ◌≤◌, Bool, true, false, nat_le, ◌&&◌, cond, Option, Some, None, length, refl, sym, subst}
use Rattle.std.proofs.lemmas.Bool.{leb-true}
use Rattle.onll_model.proofs.Lists.{same_some, some_not_none}
use Rattle.onll_log.proofs.Accepted.{both_true}
use Rattle.onll_eras.specs.Names.{EraNames}
use Rattle.onll_jobs.specs.Command.{Form, Replay, Again, Run, Checkpoint, Follow, Audit, named_form, form_of, is_within, within_limits}

-- The scripts of a replay, anew or going on.

-- a form of words is within the limits
if_within : (q : Bool) (found form : Form) → is_within found ≡ q → cond q (Some found) None ≡ Some form → is_within form ≡ true
if_within true found form is e = subst (λ f. is_within f ≡ true) (same_some found form e) is
if_within false found form is e = some_not_none form (sym e)

within : (found : Option Form) (form : Form) → within_limits found ≡ Some form → is_within form ≡ true
within None form e = some_not_none form (sym e)
within (Some found) form e = if_within (is_within found) found form refl e

pub form_within : (words : List (List ℕ)) (form : Form) → form_of words ≡ Some form → is_within form ≡ true
form_within [] form e = some_not_none form (sym e)
form_within (command ∷ names) form e = within (named_form command names) form e

-- a replay has 16 scripts at most
pub few-scripts : (words : List (List ℕ)) (init schedule logs : List ℕ) (scripts : List (List ℕ)) → form_of words ≡ Some (Replay init schedule logs scripts) → length scripts ≤ 16
few-scripts words init schedule logs scripts e =
    let both = both_true (nat_le 1 (length scripts)) (nat_le (length scripts) 16) (form_within words (Replay init schedule logs scripts) e) in
    leb-true (length scripts) 16 both.1

-- so has one that goes on
pub few-scripts-again : (words : List (List ℕ)) (init schedule logs : List ℕ) (scripts : List (List ℕ)) → form_of words ≡ Some (Again init schedule logs scripts) → length scripts ≤ 16
few-scripts-again words init schedule logs scripts e =
    let both = both_true (nat_le 1 (length scripts)) (nat_le (length scripts) 16) (form_within words (Again init schedule logs scripts) e) in
    leb-true (length scripts) 16 both.1

pub few-checkpointed : (words : List (List ℕ)) (names : EraNames) (threads : ℕ) → form_of words ≡ Some (Checkpoint names threads)
    → (1 ≤ threads) × (threads ≤ 16)
few-checkpointed words names threads e =
    let both = both_true (nat_le 1 threads) (nat_le threads 16) (form_within words (Checkpoint names threads) e) in
    (leb-true 1 threads both.0, leb-true threads 16 both.1)

-- so is a stream
pub few-followed : (words : List (List ℕ)) (init stream : List ℕ) (threads piece : ℕ) → form_of words ≡ Some (Follow init threads stream piece)
    → (1 ≤ threads) × (threads ≤ 16)
few-followed words init stream threads piece e =
    let pieces = nat_le 1 piece && nat_le piece 1048576 in
    let both = both_true (nat_le 1 threads) (nat_le threads 16 && pieces) (form_within words (Follow init threads stream piece) e) in
    (leb-true 1 threads both.0, leb-true threads 16 (both_true (nat_le threads 16) pieces both.1).0)

-- a run has 16 scripts at most, and so has an audit
pub few-run : (words : List (List ℕ)) (init logs : List ℕ) (scripts : List (List ℕ)) → form_of words ≡ Some (Run init logs scripts) → length scripts ≤ 16
few-run words init logs scripts e =
    let both = both_true (nat_le 1 (length scripts)) (nat_le (length scripts) 16) (form_within words (Run init logs scripts) e) in
    leb-true (length scripts) 16 both.1

pub few-audited : (words : List (List ℕ)) (init report : List ℕ) (scripts : List (List ℕ)) → form_of words ≡ Some (Audit init report scripts) → length scripts ≤ 16
few-audited words init report scripts e =
    let both = both_true (nat_le 1 (length scripts)) (nat_le (length scripts) 16) (form_within words (Audit init report scripts) e) in
    leb-true (length scripts) 16 both.1
