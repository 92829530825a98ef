use Rattle.std.proofs.Common.{◌≡◌, ◌+◌, ◌*◌, ◌≤◌, [], ◌∷◌, length, map, ◌∙◌, sym, ap, refl, subst, arith}
use Rattle.onll_model.specs.Calls.{updates_in}
use Rattle.onll_locked.specs.Locked.{first_state}
use Rattle.onll_locked.specs.DoNext.{IsThreadLog}
use Rattle.onll_locked.proofs.Firsts.{first_log}
use Rattle.tests_scripts.proofs.one_script.begun.Goals as goal

pub invariant_of-result : goal.invariant_of-result
invariant_of-result c =
    let z = c.in_ok-zero.zero.items in
    let o = c.in_ok-one.one.items in
    let object = c.in_ok-make.field-0 in
    let zero = c.in_ok-log_of.field-0 in
    let one = c.in_ok-log_of-2.field-0 in
    let locked : c.in_ok-locked.locked ≡ first_state object (z ∷ o ∷ []) = c.in_ok-locked.ensures ∙ ap (λ scripts. first_state object (map (λ script. script.items) scripts)) c.in_ok-scripts.ensures.items in
    let zero_few = c.in_ok-zero.ensures.few in
    let one_few = c.in_ok-one.ensures.few in
    let zero_lines = c.in_ok-log_of.ensures.lines in
    let one_lines = c.in_ok-log_of-2.ensures.lines in
    let zero_room : 1 + 3 * updates_in z ≤ length zero.device.device.read = omega arith in
    let one_room : 1 + 3 * updates_in o ≤ length one.device.device.read = omega arith in
    record {
      zero_is_log = subst (λ s. IsThreadLog s 0 zero (length zero.device.device.read)) (sym locked)
          (first_log object (z ∷ o ∷ []) z 0 zero (length zero.device.device.read) refl c.in_ok-log_of.ensures.thread c.in_ok-log_of.ensures.threads c.in_ok-log_of.ensures.entries c.in_ok-log_of.ensures.whole zero_room);
      one_is_log = subst (λ s. IsThreadLog s 1 one (length one.device.device.read)) (sym locked)
          (first_log object (z ∷ o ∷ []) o 1 one (length one.device.device.read) refl c.in_ok-log_of-2.ensures.thread c.in_ok-log_of-2.ensures.threads c.in_ok-log_of-2.ensures.entries c.in_ok-log_of-2.ensures.whole one_room);
    }
