use Rattle.std.proofs.Common.{ℕ, List, ◌≡◌, ◌<◌, slice_index_or, slice_set, length, length-set, arith, sym, subst}
use Rattle.std.proofs.lemmas.List.Elements.{All-get_or, All-set}
use Rattle.onll_lease.specs.declared.entry.LeaseEntry.{LeaseEntry}
use Rattle.onll_lease.specs.declared.operation.LeaseOp.{LeaseOp}
use Rattle.onll_lease.specs.Entry.{IsEntry, OfNumbers}
use Rattle.onll_lease.specs.Lease.{IsLease, entry_next}
use Rattle.onll_lease.proofs.Entries.{IsEntry-next}

-- a table stays one where one entry is changed for another
lease_set : (s : List LeaseEntry) (r : ℕ) (e : LeaseEntry) → IsLease s → IsEntry e → OfNumbers e → IsLease (slice_set s r e)
lease_set s r e h valid numbers = record {
  valid = All-set IsEntry s r e valid h.valid;
  numbers = All-set OfNumbers s r e numbers h.numbers;
  least = omega (arith, length-set s r e, h.least);
  greatest = omega (arith, length-set s r e, h.greatest);
}

-- and where an operation changes it
pub lease_applied : (s : List LeaseEntry) (r : ℕ) (was e : LeaseEntry) (op : LeaseOp) → IsLease s → r < length s → was ≡ slice_index_or s r was → e ≡ entry_next was op → (OfNumbers was → OfNumbers e)
    → IsLease (slice_set s r e)
lease_applied s r was e op h in_range there next numbers =
    let valid : IsEntry was = subst IsEntry (sym there) (All-get_or IsEntry s r was in_range h.valid) in
    let before : OfNumbers was = subst OfNumbers (sym there) (All-get_or OfNumbers s r was in_range h.numbers) in
    lease_set s r e h (subst IsEntry (sym next) (IsEntry-next was op valid)) (numbers before)
