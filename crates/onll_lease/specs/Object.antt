-- A lease table as an object.

use Rattle.std.proofs.Common.{◌≡◌, List, length, length-set}
use Rattle.onll_model.specs.Object.{Behaviour}
use Rattle.onll_lease.specs.declared.entry.LeaseEntry.{LeaseEntry}
use Rattle.onll_lease.specs.declared.operation.LeaseOp.{LeaseOp}
use Rattle.onll_lease.specs.declared.operation.LeaseQuery.{LeaseQuery}
use Rattle.onll_lease.specs.declared.operation.LeaseReply.{LeaseReply}
use Rattle.onll_lease.specs.Lease.{lease_next, lease_reply, lease_answer}
use Rattle.onll_lease.specs.Rows.{lease_row, lease_op_at, op_of_its_row, row_of_its_op, seven_words}

pub length-lease_next : (s : List LeaseEntry) (op : LeaseOp) → length (lease_next s op) ≡ length s
length-lease_next s op = length-set s _ _

-- what a table of leases does
abbrev pub lease : Behaviour (List LeaseEntry) LeaseOp LeaseQuery LeaseReply
lease = record {
  next = lease_next;
  reply = lease_reply;
  answer = lease_answer;
  row_of = lease_row;
  op_at = lease_op_at;
  capacity = length;
  capacity_stays = length-lease_next;
  op_of_its_row = op_of_its_row;
  row_of_its_op = row_of_its_op;
  seven_words = seven_words;
}
