-- The calls of each kind of object, over its states.

use Rattle.std.specs.Prelude.{ℕ, ◌≡◌, ◌≤◌, List, length, refl, Some, Ok}
use Rattle.std.proofs.Common.{arith}
use Rattle.onll_model.specs.Object.{Behaviour}
use Rattle.onll_bank.specs.declared.operation.BankOp.{BankOp}
use Rattle.onll_bank.specs.declared.operation.BankQuery.{BankQuery}
use Rattle.onll_bank.specs.declared.operation.BankReply.{BankReply}
use Rattle.onll_bank.specs.Object.{bank}
use Rattle.onll_map.specs.declared.operation.MapOp.{MapOp}
use Rattle.onll_map.specs.declared.operation.MapQuery.{MapQuery}
use Rattle.onll_map.specs.declared.operation.MapReply.{MapReply}
use Rattle.onll_map.specs.Object.{map_object}
use Rattle.onll_queue.specs.declared.operation.QueueOp.{QueueOp}
use Rattle.onll_queue.specs.declared.operation.QueueQuery.{QueueQuery}
use Rattle.onll_queue.specs.declared.operation.QueueReply.{QueueReply}
use Rattle.onll_queue.specs.Object.{queue}
use Rattle.onll_lease.specs.declared.operation.LeaseOp.{LeaseOp}
use Rattle.onll_lease.specs.declared.operation.LeaseQuery.{LeaseQuery}
use Rattle.onll_lease.specs.declared.operation.LeaseReply.{LeaseReply}
use Rattle.onll_lease.specs.Object.{lease}
use Rattle.onll_text.specs.declared.any_object.Kind.{Kind}
use Rattle.onll_text.specs.declared.any_object.Kind.TheVariants as kinds
use Rattle.onll_text.specs.Wording.{Wording}
use Rattle.onll_text.specs.BankLaws.{bank_wording_by}
use Rattle.onll_text.specs.MapLaws.{map_wording_by}
use Rattle.onll_text.specs.QueueLaws.{queue_wording_by}
use Rattle.onll_text.specs.LeaseLaws.{lease_wording_by}
use Rattle.onll_text.specs.Init.{named_kinds, kind_of, object_name, states_of, object_at, init_of, state_said}
use Rattle.onll_text.specs.InitLaws.{said_object, said_is_valid}

-- The types of its operations, queries and replies, what they do, how they and its states are written, and its code, which is its
-- place in the list of kinds. A text that says a state is the initial state of the object with that state.
pub record CallKind (kind : Kind) : Type 1 where
  pub Op : Type 0
  pub Query : Type 0
  pub Reply : Type 0
  pub means : Behaviour (states_of kind).State Op Query Reply
  pub wording : Wording (states_of kind).State Op Query Reply
  pub code : ℕ
  pub known : (1 ≤ code) × (code ≤ length named_kinds)
  pub named : kind_of (object_name code) ≡ Ok kind
  pub says : (text : List ℕ) (s : (states_of kind).State) → wording.state_of text ≡ Some s → init_of text ≡ Ok (object_at kind s)

-- the calls of the kind that is named so
abbrev pub calls_of : (kind : Kind) → CallKind kind
calls_of kinds.Bank = record {
  Op = BankOp;
  Query = BankQuery;
  Reply = BankReply;
  means = bank;
  wording = bank_wording_by (state_said kinds.Bank) (said_is_valid kinds.Bank);
  code = 1;
  known = (omega arith, omega arith);
  named = refl;
  says = said_object kinds.Bank;
}
calls_of kinds.Map = record {
  Op = MapOp;
  Query = MapQuery;
  Reply = MapReply;
  means = map_object;
  wording = map_wording_by (state_said kinds.Map) (said_is_valid kinds.Map);
  code = 2;
  known = (omega arith, omega arith);
  named = refl;
  says = said_object kinds.Map;
}
calls_of kinds.Queue = record {
  Op = QueueOp;
  Query = QueueQuery;
  Reply = QueueReply;
  means = queue;
  wording = queue_wording_by (state_said kinds.Queue) (said_is_valid kinds.Queue);
  code = 3;
  known = (omega arith, omega arith);
  named = refl;
  says = said_object kinds.Queue;
}
calls_of kinds.Lease = record {
  Op = LeaseOp;
  Query = LeaseQuery;
  Reply = LeaseReply;
  means = lease;
  wording = lease_wording_by (state_said kinds.Lease) (said_is_valid kinds.Lease);
  code = 4;
  known = (omega arith, omega arith);
  named = refl;
  says = said_object kinds.Lease;
}
