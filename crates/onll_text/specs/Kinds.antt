-- A kind of object as one value, and what is said of an object of any kind.

use Rattle.std.specs.Prelude.{ℕ, List}
use Rattle.onll_model.specs.Object.{Behaviour}
use Rattle.onll_text.specs.declared.any_object.Kind.{Kind}
use Rattle.onll_text.specs.declared.any_object.AnyObject.{AnyObject}
use Rattle.onll_text.specs.Wording.{Wording}
use Rattle.onll_text.specs.Init.{object_name, on_kind}
use Rattle.onll_text.specs.CallKind.{calls_of}

-- A kind of object: the types of its states, operations, queries and replies, what it does, how it is written, its code in the
-- head of a log, and its name.
pub record ObjectKind : Type 1 where
  pub State : Type 0
  pub Op : Type 0
  pub Query : Type 0
  pub Reply : Type 0
  pub means : Behaviour State Op Query Reply
  pub wording : Wording State Op Query Reply
  pub code : ℕ
  pub name : List ℕ

-- the kind of this meaning, this wording and this code, which gives the name
abbrev pub kind_by : {State Op Query Reply : Type 0} → Behaviour State Op Query Reply → Wording State Op Query Reply → ℕ → ObjectKind
kind_by {State} {Op} {Query} {Reply} means wording code = record {
  State = State;
  Op = Op;
  Query = Query;
  Reply = Reply;
  means = means;
  wording = wording;
  code = code;
  name = object_name code;
}

-- the kind of objects that is named so
abbrev pub kind_at : Kind → ObjectKind
kind_at kind = kind_by (calls_of kind).means (calls_of kind).wording (calls_of kind).code

-- the same by what the kind is
abbrev pub on_object {ℓ} : {A : Type ℓ} → ((k : ObjectKind) → k.State → A) → AnyObject → A
on_object say object = on_kind (λ kind s. say (kind_at kind) s) object
