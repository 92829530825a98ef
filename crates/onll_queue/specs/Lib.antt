pub mod Items
pub mod Queue
pub mod Laws
pub mod Object
pub mod Order
