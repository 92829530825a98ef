pub mod LastPass
