pub mod Buckets
pub mod Glance
pub mod Key
pub mod Near
pub mod Order
pub mod Pools
