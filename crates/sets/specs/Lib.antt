-- What `sets` means by a set of roles.
pub mod Sets
