-- Running says what a run is made of, and that it has one outcome. The rest is what the proofs of the functions stand on.
pub mod Running
