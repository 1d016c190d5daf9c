-- What the functions of this crate compute; `proofs/Turned.antt`, `proofs/Leads.antt` and `proofs/Waits.antt` prove that it is what the rules and the
-- state's definitions say.
pub mod Checks
pub mod Leads
pub mod Turns
