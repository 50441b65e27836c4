-- The laws of sets, by their members; the list of the members, and chains over it.
pub mod Members
pub mod Rising
pub mod Chains
