pub mod Letters
pub mod Links
pub mod Nodes
pub mod Sends
pub mod LossyAudit
pub mod LossyActs
