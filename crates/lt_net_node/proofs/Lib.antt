pub mod Below
pub mod InboxesRead
pub mod PortLoops
pub mod ChannelOrder
pub mod Named
pub mod DrawnShape
pub mod LayoutShape
