-- Each contract determines its result, and both round trips hold of the results of the calls. Read in this order.
pub mod ACase
pub mod Determined
pub mod Wrote
pub mod Accepts
pub mod ReadDone
pub mod Calls
pub mod ReadReturns
pub mod Instances
