pub mod Computed
pub mod PagesComputed
pub mod DesksComputed
pub mod FollowsComputed
